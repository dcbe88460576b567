use Rattle.std.proofs.Common.{◌≡◌, ℕ, [], ◌<◌, length, take, map}
use Rattle.std.specs.List.{AllByRecursion}
use Rattle.lid_design.specs.Columns.{column}
use Rattle.lid_check_elab.specs.Elaborations.{column_at}
use Rattle.lid_check.proofs.network.number_outputs.Given as goal

abbrev pub invariant-loop-name : goal.invariant-loop-name
invariant-loop-name l =
    AllByRecursion (λ (k : ℕ). k < length l.columns.drivers) l.numbers.items
    × (map (column_at l.judged) l.numbers.items ≡ map (column []) (take l.name-index l.outputs))
