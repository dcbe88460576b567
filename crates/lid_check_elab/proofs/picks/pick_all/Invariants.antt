use Rattle.std.proofs.Common.{◌≡◌, ◌++◌, drop, map}
use Rattle.std.specs.Prelude.{slice_index_or}
use Rattle.lid_check_elab.proofs.picks.pick_all.Given as goal

abbrev pub invariant-loop-number : goal.invariant-loop-number
invariant-loop-number l = l.picks.items ++ map (λ n. slice_index_or l.places n 0) (drop l.number-index l.numbers) ≡ map (λ n. slice_index_or l.places n 0) l.numbers
