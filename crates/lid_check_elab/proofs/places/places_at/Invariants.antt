use Rattle.std.proofs.Common.{◌≡◌, ◌++◌, ℕ, List, drop, map}
use Rattle.lid_check_table.specs.Tables.{AreNumbersOf}
use Rattle.lid_check_elab.specs.Templates.{model_names, net_place}
use Rattle.lid_check_elab.proofs.places.places_at.Given as goal

abbrev pub invariant-loop-number : goal.invariant-loop-number
invariant-loop-number l =
    (names : List (List ℕ)) → AreNumbersOf (model_names l.judged l.model) names l.numbers → l.places.items ++ map (net_place l.judged l.model) (drop l.number-index names) ≡ map (net_place l.judged l.model) names
