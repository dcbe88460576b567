-- A walk that has not begun.
use Rattle.std.proofs.Common.{◌≡◌, ℕ, List, sym, ◌∙◌, subst}
use Rattle.lid_station.specs.declared.pair.Pair.{Pair}
use Rattle.lid_station.specs.Starts.{AreStarts, Begin}
use Rattle.lid_station.specs.Plain.{PlainStands}
use Rattle.lid_walk_machine.specs.Plans.{stream}
use Rattle.lid_walk_machine.specs.Setups.{plan}
use Rattle.lid_shell_laws.specs.Setups.{Setup, IsSetup}
use Rattle.lid_walk_machine.specs.Machine.{begun}
use Rattle.std.specs.Prelude.{Option}
use Rattle.lid_walk.specs.Firsts.{first_tokens}
use Rattle.lid_walk.proofs.Opening.{firsts_many, begins, all_agree}
use Rattle.lid_walk.specs.Walks.{IsBoard}

-- a board that starts with the start tokens of a setup
pub started : (m : Setup) (firsts : List (Option ℕ)) (caps : List ℕ) (pairs : List Pair) → IsSetup m → firsts ≡ first_tokens (plan m) → caps ≡ m.placement.caps → AreStarts firsts caps pairs
    → ((streams : ℕ → List ℕ) → Begin firsts streams → PlainStands pairs streams) → IsBoard m begun pairs
started m firsts caps pairs setup are same starts stands =
    let own : AreStarts (first_tokens (plan m)) caps pairs = subst (λ (xs : List (Option ℕ)). AreStarts xs caps pairs) are starts in
    record {
      many = own.many ∙ firsts_many m;
      agrees = λ v there. all_agree m setup caps pairs same own v;
      streams = stands (stream (plan m)) (subst (λ (xs : List (Option ℕ)). Begin xs (stream (plan m))) (sym are) (begins m setup));
    }
