-- Ranks never fall along reads, so a number whose readers have greater ranks lies on no closed walk.
use Rattle.std.proofs.Common.{◌≡◌, ℕ, zero, suc, ◌<◌, Bool, true, false, List, length, get_or, replicate, refl, sym, ◌∙◌, ap, subst, arith}
use Rattle.lid_base.specs.Lists.{Among}
use Rattle.lid_check_digraph.specs.Graphs.{reads_at, EdgesLead, flag}
use Rattle.lid_check_digraph.specs.PartialOrders.{MarksLoops, IsUphill}
use Rattle.lid_check_digraph.proofs.Orders.{reader_within, loop_within}

module _ (g : List (List ℕ)) (marks : List Bool) (ranks : List ℕ) (up : (c : ℕ) → c < length g → IsUphill g marks ranks c) where
  pub climb : (n a c : ℕ) → flag marks a ≡ false → EdgesLead g (suc n) a c → get_or ranks a 0 < get_or ranks c 0
  climb zero a c off w = (up c (reader_within g c w.0 w.2) a (subst (λ (x : ℕ). Among x (reads_at g c)) (sym w.1) w.2)).1 off
  climb (suc n) a c off w =
      let below = climb n a w.0 off w.1 in
      let step = (up c (reader_within g c w.0 w.2) w.0 w.2).0 in
      omega arith

  pub uphill_holds : MarksLoops g marks
  uphill_holds k on = by_flag (flag marks k) refl
    where
      by_flag : (b : Bool) → b ≡ flag marks k → flag marks k ≡ true
      by_flag true e = sym e
      by_flag false e = absurd (let above = climb on.0 k k (sym e) on.1 in omega arith)

all_true : (n k : ℕ) → k < n → flag (replicate n true) k ≡ true
all_true zero k h = absurd (omega arith)
all_true (suc n) zero h = refl
all_true (suc n) (suc k) h = all_true n k (omega arith)

-- where all numbers are marked
pub all_hold : (g : List (List ℕ)) (marks : List Bool) → marks ≡ replicate (length g) true → MarksLoops g marks
all_hold g marks e k on = ap (λ (flags : List Bool). flag flags k) e ∙ all_true (length g) k (loop_within g k on)
