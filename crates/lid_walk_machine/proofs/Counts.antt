-- How many tokens an actor has taken or put at a place, by its position.
use Rattle.std.proofs.Common.{◌≡◌, ℕ, ◌+◌, ◌<◌, ◌≤◌, inl, inr, Bool, cond, sym, ◌∙◌, ap, arith, lt-ltb, le-ltb}
use Rattle.std.specs.Prelude.{nat_lt, if◌then◌else◌}
use Rattle.std.proofs.lemmas.Bool.{cases_lt}

-- one more where a position is past another
abbrev pub counted : ℕ → ℕ → ℕ → ℕ
counted from fired position = fired + (if nat_lt from position then 1 else 0)

pub early : (from fired position : ℕ) → position ≤ from → counted from fired position ≡ fired
early from fired position h = let none : fired + 0 ≡ fired = omega arith in ap (λ (b : Bool). fired + cond b 1 0) (le-ltb from position h) ∙ none

pub late : (from fired position : ℕ) → from < position → counted from fired position ≡ fired + 1
late from fired position h = ap (λ (b : Bool). fired + cond b 1 0) (lt-ltb from position h)

-- two positions on the same side of it
pub alike : (from fired position next : ℕ) → (position ≤ from → next ≤ from) → (from < position → from < next) → counted from fired position ≡ counted from fired next
alike from fired position next low high =
    elim (cases_lt from position) [
      | inl h ↦ late from fired position h ∙ sym (late from fired next (high h))
      | inr h ↦ early from fired position h ∙ sym (early from fired next (low h))
    ]
