-- What stations hold, as truth values.
use Rattle.std.proofs.Common.{◌≡◌, ℕ, suc, ◌+◌, ◌<◌, ◌≤◌, ◌⊎◌, inl, inr, Bool, true, false, not, refl, sym, ◌∙◌, ap, arith}
use Rattle.std.specs.Prelude.{nat_lt, if◌then◌else◌}
use Rattle.std.proofs.lemmas.Bool.{cases_lt, ltb-true, ltb-false, lt-ltb, le-ltb}
use Rattle.lid_emit_circuit.specs.Gates.{count_value}
use Rattle.lid_emit_circuit.specs.Carried.{holds}

pub holds_is : (put taken i : ℕ) → taken + i ≤ put → holds put taken i ≡ true
holds_is put taken i h = ap not (le-ltb put (taken + i) h)

pub holds_not : (put taken i : ℕ) → put < taken + i → holds put taken i ≡ false
holds_not put taken i h = ap not (lt-ltb put (taken + i) h)

pub is_held : (put taken i : ℕ) → holds put taken i ≡ true → taken + i ≤ put
is_held put taken i h = by (nat_lt put (taken + i)) refl h
  where
    by : (b : Bool) → nat_lt put (taken + i) ≡ b → not b ≡ true → taken + i ≤ put
    by true is n = cc
    by false is n = ltb-false put (taken + i) is

pub not_held : (put taken i : ℕ) → holds put taken i ≡ false → put < taken + i
not_held put taken i h = by (nat_lt put (taken + i)) refl h
  where
    by : (b : Bool) → nat_lt put (taken + i) ≡ b → not b ≡ false → put < taken + i
    by true is n = ltb-true put (taken + i) is
    by false is n = cc

-- the difference alone counts
pub same_held : (put taken i put' taken' i' : ℕ) → put + (taken' + i') ≡ put' + (taken + i) → holds put taken i ≡ holds put' taken' i'
same_held put taken i put' taken' i' same = by (cases_lt put (taken + i))
  where
    by : (put < taken + i) ⊎ (taken + i ≤ put) → holds put taken i ≡ holds put' taken' i'
    by (inl less) = holds_not put taken i less ∙ sym (holds_not put' taken' i' (omega arith))
    by (inr most) = holds_is put taken i most ∙ sym (holds_is put' taken' i' (omega arith))

-- what a count is worth once it has risen or not
abbrev pub risen : Bool → ℕ → ℕ
risen b n = if b then n + 1 else n

pub counted : (put taken i : ℕ) (drained filled : Bool) → count_value drained filled (holds put taken i) (holds put taken (suc i)) (holds put taken (suc (suc i))) ≡ holds (risen filled put) (risen drained taken) (suc i)
counted put taken i true true = same_held put taken (suc i) (put + 1) (taken + 1) (suc i) (omega arith)
counted put taken i true false = same_held put taken (suc (suc i)) put (taken + 1) (suc i) (omega arith)
counted put taken i false true = same_held put taken i (put + 1) taken (suc i) (omega arith)
counted put taken i false false = same_held put taken (suc i) put taken (suc i) (omega arith)
