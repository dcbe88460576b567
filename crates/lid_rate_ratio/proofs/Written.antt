-- A list in which one number stands anew.
use Rattle.std.proofs.Common.{◌≡◌, ℕ, ◌<◌, ◌≢◌, ◌⊎◌, inl, inr, List, length, get_or, set, Option, Some, None, sym, ◌∙◌, ap}
use Rattle.std.proofs.lemmas.Bool.{cases_eq}
use Rattle.std.proofs.lemmas.Option.{same_Some}
use Rattle.std.proofs.lemmas.List.{get_or-set_same, get_or-set_other, length-set}

-- what is read of a list after one place was written
pub record IsWritten {A : Type 0} (old new : List A) (i : ℕ) (x default : A) : Type 0 where
  pub here : get_or new i default ≡ x
  pub there : (v : ℕ) → v ≢ i → get_or new v default ≡ get_or old v default
  pub long : length new ≡ length old

pub is_written : {A : Type 0} (old new : List A) (i : ℕ) (x default : A) → new ≡ set old i x → i < length old → IsWritten old new i x default
is_written {A} old new i x default is within = record {
  here = ap (λ (l : List A). get_or l i default) is ∙ get_or-set_same old i x default within;
  there = λ v other. ap (λ (l : List A). get_or l v default) is ∙ get_or-set_other old i v x default other;
  long = ap length is ∙ length-set old i x;
}

-- an edge that stands after a write is the one that was written, or stood before
abbrev pub IsStanding : List (Option ℕ) → ℕ → ℕ → ℕ → ℕ → Type 0
IsStanding old i k v l = (v ≡ i) × (k ≡ l) ⊎ (v ≢ i) × (get_or old v None ≡ Some l)

pub standing : (old new : List (Option ℕ)) (i k : ℕ) → IsWritten old new i (Some k) None → (v l : ℕ) → get_or new v None ≡ Some l → IsStanding old i k v l
standing old new i k put v l e = by_end (cases_eq v i)
  where
    by_end : (v ≡ i) ⊎ (v ≢ i) → IsStanding old i k v l
    by_end (inl is) = inl (is, same_Some k l (sym put.here ∙ (ap (λ (n : ℕ). get_or new n None) (sym is) ∙ e)))
    by_end (inr other) = inr (other, sym (put.there v other) ∙ e)
