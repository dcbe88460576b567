-- Models and instances by their numbers.
use denote.Ref.{Bor}
use Rattle.std.proofs.Common.{option_map, ◌≡◌, ℕ, ◌<◌, ◌^◌, nat_lt, Bool, true, false, not, cond, List, [], length, position, Option, Some, None, slice_get, refl, sym, ◌∙◌, ap, subst}
use Rattle.std.specs.Option.{option_map_or}
use Rattle.std.specs.List.{prefix_len}
use Rattle.std.proofs.lemmas.Bool.{ltb-true}
use Rattle.lid_base.proofs.Lists.{all_at}
use Rattle.lid_design.specs.declared.Design.{Design}
use Rattle.lid_design.specs.declared.Model.{Model}
use Rattle.lid_design.specs.WellFormed.{IsWellFormed}
use Rattle.lid_design.specs.Models.{insts_of}

-- a model has fewer than 2^32 instances
pub few_insts : (d : Design) → IsWellFormed d → (k : ℕ) (m : Model) → slice_get d.models k ≡ Some m → length m.insts < 2 ^ 32
few_insts d formed k m here = all_at (λ m. length m.insts < 2 ^ 32) d.models k m formed.insts here

pub insts_here : (d : Design) (k : ℕ) (m : Model) → slice_get d.models k ≡ Some m → insts_of d k ≡ m.insts
insts_here d k m here = ap (λ (o : Option Model). option_map_or (λ m. m.insts) o []) here

pub position_below : {A : Type 0} (p : A → Bool) (xs : List A) (i : ℕ) → position p xs ≡ Some i → i < length xs
position_below p xs i found = by (prefix_len (λ x. not (p x)) xs) found
  where
    by : (k : ℕ) → cond (nat_lt k (length xs)) (Some k) None ≡ Some i → i < length xs
    by k e = pick (nat_lt k (length xs)) refl e
      where
        pick : (b : Bool) → nat_lt k (length xs) ≡ b → cond b (Some k) None ≡ Some i → i < length xs
        pick true h e = subst (λ (n : ℕ). n < length xs) (let f : Some k ≡ Some i = e in cc) (ltb-true k (length xs) h)
        pick false h e = absurd (let f : None ≡ Some i = e in cc)

-- what stands behind a reference that was found
pub here_is : (found was : Option (Bor Model)) (here : Option Model) → option_map (λ (m : Bor Model). m.now) found ≡ here → found ≡ was → here ≡ option_map (λ (m : Bor Model). m.now) was
here_is found was here is same = sym is ∙ ap (option_map (λ (m : Bor Model). m.now)) same
