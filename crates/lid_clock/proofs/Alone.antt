-- New actors, to which no station is joined.
use Rattle.std.proofs.Common.{◌≡◌, ℕ, ◌+◌, Bool, List, [], ◌∷◌, ◌++◌, sym, ◌∙◌, ap, subst}
use Rattle.std.specs.Prelude.{Option}
use Rattle.lid_system.specs.declared.System.{System}
use Rattle.lid_clock.specs.declared.actor.ClockActor.{ClockActor}
use Rattle.lid_clock.specs.Starts.{IsNew, IsAlone, AreUnjoined}
use Rattle.std.proofs.lemmas.List.{length_push}
use Rattle.lid_base.proofs.Places.{each_push}

-- one more
pub one_more : (s : System) (rows : ℕ) (first : Option (List Bool)) (count : ℕ) (old new : List ClockActor) (a : ClockActor) → AreUnjoined s rows first count old → new ≡ old ++ a ∷ [] → IsNew s rows first count a → IsAlone a → AreUnjoined s rows first (count + 1) new
one_more s rows first count old new a was pushed is alone =
    subst (λ (xs : List ClockActor). AreUnjoined s rows first (count + 1) xs) (sym pushed)
    (record {
      many = length_push old a ∙ ap (λ (n : ℕ). n + 1) was.many;
      new = each_push (λ v x. IsNew s rows first v x) old a was.new (subst (λ (v : ℕ). IsNew s rows first v a) (sym was.many) is);
      alone = each_push (λ v x. IsAlone x) old a was.alone alone;
    })
