-- Actors to which one more was pushed.
use Rattle.std.proofs.Common.{◌≡◌, ℕ, ◌+◌, inl, inr, Bool, List, [], ◌∷◌, ◌++◌, sym, ◌∙◌, ap, subst}
use Rattle.lid_stations.specs.Placed.{Placing, links_in}
use Rattle.lid_stations.specs.Stations.{actor_count}
use Rattle.lid_base.proofs.Places.{get_push}
use Rattle.lid_shell_laws.specs.Setups.{Setup}
use Rattle.lid_walk_machine.specs.Machine.{begun}
use Rattle.lid_shell.specs.declared.actor.Actor.{Actor}
use Rattle.lid_walk.specs.Setups.{IsSetupOf}
use Rattle.lid_walk.specs.Actors.{AreActors}
use Rattle.lid_walk.specs.Inside.{IsUnfiredActor, AreFirstActors}
use Rattle.lid_walk.proofs.Setting.{actors_are}
use Rattle.std.proofs.lemmas.List.{length_push}

pub one_more : (q : Placing) (rows : List (List Bool)) (many : ℕ) (old new : List Actor) (a : Actor) → AreFirstActors q rows many old → new ≡ old ++ a ∷ [] → IsUnfiredActor q rows many a → AreFirstActors q rows (many + 1) new
one_more q rows many old new a was pushed is =
    subst (λ (xs : List Actor). AreFirstActors q rows (many + 1) xs) (sym pushed)
    (record {
      many_are = length_push old a ∙ ap (λ (n : ℕ). n + 1) was.many_are;
      each = λ v b at.
          elim (get_push old a v b at) [
            | inl there ↦ was.each v b there
            | inr here ↦ subst (λ (x : Actor). IsUnfiredActor q rows v x) (sym here.1) (subst (λ (n : ℕ). IsUnfiredActor q rows n a) (sym (here.0 ∙ was.many_are)) is)
          ];
    })

-- where there are as many as actors, these are all
pub all_there : (q : Placing) (rows : List (List Bool)) (m : Setup) (actors : List Actor) → IsSetupOf m q.system q.placement rows → AreFirstActors q rows (actor_count (links_in q) q.placement) actors → AreActors m begun actors
all_there q rows m actors of are = record { many = are.many_are ∙ sym (actors_are m q.system q.placement of.system of.placement); each = λ v a at. are.each v a at m of }
