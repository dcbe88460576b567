-- An actor that stays what it is in a step.
use Rattle.std.proofs.Common.{◌≡◌, ℕ, refl, ◌∙◌}
use Rattle.lid_clock.specs.declared.actor.ClockActor.{ClockActor}
use Rattle.lid_clock.specs.Actors.{HasPlaces, IsSameActor}
use Rattle.lid_clock.specs.Lives.{Life}
use Rattle.lid_clock.specs.States.{IsRole, IsActor}

-- it is that of a life as before, where its part is
pub stays : (l : Life) (g h v fired now : ℕ) (old new : ClockActor) → IsActor l g v fired old → IsSameActor old new → new.fired ≡ now → HasPlaces new → IsRole l h v now new.part → IsActor l h v now new
stays l g h v fired now old new actor same counts places is =
    record {
      there = actor.there;
      drains = same.ins ∙ actor.drains;
      fills = same.outs ∙ actor.fills;
      capped = same.cap ∙ actor.capped;
      fired_is = counts;
      places = places;
      is = is;
    }

-- an actor whose part alone is another one's
pub stays_but_part : (l : Life) (g h v fired : ℕ) (a : ClockActor) → IsActor l g v fired a → IsRole l h v fired a.part → IsActor l h v fired a
stays_but_part l g h v fired a actor is = stays l g h v fired fired a a actor (record { ins = refl; outs = refl; cap = refl }) actor.fired_is actor.places is
