-- Actors of a life after their decisions.
use Rattle.std.proofs.Common.{◌≡◌, ℕ, suc, ◌+◌, ◌⊎◌, true, false, List, length, refl, sym, ◌∙◌, ap, subst}
use Rattle.lid_stations.specs.Placements.{links_of}
use Rattle.lid_shell_laws.specs.Rules.{MayFire, MayNotFire}
use Rattle.lid_clock.specs.declared.actor.ClockActor.{ClockActor}
use Rattle.lid_clock.specs.declared.station.ClockStation.{ClockStation}
use Rattle.lid_clock.specs.Actors.{SeesNoBar, Fires}
use Rattle.lid_clock.specs.Rules.{RunsGoByRules}
use Rattle.lid_clock.specs.Lives.{Life, fired_after}
use Rattle.lid_clock.specs.States.{MayBegin, IsActor, AreStations, Decided}
use Rattle.lid_clock.proofs.Bars.{may_fire}
use Rattle.lid_clock.proofs.Tokens.{took}
use Rattle.lid_clock.proofs.Staying.{stays}
use Rattle.lid_clock.proofs.Made.{IsFiring, IsMade, made}
use borrow.Author.Clash.{clash}

-- an actor that did not go is still what it is
still : (l : Life) (g v fired : ℕ) (a : ClockActor) → IsActor l g v fired a → IsActor l g v fired (record a { went = false })
still l g v fired a actor =
    let places = actor.places in
    stays l g g v fired fired a (record a { went = false }) actor (record { ins = refl; outs = refl; cap = refl }) actor.fired_is (record { taken = places.taken; tokens = places.tokens; size = places.size }) actor.is

-- an actor that is held, or may not fire, has decided
pub rested : (r : RunsGoByRules) (l : Life) (k g v : ℕ) (a : ClockActor) → MayBegin l k g → IsActor l g v (fired_after l k v) a
    → (l.hold k v ≡ true) ⊎ MayNotFire (links_of l.setup.system) l.setup.placement (length l.setup.input) (fired_after l k) v → Decided l k g v (record a { went = false })
rested r l k g v a begins actor why =
    let same : fired_after l (suc k) v ≡ fired_after l k v = r.rests l.setup.system l.setup.placement (length l.setup.input) l.hold k v begins.rules.system begins.rules.fits actor.there why in
    record {
      actor = subst (λ (n : ℕ). IsActor l g v n (record a { went = false })) (sym same) (still l g v (fired_after l k v) a actor);
      goes = λ h. clash false h refl;
      rests = λ _. same;
      offers = λ h. clash false h refl;
      row = λ h. clash false h refl;
    }

-- an actor that fires has decided
pub fired : (r : RunsGoByRules) (l : Life) (k g v : ℕ) (a : ClockActor) (stations : List ClockStation) (new : ClockActor) → MayBegin l k g → IsActor l g v (fired_after l k v) a → AreStations l k stations
    → l.hold k v ≡ false → SeesNoBar a stations → Fires a stations new → Decided l k g v new
fired r l k g v a stations new begins actor beside free clear fires =
    let may : MayFire (links_of l.setup.system) l.setup.placement (length l.setup.input) (fired_after l k) v = may_fire l k g v a stations actor beside clear in
    let goes : fired_after l (suc k) v ≡ fired_after l k v + 1 = r.fires l.setup.system l.setup.placement (length l.setup.input) l.hold k v begins.rules.system begins.rules.fits actor.there free may in
    let firing : IsFiring l k g v new.taken.items = record { begins = begins; there = actor.there; below = may.below; takes = took l k g v a stations new.taken.items actor beside clear.hold fires.taken } in
    let done : IsMade l k g v new.tokens.items new.part = made r l k g v new.taken.items new.tokens.items a.part new.part firing actor.is fires.passes in
    let now : IsActor l g v (fired_after l k v + 1) new = stays l g g v (fired_after l k v) (fired_after l k v + 1) a new actor fires.same (fires.fired ∙ ap (λ (n : ℕ). n + 1) actor.fired_is) fires.places done.is in
    record {
      actor = subst (λ (n : ℕ). IsActor l g v n new) (sym goes) now;
      goes = λ _. goes;
      rests = λ h. clash new.went fires.went h;
      offers = λ _. done.puts;
      row = λ _. done.row;
    }
