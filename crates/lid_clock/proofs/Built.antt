-- What stands in a run that was built.
use Rattle.std.proofs.Common.{◌≡◌, ℕ, ◌<◌, nat_lt, Bool, List, length, sym, ◌∙◌, subst, lt-ltb}
use Rattle.std.specs.Prelude.{Option, Some, slice_get}
use Rattle.lid_system.specs.declared.System.{System}
use Rattle.lid_stations.specs.declared.placement.Placement.{Placement}
use Rattle.lid_stations.specs.Placements.{links_of, station_count}
use Rattle.lid_clock.specs.declared.part.Role.{Role}
use Rattle.lid_clock.specs.declared.actor.ClockActor.{ClockActor}
use Rattle.lid_clock.specs.declared.station.ClockStation.{ClockStation}
use Rattle.lid_clock.specs.Actors.{HasPlaces}
use Rattle.lid_clock.specs.Starts.{IsNewRole, IsNew, AreNew, IsActorJoined, AreJoined, IsLaid, HasLaid, ShowsFirstTokens, IsReadied, AreReadied, StationBegins, AllBegin}

-- a station that has begun, as it was laid
pub record HasBegun (s : System) (p : Placement) (rows : ℕ) (actors : List ClockActor) (i : ℕ) (x : ClockStation) : Type 0 where
  pub was : ClockStation
  pub laid : IsLaid (links_of s) p i was
  pub begins : StationBegins (nat_lt 0 rows) (length s.nodes) actors was x

-- all actors and stations of a run that was built
pub record IsBuilt (s : System) (p : Placement) (rows : ℕ) (first : Option (List Bool)) (actors : List ClockActor) (stations : List ClockStation) : Type 0 where
  pub joined : AreJoined (links_of s) p (station_count p.relays) actors
  pub new : AreNew s rows first actors
  pub places : (v : ℕ) (a : ClockActor) → slice_get actors v ≡ Some a → HasPlaces a
  pub shows : 0 < rows → (v : ℕ) (a : ClockActor) → slice_get actors v ≡ Some a → ShowsFirstTokens a.part a.tokens.items
  pub many : length stations ≡ station_count p.relays
  pub each : (i : ℕ) (x : ClockStation) → slice_get stations i ≡ Some x → HasBegun s p rows actors i x

module _ (s : System) (p : Placement) (rows : ℕ) (first : Option (List Bool)) where
  -- an actor that was readied is as joined and new as it was
  joined_still : (v : ℕ) (a b : ClockActor) → IsActorJoined (links_of s) p (station_count p.relays) v a → IsReadied (nat_lt 0 rows) a b → IsActorJoined (links_of s) p (station_count p.relays) v b
  joined_still v a b was is = record { drains = is.same.ins ∙ was.drains; fills = is.same.outs ∙ was.fills }

  new_still : (v : ℕ) (a b : ClockActor) → IsNew s rows first v a → IsReadied (nat_lt 0 rows) a b → IsNew s rows first v b
  new_still v a b was is =
      record {
        capped = is.same.cap ∙ was.capped;
        fired_is = is.fired ∙ was.fired_is;
        rests = is.went ∙ was.rests;
        is = subst (λ (part : Role). IsNewRole s first v part) (sym is.part) was.is;
      }

  -- actors that were joined, and then readied, and stations that then began
  pub built : (joined ready : List ClockActor) (laid begun : List ClockStation)
      → HasLaid (links_of s) p (station_count p.relays) joined laid → AreNew s rows first joined → AreReadied (nat_lt 0 rows) joined ready → AllBegin (nat_lt 0 rows) (length s.nodes) ready laid begun
      → IsBuilt s p rows first ready begun
  built joined ready laid begun was new readied begins =
      record {
        joined = record {
          many = readied.many ∙ was.joined.many;
          each = λ v a at. let b = readied.each v a at in joined_still v b.0 a (was.joined.each v b.0 b.1) b.2;
        };
        new = λ v a at. let b = readied.each v a at in new_still v b.0 a (new v b.0 b.1) b.2;
        places = λ v a at. (readied.each v a at).2.places;
        shows = λ some v a at. (readied.each v a at).2.shows (lt-ltb 0 rows some);
        many = begins.many ∙ was.many;
        each = λ i x at. let y = begins.each i x at in record { was = y.0; laid = was.each i y.0 y.1; begins = y.2 };
      }
