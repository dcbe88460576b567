-- A station at a place of a channel, as it is laid.
use Rattle.std.proofs.Common.{◌≡◌, ℕ, ◌+◌, List, [], ◌∷◌, ◌++◌, get_or, sym, ◌∙◌, subst, arith}
use Rattle.lid_system.specs.declared.System.{System}
use Rattle.lid_stations.specs.declared.placement.Placement.{Placement}
use Rattle.lid_stations.specs.Placements.{links_of}
use Rattle.lid_stations.specs.Stations.{fills, drains}
use Rattle.lid_stations.proofs.Standing.{IsOn, filled, drained, is_station, capacity_is}
use Rattle.lid_clock.specs.declared.actor.ClockActor.{ClockActor}
use Rattle.lid_clock.specs.declared.station.ClockStation.{ClockStation}
use Rattle.lid_clock.specs.Starts.{HasLaid, IsEmptyBetween, Joins, IsNextSlot, CanJoin}
use Rattle.lid_clock.proofs.Joined.{laid_next, can_join}

module _ (s : System) (p : Placement) (c start place : ℕ) (on : IsOn s p c start place) where
  pub joinable : (from to : ℕ) (actors : List ClockActor) (stations : List ClockStation) → from ≡ fills (links_of s) p c place → to ≡ drains (links_of s) p c place → HasLaid (links_of s) p (start + place) actors stations → CanJoin from to actors
  joinable from to actors stations fills drains laid = can_join s p (start + place) from to actors on.system on.fits (is_station s p c start place on) (fills ∙ sym (filled s p c start place on)) (drains ∙ sym (drained s p c start place on)) laid.joined

  -- the stations laid so far, with this one
  pub one_laid : (from to : ℕ) (caps : List ℕ) (old new : List ClockActor) (stations more : List ClockStation) (x : ClockStation)
      → from ≡ fills (links_of s) p c place → to ≡ drains (links_of s) p c place → caps ≡ p.caps
      → HasLaid (links_of s) p (start + place) old stations → Joins (start + place) from to old new → IsEmptyBetween from to (get_or caps (start + place) 0) x → IsNextSlot from old x.slot
      → more ≡ stations ++ x ∷ [] → HasLaid (links_of s) p (start + (place + 1)) new more
  one_laid from to caps old new stations more x fills drains same was by empty slot pushed =
      let can = joinable from to old stations fills drains was in
      let next = laid_next (links_of s) p (start + place) from to (get_or caps (start + place) 0) old new stations x (fills ∙ sym (filled s p c start place on)) (drains ∙ sym (drained s p c start place on)) (capacity_is s p c start place on caps same) can.filled was by empty slot in
      let number : (start + place) + 1 ≡ start + (place + 1) = omega arith in
      subst (λ (n : ℕ). HasLaid (links_of s) p n new more) number (subst (λ (xs : List ClockStation). HasLaid (links_of s) p ((start + place) + 1) new xs) (sym pushed) next)
