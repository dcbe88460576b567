-- A board that agrees with all actors serves both ends of each station, as the state counts.
use Rattle.std.proofs.Common.{◌≡◌, ℕ, ◌<◌, inl, inr, List, refl, sym, ◌∙◌, ap, subst, arith}
use Rattle.std.specs.Prelude.{Some, slice_get}
use Rattle.lid_station.specs.Boards.{Ends, fill, drain}
use Rattle.lid_stations.proofs.Spots.{stands_between}
use Rattle.lid_shell_laws.proofs.Ends.{drained_there, filled_there}
use Rattle.lid_walk_machine.specs.Plans.{Plan, actors_of, stations_of, ins_of, outs_of, drainer_of, filler_of}
use Rattle.lid_walk_machine.specs.Setups.{plan}
use Rattle.lid_shell_laws.specs.Setups.{Setup, IsSetup}
use Rattle.lid_walk_machine.specs.Machine.{State, in_count, out_count}
pub use Rattle.lid_walk_machine.proofs.Places.{drains_by, fills_by}
use Rattle.lid_walk_machine.proofs.Moves.{out_here, in_here}
use Rattle.lid_shell.specs.Boards.{IsEndWith, Agrees, ServesBoth, ServesAll}
use Rattle.lid_shell.specs.Steps.{IsOwn}

-- an end of a station that another actor drains or fills is none of v's
module _ (m : Setup) (v : ℕ) (ins outs : List ℕ) (in_is : ins ≡ ins_of (plan m) v) (out_is : outs ≡ outs_of (plan m) v) (station : ℕ) where
  pub drain_apart : (drainer_of (plan m) station ≡ v → ⊥) → IsOwn ins outs (drain station) → ⊥
  drain_apart other (s, k, inl own) =
      let is : s ≡ station = omega (arith, own.1) in
      let mine = drains_by (plan m) v k s (subst (λ (l : List ℕ). slice_get l k ≡ Some s) in_is own.0) in
      other (ap (drainer_of (plan m)) (sym is) ∙ mine.drainer)
  drain_apart other (s, k, inr own) = omega (arith, own.1)

  pub fill_apart : (filler_of (plan m) station ≡ v → ⊥) → IsOwn ins outs (fill station) → ⊥
  fill_apart other (s, k, inl own) = omega (arith, own.1)
  fill_apart other (s, k, inr own) =
      let is : s ≡ station = omega (arith, own.1) in
      let mine = fills_by (plan m) v k s (subst (λ (l : List ℕ). slice_get l k ≡ Some s) out_is own.0) in
      other (ap (filler_of (plan m)) (sym is) ∙ mine.filler)

-- as many tokens passed the end of an actor that agrees with a board as the state says
module _ (x : Setup) (st : State) (ends : Ends) (v : ℕ) (agrees : Agrees x v (st v) ends) (station : ℕ) (h : station < stations_of (plan x)) where
  pub drained_own : drainer_of (plan x) station ≡ v → IsEndWith ends (drain station) (λ f. f.passed ≡ out_count (plan x) st station)
  drained_own mine =
      let place = drained_there (plan x).links (plan x).placement v station h mine in
      let served = agrees.drains place.0 station place.1 in
      (served.0, served.1, served.2.passed ∙ sym (out_here (plan x) st v st v place.0 station (drains_by (plan x) v place.0 station place.1)))

  pub filled_own : filler_of (plan x) station ≡ v → IsEndWith ends (fill station) (λ f. f.passed ≡ in_count (plan x) st station)
  filled_own mine =
      let place = filled_there (plan x).links (plan x).placement v station h mine in
      let served = agrees.fills place.0 station place.1 in
      (served.0, served.1, served.2.passed ∙ sym (in_here (plan x) st v st v place.0 station (fills_by (plan x) v place.0 station place.1)))

module _ (x : Setup) (rules : IsSetup x) (st : State) (ends : Ends) (agrees : (v : ℕ) → v < actors_of (plan x) → Agrees x v (st v) ends) where
  abbrev m : Plan
  m = plan x

  -- as many tokens passed the drained end of a station as the state says
  pub drained_end : (station : ℕ) → station < stations_of m → IsEndWith ends (drain station) (λ f. f.passed ≡ out_count m st station)
  drained_end station h =
      let w = drainer_of m station in
      drained_own x st ends w (agrees w (stands_between x.system x.placement rules.system rules.fits station h).drained) station h refl

  pub filled_end : (station : ℕ) → station < stations_of m → IsEndWith ends (fill station) (λ f. f.passed ≡ in_count m st station)
  filled_end station h =
      let w = filler_of m station in
      filled_own x st ends w (agrees w (stands_between x.system x.placement rules.system rules.fits station h).filled) station h refl

  pub serves_both : (station : ℕ) → station < stations_of m → ServesBoth x st ends station
  serves_both station h = record { filled = filled_end station h; drained = drained_end station h }

  pub serves_all : (v : ℕ) → ServesAll x st v ends
  serves_all v = record {
    ins = λ i station h. serves_both station (drains_by m v i station h).there;
    outs = λ j station h. serves_both station (fills_by m v j station h).there;
  }
