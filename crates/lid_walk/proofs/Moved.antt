-- The movers of a channel.
use Rattle.std.proofs.Common.{◌≡◌, ℕ, zero, suc, ◌+◌, ◌<◌, ◌≤◌, Bool, List, [], ◌∷◌, length, take, get_or, sym, ◌∙◌, ap, subst, arith}
use Rattle.std.specs.Prelude.{Some, slice_get}
use Rattle.lid_system.specs.declared.System.{System}
use Rattle.lid_system.specs.Systems.{IsWellFormed}
use Rattle.lid_stations.specs.declared.placement.Placement.{Placement}
use Rattle.lid_stations.specs.Placed.{Placing}
use Rattle.lid_stations.specs.Placements.{links_of, station_count, Fits}
use Rattle.lid_stations.specs.Stations.{actor_count, mover}
use Rattle.lid_stations.proofs.Spots.{mover_below}
use Rattle.lid_shell_laws.specs.Runs.{drained_by, filled_by}
use Rattle.lid_shell_laws.proofs.Ends.{drained_there}
use Rattle.lid_walk_machine.specs.Plans.{actors_of, ins_of, outs_of}
use Rattle.lid_walk_machine.specs.Setups.{plan}
use Rattle.lid_shell_laws.specs.Setups.{Setup, IsSetup}
use Rattle.lid_walk_machine.specs.Machine.{begun}
use Rattle.lid_shell.specs.declared.actor.Actor.{Actor}
use Rattle.lid_shell.specs.Actors.{IsActor}
use Rattle.lid_shell.specs.Inside.{ActorsGoByRules}
use Rattle.lid_walk.specs.Inside.{IsUnfiredActor}
use Rattle.lid_walk.proofs.Listed.{mover_drains, within}
use Rattle.lid_walk.proofs.Setting.{ins_are, outs_are, nodes_are, actors_are}

only : (x y i : ℕ) → slice_get (x ∷ []) i ≡ Some y → x ≡ y
only x y zero h = cc
only x y (suc i) h = absurd (cc)

-- the mover that drains a station, which is not the last one of its channel, and fills the next one
pub record IsOne (s : System) (p : Placement) (v station : ℕ) : Type 0 where
  pub past : length s.nodes ≤ v
  pub there : v < actor_count (links_of s) p
  pub drains : drained_by (links_of s) p v ≡ station ∷ []
  pub fills : filled_by (links_of s) p v ≡ (station + 1) ∷ []

module _ (r : ActorsGoByRules) (s : System) (p : Placement) (well : IsWellFormed s) (fits : Fits s p) (c : ℕ) (there : c < length p.relays) where
  pub mover_at : (i station : ℕ) → i < get_or p.relays c 0 → station ≡ station_count (take c p.relays) + i → IsOne s p (mover (links_of s) p c i) station
  mover_at i station less is =
      let v : ℕ = mover (links_of s) p c i in
      let past : length s.nodes ≤ v = omega arith in
      let below : v < actor_count (links_of s) p = mover_below s p c i there less in
      let moves = r.moves s p v well fits past below in
      let most = within s p fits c there in
      let place = drained_there (links_of s) p v (station_count (take c p.relays) + i) (omega arith) (mover_drains s p fits c there i less) in
      let same : moves.0 ≡ station_count (take c p.relays) + i = only moves.0 (station_count (take c p.relays) + i) place.0 (subst (λ (xs : List ℕ). slice_get xs place.0 ≡ Some (station_count (take c p.relays) + i)) moves.1.drained place.1) in
      let here : moves.0 ≡ station = same ∙ sym is in
      record {
        past = past;
        there = below;
        drains = moves.1.drained ∙ ap (λ (x : ℕ). x ∷ []) here;
        fills = moves.1.filled ∙ ap (λ (x : ℕ). (x + 1) ∷ []) here;
      }

-- it is an actor of each setup
pub is_mover : (q : Placing) (rows : List (List Bool)) (v station next count : ℕ) (a : Actor) → IsOne q.system q.placement v station → next ≡ station + 1 → count ≡ length rows
    → ((m : Setup) (w : ℕ) → IsSetup m → length m.system.nodes ≤ w → w < actors_of (plan m) → length m.input ≡ count → ins_of (plan m) w ≡ station ∷ [] → outs_of (plan m) w ≡ next ∷ [] → IsActor m w (begun w) a)
    → IsUnfiredActor q rows v a
is_mover q rows v station next count a one after many is m of =
    let s = q.system in
    let p = q.placement in
    let nodes : length m.system.nodes ≡ length s.nodes = nodes_are m s p of.system of.placement in
    let actors : actors_of (plan m) ≡ actor_count (links_of s) p = actors_are m s p of.system of.placement in
    let past : length s.nodes ≤ v = one.past in
    let there : v < actor_count (links_of s) p = one.there in
    is m v of.rules (omega arith) (omega arith) (ap length of.input ∙ sym many) (ins_are m s p of.system of.placement v ∙ one.drains) (outs_are m s p of.system of.placement v ∙ one.fills ∙ ap (λ (x : ℕ). x ∷ []) (sym after))
