-- The stations, actors and shells of a plan, put together.
use Rattle.std.proofs.Common.{◌≡◌, ℕ, ◌+◌, ◌-◌, ◌<◌, ◌≤◌, false, List, length, refl, sym, ◌∙◌, ap, subst, add-one, arith}
use Rattle.std.specs.Prelude.{Some, slice_get, slice_index_or}
use Rattle.std.specs.Option.{option_map_or}
use Rattle.std.proofs.lemmas.Option.{get_or_from_slice_get, slice_get_within}
use Rattle.lid_system.specs.declared.System.{System}
use Rattle.lid_system.specs.Systems.{IsWellFormed}
use Rattle.lid_system.proofs.Points.{first_node, last_node, inner_node}
use Rattle.lid_stations.specs.declared.placement.Placement.{Placement}
use Rattle.lid_stations.specs.Placements.{Fits, links_of}
use Rattle.lid_stations.specs.Stations.{actor_count}
use Rattle.lid_stations.proofs.Spots.{stands_between, few_actors}
use Rattle.lid_emit_circuit.specs.Wires as circuit
use Rattle.lid_emit_system.specs.Nets.{NetWires}
use Rattle.lid_emit_system.specs.Wrapping.{circuit_plan, flat_in, no_flat}
use Rattle.lid_emit_cells.specs.declared.wire.Wire.TheVariants.{Offer}
use Rattle.lid_emit_cells.specs.declared.shell.Shell.{Shell}
use Rattle.lid_emit_cells.specs.declared.station.Station.{Station}
use Rattle.lid_emit_cells.specs.Shown.{wire_of}
use Rattle.lid_emit_cells.specs.Matches.{IsPlanShell, IsWhole, IsBare, IsAllOf, AreAllSmall}
use Rattle.lid_emit_shells.specs.declared.shells.Shells.{Shells}
use Rattle.lid_emit_shells.specs.Shells.{shell_before, wire_in, nets_of}
use Rattle.lid_emit_layout.specs.declared.layout.Frame.{Frame}
use Rattle.lid_emit_layout.specs.Stations.{AreStationsOf, AreBetween}
use Rattle.lid_emit_layout.specs.Frames.{IsFrame}

-- a system has few stations, each between two of its actors
pub few_stations : (s : System) (p : Placement) (n : NetWires) (stations : List Station) → Fits s p → AreStationsOf (circuit_plan s p n) stations → length stations ≤ 65536
few_stations s p n stations fits are = omega (arith, are.many, fits.rules.most)

pub between : (s : System) (p : Placement) (n : NetWires) (stations : List Station) → IsWellFormed s → Fits s p → AreStationsOf (circuit_plan s p n) stations → AreBetween (actor_count (links_of s) p) stations
between s p n stations well fits are i x at =
    let is = are.each i x at in
    let stands = stands_between s p well fits i is.there in
    (subst (λ (v : ℕ). v < actor_count (links_of s) p) is.filler stands.filled, subst (λ (v : ℕ). v < actor_count (links_of s) p) is.drainer stands.drained)

-- shells are numbered from 1 on
shell_at : {A : Type 0} (of : Shell → A) (none : A) (shells : List Shell) (i : ℕ) (shell : Shell) → slice_get shells i ≡ Some shell → shell_before shells of none (i + 1) ≡ of shell
shell_at of none shells i shell at = ap (shell_before shells of none) (add-one i) ∙ ap (λ o. option_map_or of o none) at

module _ (s : System) (p : Placement) (all : Shells) (well : IsWellFormed s) (fits : Fits s p) (count : length s.nodes ≡ length all.shells + 2) where
  shell_is : (i : ℕ) (shell : Shell) → slice_get all.shells i ≡ Some shell → i < length all.shells → IsPlanShell (circuit_plan s p (nets_of all)) (i + 1) shell
  shell_is i shell at below =
      let found = inner_node s well (i + 1) (omega arith) (omega arith) in
      record {
        flat = ap (λ o. option_map_or (flat_in (nets_of all) (i + 1)) o no_flat) found.2 ∙ shell_at (λ sh. sh.flat) no_flat all.shells i shell at;
        here = λ k w there. shell_at (λ sh. wire_in sh.here k) circuit.offer all.shells i shell at ∙ ap wire_of (get_or_from_slice_get shell.here k w Offer there);
        after = λ k w there. shell_at (λ sh. wire_in sh.after k) circuit.offer all.shells i shell at ∙ ap wire_of (get_or_from_slice_get shell.after k w Offer there);
        skips = λ k b there. shell_at (λ sh. slice_index_or sh.skips k false) false all.shells i shell at ∙ get_or_from_slice_get shell.skips k b false there;
      }

  first_bare : IsBare ((circuit_plan s p (nets_of all)).flat 0)
  first_bare = let found = first_node s well in subst (λ o. IsBare (option_map_or (flat_in (nets_of all) 0) o no_flat)) (sym found.1) (record { latches = refl; covers = refl })

  last_bare : IsBare ((circuit_plan s p (nets_of all)).flat (length all.shells + 1))
  last_bare =
      let found = last_node s well in
      let last : length s.nodes - 1 ≡ length all.shells + 1 = omega arith in
      subst (λ (v : ℕ). IsBare ((circuit_plan s p (nets_of all)).flat v)) last
      (subst (λ o. IsBare (option_map_or (flat_in (nets_of all) (length s.nodes - 1)) o no_flat)) (sym found.2) (record { latches = refl; covers = refl }))

  pub all_is : (frame : Frame) → IsFrame (circuit_plan s p (nets_of all)) frame → IsAllOf (circuit_plan s p (nets_of all)) (record { outer = frame.outer; stations = frame.stations; actors = frame.actors; shells = all.shells })
  all_is frame is = record {
    outer = is.outer;
    stations = is.stations.many;
    each_station = is.stations.each;
    actors = is.actors.many;
    each_actor = is.actors.each;
    nodes = count;
    each_shell = λ i shell at. shell_is i shell at (slice_get_within all.shells i shell at);
    first_bare = first_bare;
    last_bare = last_bare;
  }

  pub all_sound : (frame : Frame) → IsFrame (circuit_plan s p (nets_of all)) frame → ((i : ℕ) (shell : Shell) → slice_get all.shells i ≡ Some shell → IsWhole shell) → AreAllSmall (record { outer = frame.outer; stations = frame.stations; actors = frame.actors; shells = all.shells })
  all_sound frame is whole = record {
    shows = is.shows;
    few_stations = omega (arith, few_stations s p (nets_of all) frame.stations fits is.stations);
    stations = is.stations.small;
    few_actors = omega (arith, is.actors.many, few_actors s p well fits);
    actors = is.actors.small;
    few_shells = omega (arith, count, well.most);
    shells = whole;
  }
