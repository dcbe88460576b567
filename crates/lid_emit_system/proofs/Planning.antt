-- The plan of a system and a placement fits together.
use Rattle.std.proofs.Common.{◌≡◌, ℕ, ◌-◌, ◌<◌, ◌≤◌, ◌==◌, Bool, true, false, [], length, refl, arith}
use Rattle.std.specs.Prelude.{if◌then◌else◌}
use Rattle.std.proofs.lemmas.Bool.{ne_eqb}
use Rattle.lid_base.specs.Lists.{Among}
use Rattle.lid_base.proofs.Lists.{get_among, among_get}
use Rattle.lid_system.specs.declared.System.{System}
use Rattle.lid_system.specs.Systems.{IsWellFormed}
use Rattle.lid_stations.specs.declared.placement.Placement.{Placement}
use Rattle.lid_stations.specs.Placements.{links_of, station_count, Fits}
use Rattle.lid_stations.specs.Stations.{spot_at, filler, drainer, start_count}
use Rattle.lid_stations.proofs.Spots.{cap_range, stands_between, starts_small}
use Rattle.lid_shell_laws.specs.Runs.{drained_by, filled_by}
use Rattle.lid_shell_laws.proofs.Ends.{drained_is, filled_is, drained_there, filled_there}
use Rattle.lid_shell_laws.proofs.Passing.{none_pass}
use Rattle.lid_emit_circuit.specs.Plans.{CircuitPlan}
use Rattle.lid_emit_circuit.specs.Carried.{IsPlan}
use Rattle.lid_emit_system.specs.Nets.{NetWires}
use Rattle.lid_emit_system.specs.Wrapping.{circuit_plan}

at_most_one : (b : Bool) (n : ℕ) → n ≤ 1 → (if b then 0 else n) ≤ 1
at_most_one true n h = omega arith
at_most_one false n h = h

module _ (s : System) (p : Placement) (n : NetWires) (well : IsWellFormed s) (fits : Fits s p) where
  abbrev pub q : CircuitPlan
  q = circuit_plan s p n

  is_in : (v st : ℕ) → Among st (drained_by (links_of s) p v) → (st < station_count p.relays) × (drainer (links_of s) p st ≡ v)
  is_in v st there = let at = among_get (drained_by (links_of s) p v) st there in drained_is (links_of s) p v at.0 st at.1

  is_out : (v st : ℕ) → Among st (filled_by (links_of s) p v) → (st < station_count p.relays) × (filler (links_of s) p st ≡ v)
  is_out v st there = let at = among_get (filled_by (links_of s) p v) st there in filled_is (links_of s) p v at.0 st at.1

  in_there : (st : ℕ) → st < station_count p.relays → Among st (drained_by (links_of s) p (drainer (links_of s) p st))
  in_there st below = let at = drained_there (links_of s) p (drainer (links_of s) p st) st below refl in get_among (drained_by (links_of s) p (drainer (links_of s) p st)) at.0 st at.1

  out_there : (st : ℕ) → st < station_count p.relays → Among st (filled_by (links_of s) p (filler (links_of s) p st))
  out_there st below = let at = filled_there (links_of s) p (filler (links_of s) p st) st below refl in get_among (filled_by (links_of s) p (filler (links_of s) p st)) at.0 st at.1

  source_in : drained_by (links_of s) p 0 ≡ []
  source_in = none_pass (λ st. drainer (links_of s) p st == 0) 0 (station_count p.relays) (λ j least most. ne_eqb (drainer (links_of s) p j) 0 (λ is. let apart = (stands_between s p well fits j (omega arith)).not_source in omega (arith, apart)))

  sink_out : filled_by (links_of s) p (length s.nodes - 1) ≡ []
  sink_out = none_pass (λ st. filler (links_of s) p st == (length s.nodes - 1)) 0 (station_count p.relays) (λ j least most. ne_eqb (filler (links_of s) p j) (length s.nodes - 1) (λ is. (stands_between s p well fits j (omega arith)).not_sink (let least_nodes = well.least in omega arith)))

  pub plan_is : IsPlan q
  plan_is = record {
    source = omega (arith, well.least);
    last = omega (arith, well.least);
    filled = λ st below. (stands_between s p well fits st below).filled;
    drained = λ st below. (stands_between s p well fits st below).drained;
    room = λ st below. let range = (cap_range s p well fits st below).0 in omega (arith, range);
    few = λ st. at_most_one (filler (links_of s) p st == 0) (start_count p st) (starts_small (spot_at p.relays st).place);
    is_in = is_in;
    is_out = is_out;
    in_there = in_there;
    out_there = out_there;
    source_in = source_in;
    sink_out = sink_out;
  }
