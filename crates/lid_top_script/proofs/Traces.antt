-- What is said of a trace whose cells are judged.
use Rattle.std.proofs.Common.{◌≡◌, ℕ, ◌*◌, ◌<◌, ◌≤◌, min, nat_lt, Option, Some, sym, ap, ◌∙◌, lt-ltb}
use Rattle.std.proofs.lemmas.Bool.{cond-true, cond-false, le-ltb}
use Rattle.lid_base.specs.declared.which.Which.TheVariants.{TraceCells}
use Rattle.lid_texts_runs.specs.declared.trace.TraceFault.{TraceFault}
use Rattle.lid_texts_runs.specs.declared.trace.TraceFault.TheVariants as trace
use Rattle.lid_top_refusals.specs.declared.refusal.Refusal.TheVariants.{Trace}
use Rattle.lid_top_refusals.specs.Faults.{trace_line}
use Rattle.lid_stations.specs.declared.placement.Placement.{Placement}
use Rattle.lid_stations.specs.Placements.{station_count}
use Rattle.lid_top_script.specs.declared.fault.Stop.TheVariants.{Refused}
use Rattle.lid_top_script.specs.Scripts.{good, bad, cells_read, trace_read}
use Rattle.lid_top_script.specs.Causes.{Declines}

abbrev too_many : ℕ → TraceFault
too_many cells = trace.Limit TraceCells (min cells 18446744073709551615)

pub cells_good : (cells : ℕ) → cells ≤ 1048576 → cells_read cells ≡ good tt
cells_good cells few = cond-false (nat_lt 1048576 cells) (bad (trace_line (too_many cells))) (good tt) (le-ltb 1048576 cells few)

pub cells_declined : (cells : ℕ) (fault : TraceFault) → 1048576 < cells → fault ≡ trace.Limit TraceCells (min cells 18446744073709551615) → Declines (cells_read cells) (Refused (Trace fault))
cells_declined cells fault many e =
    cond-true (nat_lt 1048576 cells) (bad (trace_line (too_many cells))) (good tt) (lt-ltb 1048576 cells many)
    ∙ ap (λ f. bad (trace_line f)) (sym e)

-- the cells of the trace of a placement, by its number of stations
module _ (p : Placement) (trace : Option ℕ) (cycles stations : ℕ) (asked : trace ≡ Some cycles) (count : stations ≡ station_count p.relays) where
  same : cells_read (stations * cycles) ≡ trace_read p trace
  unfolding trace_read
  same = ap (λ n. cells_read (n * cycles)) count ∙ ap (trace_read p) (sym asked)
