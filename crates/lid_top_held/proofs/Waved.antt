-- The dump of a trace that is not too large ends the script.
use Rattle.std.proofs.Common.{◌≡◌, ℕ, Bool, List, Option, Some, refl, sym, subst}
use Rattle.lid_design.specs.declared.Design.{Design}
use Rattle.lid_stations.specs.declared.placement.Placement.{Placement}
use Rattle.lid_stations.specs.Placements.{Links}
use Rattle.lid_top_script.specs.declared.fault.Stop.{Stop}
use Rattle.lid_top_script.specs.Outputs.{waved}
use Rattle.lid_top_script.specs.Waved.{IsWaveText}
use Rattle.lid_top_script.specs.Scripts.{Script, Reading, good, read_then, end, gives, trace_read, waving_script, EndsIn}
use Rattle.lid_top_script.specs.Causes.{Declines, IsCause}
use Rattle.lid_top_script.specs.Statuses.{HasText}
use Rattle.lid_top_script.proofs.Composition.{cause_declined}

module _ (d : Design) (l : Links) (p : Placement) (cycles : ℕ) (rows : List (List Bool)) (held : List ℕ → Option (List ℕ)) where
  abbrev next : Unit {0} → Script
  next _ = end (gives (waved d l p rows cycles))

  pub has_dump : (text : List ℕ) → trace_read p (Some cycles) ≡ good tt → IsWaveText d l p rows cycles text → HasText held (waving_script d l p cycles rows) text
  unfolding waving_script
  has_dump text judged is = record {
    output = waved d l p rows cycles;
    ends = subst (λ (r : Reading (Unit {0})). EndsIn held (read_then r next) (gives (waved d l p rows cycles))) (sym judged) refl;
    text_of = is;
  }

  pub declined : (stop : Stop) (before after : List ℕ → ℕ) → Declines (trace_read p (Some cycles)) stop → IsCause held (waving_script d l p cycles rows) before after stop
  unfolding waving_script
  declined stop before after d_ = cause_declined held (trace_read p (Some cycles)) next before after stop d_
