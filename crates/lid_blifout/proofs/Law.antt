-- The canonical text of a writable design is read as that design.
use Rattle.std.proofs.Common.{◌≡◌, ℕ, ◌<◌, ◌∙◌, List, [], ◌∷◌, length, refl, sym, ap, arith}
use Rattle.std.specs.Prelude.{Option, None, Some, nat_lt}
use Rattle.std.proofs.lemmas.Bool.{cond-false, le-ltb}
use Rattle.lid_base.specs.declared.line.Line.{Line}
use Rattle.lid_base.specs.declared.line.TextFault.{TextFault}
use Rattle.lid_base.specs.declared.which.Which.TheVariants.{FileBytes}
use Rattle.lid_base.specs.Lines.{logical_lines, text_fault}
use Rattle.lid_design.specs.declared.Design.{Design}
use Rattle.lid_design.specs.declared.Model.{Model}
use Rattle.lid_blif.specs.declared.fault.BlifFault.TheVariants.{Limit}
use Rattle.lid_blif.specs.Faults.{first_fault, lines_fault, after_text, blif_fault}
use Rattle.lid_blif.specs.Designs.{design_of}
use Rattle.lid_blifout.specs.Canonical.{models_lines, canonical_text}
use Rattle.lid_blifout.specs.Writable.{IsWritable}
use Rattle.lid_base_lines.specs.Texts.{numbered_lines}
use Rattle.lid_base_lines.proofs.ReadBack.{text_law, text_clean}
use Rattle.lid_blifout.proofs.SpelledLines.{models_spelled}
use Rattle.lid_blifout.proofs.FaultLaw.{models_clear}
use Rattle.lid_blifout.proofs.DesignLaw.{models_back}

some_lines : (ms : List Model) → 0 < length ms → lines_fault (numbered_lines 1 (models_lines ms)) ≡ first_fault [] (numbered_lines 1 (models_lines ms))
some_lines [] h = absurd (omega arith)
some_lines (m ∷ ms) h = refl

lines_back : (d : Design) → IsWritable d → logical_lines (canonical_text d) ≡ numbered_lines 1 (models_lines d.models)
unfolding canonical_text
lines_back d w = text_law 1024 (models_lines d.models) (models_spelled d.models w.models)

text_good : (d : Design) → IsWritable d → text_fault 1024 (canonical_text d) ≡ None
unfolding canonical_text
text_good d w = text_clean 1024 (models_lines d.models) (models_spelled d.models w.models)

fault_back : (d : Design) → IsWritable d → blif_fault (canonical_text d) ≡ None
unfolding blif_fault
fault_back d w =
    let bytes = canonical_text d in
    cond-false (nat_lt 16777216 (length bytes)) (Some (Limit FileBytes (length bytes))) (after_text (text_fault 1024 bytes) (logical_lines bytes)) (le-ltb 16777216 (length bytes) w.short)
    ∙ ap (λ (f : Option TextFault). after_text f (logical_lines bytes)) (text_good d w)
    ∙ ap lines_fault (lines_back d w)
    ∙ some_lines d.models w.some
    ∙ models_clear d.models w.models w.distinct w.few_models w.few_rows

design_back : (d : Design) → IsWritable d → design_of (logical_lines (canonical_text d)) ≡ d
unfolding design_of
design_back d w =
    ap (λ (ls : List Line). design_of ls) (lines_back d w)
    ∙ ap (λ (ms : List Model). made ms 0) (models_back d.models 1 w.models)
    ∙ ap (made d.models) (sym w.rooted)
  where
    made : List Model → ℕ → Design
    made ms root = record { models = ms; root = root }

pub read_back : (d : Design) → IsWritable d → (blif_fault (canonical_text d) ≡ None) × (design_of (logical_lines (canonical_text d)) ≡ d)
read_back d w = (fault_back d w, design_back d w)
