use Rattle.std.proofs.Common.{length, subst, sym, ap}
use Rattle.lid_design.specs.Columns.{root_inputs}
use Rattle.lid_texts.proofs.Limits.{reading_within}
use Rattle.lid_top_script.specs.Scripts.{vec_reading}
use Rattle.lid_top_script.specs.Causes.{Declines}
use Rattle.lid_top_script.proofs.Readings.{vec_good, vec_declines, wide_rows}
use Rattle.lid_top_script.proofs.steps.PackedTextFileText.read.Goals as goal

pub returns-in-Ok-clause-ok : goal.returns-in-Ok-clause-ok
returns-in-Ok-clause-ok c =
    vec_good c.args.self.now.checked.now c.args.bytes.now c.inputs.result.now (length c.outputs.result.now) (record { columns = c.inputs.result.now; bits = c.in-Ok.packed.rows }) c.inputs.ensures.names
    (ap length c.outputs.ensures.names) c.in-Ok.ensures.ok.reads

pub returns-in-Err-clause-err : goal.returns-in-Err-clause-err
returns-in-Err-clause-err c =
    subst (λ s. Declines (vec_reading c.args.self.now.checked.now c.args.bytes.now) s) (sym c.rows_stop.ensures)
    (vec_declines c.args.self.now.checked.now c.args.bytes.now c.inputs.result.now (length c.outputs.result.now) c.in-Err.fault c.inputs.ensures.names
    (ap length c.outputs.ensures.names) c.in-Err.ensures.err)

pub returns-in-Ok-clause-sound : goal.returns-in-Ok-clause-sound
returns-in-Ok-clause-sound c =
    let within = reading_within c.inputs.result.now (length c.outputs.result.now) c.args.bytes.now c.in-Ok.packed.rows c.in-Ok.ensures.ok.reads in
    record {
      wide = wide_rows c.in-Ok.packed.rows c.inputs.result.now (root_inputs c.args.self.now.checked.now) c.inputs.ensures.names within.wide;
      few = within.few;
    }
