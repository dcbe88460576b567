use Rattle.std.proofs.Common.{Err, sym, subst}
use Rattle.lid_base.proofs.Results.{if_ok, if_err}
use Rattle.lid_stations.specs.Placements.{links_of}
use Rattle.lid_top_script.specs.Causes.{IsCause}
use Rattle.lid_top_script.specs.Scripts.{wrapping_script}
use Rattle.lid_top_script.specs.Whole.{RunsAnywhere}
use Rattle.lid_top_script.specs.Wrapped.{Wrapping}
use Rattle.lid_top_script.proofs.Composition.{want_anywhere}
use Rattle.lid_top_emit.specs.Spelling.{HasSpelledPorts}
use Rattle.lid_top_emit.proofs.Endings.{emit_has_text, emit_has_cause}
use Rattle.lid_top_emit.proofs.Spelled.{root_spelled, inputs_spelled, outputs_spelled}
use Rattle.lid_top_emit.proofs.emitting.wrapped_text.Goals as goal

pub emit-requires : goal.emit-requires
emit-requires c =
    let w = c.wrapped.inside in
    let is = c.wrapped.invariant in
    let spelled : HasSpelledPorts w.checked = subst (λ (w : Wrapping). HasSpelledPorts w.design) (sym c.wrapped.view_is) c.requires in
    record {
      of = is.of;
      system = is.system;
      fits = is.fits;
      name = root_spelled w.checked spelled;
      inputs = inputs_spelled w.checked spelled;
      outputs = outputs_spelled w.checked spelled;
    }

pub design_text-requires : goal.design_text-requires
design_text-requires c = let is = c.in-Ok.ensures.ok.1 in is.writable

pub returns-in-Ok : goal.returns-in-Ok
returns-in-Ok c =
    let w = c.wrapped.inside in
    let l = links_of w.system in
    subst (λ (w : Wrapping). RunsAnywhere (wrapping_script w.design (links_of w.system) w.placement) c.design_text.result) c.wrapped.view_is (record {
      ok = if_ok c.design_text.result (λ text h held. emit_has_text held w.checked l w.placement c.in-Ok.design text.items c.in-Ok.ensures.ok.0 c.in-Ok.ensures.ok.1 h) c.design_text.ensures.ok;
      err = if_err c.design_text.result (λ stop h held before after. want_anywhere held (wrapping_script w.checked l w.placement) before after stop h) c.design_text.ensures.err;
    })

pub returns-in-Err : goal.returns-in-Err
returns-in-Err c =
    let w = c.wrapped.inside in
    let l = links_of w.system in
    subst (λ (w : Wrapping). RunsAnywhere (wrapping_script w.design (links_of w.system) w.placement) (Err c.emit_stop.result)) c.wrapped.view_is (record {
      ok = tt;
      err = λ held before after.
          subst (IsCause held (wrapping_script w.checked l w.placement) before after) (sym c.emit_stop.ensures)
          (emit_has_cause held w.checked l w.placement before after c.in-Err.fault c.in-Err.ensures.err);
    })
