use Rattle.std.proofs.Common.{true, false, inl, refl, ◌∙◌, ap, subst}
use Rattle.lid_base.proofs.Results.{if_ok}
use Rattle.lid_stations.specs.Markings.{marking}
use Rattle.lid_stations.specs.Placements.{links_of}
use Rattle.lid_rate_text.specs.Throughput.{verdict_text}
use Rattle.lid_top_script.specs.Outputs.{verdict}
use Rattle.lid_top_script.specs.Scripts.{IsVerdictOn, NoLine, judged_script, judging_script}
use Rattle.lid_top_script.proofs.Within.{within_decided, anywhere_within, anywhere_given}
use Rattle.lid_top_whole.proofs.verify.judged_text.Goals as goal

pub returns-in-Ok-true : goal.returns-in-Ok-true
unfolding judging_script
returns-in-Ok-true c =
    let l = links_of c.args.wrapped.now.system in
    let cert = c.args.cert.now in
    let judged = IsVerdictOn (marking l c.args.wrapped.now.placement) cert in
    anywhere_within (λ held. within_decided held judged NoLine (judged_script l cert) true (subst judged c.in-Ok-true.field-0-test c.in-Ok-true.ensures.ok))
    (anywhere_given {output = verdict l cert} (if_ok c.shown_text.result (λ text is. is ∙ ap (verdict_text cert) c.sink_of.ensures) c.shown_text.ensures.ok) c.shown_text.ensures.err)

pub returns-in-Ok-false : goal.returns-in-Ok-false
unfolding judging_script
returns-in-Ok-false c = record {
  ok = tt;
  err = λ held before after.
      inl (false, subst (IsVerdictOn (marking (links_of c.args.wrapped.now.system) c.args.wrapped.now.placement) c.args.cert.now) c.in-Ok-false.field-0-test c.in-Ok-false.ensures.ok, refl);
}
