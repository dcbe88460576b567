use Rattle.std.proofs.Common.{List, subst, inl, inr}
use Rattle.lid_base.proofs.Results.{if_ok, if_err}
use Rattle.lid_net_channels.specs.declared.reads.Read.{Read}
use Rattle.lid_net_channels.specs.Pieces.{AreChannelsOf}
use Rattle.lid_net.proofs.Joining.{graph_of}
use Rattle.lid_net.proofs.assembly.find_channels.Goals as goal

pub returns-in-Ok-clause-graph : goal.returns-in-Ok-clause-graph
returns-in-Ok-clause-graph c =
    if_ok c.cut_channels.result (λ channels cut. graph_of c.args.checked.now c.in-Ok.leads.origins.items c.in-Ok.leads.reads.items channels c.in-Ok.ensures.leads (subst (λ (rs : List Read). AreChannelsOf rs channels) c.as_slice.ensures.value cut.0)) c.cut_channels.ensures.ok

pub returns-in-Ok-clause-few : goal.returns-in-Ok-clause-few
returns-in-Ok-clause-few c = if_ok c.cut_channels.result (λ channels cut. cut.1) c.cut_channels.ensures.ok

pub returns-in-Ok-clause-err : goal.returns-in-Ok-clause-err
returns-in-Ok-clause-err c =
    if_err c.cut_channels.result (λ fault why. elim why [
      | inl e ↦ inl e
      | inr h ↦ inr (h.0, graph_of c.args.checked.now c.in-Ok.leads.origins.items c.in-Ok.leads.reads.items h.0 c.in-Ok.ensures.leads (subst (λ (rs : List Read). AreChannelsOf rs h.0) c.as_slice.ensures.value h.1), h.2, h.3)
    ]) c.cut_channels.ensures.err
