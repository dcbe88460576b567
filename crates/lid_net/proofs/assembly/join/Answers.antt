use Rattle.std.proofs.Common.{List, subst, inl, inr}
use Rattle.lid_net_channels.specs.declared.reads.Read.{Read}
use Rattle.lid_net_channels.specs.Pieces.{AreChannelsOf}
use Rattle.lid_net.proofs.Joining.{graph_of, joined}
use Rattle.lid_net.proofs.assembly.join.Goals as goal

pub returns-in-Err-clause-err : goal.returns-in-Err-clause-err
returns-in-Err-clause-err c =
    elim c.in-Err.ensures.err [
      | inl e ↦ inl e
      | inr h ↦ inr (h.0, graph_of c.args.checked.now c.args.leads.origins.items c.args.leads.reads.items h.0 c.requires.leads (subst (λ (rs : List Read). AreChannelsOf rs h.0) c.as_slice.ensures.value h.1), h.2, h.3)
    ]

pub returns-in-Ok-nodes_of-clause-graph : goal.returns-in-Ok-nodes_of-clause-graph
returns-in-Ok-nodes_of-clause-graph c =
    graph_of c.args.checked.now c.args.leads.origins.items c.args.leads.reads.items c.in-Ok.channels c.requires.leads
    (subst (λ (rs : List Read). AreChannelsOf rs c.in-Ok.channels) c.as_slice.ensures.value c.in-Ok.ensures.ok.0)

pub returns-in-Ok-nodes_of-clause-system : goal.returns-in-Ok-nodes_of-clause-system
returns-in-Ok-nodes_of-clause-system c =
    (joined c.args.checked.now c.args.leads.ports.items c.args.leads.origins.items c.in-Ok.channels _ c.in-Ok-nodes_of.nodes c.args.leads.reads.items _
    c.requires.ports c.requires.leads c.as_slice.ensures.value c.in-Ok.ensures.ok.0 c.as_slice-2.ensures c.in-Ok-nodes_of.ensures c.in-Ok.ensures.ok.1).0

pub returns-in-Ok-nodes_of-clause-formed : goal.returns-in-Ok-nodes_of-clause-formed
returns-in-Ok-nodes_of-clause-formed c =
    (joined c.args.checked.now c.args.leads.ports.items c.args.leads.origins.items c.in-Ok.channels _ c.in-Ok-nodes_of.nodes c.args.leads.reads.items _
    c.requires.ports c.requires.leads c.as_slice.ensures.value c.in-Ok.ensures.ok.0 c.as_slice-2.ensures c.in-Ok-nodes_of.ensures c.in-Ok.ensures.ok.1).1
