use Rattle.lid_net.proofs.pearls.number_ports.Goals as goal

pub returns : goal.returns
returns c = record { ins = c.in_ok-ins.ensures; outs = c.in_ok-outs.ensures }
