use Rattle.std.proofs.Common.{ap, sym, ◌∙◌, subst}
use Rattle.lid_net_channels.proofs.Ordering.{same_read, found}
use Rattle.lid_net_channels.proofs.Naming.{carry_at}
use Rattle.lid_net_channels.proofs.bits.find_bit.Goals as goal

pub unreachable-requires : goal.unreachable-requires
unreachable-requires c = found c.args.reads.now c.args.read c.in-Err.field-0 c.requires.ascending c.requires.there c.in-Err.ensures.position

pub returns : goal.returns
returns c channels all = carry_at channels c.args.reads.now c.args.bits.now c.in-Ok.place c.args.read _ all c.in-Ok.ensures.bound (same_read _ c.args.read (c.in-Ok.ensures.ok c.args.read))
