use Rattle.std.proofs.Common.{List, ap, sym, subst, ◌∙◌, reverse, take, arith}
use Rattle.lid_net_channels.specs.declared.reads.Read.{Read}
use Rattle.lid_net_channels.specs.Cutting.{cut_back, ArePieced}
use Rattle.std.proofs.lemmas.List.{take_all}
use Rattle.lid_net_channels.proofs.Cutting.{pieced, part_short}
use Rattle.lid_net_channels.proofs.pieces.cut_all.Goals as goal

pub push_read-requires : goal.push_read-requires
push_read-requires c = subst ArePieced (sym c.loop-read.invariant) (pieced (reverse (take c.loop-read.read-index c.args.reads.now)) (let h = part_short c.args.reads.now c.loop-read.read-index in let few = c.requires in omega arith))

pub returns : goal.returns
returns c = ap reverse c.from_vec.ensures ∙ c.loop-read.invariant ∙ ap (λ (rs : List Read). cut_back (reverse rs)) (take_all c.loop-read.read-index c.args.reads.now c.loop-read-test.false)
