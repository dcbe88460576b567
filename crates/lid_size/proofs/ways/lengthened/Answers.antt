use Rattle.std.proofs.Common.{refl, arith}
use Rattle.lid_size.specs.Choices.{followed}
use Rattle.lid_size.proofs.Lengthening.{way_longer}
use Rattle.lid_size.proofs.ways.lengthened.Goals as goal

pub returns-clause-some : goal.returns-clause-some
returns-clause-some c =
    way_longer c.args.graph.now c.args.count (followed c.args.count c.args.done.now c.args.next) c.args.k c.tokens_with.result c.args.way _ c.requires.within c.requires.way c.tokens_with.ensures.is c.tokens_with.ensures.few (omega (arith, c.if-way-ge262144.false)) refl refl refl
