use Rattle.lid_gen.specs.Designs.{numbered}
use Rattle.lid_gen.proofs.Drawing.{each_pushed}
use Rattle.lid_gen.proofs.names.numbered_names.Goals as goal

pub loop-digit-preserved : goal.loop-digit-preserved
loop-digit-preserved c =
    each_pushed (numbered c.args.word.now) c.loop-digit.digit c.loop-digit.names.items c.push.new.self.items c.in_ok-numbered.field-0 c.loop-digit.invariant c.in_ok-push.ensures.items c.in_ok-numbered.ensures
