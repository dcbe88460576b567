use Rattle.std.proofs.Common.{◌<◌, length, arith}
use Rattle.lid_base.proofs.Lists.{among_at}
use Rattle.lid_check_rules.proofs.instances.find_by_rule.Goals as goal

pub find_by_rule_at-requires : goal.find_by_rule_at-requires
find_by_rule_at-requires c =
    let h : c.loop-k.k-index < length c.args.reached.now = omega arith in
    (c.requires.each _).0 (among_at c.args.reached.now c.loop-k.k-index 0 h)
