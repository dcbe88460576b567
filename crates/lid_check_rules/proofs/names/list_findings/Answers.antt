use Rattle.std.proofs.Common.{◌<◌, length, arith}
use Rattle.std.proofs.lemmas.Grind.{common_steps}
use Rattle.lid_base.proofs.Lists.{among_at}
use Rattle.lid_check_rules.specs.Names.{name_at}
use Rattle.lid_check_rules.proofs.names.list_findings.Goals as goal

pub findings_at-requires : goal.findings_at-requires
findings_at-requires c =
    let h : c.loop-k.k-index < length c.args.reached.now = omega arith in
    (c.requires.each _).0 (among_at c.args.reached.now c.loop-k.k-index 0 h)

pub loop-k-preserved : goal.loop-k-preserved
unfolding name_at
loop-k-preserved c rule =
    let e = c.loop-k.invariant rule in
    let now = c.in_ok-findings_at.ensures rule in
    grind (arith, common_steps)

pub returns : goal.returns
returns c rule =
    let e = c.loop-k.invariant rule in
    grind (arith, common_steps)
