use Rattle.std.proofs.Common.{◌≡◌, ◌≤◌, ◌+◌, ◌-◌, ℕ, get_or, sym, subst, arith}
use Rattle.lid_check_elab.proofs.finding.last_up_to.Goals as goal

pub loop-i-preserved : goal.loop-i-preserved
loop-i-preserved c =
    let back : (c.loop-i.i + 1) - 1 ≡ c.loop-i.i = omega arith in
    subst (λ (n : ℕ). get_or c.args.numbers.now n 0 ≤ c.args.most) (sym back)
    (let below = c.if-numbers-i.false in omega arith)
