use Rattle.std.proofs.Common.{◌≡◌, ℕ, ◌==◌, Bool, cond, sym, ap, subst, arith, eq-eqb}
use Rattle.lid_free_crew.specs.Crews.{HaveWorked}
use Rattle.lid_free.proofs.Noting.{none_worked}
use Rattle.lid_free.proofs.gathering.run_all.Goals as goal

pub returns-else-rows-gt0 : goal.returns-else-rows-gt0
returns-else-rows-gt0 g c =
    let low = c.if-rows-gt0.false in
    let none : c.args.rows ≡ 0 = omega arith in
    subst (λ (n : ℕ). HaveWorked c.args.board.now n c.args.crew.now c.args.crew.now) (sym (ap (λ (b : Bool). cond b 0 c.args.rounds) (eq-eqb c.args.rows 0 none)))
    (none_worked c.args.board.now c.args.crew.now c.requires.ready)
