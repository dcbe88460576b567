use Rattle.std.proofs.Common.{ℕ, subst}
use Rattle.std.specs.Int.{IsGcd}
use Rattle.std.proofs.lemmas.Bool.{eqb-true, eq-eqb}
use Rattle.std.proofs.lemmas.Nat.Gcd.{IsGcd-from_mod, IsGcd-from_zero, same_from_IsGcd}
use Rattle.lid_cert.proofs.rules.is_lowest.Goals as goal

pub loop-y-preserved : goal.loop-y-preserved
loop-y-preserved c = λ g h. c.loop-y.invariant g (IsGcd-from_mod c.loop-y.x c.loop-y.y g h)

pub returns : goal.returns
returns c =
    let found : IsGcd c.args.p c.args.q c.loop-y.x = c.loop-y.invariant c.loop-y.x (IsGcd-from_zero c.loop-y.x c.loop-y.y c.loop-y-test.false) in
    (λ one. subst (λ (g : ℕ). IsGcd c.args.p c.args.q g) (eqb-true c.loop-y.x 1 one) found, λ lowest. eq-eqb c.loop-y.x 1 (same_from_IsGcd c.args.p c.args.q c.loop-y.x 1 found lowest))
