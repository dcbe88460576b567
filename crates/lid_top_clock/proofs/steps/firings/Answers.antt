use Rattle.std.proofs.Common.{◌≡◌, ℕ, [], ◌∷◌, ◌++◌, ◌∙◌, ap, arith}
use Rattle.lid_base.specs.Each.{from_each}
use Rattle.lid_clock.specs.Lives.{fired_after}
use Rattle.lid_base.proofs.Each.{each_pushed}
use Rattle.lid_top_clock.proofs.steps.firings.Goals as goal

pub loop-node-preserved : goal.loop-node-preserved
loop-node-preserved c = λ life k g ran.
    each_pushed (fired_after life k) [] c.loop-node.fired.items c.push.new.self.items c.loop-node.node (c.loop-node.invariant life k g ran)
    (c.in_ok-push.ensures.items ∙ ap (λ (n : ℕ). c.loop-node.fired.items ++ n ∷ []) (c.fired.ensures life k g ran))

pub returns : goal.returns
returns c = λ life k g ran.
    c.loop-node.invariant life k g ran
    ∙ (let e : c.loop-node.node ≡ c.args.nodes = omega (arith, c.loop-node-test.false, c.loop-node.auto.node-end) in ap (from_each (fired_after life k) 0) e)
