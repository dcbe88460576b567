-- The bits of the row of each cycle are counted.
use Rattle.std.proofs.Common.{◌≡◌, ◌≤◌, ℕ, suc, ◌+◌, length, sym, ◌∙◌, subst, add-one, arith}
use Rattle.lid_system.specs.Streams.{output_row}
use Rattle.lid_clock.proofs.FreeLives.{few_cycles}
use Rattle.lid_clock.specs.Clocks.{rows_after}
use Rattle.lid_clock_flat.specs.Feeds.{Feeds}
use Rattle.lid_top_script.specs.Generated.{ones_of}
use Rattle.lid_top_gen.proofs.Ones.{ones_none, ones_few, ones_on, ones_still}
use Rattle.lid_top_gen.proofs.counting.count_run.Goals as goal

pub loop-cycles-init : goal.loop-cycles-init
loop-cycles-init c = λ life free of stations. (c.in_ok-run.ensures life free of stations, ones_none life)

pub overflow_add-cycles : goal.overflow_add-cycles
overflow_add-cycles c =
    let q = c.requires.lives in
    let k = c.loop-cycles.cycles in
    let now = c.loop-cycles.invariant q.0 q.1 q.2 q.3 in
    let few = few_cycles q.0 c.args.rows.now.bits q.1 k ((c.cycle.ensures.below q.0 k now.0).0 c.loop-cycles-test.true) in
    omega (arith, few)

pub overflow_add-ones : goal.overflow_add-ones
overflow_add-ones c =
    let q = c.requires.lives in
    let l = q.0 in
    let k = c.loop-cycles.cycles in
    let now = c.loop-cycles.invariant l q.1 q.2 q.3 in
    let next = c.cycle.ensures.made l k now.0 c.loop-cycles-test.true in
    let more = ones_on l q.1.rules k c.in-Some.row.now (c.in-Some.ensures l (suc k) next) in
    let few = ones_few l q.1.rules (λ t. subst (λ s. length (output_row s l.setup.table t) ≤ 4) (sym q.2) (c.requires.narrow l.setup.table t)) (suc k) in
    omega (arith, more, few, now.1, c.row_ones-ones.ensures.is)

pub loop-cycles-preserved-in-Some : goal.loop-cycles-preserved-in-Some
loop-cycles-preserved-in-Some c = λ life free of stations.
    let k = c.loop-cycles.cycles in
    let now = c.loop-cycles.invariant life free of stations in
    let next = c.cycle.ensures.made life k now.0 c.loop-cycles-test.true in
    let more = ones_on life free.rules k c.in-Some.row.now (c.in-Some.ensures life (suc k) next) in
    let number : suc k ≡ k + 1 = sym (add-one k) in (
      subst (λ (n : ℕ). Feeds life n c.cycle.new.self) number next,
      subst (λ (n : ℕ). c.loop-cycles.ones + c.row_ones-ones.result ≡ ones_of (rows_after life n)) number (omega (arith, more, now.1, c.row_ones-ones.ensures.is)),
    )

pub loop-cycles-preserved : goal.loop-cycles-preserved
loop-cycles-preserved c = λ life free of stations.
    let k = c.loop-cycles.cycles in
    let now = c.loop-cycles.invariant life free of stations in
    let next = c.cycle.ensures.made life k now.0 c.loop-cycles-test.true in
    let same = ones_still life free.rules k (c.in_default.ensures life (suc k) next) in
    let number : suc k ≡ k + 1 = sym (add-one k) in (
      subst (λ (n : ℕ). Feeds life n c.cycle.new.self) number next,
      subst (λ (n : ℕ). c.loop-cycles.ones ≡ ones_of (rows_after life n)) number (now.1 ∙ sym same),
    )
