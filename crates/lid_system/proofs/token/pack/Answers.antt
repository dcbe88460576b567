use Rattle.std.proofs.Common.{◌≡◌, ◌<◌, ◌^◌, ℕ, length, map, drop, sym, ◌∙◌, ap, subst, arith}
use Rattle.lid_cover.specs.Masks.{packed}
use Rattle.lid_strict_engine.specs.Rows.{bit_at}
use Rattle.lid_strict_engine.specs.Truth.{is_set}
use Rattle.lid_strict_engine.proofs.Tabling.{later_below}
use Rattle.lid_system.proofs.Packing.{bit_of_port, packed_ports}
use Rattle.lid_system.proofs.token.pack.Goals as goal

pub with_bit-token-requires : goal.with_bit-token-requires
with_bit-token-requires c =
    let some : 0 < c.loop-left.left = omega (arith, c.loop-left-test.true) in
    subst (λ (n : ℕ). n < 2147483648) (sym c.loop-left.invariant.1) (later_below c.args.bits.now c.args.ports.now c.loop-left.left 31 (omega (arith, c.requires.few)) some)

pub returns-clause-bits : goal.returns-clause-bits
returns-clause-bits c j port here =
    let none : c.loop-left.left ≡ 0 = omega (arith, c.loop-left-test.false) in
    ap (λ (n : ℕ). is_set n j) (c.loop-left.invariant.1 ∙ ap (λ (n : ℕ). packed (map (bit_at c.args.bits.now) (drop n c.args.ports.now))) none)
    ∙ bit_of_port c.args.bits.now c.args.ports.now j port here

pub returns-clause-small : goal.returns-clause-small
returns-clause-small c =
    let none : c.loop-left.left ≡ 0 = omega (arith, c.loop-left-test.false) in
    let is = c.loop-left.invariant.1 ∙ ap (λ (n : ℕ). packed (map (bit_at c.args.bits.now) (drop n c.args.ports.now))) none in
    subst (λ (n : ℕ). n < 2 ^ length c.args.ports.now) (sym is) (packed_ports c.args.bits.now c.args.ports.now)
