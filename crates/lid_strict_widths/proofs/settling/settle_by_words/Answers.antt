use Rattle.std.proofs.Common.{◌≡◌, ◌+◌, ◌-◌, ◌<◌, ◌≤◌, ℕ, List, length, take, drop, subst, sym, ◌∙◌, ap, arith}
use Rattle.std.specs.List.{AllByRecursion}
use Rattle.std.proofs.lemmas.List.{length-set}
use Rattle.lid_base.proofs.Alls.{all_weaker}
use Rattle.lid_strict_engine.specs.Programs.{step_cover}
use Rattle.lid_strict_tables.specs.Wide.{IsWideTable}
use Rattle.lid_strict_widths.specs.Groups.{run_steps, run_covers, RightUpTo}
use Rattle.lid_strict_widths.proofs.Going.{hand_at, nets_at, value_at, is_wide, words_of_width, told_of, right_next}
use Rattle.lid_strict_widths.proofs.settling.settle_by_words.Goals as goal

pub overflow_add-nets : goal.overflow_add-nets
overflow_add-nets g c =
    let i = c.loop-i.i in
    let within = c.requires.group.within in
    let h = hand_at c.args.x.now i c.requires.is (omega arith) in
    let wide = c.requires.group.wide i h.s (omega arith) c.loop-i-test.true h.here in
    let at = c.loop-i.invariant.1 in
    let room = h.room in
    let small = c.args.x.now.reads.small in
    omega arith

pub offset_bounds-as_slice-place : goal.offset_bounds-as_slice-place
offset_bounds-as_slice-place g c =
    let i = c.loop-i.i in
    let within = c.requires.group.within in
    let h = hand_at c.args.x.now i c.requires.is (omega arith) in
    let wide = c.requires.group.wide i h.s (omega arith) c.loop-i-test.true h.here in
    let at = c.loop-i.invariant.1 in
    let room = h.room in
    let small = c.args.x.now.reads.small in
    let value : length c.as_slice.result.now ≡ length c.args.x.now.reads.items = ap (λ xs. length xs) c.as_slice.ensures.value in
    omega arith

pub slice_bounds-nets-end : goal.slice_bounds-nets-end
slice_bounds-nets-end g c =
    let i = c.loop-i.i in
    let within = c.requires.group.within in
    let h = hand_at c.args.x.now i c.requires.is (omega arith) in
    let wide = c.requires.group.wide i h.s (omega arith) c.loop-i-test.true h.here in
    let at = c.loop-i.invariant.1 in
    let room = h.room in
    let small = c.args.x.now.reads.small in
    let value : length c.as_slice.result.now ≡ length c.args.x.now.reads.items = ap (λ xs. length xs) c.as_slice.ensures.value in
    omega arith

pub value_by_words-value-requires-clause-below : goal.value_by_words-value-requires-clause-below
value_by_words-value-requires-clause-below g c =
    let i = c.loop-i.i in
    let within = c.requires.group.within in
    let h = hand_at c.args.x.now i c.requires.is (omega arith) in
    let wide = c.requires.group.wide i h.s (omega arith) c.loop-i-test.true h.here in
    let nets = nets_at c.args.x.now i c.loop-i.place c.args.group.width c.as_slice.result.now h c.loop-i.invariant.1 (sym wide) c.as_slice.ensures.value in
    let size : c.args.x.now.program.nets ≤ length c.loop-i.bits = subst (λ (n : ℕ). c.args.x.now.program.nets ≤ n) (sym c.loop-i.invariant.0) c.requires.size in
    all_weaker (λ k. k < c.args.x.now.program.nets) (λ k. k < length c.loop-i.bits) (take (c.loop-i.place + c.args.group.width - c.loop-i.place) (drop c.loop-i.place c.as_slice.result.now)) (λ k below. omega arith)
    (subst (AllByRecursion (λ k. k < c.args.x.now.program.nets)) (sym nets) h.below)

pub value_by_words-value-requires-clause-room : goal.value_by_words-value-requires-clause-room
value_by_words-value-requires-clause-room g c =
    let i = c.loop-i.i in
    let within = c.requires.group.within in
    let h = hand_at c.args.x.now i c.requires.is (omega arith) in
    let wide = c.requires.group.wide i h.s (omega arith) c.loop-i-test.true h.here in
    let table = told_of c.args.x.now.tables.items i h.table c.index.result.now h.is_table c.index.ensures in
    let tabled = (c.requires.group.kind i h.s (omega arith) c.loop-i-test.true h.here).0 c.requires.tabled in
    let is = subst (λ (words : List ℕ). IsWideTable words c.index.result.now (step_cover c.args.x.now.program.cubes.items h.s)) (sym c.as_slice-in-loop-i.ensures.value) (is_wide c.args.x.now i c.index.result.now h tabled table) in
    subst (λ (n : ℕ). c.index.result.now + n ≤ length c.as_slice-in-loop-i.result.now) (words_of_width h.s.width _ (wide ∙ c.requires.width)) is.room

pub bounds-bits-index : goal.bounds-bits-index
bounds-bits-index g c =
    let i = c.loop-i.i in
    let within = c.requires.group.within in
    let h = hand_at c.args.x.now i c.requires.is (omega arith) in
    let wide = c.requires.group.wide i h.s (omega arith) c.loop-i-test.true h.here in
    let out = told_of c.args.x.now.outs.items i h.s.out c.index-in-loop-i.result.now h.is_out c.index-in-loop-i.ensures in
    let below = h.step.out in
    let size : c.args.x.now.program.nets ≤ length c.loop-i.bits = subst (λ (n : ℕ). c.args.x.now.program.nets ≤ n) (sym c.loop-i.invariant.0) c.requires.size in
    omega arith

pub loop-i-preserved : goal.loop-i-preserved
loop-i-preserved g c =
    let i = c.loop-i.i in
    let within = c.requires.group.within in
    let h = hand_at c.args.x.now i c.requires.is (omega arith) in
    let wide = c.requires.group.wide i h.s (omega arith) c.loop-i-test.true h.here in
    let out = told_of c.args.x.now.outs.items i h.s.out c.index-in-loop-i.result.now h.is_out c.index-in-loop-i.ensures in
    let below = h.step.out in
    let size : c.args.x.now.program.nets ≤ length c.loop-i.bits = subst (λ (n : ℕ). c.args.x.now.program.nets ≤ n) (sym c.loop-i.invariant.0) c.requires.size in
    let nets = nets_at c.args.x.now i c.loop-i.place c.args.group.width c.as_slice.result.now h c.loop-i.invariant.1 (sym wide) c.as_slice.ensures.value in
    let table = told_of c.args.x.now.tables.items i h.table c.index.result.now h.is_table c.index.ensures in
    let tabled = (c.requires.group.kind i h.s (omega arith) c.loop-i-test.true h.here).0 c.requires.tabled in
    let is = subst (λ (words : List ℕ). IsWideTable words c.index.result.now (step_cover c.args.x.now.program.cubes.items h.s)) (sym c.as_slice-in-loop-i.ensures.value) (is_wide c.args.x.now i c.index.result.now h tabled table) in
    let value = value_at c.args.x.now i (IsWideTable c.as_slice-in-loop-i.result.now c.index.result.now) c.loop-i.bits (take (c.loop-i.place + c.args.group.width - c.loop-i.place) (drop c.loop-i.place c.as_slice.result.now)) c.value_by_words-value.result h is nets c.value_by_words-value.ensures in
    let next = h.next in
    let at = c.loop-i.invariant.1 in (
      length-set c.loop-i.bits c.index-in-loop-i.result.now c.value_by_words-value.result ∙ c.loop-i.invariant.0,
      omega arith,
      right_next (run_steps c.args.x.now) c.args.x.now.program.reads.items c.args.x.now.program.cubes.items h.s i c.args.group.start c.index-in-loop-i.result.now c.args.bits.now c.loop-i.bits c.value_by_words-value.result h.here (omega arith) out value c.loop-i.invariant.2,
    )

pub returns-clause-bits : goal.returns-clause-bits
returns-clause-bits g c = subst (λ (n : ℕ). RightUpTo (run_covers c.args.x.now) c.args.group.start c.args.bits.now n c.loop-i.bits) (let order = c.requires.group.order in omega arith) c.loop-i.invariant.2
