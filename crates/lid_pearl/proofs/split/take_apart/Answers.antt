use Rattle.std.proofs.Common.{rules, ◌≡◌, ◌<◌, ◌∷◌, ℕ, true, false, length, sym, ◌∙◌, ap, subst, arith}
use Rattle.std.specs.List.{AllByRecursion}
use Rattle.std.specs.Vec.Iter.{into_iter_items}
use Rattle.lid_design.specs.declared.FlatCover.{FlatCover}
use Rattle.lid_design.specs.Flat.{IsFlatCover}
use Rattle.lid_strict_engine.specs.Rows.{bit_at}
use Rattle.lid_pearl.specs.Inside.{is_picked}
use Rattle.lid_pearl.proofs.Picking.{nothing_left, picked_none, picked_on, picked_all}
use Rattle.lid_pearl.proofs.split.take_apart.Goals as goal

abbrev IsBelow : ℕ → FlatCover → Type 0
IsBelow n c = AllByRecursion (λ k. k < n) c.ins × (c.out < n)

pub loop-cover-init : goal.loop-cover-init
loop-cover-init c =
    let given = c.into_iter-cover-iterator.ensures.into_iter_gives in
    let marks = c.args.marks.now in record {
      laid = c.in_ok-halves.ensures.laid;
      nets = c.in_ok-halves.ensures.nets;
      early = picked_none (is_picked (bit_at marks) true) _ _ _ c.in_ok-halves.ensures.none.0 given.0;
      late = picked_none (is_picked (bit_at marks) false) _ _ _ c.in_ok-halves.ensures.none.1 given.0;
      rules = subst (AllByRecursion IsFlatCover) (sym given.0) c.requires.rules;
      below = subst (AllByRecursion (IsBelow c.args.nets)) (sym given.0) c.requires.below;
      counted = search rules;
    }

pub push_half-requires-clause-laid : goal.push_half-requires-clause-laid
push_half-requires-clause-laid c = c.loop-cover.invariant.laid

pub push_half-requires-clause-nets : goal.push_half-requires-clause-nets
push_half-requires-clause-nets c =
    let nets = c.loop-cover.invariant.nets in (c.requires.size ∙ sym nets.0, c.requires.size ∙ sym nets.1)

pub push_half-requires-clause-rules : goal.push_half-requires-clause-rules
push_half-requires-clause-rules c = (subst (AllByRecursion IsFlatCover) c.in-Some.ensures.steps.0 c.loop-cover.invariant.rules).0

pub push_half-requires-clause-below : goal.push_half-requires-clause-below
push_half-requires-clause-below c =
    subst (λ (n : ℕ). IsBelow n c.in-Some.cover) (sym c.requires.size)
    (subst (AllByRecursion (IsBelow c.args.nets)) c.in-Some.ensures.steps.0 c.loop-cover.invariant.below).0

pub loop-cover-preserved : goal.loop-cover-preserved
loop-cover-preserved c =
    let old = c.loop-cover.invariant in
    let x = c.in-Some.cover in
    let steps : into_iter_items c.loop-cover.cover-iterator ≡ x ∷ into_iter_items c.next.new.self = c.in-Some.ensures.steps.0 in
    let new = c.in_ok-push_half.ensures in
    let m = bit_at c.args.marks.now in record {
      laid = new.laid;
      nets = (new.nets.0 ∙ old.nets.0, new.nets.1 ∙ old.nets.1);
      early = picked_on (is_picked m true) _ _ x _ _ _ new.early steps old.early;
      late = picked_on (is_picked m false) _ _ x _ _ _ new.late steps old.late;
      rules = (subst (AllByRecursion IsFlatCover) steps old.rules).1;
      below = (subst (AllByRecursion (IsBelow c.args.nets)) steps old.below).1;
      counted =
          (let was = old.counted in
          let gone = c.in-Some.ensures.steps.1 in
          let short = ap length steps in
          omega arith);
    }

pub returns-clause-laid : goal.returns-clause-laid
returns-clause-laid c = c.loop-cover.invariant.laid

pub returns-clause-nets : goal.returns-clause-nets
returns-clause-nets c = c.loop-cover.invariant.nets

pub returns-clause-early : goal.returns-clause-early
returns-clause-early c =
    picked_all (is_picked (bit_at c.args.marks.now) true) _ _ _ (nothing_left _ (sym c.loop-cover.invariant.counted ∙ c.in-None.ensures.steps.0)) c.loop-cover.invariant.early

pub returns-clause-late : goal.returns-clause-late
returns-clause-late c =
    picked_all (is_picked (bit_at c.args.marks.now) false) _ _ _ (nothing_left _ (sym c.loop-cover.invariant.counted ∙ c.in-None.ensures.steps.0)) c.loop-cover.invariant.late
