use Rattle.std.proofs.Common.{rules, ◌≡◌, ℕ, List, length, refl, sym, ◌∙◌, ap, subst, arith}
use Rattle.atomic_table.specs.Table.{Me}
use Rattle.atomic_table.specs.declared.shared.Seat.{Seat}
use Rattle.lid_board.specs.Relation.{AreWithin}
use Rattle.lid_board.specs.Starts.{AreLaid}
use Rattle.lid_board.specs.Ties.{IsLaidTable}
use Rattle.lid_board.specs.declared.view.HandView.{HandView}
use Rattle.lid_board.proofs.Starting.{start_related, plan_laid, plan_tied, plan_early, plan_within, plan_fill, plan_drain, plan_stream, plan_long}
use Rattle.lid_board.proofs.board.Board.start.Goals as goal

pub lay_ground-requires : goal.lay_ground-requires
lay_ground-requires g c = record { same = c.requires.same; two = c.requires.two; few = c.requires.few; small = c.requires.small }

pub of_words-requires : goal.of_words-requires
of_words-requires g c =
    start_related c.args.firsts.now c.args.caps.now (g.C.Course.streams c.args.course.now) c.in_ok-key.key.me.0.ends c.in_ok-key.ensures.ends c.as_slice.result.now _ c.in_ok-key.key.me.0 refl c.requires.course c.requires.same c.requires.two c.requires.few
    (subst (λ (ws : List ℕ). AreLaid c.args.firsts.now c.args.caps.now ws (length c.args.firsts.now)) (sym c.as_slice.ensures.value) c.in_ok-ground.ensures.words)

pub invariant_of-board : goal.invariant_of-board
invariant_of-board g c = record {
  laid =
      let plan_is = ap (λ (k : Seat (Unit {0}) HandView). k.me.0.ends) c.in_ok-table.ensures.5 ∙ c.in_ok-key.ensures.ends in
      subst (λ (xs : List ℕ). IsLaidTable c.in_ok-table.table.shared.key.me.0.ends xs c.in_ok-ground.ground.starts.items c.in_ok-table.table.shared.table_id) (sym c.in_ok-ground.ensures.caps)
      (plan_laid c.args.firsts.now c.args.caps.now (g.C.Course.streams c.args.course.now) c.in_ok-table.table.shared.key.me.0.ends plan_is c.in_ok-ground.ground.starts.items c.in_ok-table.table.shared.table_id c.in_ok-ground.ground.words.items
      c.requires.many c.requires.same c.requires.two c.requires.few (search c.in_ok-ground.ensures.starts) c.in_ok-ground.ensures.words (c.in_ok-table.ensures.0 ∙ ap (λ (ws : List ℕ). length ws) c.as_slice.ensures.value) c.in_ok-table.ensures.1);
}

pub invariant_of-result : goal.invariant_of-result
invariant_of-result g c =
    let is = ap (λ (m : Me (Unit {0}) HandView). m.0.ends) c.in_ok-table.ensures.4 ∙ c.in_ok-key.ensures.ends in
    record {
      tied = plan_tied c.args.firsts.now c.args.caps.now (g.C.Course.streams c.args.course.now) c.in_ok-table.seat.me.0.ends is c.in_ok-ground.ground.ends.items c.in_ok-ground.ensures.ends;
      early = plan_early c.args.firsts.now c.args.caps.now (g.C.Course.streams c.args.course.now) c.in_ok-table.seat.me.0.ends is;
      no_slot = ap (λ (m : Me (Unit {0}) HandView). m.1) c.in_ok-table.ensures.4;
    }

pub returns-clause-steps : goal.returns-clause-steps
returns-clause-steps g c = ap (λ (m : Me (Unit {0}) HandView). m.0.steps) c.in_ok-table.ensures.4 ∙ c.in_ok-key.ensures.steps

pub returns-clause-fills : goal.returns-clause-fills
returns-clause-fills g c =
    let is = ap (λ (m : Me (Unit {0}) HandView). m.0.ends) c.in_ok-table.ensures.4 ∙ c.in_ok-key.ensures.ends in
    plan_fill c.args.firsts.now c.args.caps.now (g.C.Course.streams c.args.course.now) c.in_ok-table.seat.me.0.ends is

pub returns-clause-drains : goal.returns-clause-drains
returns-clause-drains g c =
    let is = ap (λ (m : Me (Unit {0}) HandView). m.0.ends) c.in_ok-table.ensures.4 ∙ c.in_ok-key.ensures.ends in
    plan_drain c.args.firsts.now c.args.caps.now (g.C.Course.streams c.args.course.now) c.in_ok-table.seat.me.0.ends is

pub returns-clause-stands : goal.returns-clause-stands
returns-clause-stands g c station inside =
    let is = ap (λ (k : Seat (Unit {0}) HandView). k.me.0.ends) c.in_ok-table.ensures.5 ∙ c.in_ok-key.ensures.ends in
    let long = plan_long c.args.firsts.now c.args.caps.now (g.C.Course.streams c.args.course.now) c.in_ok-table.table.shared.key.me.0.ends is in
    plan_stream c.args.firsts.now c.args.caps.now (g.C.Course.streams c.args.course.now) c.in_ok-table.table.shared.key.me.0.ends is station (omega arith)

pub returns-clause-many : goal.returns-clause-many
returns-clause-many g c =
    let is = ap (λ (k : Seat (Unit {0}) HandView). k.me.0.ends) c.in_ok-table.ensures.5 ∙ c.in_ok-key.ensures.ends in
    plan_long c.args.firsts.now c.args.caps.now (g.C.Course.streams c.args.course.now) c.in_ok-table.table.shared.key.me.0.ends is

pub returns-clause-of : goal.returns-clause-of
returns-clause-of g c =
    let plan_is = ap (λ (k : Seat (Unit {0}) HandView). k.me.0.ends) c.in_ok-table.ensures.5 ∙ c.in_ok-key.ensures.ends in
    let ends_are = ap (λ (m : Me (Unit {0}) HandView). m.0.ends) c.in_ok-table.ensures.4 in
    let same : c.in_ok-table.seat.me.0.ends ≡ c.in_ok-table.table.shared.key.me.0.ends = ends_are ∙ c.in_ok-key.ensures.ends ∙ sym plan_is in
    record {
      table = search rules;
      room = search rules;
      within =
          subst (AreWithin c.in_ok-table.table.shared.key.me.0.ends) (sym same)
          (plan_within c.args.firsts.now c.args.caps.now (g.C.Course.streams c.args.course.now) c.in_ok-table.table.shared.key.me.0.ends plan_is c.requires.course);
    }
