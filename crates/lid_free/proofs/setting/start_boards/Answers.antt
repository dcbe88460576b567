use Rattle.std.proofs.Common.{◌≡◌, sym, ◌∙◌, ap, subst}
use Rattle.std.specs.List.{AllByRecursion}
use Rattle.lid_stations.specs.Placed.{Placing}
use Rattle.lid_shell_laws.specs.Setups.{IsInputRow}
use Rattle.lid_walk_machine.specs.Setups.{plan}
use Rattle.lid_texts_packed.specs.Input.{input_of}
use Rattle.lid_walk.specs.Firsts.{first_tokens}
use Rattle.lid_walk.specs.Setups.{IsSetupOf}
use Rattle.lid_walk.proofs.Opening.{setup_of}
use Rattle.lid_free.proofs.Beginning.{streams_are, begins_so, plain_so, started_so}
use Rattle.lid_free.proofs.setting.start_boards.Goals as goal

pub start-requires-2-clause-course : goal.start-requires-2-clause-course
start-requires-2-clause-course c =
    let s = c.placed.inside.system.now in
    let p = c.placed.inside.placement.now in
    let rows = input_of c.args.rows in
    let is = c.placed.invariant in
    let wide = subst (λ (v : Placing). AllByRecursion (IsInputRow v.system) rows) (sym c.placed.view_is) c.requires.wide in
    let m = setup_of s p rows is.formed is.fits c.requires.few wide (c.runs_go_by_rules.ensures.some s is.formed) in
    let of = subst (λ (v : Placing). IsSetupOf m.0 v.system v.placement rows) c.placed.view_is m.1 in
    begins_so m.0 m.1.rules c.as_slice-2.result.now _ (c.as_slice-2.ensures.value ∙ c.in_ok-firsts.ensures.are m.0 of) (streams_are m.0 s p rows m.1 _ _)

pub returns : goal.returns
returns c = λ m of.
    let s = c.placed.inside.system.now in
    let p = c.placed.inside.placement.now in
    let rows = input_of c.args.rows in
    let inside = subst (λ (v : Placing). IsSetupOf m v.system v.placement rows) (sym c.placed.view_is) of in
    let firsts : c.as_slice.result.now ≡ first_tokens (plan m) = c.as_slice.ensures.value ∙ c.in_ok-firsts.ensures.are m of in
    let firsts_too : c.as_slice-2.result.now ≡ first_tokens (plan m) = c.as_slice-2.ensures.value ∙ c.in_ok-firsts.ensures.are m of in
    let caps : c.as_slice-caps.result.now ≡ m.placement.caps = c.as_slice-caps.ensures ∙ ap (λ p. p.caps) (sym inside.placement) in
    record {
      board = started_so m of.rules c.as_slice-2.result.now c.as_slice-caps.result.now _ c.in_ok-board.board c.in_ok-board.keeper firsts_too caps
          (streams_are m s p rows inside _ _)
          c.in_ok-board.ensures.many c.in_ok-board.ensures.all c.in_ok-board.ensures.fills c.in_ok-board.ensures.drains c.in_ok-board.ensures.stands;
      of = c.in_ok-board.ensures.of;
      all = c.in_ok-board.ensures.all;
      plain = plain_so m of.rules c.as_slice.result.now c.as_slice-caps.result.now c.in_ok-plain.plain.pairs.items firsts caps c.in_ok-plain.ensures.started;
    }
