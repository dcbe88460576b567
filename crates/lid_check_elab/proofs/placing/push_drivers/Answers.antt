use Rattle.std.proofs.Common.{◌≡◌, ℕ, ◌+◌, ◌<◌, ◌++◌, List, map, drop, get_or, Option, Some, arith, slice_get, length, refl, sym, ◌∙◌, ap, subst}
use Rattle.std.proofs.lemmas.Option.{slice_get_read}
use Rattle.std.specs.Option.{option_map_or}
use Rattle.lid_design.specs.Network.{from_input}
use Rattle.lid_check_elab.specs.Elaborations.{shown_driver}
use Rattle.lid_check_elab.specs.Templates.{shown_local, seen_around, placed_driver}
use Rattle.std.specs.List.{All}
use Rattle.lid_check_elab.specs.declared.template.LocalDriver.{LocalDriver}
use Rattle.lid_check_elab.specs.Scopes.{picked_driver, IsSmallAt}
use Rattle.lid_check_elab.proofs.Steps.{pushed_more}
use Rattle.lid_check_elab.proofs.placing.push_drivers.Goals as goal

pub loop-pick-preserved : goal.loop-pick-preserved
loop-pick-preserved c =
    let i = c.loop-pick.pick-index in
    let picks = c.args.picks.now in
    let all = c.args.locals.now in
    let local = c.index-locals-pick.result in
    let driver = picked_driver c.args.judged.now c.args.base.start c.args.base.offsets.now (seen_around c.args.base.around) all in
    let here : slice_get all (get_or picks i 0) ≡ Some local = slice_get_read all (length all) (get_or picks i 0) local refl (below_at all picks i c.requires.picks c.loop-pick-test.true) c.index-locals-pick.is in
    let shown : shown_driver c.args.judged.now c.in_ok-place_driver.field-0 ≡ driver (get_or picks i 0) =
    c.in_ok-place_driver.ensures ∙ sym (ap (λ (o : Option LocalDriver). option_map_or (λ x. placed_driver c.args.base.start c.args.base.offsets.now (seen_around c.args.base.around) (shown_local c.args.judged.now x)) o (from_input 0)) here) in
    ap (λ ds. map (shown_driver c.args.judged.now) ds ++ map driver (drop (i + 1) picks)) c.in_ok-push.ensures.items
    ∙ pushed_more (shown_driver c.args.judged.now) driver c.loop-pick.drivers.items c.in_ok-place_driver.field-0 picks i _ c.loop-pick-test.true shown c.loop-pick.invariant
  where
    below_at : (all : List LocalDriver) (picks : List ℕ) (i : ℕ) → All (λ pick. pick < length all) picks → i < length picks → get_or picks i 0 < length all
    below_at all picks i each below = search (arith, each)

pub place_driver-requires : goal.place_driver-requires
place_driver-requires c = record {
  start = c.requires.start;
  small =
      let i = c.loop-pick.pick-index in
      let picks = c.args.picks.now in
      let all = c.args.locals.now in
      let here : slice_get all (get_or picks i 0) ≡ Some c.index-locals-pick.result = slice_get_read all (length all) (get_or picks i 0) c.index-locals-pick.result refl (c.requires.picks i 0 c.loop-pick-test.true) c.index-locals-pick.is in
      subst (λ (o : Option LocalDriver). IsSmallAt c.args.judged.now c.args.base.offsets.now (seen_around c.args.base.around) o) here (c.requires.small i 0 c.loop-pick-test.true);
}
