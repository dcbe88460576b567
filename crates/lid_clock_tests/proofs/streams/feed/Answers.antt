use Rattle.std.proofs.Common.{◌≡◌, Bool, List, get_or, sym, subst}
use Rattle.lid_shell_laws.specs.Setups.{IsInputRow}
use Rattle.lid_clock_tests.proofs.Feeding.{row_there, row_next, row_wide, fed}
use Rattle.lid_clock_tests.proofs.streams.feed.Goals as goal

pub bounds-rows-given : goal.bounds-rows-given
bounds-rows-given c =
    let l = c.requires.0 in
    let k = c.requires.1 in
    let needs = (c.needs.ensures l k c.args.given c.requires.3).0 c.if-not-needs.false in
    row_there l c.args.rows.now c.requires.2 k c.args.given needs

pub give-requires : goal.give-requires
give-requires c =
    let l = c.requires.0 in
    let k = c.requires.1 in
    let needs = (c.needs.ensures l k c.args.given c.requires.3).0 c.if-not-needs.false in
    let row = c.index-rows-given.result in (
      l,
      k,
      c.args.given,
      c.requires.3,
      needs,
      subst (IsInputRow l.setup.system) (sym c.as_slice.ensures) (row_wide l c.args.rows.now c.requires.2 k c.args.given needs c.requires.3.rules row c.index-rows-given.is),
    )

pub returns : goal.returns
returns c l k is ran =
    let rows = c.args.rows.now in
    let g = c.args.given in
    let needs = (c.needs.ensures l k g ran).0 c.if-not-needs.false in
    let row = c.as_slice.result.now in
    let at : row ≡ get_or rows g row = subst (λ (r : List Bool). r ≡ get_or rows g r) (sym c.as_slice.ensures) c.index-rows-given.is in
    (c.give.ensures l k g ran (row_next l rows is k g needs row at), fed l k g needs)
