-- The first of some rows, and none of none.
use Rattle.std.proofs.Common.{◌<◌, List, Bool, [], length, sym, ◌∙◌, ap, arith}
use Rattle.std.specs.Prelude.{Some}
use Rattle.std.proofs.lemmas.Option.{slice_get-get_or, slice_get_past}
use Rattle.lid_clock_flat.proofs.rows.first_of.Goals as goal

pub returns-then-count-gt0 : goal.returns-then-count-gt0
returns-then-count-gt0 c = λ rows many is.
    let some = c.if-count-gt0.true in
    let there : 0 < length rows = omega (arith, some, many) in
    ap (λ (r : List Bool). Some r) is ∙ sym (slice_get-get_or rows 0 [] there)

pub returns-else-count-gt0 : goal.returns-else-count-gt0
returns-else-count-gt0 c = λ rows many is.
    let none = c.if-count-gt0.false in
    sym (slice_get_past rows 0 (omega (arith, none, many)))
