use Rattle.std.proofs.Common.{Bool, not, sym, ◌∙◌, ap, arith}
use Rattle.std.specs.List.{list_any}
use Rattle.lid_cover.specs.Cover.{same_bit}
use Rattle.lid_strict_tables.specs.Wide.{agrees_at}
use Rattle.lid_strict_tables.proofs.Masks.{set_not}
use Rattle.lid_strict_tables.proofs.Words.{word_is}
use Rattle.lid_strict_tables.proofs.word.word_at.Goals as goal

pub returns-then-on : goal.returns-then-on
returns-then-on c inputs many room rules =
    word_is inputs c.args.high c.found_at-found.result c.args.on c.args.cubes.now many room rules (omega arith)
    (λ i h. c.found_at-found.ensures i h ∙ ap (λ (b : Bool). same_bit b (list_any (agrees_at c.args.high i) c.args.cubes.now)) (sym c.if-on.true))

pub returns-else-on : goal.returns-else-on
returns-else-on c inputs many room rules =
    word_is inputs c.args.high _ c.args.on c.args.cubes.now many room rules (omega arith)
    (λ i h. set_not c.found_at-found.result i (omega arith) h ∙ ap not (c.found_at-found.ensures i h) ∙ ap (λ (b : Bool). same_bit b (list_any (agrees_at c.args.high i) c.args.cubes.now)) (sym c.if-on.false))
