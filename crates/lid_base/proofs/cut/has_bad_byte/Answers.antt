use Rattle.std.proofs.Common.{ℕ, not, sym, ap, ◌∙◌, ◌||◌, Bool, true, false, ◌≡◌, List}
use Rattle.std.specs.List.{list_any}
use Rattle.lid_base.specs.Lines.{is_allowed, ends_in_mark, content_of, words_of, has_bad_byte}
use Rattle.lid_base.proofs.cut.has_bad_byte.Goals as goal

abbrev has_stray : List ℕ → Bool
has_stray bytes = list_any (λ (b : ℕ). not (is_allowed b)) bytes

pub returns-then-has_stray_byte : goal.returns-then-has_stray_byte
unfolding has_bad_byte
returns-then-has_stray_byte c =
    let stray : true ≡ has_stray (content_of c.args.line.now) = sym c.if-has_stray_byte.true ∙ c.has_stray_byte.ensures ∙ ap has_stray c.content_of.ensures in
    c.if-has_stray_byte.true ∙ ap (λ (b : Bool). b || list_any ends_in_mark (words_of c.args.line.now)) stray

pub returns-else-has_stray_byte : goal.returns-else-has_stray_byte
unfolding has_bad_byte
returns-else-has_stray_byte c =
    let stray : false ≡ has_stray (content_of c.args.line.now) = sym c.if-has_stray_byte.false ∙ c.has_stray_byte.ensures ∙ ap has_stray c.content_of.ensures in
    c.has_marked_word.ensures ∙ ap (list_any ends_in_mark) c.words_part.ensures ∙ ap (λ (b : Bool). b || list_any ends_in_mark (words_of c.args.line.now)) stray
