use Rattle.std.proofs.Common.{◌≡◌, map, drop}
use Rattle.lid_top_words.specs.Jobs.{form_shown, form_among}
use Rattle.lid_top_words.proofs.form.find_form.Given as goal

-- none of the forms so far is the one that the word names
abbrev pub invariant-loop-form : goal.invariant-loop-form
invariant-loop-form l =
    form_among (map form_shown (drop l.form-index l.forms)) l.word
    ≡ form_among (map form_shown l.forms) l.word
