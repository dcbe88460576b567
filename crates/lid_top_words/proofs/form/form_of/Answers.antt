use Rattle.std.proofs.Common.{◌≡◌, ◌∙◌, ap, sym, List, Some, option_map, option_and_then}
use Rattle.clap.specs.Walk.{first_of}
use Rattle.lid_top_words.specs.declared.table.TheConstants.{COMMAND}
use Rattle.lid_top_words.specs.Table.{Form, table}
use Rattle.lid_top_words.specs.Reading.{matches_in}
use Rattle.lid_top_words.specs.Jobs.{form_among, form_in}
use Rattle.lid_top_words.proofs.SameTable.{same_table}
use Rattle.lid_top_words.proofs.form.form_of.Goals as goal

pub returns-in-Some : goal.returns-in-Some
unfolding form_in
returns-in-Some c =
    let word = c.in-Some.word.now in
    let given : first_of COMMAND.now (matches_in c.args.given.now) ≡ Some word = sym c.value_of.ensures ∙ ap (option_map (λ s. s.now)) c.in-Some.is in
    c.find_form.ensures ∙ ap (λ (forms : List Form). form_among forms word) same_table
    ∙ sym (ap (option_and_then (form_among table)) given)
