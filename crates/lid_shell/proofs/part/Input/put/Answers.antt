-- The row that is put is the one that was read.
use Rattle.std.proofs.Common.{◌≡◌, Bool, List, [], length, get_or, sym, ◌∙◌, ap}
use Rattle.std.specs.Prelude.{Some}
use Rattle.std.proofs.lemmas.List.{with_items_is}
use Rattle.std.proofs.lemmas.Option.{slice_get-get_or}
use Rattle.lid_texts_packed.specs.Input.{input_of}
use Rattle.lid_shell.proofs.part.Input.put.Goals as goal

pub read-requires-clause-wide : goal.read-requires-clause-wide
read-requires-clause-wide c = ap (λ (r : List Bool). length r) c.as_mut_slice.ensures.value ∙ c.requires.room ∙ sym c.requires.wide

pub put-requires-clause-row : goal.put-requires-clause-row
put-requires-clause-row c =
    let old = c.args.self.now.row in
    let long : length c.read.new.into ≡ old.len = ap (λ (r : List Bool). length r) c.read.ensures ∙ c.requires.wide ∙ sym c.requires.room ∙ sym old.ok.0 in
    ap (λ (r : List Bool). length r) (c.as_slice.ensures.value ∙ with_items_is old c.read.new.into long ∙ c.read.ensures) ∙ c.requires.wide

pub returns-clause-tokens : goal.returns-clause-tokens
returns-clause-tokens c = λ s b formed source table.
    let bits = input_of c.args.self.now.rows in
    let old = c.args.self.now.row in
    let long : length c.read.new.into ≡ old.len = ap (λ (r : List Bool). length r) c.read.ensures ∙ c.requires.wide ∙ sym c.requires.room ∙ sym old.ok.0 in
    let is : c.as_slice.result.now ≡ get_or bits c.args.row [] = c.as_slice.ensures.value ∙ with_items_is old c.read.new.into long ∙ c.read.ensures in
    c.put.ensures.tokens s bits b c.args.row formed source table (slice_get-get_or bits c.args.row [] c.requires.there ∙ ap (λ (r : List Bool). Some r) (sym is))

pub returns-clause-room : goal.returns-clause-room
returns-clause-room c =
    let old = c.args.self.now.row in
    let long : length c.read.new.into ≡ old.len = ap (λ (r : List Bool). length r) c.read.ensures ∙ c.requires.wide ∙ sym c.requires.room ∙ sym old.ok.0 in
    ap (λ (r : List Bool). length r) (with_items_is old c.read.new.into long ∙ c.read.ensures) ∙ c.requires.wide ∙ sym c.requires.room
