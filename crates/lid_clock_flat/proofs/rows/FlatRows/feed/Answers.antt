use Rattle.std.proofs.Common.{◌≡◌, ◌<◌, ℕ, List, Bool, [], length, get_or, sym, ◌∙◌, ap, subst, arith}
use Rattle.std.specs.Prelude.{Some, slice_get}
use Rattle.std.proofs.lemmas.List.{with_items_is}
use Rattle.std.proofs.lemmas.Option.{slice_get-get_or}
use Rattle.lid_base.proofs.Lists.{all_at}
use Rattle.lid_system.specs.declared.Node.TheVariants.{Source}
use Rattle.lid_shell_laws.specs.Setups.{IsInputRow}
use Rattle.lid_clock.specs.Lives.{Life, NeedsRow}
use Rattle.lid_clock.proofs.Steps.{row_there, fed}
use Rattle.lid_texts_packed.specs.Input.{input_of}
use Rattle.lid_clock_flat.specs.declared.rows.FlatRows.{FlatRows}
use Rattle.lid_clock_flat.specs.Feeds.{Feeds}
use Rattle.lid_clock_flat.proofs.rows.FlatRows.feed.Goals as goal

-- the row that is lacking, and the room for it
module _ (l : Life) (k : ℕ) (x : FlatRows) (goes : Feeds l k x) (needs : NeedsRow l k x.given) where
  there : x.given < length (input_of x.input)
  there = row_there l (input_of x.input) goes.free k x.given needs

  next : slice_get l.setup.input x.given ≡ Some (get_or (input_of x.input) x.given [])
  next = ap (λ (rows : List (List Bool)). slice_get rows x.given) goes.free.input ∙ slice_get-get_or (input_of x.input) x.given [] there

  wide : IsInputRow l.setup.system (get_or (input_of x.input) x.given [])
  wide = all_at (IsInputRow l.setup.system) l.setup.input x.given (get_or (input_of x.input) x.given []) goes.free.rules.wide next

  fits : (source : (columns : List (List ℕ)) × (slice_get l.setup.system.nodes 0 ≡ Some (Source columns))) → length x.row.items ≡ length (get_or (input_of x.input) x.given [])
  fits source =
      let within = there in
      goes.room (omega (arith, within)) source.0 source.1 ∙ sym (wide source.0 source.1)

pub read-requires-clause-row : goal.read-requires-clause-row
read-requires-clause-row c =
    let l = c.requires.0 in
    let k = c.requires.1 in
    let goes = c.requires.2 in
    let x = c.args.self.now in
    there l k x goes ((c.needs.ensures l k x.given goes.ran).0 c.if-needs.true)

pub read-requires-clause-wide : goal.read-requires-clause-wide
read-requires-clause-wide c =
    let l = c.requires.0 in
    let k = c.requires.1 in
    let goes = c.requires.2 in
    let x = c.args.self.now in
    ap (λ (row : List Bool). length row) c.as_mut_slice.ensures.value
    ∙ fits l k x goes ((c.needs.ensures l k x.given goes.ran).0 c.if-needs.true) (c.shells_stand_between_source_and_sink.ensures.first l.setup.system goes.free.rules.system)

pub overflow_add-self : goal.overflow_add-self
overflow_add-self c =
    let l = c.requires.0 in
    let k = c.requires.1 in
    let goes = c.requires.2 in
    let x = c.args.self.now in
    let within = there l k x goes ((c.needs.ensures l k x.given goes.ran).0 c.if-needs.true) in
    let same = ap (λ (rows : List (List Bool)). length rows) goes.free.input in
    omega (arith, within, same, goes.free.rules.few)

pub give-requires : goal.give-requires
give-requires c =
    let l = c.requires.0 in
    let k = c.requires.1 in
    let goes = c.requires.2 in
    let x = c.args.self.now in
    let needs = (c.needs.ensures l k x.given goes.ran).0 c.if-needs.true in
    let same = fits l k x goes needs (c.shells_stand_between_source_and_sink.ensures.first l.setup.system goes.free.rules.system) in
    let long : length c.read.new.into ≡ x.row.len = ap (λ (row : List Bool). length row) c.read.ensures ∙ sym same ∙ sym x.row.ok.0 in (
      l,
      k,
      x.given,
      goes.ran,
      needs,
      subst (IsInputRow l.setup.system) (sym (c.as_slice.ensures.value ∙ with_items_is x.row c.read.new.into long ∙ c.read.ensures)) (wide l k x goes needs),
    )

pub returns-then-needs : goal.returns-then-needs
returns-then-needs c l k goes =
    let x = c.args.self.now in
    let needs = (c.needs.ensures l k x.given goes.ran).0 c.if-needs.true in
    let same = fits l k x goes needs (c.shells_stand_between_source_and_sink.ensures.first l.setup.system goes.free.rules.system) in
    let long : length c.read.new.into ≡ x.row.len = ap (λ (row : List Bool). length row) c.read.ensures ∙ sym same ∙ sym x.row.ok.0 in
    let read = with_items_is x.row c.read.new.into long ∙ c.read.ensures in (
      record {
        free = goes.free;
        room = λ some. subst (IsInputRow l.setup.system) (sym read) (wide l k x goes needs);
        ran = c.give.ensures l k x.given goes.ran (next l k x goes needs ∙ ap (λ (row : List Bool). Some row) (sym (c.as_slice.ensures.value ∙ read)));
      },
      fed l k x.given needs,
    )
