-- The row that the sink makes is the one that is given.
use Rattle.std.proofs.Common.{Bool, List, length, set, refl, ◌∙◌, ap}
use Rattle.std.proofs.lemmas.List.{set-set, with_items_is}
use Rattle.lid_shell.proofs.part.Given.receive.Goals as goal

pub returns : goal.returns
returns c =
    let rows = c.args.self.now.rows.items in
    let place = c.args.self.now.count in
    let written = with_items_is c.into_vec-row.result c.give.new.into (c.give.ensures.wide ∙ c.as_mut_slice.ensures.len) in
    record {
      columns = refl;
      count = refl;
      row = c.give.new.into;
      makes = c.give.ensures.row;
      wide =
          c.give.ensures.wide
          ∙ ap length (c.as_mut_slice.ensures.value ∙ c.into_vec-row.ensures ∙ c.replace.ensures.value ∙ c.index_mut.ensures.value)
          ∙ c.requires.wide place _ c.requires.room;
      rows = set-set rows place c.replace.new.dest c.from_vec.result ∙ ap (λ (row : List Bool). set rows place row) (c.from_vec.ensures ∙ written);
    }
