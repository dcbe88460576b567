use Rattle.std.proofs.Common.{Some, slice_get, ap, ◌∙◌}
use Rattle.lid_check_names.specs.Names.{with_name}
use Rattle.lid_check_table.proofs.Growing.{one_enters}
use Rattle.lid_check_table.proofs.entering.enter.Goals as goal

pub returns : goal.returns
returns c =
    let same = c.as_slice.ensures in
    let added = c.in_ok-place.ensures.added ∙ ap (with_name c.args.names.now) same in
    let here = ap (slice_get c.enter.new.self) c.in_ok-number_at.ensures ∙ c.in_ok-place.ensures.place ∙ ap Some same in
    one_enters c.args.names.now c.enter.new.self c.args.name.now c.args.numbers.now.items c.push.new.self.items c.in_ok-number_at.field-0 added here c.in_ok-push.ensures.items
