-- A cycle of the run is one of the flat clock, once its row is given.
use Rattle.std.proofs.Common.{sym, ◌∙◌, true≢false}
use Rattle.lid_clock.proofs.FreeLives.{is_over}
use Rattle.lid_texts_packed.specs.Input.{input_of}
use Rattle.lid_clock_flat.proofs.rows.FlatRows.cycle.Goals as goal

pub cycle-requires : goal.cycle-requires
cycle-requires c =
    let q = c.requires in
    let now = c.feed.ensures q.0 q.1 q.2 in
    (q.0, q.1, c.feed.new.self.given, now.0.ran, now.1)

pub returns-clause-made : goal.returns-clause-made
returns-clause-made c l k start made =
    let now = c.feed.ensures l k start in
    record { free = now.0.free; room = now.0.room; ran = c.cycle.ensures.ran l k c.feed.new.self.given now.0.ran made }

pub returns-clause-over : goal.returns-clause-over
returns-clause-over c l k start ended =
    let now = c.feed.ensures l k start in
    is_over l (input_of c.feed.new.self.input) now.0.free k now.0.ran.needed (λ below. true≢false (sym ((c.cycle.ensures.made l k c.feed.new.self.given now.0.ran).1 below) ∙ ended))
