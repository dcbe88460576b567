-- The board and the actors are those of a setup in which no actor has begun.
use Rattle.lid_walk_machine.specs.Machine.{begun}
use Rattle.lid_texts_packed.specs.Input.{input_of}
use Rattle.lid_walk.proofs.Opening.{setup_of}
use Rattle.lid_walk.proofs.walk.Walk.start_over.Goals as goal

pub adopt-requires : goal.adopt-requires
adopt-requires c =
    let q = c.requires in
    let own = setup_of c.args.system.now c.args.placement.now (input_of c.args.rows) q.system q.fits q.few q.wide (c.systems_have_one_table.ensures.some c.args.system.now q.system) in (
      own.0,
      begun,
      own.1.rules,
      c.in_ok-actors.ensures own.0 own.1,
      c.in_ok-board.ensures own.0 own.1,
    )

pub returns : goal.returns
returns c = λ m of. c.adopt.ensures m begun of.rules (c.in_ok-actors.ensures m of) (c.in_ok-board.ensures m of)
