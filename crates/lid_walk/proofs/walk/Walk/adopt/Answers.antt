use Rattle.lid_walk.proofs.Sounding.{is_sound}
use Rattle.lid_walk.proofs.walk.Walk.adopt.Goals as goal

pub returns : goal.returns
returns c m st rules are board = record {
  rules = rules;
  sound = is_sound m st rules c.args.actors.items are c.args.board.pairs.items board;
  actors = are;
  board = board;
}
