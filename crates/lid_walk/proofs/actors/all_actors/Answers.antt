-- The nodes and the movers are all actors.
use Rattle.lid_texts_packed.specs.Input.{input_of}
use Rattle.lid_walk.proofs.Pushed.{all_there}
use Rattle.lid_walk.proofs.actors.all_actors.Goals as goal

pub returns : goal.returns
returns c = λ m of. all_there c.args.placed.now (input_of c.args.rows) m c.push_movers.new.actors.items of c.in_ok-push_movers.ensures
