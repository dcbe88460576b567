use Rattle.lid_shell_laws.proofs.Turns.{fires, rests, holds_few}
use Rattle.lid_shell_laws.proofs.laws.actors_fire_by_the_rule.Goals as goal

pub returns : goal.returns
returns c = record {
  fires = λ s p rows held k v well fits h free may. fires s p well fits rows held k v h free may;
  rests = λ s p rows held k v well fits h why. rests s p well fits rows held k v why;
  few = λ s p rows held k station well fits h. holds_few s p well fits rows held k station h;
}
