use Rattle.std.proofs.Common.{◌≡◌, ◌-◌, length}
use Rattle.lid_walk_machine.specs.Machine.{ends_at}
use Rattle.lid_shell.proofs.Along.{IsAlong}
use Rattle.lid_shell.proofs.Noting.{NotesSoFar}
use Rattle.lid_shell.proofs.actor.Actor.turn.Given as goal

abbrev pub invariant-loop-end : goal.invariant-loop-end
invariant-loop-end g l = record {
  along : IsAlong l.initial.self l.self (g.B.Stations.ends l.initial.board) (g.B.Stations.ends l.board) (g.B.Stations.stands l.initial.board) (g.B.Stations.stands l.board);
  begun : l.self.desk.position ≡ 0 → (l.self ≡ l.initial.self) × (l.board ≡ l.initial.board);
  notes : NotesSoFar l.initial.self (g.B.Stations.steps l.initial.board) (g.B.Stations.steps l.board);
  same : g.B.Stations.identity l.board ≡ g.B.Stations.identity l.initial.board;
}

abbrev pub decreases-loop-end : goal.decreases-loop-end
decreases-loop-end g l = ends_at (length l.self.desk.ins.items) (length l.self.desk.outs.items) - l.self.desk.position
