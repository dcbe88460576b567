use Rattle.std.proofs.Common.{◌≡◌, ◌&&◌, drop}
use Rattle.std.specs.List.{list_all}
use Rattle.lid_strict_engine.specs.Rows.{bit_at}
use Rattle.lid_pearl.proofs.split.are_marked.Given as goal

abbrev pub invariant-loop-net : goal.invariant-loop-net
invariant-loop-net l = (l.all && list_all (bit_at l.marks) (drop l.net-index l.nets)) ≡ list_all (bit_at l.marks) l.nets
