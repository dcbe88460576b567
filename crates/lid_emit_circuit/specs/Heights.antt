-- Heights of wires: a cover stands higher than what it reads.
use Rattle.std.specs.Prelude.{ℕ, suc, ◌+◌, ◌==◌, if◌then◌else◌, List, [], ◌∷◌, length}
use Rattle.lid_design.specs.declared.FlatCover.{FlatCover}
use Rattle.lid_emit_circuit.specs.Wires.{Wire, given, may, fire, grown, moved, now, kept, later, shown, valid, stop}
use Rattle.lid_emit_circuit.specs.Plans.{CircuitPlan, ends}
use Rattle.lid_emit_circuit.specs.Network.{sink}

-- 0 for a net that no cover drives, and else 1 more than the place of the cover
abbrev pub rank_in : ℕ → List FlatCover → ℕ → ℕ
rank_in at [] k = 0
rank_in at (c ∷ cs) k = if c.out == k then suc at else rank_in (suc at) cs k

abbrev pub rank : CircuitPlan → ℕ → ℕ → ℕ
rank q v k = rank_in 0 (q.flat v).covers k

abbrev pub cover_count : CircuitPlan → ℕ → ℕ
cover_count q v = length (q.flat v).covers

-- one more than all ends of an actor
abbrev pub past_ends : CircuitPlan → ℕ → ℕ
past_ends q v = length (ends q v) + 1

-- the height of a wire that is no successor of a level, a place or a latch
abbrev pub low : CircuitPlan → Wire → ℕ
low q (given j) = 1
low q (may v i) = i
low q (fire v) = past_ends q v
low q (now v k) = rank q v k
low q (later v k) = (cover_count q v + 1) + rank q v k
low q (shown j) = past_ends q (sink q)
low q valid = past_ends q (sink q)
low q stop = past_ends q 0
low q other = 0

abbrev pub height : CircuitPlan → Wire → ℕ
height q (grown s i) = (past_ends q (q.drainer s) + past_ends q (q.filler s)) + 1
height q (moved s i j) = (past_ends q (q.drainer s) + low q (q.put s j)) + 1
height q (kept v k) = (past_ends q v + cover_count q v) + 1
height q other = low q other
