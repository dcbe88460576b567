use Rattle.std.proofs.Common.{◌≡◌, ℕ, ◌<◌, length, slice_index, slice_index_or}
use Rattle.lid_graph.specs.Walks.{no_edge}
use Rattle.lid_rate.specs.Pieces.{IsImage}
use Rattle.lid_rate.proofs.pieces.piece_of.Given as goal

abbrev pub invariant-loop-k : goal.invariant-loop-k
invariant-loop-k l = record { long : length l.all.items ≡ l.k-index; images : (i : ℕ) → i < l.k-index → IsImage l.graph l.nodes (slice_index l.edges i) (slice_index_or l.all.items i no_edge) }
