use Rattle.std.proofs.Common.{◌≡◌, ℕ, ◌+◌, ◌-◌, ◌≤◌, List, length}
use Rattle.lid_base_io.specs.Calls.{CameAs, FetchesSoFar}
use Rattle.lid_base_io.proofs.Fetches.{IsStart}
use Rattle.lid_base_io.proofs.fetching.fetch_pieces.Given as goal

abbrev pub invariant-loop-bytes : goal.invariant-loop-bytes
invariant-loop-bytes g l = record {
  start : IsStart (g.S.Shelf.held l.fn.shelf l.fn.name) l.bytes.items;
  short : length l.bytes.items ≤ l.fn.limit + 1;
  calls : CameAs (g.S.Shelf.fetches l.fn.shelf) (g.S.Shelf.fetches l.shelf) (FetchesSoFar g.S.Shelf.whole (g.S.Shelf.held l.fn.shelf l.fn.name) l.fn.name l.fn.limit (length l.bytes.items));
  size : length l.buffer ≡ 65536;
  still : (q : List ℕ) → g.S.Shelf.faults l.shelf q ≡ g.S.Shelf.faults l.fn.shelf q;
  kept : g.S.Shelf.held l.shelf ≡ g.S.Shelf.held l.fn.shelf;
  grows : (q : List ℕ) → g.S.Shelf.faults l.fn.shelf q ≤ g.S.Shelf.faults l.shelf q;
}

abbrev pub decreases-loop-bytes : goal.decreases-loop-bytes
decreases-loop-bytes g l = l.fn.limit + 1 - length l.bytes.items
