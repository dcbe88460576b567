use Rattle.std.proofs.Common.{◌≡◌, ℕ, ◌≤◌, Bool, List, Option, None}
use Rattle.lid_base.specs.declared.outside.Fetch.{Fetch}
use Rattle.lid_texts_feed.specs.Fetching.{ScansBy, Knows, left_of}
use Rattle.lid_texts_feed.proofs.counting.count_all.Given as goal

abbrev pub invariant-loop-text : goal.invariant-loop-text
invariant-loop-text g l = record {
  knows : (columns : List (List ℕ)) (outs : ℕ) (known : List (List Bool)) → Knows (g.S.Shelf.held l.fn.shelf l.fn.name) columns outs l.fn.text l.fn.text.count known
      → (now : List (List Bool)) × Knows (g.S.Shelf.held l.fn.shelf l.fn.name) columns outs l.text l.text.count now;
  came : (columns : List (List ℕ)) (outs : ℕ) (known : List (List Bool)) (first : Option (List Fetch)) → Knows (g.S.Shelf.held l.fn.shelf l.fn.name) columns outs l.fn.text l.fn.text.count known
      → ScansBy g.S.Shelf.whole (g.S.Shelf.held l.fn.shelf l.fn.name) columns outs None l.fn.name first (g.S.Shelf.fetches l.fn.shelf) l.fn.text
      → ScansBy g.S.Shelf.whole (g.S.Shelf.held l.fn.shelf l.fn.name) columns outs None l.fn.name first (g.S.Shelf.fetches l.shelf) l.text;
  still : (q : List ℕ) → g.S.Shelf.faults l.shelf q ≡ g.S.Shelf.faults l.fn.shelf q;
  kept : g.S.Shelf.held l.shelf ≡ g.S.Shelf.held l.fn.shelf;
  grows : (q : List ℕ) → g.S.Shelf.faults l.fn.shelf q ≤ g.S.Shelf.faults l.shelf q;
}

abbrev pub decreases-loop-text : goal.decreases-loop-text
decreases-loop-text g l = left_of l.text l.text.count
