use Rattle.std.proofs.Common.{◌≡◌, ℕ, ◌≤◌, ◌<◌, Bool, List, Option, length}
use Rattle.lid_base.specs.declared.outside.Fetch.{Fetch}
use Rattle.lid_texts_feed.specs.Fetching.{ScansBy, HasGiven, FeedsBy, IsBelowAsked, left_of}
use Rattle.lid_texts_feed.proofs.feed.RowFeed.next.Given as goal

abbrev pub invariant-loop-self : goal.invariant-loop-self
invariant-loop-self g l = record {
  given : (columns : List (List ℕ)) (outs : ℕ) (given : List (List Bool)) → HasGiven (g.S.Shelf.held l.fn.shelf l.fn.self.name) columns outs l.fn.self given
      → HasGiven (g.S.Shelf.held l.fn.shelf l.fn.self.name) columns outs l.self given;
  came : (columns : List (List ℕ)) (outs : ℕ) (given : List (List Bool)) (asked : Option ℕ) (first : Option (List Fetch)) → HasGiven (g.S.Shelf.held l.fn.shelf l.fn.self.name) columns outs l.fn.self given → IsBelowAsked asked (length given)
      → FeedsBy g.S.Shelf.whole (g.S.Shelf.held l.fn.shelf l.fn.self.name) columns outs asked first (g.S.Shelf.fetches l.fn.shelf) l.fn.self
      → ScansBy g.S.Shelf.whole (g.S.Shelf.held l.fn.shelf l.fn.self.name) columns outs asked l.fn.self.name first (g.S.Shelf.fetches l.shelf) l.self.text;
  still : (q : List ℕ) → g.S.Shelf.faults l.shelf q ≡ g.S.Shelf.faults l.fn.shelf q;
  waits : 0 < length l.fn.self.rows.items → (l.self.rows.items ≡ l.fn.self.rows.items) × (l.shelf ≡ l.fn.shelf);
  name : l.self.name ≡ l.fn.self.name;
  kept : g.S.Shelf.held l.shelf ≡ g.S.Shelf.held l.fn.shelf;
  grows : (q : List ℕ) → g.S.Shelf.faults l.fn.shelf q ≤ g.S.Shelf.faults l.shelf q;
}

abbrev pub decreases-loop-self : goal.decreases-loop-self
decreases-loop-self g l = left_of l.self.text l.self.text.count
