use Rattle.std.proofs.Common.{◌≡◌, ◌+◌, ◌<◌, ◌^◌, ℕ, List, length, true}
use Rattle.lid_texts.specs.Scanned.{HasRead}
use Rattle.lid_texts.proofs.Scanning.{Taking}
use Rattle.lid_texts.proofs.scan.RowScan.feed.Given as goal

abbrev pub invariant-loop-left : goal.invariant-loop-left
invariant-loop-left l = record {
  taking : (bytes : List ℕ) → HasRead l.fn.self bytes → Taking l.fn.self.columns l.fn.self.outs bytes l.fn.piece l.left l.self.walk l.self.partial.items l.fn.into.items l.into.items;
  columns : l.self.columns ≡ l.fn.self.columns;
  outs : l.self.outs ≡ l.fn.self.outs;
  total : l.self.total ≡ l.fn.self.total + length l.fn.piece;
  few : l.fn.self.total + length l.fn.piece < 2 ^ 64;
  spent : l.self.spent ≡ true;
}

abbrev pub decreases-loop-left : goal.decreases-loop-left
decreases-loop-left l = length l.left
