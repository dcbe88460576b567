use Rattle.std.proofs.Common.{ℕ, ◌-◌, List, [], length, take}
use Rattle.lid_texts_feed.specs.Packing.{HasPacked}
use Rattle.lid_texts_feed.proofs.packing.Packing.take_all.Given as goal

abbrev pub invariant-loop-at : goal.invariant-loop-at
invariant-loop-at l = (columns : List (List ℕ)) (outs : ℕ) → HasPacked columns outs [] l.fn.self → HasPacked columns outs (take l.at l.text) l.self

abbrev pub decreases-loop-at : goal.decreases-loop-at
decreases-loop-at l = length l.text - l.at
