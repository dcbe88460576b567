use Rattle.std.proofs.Common.{◌≡◌, map, drop}
use Rattle.lid_top_words.specs.Jobs.{range_shown, range_among}
use Rattle.lid_top_words.proofs.range.find_range.Given as goal

-- none of the ranges so far is the one that the word names
abbrev pub invariant-loop-range : goal.invariant-loop-range
invariant-loop-range l =
    range_among (map range_shown (drop l.range-index l.ranges)) l.word
    ≡ range_among (map range_shown l.ranges) l.word
