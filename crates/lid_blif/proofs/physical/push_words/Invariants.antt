use Rattle.std.proofs.Common.{◌≡◌, ◌-◌, ◌≤◌, ◌||◌, ◌++◌}
use Rattle.lid_base.specs.Lines.{words_in}
use Rattle.lid_blif.specs.Joins.{has_marked_word, has_longer_word}
use Rattle.lid_blif.specs.Places.{bytes_between, bytes_of_words}
use Rattle.lid_blif.proofs.physical.push_words.Given as goal

abbrev pub invariant-loop-bounds : goal.invariant-loop-bounds
invariant-loop-bounds l = record {
  within : l.at ≤ l.to;
  words : bytes_of_words l.text l.words.items ++ words_in (bytes_between l.text l.at l.to) ≡ bytes_of_words l.text l.fn.words.items ++ words_in (bytes_between l.text l.from l.to);
  marked : (l.marked || has_marked_word (words_in (bytes_between l.text l.at l.to))) ≡ has_marked_word (words_in (bytes_between l.text l.from l.to));
  long : (l.long || has_longer_word l.longest (words_in (bytes_between l.text l.at l.to))) ≡ has_longer_word l.longest (words_in (bytes_between l.text l.from l.to));
}

abbrev pub decreases-loop-bounds : goal.decreases-loop-bounds
decreases-loop-bounds l = l.to - l.at
