use Rattle.std.proofs.Common.{◌≡◌, ◌++◌, ◌^◌, map, take, drop, true}
use Rattle.std.specs.List.{list_all}
use Rattle.lid_base.specs.Numbers.{value_below}
use Rattle.lid_stations_text.specs.Forms.{is_capacity_word}
use Rattle.lid_stations_text.proofs.form.push_named.Given as goal

abbrev pub invariant-loop-word : goal.invariant-loop-word
invariant-loop-word l = record {
  done : l.caps.items ≡ l.fn.caps.items ++ map (value_below (2 ^ 64)) (take l.word-index l.words);
  small : list_all is_capacity_word (drop l.word-index l.words) ≡ true;
}
