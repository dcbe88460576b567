use Rattle.std.proofs.Common.{ℕ, ◌+◌, ◌||◌, ◌++◌, Bool, List, length, nat_lt, arith, ap, sym, ◌∙◌, ◌≤◌}
use Rattle.std.proofs.Math.Bool.{or_assoc}
use Rattle.lid_base.specs.Lines.{ends_in_mark, words_in}
use Rattle.lid_blif.specs.Joins.{has_marked_word, has_longer_word}
use Rattle.lid_blif.specs.Places.{bytes_between, bytes_of_words}
use Rattle.lid_blif.proofs.Places.{part_length, pushed, first_of_part}
use Rattle.lid_blif.proofs.physical.push_words.Goals as goal

pub loop-bounds-preserved : goal.loop-bounds-preserved
loop-bounds-preserved c =
    let text = c.args.text.now in
    let to = c.args.to in
    let at = c.loop-bounds.at in
    let start = c.in-Some.bounds.start in
    let end = c.in-Some.bounds.end in
    let next = c.in-Some.bounds.next in
    let held = c.loop-bounds.invariant in
    let bounds = c.in-Some.ensures.within in
    let within : at + next ≤ to = omega (arith, bounds.3, part_length text at to c.requires.within.1, held.within) in
    let word = bytes_between text (at + start) (at + end) in
    let left = words_in (bytes_between text (at + next) to) in
    let cut = first_of_part text at to start end next bounds.0 bounds.1 within c.in-Some.ensures.words in
    record {
      within = within;
      words =
          pushed text c.loop-bounds.words.items _ (at + start) (at + end) left (omega (arith, within, bounds.1, c.requires.within.1)) c.in_ok-push.ensures.items
          ∙ ap (λ (ws : List (List ℕ)). bytes_of_words text c.loop-bounds.words.items ++ ws) (sym cut)
          ∙ held.words;
      marked =
          ap (λ (b : Bool). (c.loop-bounds.marked || b) || has_marked_word left) c.ends_in_mark-marked.ensures
          ∙ or_assoc c.loop-bounds.marked (ends_in_mark word) (has_marked_word left)
          ∙ ap (λ (ws : List (List ℕ)). c.loop-bounds.marked || has_marked_word ws) (sym cut)
          ∙ held.marked;
      long =
          or_assoc c.loop-bounds.long (nat_lt c.args.longest (length word)) (has_longer_word c.args.longest left)
          ∙ ap (λ (ws : List (List ℕ)). c.loop-bounds.long || has_longer_word c.args.longest ws) (sym cut)
          ∙ held.long;
    }
