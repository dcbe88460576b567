use Rattle.std.proofs.Common.{◌+◌, ◌-◌, List, arith, ◌∙◌, ap}
use Rattle.lid_blif.specs.declared.cutting.LineSize.{LineSize}
use Rattle.lid_blif.specs.Places.{bytes_of_words}
use Rattle.lid_blif.specs.Joins.{lines_cut, words_counted}
use Rattle.lid_blif.proofs.Places.{words_length}
use Rattle.lid_blif.proofs.Sizes.{closed_some, words_counted_size}
use Rattle.lid_blif.proofs.cutting.Joined.close.Goals as goal

pub returns-clause-done : goal.returns-clause-done
returns-clause-done c =
    let joined = c.args.self.now in
    let words = bytes_of_words joined.text.now joined.words.items in
    ap (λ (sizes : List LineSize). lines_cut sizes words) c.in_ok-push.ensures.items
    ∙ closed_some joined.sizes.items words joined.number joined.start (c.len.result - joined.start) c.requires.joined.start
    (omega (arith, c.requires.joined.within, c.len.ensures, words_length joined.text.now joined.words.items)) (omega (arith, c.if-count-eq0.false))

pub returns-clause-joined : goal.returns-clause-joined
returns-clause-joined c =
    let joined = c.args.self.now in
    record {
      start =
          ap words_counted c.in_ok-push.ensures.items
          ∙ words_counted_size joined.sizes.items _
          ∙ ap (λ n. n + (c.len.result - joined.start)) c.requires.joined.start;
      within = omega (arith, c.requires.joined.within, c.len.ensures);
    }
