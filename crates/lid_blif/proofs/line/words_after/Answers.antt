use Rattle.std.proofs.Common.{ap, ◌∙◌, drop}
use Rattle.lid_blif.specs.Places.{bytes_of_words}
use Rattle.lid_blif.proofs.Places.{bytes_of_back}
use Rattle.lid_blif.proofs.line.words_after.Goals as goal

pub returns : goal.returns
returns c =
    let words = c.words.inside in
    ap (bytes_of_words words.text.now) c.back.ensures ∙ bytes_of_back words.text.now words.words.now c.args.count ∙ ap (drop c.args.count) c.words.view_is
