use Rattle.std.proofs.Common.{ap, ◌∙◌, take}
use Rattle.lid_blif.specs.Places.{bytes_of_words}
use Rattle.lid_blif.proofs.Places.{bytes_of_front}
use Rattle.lid_blif.proofs.line.words_before.Goals as goal

pub returns : goal.returns
returns c =
    let words = c.words.inside in
    ap (bytes_of_words words.text.now) c.front.ensures ∙ bytes_of_front words.text.now words.words.now c.args.count ∙ ap (take c.args.count) c.words.view_is
