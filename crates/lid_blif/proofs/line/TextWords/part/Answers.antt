use Rattle.std.proofs.Common.{ap, ◌∙◌, take, drop}
use Rattle.lid_blif.specs.Places.{bytes_of_words}
use Rattle.lid_blif.proofs.Places.{bytes_of_front, bytes_of_back}
use Rattle.lid_blif.proofs.line.TextWords.part.Goals as goal

pub returns : goal.returns
returns c =
    let all = c.self.inside in
    let text = all.text.now in
    let start = c.args.start in
    let count = c.args.count in
    ap (bytes_of_words text) (c.front.ensures ∙ ap (take count) (c.back.ensures ∙ ap (drop start) c.as_slice.ensures.value))
    ∙ bytes_of_front text (drop start all.words.items) count
    ∙ ap (take count) (bytes_of_back text all.words.items start ∙ ap (drop start) c.self.view_is)
