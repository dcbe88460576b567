use Rattle.std.proofs.Common.{sym, ◌∙◌, ap, arith}
use Rattle.lid_station.specs.Boards.{Facts}
use Rattle.lid_station.proofs.Words.{word_nothing}
use Rattle.lid_station.proofs.PlainStations.{here_fill, here_drain, stands_set}
use Rattle.lid_station.proofs.plain.PlainBoardStations.look_in.Goals as goal

pub returns-else-pair-clause-found : goal.returns-else-pair-clause-found
returns-else-pair-clause-found c streams f stands at = sym (word_nothing _ _ _ _ (omega arith))

pub returns-else-pair-clause-again : goal.returns-else-pair-clause-again
returns-else-pair-clause-again c m =
    let here = here_drain c.args.self.now.pairs.items c.args.station c.index_mut-pair.result.now m.0 c.index_mut-pair.ensures.value m.1 in
    let seen = sym (ap (λ (f : Facts). f.mark) here.1) ∙ m.2 in
    let more = c.index_mut-pair.result.now.token_there seen in
    omega arith

pub returns-else-pair-clause-exact : goal.returns-else-pair-clause-exact
returns-else-pair-clause-exact c f d at_fill at_drain =
    let filled = ap (λ (f : Facts). f.passed) (here_fill c.args.self.now.pairs.items c.args.station c.index_mut-pair.result.now f c.index_mut-pair.ensures.value at_fill).1 in
    let drained = ap (λ (f : Facts). f.passed) (here_drain c.args.self.now.pairs.items c.args.station c.index_mut-pair.result.now d c.index_mut-pair.ensures.value at_drain).1 in
    let ordered = c.index_mut-pair.result.now.ordered in
    ((λ _. omega arith), (λ _. tt))

pub returns-else-pair-clause-kept : goal.returns-else-pair-clause-kept
returns-else-pair-clause-kept c streams stands =
    let here = here_drain c.args.self.now.pairs.items c.args.station c.index_mut-pair.result.now c.requires.0 c.index_mut-pair.ensures.value c.requires.1 in
    stands_set c.args.self.now.pairs.items c.args.station c.index_mut-pair.result.now streams stands (stands c.args.station c.index_mut-pair.result.now here.0)

pub returns-else-pair-clause-drained : goal.returns-else-pair-clause-drained
returns-else-pair-clause-drained c f at =
    let here = here_drain c.args.self.now.pairs.items c.args.station c.index_mut-pair.result.now f c.index_mut-pair.ensures.value at in
    let start = ap (λ (f : Facts). f.start) here.1 in
    omega arith
