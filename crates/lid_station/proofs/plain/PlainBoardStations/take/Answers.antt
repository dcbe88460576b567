use Rattle.std.proofs.Common.{rules, slice_get, refl, sym, ◌∙◌, ap, arith}
use Rattle.lid_station.specs.Boards.{Facts, advanced}
use Rattle.lid_station.proofs.PlainStations.{here_drain, changes_drain, stands_set, holds_less, next_token}
use Rattle.lid_station.proofs.plain.PlainBoardStations.take.Goals as goal

pub overflow_add-pair : goal.overflow_add-pair
overflow_add-pair c =
    let here = here_drain c.args.self.now.pairs.items c.args.station c.index_mut-pair.result.now c.requires.0 c.index_mut-pair.ensures.value c.requires.1 in
    let seen = sym (ap (λ (f : Facts). f.mark) here.1) ∙ c.requires.2 in
    let more = c.index_mut-pair.result.now.token_there seen in
    omega arith

pub invariant_of-pair : goal.invariant_of-pair
invariant_of-pair c =
    let here = here_drain c.args.self.now.pairs.items c.args.station c.index_mut-pair.result.now c.requires.0 c.index_mut-pair.ensures.value c.requires.1 in
    let seen = sym (ap (λ (f : Facts). f.mark) here.1) ∙ c.requires.2 in
    let more = c.index_mut-pair.result.now.token_there seen in
    let within = c.index_mut-pair.result.now.within in
    record {
      two = c.index_mut-pair.result.now.two;
      few = c.index_mut-pair.result.now.few;
      small = search rules;
      ordered = omega arith;
      within = omega arith;
      token_there = λ e. absurd (cc);
      room_there = λ e. let room = c.index_mut-pair.result.now.room_there e in omega arith;
    }

pub returns-clause-changed : goal.returns-clause-changed
returns-clause-changed c =
    let here = here_drain c.args.self.now.pairs.items c.args.station c.index_mut-pair.result.now c.requires.0 c.index_mut-pair.ensures.value c.requires.1 in
    changes_drain c.args.self.now.pairs.items c.args.station c.index_mut-pair.result.now _ advanced here.0 refl refl

pub returns-clause-token : goal.returns-clause-token
returns-clause-token c streams f stands at =
    let here = here_drain c.args.self.now.pairs.items c.args.station c.index_mut-pair.result.now f c.index_mut-pair.ensures.value at in
    let marked = here_drain c.args.self.now.pairs.items c.args.station c.index_mut-pair.result.now c.requires.0 c.index_mut-pair.ensures.value c.requires.1 in
    let seen = sym (ap (λ (f : Facts). f.mark) marked.1) ∙ c.requires.2 in
    let more = c.index_mut-pair.result.now.token_there seen in
    let holds = stands c.args.station c.index_mut-pair.result.now here.0 in
    let next = next_token c.index_mut-pair.result.now (streams c.args.station) c.place_of-place.result c.index.result.now holds more c.place_of-place.ensures c.index.ensures in
    ap (λ (f : Facts). slice_get (streams c.args.station) f.passed) here.1 ∙ next

pub returns-clause-kept : goal.returns-clause-kept
returns-clause-kept c streams stands =
    let here = here_drain c.args.self.now.pairs.items c.args.station c.index_mut-pair.result.now c.requires.0 c.index_mut-pair.ensures.value c.requires.1 in
    let holds = stands c.args.station c.index_mut-pair.result.now here.0 in
    stands_set c.args.self.now.pairs.items c.args.station _ streams stands
    (holds_less c.index_mut-pair.result.now _ (streams c.args.station) holds refl refl refl)
