use Rattle.std.proofs.Common.{◌≡◌, ℕ, ◌+◌, ◌*◌, ◌-◌, ◌/◌, ◌%◌, length, take, refl, sym, ◌∙◌, ap, subst, arith}
use Rattle.lid_station.specs.Boards.{Facts, HasFullBits}
use Rattle.lid_station.specs.Words.{word, word_number}
use Rattle.lid_station.proofs.PlainStations.{here_fill, here_drain, stands_set, told_word, told_bits}
use Rattle.lid_station.proofs.plain.PlainBoardStations.look_out.Goals as goal

pub returns-else-pair-len-clause-found : goal.returns-else-pair-len-clause-found
returns-else-pair-len-clause-found c streams f stands at =
    let here = here_fill c.args.self.now.pairs.items c.args.station c.index_mut-pair.result.now f c.index_mut-pair.ensures.value at in
    let holds = stands c.args.station c.index_mut-pair.result.now here.0 in
    let within = c.index_mut-pair.result.now.within in
    let len = c.len.ensures in
    let spot = c.place_of.ensures in
    let full : c.index_mut-pair.result.now.put ≡ c.index_mut-pair.result.now.taken + length c.index_mut-pair.result.now.places.items = omega arith in
    let even : c.place_of.result / 2 * 2 ≡ 2 * ((c.index_mut-pair.result.now.put % length c.index_mut-pair.result.now.places.items) / 2) =
    ap (λ (k : ℕ). k / 2 * 2) spot ∙ omega arith in
    let told = told_word c.index_mut-pair.result.now (streams c.args.station) ((c.index_mut-pair.result.now.put % length c.index_mut-pair.result.now.places.items) / 2)
    (c.place_of.result / 2 * 2) (c.place_of.result / 2 * 2 + 1) c.shown.result c.shown-else-pair-len.result
    holds full even (ap (λ (k : ℕ). k + 1) even) c.shown.ensures c.shown-else-pair-len.ensures in
    let P : Facts → Type 0 = λ (g : Facts). c.shown.result + 4294967296 * c.shown-else-pair-len.result ≡ word g.cap (take g.passed (streams c.args.station)) (take (g.passed - g.cap) (streams c.args.station)) (word_number g.cap g.passed) in
    subst P (sym here.1) told

pub returns-else-pair-len-clause-full : goal.returns-else-pair-len-clause-full
returns-else-pair-len-clause-full c f at =
    let here = here_fill c.args.self.now.pairs.items c.args.station c.index_mut-pair.result.now f c.index_mut-pair.ensures.value at in
    let spot = c.place_of.ensures in
    let even : c.place_of.result / 2 * 2 ≡ 2 * ((c.index_mut-pair.result.now.put % length c.index_mut-pair.result.now.places.items) / 2) =
    ap (λ (k : ℕ). k / 2 * 2) spot ∙ omega arith in
    let bits = told_bits c.index_mut-pair.result.now ((c.index_mut-pair.result.now.put % length c.index_mut-pair.result.now.places.items) / 2)
    (c.place_of.result / 2 * 2) (c.place_of.result / 2 * 2 + 1) c.shown.result c.shown-else-pair-len.result
    refl even (ap (λ (k : ℕ). k + 1) even) c.shown.ensures c.shown-else-pair-len.ensures in
    let P : Facts → Type 0 = λ (g : Facts). HasFullBits g.cap (word_number g.cap g.passed) (c.shown.result + 4294967296 * c.shown-else-pair-len.result) in
    subst P (sym here.1) bits

pub returns-else-pair-len-clause-filled : goal.returns-else-pair-len-clause-filled
returns-else-pair-len-clause-filled c f at =
    let here = here_fill c.args.self.now.pairs.items c.args.station c.index_mut-pair.result.now f c.index_mut-pair.ensures.value at in
    let cap = ap (λ (f : Facts). f.cap) here.1 in
    let passed = ap (λ (f : Facts). f.passed) here.1 in
    let len = c.len.ensures in
    omega arith

pub returns-else-pair-len-clause-again : goal.returns-else-pair-len-clause-again
returns-else-pair-len-clause-again c m =
    let here = here_fill c.args.self.now.pairs.items c.args.station c.index_mut-pair.result.now m.0 c.index_mut-pair.ensures.value m.1 in
    let seen = sym (ap (λ (f : Facts). f.mark) here.1) ∙ m.2 in
    let more = c.index_mut-pair.result.now.room_there seen in
    omega arith

pub returns-else-pair-len-clause-exact : goal.returns-else-pair-len-clause-exact
returns-else-pair-len-clause-exact c f d at_fill at_drain =
    let here = here_fill c.args.self.now.pairs.items c.args.station c.index_mut-pair.result.now f c.index_mut-pair.ensures.value at_fill in
    let filled = ap (λ (f : Facts). f.passed) here.1 in
    let cap = ap (λ (f : Facts). f.cap) here.1 in
    let drained = ap (λ (f : Facts). f.passed) (here_drain c.args.self.now.pairs.items c.args.station c.index_mut-pair.result.now d c.index_mut-pair.ensures.value at_drain).1 in
    let within = c.index_mut-pair.result.now.within in
    ((λ _. omega arith), (λ _. tt))

pub returns-else-pair-len-clause-kept : goal.returns-else-pair-len-clause-kept
returns-else-pair-len-clause-kept c streams stands =
    let here = here_fill c.args.self.now.pairs.items c.args.station c.index_mut-pair.result.now c.requires.0 c.index_mut-pair.ensures.value c.requires.1 in
    stands_set c.args.self.now.pairs.items c.args.station c.index_mut-pair.result.now streams stands (stands c.args.station c.index_mut-pair.result.now here.0)
