use Rattle.std.proofs.Common.{slice_get, refl, sym, ◌∙◌, ap}
use Rattle.lid_station.specs.Boards.{Facts}
use Rattle.lid_station.proofs.PlainStations.{here_fill, stands_set, holds_more}
use Rattle.lid_station.proofs.plain.PlainBoardStations.put.Goals as goal

pub returns-clause-kept : goal.returns-clause-kept
returns-clause-kept c streams f stands at next =
    let here = here_fill c.args.self.now.pairs.items c.args.station c.index_mut-pair.result.now f c.index_mut-pair.ensures.value at in
    let marked = here_fill c.args.self.now.pairs.items c.args.station c.index_mut-pair.result.now c.requires.room.0 c.index_mut-pair.ensures.value c.requires.room.1 in
    let seen = sym (ap (λ (f : Facts). f.mark) marked.1) ∙ c.requires.room.2 in
    let room = c.index_mut-pair.result.now.room_there seen in
    let holds = stands c.args.station c.index_mut-pair.result.now here.0 in
    let after = ap (λ (f : Facts). slice_get (streams c.args.station) f.passed) (sym here.1) ∙ next in
    stands_set c.args.self.now.pairs.items c.args.station _ streams stands
    (holds_more c.index_mut-pair.result.now _ (streams c.args.station) c.place_of-place.result c.args.token holds room c.place_of-place.ensures after refl refl refl)
