use Rattle.std.proofs.Common.{rules, ◌≡◌, ℕ, List, Some, ◌*◌, ◌<◌, length, replicate, get_or, sym, ◌∙◌, ap, subst}
use Rattle.std.specs.Prelude.{Option, slice_get}
use Rattle.std.specs.List.{All}
use Rattle.std.proofs.lemmas.List.{length-replicate}
use Rattle.std.proofs.lemmas.Option.{slice_get-get_or}
use Rattle.lid_board.specs.Starts.{AreStreamsFor}
use Rattle.lid_station_tests.proofs.Still.{begins_same, stands_same}
use Rattle.lid_station_tests.proofs.board.start_same.Goals as goal

pub start-requires-clause-course : goal.start-requires-clause-course
start-requires-clause-course c =
    let stream = c.args.course.now.stream.now in
    let token : ℕ = get_or stream 0 0 in
    let firsts_are : c.in-Ok.firsts.items ≡ replicate c.args.course.now.stations (Some token) = search rules in
    let small : All (λ t. t < 2147483648) stream = c.is_stream.ensures.small (search rules) in
    let some : 0 < length stream = c.is_stream.ensures.some (search rules) in
    let next : slice_get stream 0 ≡ Some token = slice_get-get_or stream 0 0 some in
    let begins = begins_same c.args.course.now.stations token stream next (search rules) small in
    subst (λ (fs : List (Option ℕ)). AreStreamsFor fs (replicate c.args.course.now.stations stream)) (sym (c.as_slice.ensures.value ∙ firsts_are)) begins

pub returns-in-Ok-start-clause-stands : goal.returns-in-Ok-start-clause-stands
returns-in-Ok-start-clause-stands c =
    let token : ℕ = get_or c.args.course.now.stream.now 0 0 in
    let firsts_are : c.in-Ok.firsts.items ≡ replicate c.args.course.now.stations (Some token) = search rules in
    stands_same _ c.args.course.now.stations c.args.course.now.stream.now
    (c.in-Ok-start.ensures.many ∙ ap (λ (fs : List (Option ℕ)). 2 * length fs) (c.as_slice.ensures.value ∙ firsts_are) ∙ ap (λ (n : ℕ). 2 * n) (length-replicate c.args.course.now.stations (Some token)))
    c.in-Ok-start.ensures.stands
