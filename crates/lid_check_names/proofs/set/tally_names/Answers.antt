use Rattle.std.proofs.Common.{◌≡◌, ℕ, List, ◌<◌, nat_lt, count_by, length, take, arith, sym, ◌∙◌, ap}
use Rattle.std.proofs.lemmas.List.{take_all}
use Rattle.std.specs.Str.{bytes_eq}
use Rattle.lid_check_names.specs.Names.{is_among, texts}
use Rattle.lid_check_names.proofs.Lists.{came_more, again_more, texts_more, among_counted}
use Rattle.lid_check_names.proofs.set.tally_names.Goals as goal

pub loop-name-preserved : goal.loop-name-preserved
loop-name-preserved c =
    let h : c.loop-name.name-index < length c.args.names.now = omega arith in
    let now = texts_more c.args.names.now c.loop-name.name-index _ h in
    let came = came_more c.loop-name.all c.loop-name.twice (texts (take c.loop-name.name-index c.args.names.now)) _ c.loop-name.invariant.0 c.loop-name.invariant.1 in
    let again = again_more c.loop-name.all c.loop-name.twice (texts (take c.loop-name.name-index c.args.names.now)) _ c.loop-name.invariant.0 c.loop-name.invariant.1 in (
      (λ n. ap (is_among n) c.in_ok-note.ensures.all ∙ came n ∙ ap (λ (ns : List (List ℕ)). nat_lt 0 (count_by (bytes_eq n) ns)) (sym now)),
      (λ n. ap (is_among n) c.in_ok-note.ensures.twice ∙ again n ∙ ap (λ (ns : List (List ℕ)). nat_lt 1 (count_by (bytes_eq n) ns)) (sym now)),
    )

pub returns : goal.returns
returns c =
    let whole : texts (take c.loop-name.name-index c.args.names.now) ≡ texts c.args.names.now = ap texts (take_all c.loop-name.name-index c.args.names.now (omega arith)) in
    record {
      each = λ n. c.loop-name.invariant.0 n ∙ ap (λ (ns : List (List ℕ)). nat_lt 0 (count_by (bytes_eq n) ns)) whole ∙ sym (among_counted n (texts c.args.names.now));
      again = λ n. c.loop-name.invariant.1 n ∙ ap (λ (ns : List (List ℕ)). nat_lt 1 (count_by (bytes_eq n) ns)) whole;
    }
