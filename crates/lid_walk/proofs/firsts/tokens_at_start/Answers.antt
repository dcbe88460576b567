-- Without rows no station starts with a token.
use Rattle.std.proofs.Common.{◌≡◌, ◌<◌, List, Bool, [], length, get_or, sym, ◌∙◌, ap, subst, arith}
use Rattle.std.specs.Prelude.{Some, slice_get}
use Rattle.std.proofs.lemmas.Option.{slice_get-get_or, slice_get_past}
use Rattle.lid_base.proofs.Lists.{all_at}
use Rattle.lid_base.proofs.Results.{if_ok}
use Rattle.lid_shell_laws.specs.Setups.{IsInputRow}
use Rattle.lid_stations.specs.Placed.{Placing, IsPlaced}
use Rattle.lid_texts_packed.specs.Input.{input_of}
use Rattle.lid_walk.proofs.Begun.{none_begin}
use Rattle.lid_walk.proofs.firsts.tokens_at_start.Goals as goal

pub returns-then-count-eq0 : goal.returns-then-count-eq0
returns-then-count-eq0 c =
    let placed : IsPlaced c.args.placed.now.system c.args.placed.now.placement = subst (λ (v : Placing). IsPlaced v.system v.placement) c.placed.view_is c.placed.invariant in
    let bits = input_of c.args.rows in
    let none = c.if-count-eq0.true in
    let count = c.len-count.ensures in
    if_ok c.no_tokens.result
    (λ firsts is. λ m of.
    none_begin m c.args.placed.now.system c.args.placed.now.placement bits c.len.result firsts.items placed.fits of
    (slice_get_past bits 0 (omega (arith, none, count))) (c.len.ensures ∙ ap (λ (v : Placing). length v.placement.caps) c.placed.view_is) is)
    c.no_tokens.ensures

pub tokens_of-requires : goal.tokens_of-requires
tokens_of-requires c =
    let bits = input_of c.args.rows in
    let some = c.if-count-eq0.false in
    let count = c.len-count.ensures in
    let there : 0 < length bits = omega (arith, some, count) in
    record {
      row =
          subst (IsInputRow c.args.placed.now.system) (sym (c.as_slice.ensures.value ∙ c.in_ok-row.ensures))
          (all_at (IsInputRow c.args.placed.now.system) bits 0 (get_or bits 0 []) c.requires (slice_get-get_or bits 0 [] there));
    }

pub returns : goal.returns
returns c =
    let bits = input_of c.args.rows in
    let some = c.if-count-eq0.false in
    let count = c.len-count.ensures in
    let there : 0 < length bits = omega (arith, some, count) in
    let first : slice_get bits 0 ≡ Some c.as_slice.result.now = slice_get-get_or bits 0 [] there ∙ ap (λ (r : List Bool). Some r) (sym (c.as_slice.ensures.value ∙ c.in_ok-row.ensures)) in
    if_ok c.tokens_of.result
    (λ firsts are. λ m of.
    are m (record { rules = of.rules; system = of.system; placement = of.placement; first = ap (λ (xs : List (List Bool)). slice_get xs 0) of.input ∙ first }))
    c.tokens_of.ensures
