use Rattle.std.proofs.Common.{suc, ◌+◌, set, sym, ◌∙◌, ap, subst, arith}
use Rattle.std.proofs.Math.ListN.{get_or-map}
use Rattle.std.proofs.lemmas.List.{map-set}
use Rattle.lid_clock.specs.Clocks.{HasKept, rows_in}
use Rattle.lid_clock.proofs.FreeLives.{few_cycles}
use Rattle.lid_clock.proofs.Kept.{given_some, given_none, place_wide, kept_on, kept_still}
use Rattle.lid_clock.proofs.clocked.Clocked.keep.Goals as goal

pub overflow_add-self : goal.overflow_add-self
overflow_add-self c =
    let l = c.requires.0 in
    let k = c.requires.1 in
    let goes = c.requires.2 in
    let few = few_cycles l c.args.self.now.input.now.bits goes.free k (goes.needed k (omega arith)) in
    omega (arith, goes.made)

pub copy_from_slice-requires : goal.copy_from_slice-requires
copy_from_slice-requires c =
    let l = c.requires.0 in
    let k = c.requires.1 in
    let goes = c.requires.2 in
    let old = c.args.self.now in
    let place = c.index_mut.result.now in
    let below = goes.needed k (omega arith) in
    let gives = given_some l goes.free.rules k c.in-Some.row.now (c.in-Some.ensures l (suc k) old.given goes.ran) in
    let here = ap (λ row. row.items) c.index_mut.ensures.value ∙ sym (get_or-map (λ row. row.items) old.outs.items old.done place) in
    place.ok.0 ∙ place_wide l goes.free.rules k old.done (rows_in old.outs) goes.has c.in-Some.row.now place.items gives below here

pub returns-in-Some : goal.returns-in-Some
returns-in-Some c l k goes =
    let old = c.args.self.now in
    let below = goes.needed k (omega arith) in
    let gives = given_some l goes.free.rules k c.in-Some.row.now (c.in-Some.ensures l (suc k) old.given goes.ran) in
    let rows = map-set (λ row. row.items) old.outs.items old.done c.copy_from_slice.new.self ∙ ap (set (rows_in old.outs) old.done) c.copy_from_slice.ensures.items in
    record {
      free = goes.free;
      ran = goes.ran;
      has = subst (HasKept l (suc k) (old.done + 1)) (sym rows) (kept_on l goes.free.rules k old.done (rows_in old.outs) goes.has c.in-Some.row.now gives below);
      made = omega (arith, goes.made);
      needed = goes.needed;
    }

pub returns-in_default : goal.returns-in_default
returns-in_default c l k goes =
    let old = c.args.self.now in
    record {
      free = goes.free;
      ran = goes.ran;
      has = kept_still l goes.free.rules k old.done (rows_in old.outs) goes.has (given_none l goes.free.rules k (c.in_default.ensures l (suc k) old.given goes.ran));
      made = omega (arith, goes.made);
      needed = goes.needed;
    }
