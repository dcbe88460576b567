use Rattle.std.proofs.Common.{◌≡◌, ◌<◌, ◌+◌, Bool, List, length, take, Some, slice_get, slice_index_or, refl, sym, ◌∙◌, ap, subst, arith}
use Rattle.std.specs.List.{AllByRecursion, list_all}
use Rattle.std.proofs.lemmas.List.{length-set}
use Rattle.std.proofs.lemmas.Option.{slice_get_read}
use Rattle.lid_base.proofs.Lists.{all_at}
use Rattle.lid_design.specs.declared.FlatCover.{FlatCover}
use Rattle.lid_strict_engine.specs.Rows.{bit_at}
use Rattle.lid_pearl.specs.Inside.{AreKnownMarks}
use Rattle.lid_pearl.proofs.Marking.{marked_next}
use Rattle.lid_pearl.proofs.split.mark_covers.Goals as goal

pub loop-i-preserved : goal.loop-i-preserved
loop-i-preserved c =
    let f = c.args.flat.now in
    let i = c.loop-i.i in
    let d = c.index-covers-i.result in
    let covers : c.as_slice-covers.result.now ≡ f.covers = c.as_slice-covers.ensures in
    let same : d ≡ slice_index_or f.covers i d = c.index-covers-i.is ∙ ap (λ (cs : List FlatCover). slice_index_or cs i d) covers in
    let long = ap length covers in
    let inside : i < length f.covers = omega arith in
    let at : slice_get f.covers i ≡ Some d = slice_get_read f.covers (length f.covers) i d refl inside same in
    let rules = c.requires.rules in
    let below = all_at (λ (c : FlatCover). AllByRecursion (λ k. k < f.nets) c.ins × (c.out < f.nets)) f.covers i d rules.below.covers at in
    let kept : length c.loop-i.marks ≡ length c.args.marks.now = c.loop-i.invariant.0 in
    let size = c.requires.size in
    let out : d.out < f.nets = below.1 in
    let room : d.out < length c.loop-i.marks = omega arith in
    let next = marked_next f rules c.loop-i.marks i d at room c.loop-i.invariant.1 in (
      ap length c.mark_cover.ensures ∙ length-set c.loop-i.marks d.out (list_all (bit_at c.loop-i.marks) d.ins) ∙ kept,
      subst (λ (ms : List Bool). AreKnownMarks f (take (i + 1) f.covers) (bit_at ms)) (sym c.mark_cover.ensures) next,
    )
