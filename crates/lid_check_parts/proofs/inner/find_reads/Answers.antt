use Rattle.std.proofs.Common.{◌++◌, ◌∷◌, [], ℕ, List, map, sym, ◌∙◌, ap, zero-add}
use Rattle.std.specs.List.{range_with_len}
use Rattle.std.proofs.lemmas.List.{map-append}
use Rattle.std.proofs.lemmas.List.FromFn.{map-range_with_len_more}
use Rattle.lid_check_elab.specs.Elaborations.{driver_reads}
use Rattle.lid_check_parts.specs.Inner.{inner_driver}
use Rattle.lid_check_parts.proofs.inner.find_reads.Goals as goal

pub loop-k-preserved : goal.loop-k-preserved
loop-k-preserved c =
    let f = inner_driver c.args.drivers.now c.args.part in
    let k = c.loop-k.k in
    c.in_ok-push_reads_of.ensures
    ∙ ap (λ (xs : List (List ℕ)). xs ++ driver_reads (f k) ∷ []) c.loop-k.invariant
    ∙ sym (map-append driver_reads (map f (range_with_len 0 k)) (f k ∷ []))
    ∙ ap (map driver_reads) (sym (map-range_with_len_more f 0 k k (zero-add k)))
