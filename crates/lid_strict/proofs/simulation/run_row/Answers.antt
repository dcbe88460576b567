use Rattle.std.proofs.Common.{[], ◌++◌, ℕ, List, map, sym, ◌∙◌, ap, subst}
use Rattle.lid_base.specs.Lists.{Among}
use Rattle.lid_design.specs.declared.FlatCover.{FlatCover}
use Rattle.lid_design.specs.Flat.{IsRow, ReadEarlier}
use Rattle.lid_strict_engine.specs.Rows.{bit_at, AreRightAt, known_after}
use Rattle.lid_strict.specs.Layouts.{known_first}
use Rattle.lid_strict.proofs.simulation.run_row.Goals as goal

pub returns-clause-state : goal.returns-clause-state
returns-clause-state c = c.take_bits.ensures ∙ ap (map (bit_at c.settle_by_width.new.bits)) c.as_slice-3.ensures.value

pub returns-clause-bits : goal.returns-clause-bits
returns-clause-bits c row f read fits k settled =
    let p = c.args.layout.now in
    let held = c.put_bits.ensures.bits f [] (ap (map f) c.as_slice.ensures.value ∙ fits.latches) (λ k none. absurd none) in
    let held' = subst (λ (ks : List ℕ). AreRightAt f (ks ++ []) c.put_bits.new.bits) c.as_slice.ensures.value held in
    let put = c.put_bits-2.ensures.bits f (p.held.items ++ []) (ap (map f) c.as_slice-2.ensures.value ∙ fits.inputs ∙ sym read) held' in
    let put' = subst (λ (ks : List ℕ). AreRightAt f (ks ++ (p.held.items ++ [])) c.put_bits-2.new.bits) c.as_slice-2.ensures.value put in
    let same = sym c.requires.engine.covers in
    c.settle_by_width.ensures.bits f (known_first p) (subst (λ (cs : List FlatCover). IsRow cs f) same fits.covers) (subst (ReadEarlier (known_first p)) same c.requires.runnable.earlier) put' k
    (subst (λ (cs : List FlatCover). Among k (known_after (known_first p) cs)) same settled)
