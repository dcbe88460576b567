use Rattle.std.proofs.Common.{◌≡◌, false, length, map, sym, ◌∙◌, arith}
use Rattle.std.proofs.lemmas.List.{ext_get_or, get_or-map, length-map}
use Rattle.lid_texts.specs.RowsText.{bit_char}
use Rattle.lid_texts_packed.proofs.writer.print_bits.Goals as goal

pub returns : goal.returns
returns c =
    let row = c.args.row.now in
    let many : length c.loop-place.into ≡ length row = c.loop-place.invariant.0 ∙ c.requires in
    ext_get_or 0 c.loop-place.into (map bit_char row) (many ∙ sym (length-map row bit_char))
    (λ j less. c.loop-place.invariant.1 j (omega (arith, less, many, c.loop-place-test.false)) ∙ sym (get_or-map bit_char row j false 0 (omega (arith, less, many))))
