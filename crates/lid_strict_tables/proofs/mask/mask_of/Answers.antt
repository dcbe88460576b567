use Rattle.std.proofs.Common.{◌≡◌, ◌+◌, ◌&&◌, ℕ, suc, Bool, sym, ◌∙◌, ap, arith}
use Rattle.lid_cover.specs.Cover.{agrees}
use Rattle.lid_strict_engine.specs.Truth.{is_set, unpacked}
use Rattle.lid_strict_tables.proofs.Masks.{set_ones, set_and, fits_more, mask_is}
use Rattle.lid_strict_tables.proofs.mask.mask_of.Goals as goal

pub loop-input-init : goal.loop-input-init
loop-input-init c i h = set_ones i h

pub loop-input-preserved : goal.loop-input-preserved
loop-input-preserved c i h =
    let cube = c.args.cube in
    let j = c.loop-input.input in
    let next : suc j ≡ j + 1 = omega arith in
    set_and c.loop-input.mask c.allowed-mask.result i
    ∙ ap (λ (b : Bool). b && is_set c.allowed-mask.result i) (c.loop-input.invariant i h)
    ∙ ap (λ (b : Bool). agrees (unpacked j i) cube && b) (c.allowed-mask.ensures i h)
    ∙ sym (fits_more cube.care cube.value i j)
    ∙ ap (λ (n : ℕ). agrees (unpacked n i) cube) next

pub returns : goal.returns
returns c =
    let end : c.loop-input.input ≡ 6 = omega arith in
    mask_is c.loop-input.mask c.args.cube (omega arith) (λ i h. c.loop-input.invariant i h ∙ ap (λ (n : ℕ). agrees (unpacked n i) c.args.cube) end)
