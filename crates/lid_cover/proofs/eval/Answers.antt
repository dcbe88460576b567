use Rattle.std.proofs.Common.{ℕ, List, ◌∙◌, ap, sym}
use Rattle.std.specs.List.{list_any}
use Rattle.lid_cover.specs.declared.Cube.{Cube}
use Rattle.lid_cover.specs.Masks.{is_met}
use Rattle.lid_cover.proofs.Masking.{met_value}
use Rattle.lid_cover.proofs.eval.Goals as goal

pub returns : goal.returns
returns c = λ inputs long bits.
    met_value c.args.cover.now c.requires inputs long c.any_met.result
    (c.any_met.ensures
    ∙ ap (λ (cubes : List Cube). list_any (is_met c.args.bits) cubes) c.as_slice.ensures
    ∙ ap (λ (n : ℕ). list_any (is_met n) c.args.cover.now.cubes) (sym bits))
