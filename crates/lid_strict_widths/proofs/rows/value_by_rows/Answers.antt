use Rattle.std.proofs.Common.{ℕ, length, map, ◌∙◌, ap}
use Rattle.std.specs.List.{list_any}
use Rattle.std.proofs.lemmas.List.{length-map}
use Rattle.lid_cover.specs.Masks.{is_met}
use Rattle.lid_cover.proofs.Masking.{met_value}
use Rattle.lid_strict_engine.specs.Rows.{bit_at}
use Rattle.lid_strict_engine.specs.Programs.{cover_with}
use Rattle.lid_strict_widths.proofs.rows.value_by_rows.Goals as goal

pub returns : goal.returns
returns c =
    met_value (cover_with (length c.args.nets.now) c.args.on c.args.cubes.now) c.requires.cover (map (bit_at c.args.bits.now) c.args.nets.now)
    (length-map c.args.nets.now (bit_at c.args.bits.now)) c.any_met.result
    (c.any_met.ensures ∙ ap (λ (n : ℕ). list_any (is_met n) c.args.cubes.now) c.pack_all.ensures)
