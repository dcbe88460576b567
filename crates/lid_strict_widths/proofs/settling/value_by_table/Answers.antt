use Rattle.std.proofs.Common.{◌<◌, map, subst, sym, ◌∙◌, ap, arith}
use Rattle.std.proofs.lemmas.List.{length-map}
use Rattle.lid_strict_engine.specs.Rows.{bit_at}
use Rattle.lid_strict_engine.specs.Truth.{is_set}
use Rattle.lid_strict_widths.proofs.Going.{table_exact, small_bits}
use Rattle.lid_strict_widths.proofs.settling.value_by_table.Goals as goal

pub bit_of-requires : goal.bit_of-requires
bit_of-requires g c = subst (λ n. n < 64) (sym c.pack.ensures) (small_bits c.args.bits.now c.args.nets.now c.requires.few)

pub returns : goal.returns
returns g c cover is wide =
    let long = length-map c.args.nets.now (bit_at c.args.bits.now) in
    let few = c.requires.few in
    c.bit_of.ensures ∙ ap (is_set c.args.table) c.pack.ensures ∙ table_exact c.args.table cover (map (bit_at c.args.bits.now) c.args.nets.now) is (omega arith) (omega arith)
