use Rattle.std.proofs.Common.{◌≡◌, ℕ, min, List, Bool, length, option_map, slice_get, refl, sym, ◌∙◌, ap, subst, arith}
use Rattle.lid_design.specs.Network.{Table}
use Rattle.lid_system.specs.declared.System.{System}
use Rattle.lid_system.specs.Systems.{Point}
use Rattle.lid_system.specs.Streams.{output_row}
use Rattle.lid_clock.specs.Lives.{StartsSo}
use Rattle.lid_clock.specs.Ran.{Ran}
use Rattle.lid_clock.specs.Clocks.{rows_in}
use Rattle.lid_clock.proofs.Kept.{kept_none}
use Rattle.lid_clock.proofs.clocked.Clocked.start.Goals as goal

one_at_most : (n : ℕ) → min n 1 ≡ min 1 n
one_at_most n = omega arith

pub returns : goal.returns
returns c l free of stations =
    let count = c.len-count.result in
    let many : length l.setup.input ≡ count = ap length free.input ∙ sym c.len-count.ensures in
    let starts : StartsSo l c.args.system.now c.args.placement.now count (option_map (λ row. row.now) c.first_of.result) = record {
      rules = free.rules;
      of = of;
      stations = stations;
      many = many;
      begins = ap (λ (rows : List (List Bool)). slice_get rows 0) free.input ∙ sym c.first_of.ensures;
    } in
    record {
      free = free;
      ran = subst (λ (g : ℕ). Ran l 0 g c.in_ok-stream.stream) (sym (c.min.ensures ∙ one_at_most count)) (c.in_ok-stream.ensures l starts);
      has = kept_none l (rows_in c.in_ok-outs.outs) count c.width_of.result c.in_ok-outs.ensures (sym many)
          (subst (λ (s : System). (b : Table Point) (t : ℕ) → c.width_of.result ≡ length (output_row s b t)) (sym of) c.width_of.ensures);
      made = refl;
      needed = λ j h. absurd (omega arith);
    }
