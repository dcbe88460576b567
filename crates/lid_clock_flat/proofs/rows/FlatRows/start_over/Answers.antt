-- It begins with the first row, and nobody is held.
use Rattle.std.proofs.Common.{◌≡◌, ℕ, min, List, Bool, [], length, get_or, sym, ◌∙◌, ap, subst, arith}
use Rattle.std.specs.Prelude.{option_map, slice_get}
use Rattle.std.proofs.lemmas.Option.{slice_get-get_or}
use Rattle.lid_base.proofs.Lists.{all_at}
use Rattle.lid_shell_laws.specs.Setups.{IsInputRow}
use Rattle.lid_clock.specs.Lives.{StartsSo}
use Rattle.lid_stall.specs.Runs.{IsHeldBy}
use Rattle.lid_texts_packed.specs.Input.{input_of}
use Rattle.lid_clock_flat.specs.Clocks.{RanFlat}
use Rattle.lid_clock_flat.proofs.Unheld.{free_by}
use Rattle.lid_clock_flat.proofs.rows.FlatRows.start_over.Goals as goal

one_at_most : (n : ℕ) → min n 1 ≡ min 1 n
one_at_most n = omega arith

pub returns : goal.returns
returns c l free of stations =
    let bits = input_of c.args.rows in
    let count = c.len-count.result in
    let many : length l.setup.input ≡ count = ap length free.input ∙ sym c.len-count.ensures in
    let first = c.first_of-first.ensures bits (sym c.len-count.ensures) (c.as_slice.ensures.value ∙ c.in_ok-row.ensures) in
    let starts : StartsSo l c.args.placed.now.system c.args.placed.now.placement count (option_map (λ row. row.now) c.first_of-first.result) = record {
      rules = free.rules;
      of = of;
      stations = stations;
      many = many;
      begins = ap (λ (rows : List (List Bool)). slice_get rows 0) free.input ∙ sym first;
    } in
    record {
      free = free;
      room = λ some. subst (IsInputRow l.setup.system) (sym c.in_ok-row.ensures)
          (all_at (IsInputRow l.setup.system) l.setup.input 0 (get_or bits 0 []) free.rules.wide
          (ap (λ (rows : List (List Bool)). slice_get rows 0) free.input ∙ slice_get-get_or bits 0 [] some));
      ran = subst (λ (g : ℕ). RanFlat l 0 g c.in_ok-clock.clock) (sym (c.min.ensures ∙ one_at_most count)) (c.in_ok-clock.ensures l starts (subst (IsHeldBy l) (sym (c.from_vec-none.ensures ∙ c.new.ensures.items)) (free_by l free.nobody)));
    }
