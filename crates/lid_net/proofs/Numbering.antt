-- The numbers of the columns of a pearl's ports, and the pearl.
use Rattle.std.proofs.Common.{◌≡◌, ◌<◌, ◌≤◌, ◌+◌, ℕ, List, length, map, Result, Ok, Err, IfOk, sym, ◌∙◌, ap, subst, arith}
use Rattle.std.specs.List.{AllByRecursion, range_with_len}
use Rattle.std.proofs.lemmas.List.{length-map}
use Rattle.lid_design.specs.declared.Design.{Design}
use Rattle.lid_design.specs.declared.Model.{Model}
use Rattle.lid_design.specs.declared.Flat.{Flat}
use Rattle.lid_design.specs.Columns.{column, model_at, data_inputs, drivers}
use Rattle.lid_design.specs.Elaboration.{columns}
use Rattle.lid_design.specs.Flat.{IsFlat, latch_init}
use Rattle.lid_check_elab.specs.Elaborations.{column_at, shown_driver}
use Rattle.lid_check_parts.specs.declared.part.PearlPart.{PearlPart as Numbers}
use Rattle.lid_check_parts.specs.Standing.{StandsForAll}
use Rattle.lid_check_parts.proofs.Lists.{all_range}
use Rattle.lid_check_parts.specs.PearlParts.{IsPearlPart}
use Rattle.lid_check_parts.proofs.Columns.{inputs_are, outputs_are, ports_within, part_within}
use Rattle.lid_check.specs.Networks.{IsNetwork}
use Rattle.lid_check.specs.declared.network.Network.{Network}
use Rattle.lid_check.specs.Flats.{IsFlatOf}
use Rattle.lid_pearl.specs.Pearls.{View, IsReordered}
use Rattle.lid_net.specs.declared.ports.ShellPorts.{ShellPorts}
use Rattle.lid_net.specs.PearlParts.{AreShellPorts, AreNumberedPorts, IsPearlOf}
use Rattle.lid_base.proofs.Options.{same_some}

-- the ports of a pearl, whose columns have the numbers of its part
module _ (d : Design) (pearl : ℕ) (numbers : Numbers) (is : IsPearlPart d pearl numbers) where
  -- numbers of the part are numbers of columns
  below : (a n : ℕ) → numbers.start + numbers.nets ≤ length (columns d) → a + n ≤ numbers.nets → AllByRecursion (λ k. k < length (columns d)) (range_with_len (numbers.start + a) n)
  below a n within fits = all_range (λ k. k < length (columns d)) (numbers.start + a) n (λ k low high. omega arith)

  pub ports_numbered : (ports : ShellPorts) → AreNumberedPorts numbers ports → AreShellPorts d (length (columns d)) pearl ports
  ports_numbered ports numbered =
      let within = part_within d pearl numbers is in
      let fits = ports_within d pearl numbers is in
      record {
        path = is.of.path;
        here = is.of.here;
        model = is.of.model;
        body = is.of.body;
        ins = ap (map (column_at d)) numbered.ins ∙ inputs_are d pearl numbers is;
        outs = ap (map (column_at d)) numbered.outs ∙ outputs_are d pearl numbers is;
        ins_below = subst (AllByRecursion (λ k. k < length (columns d))) (sym numbered.ins) (subst (λ (n : ℕ). AllByRecursion (λ k. k < length (columns d)) (range_with_len n numbers.inputs)) (let e : numbers.start + 0 ≡ numbers.start = omega arith in e) (below 0 numbers.inputs within (omega arith)));
        outs_below = subst (AllByRecursion (λ k. k < length (columns d))) (sym numbered.outs) (below numbers.inputs numbers.outputs within fits);
      }

-- the pearl of a flat part
pub pearl_is : {E : Type 0} (d : Design) (i : ℕ) (f : Flat) (flat : IsFlatOf d i f) (r : Result View E) → IfOk r (λ p. IsReordered f p.flat) → IfOk r (λ p. IsFlat p.flat) → IfOk r (λ p. p.state ≡ map latch_init f.latches)
    → ((g : Flat) → IsReordered f g → StandsForAll (drivers d) flat.col g) → IfOk r (IsPearlOf d i)
pearl_is d i f flat (Ok p) reordered rules begins each = record {
  path = flat.of.path;
  here = flat.of.here;
  model = flat.of.model;
  body = flat.of.body;
  rules = rules;
  begins = begins ∙ ap (map latch_init) (sym reordered.latches);
  col = flat.col;
  inputs = ap (map flat.col) reordered.ins ∙ flat.ins;
  outputs = ap (map flat.col) reordered.outs ∙ flat.outs;
  each = each p.flat reordered;
}
pearl_is d i f flat (Err e) reordered rules begins each = tt

-- the inputs of a pearl stand for the same columns as its ports
pub same_inputs : (d : Design) (count i : ℕ) (ports : ShellPorts) (pearl : View) → AreShellPorts d count i ports → (is : IsPearlOf d i pearl) → map (column_at d) ports.ins ≡ map is.col pearl.flat.ins
same_inputs d count i ports pearl at is =
    let path : at.path ≡ is.path = same_some _ at.path is.path at.here is.here in
    let model : at.model ≡ is.model = same_some _ at.model is.model at.body (ap (model_at d) path ∙ is.body) in
    at.ins ∙ ap (λ (p : List ℕ). map (column p) (data_inputs d at.model)) path ∙ ap (λ (m : Model). map (column is.path) (data_inputs d m)) model ∙ sym is.inputs

pub columns_few : (d : Design) (n : Network) → IsNetwork d n → length (columns d) ≤ 1048576
columns_few d n is =
    let whole = is.elaborated.whole in
    let mapped = length-map n.columns.drivers (shown_driver d) in
    let few = is.few in
    omega arith
