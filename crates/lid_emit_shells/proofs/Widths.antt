-- A pearl and the flat part of the same number are as wide.
use Rattle.std.proofs.Common.{◌≡◌, ℕ, ◌+◌, List, length, Some, slice_get, sym, ◌∙◌, ap, subst, arith}
use Rattle.std.proofs.lemmas.List.{length-map}
use Rattle.lid_design.specs.declared.Design.{Design}
use Rattle.lid_design.specs.declared.Model.{Model}
use Rattle.lid_design.specs.declared.Flat.{Flat}
use Rattle.lid_design.specs.Columns.{column, data_inputs, model_at}
use Rattle.lid_design.specs.Loops.{pearls}
use Rattle.lid_pearl.specs.Pearls.{View}
use Rattle.lid_system.specs.declared.System.{System}
use Rattle.lid_system.specs.declared.Node.TheVariants.{Shell}
use Rattle.lid_system.specs.declared.InBit.{InBit}
use Rattle.lid_net_law.specs.Agreement.{IsSystemOf, IsPearlShell}
use Rattle.lid_check.specs.Flats.{IsFlatOf}

module _ (d : Design) (s : System) (of : IsSystemOf d s) (v : ℕ) (pearl : View) (ins : List InBit) (at : slice_get s.nodes v ≡ Some (Shell pearl ins)) (number : ℕ) (place : v ≡ number + 1) (f : Flat) (part : IsFlatOf d number f) where
  abbrev shell : IsPearlShell d s of.columns v pearl ins
  shell = of.shells v pearl ins at

  same_path : shell.path ≡ part.of.path
  same_path =
      let number_is : shell.number ≡ number = (let a = shell.place in omega arith) in
      let here : slice_get (pearls d) number ≡ Some shell.path = subst (λ (n : ℕ). slice_get (pearls d) n ≡ Some shell.path) number_is shell.here in
      let there : slice_get (pearls d) number ≡ Some part.of.path = part.of.here in
      cc

  same_model : shell.model ≡ part.of.model
  same_model =
      let here : model_at d part.of.path ≡ Some shell.model = subst (λ (path : List ℕ). model_at d path ≡ Some shell.model) same_path shell.body in
      let there : model_at d part.of.path ≡ Some part.of.model = part.of.body in
      cc

  pub as_many_inputs : length f.ins ≡ length pearl.flat.ins
  as_many_inputs =
      sym (length-map f.ins part.col) ∙ ap length part.ins ∙ length-map (data_inputs d part.of.model) (column part.of.path)
      ∙ ap (λ (m : Model). length (data_inputs d m)) (sym same_model)
      ∙ sym (length-map (data_inputs d shell.model) (column shell.path)) ∙ ap length (sym shell.inputs) ∙ length-map pearl.flat.ins (of.columns v)

  pub as_many_outputs : length f.outs ≡ length pearl.flat.outs
  as_many_outputs =
      sym (length-map f.outs part.col) ∙ ap length part.outs ∙ length-map part.of.model.outputs (column part.of.path)
      ∙ ap (λ (m : Model). length m.outputs) (sym same_model)
      ∙ sym (length-map shell.model.outputs (column shell.path)) ∙ ap length (sym shell.outputs) ∙ length-map pearl.flat.outs (of.columns v)
