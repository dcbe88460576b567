-- How many inputs the nodes of a generated design have.
use Rattle.std.proofs.Common.{◌≡◌, ◌⊎◌, ℕ, zero, suc, ◌+◌, ◌*◌, ◌<◌, ◌≤◌, ◌==◌, Bool, true, false, not, cond, List, [], ◌∷◌, length, map, Option, Some, None, option_and_then, slice_get, inl, inr, sym, ◌∙◌, ap, subst, arith, length-append}
use Rattle.std.specs.Option.{option_map_or}
use Rattle.std.proofs.lemmas.Bool.{eq-eqb, ne_eqb, cases_lt}
use Rattle.std.proofs.lemmas.List.{length-map}
use Rattle.std.proofs.lemmas.Option.{slice_get_past}
use Rattle.lid_base.specs.Lists.{Among}
use Rattle.lid_design.specs.declared.Model.{Model}
use Rattle.lid_design.specs.declared.Inst.{Inst}
use Rattle.lid_design.specs.Columns.{Column, column, model_named, model_at, is_clock, data_inputs, root_outputs}
use Rattle.lid_design.specs.Loops.{pearls}
use Rattle.lid_gen.specs.Draws.{drawn}
use Rattle.lid_gen.specs.Designs.{kind_model, shell_at, root_model, made}
use Rattle.lid_net.specs.Graphs.{inputs_at, inputs_of}
use Rattle.lid_gen_laws.proofs.Pearls.{kind_found}
use Rattle.lid_gen_laws.proofs.Roots.{kind_few}
use Rattle.lid_gen_laws.proofs.Carried.{numbered, ends}
use Rattle.lid_base.proofs.Each.{each_get}
use Rattle.lid_base.proofs.Lists.{filter_le}

module _ (s n : ℕ) (count : length (pearls (made s n)) ≡ n) (pearl : (i : ℕ) → i < n → slice_get (pearls (made s n)) i ≡ Some (i ∷ [])) where
  model_is : (i : ℕ) → i < n → model_at (made s n) (i ∷ []) ≡ Some (kind_model (drawn s (2 * i) 4))
  unfolding model_at
  model_is i less =
      let z : 0 + i ≡ i = omega arith in
      let inst : slice_get (root_model s n).insts i ≡ Some (shell_at s n i) = each_get (shell_at s n) 0 n i less ∙ ap (λ (m : ℕ). Some (shell_at s n m)) z in
      ap (option_and_then (λ (inst : Inst). model_named (made s n) inst.model)) inst ∙ kind_found s n (drawn s (2 * i) 4) (kind_few s n i)

  shell_inputs : (i : ℕ) → i < n → length (inputs_of (made s n) (suc i)) ≤ 2
  unfolding inputs_of data_inputs
  shell_inputs i less =
      let other : (i == length (pearls (made s n))) ≡ false = ne_eqb i (length (pearls (made s n))) (λ e. omega (arith, count, e, less)) in
      let path = i ∷ [] in
      let m = kind_model (drawn s (2 * i) 4) in
      let is : inputs_of (made s n) (suc i) ≡ map (column path) (data_inputs (made s n) m) =
      ap (λ (b : Bool). cond b (map (column []) (root_outputs (made s n))) (option_map_or (inputs_at (made s n)) (slice_get (pearls (made s n)) i) [])) other
      ∙ ap (λ (o : Option (List ℕ)). option_map_or (inputs_at (made s n)) o []) (pearl i less)
      ∙ ap (λ (o : Option Model). option_map_or (λ m. map (column path) (data_inputs (made s n) m)) o []) (model_is i less) in
      let a = ap length is in
      let b = length-map (data_inputs (made s n) m) (column path) in
      let c = filter_le (λ net. not (is_clock (made s n) m net)) m.inputs in
      omega (arith, a, b, c)

  sink_inputs : length (inputs_of (made s n) (suc n)) ≤ 4
  unfolding inputs_of
  sink_inputs =
      let same : (n == length (pearls (made s n))) ≡ true = eq-eqb n (length (pearls (made s n))) (sym count) in
      let a = ap (λ (b : Bool). length (cond b (map (column []) (root_outputs (made s n))) (option_map_or (inputs_at (made s n)) (slice_get (pearls (made s n)) n) []))) same in
      omega (arith, a)

  no_inputs : (i : ℕ) (c : Column) → n < i → ¬ Among c (inputs_of (made s n) (suc i))
  unfolding inputs_of
  no_inputs i c more among =
      let other : (i == length (pearls (made s n))) ≡ false = ne_eqb i (length (pearls (made s n))) (λ e. omega (arith, count, e, more)) in
      let past : slice_get (pearls (made s n)) i ≡ None = slice_get_past (pearls (made s n)) i (omega (arith, count, more)) in
      let is : inputs_of (made s n) (suc i) ≡ [] =
      ap (λ (b : Bool). cond b (map (column []) (root_outputs (made s n))) (option_map_or (inputs_at (made s n)) (slice_get (pearls (made s n)) i) [])) other
      ∙ ap (λ (o : Option (List ℕ)). option_map_or (inputs_at (made s n)) o []) past in
      subst (λ (cs : List Column). Among c cs) is among

  pub within : (to : ℕ) (c : Column) → Among c (inputs_of (made s n) to) → to ≤ suc n
  within zero c among = omega arith
  within (suc i) c among = by (cases_lt n i)
    where
      by : (n < i) ⊎ (i ≤ n) → suc i ≤ suc n
      by (inl more) = absurd (no_inputs i c more among)
      by (inr few) = omega (arith, few)

  shells_few : (m : ℕ) → m ≤ n → length (ends (made s n) m) ≤ 2 * m
  shells_few zero few = omega arith
  shells_few (suc m) few =
      let a = length-append (ends (made s n) m) (map (numbered m) (inputs_of (made s n) (suc m))) in
      let b = length-map (inputs_of (made s n) (suc m)) (numbered m) in
      let c = shell_inputs m (omega (arith, few)) in
      let d = shells_few m (omega (arith, few)) in
      omega (arith, a, b, c, d)

  pub ends_few : length (ends (made s n) (suc n)) ≤ 2 * n + 4
  ends_few =
      let a = length-append (ends (made s n) n) (map (numbered n) (inputs_of (made s n) (suc n))) in
      let b = length-map (inputs_of (made s n) (suc n)) (numbered n) in
      let c = sink_inputs in
      let d = shells_few n (omega arith) in
      omega (arith, a, b, c, d)
