-- Where the columns of a pearl stand among all columns, and what reads what.
use Rattle.std.proofs.Common.{◌≡◌, ◌⊎◌, ℕ, zero, suc, not, List, [], ◌∷◌, ◌++◌, length, Option, Some, None, option_and_then, slice_get, inl, inr, refl, sym, ◌∙◌, ap, subst, arith}
use Rattle.std.specs.Option.{option_map_or}
use Rattle.std.specs.List.{flat_map, enumerate_from}
use Rattle.lid_base.specs.Lists.{Among}
use Rattle.lid_base.proofs.Lists.{among_left, among_filter, filter_among, map_among, flat_among, enumerate_among}
use Rattle.lid_design.specs.declared.Design.{Design}
use Rattle.lid_design.specs.declared.Model.{Model}
use Rattle.lid_design.specs.Columns.{Column, column, is_clock, data_inputs, drivers}
use Rattle.lid_design.specs.Feeds.{Feeds}
use Rattle.lid_design.specs.Models.{cell_names, actual_names, occurrences, firsts, nets, insts_of, number_named, instance_number, number_from, data_inputs_of}
use Rattle.lid_design.specs.Elaboration.{Instance, instances_in, instances, model_nets, columns_at, columns}
use Rattle.lid_check_drivers.proofs.Wired.{firsts_among}
use Rattle.lid_check_loops.proofs.Edges.{OfCover, OfInput, OfOutput, edge_at}

-- a data input is a net with a column
pub input_net : (d : Design) (k : ℕ) (input : List ℕ) → Among input (data_inputs_of d k) → Among input (model_nets d k)
unfolding data_inputs nets occurrences
input_net d k input among = by (slice_get d.models k) among
  where
    occurs : (m : Model) → Among input m.inputs → Among input (occurrences m)
    occurs m here =
        among_left input (m.inputs ++ m.outputs ++ m.clocks ++ flat_map cell_names m.cells) (flat_map actual_names m.insts)
        (among_left input (m.inputs ++ m.outputs ++ m.clocks) (flat_map cell_names m.cells)
        (among_left input (m.inputs ++ m.outputs) m.clocks
        (among_left input m.inputs m.outputs here)))

    by : (o : Option Model) → Among input (option_map_or (data_inputs d) o []) → Among input (option_map_or (nets d) o [])
    by None none = absurd none
    by (Some m) here =
        let found = filter_among (λ net. not (is_clock d m net)) input m.inputs here in
        among_filter (λ net. not (is_clock d m net)) input (firsts (occurrences m)) (firsts_among input (occurrences m) (occurs m found.0)) found.1

module _ (d : Design) where
  -- the number of the model of a place
  pub place_number : (n : ℕ) (path : List ℕ) (k : ℕ) → number_from d d.root path ≡ Some k → (p : Instance) → Among p (instances_in n d path k) → number_from d d.root p.path ≡ Some p.model
  unfolding number_from
  place_number zero path k leads p (inl e) = subst (λ (q : Instance). number_from d d.root q.path ≡ Some q.model) (sym e) leads
  place_number zero path k leads p (inr none) = absurd none
  place_number (suc n) path k leads p (inl e) = subst (λ (q : Instance). number_from d d.root q.path ≡ Some q.model) (sym e) leads
  place_number (suc n) path k leads p (inr among) =
      let found = flat_among (λ q. option_map_or (instances_in n d (q.0 ∷ path)) (number_named d q.1.model) []) p (enumerate_from 0 (insts_of d k)) among in
      let at = enumerate_among 0 (insts_of d k) found.0 found.1 in
      let number : found.0.0 ≡ at.0 = (let e = at.1 in omega arith) in
      let inst : instance_number d found.0.0 k ≡ number_named d found.0.1.model = ap (λ (i : ℕ). option_and_then (λ inst. number_named d inst.model) (slice_get (insts_of d k) i)) number ∙ ap (option_and_then (λ inst. number_named d inst.model)) at.2 in
      let there : number_from d d.root (found.0.0 ∷ path) ≡ number_named d found.0.1.model = ap (option_and_then (instance_number d found.0.0)) leads ∙ inst in
      by found.0.0 (number_named d found.0.1.model) there found.2 (place_number n (found.0.0 ∷ path))
    where
      by : (i : ℕ) (o : Option ℕ) → number_from d d.root (i ∷ path) ≡ o → Among p (option_map_or (instances_in n d (i ∷ path)) o []) → ((j : ℕ) → number_from d d.root (i ∷ path) ≡ Some j → (q : Instance) → Among q (instances_in n d (i ∷ path) j) → number_from d d.root q.path ≡ Some q.model) → number_from d d.root p.path ≡ Some p.model
      by i None there none next = absurd none
      by i (Some j) there here next = next j there p here

  -- the name of a column is a net of the model at its path
  pub column_net : (path net : List ℕ) (k : ℕ) → Among (column path net) (columns d) → number_from d d.root path ≡ Some k → Among net (model_nets d k)
  unfolding columns instances number_from
  column_net path net k among leads =
      let found = flat_among (columns_at d) (column path net) (instances d) among in
      let at = map_among (column found.0.path) (column path net) (model_nets d found.0.model) found.2 in
      let number = place_number (length d.models) [] d.root refl found.0 found.1 in
      let path_is : path ≡ found.0.path = ap (λ (c : Column). c.path) at.2 in
      let net_is : net ≡ at.0 = ap (λ (c : Column). c.net) at.2 in
      let both : Some found.0.model ≡ Some k = sym number ∙ ap (number_from d d.root) (sym path_is) ∙ leads in
      let model_is : found.0.model ≡ k = cc in
      subst (λ (n : ℕ). Among net (model_nets d n)) model_is (subst (λ (x : List ℕ). Among x (model_nets d found.0.model)) (sym net_is) at.1)

  -- an edge stays at a path, or leads over one instance
  abbrev pub IsNear : List ℕ → List ℕ → Type 0
  IsNear from to = (from ≡ to) ⊎ ((i : ℕ) × (from ≡ i ∷ to)) ⊎ ((i : ℕ) × (to ≡ i ∷ from))

  pub edge_near : (a c : Column) → Feeds (drivers d) a c → IsNear a.path c.path
  edge_near a c feeds = by (edge_at d a c feeds).edge
    where
      by : {m : Model} → OfCover m a c ⊎ OfInput m a c ⊎ OfOutput d m a c → IsNear a.path c.path
      by (inl cover) = inl cover.path_is
      by (inr (inl input)) = inr (inr (input.i, input.path_is))
      by (inr (inr output)) = inr (inl (output.i, output.path_is))
