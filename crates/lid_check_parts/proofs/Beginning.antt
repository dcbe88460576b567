-- The columns of a pearl begin with those of its data inputs and of its outputs.
use Rattle.std.proofs.Common.{◌≡◌, ℕ, zero, suc, ◌==◌, Bool, true, false, not, cond, List, [], ◌∷◌, ◌++◌, map, filter, Option, Some, None, option_and_then, slice_get, inl, inr, refl, sym, ◌∙◌, ap, subst, arith, append_assoc}
use Rattle.std.specs.Option.{option_map_or}
use Rattle.std.specs.List.{flat_map, enumerate_from}
use Rattle.std.specs.Str.{bytes_eq}
use Rattle.std.proofs.lemmas.Bool.{ltb-false, ltb-true, or_parts}
use Rattle.std.proofs.lemmas.List.{map-append}
use Rattle.lid_base.specs.Lists.{Among, AreOnce}
use Rattle.lid_base.proofs.Lists.{among_left, among_right, same_bytes, filter_whole}
use Rattle.lid_design.specs.declared.Design.{Design}
use Rattle.lid_design.specs.declared.Model.{Model}
use Rattle.lid_design.specs.Columns.{Column, column, is_clock, data_inputs}
use Rattle.lid_design.specs.Models.{cell_names, actual_names, occurrences, firsts, nets, insts_of, IsReached, is_twice}
use Rattle.lid_design.specs.Elaboration.{model_nets}
use Rattle.lid_check_rules.specs.Conditions.{is_duplicate, duplicate_in, duplicate_name, unknown_model}
use Rattle.lid_check_rules.specs.Acceptance.{fault_before_recursion}
use Rattle.lid_check_hierarchy.proofs.Listing.{firsts_filter}
use Rattle.lid_check_drivers.specs.Judged.{IsJudged}
use Rattle.lid_check_drivers.proofs.Names.{from_among, none_found, count-cons, count_some}
use Rattle.lid_check_drivers.proofs.Passing.{or_none, none_told, map_none}
use Rattle.lid_check_drivers.proofs.Wired.{output_read, read_is_net, net_free}
use Rattle.lid_check_elab.specs.Numbers.{columns_in}
use Rattle.lid_check_elab.proofs.Numbering.{columns_step, block}
use Rattle.lid_base.proofs.Sums.{count_here}
use Rattle.lid_base.proofs.Once.{once_append, once_filter}

not_later : (x : List ℕ) (xs : List (List ℕ)) → is_twice (x ∷ xs) x ≡ false → Among x xs → ⊥
not_later x xs h among =
    let some = count_some x xs (from_among x xs among) in
    let whole = count_here x xs in
    let few = ltb-false 1 _ h in
    omega arith

later_once : (x z : List ℕ) (xs : List (List ℕ)) → is_twice (x ∷ xs) z ≡ false → is_twice xs z ≡ false
later_once x z xs h = by (is_twice xs z) refl
  where
    by : (b : Bool) → is_twice xs z ≡ b → is_twice xs z ≡ false
    by false e = e
    by true e =
        let many = ltb-true 1 _ e in
        let whole = count-cons z x xs in
        let few = ltb-false 1 _ h in
        absurd (omega arith)

apart_once : (xs : List (List ℕ)) → ((x : List ℕ) → Among x xs → is_twice xs x ≡ false) → AreOnce xs
apart_once [] once = tt
apart_once (x ∷ xs) once = (not_later x xs (once x (inl refl)), apart_once xs (λ z among. later_once x z xs (once z (inr among))))

filter_append : (p : List ℕ → Bool) (xs ys : List (List ℕ)) → filter p (xs ++ ys) ≡ filter p xs ++ filter p ys
filter_append p [] ys = refl
filter_append p (x ∷ xs) ys = by (p x) (filter_append p xs ys)
  where
    by : (b : Bool) → filter p (xs ++ ys) ≡ filter p xs ++ filter p ys → cond b (x ∷ filter p (xs ++ ys)) (filter p (xs ++ ys)) ≡ cond b (x ∷ filter p xs) (filter p xs) ++ filter p ys
    by true later = ap (λ (zs : List (List ℕ)). x ∷ zs) later
    by false later = later

-- names that stand once and first are the first of the first places
firsts_begin : (xs ys : List (List ℕ)) → AreOnce xs → (more : List (List ℕ)) × (firsts (xs ++ ys) ≡ xs ++ more)
firsts_begin [] ys apart = (firsts ys, refl)
firsts_begin (x ∷ xs) ys apart =
    let later = firsts_begin xs ys apart.1 in
    let other : List ℕ → Bool = λ name. not (bytes_eq name x) in (
      filter other later.0,
      ap (λ (zs : List (List ℕ)). x ∷ filter other zs) later.1
          ∙ ap (λ (zs : List (List ℕ)). x ∷ zs) (filter_append other xs later.0)
          ∙ ap (λ (zs : List (List ℕ)). x ∷ (zs ++ filter other later.0)) (filter_whole other xs (λ y among. differs y among)),
    )
  where
    differs : (y : List ℕ) → Among y xs → not (bytes_eq y x) ≡ true
    differs y among = by (bytes_eq y x) refl
      where
        by : (b : Bool) → bytes_eq y x ≡ b → not b ≡ true
        by false e = refl
        by true e = absurd (apart.0 (subst (λ (z : List ℕ). Among z xs) (same_bytes y x e) among))

module _ (d : Design) (judged : IsJudged d) (k : ℕ) (reached : IsReached d k) (m : Model) (here : slice_get d.models k ≡ Some m) where
  not_duplicate : (net : List ℕ) → Among net (occurrences m) → is_duplicate (k == d.root) m net ≡ false
  unfolding fault_before_recursion duplicate_name
  not_duplicate net occurs =
      let pass = judged.pass in
      let early = or_none (duplicate_name d pass.ks) (unknown_model d pass.ks) pass.before in
      let among = (pass.reached.each k).1 reached in
      let at_k = none_told (λ (k : ℕ). option_and_then (duplicate_in (k == d.root)) (slice_get d.models k)) pass.ks early.0 k among in
      let at_m : duplicate_in (k == d.root) m ≡ None = ap (option_and_then (duplicate_in (k == d.root))) (sym here) ∙ at_k in
      none_found (is_duplicate (k == d.root) m) (occurrences m) (map_none _ _ at_m) net occurs

  pub inputs_apart : AreOnce m.inputs
  unfolding occurrences
  inputs_apart = apart_once m.inputs (λ net among. (or_parts (is_twice m.inputs net) _ (not_duplicate net (among_left net _ _ (among_left net _ _ (among_left net _ _ (among_left net m.inputs m.outputs among)))))).0)

  pub outputs_apart : AreOnce m.outputs
  unfolding occurrences
  outputs_apart = apart_once m.outputs (λ net among. (or_parts (is_twice m.outputs net) _ ((or_parts (is_twice m.inputs net) _ (not_duplicate net (among_left net _ _ (among_left net _ _ (among_left net _ _ (among_right net m.inputs m.outputs among)))))).1)).0)

  output_free : (net : List ℕ) → Among net m.outputs → not (is_clock d m net) ≡ true
  output_free net among = ap not (net_free d judged k reached m here net (read_is_net d judged k reached m here net (output_read d judged k reached m here net among))).1

  -- the nets begin with the data inputs and the outputs
  pub nets_begin : ((net : List ℕ) → Among net (data_inputs d m) → Among net m.outputs → ⊥) → (more : List (List ℕ)) × (model_nets d k ≡ data_inputs d m ++ (m.outputs ++ more))
  unfolding nets occurrences data_inputs
  nets_begin none =
      let free : List ℕ → Bool = λ net. not (is_clock d m net) in
      let ins = data_inputs d m in
      let cells = flat_map cell_names m.cells in
      let bound = flat_map actual_names m.insts in
      let after = m.clocks ++ (cells ++ bound) in
      let whole : occurrences m ≡ (m.inputs ++ m.outputs) ++ after =
      append_assoc ((m.inputs ++ m.outputs) ++ m.clocks) cells bound ∙ append_assoc (m.inputs ++ m.outputs) m.clocks (cells ++ bound) in
      let kept : filter free (occurrences m) ≡ (ins ++ m.outputs) ++ filter free after =
      ap (filter free) whole
      ∙ filter_append free (m.inputs ++ m.outputs) after
      ∙ ap (λ (xs : List (List ℕ)). xs ++ filter free after) (filter_append free m.inputs m.outputs ∙ ap (λ (xs : List (List ℕ)). ins ++ xs) (filter_whole free m.outputs output_free)) in
      let begin = firsts_begin (ins ++ m.outputs) (filter free after) (once_append ins m.outputs (once_filter free m.inputs inputs_apart) outputs_apart none) in (
        begin.0,
        ap (λ (o : Option Model). option_map_or (nets d) o []) here
            ∙ sym (firsts_filter free (occurrences m))
            ∙ ap firsts kept
            ∙ begin.1
            ∙ append_assoc ins m.outputs begin.0,
      )

-- the columns in a place begin with those of its model
pub columns_begin : (d : Design) (n : ℕ) (path : List ℕ) (k : ℕ) → (more : List Column) × (columns_in n d path k ≡ map (column path) (model_nets d k) ++ more)
columns_begin d zero path k = ([], refl)
columns_begin d (suc n) path k = (flat_map (block d n path) (enumerate_from 0 (insts_of d k)), columns_step d n path k)

pub ports_begin : (d : Design) (n : ℕ) (path : List ℕ) (k : ℕ) (ins outs more : List (List ℕ)) → model_nets d k ≡ ins ++ (outs ++ more) → (rest : List Column) × (columns_in n d path k ≡ map (column path) ins ++ (map (column path) outs ++ rest))
ports_begin d n path k ins outs more nets =
    let begin = columns_begin d n path k in (
      map (column path) more ++ begin.0,
      begin.1
          ∙ ap (λ (names : List (List ℕ)). map (column path) names ++ begin.0) nets
          ∙ ap (λ (cs : List Column). cs ++ begin.0) (map-append (column path) ins (outs ++ more) ∙ ap (λ (cs : List Column). map (column path) ins ++ cs) (map-append (column path) outs more))
          ∙ append_assoc (map (column path) ins) (map (column path) outs ++ map (column path) more) begin.0
          ∙ ap (λ (cs : List Column). map (column path) ins ++ cs) (append_assoc (map (column path) outs) (map (column path) more) begin.0),
    )
