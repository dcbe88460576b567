-- The parts of the root and of its instances.
use Rattle.std.proofs.Common.{◌≡◌, ℕ, zero, suc, ◌+◌, ◌-◌, ◌<◌, ◌≤◌, ◌==◌, Bool, false, cond, List, [], ◌∷◌, length, map, get_or, Option, Some, None, slice_get, refl, sym, ◌∙◌, ap, subst, arith, zero-add}
use Rattle.std.specs.Option.{option_map_or}
use Rattle.std.specs.List.{range_with_len}
use Rattle.std.proofs.lemmas.List.{append-nil, length-map}
use Rattle.std.proofs.lemmas.List.FromFn.{length-map-range_with_len, get_or-map-range_with_len}
use Rattle.std.proofs.lemmas.Option.{slice_get-get_or, slice_get_read}
use Rattle.lid_design.specs.declared.Design.{Design}
use Rattle.lid_design.specs.declared.Model.{Model}
use Rattle.lid_design.specs.Models.{insts_of, instance_number, number_from, data_inputs_of, IsReached}
use Rattle.lid_design.specs.Elaboration.{columns, instances}
use Rattle.lid_design.specs.Loops.{pearls}
use Rattle.lid_check_drivers.specs.Judged.{IsJudged}
use Rattle.lid_check_elab.specs.declared.driver.ColumnDriver.{ColumnDriver}
use Rattle.lid_check_elab.specs.Numbers.{columns_in, StandsInList}
use Rattle.lid_check_elab.specs.Elaborations.{shown_driver, IsElaborated}
use Rattle.lid_check_parts.specs.declared.part.PearlPart.{PearlPart}
use Rattle.lid_check_parts.specs.Parts.{IsNetworkPart}
use Rattle.lid_check_parts.specs.PearlParts.{outputs_of, ArePortsApart, IsPearlPart, ArePearlParts}
use Rattle.lid_check_parts.proofs.Assembling.{is_pearl_part}

-- the outputs of a model that was read
pub outputs_read : (d : Design) (ms : List Model) (k : ℕ) (body : Model) → ms ≡ d.models → k < length d.models → body ≡ get_or ms k body → outputs_of d k ≡ body.outputs
outputs_read d ms k body same below at =
    let long = ap length same in
    let here = slice_get_read ms (length ms) k body refl (omega arith) at in
    ap (λ (o : Option Model). option_map_or (λ m. m.outputs) o []) (ap (λ (xs : List Model). slice_get xs k) (sym same) ∙ here)

pub whole_pearls : (d : Design) → length (insts_of d d.root) ≡ 0 → pearls d ≡ [] ∷ []
whole_pearls d none = ap (λ (n : ℕ). cond (n == 0) ([] ∷ []) (map (λ i. i ∷ []) (range_with_len 0 n))) none

pub inst_pearls : (d : Design) → 0 < length (insts_of d d.root) → pearls d ≡ map (λ i. i ∷ []) (range_with_len 0 (length (insts_of d d.root)))
inst_pearls d some = by (length (insts_of d d.root)) some
  where
    by : (n : ℕ) → 0 < n → cond (n == 0) ([] ∷ []) (map (λ i. i ∷ []) (range_with_len 0 n)) ≡ map (λ i. i ∷ []) (range_with_len 0 n)
    by zero h = absurd (omega arith)
    by (suc n) h = ap (λ (b : Bool). cond b ([] ∷ []) (map (λ i. i ∷ []) (range_with_len 0 (suc n)))) (suc_zero n)
      where
        suc_zero : (m : ℕ) → (suc m == 0) ≡ false
        suc_zero m = grind arith

pub inst_count : (d : Design) → 0 < length (insts_of d d.root) → length (pearls d) ≡ length (insts_of d d.root)
inst_count d some = ap length (inst_pearls d some) ∙ length-map-range_with_len (λ i. i ∷ []) 0 (length (insts_of d d.root))

pub inst_pearl : (d : Design) (i : ℕ) → i < length (insts_of d d.root) → slice_get (pearls d) i ≡ Some (i ∷ [])
inst_pearl d i below =
    let some : 0 < length (insts_of d d.root) = omega arith in
    let count = inst_count d some in
    slice_get-get_or (pearls d) i [] (omega arith)
    ∙ ap Some (ap (λ (xs : List (List ℕ)). get_or xs i []) (inst_pearls d some) ∙ get_or-map-range_with_len (λ i. i ∷ []) 0 (length (insts_of d d.root)) i i [] below (zero-add i))

module _ (d : Design) (judged : IsJudged d) (drivers_of : List ColumnDriver) (starts : List ℕ) (is : IsElaborated d (map (shown_driver d) drivers_of) starts) (apart : ArePortsApart d) where
  module _ (none : length starts ≡ 0) (part : PearlPart) (start : part.start ≡ 0) (nets : part.nets ≡ length drivers_of) (inputs : part.inputs ≡ length (data_inputs_of d d.root)) (outputs : part.outputs ≡ length (outputs_of d d.root)) where
    no_insts : length (insts_of d d.root) ≡ 0
    no_insts = sym is.insts ∙ none

    first_pearl : slice_get (pearls d) 0 ≡ Some []
    first_pearl = ap (λ (ps : List (List ℕ)). slice_get ps 0) (whole_pearls d no_insts)

    whole_leads : number_from d d.root [] ≡ Some d.root
    unfolding number_from
    whole_leads = refl

    whole_stands : StandsInList (columns d) part.start (columns_in (length d.models) d [] d.root)
    unfolding columns instances
    whole_stands = record { before = []; after = []; parts = sym (append-nil (columns d)); long = sym start }

    whole_long : length (columns_in (length d.models) d [] d.root) ≡ part.nets
    unfolding columns instances
    whole_long = let e = is.whole in let long = length-map drivers_of (shown_driver d) in let all : length (columns d) ≡ part.nets = omega arith in all

    pub whole_is : IsPearlPart d 0 part × IsNetworkPart drivers_of part
    whole_is = is_pearl_part d judged drivers_of starts is apart 0 [] first_pearl d.root whole_leads part whole_stands whole_long inputs outputs

  pub whole_few : length starts ≡ 0 → length (data_inputs_of d d.root) + length (outputs_of d d.root) ≤ length drivers_of
  whole_few none =
      let part : PearlPart = record { start = 0; nets = length drivers_of; inputs = length (data_inputs_of d d.root); outputs = length (outputs_of d d.root) } in
      let pearl = whole_is none part refl refl refl refl in
      let ports = pearl.1.ports in
      omega arith

  module _ (i model : ℕ) (below : i < length starts) (names : instance_number d i d.root ≡ Some model) where
    abbrev first : ℕ
    first = get_or starts i 0

    abbrev end : ℕ
    end = get_or starts (i + 1) (length drivers_of)

    block : (k : ℕ) × (k ≡ model) × StandsInList (columns d) first (columns_in (length d.models) d (i ∷ []) k) × (first + length (columns_in (length d.models) d (i ∷ []) k) ≡ end)
    block =
        let b = is.block i first (slice_get-get_or starts i 0 below) in
        let e : Some b.model ≡ Some model = sym b.names ∙ names in
        let all : length (columns d) ≡ length drivers_of = sym is.whole ∙ length-map drivers_of (shown_driver d) in
        (b.model, (let f : b.model ≡ model = cc in f), b.stands, b.next ∙ ap (get_or starts (i + 1)) all)

    pub starts_first : first ≤ end
    starts_first = let e = block.3 in omega arith

    inst_leads : number_from d d.root (i ∷ []) ≡ Some model
    unfolding number_from
    inst_leads = names

    module _ (part : PearlPart) (start : part.start ≡ first) (nets : part.nets ≡ end - first) (inputs : part.inputs ≡ length (data_inputs_of d model)) (outputs : part.outputs ≡ length (outputs_of d model)) where
      inst_stands : StandsInList (columns d) part.start (columns_in (length d.models) d (i ∷ []) model)
      inst_stands = subst (λ (n : ℕ). StandsInList (columns d) n (columns_in (length d.models) d (i ∷ []) model)) (sym start) (subst (λ (k : ℕ). StandsInList (columns d) first (columns_in (length d.models) d (i ∷ []) k)) block.1 block.2)

      inst_long : length (columns_in (length d.models) d (i ∷ []) model) ≡ part.nets
      inst_long =
          let e = block.3 in
          let own : length (columns_in (length d.models) d (i ∷ []) block.0) ≡ part.nets = omega arith in
          ap (λ (k : ℕ). length (columns_in (length d.models) d (i ∷ []) k)) (sym block.1) ∙ own

      pub inst_is : IsPearlPart d i part × IsNetworkPart drivers_of part
      inst_is = is_pearl_part d judged drivers_of starts is apart i (i ∷ []) (inst_pearl d i (let e = is.insts in omega arith)) model inst_leads part inst_stands inst_long inputs outputs

    pub inst_few : length (data_inputs_of d model) + length (outputs_of d model) ≤ length drivers_of
    inst_few =
        let part : PearlPart = record { start = first; nets = end - first; inputs = length (data_inputs_of d model); outputs = length (outputs_of d model) } in
        let pearl = inst_is part refl refl refl refl in
        let ports = pearl.1.ports in
        let there = pearl.1.there in
        omega arith

pub inst_reached : (d : Design) (i model : ℕ) → instance_number d i d.root ≡ Some model → IsReached d model
unfolding number_from
inst_reached d i model names = (i ∷ [], names)

-- the part of the root alone is that of the only pearl
pub one_part : (d : Design) (drivers : List ColumnDriver) (parts : List PearlPart) (part : PearlPart) → length (insts_of d d.root) ≡ 0 → IsPearlPart d 0 part × IsNetworkPart drivers part → parts ≡ part ∷ [] → ArePearlParts d drivers parts
one_part d drivers parts part none is same = record {
  count = ap length same ∙ sym (ap length (whole_pearls d none));
  each = λ p x here. at p x (ap (λ (xs : List PearlPart). slice_get xs p) (sym same) ∙ here);
}
  where
    at : (p : ℕ) (x : PearlPart) → slice_get (part ∷ []) p ≡ Some x → IsPearlPart d p x × IsNetworkPart drivers x
    at zero x here = let e : Some part ≡ Some x = here in subst (λ (y : PearlPart). IsPearlPart d 0 y × IsNetworkPart drivers y) (let f : part ≡ x = cc in f) is
    at (suc p) x here = absurd (let e : None ≡ Some x = here in cc)
