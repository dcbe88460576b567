-- The names of the ports of an emitted design: each stands once, and none begins with the prefix.
use Rattle.std.proofs.Common.{◌≡◌, ◌⊎◌, ℕ, ◌<◌, Bool, true, false, ◌||◌, List, [], ◌∷◌, ◌++◌, find, inl, inr, refl, sym, ◌∙◌, arith}
use Rattle.std.specs.Prelude.{Option, Some, None, slice_get, bytes_eq, not}
use Rattle.std.specs.List.{AllByRecursion, IsDistinct}
use Rattle.std.specs.Option.{option_map_or}
use Rattle.lid_base.specs.Lists.{Among, AreOnce}
use Rattle.lid_base.proofs.Lists.{among_append, among_left, among_right, same_bytes, bytes_same}
use Rattle.lid_design.specs.declared.Design.{Design}
use Rattle.lid_design.specs.declared.Model.{Model}
use Rattle.lid_design.specs.Columns.{is_among, is_clock, data_inputs, root_inputs, root_outputs}
use Rattle.lid_design.specs.WellFormed.{IsWellFormed}
use Rattle.lid_design.proofs.Reached.{root_reached}
use Rattle.lid_check.specs.Acceptance.{IsAccepted}
use Rattle.lid_check.proofs.Sound.{judged_of}
use Rattle.lid_check_drivers.specs.Judged.{IsJudged}
use Rattle.lid_check_drivers.proofs.Names.{none_found, from_among}
use Rattle.lid_check_parts.proofs.Beginning.{inputs_apart, outputs_apart}
use Rattle.lid_base.proofs.Once.{once_append, once_filter, once_distinct}
use Rattle.lid_emit_meaning.specs.Ports.{offer_name, block_name, valid_name, stop_name, own_names, input_names, output_names, or_else, taken_name}
use Rattle.lid_emit_names.specs.Spelling.{IsFree}
use Rattle.lid_emit.specs.Prefixes.{IsShortPrefix}
use Rattle.std.proofs.lemmas.Bool.{or_parts}

-- names whose bytes differ
differ : (x y : List ℕ) → bytes_eq x y ≡ false → x ≡ y → ⊥
differ x y other same = let e : true ≡ false = sym (bytes_same x y same) ∙ other in cc

two_once : (x y : List ℕ) → bytes_eq x y ≡ false → AreOnce (x ∷ y ∷ [])
two_once x y other = (first, ((λ none. none), tt))
  where
    first : Among x (y ∷ []) → ⊥
    first (inl same) = differ x y other same
    first (inr none) = none

-- the first of two searches that finds nothing leaves the second
neither : {A : Type 0} (a b : Option A) → or_else a b ≡ None → (a ≡ None) × (b ≡ None)
neither None b none = (refl, none)
neither (Some x) b none = absurd (let e : Some x ≡ None = none in cc)

module _ (d : Design) (formed : IsWellFormed d) (accepted : IsAccepted d) where
  abbrev judged : IsJudged d
  judged = judged_of d formed accepted.models

  inputs_once : AreOnce (root_inputs d)
  unfolding data_inputs
  inputs_once = by (slice_get d.models d.root) refl
    where
      by : (o : Option Model) → slice_get d.models d.root ≡ o → AreOnce (option_map_or (data_inputs d) o [])
      by None here = tt
      by (Some m) here = once_filter (λ net. not (is_clock d m net)) m.inputs (inputs_apart d (judged_of d formed accepted.models) d.root (root_reached d) m here)

  outputs_once : AreOnce (root_outputs d)
  outputs_once = by (slice_get d.models d.root) refl
    where
      by : (o : Option Model) → slice_get d.models d.root ≡ o → AreOnce (option_map_or (λ m. m.outputs) o [])
      by None here = tt
      by (Some m) here = outputs_apart d (judged_of d formed accepted.models) d.root (root_reached d) m here

  module _ (free : taken_name d ≡ None) where
    searches : (find (λ name. is_among name own_names || is_among name (root_outputs d)) (root_inputs d) ≡ None) × (find (λ name. is_among name own_names) (root_outputs d) ≡ None)
    unfolding taken_name
    searches = neither (find (λ name. is_among name own_names || is_among name (root_outputs d)) (root_inputs d)) (find (λ name. is_among name own_names) (root_outputs d)) free

    no_own : (name : List ℕ) → is_among name own_names ≡ false → Among name own_names → ⊥
    no_own name none there = let e : true ≡ false = sym (from_among name own_names there) ∙ none in cc

    input_parts : (name : List ℕ) → Among name (root_inputs d) → (is_among name own_names ≡ false) × (is_among name (root_outputs d) ≡ false)
    input_parts name there = or_parts (is_among name own_names) (is_among name (root_outputs d)) (none_found (λ name. is_among name own_names || is_among name (root_outputs d)) (root_inputs d) searches.0 name there)

    input_own : (name : List ℕ) → Among name (root_inputs d) → Among name own_names → ⊥
    input_own name there own = no_own name (input_parts name there).0 own

    output_own : (name : List ℕ) → Among name (root_outputs d) → Among name own_names → ⊥
    output_own name there own = no_own name (none_found (λ name. is_among name own_names) (root_outputs d) searches.1 name there) own

    output_input : (name : List ℕ) → Among name (root_outputs d) → Among name (root_inputs d) → ⊥
    output_input name there also = let e : true ≡ false = sym (from_among name (root_outputs d) there) ∙ (input_parts name also).1 in cc

    first_own : (name : List ℕ) → Among name (offer_name ∷ block_name ∷ []) → Among name own_names
    first_own name there = among_left name (offer_name ∷ block_name ∷ []) (valid_name ∷ stop_name ∷ []) there

    last_own : (name : List ℕ) → Among name (valid_name ∷ stop_name ∷ []) → Among name own_names
    last_own name there = among_right name (offer_name ∷ block_name ∷ []) (valid_name ∷ stop_name ∷ []) there

    own_apart : (name : List ℕ) → Among name (offer_name ∷ block_name ∷ []) → Among name (valid_name ∷ stop_name ∷ []) → ⊥
    own_apart name (inl is) (inl also) = differ offer_name valid_name refl (sym is ∙ also)
    own_apart name (inl is) (inr (inl also)) = differ offer_name stop_name refl (sym is ∙ also)
    own_apart name (inl is) (inr (inr none)) = none
    own_apart name (inr (inl is)) (inl also) = differ block_name valid_name refl (sym is ∙ also)
    own_apart name (inr (inl is)) (inr (inl also)) = differ block_name stop_name refl (sym is ∙ also)
    own_apart name (inr (inl is)) (inr (inr none)) = none
    own_apart name (inr (inr none)) also = none

    ins_outs : (name : List ℕ) → Among name (input_names d) → Among name (output_names d) → ⊥
    ins_outs name there also = by (among_append name (root_inputs d) (offer_name ∷ block_name ∷ []) there) (among_append name (root_outputs d) (valid_name ∷ stop_name ∷ []) also)
      where
        by : Among name (root_inputs d) ⊎ Among name (offer_name ∷ block_name ∷ []) → Among name (root_outputs d) ⊎ Among name (valid_name ∷ stop_name ∷ []) → ⊥
        by (inl i) (inl o) = output_input name o i
        by (inl i) (inr o) = input_own name i (last_own name o)
        by (inr i) (inl o) = output_own name o (first_own name i)
        by (inr i) (inr o) = own_apart name i o

    ports_once : AreOnce (input_names d ++ output_names d)
    ports_once =
        once_append (input_names d) (output_names d)
        (once_append (root_inputs d) (offer_name ∷ block_name ∷ []) inputs_once (two_once offer_name block_name refl) (λ name i own. input_own name i (first_own name own)))
        (once_append (root_outputs d) (valid_name ∷ stop_name ∷ []) outputs_once (two_once valid_name stop_name refl) (λ name o own. output_own name o (last_own name own)))
        ins_outs

    pub ports_distinct : IsDistinct bytes_eq (input_names d ++ output_names d)
    ports_distinct = once_distinct (input_names d ++ output_names d) ports_once

-- a name that begins with another byte
other_letter : (prefix rest name : List ℕ) → IsShortPrefix prefix → name ≡ prefix ++ rest → (b : ℕ) (bs : List ℕ) → name ≡ b ∷ bs → 98 < b → ⊥
other_letter [] rest name short is b bs begins high = omega (arith, short.some)
other_letter (p ∷ ps) rest name short is b bs begins high = by short.letters.0
  where
    head : b ≡ p
    head = let e : b ∷ bs ≡ p ∷ (ps ++ rest) = sym begins ∙ is in cc

    by : (p ≡ 97) ⊎ (p ≡ 98) → ⊥
    by (inl e) = omega (arith, head, e, high)
    by (inr e) = omega (arith, head, e, high)

module _ (d : Design) (prefix : List ℕ) (short : IsShortPrefix prefix) (free : IsFree prefix (root_inputs d ++ root_outputs d)) where
  own_free : (name rest : List ℕ) → Among name own_names → name ≡ prefix ++ rest → ⊥
  own_free name rest (inl own) is = other_letter prefix rest offer_name short (sym own ∙ is) 108 _ refl (omega arith)
  own_free name rest (inr (inl own)) is = other_letter prefix rest block_name short (sym own ∙ is) 108 _ refl (omega arith)
  own_free name rest (inr (inr (inl own))) is = other_letter prefix rest valid_name short (sym own ∙ is) 108 _ refl (omega arith)
  own_free name rest (inr (inr (inr (inl own)))) is = other_letter prefix rest stop_name short (sym own ∙ is) 108 _ refl (omega arith)
  own_free name rest (inr (inr (inr (inr none)))) is = none

  pub ports_free : IsFree prefix (input_names d ++ output_names d)
  ports_free name rest there is = whole (among_append name (input_names d) (output_names d) there)
    where
      ins : Among name (root_inputs d) ⊎ Among name (offer_name ∷ block_name ∷ []) → ⊥
      ins (inl i) = free name rest (among_left name (root_inputs d) (root_outputs d) i) is
      ins (inr own) = own_free name rest (among_left name (offer_name ∷ block_name ∷ []) (valid_name ∷ stop_name ∷ []) own) is

      outs : Among name (root_outputs d) ⊎ Among name (valid_name ∷ stop_name ∷ []) → ⊥
      outs (inl o) = free name rest (among_right name (root_inputs d) (root_outputs d) o) is
      outs (inr own) = own_free name rest (among_right name (offer_name ∷ block_name ∷ []) (valid_name ∷ stop_name ∷ []) own) is

      whole : Among name (input_names d) ⊎ Among name (output_names d) → ⊥
      whole (inl i) = ins (among_append name (root_inputs d) (offer_name ∷ block_name ∷ []) i)
      whole (inr o) = outs (among_append name (root_outputs d) (valid_name ∷ stop_name ∷ []) o)
