-- What is placed is the elaboration.
use Rattle.std.proofs.Common.{◌≡◌, ◌⊎◌, ℕ, ◌+◌, ◌<◌, ◌≤◌, List, [], ◌∷◌, ◌++◌, length, Option, Some, slice_get, inl, inr, sym, ◌∙◌, ap, subst, arith, zero-add}
use Rattle.std.specs.Prelude.{slice_index_or}
use Rattle.std.specs.Option.{option_map_or}
use Rattle.std.specs.List.{AllByRecursion}
use Rattle.std.proofs.lemmas.Bool.{cases_lt}
use Rattle.std.proofs.lemmas.List.{get_or_past}
use Rattle.std.proofs.lemmas.Option.{get_or_from_slice_get, slice_get_within}
use Rattle.lid_design.specs.declared.Design.{Design}
use Rattle.lid_design.specs.Network.{Driver}
use Rattle.lid_design.specs.Columns.{Column}
use Rattle.lid_design.specs.Walks.{read_before}
use Rattle.lid_design.specs.Feeds.{read_now}
use Rattle.lid_design.specs.Models.{insts_of, instance_number, number_from}
use Rattle.lid_design.specs.Elaboration.{instances, columns}
use Rattle.lid_design.proofs.Reached.{root_reached}
use Rattle.lid_check_drivers.specs.Judged.{IsJudged}
use Rattle.lid_check_drivers.proofs.Wired.{some_of_is}
use Rattle.lid_check_elab.specs.Elaborations.{IsElaborated, IsDrivenBy, StartsAt, HasBlock}
use Rattle.lid_check_elab.specs.Numbers.{size_of, offset_of, start_of, columns_in, StandsInList}
use Rattle.lid_check_elab.specs.Scopes.{ArePlaced}
use Rattle.lid_check_elab.proofs.Numbering.{numbering, starts_at, columns_length}
use Rattle.lid_check_elab.proofs.Located.{columns_once}
use Rattle.lid_check_elab.proofs.Every.{driven_column}
use Rattle.lid_check_elab.proofs.Counting.{offset_next, offset_end}
use Rattle.lid_base.proofs.Places.{item_at}

module _ (d : Design) (judged : IsJudged d) (starts : List ℕ) (few : length starts ≡ length (insts_of d d.root)) (offset : (i o : ℕ) → slice_get starts i ≡ Some o → o ≡ offset_of d d.root i) where
  start_is : (i start : ℕ) → slice_get starts i ≡ Some start → start_of d (i ∷ []) ≡ start
  unfolding start_of number_from
  start_is i start here = zero-add (offset_of d d.root i) ∙ sym (offset i start here)

  -- all columns are those of the root and of the instances in it
  all_columns : length (columns d) ≡ size_of d d.root
  unfolding size_of columns instances
  all_columns = columns_length d (length d.models) [] d.root

  block_length : (i model : ℕ) → length (columns_in (length d.models) d (i ∷ []) model) ≡ size_of d model
  unfolding size_of
  block_length i model = columns_length d (length d.models) (i ∷ []) model

  leads_to : (i model : ℕ) → instance_number d i d.root ≡ Some model → number_from d d.root (i ∷ []) ≡ Some model
  unfolding number_from
  leads_to i model names = names

  -- the next instance starts where one ends
  next_start : (i start model : ℕ) → slice_get starts i ≡ Some start → instance_number d i d.root ≡ Some model → start + size_of d model ≡ slice_index_or starts (i + 1) (length (columns d))
  next_start i start model here names = by (cases_lt (i + 1) (length starts))
    where
      sum : offset_of d d.root (i + 1) ≡ start + size_of d model
      sum =
          let off = offset i start here in
          let step = offset_next d d.root i in
          let size : option_map_or (size_of d) (instance_number d i d.root) 0 ≡ size_of d model = ap (λ (o : Option ℕ). option_map_or (size_of d) o 0) names in
          omega arith

      by : (i + 1 < length starts) ⊎ (length starts ≤ i + 1) → start + size_of d model ≡ slice_index_or starts (i + 1) (length (columns d))
      by (inl less) =
          let found = item_at starts (i + 1) less in
          sym sum ∙ sym (offset (i + 1) found.0 found.1) ∙ sym (get_or_from_slice_get starts (i + 1) found.0 (length (columns d)) found.1)
      by (inr past) =
          let end = offset_end d judged d.root (root_reached d) (i + 1) (subst (λ (n : ℕ). n ≤ i + 1) few past) in
          sym sum ∙ end ∙ sym all_columns ∙ sym (get_or_past starts (i + 1) (length (columns d)) past)

  block_at : (i start : ℕ) → slice_get starts i ≡ Some start → HasBlock d starts i start
  block_at i start here =
      let below = slice_get_within starts i start here in
      let model = some_of_is (instance_number d i d.root) (judged.known d.root i (root_reached d) (omega arith)) in
      let long = block_length i model.0 in
      let stands = numbering d judged (i ∷ []) model.0 (leads_to i model.0 model.1) in
      record {
        model = model.0;
        names = model.1;
        stands = subst (λ (n : ℕ). StandsInList (columns d) n (columns_in (length d.models) d (i ∷ []) model.0)) (start_is i start here) stands;
        next = ap (λ (n : ℕ). start + n) long ∙ next_start i start model.0 here model.1;
      }

  pub elaborated : (network : List (Driver ℕ)) → ArePlaced d network → length network ≡ length (columns d) → IsElaborated d network starts
  unfolding start_of
  elaborated network written whole = record {
    whole = whole;
    each = driven;
    every = driven_column d judged;
    once = columns_once d judged;
    root = root_start;
    insts = few;
    start = λ i start here. subst (StartsAt d (i ∷ [])) (start_is i start here) (starts_at d judged (i ∷ []));
    block = block_at;
  }
    where
      root_start : StartsAt d [] 0
      root_start = starts_at d judged []

      driven : (k : ℕ) (c : Column) → slice_get (columns d) k ≡ Some c → IsDrivenBy d network k c
      driven k c at =
          let found = item_at network k (let w = slice_get_within (columns d) k c at in omega arith) in
          let right = written k c found.0 at found.1 in
          record {
            driver = found.0;
            here = found.1;
            only = right.only;
            below = subst (λ (n : ℕ). AllByRecursion (λ a. a < n) (read_now found.0 ++ read_before found.0)) (sym whole) right.below;
          }
