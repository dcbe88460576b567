-- The numbers of the root's columns.
use Rattle.std.proofs.Common.{◌≡◌, ℕ, ◌+◌, ◌<◌, nat_lt, Bool, true, false, cond, List, [], ◌∷◌, ◌++◌, length, map, take, get_or, position, Option, Some, None, slice_get, refl, sym, ◌∙◌, ap, subst, arith, zero-add}
use Rattle.std.specs.List.{AllByRecursion, position_or_len}
use Rattle.std.specs.Option.{option_map_or}
use Rattle.std.specs.Str.{bytes_eq}
use Rattle.std.proofs.lemmas.Bool.{ltb-false}
use Rattle.std.proofs.lemmas.List.{take_more, map-append}
use Rattle.std.proofs.lemmas.List.Quantifiers.{position-Some}
use Rattle.std.proofs.lemmas.Option.{slice_get-get_or, slice_get_within, slice_get_read}
use Rattle.std.proofs.lemmas.Slice.Eq.{bytes_eq-Decides}
use Rattle.lid_base.specs.Lists.{Among}
use Rattle.lid_base.proofs.Lists.{all_push, get_among}
use Rattle.lid_design.proofs.Reached.{root_reached}
use Rattle.lid_design.specs.declared.Design.{Design}
use Rattle.lid_design.specs.declared.Model.{Model}
use Rattle.lid_design.specs.Network.{Driver}
use Rattle.lid_design.specs.Columns.{Column, column, root_outputs}
use Rattle.lid_design.specs.WellFormed.{IsWellFormed}
use Rattle.lid_design.specs.Models.{nets, number_from}
use Rattle.lid_design.specs.Elaboration.{columns, model_nets}
use Rattle.lid_check_drivers.specs.Judged.{IsJudged}
use Rattle.lid_check_elab.specs.Elaborations.{column_at, IsElaborated}
use Rattle.lid_check_drivers.proofs.Names.{position_get}
use Rattle.lid_check_drivers.proofs.Wired.{output_read, read_is_net}
use Rattle.lid_check_loops.proofs.Numbered.{column_is, within}

module _ (d : Design) (network : List (Driver ℕ)) (starts : List ℕ) (is : IsElaborated d network starts) where
  at_root : (name : List ℕ) (place : ℕ) → position (bytes_eq name) (model_nets d d.root) ≡ Some place → slice_get (columns d) place ≡ Some (column [] name)
  unfolding number_from
  at_root name place h =
      let found = position-Some (bytes_eq name) (model_nets d d.root) place [] h in
      let equal = (bytes_eq-Decides name (get_or (model_nets d d.root) place [])).0 found.1 in
      let here : slice_get (model_nets d d.root) place ≡ Some name = slice_get-get_or (model_nets d d.root) place [] found.0 ∙ ap Some (sym equal) in
      ap (slice_get (columns d)) (sym (zero-add place)) ∙ is.root d.root place name refl here

  pub place_below : (name : List ℕ) (place : ℕ) → position (bytes_eq name) (model_nets d d.root) ≡ Some place → place < length network
  place_below name place h = within d network starts is place (column [] name) (at_root name place h)

  pub place_column : (name : List ℕ) (place : ℕ) → position (bytes_eq name) (model_nets d d.root) ≡ Some place → column_at d place ≡ column [] name
  place_column name place h = column_is d network starts is place (column [] name) (at_root name place h)

-- the root has its outputs
pub outputs_are : (d e : Design) (models : List Model) (root : Model) → IsWellFormed d → e ≡ d → models ≡ e.models → root ≡ get_or models e.root root → root_outputs d ≡ root.outputs
outputs_are d e models root formed same all at =
    let rooted : e.root < length e.models = subst (λ (x : Design). x.root < length x.models) (sym same) formed.rooted in
    let long = ap length all in
    let below : e.root < length models = omega arith in
    let here = slice_get_read models (length models) e.root root refl below at in
    ap root_outputs (sym same) ∙ ap (λ (ms : List Model). option_map_or (λ m. m.outputs) (slice_get ms e.root) []) (sym all) ∙ ap (λ (o : Option Model). option_map_or (λ m. m.outputs) o []) here

pub item_among : (names : List (List ℕ)) (i : ℕ) (name : List ℕ) → i < length names → name ≡ get_or names i name → Among name names
item_among names i name h at = get_among names i name (slice_get_read names (length names) i name refl h at)

-- an output of the root is a net of the root
output_net : (d : Design) → IsJudged d → (name : List ℕ) → Among name (root_outputs d) → Among name (model_nets d d.root)
output_net d judged name among = by (slice_get d.models d.root) refl among
  where
    by : (o : Option Model) → slice_get d.models d.root ≡ o → Among name (option_map_or (λ m. m.outputs) o []) → Among name (model_nets d d.root)
    by None e none = absurd none
    by (Some m) e out =
        let read = output_read d judged d.root (root_reached d) m e name out in
        subst (λ (o : Option Model). Among name (option_map_or (nets d) o [])) (sym e) (read_is_net d judged d.root (root_reached d) m e name read)

has_place : (name : List ℕ) (names : List (List ℕ)) → Among name names → position (bytes_eq name) names ≡ None → ⊥
has_place name names among = by (nat_lt (position_or_len (bytes_eq name) names) (length names)) refl
  where
    by : (b : Bool) → nat_lt (position_or_len (bytes_eq name) names) (length names) ≡ b → cond b (Some (position_or_len (bytes_eq name) names)) None ≡ None → ⊥
    by true e some = absurd (let f : Some (position_or_len (bytes_eq name) names) ≡ None = some in cc)
    by false e none =
        let past = ltb-false (position_or_len (bytes_eq name) names) (length names) e in
        let below = slice_get_within names (position_or_len (bytes_eq name) names) name (position_get name names among) in
        absurd (omega arith)

-- an output of the root has a place
pub output_placed : (d : Design) → IsJudged d → (name : List ℕ) → Among name (root_outputs d) → position (bytes_eq name) (model_nets d d.root) ≡ None → ⊥
output_placed d judged name among = has_place name (model_nets d d.root) (output_net d judged name among)

-- one more number, of one more name
pub numbers_more : (d : Design) (count : ℕ) (names : List (List ℕ)) (i : ℕ) (name : List ℕ) (numbers new : List ℕ) (place : ℕ) → i < length names → name ≡ get_or names i name → AllByRecursion (λ k. k < count) numbers → map (column_at d) numbers ≡ map (column []) (take i names) → new ≡ numbers ++ place ∷ [] → place < count → column_at d place ≡ column [] name → AllByRecursion (λ k. k < count) new × (map (column_at d) new ≡ map (column []) (take (i + 1) names))
numbers_more d count names i name numbers new place h at below so_far pushed room is = (
  subst (AllByRecursion (λ (k : ℕ). k < count)) (sym pushed) (all_push (λ (k : ℕ). k < count) numbers place below room),
  ap (map (column_at d)) pushed
      ∙ map-append (column_at d) numbers (place ∷ [])
      ∙ ap (λ (cs : List Column). cs ++ column_at d place ∷ []) so_far
      ∙ ap (λ (c : Column). map (column []) (take i names) ++ c ∷ []) (is ∙ ap (column []) at)
      ∙ sym (map-append (column []) (take i names) (get_or names i name ∷ []))
      ∙ ap (map (column [])) (sym (take_more names i name h)),
)
