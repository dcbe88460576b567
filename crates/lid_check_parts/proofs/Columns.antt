-- The columns of a pearl by the numbers of its part: all, those of its data inputs, those of its outputs.
use Rattle.std.proofs.Common.{◌≡◌, ℕ, zero, suc, ◌+◌, ◌≤◌, List, [], ◌∷◌, ◌++◌, length, map, Some, slice_get, refl, sym, ◌∙◌, ap, arith, length-append}
use Rattle.std.specs.List.{range_with_len}
use Rattle.std.proofs.lemmas.List.{append-nil, length-map}
use Rattle.std.proofs.lemmas.Option.{get_or_from_slice_get}
use Rattle.lid_design.specs.declared.Design.{Design}
use Rattle.lid_design.specs.Columns.{Column, column, data_inputs}
use Rattle.lid_design.specs.Elaboration.{columns}
use Rattle.lid_check_elab.specs.Numbers.{columns_in, StandsInList}
use Rattle.lid_check_elab.specs.Elaborations.{column_at}
use Rattle.lid_check_elab.proofs.Numbering.{stands_get}
use Rattle.lid_check_parts.specs.declared.part.PearlPart.{PearlPart}
use Rattle.lid_check_parts.specs.PearlParts.{IsPearlPart}

-- a list by what stands at each place
each_is : {A : Type 0} (f : ℕ → A) (a : ℕ) (xs : List A) → ((i : ℕ) (x : A) → slice_get xs i ≡ Some x → f (a + i) ≡ x) → map f (range_with_len a (length xs)) ≡ xs
each_is f a [] at = refl
each_is {A} f a (x ∷ xs) at =
    let first : f a ≡ x = (let e : a + 0 ≡ a = omega arith in ap f (sym e) ∙ at zero x refl) in
    let later = each_is f (a + 1) xs (λ i y here. (let e : a + 1 + i ≡ a + suc i = omega arith in ap f e ∙ at (suc i) y here)) in
    ap (λ (y : A). y ∷ map f (range_with_len (a + 1) (length xs))) first ∙ ap (λ (ys : List A). x ∷ ys) later

-- what stands in a list lies within it
pub stands_few : {A : Type 0} (whole : List A) (start : ℕ) (part : List A) → StandsInList whole start part → start + length part ≤ length whole
stands_few whole start part at =
    let first = at.long in
    let all = ap length at.parts ∙ length-append at.before (part ++ at.after) in
    let inner = length-append part at.after in
    omega arith

module _ (d : Design) (p : ℕ) (part : PearlPart) (pearl : IsPearlPart d p part) where
  abbrev own : List Column
  own = columns_in (length d.models) d pearl.of.path pearl.of.number

  abbrev ins : List Column
  ins = map (column pearl.of.path) (data_inputs d pearl.of.model)

  abbrev outs : List Column
  outs = map (column pearl.of.path) pearl.of.model.outputs

  -- the column of a net of the part
  abbrev pub col : ℕ → Column
  col k = column_at d (part.start + k)

  all_stand : StandsInList own 0 own
  all_stand = record { before = []; after = []; parts = sym (append-nil own); long = refl }

  ins_stand : StandsInList own 0 ins
  ins_stand = record { before = []; after = outs ++ pearl.more; parts = pearl.begins; long = refl }

  ins_long : part.inputs ≡ length ins
  ins_long = pearl.inputs ∙ sym (length-map (data_inputs d pearl.of.model) (column pearl.of.path))

  outs_stand : StandsInList own part.inputs outs
  outs_stand = record { before = ins; after = pearl.more; parts = pearl.begins; long = sym ins_long }

  outs_long : part.outputs ≡ length outs
  outs_long = pearl.outputs ∙ sym (length-map pearl.of.model.outputs (column pearl.of.path))

  -- what stands among the pearl's columns, net by net
  stands_at : (a : ℕ) (xs : List Column) → StandsInList own a xs → (i : ℕ) (c : Column) → slice_get xs i ≡ Some c → col (a + i) ≡ c
  stands_at a xs at i c here =
      get_or_from_slice_get (columns d) (part.start + (a + i)) c (column [] []) (stands_get (columns d) part.start own pearl.stands (a + i) c (stands_get own a xs at i c here))

  nets_are : (a n : ℕ) (xs : List Column) → StandsInList own a xs → n ≡ length xs → map col (range_with_len a n) ≡ xs
  nets_are a n xs at long = ap (λ (m : ℕ). map col (range_with_len a m)) long ∙ each_is col a xs (stands_at a xs at)

  numbers_are : (a n : ℕ) (xs : List Column) → StandsInList own a xs → n ≡ length xs → map (column_at d) (range_with_len (part.start + a) n) ≡ xs
  numbers_are a n xs at long =
      ap (λ (m : ℕ). map (column_at d) (range_with_len (part.start + a) m)) long
      ∙ each_is (column_at d) (part.start + a) xs (λ i c here. (let e : part.start + a + i ≡ part.start + (a + i) = omega arith in ap (column_at d) e ∙ stands_at a xs at i c here))

  pub own_at : (i : ℕ) (c : Column) → slice_get own i ≡ Some c → col i ≡ c
  own_at i c here = (let e : i ≡ 0 + i = omega arith in ap col e) ∙ stands_at 0 own all_stand i c here

  pub input_at : (i : ℕ) (c : Column) → slice_get ins i ≡ Some c → col i ≡ c
  input_at i c here = (let e : i ≡ 0 + i = omega arith in ap col e) ∙ stands_at 0 ins ins_stand i c here

  pub output_at : (i : ℕ) (c : Column) → slice_get outs i ≡ Some c → col (part.inputs + i) ≡ c
  output_at i c here = stands_at part.inputs outs outs_stand i c here

  -- the columns by the nets of the part, in order
  pub all_are : map col (range_with_len 0 part.nets) ≡ own
  all_are = nets_are 0 part.nets own all_stand (sym pearl.long)

  pub ins_are : map col (range_with_len 0 part.inputs) ≡ ins
  ins_are = nets_are 0 part.inputs ins ins_stand ins_long

  pub outs_are : map col (range_with_len part.inputs part.outputs) ≡ outs
  outs_are = nets_are part.inputs part.outputs outs outs_stand outs_long

  -- and by their numbers among all columns
  pub inputs_are : map (column_at d) (range_with_len part.start part.inputs) ≡ ins
  inputs_are = (let e : part.start ≡ part.start + 0 = omega arith in ap (λ (n : ℕ). map (column_at d) (range_with_len n part.inputs)) e) ∙ numbers_are 0 part.inputs ins ins_stand ins_long

  pub outputs_are : map (column_at d) (range_with_len (part.start + part.inputs) part.outputs) ≡ outs
  outputs_are = numbers_are part.inputs part.outputs outs outs_stand outs_long

  -- the part holds its ports, and lies within the columns
  pub ports_within : part.inputs + part.outputs ≤ part.nets
  ports_within =
      let few = stands_few own part.inputs outs outs_stand in
      let a = outs_long in
      let b = pearl.long in
      omega arith

  pub part_within : part.start + part.nets ≤ length (columns d)
  part_within = let few = stands_few (columns d) part.start own pearl.stands in let long = pearl.long in omega arith
