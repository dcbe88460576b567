-- The column of a number, from a model on.
use Rattle.std.proofs.Common.{◌≡◌, ◌⊎◌, ℕ, zero, suc, ◌+◌, ◌<◌, ◌≤◌, List, [], ◌∷◌, length, take, get_or, Option, Some, None, IsSome, false, true, option_and_then, slice_get, inl, inr, refl, sym, ◌∙◌, ap, arith, zero-add}
use Rattle.std.specs.Option.{option_map_or}
use Rattle.std.proofs.lemmas.Bool.{cases_lt}
use Rattle.std.proofs.lemmas.List.{take_all}
use Rattle.std.proofs.lemmas.Option.{slice_get-get_or, get_or_from_slice_get}
use Rattle.lid_design.specs.declared.Design.{Design}
use Rattle.lid_design.specs.declared.Inst.{Inst}
use Rattle.lid_design.specs.Columns.{column}
use Rattle.lid_design.specs.Models.{insts_of, instance_number, number_from, IsReached}
use Rattle.lid_design.specs.Elaboration.{model_nets, columns, instances}
use Rattle.lid_check_elab.specs.Numbers.{over_insts, size_of, offset_of, start_of, weight_of, IsColumnSpot}
use Rattle.lid_check_drivers.specs.Judged.{IsJudged}
use Rattle.lid_check_elab.specs.Parts.{AreTemplates}
use Rattle.lid_check_elab.specs.declared.template.Template.{Template}
use Rattle.lid_check_drivers.proofs.Shallow.{IsShallow, shallow_of}
use Rattle.lid_check_elab.proofs.Numbering.{columns_length, starts_at}
use Rattle.lid_check_elab.proofs.Stacking.{size_sum, weight_sum, over_more}

module _ (d : Design) where
  pub root_spot : (number : ℕ) → number < length (columns d) → IsColumnSpot d [] d.root number number
  unfolding size_of columns instances start_of number_from
  root_spot number below = record {
    leads = refl;
    sum = zero-add number;
    within = let long = columns_length d (length d.models) [] d.root in omega arith;
  }

  over_take : (f : ℕ → ℕ) (n : ℕ) (insts : List Inst) → over_insts d f (take n insts) ≤ over_insts d f insts
  over_take f zero insts = omega arith
  over_take f (suc n) [] = omega arith
  over_take f (suc n) (inst ∷ insts) = let rest = over_take f n insts in omega arith

  -- instances have a column where there are more than the nets
  pub some_inst : (k number : ℕ) → IsShallow d (length d.models) k → length (model_nets d k) ≤ number → number < size_of d k → 0 < length (insts_of d k)
  some_inst k number deep past within = by (insts_of d k) refl
    where
      by : (insts : List Inst) → insts_of d k ≡ insts → 0 < length insts
      by [] e =
          let sum = size_sum d k deep in
          let none : over_insts d (size_of d) (insts_of d k) ≡ 0 = ap (over_insts d (size_of d)) e in
          absurd (omega arith)
      by (inst ∷ insts) e = omega arith

  -- the column of an instance stands among those of its model
  pub in_inst : (k number i j : ℕ) → IsShallow d (length d.models) k → number < size_of d k → instance_number d i k ≡ Some j → (i + 1 < length (insts_of d k) → number < offset_of d k (i + 1)) → number < offset_of d k i + size_of d j
  in_inst k number i j deep within names above = by (cases_lt (i + 1) (length (insts_of d k)))
    where
      more : over_insts d (size_of d) (take (i + 1) (insts_of d k)) ≡ over_insts d (size_of d) (take i (insts_of d k)) + size_of d j
      more = over_more d (size_of d) k i j names

      by : (i + 1 < length (insts_of d k)) ⊎ (length (insts_of d k) ≤ i + 1) → number < offset_of d k i + size_of d j
      by (inl next) = let below = above next in let sum = more in omega arith
      by (inr last) =
          let whole : over_insts d (size_of d) (take (i + 1) (insts_of d k)) ≡ over_insts d (size_of d) (insts_of d k) = ap (over_insts d (size_of d)) (take_all (i + 1) (insts_of d k) last) in
          let size = size_sum d k deep in
          let sum = more in
          omega arith

  -- one step into an instance
  pub inner_spot : (path : List ℕ) (k number total i j rest : ℕ) → IsColumnSpot d path k number total → instance_number d i k ≡ Some j → number ≡ offset_of d k i + rest → rest < size_of d j → IsColumnSpot d (i ∷ path) j rest total
  unfolding number_from start_of
  inner_spot path k number total i j rest is names split within = record {
    leads = ap (option_and_then (instance_number d i)) is.leads ∙ names;
    sum =
        let first : start_of d (i ∷ path) ≡ start_of d path + offset_of d k i = ap (λ (o : Option ℕ). start_of d path + option_map_or (λ k. offset_of d k i) o 0) is.leads in
        let whole = is.sum in
        omega arith;
    within = within;
  }

  pub lighter : (k i j : ℕ) → IsShallow d (length d.models) k → instance_number d i k ≡ Some j → weight_of d j < weight_of d k
  lighter k i j deep names =
      let more = over_more d (weight_of d) k i j names in
      let part = over_take (weight_of d) (i + 1) (insts_of d k) in
      let sum = weight_sum d k deep in
      omega arith

pub not_none : {A : Type 0} (o : Option A) → IsSome o → o ≡ None → ⊥
not_none None is none = absurd (let e : false ≡ true = is in cc)
not_none (Some a) is none = absurd (let e : Some a ≡ None = none in cc)

-- what is known of the offsets of the instances of a model
pub record AreOffsets (d : Design) (k : ℕ) (offsets : List ℕ) : Type 0 where
  pub few : length offsets ≡ length (insts_of d k)
  pub each : (i : ℕ) → i < length offsets → get_or offsets i 0 ≡ offset_of d k i

pub offsets_are : (d : Design) (ts : List Template) → AreTemplates d ts → (k : ℕ) → IsReached d k → (t : Template) (offsets : List ℕ) → offsets ≡ (get_or ts k t).offsets → AreOffsets d k offsets
offsets_are d ts all k reached t offsets same =
    let found = all k reached in
    let own : offsets ≡ found.0.offsets = same ∙ ap (λ (x : Template). x.offsets) (get_or_from_slice_get ts k found.0 t found.1) in
    record {
      few = ap length own ∙ found.2.offsets.long;
      each = λ i h. found.2.offsets.each i (get_or offsets i 0) (ap (λ (os : List ℕ). slice_get os i) (sym own) ∙ slice_get-get_or offsets i 0 h);
    }

-- a column past the nets of a model: the model has instances, and the first one starts at or before it
pub record IsPast (number : ℕ) (offsets : List ℕ) : Type 0 where
  pub some : 0 < length offsets
  pub first : get_or offsets 0 0 ≤ number

pub past_nets : (d : Design) → IsJudged d → (ts : List Template) → AreTemplates d ts → (k number : ℕ) → IsReached d k → length (model_nets d k) ≤ number → number < size_of d k → (t : Template) (offsets : List ℕ) → offsets ≡ (get_or ts k t).offsets → IsPast number offsets
past_nets d judged ts all k number reached past within t offsets same =
    let are = offsets_are d ts all k reached t offsets same in
    let some = some_inst d k number (shallow_of d judged k reached) past within in
    let few = are.few in
    let there : 0 < length offsets = omega arith in
    let at = are.each 0 there in
    record { some = there; first = omega arith }

-- the column of a net
pub spot_column : (d : Design) → IsJudged d → (path : List ℕ) (k number total : ℕ) → IsColumnSpot d path k number total → (net : List ℕ) → slice_get (model_nets d k) number ≡ Some net → slice_get (columns d) total ≡ Some (column path net)
spot_column d judged path k number total is net here = ap (slice_get (columns d)) (sym is.sum) ∙ starts_at d judged path k number net is.leads here
