-- The numbers of models by the set of their names, and the list of the reached models.
use Rattle.std.proofs.Common.{◌≡◌, ◌↔◌, ℕ, zero, suc, ◌+◌, ◌<◌, ◌≤◌, Bool, true, false, not, cond, List, [], ◌∷◌, length, map, filter, position, inl, inr, refl, sym, ◌∙◌, ap, subst, arith, add-zero, zero-add, ◌^◌}
use Rattle.std.specs.List.{AllByRecursion, IsDistinct, prefix_len}
use Rattle.std.specs.Str.{bytes_eq}
use Rattle.std.proofs.lemmas.List.{length-map}
use Rattle.std.proofs.lemmas.Slice.Eq.{bytes_eq-Decides}
use Rattle.lid_base.specs.Lists.{Among}
use Rattle.lid_check_names.specs.Names.{firsts}
use Rattle.lid_check_names.proofs.Lists.{within}
use Rattle.lid_check_digraph.specs.Graphs.{flag}
use Rattle.lid_design.specs.declared.Design.{Design}
use Rattle.lid_design.specs.declared.Model.{Model}
use Rattle.lid_design.specs.WellFormed.{IsWellFormed}
use Rattle.lid_design.specs.Models.{number_named, IsReached, Ascend, AreReached}
use Rattle.lid_check_hierarchy.specs.Surveys.{instance_numbers}
use Rattle.lid_check_hierarchy.specs.Graphs.{name_of, number_by, row_by, places_of_true}
use Rattle.lid_base.proofs.Lists.{map_same}

pub bytes_eq_comm : (xs ys : List ℕ) → bytes_eq xs ys ≡ bytes_eq ys xs
bytes_eq_comm xs ys = by (bytes_eq xs ys) refl (bytes_eq ys xs) refl
  where
    by : (a : Bool) → bytes_eq xs ys ≡ a → (b : Bool) → bytes_eq ys xs ≡ b → a ≡ b
    by true e true f = refl
    by false e false f = refl
    by true e false f = sym ((bytes_eq-Decides ys xs).1 (sym ((bytes_eq-Decides xs ys).0 e))) ∙ f
    by false e true f = sym e ∙ (bytes_eq-Decides xs ys).1 (sym ((bytes_eq-Decides ys xs).0 f))

none_same : (x : List ℕ) (xs : List (List ℕ)) → AllByRecursion (λ y. bytes_eq x y ≡ false) xs → filter (λ other. not (bytes_eq other x)) xs ≡ xs
none_same x [] all = refl
none_same x (y ∷ ys) all =
    let differs : bytes_eq y x ≡ false = bytes_eq_comm y x ∙ all.0 in
    let later = none_same x ys all.1 in
    let here : filter (λ other. not (bytes_eq other x)) (y ∷ ys) ≡ y ∷ filter (λ other. not (bytes_eq other x)) ys = ap (λ (b : Bool). cond (not b) (y ∷ filter (λ other. not (bytes_eq other x)) ys) (filter (λ other. not (bytes_eq other x)) ys)) differs in
    here ∙ ap (λ (zs : List (List ℕ)). y ∷ zs) later

-- distinct names are their own first places
pub firsts_distinct : (xs : List (List ℕ)) → IsDistinct bytes_eq xs → firsts xs ≡ xs
unfolding IsDistinct
firsts_distinct [] distinct = refl
firsts_distinct (x ∷ xs) distinct =
    ap (λ (ys : List (List ℕ)). x ∷ filter (λ other. not (bytes_eq other x)) ys) (firsts_distinct xs distinct.1)
    ∙ ap (λ (ys : List (List ℕ)). x ∷ ys) (none_same x xs distinct.0)

prefix_names : (n : List ℕ) (ms : List Model) → prefix_len (λ (m : List ℕ). not (bytes_eq n m)) (map name_of ms) ≡ prefix_len (λ (m : Model). not (bytes_eq m.name n)) ms
prefix_names n [] = refl
prefix_names n (m ∷ ms) =
    ap (λ (k : ℕ). cond (not (bytes_eq n m.name)) (1 + k) 0) (prefix_names n ms)
    ∙ ap (λ (b : Bool). cond (not b) (1 + prefix_len (λ (m : Model). not (bytes_eq m.name n)) ms) 0) (bytes_eq_comm n m.name)

position_names : (n : List ℕ) (ms : List Model) → position (bytes_eq n) (map name_of ms) ≡ position (λ m. bytes_eq m.name n) ms
position_names n ms =
    let long : length (map name_of ms) ≡ length ms = length-map ms name_of in
    ap (λ (k : ℕ). within k (length (map name_of ms))) (prefix_names n ms)
    ∙ ap (within (prefix_len (λ (m : Model). not (bytes_eq m.name n)) ms)) long

-- the set of the names of the models, and the numbers by it
module _ (d : Design) (formed : IsWellFormed d) (names : List (List ℕ)) (whole : names ≡ firsts (map name_of d.models)) where
  pub all_names : names ≡ map name_of d.models
  all_names = whole ∙ firsts_distinct (map name_of d.models) formed.distinct

  pub few_names : length names < 2 ^ 32
  few_names =
      let few = formed.few in
      let long : length (map name_of d.models) ≡ length d.models = length-map d.models name_of in
      omega (arith, ap length all_names)

  pub rows_are : map (row_by names) d.models ≡ instance_numbers d
  rows_are = map_same (row_by names) (λ m. map (λ inst. number_named d inst.model) m.insts) d.models (λ m among. map_same (number_by names) (λ inst. number_named d inst.model) m.insts (λ inst there. ap (position (bytes_eq inst.model)) all_names ∙ position_names inst.model d.models))

-- the numbers of the marks that are set
places_ascend : (least k : ℕ) (flags : List Bool) → least ≤ k → Ascend least (places_of_true k flags)
places_ascend least k [] le = tt
places_ascend least k (true ∷ flags) le = (le, places_ascend (k + 1) (k + 1) flags (omega arith))
places_ascend least k (false ∷ flags) le = places_ascend least (k + 1) flags (omega arith)

place_marked : (k j : ℕ) (flags : List Bool) → Among j (places_of_true k flags) → (i : ℕ) × (j ≡ k + i) × (flag flags i ≡ true)
place_marked k j [] among = absurd among
place_marked k j (true ∷ flags) (inl same) = (zero, same ∙ sym (add-zero k), refl)
place_marked k j (true ∷ flags) (inr among) =
    let found = place_marked (k + 1) j flags among in
    let next : j ≡ k + suc found.0 = let e = found.1 in omega arith in
    (suc found.0, next, found.2)
place_marked k j (false ∷ flags) among =
    let found = place_marked (k + 1) j flags among in
    let next : j ≡ k + suc found.0 = let e = found.1 in omega arith in
    (suc found.0, next, found.2)

marked_place : (k i : ℕ) (flags : List Bool) → flag flags i ≡ true → Among (k + i) (places_of_true k flags)
marked_place k i [] marked = absurd (let e : false ≡ true = marked in cc)
marked_place k zero (true ∷ flags) marked = inl (add-zero k)
marked_place k zero (false ∷ flags) marked = absurd (let e : false ≡ true = marked in cc)
marked_place k (suc i) (true ∷ flags) marked =
    let next : (k + 1) + i ≡ k + suc i = omega arith in
    inr (subst (λ (n : ℕ). Among n (places_of_true (k + 1) flags)) next (marked_place (k + 1) i flags marked))
marked_place k (suc i) (false ∷ flags) marked =
    let next : (k + 1) + i ≡ k + suc i = omega arith in
    subst (λ (n : ℕ). Among n (places_of_true (k + 1) flags)) next (marked_place (k + 1) i flags marked)

pub list_reached : (d : Design) (flags : List Bool) → ((k : ℕ) → (flag flags k ≡ true) ↔ IsReached d k) → AreReached d (places_of_true 0 flags)
list_reached d flags same = record {
  ascend = places_ascend 0 0 flags (omega arith);
  each = λ k. (
    (λ among. let found = place_marked 0 k flags among in (same k).0 (subst (λ (n : ℕ). flag flags n ≡ true) (sym (found.1 ∙ zero-add found.0)) found.2)),
    (λ reached. subst (λ (n : ℕ). Among n (places_of_true 0 flags)) (zero-add k) (marked_place 0 k flags ((same k).1 reached))),
  );
}
