-- Names of a model by the numbers of its table.
use Rattle.std.proofs.Common.{◌≡◌, ℕ, ◌+◌, ◌<◌, nat_lt, Bool, true, false, cond, List, [], ◌∷◌, ◌++◌, length, take, drop, get_or, map, flat_map, position, Option, Some, None, slice_get, sym, ◌∙◌, ap, subst, append_assoc, arith}
use Rattle.std.specs.Option.{option_map_or}
use Rattle.std.proofs.lemmas.List.{drop_more, length-map}
use Rattle.std.specs.List.{position_or_len}
use Rattle.std.proofs.lemmas.Option.{slice_get-get_or, slice_get_within, same_Some}
use Rattle.lid_base.proofs.Once.{once_at}
use Rattle.lid_base.proofs.Places.{get_map, map_get}
use Rattle.lid_design.specs.declared.Design.{Design}
use Rattle.lid_design.specs.declared.Model.{Model}
use Rattle.lid_design.specs.Models.{occurrences}
use Rattle.lid_design.specs.Elaboration.{model_nets}
use Rattle.lid_check_table.specs.Tables.{names_in, AreNumbersOf}
use Rattle.lid_check_table.proofs.Appending.{as_many, number_there, flat_cut}
use Rattle.lid_check_table.proofs.Marking.{firsts_once}
use Rattle.lid_check_elab.specs.Templates.{model_names, name_at}
use Rattle.lid_check_elab.specs.Parts.{ArePlaces}

-- by a model's own names, and by its number
pub same_names : (d : Design) (k : ℕ) (m : Model) → slice_get d.models k ≡ Some m → names_in m ≡ model_names d k
same_names d k m here = sym (ap (λ (o : Option Model). option_map_or names_in o []) here)

pub numbers_here : (d : Design) (k : ℕ) (m : Model) → slice_get d.models k ≡ Some m → (list : List (List ℕ)) (numbers : List ℕ) → AreNumbersOf (names_in m) list numbers → AreNumbersOf (model_names d k) list numbers
numbers_here d k m here list numbers are = subst (λ (ns : List (List ℕ)). AreNumbersOf ns list numbers) (same_names d k m here) are

-- the number at the place of a name leads to it
pub name_read : (names own : List (List ℕ)) (numbers : List ℕ) (i : ℕ) (name : List ℕ) → AreNumbersOf names own numbers → slice_get own i ≡ Some name → slice_get names (get_or numbers i 0) ≡ Some name
name_read names own numbers i name are at =
    let low = slice_get_within own i name at in
    let many = as_many names own numbers are in
    let below : i < length numbers = omega arith in
    number_there names own numbers i (get_or numbers i 0) name are at (slice_get-get_or numbers i 0 below)

-- the next of some numbers leads to the next name
pub record IsNext (names own : List (List ℕ)) (i number : ℕ) : Type 0 where
  pub name : List ℕ
  pub leads : slice_get names number ≡ Some name
  pub left : drop i own ≡ name ∷ drop (i + 1) own

pub next_name : (names own : List (List ℕ)) (numbers : List ℕ) (i : ℕ) → AreNumbersOf names own numbers → i < length numbers → IsNext names own i (get_or numbers i 0)
next_name names own numbers i are below = record {
  name = get_or own i [];
  leads = name_read names own numbers i (get_or own i []) are (slice_get-get_or own i [] low);
  left = drop_more own i [] low;
}
  where
    low : i < length own
    low = let many = as_many names own numbers are in omega arith

-- a loop that pushes what each of some items stands for
pub mapped_next : {A B : Type 0} (f : A → B) (ys new : List B) (xs : List A) (i : ℕ) (x : A) (y : B) (total : List B) → new ≡ ys ++ y ∷ [] → y ≡ f x → drop i xs ≡ x ∷ drop (i + 1) xs → ys ++ map f (drop i xs) ≡ total → new ++ map f (drop (i + 1) xs) ≡ total
mapped_next {A} {B} f ys new xs i x y total pushed stands left before =
    ap (λ (zs : List B). zs ++ map f (drop (i + 1) xs)) (pushed ∙ ap (λ (z : B). ys ++ z ∷ []) stands)
    ∙ append_assoc ys (f x ∷ []) (map f (drop (i + 1) xs))
    ∙ ap (λ (zs : List A). ys ++ map f zs) (sym left)
    ∙ before

-- numbers that were split where those of the first item end
pub record AreSplit (names own rest : List (List ℕ)) (first last : List ℕ) : Type 0 where
  pub front : AreNumbersOf names own first
  pub back : AreNumbersOf names rest last

pub split_next : {A : Type 0} (f : A → List (List ℕ)) (names : List (List ℕ)) (xs : List A) (i : ℕ) (x : A) (numbers front back : List ℕ) (n : ℕ) → x ≡ get_or xs i x → i < length xs → AreNumbersOf names (flat_map f (drop i xs)) numbers → n ≡ length (f x) → front ≡ take n numbers → back ≡ drop n numbers → AreSplit names (f x) (flat_map f (drop (i + 1) xs)) front back
split_next f names xs i x numbers front back n is below are long first last =
    let cut = flat_cut f names xs i x numbers is below are in
    record {
      front = subst (AreNumbersOf names (f x)) (sym (first ∙ ap (λ (k : ℕ). take k numbers) long)) cut.front;
      back = subst (AreNumbersOf names (flat_map f (drop (i + 1) xs))) (sym (last ∙ ap (λ (k : ℕ). drop k numbers) long)) cut.back;
    }

-- places that are found by the numbers of the nets
pub are_placed : (d : Design) (k : ℕ) (m : Model) → slice_get d.models k ≡ Some m → (numbers nets places picks : List ℕ) (count : ℕ) → count ≡ length (names_in m) → ((i n : ℕ) → slice_get numbers i ≡ Some n → n < count → slice_get numbers (get_or places n 0) ≡ Some n) → AreNumbersOf (names_in m) (model_nets d k) nets → picks ≡ map (λ n. get_or places n 0) nets → ArePlaces d k numbers picks
are_placed d k m here numbers nets places picks count many stand are picked = record {
  long = ap length picked ∙ length-map nets (λ n. get_or places n 0) ∙ as_many (names_in m) (model_nets d k) nets are;
  each = each;
}
  where
    each : (j place other : ℕ) (net : List ℕ) → slice_get picks j ≡ Some place → slice_get (model_nets d k) j ≡ Some net → slice_get (map (name_at d k) numbers) other ≡ Some (Some net) → slice_get (map (name_at d k) numbers) place ≡ Some (Some net)
    each j place other net at is there =
        let own = map_get (λ n. get_or places n 0) nets j place (sym (ap (λ (ps : List ℕ). slice_get ps j) picked) ∙ at) in
        let n = own.0 in
        let leads : slice_get (names_in m) n ≡ Some net = number_there (names_in m) (model_nets d k) nets j n net are is own.1 in
        let found = map_get (name_at d k) numbers other (Some net) there in
        let leads_too : slice_get (names_in m) found.0 ≡ Some net = ap (λ (ns : List (List ℕ)). slice_get ns found.0) (same_names d k m here) ∙ sym found.2 in
        let same : found.0 ≡ n = once_at (names_in m) (firsts_once (occurrences m)) found.0 n net leads_too leads in
        let below : n < count = (let low = slice_get_within (names_in m) n net leads in omega arith) in
        let stands : slice_get numbers (get_or places n 0) ≡ Some n = stand other n (found.1 ∙ ap Some same) below in
        let last : slice_get (map (name_at d k) numbers) (get_or places n 0) ≡ Some (name_at d k n) = get_map (name_at d k) numbers (get_or places n 0) n stands in
        ap (slice_get (map (name_at d k) numbers)) own.2 ∙ last ∙ ap Some (ap (λ (ns : List (List ℕ)). slice_get ns n) (sym (same_names d k m here)) ∙ leads)

-- a place that is found is the first
pub position_some : (p : List ℕ → Bool) (xs : List (List ℕ)) (i : ℕ) → position p xs ≡ Some i → i ≡ position_or_len p xs
position_some p xs i found = by (nat_lt (position_or_len p xs) (length xs)) found
  where
    by : (b : Bool) → cond b (Some (position_or_len p xs)) None ≡ Some i → i ≡ position_or_len p xs
    by true some = sym (same_Some (position_or_len p xs) i some)
    by false none = absurd (let e : None ≡ Some i = none in cc)
