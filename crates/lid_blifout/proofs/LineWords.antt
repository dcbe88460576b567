-- What the words of each kind of line say.
use Rattle.std.proofs.Common.{◌≡◌, ℕ, zero, suc, ◌+◌, ◌-◌, ◌<◌, ◌==◌, ◌/◌, Bool, true, false, cond, ◌||◌, ◌&&◌, List, [], ◌∷◌, ◌++◌, length, get_or, take, drop, refl, sym, ap, subst, ◌∙◌, arith, length-append, inl, inr}
use Rattle.std.specs.Prelude.{not, map}
use Rattle.std.specs.List.{AllByRecursion, list_any, list_all, position_or_len, before_first, after_first}
use Rattle.std.proofs.lemmas.Bool.{cond-true, cond-false, cases_Bool, eq-eqb, ne_eqb, eqb-true, eqb-false, and_from, or_right, not_from_false}
use Rattle.std.proofs.lemmas.List.{take_all, get_or_append_left, get_or-append-add}
use Rattle.std.proofs.lemmas.List.Sums.{position_or_len_is}
use Rattle.std.proofs.lemmas.List.Elements.{All-from_recursion}
use Rattle.lid_cover.specs.Cover.{lowest_bit}
use Rattle.lid_cover.specs.declared.Cube.{Cube}
use Rattle.lid_design.specs.declared.Bind.{Bind}
use Rattle.lid_design.specs.declared.Init.{Init}
use Rattle.lid_design.specs.declared.Init.TheVariants.{Zero, One, DontCare, Unknown as UnknownInit}
use Rattle.lid_blif.specs.declared.keyword.Keyword.TheVariants.{Row}
use Rattle.lid_base.specs.Words.{word_at, last_word}
use Rattle.lid_blif.specs.Words.{named_keyword, keyword_of, is_zero, is_one, is_input_character, is_row_of, is_latch_init, is_equals, is_empty, is_binding}
use Rattle.lid_base_lines.specs.Texts.{Words}
use Rattle.lid_blifout.specs.Canonical.{character, characters, output_word, cube_line, init_word, bind_word}
use Rattle.lid_blifout.specs.Writable.{IsWritableBind}

pub length_characters : (n care value : ℕ) → length (characters n care value) ≡ n
length_characters zero care value = refl
length_characters (suc n) care value = ap suc (length_characters n (care / 2) (value / 2))

-- what holds of each character holds of a choice between the three
of_character : (P : ℕ → Type 0) → P 45 → P 48 → P 49 → (care value : ℕ) → P (character care value)
of_character P dash none one care value =
    elim (lowest_bit care) as (λ a. P (cond a (cond (lowest_bit value) 49 48) 45)) [
      | true ↦ elim (lowest_bit value) as (λ b. P (cond b 49 48)) [ true ↦ one | false ↦ none ]
      | false ↦ dash
    ]

pub of_characters : (P : ℕ → Type 0) → P 45 → P 48 → P 49 → (n care value : ℕ) → AllByRecursion P (characters n care value)
of_characters P dash none one zero care value = tt
of_characters P dash none one (suc n) care value = (of_character P dash none one care value, of_characters P dash none one n (care / 2) (value / 2))

all_pass : {X : Type 0} (p : X → Bool) (xs : List X) → AllByRecursion (λ x. p x ≡ true) xs → list_all p xs ≡ true
all_pass p [] h = refl
all_pass p (x ∷ xs) h = and_from (p x) (list_all p xs) h.0 (all_pass p xs h.1)

pub input_characters : (n care value : ℕ) → list_all is_input_character (characters n care value) ≡ true
input_characters n care value = all_pass is_input_character (characters n care value) (of_characters (λ b. is_input_character b ≡ true) refl refl refl n care value)

characters_keyword : (n care value : ℕ) (words : Words) → 0 < n → keyword_of (characters n care value ∷ words) ≡ Row
unfolding named_keyword
characters_keyword zero care value words h = absurd (omega arith)
characters_keyword (suc n) care value words h =
    of_character (λ b. keyword_of ((b ∷ characters n (care / 2) (value / 2)) ∷ words) ≡ Row) refl refl refl care value

output_keyword : (on : Bool) (words : Words) → keyword_of (output_word on ∷ words) ≡ Row
unfolding named_keyword
output_keyword true words = refl
output_keyword false words = refl

output_is : (on : Bool) → (is_zero (output_word on) || is_one (output_word on)) ≡ true
output_is true = refl
output_is false = refl

-- what holds of a row
pub record IsRowLine (inputs : ℕ) (on : Bool) (cube : Cube) (words : Words) : Type 0 where
  pub keyword : keyword_of words ≡ Row
  pub shape : is_row_of inputs words ≡ true
  pub output : last_word words ≡ output_word on
  pub characters : take inputs (word_at words 0) ≡ characters inputs cube.care cube.value

nothing_taken : (n : ℕ) (xs : List ℕ) (care value : ℕ) → n ≡ 0 → take n xs ≡ characters n care value
nothing_taken zero xs care value e = refl
nothing_taken (suc n) xs care value e = absurd (omega arith)

pub is_row_line : (inputs : ℕ) (on : Bool) (cube : Cube) → IsRowLine inputs on cube (cube_line inputs on cube)
is_row_line inputs on cube =
    elim (cases_Bool (inputs == 0)) [
      | inl yes' ↦
          let none : inputs ≡ 0 = eqb-true inputs 0 yes' in
          let line : cube_line inputs on cube ≡ output_word on ∷ [] = cond-true (inputs == 0) _ _ yes' in
          subst (IsRowLine inputs on cube) (sym line) (record {
            keyword = output_keyword on [];
            shape = rw yes' (output_is on);
            output = refl;
            characters = nothing_taken inputs (output_word on) cube.care cube.value none;
          })
      | inr no' ↦
          let apart : inputs ≡ 0 → ⊥ = eqb-false inputs 0 no' in
          let some : 0 < inputs = omega arith in
          let cs = characters inputs cube.care cube.value in
          let line : cube_line inputs on cube ≡ cs ∷ output_word on ∷ [] = cond-false (inputs == 0) _ _ no' in
          subst (IsRowLine inputs on cube) (sym line) (record {
            keyword = characters_keyword inputs cube.care cube.value (output_word on ∷ []) some;
            shape = rw no' (and_from (length cs == inputs && list_all is_input_character cs) (is_zero (output_word on) || is_one (output_word on))
                (and_from (length cs == inputs) (list_all is_input_character cs) (eq-eqb (length cs) inputs (length_characters inputs cube.care cube.value)) (input_characters inputs cube.care cube.value)) (output_is on));
            output = refl;
            characters = take_all inputs cs (omega (arith, length_characters inputs cube.care cube.value));
          })
    ]

pub init_is : (init : Init) → is_latch_init (init_word init) ≡ true
init_is Zero = refl
init_is One = refl
init_is DontCare = refl
init_is UnknownInit = refl

-- the last of some words after others
pub last_word_after : (words : Words) (word : List ℕ) → last_word (words ++ word ∷ []) ≡ word
last_word_after words word =
    let e : length (words ++ word ∷ []) - 1 ≡ length words + 0 = omega (arith, length-append words (word ∷ [])) in
    ap (λ (k : ℕ). get_or (words ++ word ∷ []) k []) e ∙ get_or-append-add words (word ∷ []) 0 []

module _ (bind : Bind) (w : IsWritableBind bind) where
  equals_at : position_or_len is_equals (bind_word bind) ≡ length bind.formal
  equals_at =
      let all = All-from_recursion (λ b. is_equals b ≡ false) bind.formal w.split in
      let e : get_or (bind.formal ++ 61 ∷ bind.actual) (length bind.formal + 0) 0 ≡ 61 = get_or-append-add bind.formal (61 ∷ bind.actual) 0 0 in
      let e0 : length bind.formal + 0 ≡ length bind.formal = omega arith in
      position_or_len_is is_equals (bind_word bind) (length bind.formal) 0 (omega (arith, length-append bind.formal (61 ∷ bind.actual)))
      (λ k l. ap is_equals (get_or_append_left bind.formal (61 ∷ bind.actual) 0 k l) ∙ all k 0 l)
      (λ l. ap (λ (k : ℕ). is_equals (get_or (bind_word bind) k 0)) (sym e0) ∙ ap is_equals e)

  pub formal_back : before_first is_equals (bind_word bind) ≡ bind.formal
  formal_back = ap (λ (k : ℕ). take k (bind_word bind)) equals_at ∙ take_front bind.formal (61 ∷ bind.actual)
    where
      take_front : (xs ys : List ℕ) → take (length xs) (xs ++ ys) ≡ xs
      take_front [] ys = refl
      take_front (x ∷ xs) ys = ap (λ (zs : List ℕ). x ∷ zs) (take_front xs ys)

  pub actual_back : after_first is_equals (bind_word bind) ≡ bind.actual
  actual_back = ap (λ (k : ℕ). drop (k + 1) (bind_word bind)) equals_at ∙ drop_front bind.formal bind.actual
    where
      drop_front : (xs ys : List ℕ) → drop (length xs + 1) (xs ++ 61 ∷ ys) ≡ ys
      drop_front [] ys = refl
      drop_front (x ∷ xs) ys =
          let e : suc (length xs) + 1 ≡ suc (length xs + 1) = omega arith in
          ap (λ (k : ℕ). drop k (x ∷ (xs ++ 61 ∷ ys))) e ∙ drop_front xs ys

  pub is_bound : is_binding (bind_word bind) ≡ true
  is_bound =
      let here : list_any is_equals (bind_word bind) ≡ true = any_after bind.formal bind.actual in
      let some : is_empty bind.formal ≡ false = ne_eqb (length bind.formal) 0 (λ e. absurd (omega (arith, w.formal.some))) in
      let other : is_empty bind.actual ≡ false = ne_eqb (length bind.actual) 0 (λ e. absurd (omega (arith, w.actual.some))) in
      and_from _ _ here (and_from _ _ (ap (λ (xs : List ℕ). not (is_empty xs)) formal_back ∙ not_from_false _ some) (ap (λ (xs : List ℕ). not (is_empty xs)) actual_back ∙ not_from_false _ other))
    where
      any_after : (xs ys : List ℕ) → list_any is_equals (xs ++ 61 ∷ ys) ≡ true
      any_after [] ys = refl
      any_after (x ∷ xs) ys = or_right (is_equals x) (list_any is_equals (xs ++ 61 ∷ ys)) (any_after xs ys)

pub are_bound : (binds : List Bind) → AllByRecursion IsWritableBind binds → list_all is_binding (map bind_word binds) ≡ true
are_bound [] h = refl
are_bound (bind ∷ binds) h = and_from (is_binding (bind_word bind)) (list_all is_binding (map bind_word binds)) (is_bound bind h.0) (are_bound binds h.1)
