-- The sections of a written dump lead to its body.
use Rattle.std.proofs.Common.{◌≡◌, ℕ, zero, suc, ◌+◌, ◌-◌, ◌/◌, ◌%◌, ◌<◌, ◌≤◌, ◌==◌, Bool, true, cond, List, [], ◌∷◌, ◌++◌, length, take, drop, map, refl, sym, ap, ◌∙◌, subst, length-append, append_assoc, lt-ltb, arith}
use Rattle.std.specs.Prelude.{Some, None, nat_lt, codes, bytes_eq}
use Rattle.std.specs.Fmt.{decimal}
use Rattle.std.proofs.Math.Seq.{take-append_seam, drop-append_seam}
use Rattle.std.proofs.lemmas.Bool.{and_from, eq-eqb}
use Rattle.lid_base.specs.declared.runs.Shown.{Shown}
use Rattle.lid_base.proofs.Lists.{bytes_same}
use Rattle.lid_base.proofs.Numbers.{number_back}
use Rattle.lid_base_lines.specs.Texts.{Words}
use Rattle.lid_vcd_form.specs.declared.form.Section.TheVariants.{Variable, Upscope, Definitions, Body}
use Rattle.lid_vcd_form.specs.declared.form.Next.{Next}
use Rattle.lid_vcd_form.specs.declared.form.Next.TheVariants.{Before, Inside}
use Rattle.lid_vcd_form.specs.declared.form.Place.{Place}
use Rattle.lid_vcd_form.specs.Ids.{id_of, width_of, ending_of}
use Rattle.lid_vcd_form.specs.Form.{new_place, start, step, only, begins, begins_variable, in_scope, in_variable, is_name, is_stem, is_number}
use Rattle.lid_vcd_form.specs.Text.{declaration, declarations, timescale_words, scope_words, upscope_words, definitions_words, head_lines}
use Rattle.lid_vcd.proofs.WrittenWords.{on_line, placed_lines}
use Rattle.lid_vcd.proofs.Going.{Goes, nothing, then_goes, one_word, word_then}

pub only_true : (b : Bool) (n : ℕ) (next : Next) → b ≡ true → only b n next ≡ Some (new_place n next)
only_true b n next h = ap (λ (c : Bool). cond c (Some (new_place n next)) None) h

pub same_word : (word : List ℕ) → bytes_eq word word ≡ true
same_word word = bytes_same word word refl

-- the name of a variable is its name
stem_is : (m : ℕ) → m < 4294967296 → is_stem m (115 ∷ decimal m) ≡ true
stem_is m small = ap (is_number m) (number_back 4294967296 m small (omega arith)) ∙ eq-eqb m m refl

pub name_is : (n : ℕ) → n < 196608 → is_name n (codes "s" ++ decimal (n / 3) ++ ending_of n) ≡ true
unfolding is_name
name_is n small =
    let stem : List ℕ = 115 ∷ decimal (n / 3) in
    let ending = ending_of n in
    let long : length (stem ++ ending) - length ending ≡ length stem = (let sum = length-append stem ending in omega arith) in
    let end : drop (length (stem ++ ending) - length ending) (stem ++ ending) ≡ ending = ap (λ (k : ℕ). drop k (stem ++ ending)) long ∙ drop-append_seam stem ending in
    let front : take (length (stem ++ ending) - length ending) (stem ++ ending) ≡ stem = ap (λ (k : ℕ). take k (stem ++ ending)) long ∙ take-append_seam stem ending in
    and_from (bytes_eq (drop (length (stem ++ ending) - length ending) (stem ++ ending)) ending) (is_stem (n / 3) (take (length (stem ++ ending) - length ending) (stem ++ ending)))
    (ap (λ (xs : List ℕ). bytes_eq xs ending) end ∙ same_word ending)
    (ap (is_stem (n / 3)) front ∙ stem_is (n / 3) (omega arith))

-- the words of a declaration
pub word_0 : (n : ℕ) → n < 196608 → step (new_place n (Before Variable)) (codes "$var") ≡ Some (new_place (n + 1) (Inside Variable 1))
unfolding step begins begins_variable
word_0 n small = only_true (nat_lt n 196608) (n + 1) (Inside Variable 1) (lt-ltb n 196608 small)

pub word_1 : (n : ℕ) → step (new_place n (Inside Variable 1)) (codes "wire") ≡ Some (new_place n (Inside Variable 2))
unfolding step in_variable
word_1 n = refl

pub word_2 : (n : ℕ) → step (new_place (n + 1) (Inside Variable 2)) (width_of n) ≡ Some (new_place (n + 1) (Inside Variable 3))
unfolding step in_variable
word_2 n =
    let less : n + 1 - 1 ≡ n = omega arith in
    only_true (bytes_eq (width_of n) (width_of (n + 1 - 1))) (n + 1) (Inside Variable 3) (ap (λ (m : ℕ). bytes_eq (width_of n) (width_of m)) less ∙ same_word (width_of n))

pub word_3 : (n : ℕ) → step (new_place (n + 1) (Inside Variable 3)) (id_of n) ≡ Some (new_place (n + 1) (Inside Variable 4))
unfolding step in_variable
word_3 n =
    let less : n + 1 - 1 ≡ n = omega arith in
    only_true (bytes_eq (id_of n) (id_of (n + 1 - 1))) (n + 1) (Inside Variable 4) (ap (λ (m : ℕ). bytes_eq (id_of n) (id_of m)) less ∙ same_word (id_of n))

pub word_4 : (n : ℕ) → n < 196608 → step (new_place (n + 1) (Inside Variable 4)) (codes "s" ++ decimal (n / 3) ++ ending_of n) ≡ Some (new_place (n + 1) (Inside Variable 5))
unfolding step in_variable
word_4 n small =
    let less : n + 1 - 1 ≡ n = omega arith in
    let word = codes "s" ++ decimal (n / 3) ++ ending_of n in
    only_true (is_name (n + 1 - 1) word) (n + 1) (Inside Variable 5) (ap (λ (m : ℕ). is_name m word) less ∙ name_is n small)

pub word_5 : (n : ℕ) → step (new_place n (Inside Variable 5)) (codes "$end") ≡ Some (new_place n (Before Variable))
unfolding step in_variable
word_5 n = refl

declared : (line n : ℕ) (values : List ℕ) → n < 196608 → Goes (new_place n (Before Variable)) values (map (on_line line) (declaration n)) (new_place (n + 1) (Before Variable)) values []
unfolding declaration
declared line n values small =
    let to = new_place (n + 1) (Before Variable) in
    let none : List Shown = [] in
    word_then line _ (new_place (n + 1) (Inside Variable 1)) to values values _ _ none (word_0 n small)
    (word_then line _ (new_place (n + 1) (Inside Variable 2)) to values values _ _ none (word_1 (n + 1))
    (word_then line _ (new_place (n + 1) (Inside Variable 3)) to values values _ _ none (word_2 n)
    (word_then line _ (new_place (n + 1) (Inside Variable 4)) to values values _ _ none (word_3 n)
    (word_then line _ (new_place (n + 1) (Inside Variable 5)) to values values _ _ none (word_4 n small)
    (one_word line _ to values _ (word_5 (n + 1)))))))

all_declared : (line n left : ℕ) (values : List ℕ) → n + left ≤ 196608 → Goes (new_place n (Before Variable)) values (placed_lines line (declarations n left)) (new_place (n + left) (Before Variable)) values []
all_declared line n zero values few = subst (λ (m : ℕ). Goes (new_place n (Before Variable)) values [] (new_place m (Before Variable)) values []) (omega arith) (nothing (new_place n (Before Variable)) values)
all_declared line n (suc left) values few =
    let sum : n + 1 + left ≡ n + suc left = omega arith in
    let none : List Shown = [] in
    subst (λ (m : ℕ). Goes (new_place n (Before Variable)) values (placed_lines line (declarations n (suc left))) (new_place m (Before Variable)) values []) sum
    (then_goes (new_place n (Before Variable)) (new_place (n + 1) (Before Variable)) (new_place (n + 1 + left) (Before Variable)) values values values (map (on_line line) (declaration n)) (placed_lines (line + 1) (declarations (n + 1) left)) none none
    (declared line n values (omega arith)) (all_declared (line + 1) (n + 1) left values (omega arith)))

opened : (line : ℕ) (values : List ℕ) → Goes start values (placed_lines line (timescale_words ∷ scope_words ∷ [])) (new_place 0 (Before Variable)) values []
unfolding step begins in_scope
opened line values = record { leads = refl; shows = λ more. refl }

pub closing_0 : (n : ℕ) → (n % 3 == 0) ≡ true → step (new_place n (Before Variable)) (codes "$upscope") ≡ Some (new_place n (Inside Upscope 1))
unfolding step begins begins_variable
closing_0 n whole = only_true (n % 3 == 0) n (Inside Upscope 1) whole

pub closing_1 : (n : ℕ) → step (new_place n (Inside Upscope 1)) (codes "$end") ≡ Some (new_place n (Before Definitions))
unfolding step
closing_1 n = refl

pub closing_2 : (n : ℕ) → step (new_place n (Before Definitions)) (codes "$enddefinitions") ≡ Some (new_place n (Inside Definitions 1))
unfolding step begins
closing_2 n = refl

pub closing_3 : (n : ℕ) → step (new_place n (Inside Definitions 1)) (codes "$end") ≡ Some (new_place n (Before Body))
unfolding step
closing_3 n = refl

closed : (line n : ℕ) (values : List ℕ) → (n % 3 == 0) ≡ true → Goes (new_place n (Before Variable)) values (placed_lines line (upscope_words ∷ definitions_words ∷ [])) (new_place n (Before Body)) values []
closed line n values whole =
    let to = new_place n (Before Body) in
    let none : List Shown = [] in
    word_then line _ (new_place n (Inside Upscope 1)) to values values _ _ none (closing_0 n whole)
    (word_then line _ (new_place n (Before Definitions)) to values values _ _ none (closing_1 n)
    (word_then (line + 1) _ (new_place n (Inside Definitions 1)) to values values _ _ none (closing_2 n)
    (one_word (line + 1) _ to values _ (closing_3 n))))

pub placed_append : (line : ℕ) (xs ys : List Words) → placed_lines line (xs ++ ys) ≡ placed_lines line xs ++ placed_lines (line + length xs) ys
placed_append line [] ys = ap (λ (n : ℕ). placed_lines n ys) (omega arith)
placed_append line (words ∷ xs) ys =
    let sum : line + 1 + length xs ≡ line + suc (length xs) = omega arith in
    ap (λ (ws : List (ℕ × List ℕ)). map (on_line line) words ++ ws) (placed_append (line + 1) xs ys ∙ ap (λ (n : ℕ). placed_lines (line + 1) xs ++ placed_lines n ys) sum)
    ∙ sym (append_assoc (map (on_line line) words) (placed_lines (line + 1) xs) (placed_lines (line + suc (length xs)) ys))

-- lines after one another
pub lines_then : (line : ℕ) (p q r : Place) (u v w : List ℕ) (xs ys : List Words) (c d : List Shown) → Goes p u (placed_lines line xs) q v c → ((n : ℕ) → Goes q v (placed_lines n ys) r w d) → Goes p u (placed_lines line (xs ++ ys)) r w (c ++ d)
lines_then line p q r u v w xs ys c d first second =
    subst (λ (ws : List (ℕ × List ℕ)). Goes p u ws r w (c ++ d)) (sym (placed_append line xs ys))
    (then_goes p q r u v w (placed_lines line xs) (placed_lines (line + length xs) ys) c d first (second (line + length xs)))

pub head_read : (line n : ℕ) (values : List ℕ) → n ≤ 196608 → (n % 3 == 0) ≡ true → Goes start values (placed_lines line (head_lines n)) (new_place n (Before Body)) values []
unfolding head_lines
head_read line n values few whole =
    let none : List Shown = [] in
    let mid : (m : ℕ) → Goes (new_place 0 (Before Variable)) values (placed_lines m (declarations 0 n)) (new_place n (Before Variable)) values [] =
    λ m. subst (λ (k : ℕ). Goes (new_place 0 (Before Variable)) values (placed_lines m (declarations 0 n)) (new_place k (Before Variable)) values []) (omega arith) (all_declared m 0 n values (omega arith)) in
    lines_then line start (new_place 0 (Before Variable)) (new_place n (Before Body)) values values values (timescale_words ∷ scope_words ∷ []) (declarations 0 n ++ upscope_words ∷ definitions_words ∷ []) none none (opened line values)
    (λ m. lines_then m (new_place 0 (Before Variable)) (new_place n (Before Variable)) (new_place n (Before Body)) values values values (declarations 0 n) (upscope_words ∷ definitions_words ∷ []) none none (mid m) (λ k. closed k n values whole))
