-- The changes of a written dump set the variables.
use Rattle.std.proofs.Common.{◌≡◌, ℕ, zero, suc, ◌+◌, ◌-◌, ◌*◌, ◌/◌, ◌%◌, ◌^◌, ◌<◌, ◌≤◌, ◌&&◌, Bool, true, false, not, cond, List, [], ◌∷◌, ◌++◌, length, map, set, refl, sym, ap, ◌∙◌, subst, length-append, lt-ltb, inl, inr, arith}
use Rattle.std.specs.Prelude.{Some, None, nat_lt, nat_le, bytes_eq}
use Rattle.std.specs.Fmt.{decimal}
use Rattle.std.specs.List.{list_all}
use Rattle.std.proofs.Math.Seq.{set-append_seam}
use Rattle.std.proofs.lemmas.Bool.{and_from, and_parts, cases_lt, cond-true, cond-false, le-leb}
use Rattle.lid_base.specs.declared.runs.Shown.{Shown}
use Rattle.lid_base.proofs.Numbers.{number_back}
use Rattle.lid_vcd_form.specs.declared.form.Next.{Next}
use Rattle.lid_vcd_form.specs.declared.form.Next.TheVariants.{Time, Set, Bits}
use Rattle.lid_vcd_form.specs.Ids.{id_of, id_value, variable_of, token_in_bits, binary, binary_by, bits_on, is_bit, are_bits, is_token}
use Rattle.lid_vcd_form.specs.Form.{new_place, step, in_body, later, bit_set, token_read, token_set, change}
use Rattle.lid_vcd_form.specs.Shows.{time_of, cycles_of}
use Rattle.lid_vcd_form.specs.Text.{time_words, bit_words, token_words}
use Rattle.lid_vcd.proofs.WrittenWords.{on_line}
use Rattle.lid_vcd.proofs.Going.{Goes, one_word, word_then}
use Rattle.lid_vcd.proofs.HeadRead.{only_true, same_word}

-- an ID stands for its variable
value_back : (n : ℕ) → n < 830584 → id_value (id_of n) ≡ n
unfolding id_of
value_back n small =
    elim (cases_lt n 94) [
      | inl one ↦
          let e = cond-true (nat_lt n 94) ((33 + n) ∷ []) (cond (nat_lt n 8836) ((33 + n % 94) ∷ (33 + n / 94) ∷ []) ((33 + n % 94) ∷ (33 + n / 94 % 94) ∷ (33 + n / 8836 % 94) ∷ [])) (lt-ltb n 94 one) in
          ap id_value e ∙ omega arith
      | inr more ↦
          let e = cond-false (nat_lt n 94) ((33 + n) ∷ []) (cond (nat_lt n 8836) ((33 + n % 94) ∷ (33 + n / 94) ∷ []) ((33 + n % 94) ∷ (33 + n / 94 % 94) ∷ (33 + n / 8836 % 94) ∷ [])) (search (arith)) in
          elim (cases_lt n 8836) [
            | inl two ↦ ap id_value (e ∙ cond-true (nat_lt n 8836) _ _ (lt-ltb n 8836 two)) ∙ omega arith
            | inr three ↦ ap id_value (e ∙ cond-false (nat_lt n 8836) _ _ (search (arith))) ∙ omega arith
          ]
    ]

pub named : (variables n : ℕ) → n < variables → n < 830584 → variable_of variables (id_of n) ≡ Some n
unfolding variable_of
named variables n below small =
    let back = value_back n small in
    let same : bytes_eq (id_of n) (id_of (id_value (id_of n))) ≡ true = ap (λ (m : ℕ). bytes_eq (id_of n) (id_of m)) back ∙ same_word (id_of n) in
    let here : nat_lt (id_value (id_of n)) variables ≡ true = ap (λ (m : ℕ). nat_lt m variables) back ∙ lt-ltb n variables below in
    cond-true (nat_lt (id_value (id_of n)) variables && bytes_eq (id_of n) (id_of (id_value (id_of n)))) (Some (id_value (id_of n))) None (and_from _ _ here same) ∙ ap Some back

-- binary digits stand for their number
bits_push : (n : ℕ) (bits : List ℕ) (b : ℕ) → bits_on n (bits ++ b ∷ []) ≡ 2 * bits_on n bits + (b - 48)
bits_push n [] b = refl
bits_push n (c ∷ bits) b = bits_push (2 * n + (c - 48)) bits b

record AreDigits (most n : ℕ) (word : List ℕ) : Type 0 where
  value : bits_on 0 word ≡ n
  some : 0 < length word
  few : length word ≤ most
  bits : list_all is_bit word ≡ true

all_push : (bits : List ℕ) (b : ℕ) → list_all is_bit bits ≡ true → is_bit b ≡ true → list_all is_bit (bits ++ b ∷ []) ≡ true
all_push [] b h k = and_from (is_bit b) true k refl
all_push (c ∷ bits) b h k = let parts = and_parts (is_bit c) (list_all is_bit bits) h in and_from (is_bit c) (list_all is_bit (bits ++ b ∷ [])) parts.0 (all_push bits b parts.1 k)

bit_is : (d : ℕ) → d < 2 → is_bit (48 + d) ≡ true
bit_is zero h = refl
bit_is (suc zero) h = refl
bit_is (suc (suc d)) h = absurd (omega arith)

digits_back : (k n : ℕ) → n < 2 ^ suc k → AreDigits (suc k) n (binary_by (suc k) n)
digits_back zero n h =
    let small : n < 2 = omega arith in
    let e : binary_by 1 n ≡ (48 + n) ∷ [] = cond-true (nat_lt n 2) _ _ (lt-ltb n 2 small) in
    subst (AreDigits 1 n) (sym e) (record { value = omega arith; some = omega arith; few = omega arith; bits = and_from (is_bit (48 + n)) true (bit_is n small) refl })
digits_back (suc k) n h =
    elim (cases_lt n 2) [
      | inl small ↦
          let e : binary_by (suc (suc k)) n ≡ (48 + n) ∷ [] = cond-true (nat_lt n 2) _ _ (lt-ltb n 2 small) in
          subst (AreDigits (suc (suc k)) n) (sym e) (record { value = omega arith; some = omega arith; few = omega arith; bits = and_from (is_bit (48 + n)) true (bit_is n small) refl })
      | inr large ↦
          let e : binary_by (suc (suc k)) n ≡ binary_by (suc k) (n / 2) ++ (48 + n % 2) ∷ [] = cond-false (nat_lt n 2) _ _ (search (arith)) in
          let double : 2 ^ suc (suc k) ≡ 2 * 2 ^ suc k = grind arith in
          let front = digits_back k (n / 2) (omega arith) in
          let bits = binary_by (suc k) (n / 2) in
          let last : list_all is_bit (bits ++ (48 + n % 2) ∷ []) ≡ true = all_push bits (48 + n % 2) front.bits (bit_is (n % 2) (omega arith)) in
          let long = length-append bits ((48 + n % 2) ∷ []) in
          let value : bits_on 0 (bits ++ (48 + n % 2) ∷ []) ≡ n = (let push = bits_push 0 bits (48 + n % 2) in let v = front.value in omega arith) in
          subst (AreDigits (suc (suc k)) n) (sym e) (record { value = value; some = omega arith; few = (let f = front.few in omega arith); bits = last })
    ]

pub token_back : (n : ℕ) → n < 2 ^ 31 → token_in_bits (binary n) ≡ Some n
unfolding token_in_bits binary
token_back n h =
    let so = digits_back 30 n h in
    let bits = binary_by 31 n in
    cond-true (are_bits bits) (Some (bits_on 0 bits)) None
    (and_from (nat_lt 0 (length bits)) (nat_le (length bits) 31 && list_all is_bit bits) (lt-ltb 0 (length bits) so.some) (and_from (nat_le (length bits) 31) (list_all is_bit bits) (le-leb (length bits) 31 so.few) so.bits))
    ∙ ap Some so.value

-- a place in the body, at this time
pub record AtTime (variables at : ℕ) (next : Next) : Type 0 where
  pub steps : (word : List ℕ) → step (new_place variables next) word ≡ in_body variables at word
  pub time : time_of next ≡ at

pub at_time : (variables at : ℕ) → AtTime variables at (Time at)
unfolding step
at_time variables at = record { steps = λ word. refl; time = refl }

pub at_set : (variables at n value : ℕ) → AtTime variables at (Set at n value)
unfolding step
at_set variables at n value = record { steps = λ word. refl; time = refl }

pub time_told : (variables at k : ℕ) → at < k → k < 4294967296 → in_body variables at (35 ∷ decimal k) ≡ Some (new_place variables (Time k))
unfolding in_body
time_told variables at k after small = ap (later variables at) (number_back 4294967296 k small (omega arith)) ∙ only_true (nat_lt at k) variables (Time k) (lt-ltb at k after)

-- a later time
pub time_read : (line variables at k : ℕ) (next : Next) (values : List ℕ) → AtTime variables at next → at < k → k < 4294967296 →
    Goes (new_place variables next) values (map (on_line line) (time_words k)) (new_place variables (Time k)) values (cycles_of (k - at) values)
time_read line variables at k next values here after small =
    let word : List ℕ = 35 ∷ decimal k in
    subst (λ (t : ℕ). Goes (new_place variables next) values ((line, word) ∷ []) (new_place variables (Time k)) values (cycles_of (k - t) values)) here.time
    (one_word line (new_place variables next) (new_place variables (Time k)) values word (here.steps word ∙ time_told variables at k after small))

abbrev pub bit_value : Bool → ℕ
bit_value true = 1
bit_value false = 0

-- a change of a bit
bit_told : (variables at n : ℕ) (bit : Bool) → at < 4294967295 → n < variables → n < 830584 → is_token n ≡ false →
    in_body variables at ((cond bit 49 48) ∷ id_of n) ≡ Some (new_place variables (Set at n (bit_value bit)))
unfolding in_body
bit_told variables at n true early below small kind =
    cond-true (nat_lt at 4294967295) (change variables at 49 (id_of n)) None (lt-ltb at 4294967295 early)
    ∙ ap (bit_set variables at 1) (named variables n below small) ∙ only_true (not (is_token n)) variables (Set at n 1) (ap not kind)
bit_told variables at n false early below small kind =
    cond-true (nat_lt at 4294967295) (change variables at 48 (id_of n)) None (lt-ltb at 4294967295 early)
    ∙ ap (bit_set variables at 0) (named variables n below small) ∙ only_true (not (is_token n)) variables (Set at n 0) (ap not kind)

pub bit_read : (line variables at : ℕ) (next : Next) (done rest : List ℕ) (x : ℕ) (bit : Bool) → AtTime variables at next → at < 4294967295 → length done < variables → length done < 830584 → is_token (length done) ≡ false →
    Goes (new_place variables next) (done ++ x ∷ rest) (map (on_line line) (bit_words (length done) bit)) (new_place variables (Set at (length done) (bit_value bit))) (done ++ bit_value bit ∷ rest) []
bit_read line variables at next done rest x bit here early below small kind =
    let n = length done in
    let word : List ℕ = cond bit 49 48 ∷ id_of n in
    subst (λ (after : List ℕ). Goes (new_place variables next) (done ++ x ∷ rest) ((line, word) ∷ []) (new_place variables (Set at n (bit_value bit))) after []) (set-append_seam done x rest (bit_value bit))
    (one_word line (new_place variables next) (new_place variables (Set at n (bit_value bit))) (done ++ x ∷ rest) word (here.steps word ∙ bit_told variables at n bit early below small kind))

-- a change of a token
bits_told : (variables at token : ℕ) → at < 4294967295 → 0 < variables → token < 2 ^ 31 → in_body variables at (98 ∷ binary token) ≡ Some (new_place variables (Bits at token))
unfolding in_body
bits_told variables at token early some small =
    cond-true (nat_lt at 4294967295) (change variables at 98 (binary token)) None (lt-ltb at 4294967295 early)
    ∙ ap (token_read variables at) (token_back token small) ∙ only_true (nat_lt 0 variables) variables (Bits at token) (lt-ltb 0 variables some)

pub token_told : (variables at n token : ℕ) → n < variables → n < 830584 → is_token n ≡ true → step (new_place variables (Bits at token)) (id_of n) ≡ Some (new_place variables (Set at n token))
unfolding step
token_told variables at n token below small kind = ap (token_set variables at token) (named variables n below small) ∙ only_true (is_token n) variables (Set at n token) kind

pub token_read_at : (line variables at : ℕ) (next : Next) (done rest : List ℕ) (x token : ℕ) → AtTime variables at next → at < 4294967295 → length done < variables → length done < 830584 → is_token (length done) ≡ true → token < 2 ^ 31 →
    Goes (new_place variables next) (done ++ x ∷ rest) (map (on_line line) (token_words (length done) token)) (new_place variables (Set at (length done) token)) (done ++ token ∷ rest) []
token_read_at line variables at next done rest x token here early below small kind fits =
    let n = length done in
    let none : List Shown = [] in
    subst (λ (after : List ℕ). Goes (new_place variables next) (done ++ x ∷ rest) (map (on_line line) (token_words n token)) (new_place variables (Set at n token)) after []) (set-append_seam done x rest token)
    (word_then line (new_place variables next) (new_place variables (Bits at token)) (new_place variables (Set at n token)) (done ++ x ∷ rest) (set (done ++ x ∷ rest) n token) (98 ∷ binary token) ((line, id_of n) ∷ []) none
    (here.steps (98 ∷ binary token) ∙ bits_told variables at token early (omega arith) fits)
    (one_word line (new_place variables (Bits at token)) (new_place variables (Set at n token)) (done ++ x ∷ rest) (id_of n) (token_told variables at n token below small kind)))
