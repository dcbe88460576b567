-- Binary digits, one after another.
use Rattle.std.proofs.Common.{◌≡◌, ℕ, zero, suc, ◌+◌, ◌-◌, ◌*◌, ◌/◌, ◌%◌, ◌^◌, ◌<◌, ◌≤◌, ◌==◌, ◌||◌, Bool, true, false, List, [], ◌∷◌, ◌++◌, length, drop, get_or, inl, inr, refl, sym, ap, ◌∙◌, subst, append_assoc, arith}
use Rattle.std.specs.List.{list_all}
use Rattle.std.proofs.lemmas.Bool.{and_parts, cond-false, cases_lt}
use Rattle.std.specs.Prelude.{nat_lt}
use Rattle.lid_vcd_form.specs.Ids.{is_bit, bits_on, binary_by}

-- one more digit
pub digit_step : (k n : ℕ) (old mid new : List ℕ) → 0 < k → 2 ≤ n → mid ≡ old ++ binary_by (k - 1) (n / 2) → new ≡ mid ++ (48 + n % 2) ∷ [] → new ≡ old ++ binary_by k n
digit_step zero n old mid new some large first last = absurd (omega arith)
digit_step (suc k) n old mid new some large first last =
    let less : suc k - 1 ≡ k = omega arith in
    let whole : binary_by (suc k) n ≡ binary_by k (n / 2) ++ (48 + n % 2) ∷ [] = cond-false (nat_lt n 2) _ _ (search (arith)) in
    last ∙ ap (λ (xs : List ℕ). xs ++ (48 + n % 2) ∷ []) (first ∙ ap (λ (m : ℕ). old ++ binary_by m (n / 2)) less) ∙ append_assoc old (binary_by k (n / 2)) ((48 + n % 2) ∷ []) ∙ ap (λ (xs : List ℕ). old ++ xs) (sym whole)

-- the only digit
pub digit_alone : (k n : ℕ) (old new : List ℕ) → 0 < k → n < 2 → new ≡ old ++ (48 + n % 2) ∷ [] → new ≡ old ++ binary_by k n
digit_alone zero n old new some small last = absurd (omega arith)
digit_alone (suc k) n old new some small last =
    let same : n % 2 ≡ n = omega arith in
    let whole : binary_by (suc k) n ≡ (48 + n) ∷ [] = search (arith) in
    last ∙ ap (λ (m : ℕ). old ++ (48 + m) ∷ []) same ∙ ap (λ (xs : List ℕ). old ++ xs) (sym whole)

pub bit_small : (b : ℕ) → is_bit b ≡ true → b - 48 ≤ 1
bit_small b h = by (b == 48) refl (b == 49) refl h
  where
    by : (x : Bool) → (b == 48) ≡ x → (y : Bool) → (b == 49) ≡ y → (x || y) ≡ true → b - 48 ≤ 1
    by true e y f g = grind arith
    by false e true f g = grind arith
    by false e false f g = absurd (let k : false ≡ true = g in cc)

-- the bits that are left
pub bits_left : (b : ℕ) (bs : List ℕ) → list_all is_bit (b ∷ bs) ≡ true → (is_bit b ≡ true) × (list_all is_bit bs ≡ true)
bits_left b bs h = and_parts (is_bit b) (list_all is_bit bs) h

-- a number of at most 31 bits, where so many are left
pub bits_room : (value left b : ℕ) → left + 1 ≤ 31 → b ≤ 1 → value < 2 ^ (31 - (left + 1)) → 2 * value + b < 2 ^ (31 - left)
bits_room value left b few small below =
    let e : 31 - left ≡ suc (31 - (left + 1)) = omega arith in
    let double : 2 ^ suc (31 - (left + 1)) ≡ 2 * 2 ^ (31 - (left + 1)) = grind arith in
    subst (λ (k : ℕ). 2 * value + b < 2 ^ k) (sym e) (omega arith)

-- the digits of a word, of which these are left after a number
pub record BitsLeft (word : List ℕ) (value : ℕ) (rest : List ℕ) : Type 0 where
  pub same : bits_on value rest ≡ bits_on 0 word
  pub bits : list_all is_bit rest ≡ true
  pub few : length rest ≤ 31
  pub below : value < 2 ^ (31 - length rest)

pub bits_next : (word rest after : List ℕ) (value next : ℕ) → 0 < length rest → after ≡ drop 1 rest → next ≡ 2 * value + (get_or rest 0 0 - 48) → BitsLeft word value rest → BitsLeft word next after
bits_next word [] after value next some e f left = absurd (omega arith)
bits_next word (b ∷ bs) after value next some e f left =
    let parts = bits_left b bs left.bits in
    let few : length bs + 1 ≤ 31 = (let h = left.few in omega arith) in
    let below : value < 2 ^ (31 - (length bs + 1)) = subst (λ (k : ℕ). value < 2 ^ (31 - k)) (omega arith) left.below in
    let so : BitsLeft word (2 * value + (b - 48)) bs = record { same = left.same; bits = parts.1; few = omega arith; below = bits_room value (length bs) (b - 48) few (bit_small b parts.0) below } in
    subst (λ (n : ℕ). BitsLeft word n after) (sym f) (subst (λ (xs : List ℕ). BitsLeft word (2 * value + (b - 48)) xs) (sym e) so)

pub digit_next : (k n m : ℕ) (old mid new : List ℕ) → 0 < k → (2 ≤ n → mid ≡ old ++ binary_by (k - 1) (n / 2)) → (n < 2 → mid ≡ old) → m ≡ 48 + n % 2 → new ≡ mid ++ m ∷ [] → new ≡ old ++ binary_by k n
digit_next k n m old mid new some large small e last =
    let whole : new ≡ mid ++ (48 + n % 2) ∷ [] = last ∙ ap (λ (d : ℕ). mid ++ d ∷ []) e in
    elim (cases_lt n 2) [
      | inl lt ↦ digit_alone k n old new some lt (whole ∙ ap (λ (xs : List ℕ). xs ++ (48 + n % 2) ∷ []) (small lt))
      | inr ge ↦ digit_step k n old mid new some ge (large ge) whole
    ]
