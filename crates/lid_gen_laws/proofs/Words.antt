-- The names of generated designs are words.
use Rattle.std.proofs.Common.{◌≡◌, ◌⊎◌, ℕ, zero, suc, ◌+◌, ◌-◌, ◌/◌, ◌%◌, ◌^◌, ◌<◌, ◌≤◌, ◌==◌, nat_lt, Bool, true, false, cond, List, [], ◌∷◌, ◌++◌, length, inl, inr, refl, sym, subst, arith, length-append}
use Rattle.std.specs.Fmt.{decimal}
use Rattle.std.specs.List.{AllByRecursion}
use Rattle.std.proofs.lemmas.Bool.{ltb-true}
use Rattle.lid_base.specs.Lines.{ends_in_mark}
use Rattle.lid_base.proofs.Lists.{all_append}
use Rattle.lid_base_lines.specs.Spelled.{is_word_byte, IsSpelled}
use Rattle.lid_base_lines.proofs.Numbers.{spelled_word, spelled_number}
use Rattle.lid_gen.specs.Designs.{input_name, output_name, shell_net, letter_of, net_at, before, kind_name}
use Rattle.lid_gen_laws.proofs.Names.{letter_cases}

-- a word that may be longer
pub wider : (short long : ℕ) (word : List ℕ) → short ≤ long → IsSpelled short word → IsSpelled long word
wider short long word room is = record { some = is.some; short = omega (arith, room, is.short); bytes = is.bytes; unmarked = is.unmarked }

mark_last : (xs ys : List ℕ) → 0 < length ys → ends_in_mark ys ≡ false → ends_in_mark (xs ++ ys) ≡ false
mark_last [] ys some end = end
mark_last (x ∷ []) [] some end = absurd (omega (arith, some))
mark_last (x ∷ []) (y ∷ ys) some end = end
mark_last (x ∷ z ∷ xs) ys some end = mark_last (z ∷ xs) ys some end

-- bytes before a word
pub begun : (longest : ℕ) (xs ys : List ℕ) → AllByRecursion (λ b. is_word_byte b ≡ true) xs → IsSpelled longest ys → IsSpelled (length xs + longest) (xs ++ ys)
begun longest xs ys bytes is =
    let both = length-append xs ys in
    record {
      some = omega (arith, both, is.some);
      short = omega (arith, both, is.short);
      bytes = all_append (λ b. is_word_byte b ≡ true) xs ys bytes is.bytes;
      unmarked = mark_last xs ys is.some is.unmarked;
    }

-- what holds of each of the first four numbers
of_four : (P : ℕ → Type 0) → P 0 → P 1 → P 2 → P 3 → (j : ℕ) → j < 4 → P j
of_four P a b c d zero few = a
of_four P a b c d (suc zero) few = b
of_four P a b c d (suc (suc zero)) few = c
of_four P a b c d (suc (suc (suc zero))) few = d
of_four P a b c d (suc (suc (suc (suc j)))) few = absurd (omega (arith, few))

pub input_word : (j : ℕ) → j < 4 → IsSpelled 30 (input_name j)
input_word = of_four (λ j. IsSpelled 30 (input_name j))
    (spelled_word 30 (input_name 0) refl refl refl refl) (spelled_word 30 (input_name 1) refl refl refl refl) (spelled_word 30 (input_name 2) refl refl refl refl) (spelled_word 30 (input_name 3) refl refl refl refl)

pub output_word : (j : ℕ) → j < 4 → IsSpelled 30 (output_name j)
output_word = of_four (λ j. IsSpelled 30 (output_name j))
    (spelled_word 30 (output_name 0) refl refl refl refl) (spelled_word 30 (output_name 1) refl refl refl refl) (spelled_word 30 (output_name 2) refl refl refl refl) (spelled_word 30 (output_name 3) refl refl refl refl)

pub kind_word : (k : ℕ) → k < 4 → IsSpelled 30 (kind_name k)
kind_word = of_four (λ k. IsSpelled 30 (kind_name k))
    (spelled_word 30 (kind_name 0) refl refl refl refl) (spelled_word 30 (kind_name 1) refl refl refl refl) (spelled_word 30 (kind_name 2) refl refl refl refl) (spelled_word 30 (kind_name 3) refl refl refl refl)

letter_word : (letter : ℕ) → (letter ≡ 113) ⊎ (letter ≡ 114) → IsSpelled 2 (95 ∷ letter ∷ [])
letter_word letter (inl is) = subst (λ (l : ℕ). IsSpelled 2 (95 ∷ l ∷ [])) (sym is) (spelled_word 2 (95 ∷ 113 ∷ []) refl refl refl refl)
letter_word letter (inr is) = subst (λ (l : ℕ). IsSpelled 2 (95 ∷ l ∷ [])) (sym is) (spelled_word 2 (95 ∷ 114 ∷ []) refl refl refl refl)

pub shell_word : (i letter : ℕ) → i < 2 ^ 64 → (letter ≡ 113) ⊎ (letter ≡ 114) → IsSpelled 30 (shell_net i letter)
shell_word i letter few is =
    let digits = spelled_number 20 i few (omega arith) in
    let short : length (110 ∷ decimal i) + 2 ≤ 30 = omega (arith, digits.short) in
    wider (length (110 ∷ decimal i) + 2) 30 (shell_net i letter) short (begun 2 (110 ∷ decimal i) (95 ∷ letter ∷ []) (refl, digits.bytes) (letter_word letter is))

pub net_word : (place : ℕ) → place < 2 ^ 64 → IsSpelled 30 (net_at place)
net_word place few = by (nat_lt place 4) refl
  where
    by : (b : Bool) → nat_lt place 4 ≡ b → IsSpelled 30 (cond b (input_name place) (shell_net ((place - 4) / 2) (letter_of ((place - 4) % 2))))
    by true e = input_word place (ltb-true place 4 e)
    by false e = shell_word ((place - 4) / 2) (letter_of ((place - 4) % 2)) (omega (arith, few)) (letter_cases ((place - 4) % 2 == 0))

pub before_word : (i : ℕ) → i < 2 ^ 64 → IsSpelled 30 (before i)
before_word i few = by (i == 0)
  where
    by : (b : Bool) → IsSpelled 30 (cond b (input_name 0) (shell_net (i - 1) 113))
    by true = input_word 0 (omega arith)
    by false = shell_word (i - 1) 113 (omega (arith, few)) (inl refl)
