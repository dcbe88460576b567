-- Words that are written out, and numbers in decimal digits: they are spelled.
use Rattle.std.proofs.Common.{◌≡◌, ℕ, ◌+◌, ◌%◌, ◌^◌, ◌<◌, ◌≤◌, ◌==◌, ◌&&◌, true, false, List, [], ◌∷◌, length, map, refl, arith}
use Rattle.std.specs.Prelude.{not, nat_lt, nat_le}
use Rattle.std.specs.Fmt.{decimal}
use Rattle.std.specs.List.{AllByRecursion, list_all}
use Rattle.std.proofs.lemmas.Bool.{le-leb, ne_eqb, and_from, ltb-true, leb-true, not_from_false}
use Rattle.std.proofs.lemmas.Fmt.{decimal_by_steps, decimal_nonempty, length-decimal-le}
use Rattle.lid_base.specs.Lines.{ends_in_mark, is_hash}
use Rattle.lid_base.proofs.Lists.{all_append}
use Rattle.lid_base.proofs.Numbers.{number_back}
use Rattle.lid_base_lines.specs.Spelled.{is_word_byte, IsSpelled}
use Rattle.lid_base_lines.specs.Laws.{NumbersAreReadBack}
use Rattle.lid_base.proofs.Alls.{all_weaker, all_true}

-- a word that is written out
pub spelled_word : (longest : ℕ) (word : List ℕ) → nat_lt 0 (length word) ≡ true → nat_le (length word) longest ≡ true → list_all is_word_byte word ≡ true → ends_in_mark word ≡ false → IsSpelled longest word
spelled_word longest word a b c d = record { some = ltb-true 0 (length word) a; short = leb-true (length word) longest b; bytes = all_true is_word_byte word c; unmarked = d }

pub no_mark : (xs : List ℕ) → AllByRecursion (λ b. (b == 92) ≡ false) xs → ends_in_mark xs ≡ false
no_mark [] h = refl
no_mark (x ∷ []) h = h.0
no_mark (x ∷ y ∷ xs) h = no_mark (y ∷ xs) h.1

-- a byte of a word that is no mark
record IsPlain (b : ℕ) : Type 0 where
  word : is_word_byte b ≡ true
  mark : (b == 92) ≡ false

plain_digit : (d : ℕ) → d < 10 → IsPlain (48 + d)
plain_digit d h =
    let low : 33 ≤ 48 + d = omega arith in
    let high : 48 + d ≤ 126 = omega arith in
    let other : is_hash (48 + d) ≡ false = ne_eqb (48 + d) 35 (λ e. absurd (omega arith)) in
    record {
      word = and_from (nat_le 33 (48 + d) && nat_le (48 + d) 126) (not (is_hash (48 + d))) (and_from (nat_le 33 (48 + d)) (nat_le (48 + d) 126) (le-leb 33 (48 + d) low) (le-leb (48 + d) 126 high)) (not_from_false (is_hash (48 + d)) other);
      mark = ne_eqb (48 + d) 92 (λ e. absurd (omega arith));
    }

plain_digits : (n : ℕ) → n < 2 ^ 64 → AllByRecursion IsPlain (decimal n)
plain_digits n h =
    decimal_by_steps (λ m ds. AllByRecursion IsPlain ds) (λ m small. (plain_digit m small, tt)) (λ m ds large front. all_append IsPlain ds ((48 + m % 10) ∷ []) front (plain_digit (m % 10) (omega arith), tt)) n h

-- a number has at most 20 digits
pub spelled_number : (longest n : ℕ) → n < 2 ^ 64 → 20 ≤ longest → IsSpelled longest (decimal n)
spelled_number longest n h room =
    let few : length (decimal n) ≤ 20 = length-decimal-le 20 n (omega arith) (omega arith) h in
    let plain = plain_digits n h in
    record {
      some = decimal_nonempty n h;
      short = omega arith;
      bytes = all_weaker IsPlain (λ b. is_word_byte b ≡ true) (decimal n) (λ b p. p.word) plain;
      unmarked = no_mark (decimal n) (all_weaker IsPlain (λ b. (b == 92) ≡ false) (decimal n) (λ b p. p.mark) plain);
    }

pub spelled_numbers : (longest limit : ℕ) (ns : List ℕ) → limit ≤ 2 ^ 64 → 20 ≤ longest → AllByRecursion (λ n. n < limit) ns → AllByRecursion (IsSpelled longest) (map decimal ns)
spelled_numbers longest limit [] within room small = tt
spelled_numbers longest limit (n ∷ ns) within room small = (spelled_number longest n (omega (arith, small.0)) room, spelled_numbers longest limit ns within room small.1)

pub numbers_read_back : NumbersAreReadBack
numbers_read_back n h = record { spelled = spelled_number 20 n h (omega arith); same = number_back (2 ^ 64) n h h }
