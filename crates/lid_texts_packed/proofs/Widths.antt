-- Rows of one width in words: where they lie, and one row more.
use Rattle.std.proofs.Common.{◌≡◌, ℕ, ◌+◌, ◌*◌, ◌^◌, ◌/◌, ◌%◌, ◌<◌, ◌≤◌, ◌==◌, ◌⊎◌, Bool, false, List, [], ◌∷◌, ◌++◌, length, get_or, set, bit_and, inl, inr, sym, ◌∙◌, ap, arith}
use Rattle.std.proofs.Math.Nat.{mul-le-mul_right}
use Rattle.std.proofs.lemmas.Bool.{cases_eq}
use Rattle.std.proofs.lemmas.List.{get_or_append_left, get_or-set_same, get_or-set_other, ext_get_or}
use Rattle.std.proofs.Math.ListN.{get_or-eq_default}
use Rattle.std.specs.Int.{bit_at}
use Rattle.std.proofs.lemmas.Nat.Bits.{shr_and_one}
use Rattle.lid_base.proofs.Each.{each_length, each_one_more, each_same}
use Rattle.lid_texts_packed.specs.Bits.{words_for, words_of, has_bit}
use Rattle.lid_texts_packed.specs.Rows.{row_in, rows_in}
use Rattle.lid_texts_packed.proofs.Words.{each_there, appended_bit}

-- the words of a row end where those of the next begin
pub span_within : (row count k span : ℕ) → row < count → k < span → row * span + k < count * span
span_within row count k span less inside =
    let next : (row + 1) * span ≤ count * span = mul-le-mul_right span (omega (arith, less)) in
    let apart : (row + 1) * span ≡ row * span + span = next_row row span in
    omega (arith, next, apart, inside)
  where
    next_row : (a b : ℕ) → (a + 1) * b ≡ a * b + b
    next_row a b = omega (arith)

pub word_within : (row count place width : ℕ) → row < count → place < width → row * words_for width + place / 64 < count * words_for width
word_within row count place width less inside = span_within row count (place / 64) (words_for width) less (omega (arith, inside))

module _ (words : List ℕ) (width count : ℕ) where
  -- so many rows
  pub rows_count : length (rows_in words width count) ≡ count
  rows_count = each_length (row_in words width) 0 count

  module _ (row : ℕ) (less : row < count) where
    row_there : get_or (rows_in words width count) row [] ≡ row_in words width row
    row_there = each_there (row_in words width) count row [] less

    -- each row is so wide
    pub row_wide : length (get_or (rows_in words width count) row []) ≡ width
    row_wide = ap (λ (r : List Bool). length r) row_there ∙ each_length (has_bit words (row * words_for width)) 0 width

    -- a bit of a row that is so wide, by the word that it stands in, and one of a row that is not
    pub bit_is : (place word : ℕ) → place < width → word ≡ get_or words (row * words_for width + place / 64) 0 → (bit_and (word / 2 ^ (place % 64)) 1 == 1) ≡ get_or (get_or (rows_in words width count) row []) place false
    bit_is place word inside is =
        ap (λ (n : ℕ). n == 1) (shr_and_one word (place % 64) ∙ ap (λ (w : ℕ). bit_at w (place % 64)) is)
        ∙ sym (each_there (has_bit words (row * words_for width)) width place false inside)
        ∙ ap (λ (r : List Bool). get_or r place false) (sym row_there)

    pub no_bit : (place : ℕ) → width ≤ place → false ≡ get_or (get_or (rows_in words width count) row []) place false
    no_bit place past = sym (get_or-eq_default (get_or (rows_in words width count) row []) false (let long = row_wide in omega (arith, past, long)))

  -- rows with one more row after them
  pub rows_more : (row : List Bool) → length words ≡ count * words_for width → length row ≡ width → rows_in (words ++ words_of row) width (count + 1) ≡ rows_in words width count ++ row ∷ []
  rows_more row ends wide =
      each_one_more (row_in more width) count
      ∙ ap (λ (rs : List (List Bool)). rs ++ row_in more width count ∷ []) (each_same (row_in more width) (row_in words width) 0 count (λ t less. before t (omega (arith, less))))
      ∙ ap (λ (r : List Bool). rows_in words width count ++ r ∷ []) last
    where
      more : List ℕ
      more = words ++ words_of row

      before : (t : ℕ) → t < count → row_in more width t ≡ row_in words width t
      before t less = each_same (has_bit more (t * words_for width)) (has_bit words (t * words_for width)) 0 width
          (λ j inside. ap (λ (w : ℕ). bit_at w (j % 64) == 1) (get_or_append_left words (words_of row) 0 (t * words_for width + j / 64) (let within = word_within t count j width less (omega (arith, inside)) in omega (arith, within, ends))))

      last : row_in more width count ≡ row
      last = ext_get_or false (row_in more width count) row (long ∙ sym wide) (λ j inside. at j (omega (arith, inside, long)))
        where
          long : length (row_in more width count) ≡ width
          long = each_length (has_bit more (count * words_for width)) 0 width

          at : (j : ℕ) → j < width → get_or (row_in more width count) j false ≡ get_or row j false
          at j inside =
              each_there (has_bit more (count * words_for width)) width j false inside
              ∙ ap (λ (start : ℕ). has_bit more start j) (sym ends)
              ∙ appended_bit words row j (omega (arith, inside, wide))

-- bits that are written one after the other
pub written : (into row : List Bool) (place : ℕ) (bit : Bool) → place < length into → bit ≡ get_or row place false → ((j : ℕ) → j < place → get_or into j false ≡ get_or row j false) → (j : ℕ) → j < place + 1 → get_or (set into place bit) j false ≡ get_or row j false
written into row place bit inside is before j less = by (cases_eq j place)
  where
    by : (j ≡ place) ⊎ (j ≡ place → ⊥) → get_or (set into place bit) j false ≡ get_or row j false
    by (inl same) = ap (λ (n : ℕ). get_or (set into place bit) n false) same ∙ get_or-set_same into place bit false inside ∙ is ∙ ap (λ (n : ℕ). get_or row n false) (sym same)
    by (inr other) = get_or-set_other into place j bit false other ∙ before j (omega (arith, less, other))
