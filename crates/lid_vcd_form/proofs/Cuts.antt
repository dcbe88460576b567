-- A text cut after its first word.
use Rattle.std.proofs.Common.{◌≡◌, ℕ, suc, ◌+◌, ◌<◌, ◌≤◌, Bool, true, false, cond, not, ◌||◌, List, [], ◌∷◌, ◌++◌, length, take, drop, refl, sym, ap, ◌∙◌, append-nil, append_assoc, inl, inr, ltb-false, arith}
use Rattle.std.specs.Prelude.{Some, None, nat_lt, position}
use Rattle.std.specs.List.{position_or_len}
use Rattle.std.proofs.lemmas.Bool.{cases_Bool, cond-true, not-true}
use Rattle.lid_base.proofs.Cutting.{position_some}
use Rattle.lid_base.specs.Lines.{is_newline, is_separator}
use Rattle.lid_vcd_form.specs.Words.{separates, word_before, words_on, begins_word, word_length}

-- a byte that separates words ends the one before it
ends : (line : ℕ) (word : List ℕ) (b : ℕ) (bs : List ℕ) → separates b ≡ true → words_on line word (b ∷ bs) ≡ word_before line word (words_on line [] (b ∷ bs))
ends line word b bs h = by (is_newline b) (is_separator b) h
  where
    by : (n s : Bool) → (n || s) ≡ true → cond n (word_before line word (words_on (line + 1) [] bs)) (cond s (word_before line word (words_on line [] bs)) (words_on line (word ++ b ∷ []) bs))
        ≡ word_before line word (cond n (words_on (line + 1) [] bs) (cond s (words_on line [] bs) (words_on line (b ∷ []) bs)))
    by true s e = refl
    by false true e = refl
    by false false e = absurd (let f : false ≡ true = e in cc)

-- any other byte belongs to the word
pub grows : (line : ℕ) (word : List ℕ) (b : ℕ) (bs : List ℕ) → separates b ≡ false → words_on line word (b ∷ bs) ≡ words_on line (word ++ b ∷ []) bs
grows line word b bs h = by (is_newline b) (is_separator b) h
  where
    by : (n s : Bool) → (n || s) ≡ false → cond n (word_before line word (words_on (line + 1) [] bs)) (cond s (word_before line word (words_on line [] bs)) (words_on line (word ++ b ∷ []) bs)) ≡ words_on line (word ++ b ∷ []) bs
    by true s e = absurd (let f : true ≡ false = e in cc)
    by false true e = absurd (let f : true ≡ false = e in cc)
    by false false e = refl

pub goes_on : (line : ℕ) (word bs : List ℕ) → words_on line word bs ≡ word_before line (word ++ take (word_length bs) bs) (words_on line [] (drop (word_length bs) bs))
goes_on line word [] = ap (λ (w : List ℕ). word_before line w []) (sym (append-nil word))
goes_on line word (b ∷ bs) = by (separates b) refl (goes_on line (word ++ b ∷ []) bs)
  where
    by : (s : Bool) → separates b ≡ s → words_on line (word ++ b ∷ []) bs ≡ word_before line ((word ++ b ∷ []) ++ take (word_length bs) bs) (words_on line [] (drop (word_length bs) bs)) →
        words_on line word (b ∷ bs) ≡ word_before line (word ++ take (cond s 0 (suc (word_length bs))) (b ∷ bs)) (words_on line [] (drop (cond s 0 (suc (word_length bs))) (b ∷ bs)))
    by true e next = ends line word b bs e ∙ ap (λ (w : List ℕ). word_before line w (words_on line [] (b ∷ bs))) (sym (append-nil word))
    by false e next = grows line word b bs e ∙ next ∙ ap (λ (w : List ℕ). word_before line w (words_on line [] (drop (word_length bs) bs))) (append_assoc word (b ∷ []) (take (word_length bs) bs))

-- the first word of a text that begins with one
pub cut_at : (line : ℕ) (bs : List ℕ) → begins_word bs ≡ true → 0 < length bs → words_on line [] bs ≡ (line, take (word_length bs) bs) ∷ words_on line [] (drop (word_length bs) bs)
cut_at line [] begins some = absurd (omega arith)
cut_at line (b ∷ bs) begins some = by (separates b) (not-true (separates b) begins) (goes_on line [] (b ∷ bs))
  where
    by : (s : Bool) → s ≡ false → words_on line [] (b ∷ bs) ≡ word_before line (take (cond s 0 (suc (word_length bs))) (b ∷ bs)) (words_on line [] (drop (cond s 0 (suc (word_length bs))) (b ∷ bs))) →
        words_on line [] (b ∷ bs) ≡ (line, take (cond s 0 (suc (word_length bs))) (b ∷ bs)) ∷ words_on line [] (drop (cond s 0 (suc (word_length bs))) (b ∷ bs))
    by true e whole = absurd (let f : true ≡ false = e in cc)
    by false e whole = whole

-- the end lies within, and behind the first byte of a word
pub end_within : (bs : List ℕ) → word_length bs ≤ length bs
end_within [] = omega arith
end_within (b ∷ bs) = by (separates b) (end_within bs)
  where
    by : (s : Bool) → word_length bs ≤ length bs → cond s 0 (suc (word_length bs)) ≤ suc (length bs)
    by true h = omega arith
    by false h = omega arith

pub end_behind : (bs : List ℕ) → begins_word bs ≡ true → 0 < length bs → 0 < word_length bs
end_behind [] begins some = absurd (omega arith)
end_behind (b ∷ bs) begins some = by (separates b) (not-true (separates b) begins)
  where
    by : (s : Bool) → s ≡ false → 0 < cond s 0 (suc (word_length bs))
    by true e = absurd (let f : true ≡ false = e in cc)
    by false e = omega arith

-- what `position` answers
place_of : (bs : List ℕ) → position_or_len separates bs ≡ word_length bs
place_of [] = refl
place_of (b ∷ bs) = by (separates b) (place_of bs)
  where
    by : (s : Bool) → position_or_len separates bs ≡ word_length bs → cond (not s) (1 + position_or_len separates bs) 0 ≡ cond s 0 (suc (word_length bs))
    by true e = refl
    by false e = omega arith

pub end_at_none : (bs : List ℕ) → None ≡ position separates bs → length bs ≡ word_length bs
end_at_none bs e =
    let most : word_length bs ≤ length bs = end_within bs in
    let at = place_of bs in
    elim (cases_Bool (nat_lt (position_or_len separates bs) (length bs))) [
      | inl yes' ↦ absurd (let f : None ≡ Some (position_or_len separates bs) = e ∙ cond-true _ _ _ yes' in cc)
      | inr no' ↦ let le : length bs ≤ position_or_len separates bs = ltb-false _ _ no' in omega arith
    ]

pub end_at_some : (bs : List ℕ) (n : ℕ) → Some n ≡ position separates bs → n ≡ word_length bs
end_at_some bs n e = (position_some separates bs n e).is ∙ place_of bs
