-- A walk with an open line gives the lines of the joins.
use Rattle.std.proofs.Common.{◌≡◌, ℕ, ◌+◌, Bool, true, false, cond, List, [], ◌∷◌, ◌++◌, map, filter, refl, sym, ap, ◌∙◌, inl, inr, append-nil, append_assoc}
use Rattle.std.specs.List.{enumerate_from, flat_map}
use Rattle.std.proofs.lemmas.Bool.{cases_Bool, cond-true, cond-false}
use Rattle.lid_base.specs.declared.line.Line.{Line}
use Rattle.lid_base.specs.Lines.{goes_on, words_of, has_words, onto_first_join, joins_of, line_of, lines_of}
use Rattle.lid_base.specs.Joins.{closed_lines, open_lines}

-- the words of a join
abbrev words_joined : List (ℕ × List ℕ) → List (List ℕ)
words_joined join = flat_map (λ p. words_of p.1) join

-- the lines of some joins, the first of which goes on with an open line
abbrev merged : ℕ → List (List ℕ) → List (List (ℕ × List ℕ)) → List Line
merged number words [] = closed_lines number words
merged number words (join ∷ joins) = filter has_words (record { number = number; words = words ++ words_joined join } ∷ map line_of joins)

filter_cons : {A : Type 0} (test : A → Bool) (x : A) (xs : List A) → filter test (x ∷ xs) ≡ filter test (x ∷ []) ++ filter test xs
filter_cons test x xs = by (test x)
  where
    by : (b : Bool) → cond b (x ∷ filter test xs) (filter test xs) ≡ cond b (x ∷ []) [] ++ filter test xs
    by true = refl
    by false = refl

-- a physical line that goes on belongs to the open line
merged_onto : (number : ℕ) (words : List (List ℕ)) (p : ℕ × List ℕ) (joins : List (List (ℕ × List ℕ))) → merged number (words ++ words_of p.1) joins ≡ merged number words (onto_first_join p joins)
merged_onto number words p [] = ap (λ (ws : List (List ℕ)). closed_lines number (words ++ ws)) (sym (append-nil (words_of p.1)))
merged_onto number words p (join ∷ joins) =
    ap (λ (ws : List (List ℕ)). filter has_words (record { number = number; words = ws } ∷ map line_of joins)) (append_assoc words (words_of p.1) (words_joined join))

-- one that does not ends it
merged_end : (number : ℕ) (words : List (List ℕ)) (p : ℕ × List ℕ) (joins : List (List (ℕ × List ℕ))) → closed_lines number (words ++ words_of p.1) ++ filter has_words (map line_of joins) ≡ merged number words ((p ∷ []) ∷ joins)
merged_end number words p joins =
    sym (filter_cons has_words (record { number = number; words = words ++ words_of p.1 }) (map line_of joins))
    ∙ ap (λ (ws : List (List ℕ)). filter has_words (record { number = number; words = words ++ ws } ∷ map line_of joins)) (sym (append-nil (words_of p.1)))

-- the first join has the number of the first physical line
merged_fresh : (number : ℕ) (lines : List (List ℕ)) → merged number [] (joins_of (enumerate_from number lines)) ≡ lines_of (enumerate_from number lines)
merged_fresh number [] = refl
merged_fresh number (line ∷ lines) = by (goes_on line) (joins_of (enumerate_from (number + 1) lines))
  where
    by : (b : Bool) (joins : List (List (ℕ × List ℕ))) → merged number [] (cond b (onto_first_join (number, line) joins) (((number, line) ∷ []) ∷ joins)) ≡ filter has_words (map line_of (cond b (onto_first_join (number, line) joins) (((number, line) ∷ []) ∷ joins)))
    by true [] = refl
    by true (join ∷ joins) = refl
    by false joins = refl

pub open_lines_merged : (number : ℕ) (words : List (List ℕ)) (at : ℕ) (lines : List (List ℕ)) → open_lines number words (enumerate_from at lines) ≡ merged number words (joins_of (enumerate_from at lines))
open_lines_merged number words at [] = refl
open_lines_merged number words at (line ∷ lines) =
    elim (cases_Bool (goes_on line)) [
      | inl yes' ↦
          cond-true (goes_on line) _ _ yes' ∙ open_lines_merged number (words ++ words_of line) (at + 1) lines
          ∙ merged_onto number words (at, line) (joins_of (enumerate_from (at + 1) lines)) ∙ ap (merged number words) (sym (cond-true (goes_on line) _ _ yes'))
      | inr no' ↦
          cond-false (goes_on line) _ _ no'
          ∙ ap (λ (ls : List Line). closed_lines number (words ++ words_of line) ++ ls) (open_lines_merged (at + 1) [] (at + 1) lines ∙ merged_fresh (at + 1) lines)
          ∙ merged_end number words (at, line) (joins_of (enumerate_from (at + 1) lines)) ∙ ap (merged number words) (sym (cond-false (goes_on line) _ _ no'))
    ]

-- a walk from the start
pub open_lines_fresh : (number : ℕ) (lines : List (List ℕ)) → open_lines number [] (enumerate_from number lines) ≡ lines_of (enumerate_from number lines)
open_lines_fresh number lines = open_lines_merged number [] number lines ∙ merged_fresh number lines
