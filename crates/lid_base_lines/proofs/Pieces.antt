-- Lines and texts, a piece at a time.
use Rattle.std.proofs.Common.{◌≡◌, ℕ, List, [], ◌∷◌, ◌++◌, sym, ap, ◌∙◌, append-nil, append_assoc}
use Rattle.std.specs.List.{join_with_byte}
use Rattle.std.proofs.lemmas.Grind.{flat_map-append}
use Rattle.lid_base_lines.specs.Texts.{Words, line_text, lines_text, spaced}
use Rattle.lid_base.proofs.Lists.{appended}

-- the words after the first, each after a blank
pub join_spaced : (word : List ℕ) (words : Words) → join_with_byte 32 (word ∷ words) ≡ word ++ spaced words
join_spaced word [] = sym (append-nil word)
join_spaced word (next ∷ words) = ap (λ (bytes : List ℕ). word ++ 32 ∷ bytes) (join_spaced next words)

pub line_text_cons : (word : List ℕ) (words : Words) → line_text (word ∷ words) ≡ word ++ (spaced words ++ 10 ∷ [])
unfolding line_text
line_text_cons word words = ap (λ (bytes : List ℕ). bytes ++ 10 ∷ []) (join_spaced word words) ∙ append_assoc word (spaced words) (10 ∷ [])

pub spaced_append : (xs ys : Words) → spaced (xs ++ ys) ≡ spaced xs ++ spaced ys
spaced_append xs ys = flat_map-append (λ word. 32 ∷ word) xs ys

pub lines_text_append : (xs ys : List Words) → lines_text (xs ++ ys) ≡ lines_text xs ++ lines_text ys
lines_text_append xs ys = flat_map-append line_text xs ys

-- a line, of its first word, what stands after it, and the newline
pub line_made : (old mid rest new word after : List ℕ) (words : Words) → mid ≡ old ++ word → rest ≡ mid ++ after → new ≡ rest ++ 10 ∷ [] → after ≡ spaced words → new ≡ old ++ line_text (word ∷ words)
line_made old mid rest new word after words a b c e =
    let whole = appended old rest new (word ++ after) (10 ∷ []) (appended old mid rest word after a b) c in
    let said : (word ++ after) ++ 10 ∷ [] ≡ line_text (word ∷ words) = append_assoc word after (10 ∷ []) ∙ ap (λ (bytes : List ℕ). word ++ (bytes ++ 10 ∷ [])) e ∙ sym (line_text_cons word words) in
    whole ∙ ap (λ (bytes : List ℕ). old ++ bytes) said

pub spaced_one : (word : List ℕ) → 32 ∷ word ≡ spaced (word ∷ [])
spaced_one word = sym (append-nil (32 ∷ word))

pub spaced_push : (words : Words) (word : List ℕ) → spaced words ++ 32 ∷ word ≡ spaced (words ++ word ∷ [])
spaced_push words word = ap (λ (bytes : List ℕ). spaced words ++ bytes) (spaced_one word) ∙ sym (spaced_append words (word ∷ []))

-- the same, for what is known to be equal
pub said_as : {X : Type 0} (say : X → List ℕ) (old new : List ℕ) (x y : X) → x ≡ y → new ≡ old ++ say x → new ≡ old ++ say y
said_as say old new x y e h = h ∙ ap (λ z. old ++ say z) e
