-- The line that tells a fault, word by word.
use Rattle.std.proofs.Common.{◌≡◌, ℕ, ◌+◌, ◌<◌, ◌≤◌, List, [], ◌∷◌, ◌++◌, length, drop, get_or, map, Option, sym, ◌∙◌, ap, subst, append_assoc, add-one}
use Rattle.std.specs.List.{flat_map}
use Rattle.std.proofs.Math.Seq.{drop-cons}
use Rattle.std.proofs.lemmas.List.{drop_all}
use Rattle.lid_base.specs.Outside.{Appended, AppendedPrefix}
use Rattle.lid_base_io.specs.declared.telling.Word.{Word}
use Rattle.lid_base_io.specs.Calls.{CameJoined, CameJoinedPrefix}
use Rattle.lid_base_io.specs.Telling.{spelled}
use Rattle.lid_base.proofs.Writes.{SoFar, one_more, part_written}
use Rattle.lid_base_io.proofs.Joined.{JoinedSoFar, more_joined, part_joined}

-- what is left of the line from the word of this number on
unfoldable pub line_from : List Word → ℕ → List ℕ
line_from words i = flat_map (λ w. 32 ∷ w) (map spelled (drop i words)) ++ 10 ∷ []

line_from_next : (words : List Word) (i : ℕ) (d : Word) → i < length words → line_from words i ≡ (32 ∷ spelled (get_or words i d)) ++ line_from words (i + 1)
unfolding line_from
line_from_next words i d lt =
    let cons : drop i words ≡ get_or words i d ∷ drop (i + 1) words =
    drop-cons words i d lt ∙ ap (λ n. get_or words i d ∷ drop n words) (sym (add-one i)) in
    ap (λ ws. flat_map (λ w. 32 ∷ w) (map spelled ws) ++ 10 ∷ []) cons
    ∙ append_assoc (32 ∷ spelled (get_or words i d)) (flat_map (λ w. 32 ∷ w) (map spelled (drop (i + 1) words))) (10 ∷ [])

pub word_written : (before now new : Option (List ℕ)) (text : List ℕ) (words : List Word) (i : ℕ) (d : Word) → i < length words → SoFar before now text (line_from words i) → Appended now new (32 ∷ spelled (get_or words i d)) → SoFar before new text (line_from words (i + 1))
word_written before now new text words i d lt so a =
    one_more before now new text (32 ∷ spelled (get_or words i d)) (line_from words (i + 1))
    (subst (λ l. SoFar before now text l) (line_from_next words i d lt) so) a

pub word_begun : (before now new : Option (List ℕ)) (text : List ℕ) (words : List Word) (i : ℕ) (d : Word) → i < length words → SoFar before now text (line_from words i) → AppendedPrefix now new (32 ∷ spelled (get_or words i d)) → AppendedPrefix before new text
word_begun before now new text words i d lt so a =
    part_written before now new text (32 ∷ spelled (get_or words i d)) (line_from words (i + 1))
    (subst (λ l. SoFar before now text l) (line_from_next words i d lt) so) a

-- the same of the pieces
module _ (before now new : Option (List (List ℕ))) (text : List ℕ) (words : List Word) (i : ℕ) (d : Word) (lt : i < length words) (so : JoinedSoFar before now text (line_from words i)) where
  word_left : JoinedSoFar before now text ((32 ∷ spelled (get_or words i d)) ++ line_from words (i + 1))
  word_left = subst (λ (left : List ℕ). JoinedSoFar before now text left) (line_from_next words i d lt) so

  pub word_joined : CameJoined now new (32 ∷ spelled (get_or words i d)) → JoinedSoFar before new text (line_from words (i + 1))
  word_joined a = more_joined before now new text (32 ∷ spelled (get_or words i d)) (line_from words (i + 1)) word_left a

  pub word_part : CameJoinedPrefix now new (32 ∷ spelled (get_or words i d)) → CameJoinedPrefix before new text
  word_part a = part_joined before now new text (32 ∷ spelled (get_or words i d)) (line_from words (i + 1)) word_left a

-- after the last word the newline is left
pub line_from_end : (words : List Word) (i : ℕ) → length words ≤ i → line_from words i ≡ 10 ∷ []
unfolding line_from
line_from_end words i le = ap (λ ws. flat_map (λ w. 32 ∷ w) (map spelled ws) ++ 10 ∷ []) (drop_all i words le)
