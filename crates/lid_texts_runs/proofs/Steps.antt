-- Steps of the loops and calls that make texts of runs, and of the reading of a schedule.
use Rattle.std.proofs.Common.{◌≡◌, ℕ, zero, suc, ◌+◌, ◌-◌, ◌*◌, ◌/◌, ◌%◌, ◌<◌, List, [], ◌∷◌, ◌++◌, length, take, drop, map, Option, Some, Err, sym, ap, ◌∙◌, append_assoc, subst, arith}
use Rattle.std.specs.List.{enumerate_from, join_with_byte}
use Rattle.lid_base.specs.Lists.{Keeps}
use Rattle.lid_base.specs.declared.runs.Shown.{Shown}
use Rattle.lid_base_lines.specs.Texts.{line_text}
use Rattle.lid_texts_runs.specs.declared.schedule.SchedFault.{SchedFault}
use Rattle.lid_texts_runs.specs.Pieces.{hex_digit, hex_digits}
use Rattle.lid_texts_runs.specs.Runs.{cycle_words, cycles_from}
use Rattle.lid_texts_runs.specs.Schedules.{word_fault, first_some, actors_named, ok_unless, actors_reading}

-- one more hexadecimal digit
pub hex_step : (k n : ℕ) (old mid new : List ℕ) → 0 < k → mid ≡ old ++ hex_digits (k - 1) (n / 16) → new ≡ mid ++ hex_digit (n % 16) ∷ [] → new ≡ old ++ hex_digits k n
hex_step zero n old mid new some first last = absurd (omega arith)
hex_step (suc k) n old mid new some first last =
    let less : suc k - 1 ≡ k = omega arith in
    last ∙ ap (λ (xs : List ℕ). xs ++ hex_digit (n % 16) ∷ []) (first ∙ ap (λ (m : ℕ). old ++ hex_digits m (n / 16)) less) ∙ append_assoc old (hex_digits k (n / 16)) (hex_digit (n % 16) ∷ [])

-- the line of one more cycle
pub cycle_step : (stations left : ℕ) (rest after : List Shown) (old new whole : List ℕ) → 0 < left → old ++ cycles_from stations left rest ≡ whole →
    new ≡ old ++ line_text (cycle_words stations (take stations rest)) → after ≡ drop stations rest → new ++ cycles_from stations (left - 1) after ≡ whole
cycle_step stations zero rest after old new whole some done line is = absurd (omega arith)
cycle_step stations (suc left) rest after old new whole some done line is =
    let less : suc left - 1 ≡ left = omega arith in
    ap (λ (m : ℕ). new ++ cycles_from stations m after) less
    ∙ ap (λ (cells : List Shown). new ++ cycles_from stations left cells) is
    ∙ ap (λ (xs : List ℕ). xs ++ cycles_from stations left (drop stations rest)) line
    ∙ append_assoc old (line_text (cycle_words stations (take stations rest))) (cycles_from stations left (drop stations rest))
    ∙ done

pub cells_left : (stations left before after : ℕ) → 0 < left → before ≡ stations * left → after + stations ≡ before → after ≡ stations * (left - 1)
cells_left stations zero before after some all rest = absurd (omega arith)
cells_left stations (suc left) before after some all rest =
    let less : suc left - 1 ≡ left = omega arith in
    let more : stations * suc left ≡ stations * left + stations = mul_suc stations left in
    subst (λ (m : ℕ). after ≡ stations * m) (sym less) (omega arith)
  where
    mul_suc : (a b : ℕ) → a * suc b ≡ a * b + a
    mul_suc a b = grind (arith)

-- a word that is at fault
pub refused_word : (actors : ℕ) (done : List ℕ) (word : ℕ × List ℕ) (words : List (ℕ × List ℕ)) (fault : SchedFault) → word_fault actors (length done + 1, word) ≡ Some fault → actors_reading actors done (word ∷ words) ≡ Err fault
refused_word actors done word words fault e =
    ap (λ (o : Option SchedFault). ok_unless (first_some (o ∷ map (word_fault actors) (enumerate_from (length done + 1 + 1) words))) (done ++ actors_named (word ∷ words))) e

-- words that are appended with a blank between each two: what stands and what is left make the whole
pub record AreJoined {A : Type 0} (word : A → List ℕ) (old : List ℕ) (all : List A) (now : List ℕ) (rest : List A) : Type 0 where
  pub done : now ++ join_with_byte 32 (map word rest) ≡ old ++ join_with_byte 32 (map word all)
  pub kept : Keeps old now
