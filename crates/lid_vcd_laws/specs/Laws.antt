-- That a dump is read as its grammar says.
use Rattle.std.specs.Prelude.{◌≡◌, ℕ, ◌≤◌, ◌↔◌, ◌⊎◌, List, [], ◌∷◌, ◌++◌, map, Err}
use Rattle.lid_texts_runs.specs.declared.trace.Trace.{Trace}
use Rattle.lid_vcd_form.specs.Words.{placed_words}
use Rattle.lid_vcd_form.specs.Shows.{wave_of, Wave}
use Rattle.lid_base_lines.specs.Texts.{Words}
use Rattle.lid_vcd_laws.specs.Grammar.{Step, IsDump, IsDumpOf}

-- a text shows a trace exactly where it is a dump of it
abbrev pub DumpsShowTraces : Type 0
DumpsShowTraces = (bytes : List ℕ) (trace : Trace) → IsDumpOf trace bytes ↔ Wave bytes trace

-- some dump's words begin with these
pub record IsBeginning (words : Words) : Type 0 where
  pub stations : ℕ
  pub steps : List Step
  pub more : Words
  pub few : stations ≤ 65536
  pub is : IsDump stations steps (words ++ more)

-- the words of some lines, without the numbers of these
abbrev pub plain_words : List (ℕ × List ℕ) → Words
plain_words placed = map (λ w. w.1) placed

-- the line of the last word, or 0 where there is none
abbrev pub last_line : ℕ → List (ℕ × List ℕ) → ℕ
last_line n [] = n
last_line n (w ∷ ws) = last_line w.0 ws

-- the words before a word on this line begin a dump, and with it they do not
pub record IsFirstOff (placed : List (ℕ × List ℕ)) (line : ℕ) : Type 0 where
  pub before : List (ℕ × List ℕ)
  pub word : ℕ × List ℕ
  pub after : List (ℕ × List ℕ)
  pub are : placed ≡ before ++ word ∷ after
  pub begin : IsBeginning (plain_words before)
  pub off : IsBeginning (plain_words (before ++ word ∷ [])) → ⊥
  pub told : line ≡ word.0

-- the words begin a dump, and end too early
pub record EndEarly (placed : List (ℕ × List ℕ)) (line : ℕ) : Type 0 where
  pub begin : IsBeginning (plain_words placed)
  pub early : (stations : ℕ) (steps : List Step) → stations ≤ 65536 → IsDump stations steps (plain_words placed) → ⊥
  pub told : line ≡ last_line 0 placed

-- the line that a refusal tells is that of the first word by which no dump goes on
abbrev pub RefusalsAreFirst : Type 0
RefusalsAreFirst = (bytes : List ℕ) (line : ℕ) → wave_of bytes ≡ Err line → IsFirstOff (placed_words bytes) line ⊎ EndEarly (placed_words bytes) line
