-- The words that can stand in a line.
use Rattle.std.specs.Prelude.{◌≡◌, ℕ, ◌<◌, ◌≤◌, nat_le, Bool, true, false, not, ◌&&◌, List, length}
use Rattle.std.specs.List.{AllByRecursion}
use Rattle.lid_base.specs.Lines.{ends_in_mark, is_hash}
use Rattle.lid_base_lines.specs.Texts.{Words}

-- a byte that may stand in a word: it is printed, and neither separates words nor begins a comment
abbrev pub is_word_byte : ℕ → Bool
is_word_byte b = (nat_le 33 b && nat_le b 126) && not (is_hash b)

-- bytes that are read as one word of at most `longest` bytes, which does not end in `\`
pub record IsSpelled (longest : ℕ) (word : List ℕ) : Type 0 where
  pub some : 0 < length word
  pub short : length word ≤ longest
  pub bytes : AllByRecursion (λ b. is_word_byte b ≡ true) word
  pub unmarked : ends_in_mark word ≡ false

-- words that make up a line
pub record AreSpelled (longest : ℕ) (words : Words) : Type 0 where
  pub some : 0 < length words
  pub all : AllByRecursion (IsSpelled longest) words
