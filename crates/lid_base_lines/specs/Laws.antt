-- What is known of texts made of lines of words.
use Rattle.std.specs.Prelude.{◌≡◌, ℕ, ◌^◌, ◌<◌, List, Some, None}
use Rattle.std.specs.Fmt.{decimal}
use Rattle.std.specs.List.{AllByRecursion}
use Rattle.lid_base.specs.Lines.{logical_lines, text_fault}
use Rattle.lid_base.specs.Numbers.{number}
use Rattle.lid_base_lines.specs.Texts.{Words, lines_text, numbered_lines}
use Rattle.lid_base_lines.specs.Spelled.{IsSpelled, AreSpelled}

-- a text of lines is read as these lines, numbered from 1
pub record IsReadBack (longest : ℕ) (lines : List Words) : Type 0 where
  pub sound : text_fault longest (lines_text lines) ≡ None
  pub same : logical_lines (lines_text lines) ≡ numbered_lines 1 lines

-- the text of spelled lines is read back
abbrev pub LinesAreReadBack : Type 0
LinesAreReadBack = (longest : ℕ) (lines : List Words) → AllByRecursion (AreSpelled longest) lines → IsReadBack longest lines

-- a number in decimal digits is a word that is read as that number
pub record IsNumberWord (n : ℕ) : Type 0 where
  pub spelled : IsSpelled 20 (decimal n)
  pub same : number (decimal n) ≡ Some n

-- every number below 2^64 is read back from its word
abbrev pub NumbersAreReadBack : Type 0
NumbersAreReadBack = (n : ℕ) → n < 2 ^ 64 → IsNumberWord n

-- the words of a text without fault are spelled
abbrev pub ReadLinesAreSpelled : Type 0
ReadLinesAreSpelled = (longest : ℕ) (bytes : List ℕ) → text_fault longest bytes ≡ None → AllByRecursion (λ l. AreSpelled longest l.words) (logical_lines bytes)
