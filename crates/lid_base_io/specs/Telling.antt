-- The line that tells a fault.
use Rattle.std.specs.Prelude.{ℕ, List, [], ◌∷◌, ◌++◌, codes}
use Rattle.std.specs.List.{flat_map}
use Rattle.std.specs.Fmt.{decimal}
use Rattle.lid_base_io.specs.declared.telling.Word.{Word}
use Rattle.lid_base_io.specs.declared.telling.Word.TheVariants.{Text, Name, Number, Path}

-- the instance numbers of a path after the first, each after a slash
abbrev pub steps_text : List ℕ → List ℕ
steps_text steps = flat_map (λ step. 47 ∷ decimal step) steps

-- the instance numbers of a path, joined by slashes
abbrev pub path_text : List ℕ → List ℕ
path_text [] = codes "-"
path_text (first ∷ steps) = decimal first ++ steps_text steps

-- the bytes of a word
abbrev pub spelled : Word → List ℕ
spelled (Text text) = text.now
spelled (Name name) = name.now
spelled (Number number) = decimal number
spelled (Path path) = path_text path.now

-- the program's name, and the words, each after a blank
unfoldable pub fault_line : List (List ℕ) → List ℕ
fault_line words = codes "lid:" ++ (flat_map (λ word. 32 ∷ word) words ++ 10 ∷ [])
