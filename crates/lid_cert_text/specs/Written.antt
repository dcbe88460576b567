-- Certificates as texts: how they are written, line by line.
use Rattle.std.specs.Prelude.{ℕ, zero, suc, List, [], ◌∷◌, ◌++◌, length, map, codes, slice_index, slice_index_or, Option, Some, None, ◌≡◌}
use Rattle.std.specs.Fmt.{decimal}
use Rattle.std.specs.List.{flat_map}
use Rattle.lid_cert.specs.declared.cert.Part.{Part}
use Rattle.lid_cert.specs.declared.cert.Cert.{Cert}
use Rattle.lid_base_lines.specs.Texts.{Words, lines_text}
use Rattle.lid_cert_text.specs.Texts.{cert_fault, cert_of}

abbrev pub via_word : Option ℕ → List ℕ
via_word None = codes "-"
via_word (Some k) = decimal k

-- what a function gives at 0, 1 and so on
abbrev pub built : {X : Type 0} → (ℕ → X) → ℕ → List X
built f zero = []
built f (suc n) = built f n ++ f n ∷ []

-- the numbers of the i-th transition of a part
abbrev pub node_numbers : Part → ℕ → List ℕ
node_numbers part i = slice_index part.nodes i ∷ slice_index part.lag i ∷ slice_index part.lead i ∷ slice_index part.depth i ∷ []

-- the line of the i-th transition of a part
abbrev pub node_words : Part → ℕ → Words
node_words part i = codes "node" ∷ map decimal (node_numbers part i) ++ via_word (slice_index_or part.via i None) ∷ []

-- the lines of the first transitions of a part
abbrev pub node_rows : Part → ℕ → List Words
node_rows part n = built (node_words part) n

abbrev pub count_words : Part → Words
count_words part = codes "part" ∷ decimal (length part.nodes) ∷ []

abbrev pub ratio_words : Part → Words
ratio_words part = codes "ratio" ∷ decimal part.p ∷ decimal part.q ∷ []

abbrev pub cycle_words : Part → Words
cycle_words part = codes "cycle" ∷ map decimal part.cycle

-- the lines of a part
abbrev pub part_lines : Part → List Words
part_lines part = count_words part ∷ ratio_words part ∷ cycle_words part ∷ node_rows part (length part.nodes)

abbrev pub parts_lines : List Part → List Words
parts_lines parts = flat_map part_lines parts

abbrev pub header_words : Words
header_words = codes "lid-cert" ∷ codes "1" ∷ []

abbrev pub cert_lines : Cert → List Words
cert_lines cert = header_words ∷ parts_lines cert.parts

-- a certificate as a text
unfoldable pub cert_text : Cert → List ℕ
cert_text cert = lines_text (cert_lines cert)

-- the text of the certificate has no fault, and stands for the certificate
pub record IsReadBack (cert : Cert) : Type 0 where
  pub sound : cert_fault (cert_text cert) ≡ None
  pub same : cert_of (cert_text cert) ≡ cert
