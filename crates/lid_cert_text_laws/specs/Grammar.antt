-- The grammar of a certificate's text: a header, and a section of lines for each part.
use Rattle.std.specs.Prelude.{◌≡◌, ℕ, ◌^◌, ◌≤◌, List, [], ◌∷◌, ◌++◌, length, map, codes, Option, Some, None}
use Rattle.lid_base.specs.declared.line.Line.{Line}
use Rattle.lid_base.specs.Lines.{logical_lines}
use Rattle.lid_base.specs.Numbers.{number_below}
use Rattle.lid_base_lines.specs.Limited.{limited_fault}
use Rattle.lid_cert.specs.declared.cert.Part.{Part}
use Rattle.lid_cert.specs.declared.cert.Cert.{Cert}

-- a word spells a number below a limit, in decimal digits
abbrev pub Spells : ℕ → ℕ → List ℕ → Type 0
Spells limit n word = number_below limit word ≡ Some n

-- a word spells an edge, or `-` that there is none
abbrev pub SpellsVia : Option ℕ → List ℕ → Type 0
SpellsVia None word = word ≡ codes "-"
SpellsVia (Some k) word = Spells (2 ^ 32) k word

-- words spell edges, one each
abbrev pub SpellEdges : List ℕ → List (List ℕ) → Type 0
SpellEdges edges words = map (number_below (2 ^ 32)) words ≡ map Some edges

-- the first line: `lid-cert 1`
abbrev pub IsHeader : Line → Type 0
IsHeader l = l.words ≡ codes "lid-cert" ∷ codes "1" ∷ []

-- a line `part K`
pub record IsPartLine (count : ℕ) (l : Line) : Type 0 where
  pub word : List ℕ
  pub are : l.words ≡ codes "part" ∷ word ∷ []
  pub spells : Spells (2 ^ 32) count word

-- a line `ratio P Q`
pub record IsRatioLine (p q : ℕ) (l : Line) : Type 0 where
  pub first : List ℕ
  pub second : List ℕ
  pub are : l.words ≡ codes "ratio" ∷ first ∷ second ∷ []
  pub spells_p : Spells (2 ^ 31) p first
  pub spells_q : Spells (2 ^ 31) q second

-- a line `cycle E1 .. EL`
pub record IsCycleLine (edges : List ℕ) (l : Line) : Type 0 where
  pub words : List (List ℕ)
  pub are : l.words ≡ codes "cycle" ∷ words
  pub spell : SpellEdges edges words

-- what is said of one transition
pub record Entry : Type 0 where
  pub number : ℕ
  pub lag : ℕ
  pub lead : ℕ
  pub depth : ℕ
  pub via : Option ℕ

-- a line `node V LAG LEAD DEPTH VIA`
pub record IsNodeLine (node : Entry) (l : Line) : Type 0 where
  pub number : List ℕ
  pub lag : List ℕ
  pub lead : List ℕ
  pub depth : List ℕ
  pub via : List ℕ
  pub are : l.words ≡ codes "node" ∷ number ∷ lag ∷ lead ∷ depth ∷ via ∷ []
  pub spells_number : Spells (2 ^ 32) node.number number
  pub spells_lag : Spells (2 ^ 62) node.lag lag
  pub spells_lead : Spells (2 ^ 62) node.lead lead
  pub spells_depth : Spells (2 ^ 32) node.depth depth
  pub spells_via : SpellsVia node.via via

-- a line for each transition
abbrev pub AreNodeLines : List Entry → List Line → Type 0
AreNodeLines [] ls = ls ≡ []
AreNodeLines (node ∷ nodes) ls = (l : Line) × (rest : List Line) × (ls ≡ l ∷ rest) × IsNodeLine node l × AreNodeLines nodes rest

-- a part of which this is said
abbrev pub told_part : ℕ → ℕ → List ℕ → List Entry → Part
told_part p q edges nodes = record {
  nodes = map (λ n. n.number) nodes;
  p = p;
  q = q;
  cycle = edges;
  lag = map (λ n. n.lag) nodes;
  lead = map (λ n. n.lead) nodes;
  via = map (λ n. n.via) nodes;
  depth = map (λ n. n.depth) nodes;
}

-- the section of a part: how many transitions it has, its ratio, its closed walk, and a line for each transition. There is a
-- transition, and an edge of the walk
pub record IsSection (part : Part) (ls : List Line) : Type 0 where
  pub count_line : Line
  pub ratio_line : Line
  pub cycle_line : Line
  pub node_lines : List Line
  pub are : ls ≡ count_line ∷ ratio_line ∷ cycle_line ∷ node_lines
  pub p : ℕ
  pub q : ℕ
  pub edges : List ℕ
  pub nodes : List Entry
  pub part_is : part ≡ told_part p q edges nodes
  pub counts : IsPartLine (length nodes) count_line
  pub some_nodes : 1 ≤ length nodes
  pub rates : IsRatioLine p q ratio_line
  pub walks : IsCycleLine edges cycle_line
  pub some_edges : 1 ≤ length edges
  pub tell : AreNodeLines nodes node_lines

-- a section for each part, one after the other
abbrev pub AreSections : List Part → List Line → Type 0
AreSections [] ls = ls ≡ []
AreSections (part ∷ parts) ls = (section : List Line) × (rest : List Line) × (ls ≡ section ++ rest) × IsSection part section × AreSections parts rest

-- the lines of a certificate: the header and then the sections of its parts
abbrev pub AreLinesOf : Cert → List Line → Type 0
AreLinesOf cert ls = (header : Line) × (rest : List Line) × (ls ≡ header ∷ rest) × IsHeader header × AreSections cert.parts rest

-- a text of a certificate: it is not too long, has no bad byte and no long word, and its lines are those of the certificate
pub record IsTextOf (cert : Cert) (bytes : List ℕ) : Type 0 where
  pub sound : limited_fault bytes ≡ None
  pub lines : AreLinesOf cert (logical_lines bytes)
