-- Certificates as texts: how they are read, as a function of the whole text.
use Rattle.std.specs.Prelude.{ℕ, ◌-◌, ◌^◌, ◌==◌, nat_lt, nat_le, Bool, true, false, ◌&&◌, ◌||◌, if◌then◌else◌, List, [], ◌∷◌, length, drop, map, codes, bytes_eq, slice_index_or, Option, Some, None}
use Rattle.std.specs.List.{list_all}
use Rattle.lid_base.specs.Lines.{logical_lines}
use Rattle.lid_base_lines.specs.declared.limited.LinesFault.{LinesFault}
use Rattle.lid_base_lines.specs.declared.limited.LinesFault.TheVariants as limited
use Rattle.lid_base_lines.specs.Limited.{limited_fault}
use Rattle.lid_base.specs.Numbers.{number_below, is_below, value_below}
use Rattle.lid_base.specs.Words.{word_at, begins_with}
use Rattle.lid_base.specs.declared.line.Line.{Line}
use Rattle.lid_base.specs.declared.which.Which.TheVariants.{FileBytes}
use Rattle.lid_cert.specs.declared.cert.Part.{Part}
use Rattle.lid_cert.specs.declared.cert.Cert.{Cert}
use Rattle.lid_cert_text.specs.declared.fault.CertFault.{CertFault}
use Rattle.lid_cert_text.specs.declared.fault.CertFault.TheVariants.{Word, Limit, Memory}
use Rattle.lid_cert_text.specs.declared.stage.Stage.{Stage}
use Rattle.lid_cert_text.specs.declared.stage.Stage.TheVariants.{Header, Between, Ratio, Cycle, Nodes}

-- a word that stands for an edge, or `-` for none
abbrev pub is_via_word : List ℕ → Bool
is_via_word word = bytes_eq word (codes "-") || is_below (2 ^ 32) word

-- a line `part K` with K at least 1
abbrev pub is_part_line : List (List ℕ) → Bool
is_part_line words =
    (length words == 2) && (begins_with (codes "part") words && (is_below (2 ^ 32) (word_at words 1) && nat_lt 0 (value_below (2 ^ 32) (word_at words 1))))

-- a line `ratio P Q`
abbrev pub is_ratio_line : List (List ℕ) → Bool
is_ratio_line words =
    (length words == 3) && (begins_with (codes "ratio") words && (is_below (2 ^ 31) (word_at words 1) && is_below (2 ^ 31) (word_at words 2)))

-- a line `cycle` with one or more edges
abbrev pub is_cycle_line : List (List ℕ) → Bool
is_cycle_line words =
    nat_le 2 (length words) && (begins_with (codes "cycle") words && list_all (is_below (2 ^ 32)) (drop 1 words))

-- a line `node V LAG LEAD DEPTH VIA`
abbrev pub is_node_line : List (List ℕ) → Bool
is_node_line words =
    (length words == 6)
    && (begins_with (codes "node") words
    && (is_below (2 ^ 32) (word_at words 1)
    && (is_below (2 ^ 62) (word_at words 2)
    && (is_below (2 ^ 62) (word_at words 3) && (is_below (2 ^ 32) (word_at words 4) && is_via_word (word_at words 5))))))

-- the first line
abbrev pub is_header_line : List (List ℕ) → Bool
is_header_line words = (length words == 2) && (begins_with (codes "lid-cert") words && bytes_eq (word_at words 1) (codes "1"))

-- whether a line has the form that is due
abbrev pub is_due : Stage → List (List ℕ) → Bool
is_due Header words = is_header_line words
is_due Between words = is_part_line words
is_due (Ratio left) words = is_ratio_line words
is_due (Cycle left) words = is_cycle_line words
is_due (Nodes left) words = is_node_line words

-- what is due after a line of the form that was due
abbrev pub due_after : Stage → List (List ℕ) → Stage
due_after Header words = Between
due_after Between words = Ratio (value_below (2 ^ 32) (word_at words 1))
due_after (Ratio left) words = Cycle left
due_after (Cycle left) words = Nodes left
due_after (Nodes left) words = if nat_lt 1 left then Nodes (left - 1) else Between

-- whether a text may end here
abbrev pub may_end : Stage → Bool
may_end Between = true
may_end _ = false

-- the line at fault, where these lines are left and the line before them has the number `last`
abbrev pub line_at_fault : Stage → ℕ → List Line → Option ℕ
line_at_fault stage last [] = if may_end stage then None else Some last
line_at_fault stage last (l ∷ ls) =
    if is_due stage l.words then line_at_fault (due_after stage l.words) l.number ls else Some l.number

abbrev pub at_line : Option ℕ → Option CertFault
at_line None = None
at_line (Some line) = Some (Word line)

-- how a fault of the lines is told
abbrev pub told : LinesFault → CertFault
told (limited.TooLong bytes) = Limit FileBytes bytes
told (limited.Word line) = Word line
told limited.Memory = Memory

abbrev pub fault_in : List Line → Option LinesFault → Option CertFault
fault_in lines None = at_line (line_at_fault Header 0 lines)
fault_in lines (Some fault) = Some (told fault)

-- why a text stands for no certificate
unfoldable pub cert_fault : List ℕ → Option CertFault
cert_fault bytes = fault_in (logical_lines bytes) (limited_fault bytes)

-- what stands past the last line
abbrev pub no_line : Line
no_line = record { number = 0; words = [] }

-- the words of a line, or none past the end
abbrev pub words_at : List Line → ℕ → List (List ℕ)
words_at ls i = (slice_index_or ls i no_line).words

-- the `node` lines that these lines begin with
abbrev pub node_lines : List Line → List Line
node_lines [] = []
node_lines (l ∷ ls) = if begins_with (codes "node") l.words then l ∷ node_lines ls else []

-- the numbers at a place of each line
abbrev pub values_at : ℕ → ℕ → List Line → List ℕ
values_at limit i ls = map (λ l. value_below limit (word_at l.words i)) ls

abbrev pub via_value : List ℕ → Option ℕ
via_value word = number_below (2 ^ 32) word

-- the part whose `part` line stands before these lines: a `ratio` line, a `cycle` line and `node` lines
abbrev pub part_of : List Line → Part
part_of ls = record {
  nodes = values_at (2 ^ 32) 1 (node_lines (drop 2 ls));
  p = value_below (2 ^ 31) (word_at (words_at ls 0) 1);
  q = value_below (2 ^ 31) (word_at (words_at ls 0) 2);
  cycle = map (value_below (2 ^ 32)) (drop 1 (words_at ls 1));
  lag = values_at (2 ^ 62) 2 (node_lines (drop 2 ls));
  lead = values_at (2 ^ 62) 3 (node_lines (drop 2 ls));
  via = map (λ l. via_value (word_at l.words 5)) (node_lines (drop 2 ls));
  depth = values_at (2 ^ 32) 4 (node_lines (drop 2 ls));
}

-- a part for each `part` line
abbrev pub parts_of : List Line → List Part
parts_of [] = []
parts_of (l ∷ ls) = if begins_with (codes "part") l.words then part_of ls ∷ parts_of ls else parts_of ls

-- the certificate that a text without fault stands for
unfoldable pub cert_of : List ℕ → Cert
cert_of bytes = record { parts = parts_of (logical_lines bytes) }
