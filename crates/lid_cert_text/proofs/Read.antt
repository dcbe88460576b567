-- What is read lies in the ranges of the text, and has one number of each kind for each transition.
use Rattle.std.proofs.Common.{◌≡◌, ℕ, ◌^◌, ◌<◌, Bool, true, false, cond, List, [], ◌∷◌, length, drop, codes, sym, ◌∙◌, arith}
use Rattle.std.specs.List.{All}
use Rattle.std.proofs.lemmas.List.{length-map}
use Rattle.std.proofs.lemmas.List.Elements.{All-nil, All-cons, All-map}
use Rattle.lid_base.specs.declared.line.Line.{Line}
use Rattle.lid_cert.specs.declared.cert.Part.{Part}
use Rattle.lid_cert.specs.Certificates.{AreLists, IsPartInRange}
use Rattle.lid_base.specs.Numbers.{value_below}
use Rattle.lid_base.proofs.Numbers.{value_below_less}
use Rattle.lid_base.specs.Words.{word_at, begins_with}
use Rattle.lid_cert_text.specs.Texts.{via_value, words_at, node_lines, values_at, part_of, parts_of}

column_below : (limit i : ℕ) (ls : List Line) → 0 < limit → All (λ n. n < limit) (values_at limit i ls)
column_below limit i ls some =
    All-map (λ n. n < limit) (λ (l : Line). value_below limit (word_at l.words i)) ls (λ k d h. value_below_less limit _ some)

part_of_range : (ls : List Line) → IsPartInRange (part_of ls)
part_of_range ls = record {
  p = value_below_less (2 ^ 31) (word_at (words_at ls 0) 1) (omega arith);
  q = value_below_less (2 ^ 31) (word_at (words_at ls 0) 2) (omega arith);
  lag = column_below (2 ^ 62) 2 (node_lines (drop 2 ls)) (omega arith);
  lead = column_below (2 ^ 62) 3 (node_lines (drop 2 ls)) (omega arith);
}

column_length : (limit i : ℕ) (ls : List Line) → length (values_at limit i ls) ≡ length ls
column_length limit i ls = length-map ls _

part_of_lists : (ls : List Line) → AreLists (part_of ls)
part_of_lists ls =
    let nodes = column_length (2 ^ 32) 1 (node_lines (drop 2 ls)) in
    record {
      lag = column_length (2 ^ 62) 2 (node_lines (drop 2 ls)) ∙ sym nodes;
      lead = column_length (2 ^ 62) 3 (node_lines (drop 2 ls)) ∙ sym nodes;
      via = length-map (node_lines (drop 2 ls)) (λ (l : Line). via_value (word_at l.words 5)) ∙ sym nodes;
      depth = column_length (2 ^ 32) 4 (node_lines (drop 2 ls)) ∙ sym nodes;
    }

-- what holds of each part that a `part` line may give holds of all parts
parts_of_all : (P : Part → Type 0) → ((ls : List Line) → P (part_of ls)) → (ls : List Line) → All P (parts_of ls)
parts_of_all P each [] = All-nil P
parts_of_all P each (l ∷ ls) = by_line (begins_with (codes "part") l.words) (parts_of_all P each ls)
  where
    by_line : (b : Bool) → All P (parts_of ls) → All P (cond b (part_of ls ∷ parts_of ls) (parts_of ls))
    by_line true later = All-cons P (part_of ls) (parts_of ls) (each ls) later
    by_line false later = later

pub parts_of_range : (ls : List Line) → All IsPartInRange (parts_of ls)
parts_of_range ls = parts_of_all IsPartInRange part_of_range ls

pub parts_of_lists : (ls : List Line) → All AreLists (parts_of ls)
parts_of_lists ls = parts_of_all AreLists part_of_lists ls
