-- The text of a certificate has no fault, and stands for the certificate.
use Rattle.std.proofs.Common.{◌≡◌, ℕ, zero, suc, ◌+◌, ◌-◌, ◌^◌, ◌<◌, ◌≤◌, true, false, List, [], ◌∷◌, ◌++◌, length, get_or, take, map, refl, sym, ap, ◌∙◌, arith, length-append, lt-ltb}
use Rattle.std.specs.Prelude.{Option, None, Some, nat_lt, nat_le, codes}
use Rattle.std.specs.Fmt.{decimal}
use Rattle.std.specs.List.{All, AllByRecursion}
use Rattle.std.proofs.lemmas.Bool.{cond-true, cond-false, and_from, le-ltb, le-leb}
use Rattle.std.proofs.lemmas.List.{take_all, length-map, map-append}
use Rattle.std.proofs.lemmas.List.Elements.{recursion_from_All}
use Rattle.std.proofs.Math.Seq.{take-suc}
use Rattle.lid_base.specs.declared.line.Line.{Line}
use Rattle.lid_base.specs.Lines.{logical_lines, text_fault}
use Rattle.lid_base.proofs.Lists.{all_append}
use Rattle.lid_cert.specs.declared.cert.Part.{Part}
use Rattle.lid_cert.specs.declared.cert.Cert.{Cert}
use Rattle.lid_cert_text.specs.declared.stage.Stage.{Stage}
use Rattle.lid_cert_text.specs.declared.stage.Stage.TheVariants.{Header, Between, Nodes}
use Rattle.lid_base.specs.Numbers.{is_below, value_below}
use Rattle.lid_base.specs.Words.{word_at, begins_with}
use Rattle.lid_cert_text.specs.Written.{built, node_words, node_rows, count_words, ratio_words, cycle_words, part_lines, header_words, parts_lines, cert_lines, cert_text}
use Rattle.lid_cert_text.specs.Texts.{via_value, is_part_line, is_ratio_line, is_cycle_line, is_node_line, line_at_fault, at_line, fault_in, cert_fault, values_at, node_lines, part_of, parts_of, cert_of}
use Rattle.lid_cert_text.specs.Printed.{IsSmall, IsPartPrintable, PrintedIsReadBack}
use Rattle.lid_base.proofs.Numbers.{value_back, is_number}
use Rattle.lid_base_lines.specs.Texts.{Words, line_text, lines_text, numbered_lines}
use Rattle.lid_base_lines.specs.Spelled.{IsSpelled, AreSpelled}
use Rattle.lid_base_lines.proofs.WithinLimits.{clean_lines}
use Rattle.lid_base_lines.proofs.Numbers.{spelled_word, spelled_number, spelled_numbers}
use Rattle.lid_base_lines.proofs.Pieces.{lines_text_append}
use Rattle.lid_base_lines.proofs.ReadBack.{text_law, text_clean}
use Rattle.lid_cert_text.proofs.Numerals.{via_back, is_via, spelled_via, values_back, are_numbers}
use Rattle.lid_cert_text.proofs.PrintedLines.{nodes_fit}
use Rattle.lid_base.proofs.Alls.{all_weaker}

built_all : {X : Type 0} (P : X → Type 0) (f : ℕ → X) (n : ℕ) → ((i : ℕ) → i < n → P (f i)) → AllByRecursion P (built f n)
built_all P f zero h = tt
built_all P f (suc n) h = all_append P (built f n) (f n ∷ []) (built_all P f n (λ i less. h i (omega arith))) (h n (omega arith), tt)

length_built : {X : Type 0} (f : ℕ → X) (n : ℕ) → length (built f n) ≡ n
length_built f zero = refl
length_built f (suc n) = omega (arith, length-append (built f n) (f n ∷ []), length_built f n)

-- what a line of a transition is
record IsRow (words : Words) : Type 0 where
  due : is_node_line words ≡ true
  node : begins_with (codes "node") words ≡ true
  other : begins_with (codes "part") words ≡ false
  spelled : AreSpelled 1024 words

module _ (part : Part) (p : IsPartPrintable part) (few : length part.nodes < 2 ^ 32) where
  node_row : (i : ℕ) → i < length part.nodes → IsRow (node_words part i)
  node_row i h =
      let v = p.small.nodes i 0 h in
      let lag = p.full.range.lag i 0 (omega (arith, p.lists.lag)) in
      let lead = p.full.range.lead i 0 (omega (arith, p.lists.lead)) in
      let depth = p.small.depth i 0 (omega (arith, p.lists.depth)) in
      let via = p.small.via i None (omega (arith, p.lists.via)) in
      let below : is_below (2 ^ 32) (decimal (get_or part.nodes i 0)) ≡ true = is_number (2 ^ 32) (get_or part.nodes i 0) v (omega arith) in
      let spelled : AllByRecursion (IsSpelled 1024) (node_words part i) = (spelled_word 1024 (codes "node") refl refl refl refl, (spelled_number 1024 (get_or part.nodes i 0) (omega arith) (omega arith), (spelled_number 1024 (get_or part.lag i 0) (omega arith) (omega arith), (spelled_number 1024 (get_or part.lead i 0) (omega arith) (omega arith), (spelled_number 1024 (get_or part.depth i 0) (omega arith) (omega arith), (spelled_via (get_or part.via i None) via, tt)))))) in
      record {
        due = and_from _ _ below (and_from _ _ (is_number (2 ^ 62) (get_or part.lag i 0) lag (omega arith)) (and_from _ _ (is_number (2 ^ 62) (get_or part.lead i 0) lead (omega arith)) (and_from _ _ (is_number (2 ^ 32) (get_or part.depth i 0) depth (omega arith)) (is_via (get_or part.via i None) via))));
        node = refl;
        other = refl;
        spelled = record { some = omega arith; all = spelled };
      }

  rows : AllByRecursion IsRow (node_rows part (length part.nodes))
  rows = built_all IsRow (node_words part) (length part.nodes) node_row

  -- the lines of a part are made of spelled words
  part_spelled : AllByRecursion (AreSpelled 1024) (part_lines part)
  part_spelled =
      let count : AreSpelled 1024 (count_words part) = record { some = omega arith; all = (spelled_word 1024 (codes "part") refl refl refl refl, (spelled_number 1024 (length part.nodes) (omega arith) (omega arith), tt)) } in
      let ratio : AreSpelled 1024 (ratio_words part) = record { some = omega arith; all = (spelled_word 1024 (codes "ratio") refl refl refl refl, (spelled_number 1024 part.p (omega (arith, p.full.range.p)) (omega arith), (spelled_number 1024 part.q (omega (arith, p.full.range.q)) (omega arith), tt))) } in
      let walk : AreSpelled 1024 (cycle_words part) = record { some = omega arith; all = (spelled_word 1024 (codes "cycle") refl refl refl refl, spelled_numbers 1024 (2 ^ 32) part.cycle (omega arith) (omega arith) (recursion_from_All IsSmall part.cycle p.small.cycle)) } in
      (count, (ratio, (walk, all_weaker IsRow (AreSpelled 1024) (node_rows part (length part.nodes)) (λ words row. row.spelled) rows)))

  count_due : is_part_line (count_words part) ≡ true
  count_due =
      let some : 0 < length part.nodes = omega (arith, p.full.some) in
      let value : value_below (2 ^ 32) (decimal (length part.nodes)) ≡ length part.nodes = value_back (2 ^ 32) (length part.nodes) few (omega arith) in
      and_from _ _ (is_number (2 ^ 32) (length part.nodes) few (omega arith)) (ap (nat_lt 0) value ∙ lt-ltb 0 (length part.nodes) some)

  ratio_due : is_ratio_line (ratio_words part) ≡ true
  ratio_due = and_from _ _ (is_number (2 ^ 31) part.p p.full.range.p (omega (arith, p.full.range.p))) (is_number (2 ^ 31) part.q p.full.range.q (omega (arith, p.full.range.q)))

  cycle_due : is_cycle_line (cycle_words part) ≡ true
  cycle_due =
      let two : 2 ≤ length (cycle_words part) = omega (arith, p.full.walk, length-map part.cycle decimal) in
      and_from (nat_le 2 (length (cycle_words part))) _ (le-leb 2 (length (cycle_words part)) two) (are_numbers part.cycle (recursion_from_All IsSmall part.cycle p.small.cycle))

-- a part more
grown : (part : Part) (parts : List Part) → length (lines_text (parts_lines (part ∷ parts))) ≡ length (lines_text (part_lines part)) + length (lines_text (parts_lines parts))
grown part parts = ap length (lines_text_append (part_lines part) (parts_lines parts)) ∙ length-append (lines_text (part_lines part)) (lines_text (parts_lines parts))

-- no line at fault among so many lines of transitions, where there is none after them
rows_clear : (rows : List Words) (left n last : ℕ) (rest : List Words) → left ≡ length rows → 0 < length rows → AllByRecursion IsRow rows → ((m k : ℕ) → line_at_fault Between k (numbered_lines m rest) ≡ None) → line_at_fault (Nodes left) last (numbered_lines n (rows ++ rest)) ≡ None
rows_clear [] left n last rest count some h after = absurd (omega arith)
rows_clear (row ∷ []) left n last rest count some h after =
    cond-true (is_node_line row) _ _ h.0.due
    ∙ ap (λ (stage : Stage). line_at_fault stage n (numbered_lines (n + 1) rest)) (cond-false (nat_lt 1 left) (Nodes (left - 1)) Between (le-ltb 1 left (omega arith)))
    ∙ after (n + 1) n
rows_clear (row ∷ next ∷ rows) left n last rest count some h after =
    cond-true (is_node_line row) _ _ h.0.due
    ∙ ap (λ (stage : Stage). line_at_fault stage n (numbered_lines (n + 1) (next ∷ rows ++ rest))) (cond-true (nat_lt 1 left) (Nodes (left - 1)) Between (lt-ltb 1 left (omega arith)))
    ∙ rows_clear (next ∷ rows) (left - 1) (n + 1) n rest (omega arith) (omega arith) h.1 after

parts_clear : (parts : List Part) (n last : ℕ) → AllByRecursion IsPartPrintable parts → length (lines_text (parts_lines parts)) < 2 ^ 32 → line_at_fault Between last (numbered_lines n (parts_lines parts)) ≡ None
parts_clear [] n last h short = refl
parts_clear (part ∷ parts) n last h short =
    let fits = nodes_fit part in
    let whole = grown part parts in
    let few : length part.nodes < 2 ^ 32 = omega (arith, fits, whole) in
    let later : length (lines_text (parts_lines parts)) < 2 ^ 32 = omega (arith, whole) in
    let rest = parts_lines parts in
    let value : value_below (2 ^ 32) (decimal (length part.nodes)) ≡ length part.nodes = value_back (2 ^ 32) (length part.nodes) few (omega arith) in
    let some : 0 < length (node_rows part (length part.nodes)) = omega (arith, h.0.full.some, length_built (node_words part) (length part.nodes)) in
    cond-true (is_part_line (count_words part)) _ _ (count_due part h.0 few)
    ∙ cond-true (is_ratio_line (ratio_words part)) _ _ (ratio_due part h.0 few)
    ∙ cond-true (is_cycle_line (cycle_words part)) _ _ (cycle_due part h.0 few)
    ∙ rows_clear (node_rows part (length part.nodes)) (value_below (2 ^ 32) (decimal (length part.nodes))) (n + 1 + 1 + 1) (n + 1 + 1) rest (value ∙ sym (length_built (node_words part) (length part.nodes))) some (rows part h.0 few) (λ m k. parts_clear parts m k h.1 later)

parts_spelled : (parts : List Part) → AllByRecursion IsPartPrintable parts → length (lines_text (parts_lines parts)) < 2 ^ 32 → AllByRecursion (AreSpelled 1024) (parts_lines parts)
parts_spelled [] h short = tt
parts_spelled (part ∷ parts) h short =
    let fits = nodes_fit part in
    let whole = grown part parts in
    all_append (AreSpelled 1024) (part_lines part) (parts_lines parts) (part_spelled part h.0 (omega (arith, fits, whole))) (parts_spelled parts h.1 (omega (arith, whole)))

-- the lists of a part, from the lines of its transitions
built_take : {X : Type 0} (f : ℕ → X) (xs : List X) (d : X) (n : ℕ) → n ≤ length xs → ((i : ℕ) → i < n → f i ≡ get_or xs i d) → built f n ≡ take n xs
built_take {X = X} f xs d zero within same = refl
built_take {X = X} f xs d (suc n) within same =
    ap (λ (ys : List X). ys ++ f n ∷ []) (built_take f xs d n (omega arith) (λ i less. same i (omega arith)))
    ∙ ap (λ (x : X). take n xs ++ x ∷ []) (same n (omega arith))
    ∙ sym (take-suc xs n d (omega arith))

map_numbered : {X : Type 0} (value : Words → X) (n : ℕ) (lines : List Words) → map (λ l. value l.words) (numbered_lines n lines) ≡ map value lines
map_numbered {X = X} value n [] = refl
map_numbered {X = X} value n (words ∷ lines) = ap (λ (xs : List X). value words ∷ xs) (map_numbered value (n + 1) lines)

map_built : {X : Type 0} (value : Words → X) (f : ℕ → Words) (n : ℕ) → map value (built f n) ≡ built (λ i. value (f i)) n
map_built {X = X} value f zero = refl
map_built {X = X} value f (suc n) = map-append value (built f n) (f n ∷ []) ∙ ap (λ (xs : List X). xs ++ value (f n) ∷ []) (map_built value f n)

column_back : {X : Type 0} (value : Words → X) (f : ℕ → Words) (xs : List X) (d : X) (count m : ℕ) → length xs ≡ count → ((i : ℕ) → i < count → value (f i) ≡ get_or xs i d) → map (λ l. value l.words) (numbered_lines m (built f count)) ≡ xs
column_back value f xs d count m all same =
    map_numbered value m (built f count)
    ∙ map_built value f count
    ∙ built_take (λ i. value (f i)) xs d count (omega arith) same
    ∙ take_all count xs (omega arith)

-- the lines of transitions end where the next part begins
no_rows : (parts : List Part) (m : ℕ) → node_lines (numbered_lines m (parts_lines parts)) ≡ []
no_rows [] m = refl
no_rows (part ∷ parts) m = refl

rows_end : (rows : List Words) (m : ℕ) (parts : List Part) → AllByRecursion IsRow rows → node_lines (numbered_lines m (rows ++ parts_lines parts)) ≡ numbered_lines m rows
rows_end [] m parts h = no_rows parts m
rows_end (row ∷ rows) m parts h =
    cond-true (begins_with (codes "node") row) _ _ h.0.node
    ∙ ap (λ (ls : List Line). record { number = m; words = row } ∷ ls) (rows_end rows (m + 1) parts h.1)

rows_back : (rows : List Words) (n : ℕ) (rest : List Words) (parts : List Part) → AllByRecursion IsRow rows → ((m : ℕ) → parts_of (numbered_lines m rest) ≡ parts) → parts_of (numbered_lines n (rows ++ rest)) ≡ parts
rows_back [] n rest parts h after = after n
rows_back (row ∷ rows) n rest parts h after = cond-false (begins_with (codes "part") row) _ _ h.0.other ∙ rows_back rows (n + 1) rest parts h.1 after

-- parts that agree are the same
same_part : (a b : Part) → a.nodes ≡ b.nodes → a.p ≡ b.p → a.q ≡ b.q → a.cycle ≡ b.cycle → a.lag ≡ b.lag → a.lead ≡ b.lead → a.via ≡ b.via → a.depth ≡ b.depth → a ≡ b
same_part a b nodes p q walk lag lead via depth =
    ap (λ (x : List ℕ). made x a.p a.q a.cycle a.lag a.lead a.via a.depth) nodes
    ∙ ap (λ (x : ℕ). made b.nodes x a.q a.cycle a.lag a.lead a.via a.depth) p
    ∙ ap (λ (x : ℕ). made b.nodes b.p x a.cycle a.lag a.lead a.via a.depth) q
    ∙ ap (λ (x : List ℕ). made b.nodes b.p b.q x a.lag a.lead a.via a.depth) walk
    ∙ ap (λ (x : List ℕ). made b.nodes b.p b.q b.cycle x a.lead a.via a.depth) lag
    ∙ ap (λ (x : List ℕ). made b.nodes b.p b.q b.cycle b.lag x a.via a.depth) lead
    ∙ ap (λ (x : List (Option ℕ)). made b.nodes b.p b.q b.cycle b.lag b.lead x a.depth) via
    ∙ ap (λ (x : List ℕ). made b.nodes b.p b.q b.cycle b.lag b.lead b.via x) depth
  where
    made : List ℕ → ℕ → ℕ → List ℕ → List ℕ → List ℕ → List (Option ℕ) → List ℕ → Part
    made nodes p q walk lag lead via depth = record { nodes = nodes; p = p; q = q; cycle = walk; lag = lag; lead = lead; via = via; depth = depth }

part_back : (part : Part) (p : IsPartPrintable part) (few : length part.nodes < 2 ^ 32) (n : ℕ) (parts : List Part) → part_of (numbered_lines n (ratio_words part ∷ cycle_words part ∷ (node_rows part (length part.nodes) ++ parts_lines parts))) ≡ part
part_back part p few n parts =
    let count = length part.nodes in
    let lines = numbered_lines (n + 1 + 1) (node_rows part (length part.nodes)) in
    let ends : node_lines (numbered_lines (n + 1 + 1) (node_rows part (length part.nodes) ++ parts_lines parts)) ≡ lines = rows_end (node_rows part (length part.nodes)) (n + 1 + 1) parts (rows part p few) in
    same_part _ part
    (ap (values_at (2 ^ 32) 1) ends ∙ column_back (λ words. value_below (2 ^ 32) (word_at words 1)) (node_words part) part.nodes 0 count (n + 1 + 1) refl (λ i h. value_back (2 ^ 32) (get_or part.nodes i 0) (p.small.nodes i 0 h) (omega (arith, p.small.nodes i 0 h))))
    (value_back (2 ^ 31) part.p p.full.range.p (omega (arith, p.full.range.p)))
    (value_back (2 ^ 31) part.q p.full.range.q (omega (arith, p.full.range.q)))
    (values_back part.cycle (recursion_from_All IsSmall part.cycle p.small.cycle))
    (ap (values_at (2 ^ 62) 2) ends ∙ column_back (λ words. value_below (2 ^ 62) (word_at words 2)) (node_words part) part.lag 0 count (n + 1 + 1) p.lists.lag (λ i h. let less = p.full.range.lag i 0 (omega (arith, p.lists.lag)) in value_back (2 ^ 62) (get_or part.lag i 0) less (omega (arith, less))))
    (ap (values_at (2 ^ 62) 3) ends ∙ column_back (λ words. value_below (2 ^ 62) (word_at words 3)) (node_words part) part.lead 0 count (n + 1 + 1) p.lists.lead (λ i h. let less = p.full.range.lead i 0 (omega (arith, p.lists.lead)) in value_back (2 ^ 62) (get_or part.lead i 0) less (omega (arith, less))))
    (ap (map (λ l. via_value (word_at l.words 5))) ends ∙ column_back (λ words. via_value (word_at words 5)) (node_words part) part.via None count (n + 1 + 1) p.lists.via (λ i h. via_back (get_or part.via i None) (p.small.via i None (omega (arith, p.lists.via)))))
    (ap (values_at (2 ^ 32) 4) ends ∙ column_back (λ words. value_below (2 ^ 32) (word_at words 4)) (node_words part) part.depth 0 count (n + 1 + 1) p.lists.depth (λ i h. let less = p.small.depth i 0 (omega (arith, p.lists.depth)) in value_back (2 ^ 32) (get_or part.depth i 0) less (omega (arith, less))))

parts_back : (parts : List Part) (n : ℕ) → AllByRecursion IsPartPrintable parts → length (lines_text (parts_lines parts)) < 2 ^ 32 → parts_of (numbered_lines n (parts_lines parts)) ≡ parts
parts_back [] n h short = refl
parts_back (part ∷ parts) n h short =
    let fits = nodes_fit part in
    let whole = grown part parts in
    let few : length part.nodes < 2 ^ 32 = omega (arith, fits, whole) in
    let later : length (lines_text (parts_lines parts)) < 2 ^ 32 = omega (arith, whole) in
    ap (λ (first : Part). first ∷ parts_of (numbered_lines (n + 1 + 1 + 1) (node_rows part (length part.nodes) ++ parts_lines parts))) (part_back part h.0 few (n + 1) parts)
    ∙ ap (λ (ps : List Part). part ∷ ps) (rows_back (node_rows part (length part.nodes)) (n + 1 + 1 + 1) (parts_lines parts) parts (rows part h.0 few) (λ m. parts_back parts m h.1 later))

parts_short : (cert : Cert) → length (cert_text cert) ≤ 16777216 → length (lines_text (parts_lines cert.parts)) < 2 ^ 32
unfolding cert_text
parts_short cert short = omega (arith, length-append (line_text header_words) (lines_text (parts_lines cert.parts)))

cert_spelled : (cert : Cert) → All IsPartPrintable cert.parts → length (cert_text cert) ≤ 16777216 → AllByRecursion (AreSpelled 1024) (cert_lines cert)
cert_spelled cert parts short =
    let header : AreSpelled 1024 header_words = record { some = omega arith; all = (spelled_word 1024 (codes "lid-cert") refl refl refl refl, (spelled_word 1024 (codes "1") refl refl refl refl, tt)) } in
    (header, parts_spelled cert.parts (recursion_from_All IsPartPrintable cert.parts parts) (parts_short cert short))

lines_back : (cert : Cert) → All IsPartPrintable cert.parts → length (cert_text cert) ≤ 16777216 → logical_lines (cert_text cert) ≡ numbered_lines 1 (cert_lines cert)
unfolding cert_text
lines_back cert parts short = text_law 1024 (cert_lines cert) (cert_spelled cert parts short)

text_good : (cert : Cert) → All IsPartPrintable cert.parts → length (cert_text cert) ≤ 16777216 → text_fault 1024 (cert_text cert) ≡ None
unfolding cert_text
text_good cert parts short = text_clean 1024 (cert_lines cert) (cert_spelled cert parts short)

no_fault : (cert : Cert) → All IsPartPrintable cert.parts → length (cert_text cert) ≤ 16777216 → cert_fault (cert_text cert) ≡ None
unfolding cert_fault
no_fault cert parts short =
    ap (fault_in (logical_lines (cert_text cert))) (clean_lines (cert_text cert) short (text_good cert parts short))
    ∙ ap (λ (ls : List Line). at_line (line_at_fault Header 0 ls)) (lines_back cert parts short)
    ∙ ap at_line (parts_clear cert.parts 2 1 (recursion_from_All IsPartPrintable cert.parts parts) (parts_short cert short))

same_cert : (cert : Cert) → All IsPartPrintable cert.parts → length (cert_text cert) ≤ 16777216 → cert_of (cert_text cert) ≡ cert
unfolding cert_of
same_cert cert parts short =
    ap (λ (ls : List Line). made (parts_of ls)) (lines_back cert parts short)
    ∙ ap made (parts_back cert.parts 2 (recursion_from_All IsPartPrintable cert.parts parts) (parts_short cert short))
  where
    made : List Part → Cert
    made ps = record { parts = ps }

pub printed_is_read_back : PrintedIsReadBack
printed_is_read_back cert parts short = record { sound = no_fault cert parts short; same = same_cert cert parts short }
