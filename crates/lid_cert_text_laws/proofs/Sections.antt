-- What the reading makes of lines of the grammar: it finds no fault, and the parts of the certificate.
use Rattle.std.proofs.Common.{◌≡◌, ℕ, ◌-◌, ◌^◌, ◌≤◌, true, false, List, [], ◌∷◌, ◌++◌, length, map, refl, sym, ◌∙◌, ap, subst, arith}
use Rattle.std.specs.Prelude.{None, codes, nat_lt}
use Rattle.std.proofs.lemmas.Bool.{cond-true, cond-false, lt-ltb, le-ltb}
use Rattle.lid_base.specs.declared.line.Line.{Line}
use Rattle.lid_base.specs.Numbers.{value_below}
use Rattle.lid_base.specs.Words.{word_at, begins_with}
use Rattle.lid_cert.specs.declared.cert.Part.{Part}
use Rattle.lid_cert.specs.declared.cert.Cert.{Cert}
use Rattle.lid_cert_text.specs.Texts.{via_value, is_part_line, is_ratio_line, is_cycle_line, is_node_line, is_header_line, values_at, node_lines, part_of, parts_of}
use Rattle.lid_cert_text_laws.specs.Grammar.{IsPartLine, IsRatioLine, IsCycleLine, Entry, AreNodeLines, IsSection, AreSections, AreLinesOf}
use Rattle.lid_cert_text_laws.proofs.Stages.{Stage, Header, Between, Nodes, line_at_fault}
use Rattle.lid_cert_text_laws.proofs.Shapes.{IsTaken, header_due, part_due, part_value, ratio_due, ratio_p, ratio_q, cycle_due, cycle_values, node_due, node_begins, node_taken}

-- whatever line was last, there is no fault in what comes
abbrev pub AreClear : Stage → List Line → Type 0
AreClear stage ls = (last : ℕ) → line_at_fault stage last ls ≡ None

nodes_clear : (nodes : List Entry) (ls rest : List Line) (left : ℕ) → left ≡ length nodes → 1 ≤ length nodes → AreNodeLines nodes ls → AreClear Between rest → AreClear (Nodes left) (ls ++ rest)
nodes_clear [] ls rest left count some are after last = absurd (omega arith)
nodes_clear (node ∷ []) ls rest left count some are after last =
    subst (λ (xs : List Line). line_at_fault (Nodes left) last (xs ++ rest) ≡ None) (sym are.2)
    (cond-true (is_node_line are.0.words) _ _ (node_due node are.0 are.3)
    ∙ ap (λ (stage : Stage). line_at_fault stage are.0.number (are.1 ++ rest)) (cond-false (nat_lt 1 left) (Nodes (left - 1)) Between (le-ltb 1 left (omega arith)))
    ∙ ap (λ (xs : List Line). line_at_fault Between are.0.number (xs ++ rest)) are.4
    ∙ after are.0.number)
nodes_clear (node ∷ other ∷ nodes) ls rest left count some are after last =
    subst (λ (xs : List Line). line_at_fault (Nodes left) last (xs ++ rest) ≡ None) (sym are.2)
    (cond-true (is_node_line are.0.words) _ _ (node_due node are.0 are.3)
    ∙ ap (λ (stage : Stage). line_at_fault stage are.0.number (are.1 ++ rest)) (cond-true (nat_lt 1 left) (Nodes (left - 1)) Between (lt-ltb 1 left (omega arith)))
    ∙ nodes_clear (other ∷ nodes) are.1 rest (left - 1) (omega arith) (omega arith) are.4 after are.0.number)

section_clear : (part : Part) (section rest : List Line) → IsSection part section → AreClear Between rest → AreClear Between (section ++ rest)
section_clear part section rest s after last =
    subst (λ (xs : List Line). line_at_fault Between last (xs ++ rest) ≡ None) (sym s.are)
    (cond-true (is_part_line s.count_line.words) _ _ (part_due (length s.nodes) s.count_line s.counts s.some_nodes)
    ∙ cond-true (is_ratio_line s.ratio_line.words) _ _ (ratio_due s.p s.q s.ratio_line s.rates)
    ∙ cond-true (is_cycle_line s.cycle_line.words) _ _ (cycle_due s.edges s.cycle_line s.walks s.some_edges)
    ∙ nodes_clear s.nodes s.node_lines rest _ (part_value (length s.nodes) s.count_line s.counts) s.some_nodes s.tell after s.cycle_line.number)

sections_clear : (parts : List Part) (ls : List Line) → AreSections parts ls → AreClear Between ls
sections_clear [] ls are last = ap (line_at_fault Between last) are
sections_clear (part ∷ parts) ls are last =
    subst (λ (xs : List Line). line_at_fault Between last xs ≡ None) (sym are.2)
    (section_clear part are.0 are.1 are.3 (sections_clear parts are.1 are.4) last)

-- the lines of transitions end where the next part begins
part_begins : (n : ℕ) (l : Line) → IsPartLine n l → (begins_with (codes "part") l.words ≡ true) × (begins_with (codes "node") l.words ≡ false)
part_begins n l is = subst (λ (ws : List (List ℕ)). (begins_with (codes "part") ws ≡ true) × (begins_with (codes "node") ws ≡ false)) (sym is.are) (refl, refl)

no_nodes : (parts : List Part) (ls : List Line) → AreSections parts ls → node_lines ls ≡ []
no_nodes [] ls are = ap node_lines are
no_nodes (part ∷ parts) ls are =
    let s = are.3 in
    subst (λ (xs : List Line). node_lines xs ≡ []) (sym (are.2 ∙ ap (λ (xs : List Line). xs ++ are.1) s.are))
    (cond-false (begins_with (codes "node") s.count_line.words) _ _ (part_begins (length s.nodes) s.count_line s.counts).1)

nodes_end : (nodes : List Entry) (ls rest : List Line) → AreNodeLines nodes ls → node_lines rest ≡ [] → node_lines (ls ++ rest) ≡ ls
nodes_end [] ls rest are none = ap (λ (xs : List Line). node_lines (xs ++ rest)) are ∙ none ∙ sym are
nodes_end (node ∷ nodes) ls rest are none =
    subst (λ (xs : List Line). node_lines (xs ++ rest) ≡ xs) (sym are.2)
    (cond-true (begins_with (codes "node") are.0.words) _ _ (node_begins node are.0 are.3).0 ∙ ap (λ (xs : List Line). are.0 ∷ xs) (nodes_end nodes are.1 rest are.4 none))

-- a column of the lines of transitions
column : {X : Type 0} (take : List (List ℕ) → X) (told : Entry → X) → ((node : Entry) (words : List (List ℕ)) → IsTaken node words → take words ≡ told node) → (nodes : List Entry) (ls : List Line) → AreNodeLines nodes ls → map (λ l. take l.words) ls ≡ map told nodes
column take told each [] ls are = ap (map (λ l. take l.words)) are
column {X} take told each (node ∷ nodes) ls are =
    ap (map (λ l. take l.words)) are.2
    ∙ ap (λ (x : X). x ∷ map (λ l. take l.words) are.1) (each node are.0.words (node_taken node are.0 are.3))
    ∙ ap (λ (xs : List X). told node ∷ xs) (column take told each nodes are.1 are.4)

module _ (part : Part) (section rest : List Line) (s : IsSection part section) (none : node_lines rest ≡ []) where
  rows : node_lines (s.node_lines ++ rest) ≡ s.node_lines
  rows = nodes_end s.nodes s.node_lines rest s.tell none

  taken : part_of (s.ratio_line ∷ s.cycle_line ∷ s.node_lines ++ rest) ≡ part
  taken =
      let numbers : values_at (2 ^ 32) 1 (node_lines (s.node_lines ++ rest)) ≡ map (λ n. n.number) s.nodes = ap (values_at (2 ^ 32) 1) rows ∙ column (λ ws. value_below (2 ^ 32) (word_at ws 1)) (λ n. n.number) (λ node ws t. t.number) s.nodes s.node_lines s.tell in
      let lags : values_at (2 ^ 62) 2 (node_lines (s.node_lines ++ rest)) ≡ map (λ n. n.lag) s.nodes = ap (values_at (2 ^ 62) 2) rows ∙ column (λ ws. value_below (2 ^ 62) (word_at ws 2)) (λ n. n.lag) (λ node ws t. t.lag) s.nodes s.node_lines s.tell in
      let leads : values_at (2 ^ 62) 3 (node_lines (s.node_lines ++ rest)) ≡ map (λ n. n.lead) s.nodes = ap (values_at (2 ^ 62) 3) rows ∙ column (λ ws. value_below (2 ^ 62) (word_at ws 3)) (λ n. n.lead) (λ node ws t. t.lead) s.nodes s.node_lines s.tell in
      let depths : values_at (2 ^ 32) 4 (node_lines (s.node_lines ++ rest)) ≡ map (λ n. n.depth) s.nodes = ap (values_at (2 ^ 32) 4) rows ∙ column (λ ws. value_below (2 ^ 32) (word_at ws 4)) (λ n. n.depth) (λ node ws t. t.depth) s.nodes s.node_lines s.tell in
      let vias : map (λ l. via_value (word_at l.words 5)) (node_lines (s.node_lines ++ rest)) ≡ map (λ n. n.via) s.nodes = ap (map (λ l. via_value (word_at l.words 5))) rows ∙ column (λ ws. via_value (word_at ws 5)) (λ n. n.via) (λ node ws t. t.via) s.nodes s.node_lines s.tell in
      let p_is = ratio_p s.p s.q s.ratio_line s.rates in
      let q_is = ratio_q s.p s.q s.ratio_line s.rates in
      let edges = cycle_values s.edges s.cycle_line s.walks in
      let part_is = s.part_is in
      cc

-- no part begins in the lines of transitions
nodes_pass : (nodes : List Entry) (ls rest : List Line) → AreNodeLines nodes ls → parts_of (ls ++ rest) ≡ parts_of rest
nodes_pass [] ls rest are = ap (λ (xs : List Line). parts_of (xs ++ rest)) are
nodes_pass (node ∷ nodes) ls rest are =
    subst (λ (xs : List Line). parts_of (xs ++ rest) ≡ parts_of rest) (sym are.2)
    (cond-false (begins_with (codes "part") are.0.words) _ _ (node_begins node are.0 are.3).1 ∙ nodes_pass nodes are.1 rest are.4)

ratio_begins : (p q : ℕ) (l : Line) → IsRatioLine p q l → begins_with (codes "part") l.words ≡ false
ratio_begins p q l is = subst (λ (ws : List (List ℕ)). begins_with (codes "part") ws ≡ false) (sym is.are) refl

cycle_begins : (edges : List ℕ) (l : Line) → IsCycleLine edges l → begins_with (codes "part") l.words ≡ false
cycle_begins edges l is = subst (λ (ws : List (List ℕ)). begins_with (codes "part") ws ≡ false) (sym is.are) refl

sections_give : (parts : List Part) (ls : List Line) → AreSections parts ls → parts_of ls ≡ parts
sections_give [] ls are = ap parts_of are
sections_give (part ∷ parts) ls are =
    let s = are.3 in
    subst (λ (xs : List Line). parts_of xs ≡ part ∷ parts) (sym (are.2 ∙ ap (λ (xs : List Line). xs ++ are.1) s.are))
    (cond-true (begins_with (codes "part") s.count_line.words) _ _ (part_begins (length s.nodes) s.count_line s.counts).0
    ∙ ap (λ (first : Part). first ∷ parts_of (s.ratio_line ∷ s.cycle_line ∷ s.node_lines ++ are.1)) (taken part are.0 are.1 s (no_nodes parts are.1 are.4))
    ∙ ap (λ (ps : List Part). part ∷ ps)
    (cond-false (begins_with (codes "part") s.ratio_line.words) _ _ (ratio_begins s.p s.q s.ratio_line s.rates)
    ∙ cond-false (begins_with (codes "part") s.cycle_line.words) _ _ (cycle_begins s.edges s.cycle_line s.walks)
    ∙ nodes_pass s.nodes s.node_lines are.1 s.tell
    ∙ sections_give parts are.1 are.4))

-- lines of a certificate have no fault, and give its parts
pub lines_clear : (cert : Cert) (ls : List Line) → AreLinesOf cert ls → (last : ℕ) → line_at_fault Header last ls ≡ None
lines_clear cert ls are last =
    subst (λ (xs : List Line). line_at_fault Header last xs ≡ None) (sym are.2)
    (cond-true (is_header_line are.0.words) _ _ (header_due are.0 are.3) ∙ sections_clear cert.parts are.1 are.4 are.0.number)

pub lines_give : (cert : Cert) (ls : List Line) → AreLinesOf cert ls → parts_of ls ≡ cert.parts
lines_give cert ls are =
    subst (λ (xs : List Line). parts_of xs ≡ cert.parts) (sym are.2)
    (cond-false (begins_with (codes "part") are.0.words) _ _ (subst (λ (ws : List (List ℕ)). begins_with (codes "part") ws ≡ false) (sym are.3) refl)
    ∙ sections_give cert.parts are.1 are.4)
