-- Lines in which the reading finds no fault are those of a certificate.
use Rattle.std.proofs.Common.{◌≡◌, ℕ, zero, suc, ◌+◌, ◌-◌, ◌^◌, ◌<◌, ◌≤◌, Bool, true, false, cond, List, [], ◌∷◌, ◌++◌, length, refl, sym, ◌∙◌, ap, subst, arith, length-append}
use Rattle.std.specs.Prelude.{Option, Some, None, nat_lt}
use Rattle.std.proofs.lemmas.Bool.{ltb-true, ltb-false}
use Rattle.lid_base.specs.declared.line.Line.{Line}
use Rattle.lid_base.specs.Lines.{logical_lines}
use Rattle.lid_base.specs.Numbers.{value_below}
use Rattle.lid_base.specs.Words.{word_at}
use Rattle.lid_base_lines.specs.declared.limited.LinesFault.{LinesFault}
use Rattle.lid_base_lines.specs.Limited.{limited_fault}
use Rattle.lid_cert.specs.declared.cert.Part.{Part}
use Rattle.lid_cert.specs.declared.cert.Cert.{Cert}
use Rattle.lid_cert_text.specs.Texts.{at_line, fault_in, cert_fault, cert_of, parts_of}
use Rattle.lid_cert_text_laws.specs.Grammar.{IsPartLine, IsRatioLine, Entry, IsNodeLine, AreNodeLines, told_part, IsSection, AreSections, AreLinesOf, IsTextOf}
use Rattle.lid_cert_text_laws.specs.Laws.{TextsAreRead}
use Rattle.lid_cert_text_laws.proofs.Stages.{Stage, Header, Between, Ratio, Cycle, Nodes, is_due, due_after, line_at_fault, fault_is}
use Rattle.lid_cert_text_laws.proofs.Shapes.{HasPartLine, header_found, part_found, part_value, ratio_found, HasCycleLine, cycle_found, node_found}
use Rattle.lid_cert_text_laws.proofs.Sections.{lines_clear, lines_give}

-- a line in which there is no fault has the form that is due
goes_on : (stage : Stage) (last : ℕ) (l : Line) (ls : List Line) → line_at_fault stage last (l ∷ ls) ≡ None → (is_due stage l.words ≡ true) × (line_at_fault (due_after stage l.words) l.number ls ≡ None)
goes_on stage last l ls clear = by (is_due stage l.words) refl clear
  where
    by : (b : Bool) → is_due stage l.words ≡ b → cond b (line_at_fault (due_after stage l.words) l.number ls) (Some l.number) ≡ None → (is_due stage l.words ≡ true) × (line_at_fault (due_after stage l.words) l.number ls ≡ None)
    by true due h = (due, h)
    by false due h = cc

-- the lines of so many transitions, and what comes after them
record HasNodes (left : ℕ) (ls : List Line) : Type 0 where
  nodes : List Entry
  lines : List Line
  rest : List Line
  last : ℕ
  many : length nodes ≡ left
  is : ls ≡ lines ++ rest
  are : AreNodeLines nodes lines
  clear : line_at_fault Between last rest ≡ None

nodes_found : (ls : List Line) (left last : ℕ) → 1 ≤ left → line_at_fault (Nodes left) last ls ≡ None → HasNodes left ls
nodes_found [] left last some clear = cc
nodes_found (l ∷ ls) left last some clear =
    let g = goes_on (Nodes left) last l ls clear in
    by (node_found l g.0) (nat_lt 1 left) refl g.1 (λ n h c. nodes_found ls n l.number h c)
  where
    by : (node : Entry) × IsNodeLine node l → (b : Bool) → nat_lt 1 left ≡ b → line_at_fault (cond b (Nodes (left - 1)) Between) l.number ls ≡ None
        → ((n : ℕ) → 1 ≤ n → line_at_fault (Nodes n) l.number ls ≡ None → HasNodes n ls) → HasNodes left (l ∷ ls)
    by node true e h later =
        let more : 1 < left = ltb-true 1 left e in
        let r = later (left - 1) (omega arith) h in
        record {
          nodes = node.0 ∷ r.nodes;
          lines = l ∷ r.lines;
          rest = r.rest;
          last = r.last;
          many = omega (arith, r.many);
          is = ap (λ (xs : List Line). l ∷ xs) r.is;
          are = (l, r.lines, refl, node.1, r.are);
          clear = r.clear;
        }
    by node false e h later =
        let less : left ≤ 1 = ltb-false 1 left e in
        record { nodes = node.0 ∷ []; lines = l ∷ []; rest = ls; last = l.number; many = omega arith; is = refl; are = (l, [], refl, node.1, refl); clear = h }

-- a section, and what comes after it
record HasSection (ls : List Line) : Type 0 where
  part : Part
  section : List Line
  rest : List Line
  last : ℕ
  is : ls ≡ section ++ rest
  of : IsSection part section
  clear : line_at_fault Between last rest ≡ None

section_found : (l : Line) (ls : List Line) (last : ℕ) → line_at_fault Between last (l ∷ ls) ≡ None → HasSection (l ∷ ls)
section_found l ls last clear =
    let g = goes_on Between last l ls clear in
    by_ratio (part_found l g.0) (due_after Between l.words) refl ls g.1
  where
    made : HasPartLine l → (n : ℕ) → value_below (2 ^ 32) (word_at l.words 1) ≡ n → (m k : Line) (rest : List Line) → (p : ℕ) × (q : ℕ) × IsRatioLine p q m → HasCycleLine k → HasNodes n rest → HasSection (l ∷ m ∷ k ∷ rest)
    made count n is m k rest ratio edges nodes =
        let many : count.count ≡ length nodes.nodes = (sym (part_value count.count l count.is) ∙ is) ∙ sym nodes.many in
        record {
          part = told_part ratio.0 ratio.1 edges.edges nodes.nodes;
          section = l ∷ m ∷ k ∷ nodes.lines;
          rest = nodes.rest;
          last = nodes.last;
          is = ap (λ (xs : List Line). l ∷ m ∷ k ∷ xs) nodes.is;
          of = record {
            count_line = l;
            ratio_line = m;
            cycle_line = k;
            node_lines = nodes.lines;
            are = refl;
            p = ratio.0;
            q = ratio.1;
            edges = edges.edges;
            nodes = nodes.nodes;
            part_is = refl;
            counts = subst (λ (c : ℕ). IsPartLine c l) many count.is;
            some_nodes = omega (arith, count.some);
            rates = ratio.2;
            walks = edges.is;
            some_edges = edges.some;
            tell = nodes.are;
          };
          clear = nodes.clear;
        }

    by_cycle : HasPartLine l → (n : ℕ) → value_below (2 ^ 32) (word_at l.words 1) ≡ n → (m : Line) (ms : List Line) → (p : ℕ) × (q : ℕ) × IsRatioLine p q m → line_at_fault (Cycle n) m.number ms ≡ None → HasSection (l ∷ m ∷ ms)
    by_cycle count n is m [] ratio h = cc
    by_cycle count n is m (k ∷ ks) ratio h =
        let g = goes_on (Cycle n) m.number k ks h in
        let some : 1 ≤ n = (let s = count.some in let e = part_value count.count l count.is in omega arith) in
        made count n is m k ks ratio (cycle_found k g.0) (nodes_found ks n k.number some g.1)

    by_ratio : HasPartLine l → (stage : Stage) → Ratio (value_below (2 ^ 32) (word_at l.words 1)) ≡ stage → (ms : List Line) → line_at_fault (Ratio (value_below (2 ^ 32) (word_at l.words 1))) l.number ms ≡ None → HasSection (l ∷ ms)
    by_ratio count stage is [] h = cc
    by_ratio count stage is (m ∷ ms) h =
        let g = goes_on (Ratio (value_below (2 ^ 32) (word_at l.words 1))) l.number m ms h in
        by_cycle count (value_below (2 ^ 32) (word_at l.words 1)) refl m ms (ratio_found m g.0) g.1

sections_found : (most : ℕ) (ls : List Line) (last : ℕ) → length ls ≤ most → line_at_fault Between last ls ≡ None → (parts : List Part) × AreSections parts ls
sections_found most [] last few clear = ([], refl)
sections_found zero (l ∷ ls) last few clear = absurd (omega arith)
sections_found (suc most) (l ∷ ls) last few clear = on (section_found l ls last clear) (λ xs n h c. sections_found most xs n h c)
  where
    on : HasSection (l ∷ ls) → ((xs : List Line) (n : ℕ) → length xs ≤ most → line_at_fault Between n xs ≡ None → (parts : List Part) × AreSections parts xs) → (parts : List Part) × AreSections parts (l ∷ ls)
    on s later =
        let whole : suc (length ls) ≡ length s.section + length s.rest = ap length s.is ∙ length-append s.section s.rest in
        let long : length s.section ≡ suc (suc (suc (length s.of.node_lines))) = ap length s.of.are in
        let r = later s.rest s.last (omega arith) s.clear in
        (s.part ∷ r.0, (s.section, s.rest, s.is, s.of, r.1))

pub lines_found : (ls : List Line) (last : ℕ) → line_at_fault Header last ls ≡ None → (cert : Cert) × AreLinesOf cert ls
lines_found [] last clear = cc
lines_found (l ∷ ls) last clear =
    let g = goes_on Header last l ls clear in
    let r = sections_found (length ls) ls l.number (omega arith) g.1 in
    (record { parts = r.0 }, (l, ls, refl, header_found l g.0, r.1))

module _ (bytes : List ℕ) (cert : Cert) where
  read : IsTextOf cert bytes → (cert_fault bytes ≡ None) × (cert_of bytes ≡ cert)
  unfolding cert_fault cert_of
  read is =
      (ap (fault_in (logical_lines bytes)) is.sound ∙ fault_is (logical_lines bytes) ∙ ap at_line (lines_clear cert (logical_lines bytes) is.lines 0), ap made (lines_give cert (logical_lines bytes) is.lines))
    where
      made : List Part → Cert
      made ps = record { parts = ps }

  written : (cert_fault bytes ≡ None) × (cert_of bytes ≡ cert) → IsTextOf cert bytes
  unfolding cert_fault cert_of
  written h = by_lines (limited_fault bytes) refl h.0
    where
      of_lines : (cert : Cert) × AreLinesOf cert (logical_lines bytes) → AreLinesOf cert (logical_lines bytes)
      of_lines found =
          let parts : parts_of (logical_lines bytes) ≡ found.0.parts = lines_give found.0 (logical_lines bytes) found.1 in
          let mine : parts_of (logical_lines bytes) ≡ cert.parts = ap (λ (c : Cert). c.parts) h.1 in
          let same : found.0 ≡ cert = ap made (sym parts ∙ mine) in
          subst (λ (c : Cert). AreLinesOf c (logical_lines bytes)) same found.1
        where
          made : List Part → Cert
          made ps = record { parts = ps }

      clear : (o : Option ℕ) → line_at_fault Header 0 (logical_lines bytes) ≡ o → at_line o ≡ None → line_at_fault Header 0 (logical_lines bytes) ≡ None
      clear None e n = e
      clear (Some line) e n = cc

      by_lines : (o : Option LinesFault) → limited_fault bytes ≡ o → fault_in (logical_lines bytes) o ≡ None → IsTextOf cert bytes
      by_lines None e n = record { sound = e; lines = of_lines (lines_found (logical_lines bytes) 0 (clear (line_at_fault Header 0 (logical_lines bytes)) refl (sym (fault_is (logical_lines bytes)) ∙ n))) }
      by_lines (Some fault) e n = cc

pub texts_are_read : TextsAreRead
texts_are_read bytes cert = (read bytes cert, written bytes cert)
