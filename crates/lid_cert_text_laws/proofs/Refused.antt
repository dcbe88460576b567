-- The line of a refusal is the first by which no certificate's lines go on.
use Rattle.std.proofs.Common.{◌≡◌, ℕ, zero, suc, ◌-◌, ◌<◌, ◌≤◌, ◌⊎◌, inl, inr, Bool, true, false, cond, List, [], ◌∷◌, ◌++◌, refl, sym, ◌∙◌, ap, subst, arith, append_assoc}
use Rattle.std.specs.Prelude.{Option, Some, None, codes, nat_lt, ⊤}
use Rattle.std.proofs.lemmas.Bool.{cond-true, cond-false, ltb-true, lt-ltb, le-ltb}
use Rattle.std.proofs.lemmas.Option.{same_Some}
use Rattle.lid_base.specs.declared.line.Line.{Line}
use Rattle.lid_base.specs.Lines.{logical_lines}
use Rattle.lid_base.specs.Numbers.{number_below}
use Rattle.lid_cert.specs.declared.cert.Cert.{Cert}
use Rattle.lid_cert_text.specs.declared.fault.CertFault.{CertFault}
use Rattle.lid_cert_text.specs.declared.fault.CertFault.TheVariants.{Word}
use Rattle.lid_cert_text.specs.Texts.{at_line, fault_in, cert_fault}
use Rattle.lid_cert_text_laws.specs.Grammar.{AreLinesOf}
use Rattle.lid_cert_text_laws.specs.Laws.{IsBeginning, last_number, IsFirstOff, EndEarly, RefusalsAreFirst}
use Rattle.lid_cert_text_laws.proofs.Stages.{Stage, Header, Between, Ratio, Cycle, Nodes, is_due, due_after, may_end, line_at_fault, fault_is}
use Rattle.lid_cert_text_laws.proofs.Shapes.{part_found, part_value}
use Rattle.lid_cert_text_laws.proofs.Sections.{lines_clear}
use Rattle.lid_cert_text_laws.proofs.Found.{lines_found}

-- lines of the forms that are due lead from one stage to another
abbrev Reaches : Stage → List Line → Stage → Type 0
Reaches stage [] end = stage ≡ end
Reaches stage (l ∷ ls) end = (is_due stage l.words ≡ true) × Reaches (due_after stage l.words) ls end

fault_past : (ls more : List Line) (stage end : Stage) (last : ℕ) → Reaches stage ls end → line_at_fault stage last (ls ++ more) ≡ line_at_fault end (last_number last ls) more
fault_past [] more stage end last reaches = ap (λ (s : Stage). line_at_fault s last more) reaches
fault_past (l ∷ ls) more stage end last reaches = cond-true (is_due stage l.words) _ _ reaches.0 ∙ fault_past ls more (due_after stage l.words) end l.number reaches.1

-- the first line that has not the form that is due
record IsOff (stage : Stage) (ls : List Line) (number : ℕ) : Type 0 where
  before : List Line
  line : Line
  after : List Line
  end : Stage
  are : ls ≡ before ++ line ∷ after
  reaches : Reaches stage before end
  other : is_due end line.words ≡ false
  told : number ≡ line.number

-- all have it, and more is due
record IsShort (stage : Stage) (last : ℕ) (ls : List Line) (number : ℕ) : Type 0 where
  end : Stage
  reaches : Reaches stage ls end
  open_end : may_end end ≡ false
  told : number ≡ last_number last ls

off_or_short : (ls : List Line) (stage : Stage) (last number : ℕ) → line_at_fault stage last ls ≡ Some number → IsOff stage ls number ⊎ IsShort stage last ls number
off_or_short [] stage last number h = by (may_end stage) refl h
  where
    by : (b : Bool) → may_end stage ≡ b → cond b None (Some last) ≡ Some number → IsOff stage [] number ⊎ IsShort stage last [] number
    by true e h = cc
    by false e h = inr (record { end = stage; reaches = refl; open_end = e; told = sym (same_Some last number h) })
off_or_short (l ∷ ls) stage last number h = by (is_due stage l.words) refl h (λ c. off_or_short ls (due_after stage l.words) l.number number c)
  where
    later : is_due stage l.words ≡ true → IsOff (due_after stage l.words) ls number ⊎ IsShort (due_after stage l.words) l.number ls number → IsOff stage (l ∷ ls) number ⊎ IsShort stage last (l ∷ ls) number
    later due (inl o) = inl (record { before = l ∷ o.before; line = o.line; after = o.after; end = o.end; are = ap (λ (xs : List Line). l ∷ xs) o.are; reaches = (due, o.reaches); other = o.other; told = o.told })
    later due (inr s) = inr (record { end = s.end; reaches = (due, s.reaches); open_end = s.open_end; told = s.told })

    by : (b : Bool) → is_due stage l.words ≡ b → cond b (line_at_fault (due_after stage l.words) l.number ls) (Some l.number) ≡ Some number
        → (line_at_fault (due_after stage l.words) l.number ls ≡ Some number → IsOff (due_after stage l.words) ls number ⊎ IsShort (due_after stage l.words) l.number ls number)
        → IsOff stage (l ∷ ls) number ⊎ IsShort stage last (l ∷ ls) number
    by true due h rest = later due (rest h)
    by false due h rest = inl (record { before = []; line = l; after = ls; end = stage; are = refl; reaches = refl; other = due; told = sym (same_Some l.number number h) })

-- within a part a line of a transition is due
abbrev HasMore : Stage → Type 0
HasMore (Ratio left) = 1 ≤ left
HasMore (Cycle left) = 1 ≤ left
HasMore (Nodes left) = 1 ≤ left
HasMore _ = ⊤

more_after : (stage : Stage) (l : Line) → HasMore stage → is_due stage l.words ≡ true → HasMore (due_after stage l.words)
more_after Header l more due = tt
more_after Between l more due = let p = part_found l due in omega (arith, p.some, part_value p.count l p.is)
more_after (Ratio left) l more due = more
more_after (Cycle left) l more due = more
more_after (Nodes left) l more due = by (nat_lt 1 left) refl
  where
    by : (b : Bool) → nat_lt 1 left ≡ b → HasMore (cond b (Nodes (left - 1)) Between)
    by true e = let less : 1 < left = ltb-true 1 left e in omega arith
    by false e = tt

more_reached : (ls : List Line) (stage end : Stage) → HasMore stage → Reaches stage ls end → HasMore end
more_reached [] stage end more reaches = subst HasMore reaches more
more_reached (l ∷ ls) stage end more reaches = more_reached ls (due_after stage l.words) end (more_after stage l more reaches.0) reaches.1

-- lines that end a text from each stage on
record Ends (stage : Stage) : Type 0 where
  lines : List Line
  clear : (last : ℕ) → line_at_fault stage last lines ≡ None

abbrev node_line : Line
node_line = record { number = 0; words = codes "node" ∷ codes "0" ∷ codes "0" ∷ codes "0" ∷ codes "0" ∷ codes "-" ∷ [] }

abbrev cycle_line : Line
cycle_line = record { number = 0; words = codes "cycle" ∷ codes "0" ∷ [] }

abbrev ratio_line : Line
ratio_line = record { number = 0; words = codes "ratio" ∷ codes "0" ∷ codes "1" ∷ [] }

abbrev header_line : Line
header_line = record { number = 0; words = codes "lid-cert" ∷ codes "1" ∷ [] }

node_is_due : (left : ℕ) → is_due (Nodes left) node_line.words ≡ true
unfolding number_below
node_is_due left = refl

cycle_is_due : (left : ℕ) → is_due (Cycle left) cycle_line.words ≡ true
unfolding number_below
cycle_is_due left = refl

ratio_is_due : (left : ℕ) → is_due (Ratio left) ratio_line.words ≡ true
unfolding number_below
ratio_is_due left = refl

nodes_end : (more left : ℕ) → left ≡ suc more → Ends (Nodes left)
nodes_end zero left is = record {
  lines = node_line ∷ [];
  clear = λ last.
      cond-true (is_due (Nodes left) node_line.words) _ _ (node_is_due left)
      ∙ ap (λ (stage : Stage). line_at_fault stage 0 []) (cond-false (nat_lt 1 left) (Nodes (left - 1)) Between (le-ltb 1 left (omega arith)));
}
nodes_end (suc more) left is = longer (nodes_end more (left - 1) (omega arith))
  where
    longer : Ends (Nodes (left - 1)) → Ends (Nodes left)
    longer rest = record {
      lines = node_line ∷ rest.lines;
      clear = λ last.
          cond-true (is_due (Nodes left) node_line.words) _ _ (node_is_due left)
          ∙ ap (λ (stage : Stage). line_at_fault stage 0 rest.lines) (cond-true (nat_lt 1 left) (Nodes (left - 1)) Between (lt-ltb 1 left (omega arith)))
          ∙ rest.clear 0;
    }

of_nodes : (left : ℕ) → 1 ≤ left → Ends (Nodes left)
of_nodes left some = nodes_end (left - 1) left (omega arith)

of_cycle : (left : ℕ) → 1 ≤ left → Ends (Cycle left)
of_cycle left some = let rest = of_nodes left some in record { lines = cycle_line ∷ rest.lines; clear = λ last. cond-true (is_due (Cycle left) cycle_line.words) _ _ (cycle_is_due left) ∙ rest.clear 0 }

of_ratio : (left : ℕ) → 1 ≤ left → Ends (Ratio left)
of_ratio left some = let rest = of_cycle left some in record { lines = ratio_line ∷ rest.lines; clear = λ last. cond-true (is_due (Ratio left) ratio_line.words) _ _ (ratio_is_due left) ∙ rest.clear 0 }

ends : (stage : Stage) → HasMore stage → Ends stage
ends Header more = record { lines = header_line ∷ []; clear = λ last. refl }
ends Between more = record { lines = []; clear = λ last. refl }
ends (Ratio left) more = of_ratio left more
ends (Cycle left) more = of_cycle left more
ends (Nodes left) more = of_nodes left more

-- so lines of the forms that are due begin a certificate's
begin : (ls : List Line) (end : Stage) → Reaches Header ls end → IsBeginning ls
begin ls end reaches =
    let rest = ends end (more_reached ls Header end tt reaches) in
    let found = lines_found (ls ++ rest.lines) 0 (fault_past ls rest.lines Header end 0 reaches ∙ rest.clear (last_number 0 ls)) in
    record { cert = found.0; more = rest.lines; are = found.1 }

module _ (ls : List Line) (number : ℕ) (h : line_at_fault Header 0 ls ≡ Some number) where
  first_off : IsOff Header ls number → IsFirstOff ls number
  first_off o = record { before = o.before; line = o.line; after = o.after; are = o.are; begin = begin o.before o.end o.reaches; off = off; told = o.told }
    where
      off : IsBeginning (o.before ++ o.line ∷ []) → ⊥
      off b =
          let are : AreLinesOf b.cert (o.before ++ o.line ∷ b.more) = subst (AreLinesOf b.cert) (append_assoc o.before (o.line ∷ []) b.more) b.are in
          let none : line_at_fault Header 0 (o.before ++ o.line ∷ b.more) ≡ None = lines_clear b.cert (o.before ++ o.line ∷ b.more) are 0 in
          let some : line_at_fault Header 0 (o.before ++ o.line ∷ b.more) ≡ Some o.line.number = fault_past o.before (o.line ∷ b.more) Header o.end 0 o.reaches ∙ cond-false (is_due o.end o.line.words) _ _ o.other in
          cc

  end_early : IsShort Header 0 ls number → EndEarly ls number
  end_early s = record { begin = begin ls s.end s.reaches; early = early; told = s.told }
    where
      early : (cert : Cert) → AreLinesOf cert ls → ⊥
      early cert are = let none : line_at_fault Header 0 ls ≡ None = lines_clear cert ls are 0 in cc

  pub first : IsFirstOff ls number ⊎ EndEarly ls number
  first = by (off_or_short ls Header 0 number h)
    where
      by : IsOff Header ls number ⊎ IsShort Header 0 ls number → IsFirstOff ls number ⊎ EndEarly ls number
      by (inl o) = inl (first_off o)
      by (inr s) = inr (end_early s)

abbrev line_in : Option CertFault → ℕ
line_in (Some (Word line)) = line
line_in _ = 0

pub refusals_are_first : RefusalsAreFirst
unfolding cert_fault
refusals_are_first bytes number sound told = first (logical_lines bytes) number (by_line (line_at_fault Header 0 (logical_lines bytes)) refl (sym (fault_is (logical_lines bytes)) ∙ (sym (ap (fault_in (logical_lines bytes)) sound) ∙ told)))
  where
    by_line : (o : Option ℕ) → line_at_fault Header 0 (logical_lines bytes) ≡ o → at_line o ≡ Some (Word number) → line_at_fault Header 0 (logical_lines bytes) ≡ Some number
    by_line None e h = cc
    by_line (Some line) e h = e ∙ ap Some (ap line_in h)
