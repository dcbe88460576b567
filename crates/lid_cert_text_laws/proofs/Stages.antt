-- The stages of the reading of lines. Those of `lid_cert_text` have no name outside of it, so they are told again here, and
-- shown to do the same.
use Rattle.std.proofs.Common.{◌≡◌, ℕ, ◌-◌, ◌^◌, ◌<◌, Bool, true, false, cond, List, [], ◌∷◌, refl, ◌∙◌, ap, arith}
use Rattle.std.specs.Prelude.{Option, Some, None, codes, nat_lt}
use Rattle.std.specs.Fmt.{decimal}
use Rattle.lid_base.specs.declared.line.Line.{Line}
use Rattle.lid_base.specs.Numbers.{value_below}
use Rattle.lid_base.specs.Words.{word_at}
use Rattle.lid_base.proofs.Numbers.{value_back, value_below_less}
use Rattle.lid_cert_text.specs.Texts.{is_header_line, is_part_line, is_ratio_line, is_cycle_line, is_node_line, at_line, fault_in}
use Rattle.lid_base_lines.specs.Texts.{Words}
use Rattle.lid_cert_text.specs.Texts as reader

-- which line is due, and in a part how many lines of transitions
pub data Stage : Type 0 where
  Header : Stage
  Between : Stage
  Ratio : ℕ → Stage
  Cycle : ℕ → Stage
  Nodes : ℕ → Stage

-- how many transitions a line `part K` asks for
abbrev pub count_in : Words → ℕ
count_in words = value_below (2 ^ 32) (word_at words 1)

abbrev pub is_due : Stage → Words → Bool
is_due Header words = is_header_line words
is_due Between words = is_part_line words
is_due (Ratio left) words = is_ratio_line words
is_due (Cycle left) words = is_cycle_line words
is_due (Nodes left) words = is_node_line words

abbrev pub due_after : Stage → Words → Stage
due_after Header words = Between
due_after Between words = Ratio (count_in words)
due_after (Ratio left) words = Cycle left
due_after (Cycle left) words = Nodes left
due_after (Nodes left) words = cond (nat_lt 1 left) (Nodes (left - 1)) Between

abbrev pub may_end : Stage → Bool
may_end Between = true
may_end Header = false
may_end (Ratio left) = false
may_end (Cycle left) = false
may_end (Nodes left) = false

abbrev pub line_at_fault : Stage → ℕ → List Line → Option ℕ
line_at_fault stage last [] = cond (may_end stage) None (Some last)
line_at_fault stage last (l ∷ ls) = cond (is_due stage l.words) (line_at_fault (due_after stage l.words) l.number ls) (Some l.number)

-- a line `part K` with one transition fewer
abbrev one_fewer : Words → Words
one_fewer words = codes "part" ∷ decimal (count_in words - 1) ∷ []

one_fewer_is : (words : Words) → count_in (one_fewer words) ≡ count_in words - 1
one_fewer_is words =
    let small : count_in words < 2 ^ 32 = value_below_less (2 ^ 32) (word_at words 1) (omega arith) in
    value_back (2 ^ 32) (count_in words - 1) (omega arith) (omega arith)

-- stages by the lines that lead to them
module _ {S : Type 0} (due : S → Words → Bool) (after : S → Words → S) (ends : S → Bool) (fault : S → ℕ → List Line → Option ℕ) (header : S) where
  abbrev between : S
  between = after header []

  abbrev ratio : Words → S
  ratio ws = after between ws

  abbrev cycle : Words → S
  cycle ws = after (ratio ws) []

  abbrev nodes : Words → S
  nodes ws = after (cycle ws) []

  -- they do as the stages above
  record DoTheSame : Type 0 where
    whole : (ls : List Line) → fault_in ls None ≡ at_line (fault header 0 ls)
    nil : (s : S) (last : ℕ) → fault s last [] ≡ cond (ends s) None (Some last)
    cons : (s : S) (last : ℕ) (l : Line) (ls : List Line) → fault s last (l ∷ ls) ≡ cond (due s l.words) (fault (after s l.words) l.number ls) (Some l.number)
    header_due : (ws : Words) → due header ws ≡ is_header_line ws
    between_due : (ws : Words) → due between ws ≡ is_part_line ws
    ratio_due : (ws xs : Words) → due (ratio ws) xs ≡ is_ratio_line xs
    cycle_due : (ws xs : Words) → due (cycle ws) xs ≡ is_cycle_line xs
    nodes_due : (ws xs : Words) → due (nodes ws) xs ≡ is_node_line xs
    header_ends : ends header ≡ false
    between_ends : ends between ≡ true
    ratio_ends : (ws : Words) → ends (ratio ws) ≡ false
    cycle_ends : (ws : Words) → ends (cycle ws) ≡ false
    nodes_ends : (ws : Words) → ends (nodes ws) ≡ false
    to_between : (ws : Words) → after header ws ≡ between
    to_cycle : (ws xs : Words) → after (ratio ws) xs ≡ cycle ws
    to_nodes : (ws xs : Words) → after (cycle ws) xs ≡ nodes ws
    on : (ws vs xs : Words) → count_in vs ≡ count_in ws - 1 → after (nodes ws) xs ≡ cond (nat_lt 1 (count_in ws)) (nodes vs) between

  module _ (laws : DoTheSame) where
    -- a line asked for so many transitions, and led there
    record LedTo (to : Words → S) (left : ℕ) (s : S) : Type 0 where
      words : Words
      count : count_in words ≡ left
      is : s ≡ to words

    abbrev Same : Stage → S → Type 0
    Same Header s = s ≡ header
    Same Between s = s ≡ between
    Same (Ratio left) s = LedTo ratio left s
    Same (Cycle left) s = LedTo cycle left s
    Same (Nodes left) s = LedTo nodes left s

    same_due : (stage : Stage) (s : S) (ws : Words) → Same stage s → due s ws ≡ is_due stage ws
    same_due Header s ws so = ap (λ (t : S). due t ws) so ∙ laws.header_due ws
    same_due Between s ws so = ap (λ (t : S). due t ws) so ∙ laws.between_due ws
    same_due (Ratio left) s ws so = ap (λ (t : S). due t ws) so.is ∙ laws.ratio_due so.words ws
    same_due (Cycle left) s ws so = ap (λ (t : S). due t ws) so.is ∙ laws.cycle_due so.words ws
    same_due (Nodes left) s ws so = ap (λ (t : S). due t ws) so.is ∙ laws.nodes_due so.words ws

    same_ends : (stage : Stage) (s : S) → Same stage s → ends s ≡ may_end stage
    same_ends Header s so = ap ends so ∙ laws.header_ends
    same_ends Between s so = ap ends so ∙ laws.between_ends
    same_ends (Ratio left) s so = ap ends so.is ∙ laws.ratio_ends so.words
    same_ends (Cycle left) s so = ap ends so.is ∙ laws.cycle_ends so.words
    same_ends (Nodes left) s so = ap ends so.is ∙ laws.nodes_ends so.words

    same_after : (stage : Stage) (s : S) (ws : Words) → Same stage s → Same (due_after stage ws) (after s ws)
    same_after Header s ws so = ap (λ (t : S). after t ws) so ∙ laws.to_between ws
    same_after Between s ws so = record { words = ws; count = refl; is = ap (λ (t : S). after t ws) so }
    same_after (Ratio left) s ws so = record { words = so.words; count = so.count; is = ap (λ (t : S). after t ws) so.is ∙ laws.to_cycle so.words ws }
    same_after (Cycle left) s ws so = record { words = so.words; count = so.count; is = ap (λ (t : S). after t ws) so.is ∙ laws.to_nodes so.words ws }
    same_after (Nodes left) s ws so = by (nat_lt 1 left) (ap (nat_lt 1) so.count)
      where
        step : after s ws ≡ cond (nat_lt 1 (count_in so.words)) (nodes (one_fewer so.words)) between
        step = ap (λ (t : S). after t ws) so.is ∙ laws.on so.words (one_fewer so.words) ws (one_fewer_is so.words)

        by : (b : Bool) → nat_lt 1 (count_in so.words) ≡ b → Same (cond b (Nodes (left - 1)) Between) (after s ws)
        by true e = record { words = one_fewer so.words; count = one_fewer_is so.words ∙ ap (λ (n : ℕ). n - 1) so.count; is = step ∙ ap (λ (b : Bool). cond b (nodes (one_fewer so.words)) between) e }
        by false e = step ∙ ap (λ (b : Bool). cond b (nodes (one_fewer so.words)) between) e

    same_fault : (ls : List Line) (stage : Stage) (s : S) (last : ℕ) → Same stage s → fault s last ls ≡ line_at_fault stage last ls
    same_fault [] stage s last so = laws.nil s last ∙ ap (λ (b : Bool). cond b None (Some last)) (same_ends stage s so)
    same_fault (l ∷ ls) stage s last so =
        laws.cons s last l ls
        ∙ ap (λ (b : Bool). cond b (fault (after s l.words) l.number ls) (Some l.number)) (same_due stage s l.words so)
        ∙ ap (λ (o : Option ℕ). cond (is_due stage l.words) o (Some l.number)) (same_fault ls (due_after stage l.words) (after s l.words) l.number (same_after stage s l.words so))

    same_whole : (ls : List Line) → fault_in ls None ≡ at_line (line_at_fault Header 0 ls)
    same_whole ls = laws.whole ls ∙ ap at_line (same_fault ls Header header 0 refl)

pub fault_is : (ls : List Line) → fault_in ls None ≡ at_line (line_at_fault Header 0 ls)
fault_is = same_whole reader.is_due reader.due_after reader.may_end reader.line_at_fault _ (record {
  whole = λ ls. refl;
  nil = λ s last. refl;
  cons = λ s last l ls. refl;
  header_due = λ ws. refl;
  between_due = λ ws. refl;
  ratio_due = λ ws xs. refl;
  cycle_due = λ ws xs. refl;
  nodes_due = λ ws xs. refl;
  header_ends = refl;
  between_ends = refl;
  ratio_ends = λ ws. refl;
  cycle_ends = λ ws. refl;
  nodes_ends = λ ws. refl;
  to_between = λ ws. refl;
  to_cycle = λ ws xs. refl;
  to_nodes = λ ws xs. refl;
  on = λ ws vs xs e. cc;
})
