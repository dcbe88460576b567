use Rattle.std.proofs.Common.{ℕ, ◌+◌, List, ◌∷◌, length, refl, ap, sym, subst, ◌∙◌, arith, inl, inr}
use Rattle.std.specs.Option.{option_copied}
use Rattle.std.specs.List.{slice_split, enumerate_from}
use Rattle.lid_base.specs.Cuts.{lines_left}
use Rattle.lid_base.specs.Lines.{is_newline, physical_lines, logical_lines, line_fault, first_fault, text_fault}
use Rattle.lid_base.proofs.Joining.{open_lines_fresh}
use Rattle.lid_blif.specs.Joins.{all_lines}
use Rattle.lid_blif.proofs.Cuts.{IsTextLeft, cut_off, fault_first, fault_later}
use Rattle.lid_blif.proofs.cutting.word_list.Goals as goal

pub loop-left-init : goal.loop-left-init
unfolding logical_lines text_fault physical_lines
loop-left-init c = record {
  lines = c.new-joined.ensures.lines _ ∙ open_lines_fresh 1 (slice_split is_newline c.args.bytes.now);
  joined = c.new-joined.ensures.joined;
  text = c.new-joined.ensures.text;
  fault = refl;
  low = omega arith;
  place = record { within = omega (arith, ap length c.new-joined.ensures.text); is = c.new-joined.ensures.text };
  few = omega (arith, c.new-joined.ensures.empty);
  short = omega arith;
}

pub add-requires-clause-within : goal.add-requires-clause-within
add-requires-clause-within c =
    let cut = cut_off _ _ _ _ _ (option_copied c.cut_line.result.1) c.in-Some.is c.loop-left.invariant.place c.cut_line.ensures.line in
    (omega arith, cut.within)

pub returns-in-Err-clause-err : goal.returns-in-Err-clause-err
returns-in-Err-clause-err c =
    let number = c.loop-left.number in
    let line = c.cut_line.result.0.now in
    let later = enumerate_from (number + 1) (lines_left (option_copied c.cut_line.result.1)) in
    let cut = cut_off _ _ _ _ _ (option_copied c.cut_line.result.1) c.in-Some.is c.loop-left.invariant.place c.cut_line.ensures.line in
    let fault = ap (λ (parts : List (List ℕ)). first_fault c.args.longest (enumerate_from number parts)) (sym cut.parts) ∙ c.loop-left.invariant.fault in
    elim c.in-Err.ensures.err [
      | inl memory ↦ inl memory
      | inr told ↦ inr (sym fault ∙ fault_first c.args.longest (number, line) later c.in-Err.fault (ap (λ (bytes : List ℕ). line_fault c.args.longest (number, bytes)) (sym cut.part) ∙ told))
    ]

pub loop-left-preserved : goal.loop-left-preserved
loop-left-preserved c =
    let number = c.loop-left.number in
    let joined = c.loop-left.joined in
    let held = c.loop-left.invariant in
    let line = c.cut_line.result.0.now in
    let after = option_copied c.cut_line.result.1 in
    let later = enumerate_from (number + 1) (lines_left after) in
    let cut = cut_off joined.text.now c.loop-left.from c.loop-left.left c.in-Some.text line after c.in-Some.is held.place c.cut_line.ensures.line in
    let clear = ap (λ (bytes : List ℕ). line_fault c.args.longest (number, bytes)) (sym cut.part) ∙ c.in_default-add.ensures.ok in
    let low = held.low in
    record {
      lines =
          c.in_default-add.ensures.lines later
          ∙ ap (λ (bytes : List ℕ). all_lines joined ((number, bytes) ∷ later)) cut.part
          ∙ ap (λ (parts : List (List ℕ)). all_lines joined (enumerate_from number parts)) (sym cut.parts)
          ∙ held.lines;
      joined = c.in_default-add.ensures.joined;
      text = c.add.ensures.text ∙ held.text;
      fault =
          sym (fault_later c.args.longest (number, line) later clear)
          ∙ ap (λ (parts : List (List ℕ)). first_fault c.args.longest (enumerate_from number parts)) (sym cut.parts)
          ∙ held.fault;
      low = omega (arith, low, cut.work);
      place = subst (λ (text : List ℕ). IsTextLeft text (c.loop-left.from + length line + 1) after) (sym c.add.ensures.text) cut.behind;
      few = c.in_default-add.ensures.few;
      short = omega (arith, cut.within, ap length held.text);
    }
