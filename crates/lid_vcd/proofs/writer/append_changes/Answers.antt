use Rattle.std.proofs.Common.{◌++◌, List, sym, ap, ◌∙◌, append-nil, arith}
use Rattle.lid_base_lines.specs.Texts.{Words, lines_text}
use Rattle.lid_vcd.proofs.Parts.{none_changes}
use Rattle.lid_vcd.proofs.writer.append_changes.Goals as goal

pub returns-clause-ok : goal.returns-clause-ok
returns-clause-ok c =
    let l = c.loop-rest in
    sym (append-nil l.into.items) ∙ ap (λ (lines : List Words). l.into.items ++ lines_text lines) (sym (none_changes l.n l.before.now l.rest.now (omega (arith, c.in_default.len_below)))) ∙ l.invariant.done
