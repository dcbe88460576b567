-- The line tells in how many of the cycles made somebody was held.
use Rattle.std.proofs.Common.{ℕ, List, [], ◌∷◌, ◌++◌, length, ◌∙◌, ap}
use Rattle.std.specs.Prelude.{codes}
use Rattle.std.specs.Fmt.{decimal}
use Rattle.lid_base.proofs.Results.{on_ok}
use Rattle.lid_base_lines.specs.Texts.{line_text}
use Rattle.lid_top_clock.proofs.Ends.{stalled}
use Rattle.lid_top_clock.proofs.Stalling.{line_told}
use Rattle.lid_top_clock.proofs.steps.Running.append_stalled.Goals as goal

pub returns : goal.returns
returns c r given l at b =
    let made = c.args.self.now.made in
    let count = c.stalled.ensures l made (length given) (at.lives l b).ran ∙ stalled l b.of.rules r.stalls b.of.held at.rules.ascend made in
    on_ok c.append_number_line.result
    (λ is. is ∙ ap (λ (n : ℕ). c.args.into.now.items ++ line_text (codes "stalled" ∷ decimal n ∷ [])) count
    ∙ ap (λ (line : List ℕ). c.args.into.now.items ++ line) (line_told r.stalls c.args.self.now.told at.told c.if-not-self.false made))
    c.append_number_line.ensures.ok
