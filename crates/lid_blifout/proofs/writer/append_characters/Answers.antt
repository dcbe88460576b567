use Rattle.std.proofs.Common.{◌∙◌, arith, ap, ℕ, ◌++◌, ◌∷◌, []}
use Rattle.std.proofs.lemmas.Grind.{common_steps}
use Rattle.lid_blifout.proofs.Lines.{characters_push}
use Rattle.lid_blifout.proofs.writer.append_characters.Goals as goal

pub loop-left-preserved : goal.loop-left-preserved
loop-left-preserved c =
    let l = c.loop-left in
    record {
      done = characters_push l.left l.care l.value l.into.items c.push.new.self.items (omega arith) (c.in_ok-push.ensures.items ∙ ap (λ (b : ℕ). l.into.items ++ b ∷ []) c.character.ensures) ∙ l.invariant.done;
      kept = grind (arith, common_steps);
    }
