use Rattle.std.proofs.Common.{ℕ, ◌++◌, ◌∷◌, [], ◌∙◌, ap, arith}
use Rattle.lid_texts_runs.proofs.Steps.{hex_step}
use Rattle.lid_texts_runs.proofs.pieces.+append_hex.Goals as goal

pub returns-clause-ok : goal.returns-clause-ok
returns-clause-ok t c =
    hex_step c.args.digits c.args.number c.args.into.now.items c.append_hex.new.into.items _ (let some = c.if-digits-eq0.false in omega arith) c.in_ok-append_hex.ensures.ok (c.in_ok-push.ensures.items ∙ ap (λ (d : ℕ). c.append_hex.new.into.items ++ d ∷ []) c.hex_digit.ensures)
