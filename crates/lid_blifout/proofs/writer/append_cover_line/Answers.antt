use Rattle.std.proofs.Common.{◌∷◌, [], ◌++◌, ℕ, List}
use Rattle.std.specs.Prelude.{codes}
use Rattle.lid_base_lines.specs.Texts.{spaced}
use Rattle.lid_base_lines.proofs.Pieces.{line_made, spaced_push, said_as}
use Rattle.lid_base.proofs.Lists.{appended}
use Rattle.lid_blifout.proofs.writer.append_cover_line.Goals as goal

pub returns-clause-ok : goal.returns-clause-ok
returns-clause-ok c =
    let inputs = c.args.inputs.now in
    let out = c.args.out.now in
    line_made c.args.into.now.items _ _ c.push.new.self.items (codes ".names") (spaced inputs ++ 32 ∷ out) (inputs ++ out ∷ []) c.in_ok-extend_from_slice.ensures.items
    (appended _ _ _ (spaced inputs) (32 ∷ out) c.in_ok-append_words.ensures.ok (said_as (λ (w : List ℕ). 32 ∷ w) _ _ c.as_slice.result.now out c.as_slice.ensures c.in_ok-append_word.ensures.ok)) c.in_ok-push.ensures.items (spaced_push inputs out)
