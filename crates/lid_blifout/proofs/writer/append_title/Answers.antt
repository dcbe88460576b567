use Rattle.std.proofs.Common.{◌∷◌, [], ℕ, List}
use Rattle.std.specs.Prelude.{codes}
use Rattle.lid_base_lines.proofs.Pieces.{line_made, spaced_one, said_as}
use Rattle.lid_blifout.proofs.writer.append_title.Goals as goal

pub returns-clause-ok : goal.returns-clause-ok
returns-clause-ok c =
    let name = c.args.name.now in
    line_made c.args.into.now.items _ _ c.push.new.self.items (codes ".model") (32 ∷ name) (name ∷ []) c.in_ok-extend_from_slice.ensures.items
    (said_as (λ (w : List ℕ). 32 ∷ w) _ _ c.as_slice.result.now name c.as_slice.ensures c.in_ok-append_word.ensures.ok) c.in_ok-push.ensures.items (spaced_one name)
