use Rattle.std.proofs.Common.{◌∷◌, ◌++◌, List, ℕ, ap, sym}
use Rattle.std.specs.Prelude.{codes, map}
use Rattle.lid_blifout.specs.Canonical.{bind_word}
use Rattle.lid_blifout.specs.Pieces.{spaced_binds}
use Rattle.lid_base_lines.proofs.Pieces.{line_made, said_as}
use Rattle.lid_blifout.proofs.Lines.{spaced_bound}
use Rattle.lid_base.proofs.Lists.{appended}
use Rattle.lid_blifout.proofs.writer.append_inst.Goals as goal

pub returns-clause-ok : goal.returns-clause-ok
returns-clause-ok c =
    let model = c.args.inst.now.model in
    let binds = c.args.inst.now.binds in
    line_made c.args.into.now.items _ _ c.push.new.self.items (codes ".subckt") ((32 ∷ model) ++ spaced_binds binds) (model ∷ map bind_word binds) c.in_ok-extend_from_slice.ensures.items
    (appended _ _ _ (32 ∷ model) (spaced_binds binds) (said_as (λ (w : List ℕ). 32 ∷ w) _ _ c.as_slice.result.now model c.as_slice.ensures c.in_ok-append_word.ensures.ok) (said_as spaced_binds _ _ c.as_slice-2.result.now binds c.as_slice-2.ensures c.in_ok-append_binds.ensures.ok)) c.in_ok-push.ensures.items
    (ap (λ (bytes : List ℕ). (32 ∷ model) ++ bytes) (sym (spaced_bound binds)))
