use Rattle.std.proofs.Common.{map, ◌++◌, ◌∷◌, [], arith}
use Rattle.std.proofs.lemmas.Grind.{common_steps}
use Rattle.std.specs.Prelude.{codes, slice_index_or, None}
use Rattle.std.specs.Fmt.{decimal}
use Rattle.lid_base_lines.specs.Texts.{spaced}
use Rattle.lid_base_lines.proofs.Pieces.{line_made, spaced_push}
use Rattle.lid_cert_text.specs.Written.{node_numbers, via_word}
use Rattle.lid_base.proofs.Lists.{appended}
use Rattle.lid_cert_text.proofs.writer.append_node.Goals as goal

pub returns-clause-ok : goal.returns-clause-ok
returns-clause-ok c =
    let numbers = map decimal (node_numbers c.args.part.now c.args.i) in
    let via = via_word (slice_index_or c.args.part.now.via c.args.i None) in
    line_made c.args.into.now.items _ _ c.push.new.self.items (codes "node") (spaced numbers ++ 32 ∷ via) (numbers ++ via ∷ []) c.in_ok-extend_from_slice.ensures.items
    (appended _ _ _ (spaced numbers) (32 ∷ via) c.in_ok-append_node_numbers.ensures.ok (grind (arith, common_steps))) c.in_ok-push.ensures.items (spaced_push numbers via)
