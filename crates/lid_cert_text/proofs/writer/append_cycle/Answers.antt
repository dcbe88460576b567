use Rattle.std.proofs.Common.{map, ap}
use Rattle.std.specs.Prelude.{ℕ, List, codes}
use Rattle.std.specs.Fmt.{decimal}
use Rattle.lid_base_lines.specs.Texts.{spaced}
use Rattle.lid_base_lines.proofs.Pieces.{line_made}
use Rattle.lid_cert_text.proofs.writer.append_cycle.Goals as goal

pub returns-clause-ok : goal.returns-clause-ok
returns-clause-ok c =
    line_made c.args.into.now.items _ _ c.push.new.self.items (codes "cycle") (spaced (map decimal c.as_slice.result.now)) (map decimal c.args.part.now.cycle) c.in_ok-extend_from_slice.ensures.items c.in_ok-append_small_numbers.ensures.ok c.in_ok-push.ensures.items (ap (λ (ns : List ℕ). spaced (map decimal ns)) c.as_slice.ensures)
