use Rattle.std.proofs.Common.{List}
use Rattle.lid_base.proofs.Results.{on_ok}
use Rattle.lid_cert.specs.declared.cert.Part.{Part}
use Rattle.lid_base_lines.specs.Texts.{lines_text}
use Rattle.lid_base_lines.proofs.Pieces.{said_as}
use Rattle.lid_cert_text.specs.Written.{parts_lines}
use Rattle.lid_cert_text.proofs.PrintedLines.{text_made}
use Rattle.lid_cert_text.proofs.writer.append_text.Goals as goal

pub returns-clause-ok : goal.returns-clause-ok
returns-clause-ok c =
    let parts = c.args.cert.now.parts in
    on_ok c.append_parts.result (λ e. text_made c.args.cert.now _ _ _ c.in_ok-extend_from_slice.ensures.items (said_as (λ (ps : List Part). lines_text (parts_lines ps)) _ _ c.as_slice.result.now parts c.as_slice.ensures e)) c.append_parts.ensures.ok
