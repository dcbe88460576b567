use Rattle.std.proofs.Common.{refl, map}
use Rattle.std.specs.Fmt.{decimal}
use Rattle.lid_base_lines.specs.Texts.{spaced}
use Rattle.lid_base_lines.proofs.Pieces.{line_made}
use Rattle.lid_base_lines.proofs.writer.append_number_line.Goals as goal

pub returns-clause-ok : goal.returns-clause-ok
returns-clause-ok c = line_made c.args.into.now.items _ _ c.push.new.self.items c.args.keyword.now (spaced (map decimal c.args.numbers.now)) (map decimal c.args.numbers.now) c.in_ok-extend_from_slice.ensures.items c.in_ok-append_numbers.ensures.ok c.in_ok-push.ensures.items refl
