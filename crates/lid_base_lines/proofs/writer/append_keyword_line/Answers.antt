use Rattle.std.proofs.Common.{refl}
use Rattle.lid_base_lines.specs.Texts.{spaced}
use Rattle.lid_base_lines.proofs.Pieces.{line_made}
use Rattle.lid_base_lines.proofs.writer.append_keyword_line.Goals as goal

pub returns-clause-ok : goal.returns-clause-ok
returns-clause-ok c = line_made c.args.into.now.items _ _ c.push.new.self.items c.args.keyword.now (spaced c.args.words.now) c.args.words.now c.in_ok-extend_from_slice.ensures.items c.in_ok-append_words.ensures.ok c.in_ok-push.ensures.items refl
