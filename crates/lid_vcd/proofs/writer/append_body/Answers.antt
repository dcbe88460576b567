use Rattle.std.proofs.Common.{arith}
use Rattle.lid_base.proofs.Results.{on_ok}
use Rattle.lid_texts_runs.proofs.Steps.{cells_left}
use Rattle.lid_vcd.proofs.Parts.{body_made}
use Rattle.lid_vcd.proofs.writer.append_body.Goals as goal

pub append_later-requires-clause-whole : goal.append_later-requires-clause-whole
append_later-requires-clause-whole c = let some = c.if-cycles-eq0.false in cells_left c.args.stations c.args.cycles _ _ (omega arith) c.requires.whole c.split_at.ensures.back_len

pub returns-clause-ok : goal.returns-clause-ok
returns-clause-ok c =
    let some = c.if-cycles-eq0.false in
    on_ok c.append_later.result
    (body_made c.args.stations c.args.cycles c.args.cells.now c.split_at.result.0.now c.split_at.result.1.now c.args.into.now.items _ _ _ (omega arith) c.split_at.ensures.front c.split_at.ensures.back c.in_ok-append_time.ensures.ok c.in_ok-append_all.ensures.ok)
    c.append_later.ensures.ok
