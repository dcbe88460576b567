use Rattle.std.proofs.Common.{ℕ, Ok, subst}
use Rattle.lid_top_script.specs.FetchSteps.{FetchesFile}
use Rattle.lid_top_script.proofs.Fetched.{file_then}
use Rattle.lid_top_script.proofs.reading.read_file.Goals as goal

pub returns-in-Ok-clause-fetched : goal.returns-in-Ok-clause-fetched
returns-in-Ok-clause-fetched g c =
    let name = c.args.name.now in
    let old = c.args.shelf.now in
    let new = c.fetch_file.new.shelf in
    file_then c.read.result
    (subst (λ (n : ℕ). FetchesFile g.S.Shelf.whole (g.S.Shelf.held old name) name n (g.S.Shelf.fetches old) (g.S.Shelf.fetches new) (g.S.Shelf.faults old) (g.S.Shelf.faults new) (Ok c.in-Ok.bytes)) c.limit.ensures c.in-Ok.ensures.fetched)
