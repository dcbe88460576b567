use Rattle.lid_base.proofs.Results.{given_err}
use Rattle.lid_base_io.proofs.Going.{none_as}
use Rattle.lid_base_io.proofs.fetching.fetch_all.Goals as goal

pub returns-in_err-buffer-clause-begun : goal.returns-in_err-buffer-clause-begun
returns-in_err-buffer-clause-begun g c =
    given_err c.from_residual.result
    (none_as g.S.Shelf.whole (g.S.Shelf.held c.args.shelf.now c.args.name.now) c.args.name.now c.args.limit (g.S.Shelf.fetches c.args.shelf.now))
