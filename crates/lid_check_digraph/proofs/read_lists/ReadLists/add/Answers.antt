use Rattle.std.proofs.Common.{◌≡◌, List, [], ◌∷◌, ◌++◌, ℕ, ◌∙◌, ap}
use Rattle.lid_check_digraph.specs.Concatenated.{lists_of}
use Rattle.lid_check_digraph.proofs.Concatenated.{more}
use Rattle.lid_check_digraph.proofs.read_lists.ReadLists.add.Goals as goal

pub returns : goal.returns
returns c lists last is =
    let all = c.self.inside.all.items in
    let starts = c.self.inside.starts.items in
    ap (λ (xs : List ℕ). lists_of xs starts) c.in_ok-push.ensures.items
    ∙ more all starts (c.args.number ∷ []) c.self.invariant lists last (c.self.view_is ∙ is)
