use Rattle.std.proofs.Common.{List, [], ℕ, ◌∙◌, ap}
use Rattle.lid_check_digraph.specs.Concatenated.{lists_of}
use Rattle.lid_check_digraph.proofs.Concatenated.{more}
use Rattle.lid_check_digraph.proofs.read_lists.ReadLists.push.Goals as goal

pub returns : goal.returns
returns c =
    let all = c.self.inside.all.items in
    let starts = c.self.inside.starts.items in
    ap (λ (xs : List ℕ). lists_of xs starts) c.in_ok-extend_from_slice.ensures.items
    ∙ more all starts c.args.numbers.now c.self.invariant c.args.self.now [] (c.self.view_is ∙ c.in_ok-begin.ensures)
