use Rattle.std.proofs.Common.{◌≡◌, ◌<◌, List, ℕ, length, sym, ◌∙◌, ap, subst}
use Rattle.lid_check_digraph.specs.Graphs.{reads_at}
use Rattle.lid_check_digraph.specs.Concatenated.{list_at}
use Rattle.lid_check_digraph.proofs.Concatenated.{lists_length, list_is}
use Rattle.lid_check_digraph.proofs.read_lists.ReadLists.list.Goals as goal

pub list_at-requires-clause-there : goal.list_at-requires-clause-there
list_at-requires-clause-there c =
    let count : length c.args.self.now ≡ length c.self.inside.starts.items = ap (λ (xs : List (List ℕ)). length xs) (sym c.self.view_is) ∙ lists_length c.self.inside.all.items c.self.inside.starts.items in
    subst (λ (xs : List ℕ). c.args.k < length xs) (sym c.as_slice-2.ensures.value) (subst (λ (n : ℕ). c.args.k < n) count c.requires)

pub returns : goal.returns
returns c =
    let all = c.self.inside.all.items in
    let starts = c.self.inside.starts.items in
    let count : length c.args.self.now ≡ length starts = ap (λ (xs : List (List ℕ)). length xs) (sym c.self.view_is) ∙ lists_length all starts in
    c.list_at.ensures
    ∙ (ap (λ (xs : List ℕ). list_at xs c.as_slice-2.result.now c.args.k) c.as_slice.ensures.value
    ∙ (ap (λ (xs : List ℕ). list_at all xs c.args.k) c.as_slice-2.ensures.value
    ∙ (sym (list_is all starts c.args.k (subst (λ (n : ℕ). c.args.k < n) count c.requires))
    ∙ ap (λ (xs : List (List ℕ)). reads_at xs c.args.k) c.self.view_is)))
