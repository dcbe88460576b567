use Rattle.std.proofs.Common.{List, [], ◌∷◌, ◌++◌, ℕ, length, ◌∙◌, ap}
use Rattle.lid_check_digraph.specs.Concatenated.{lists_of}
use Rattle.lid_check_digraph.proofs.Concatenated.{begun}
use Rattle.lid_check_digraph.proofs.read_lists.ReadLists.begin.Goals as goal

pub returns : goal.returns
returns c =
    let all = c.self.inside.all.items in
    let starts = c.self.inside.starts.items in
    ap (λ (xs : List ℕ). lists_of all xs) (c.in_ok-push.ensures.items ∙ ap (λ (n : ℕ). starts ++ n ∷ []) (ap (λ (xs : List ℕ). length xs) c.as_slice-start.ensures.value))
    ∙ (begun all starts ∙ ap (λ (xs : List (List ℕ)). xs ++ [] ∷ []) c.self.view_is)
