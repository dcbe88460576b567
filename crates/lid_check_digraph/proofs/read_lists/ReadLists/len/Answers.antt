use Rattle.std.proofs.Common.{List, ℕ, length, sym, ◌∙◌, ap}
use Rattle.lid_check_digraph.proofs.Concatenated.{lists_length}
use Rattle.lid_check_digraph.proofs.read_lists.ReadLists.len.Goals as goal

pub returns : goal.returns
returns c =
    (ap (λ (xs : List ℕ). length xs) c.as_slice.ensures.value
    ∙ sym (ap (λ (xs : List (List ℕ)). length xs) (sym c.self.view_is) ∙ lists_length c.self.inside.all.items c.self.inside.starts.items))
