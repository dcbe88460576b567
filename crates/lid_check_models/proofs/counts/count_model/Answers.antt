use Rattle.std.proofs.Common.{ℕ, List, slice_index_or, ◌∙◌, ap}
use Rattle.lid_check_models.proofs.counts.count_model.Goals as goal

pub returns : goal.returns
returns c =
    c.read.ensures
    ∙ ap (λ (xs : List ℕ). slice_index_or xs c.args.model 0) c.as_slice.ensures.value
    ∙ c.in_ok-counts.ensures c.args.model c.requires
