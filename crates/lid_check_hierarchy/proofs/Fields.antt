-- An entry of a list by another default.
use Rattle.std.proofs.Common.{◌≡◌, ℕ, ◌<◌, List, length, get_or, ◌∙◌, ap}
use Rattle.std.proofs.lemmas.List.{get_or_default}

pub field_at : {A : Type 0} (xs ys : List A) (k : ℕ) (d x : A) → ys ≡ xs → x ≡ get_or ys k x → k < length ys → x ≡ get_or xs k d
field_at xs ys k d x same is below = is ∙ get_or_default ys k x d below ∙ ap (λ zs. get_or zs k d) same
