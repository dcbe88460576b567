-- Lists that grow by one item.
use Rattle.std.proofs.Common.{◌≡◌, ◌+◌, ◌++◌, List, [], ◌∷◌, length, length-append, ap, ◌∙◌}

pub pushed_length : {A : Type 0} (xs news : List A) (x : A) → news ≡ xs ++ x ∷ [] → length news ≡ length xs + 1
pushed_length xs news x is = ap length is ∙ length-append xs (x ∷ [])
