-- Elements that were read by an index.
use Rattle.std.proofs.Common.{◌≡◌, ℕ, ◌<◌, List, length, get_or, sym, ◌∙◌}
use Rattle.std.specs.Prelude.{Some, slice_get}
use Rattle.std.proofs.lemmas.Option.{same_Some}
use Rattle.lid_base.proofs.Places.{item_read}

-- what stands where an element was read is that element
pub is_read : {X : Type 0} (xs : List X) (i : ℕ) (x y : X) → i < length xs → x ≡ get_or xs i x → slice_get xs i ≡ Some y → x ≡ y
is_read xs i x y within read there = same_Some x y (sym (item_read xs i x within read) ∙ there)
