-- What is done to the share of an element is done to that.
use Rattle.std.proofs.Common.{◌≡◌, ℕ, ◌+◌, ◌*◌, ◌/◌, ◌<◌, List, length, get_or, sym, ◌∙◌, ap, subst, arith}
use Rattle.std.specs.Prelude.{Some, slice_get}
use Rattle.std.proofs.Math.Nat.{div-lt_iff_lt-mul, mul_comm}
use Rattle.std.proofs.lemmas.Option.{slice_get-get_or, get_or_from_slice_get, slice_get_within}
use Rattle.std.specs.Fork.{IsChunk}
use Rattle.lid_parclock.specs.Shares.{IsShareLength}

-- an element was changed as its share was
pub changed : {X : Type 0} (R : X → X → Type 0) (olds news share left : List X) (v offset : ℕ) (x y : X)
    → slice_get olds v ≡ Some x → slice_get news v ≡ Some y
    → offset < length share → length left ≡ length share → get_or share offset x ≡ get_or olds v x → get_or left offset x ≡ get_or news v x
    → ((a b : X) → slice_get share offset ≡ Some a → slice_get left offset ≡ Some b → R a b)
    → R x y
changed R olds news share left v offset x y old new within many first last each =
    each x y
    (slice_get-get_or share offset x within ∙ ap Some (first ∙ get_or_from_slice_get olds v x x old))
    (slice_get-get_or left offset x (omega (arith, many, within)) ∙ ap Some (last ∙ get_or_from_slice_get news v y x new))

-- an element of a share is one of all
pub among : {X : Type 0} (all share : List X) (size start i : ℕ) (x : X) → IsChunk all size start share → slice_get share i ≡ Some x → slice_get all (start + i) ≡ Some x
among all share size start i x chunk here =
    let within = slice_get_within share i x here in
    let low : start + i < length all = omega (arith, chunk.in_bounds, within) in
    slice_get-get_or all (start + i) x low ∙ ap Some (sym (chunk.elements i x within) ∙ get_or_from_slice_get share i x x here)

-- the number of a share is below that of the workers
pub number_few : {X : Type 0} (all share : List X) (size start workers : ℕ) → IsShareLength (length all) workers size → IsChunk all size start share → start / size < workers
number_few all share size start workers length_is chunk =
    let begins : start < size * workers = omega (arith, chunk.in_bounds, chunk.nonempty, length_is.enough) in
    (div-lt_iff_lt-mul length_is.some).1 (subst (λ (n : ℕ). start < n) (mul_comm size workers) begins)
