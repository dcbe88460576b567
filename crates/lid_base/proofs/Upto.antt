-- Loops that change each element of a list once, in order, and what stands in a list in which one was set.
use Rattle.std.proofs.Common.{◌≡◌, ℕ, ◌+◌, ◌<◌, ◌≤◌, List, length, get_or, set, refl, sym, ◌∙◌, ap, subst, arith, length-set, ◌≢◌}
use Rattle.std.specs.Prelude.{Some, slice_get}
use Rattle.std.proofs.lemmas.Option.{same_Some, slice_get_within}
use mathlib.Core.Logic.{dite}
use native.Mathlib.Decide.{ℕ_discrete}
use Rattle.lid_base.proofs.Places.{item_read, set_here, set_there, item_at}

-- elements before place i were changed, each as it should, and the others are as they were
pub record Upto {X : Type 0} (R : ℕ → X → X → Type 0) (i : ℕ) (olds news : List X) : Type 0 where
  pub many : length news ≡ length olds
  pub changed : (j : ℕ) → j < i → (x y : X) → slice_get olds j ≡ Some x → slice_get news j ≡ Some y → R j x y
  pub left : (j : ℕ) → i ≤ j → slice_get news j ≡ slice_get olds j

-- before the loop
pub none_yet : {X : Type 0} (R : ℕ → X → X → Type 0) (xs : List X) → Upto R 0 xs xs
none_yet R xs =
    record {
      many = refl;
      changed = λ j below x y _ _. absurd (omega arith);
      left = λ j from. refl;
    }

-- the element that comes next is as it was
next_there : {X : Type 0} (R : ℕ → X → X → Type 0) (i : ℕ) (olds news : List X) (x : X) → Upto R i olds news → i < length news → x ≡ get_or news i x → slice_get olds i ≡ Some x
next_there R i olds news x upto within read = sym (upto.left i (omega arith)) ∙ item_read news i x within read

-- so what holds of it before the loop still holds
pub next_meets : {X : Type 0} (R : ℕ → X → X → Type 0) (P : X → Type 0) (i : ℕ) (olds news : List X) (x : X) → Upto R i olds news → i < length news → x ≡ get_or news i x → (slice_get olds i ≡ Some x → P x) → P (get_or news i x)
next_meets R P i olds news x upto within read meets = subst P read (meets (next_there R i olds news x upto within read))

-- one more element is changed
pub one_more : {X : Type 0} (R : ℕ → X → X → Type 0) (i : ℕ) (olds news : List X) (x y : X) → Upto R i olds news → i < length news → x ≡ get_or news i x → R i (get_or news i x) y → Upto R (i + 1) olds (set news i y)
one_more R i olds news x y upto within read step =
    record {
      many = length-set news i y ∙ upto.many;
      changed = λ j below p q old new.
          dite (ℕ_discrete j i)
          (λ same.
          let here : slice_get (set news i y) i ≡ Some q = subst (λ n. slice_get (set news i y) n ≡ Some q) same new in
          let last : y ≡ q = set_here news i y q here in
          let first : get_or news i x ≡ p = sym read ∙ same_Some x p (sym (next_there R i olds news x upto within read) ∙ ap (slice_get olds) (sym same) ∙ old) in
          subst (λ n. R n p q) (sym same) (subst (λ z. R i p z) last (subst (λ z. R i z y) first step)))
          (λ other. upto.changed j (omega arith) p q old (sym (set_there news i j y other) ∙ new));
      left = λ j from. set_there news i j y (λ same. omega arith) ∙ upto.left j (omega arith);
    }

-- after the loop
pub all_changed : {X : Type 0} (R : ℕ → X → X → Type 0) (olds news : List X) (i : ℕ) → Upto R i olds news → length olds ≤ i → (j : ℕ) (x y : X) → slice_get olds j ≡ Some x → slice_get news j ≡ Some y → R j x y
all_changed R olds news i upto past j x y old new =
    let within : j < length olds = slice_get_within olds j x old in
    upto.changed j (omega arith) x y old new

-- what each element has become, where one was set
pub each_set : {X : Type 0} (R : ℕ → X → X → Type 0) (xs : List X) (i : ℕ) (x y : X) → slice_get xs i ≡ Some x → R i x y
    → ((j : ℕ) (z : X) → j ≢ i → slice_get xs j ≡ Some z → R j z z)
    → (j : ℕ) (z : X) → slice_get (set xs i y) j ≡ Some z → (w : X) × (slice_get xs j ≡ Some w) × R j w z
each_set R xs i x y there changed others j z h =
    dite (ℕ_discrete j i)
    (λ same.
    let here : slice_get (set xs i y) i ≡ Some z = subst (λ n. slice_get (set xs i y) n ≡ Some z) same h in
    (x, subst (λ n. slice_get xs n ≡ Some x) (sym same) there, subst (λ n. R n x z) (sym same) (subst (λ e. R i x e) (set_here xs i y z here) changed)))
    (λ other. (let own = sym (set_there xs i j y other) ∙ h in (z, own, others j z other own)))

-- what each element was, after a loop that changes each
pub each_was : {X : Type 0} (R : ℕ → X → X → Type 0) (olds news : List X) (i : ℕ) → Upto R i olds news → length news ≤ i → (j : ℕ) (y : X) → slice_get news j ≡ Some y → (x : X) × (slice_get olds j ≡ Some x) × R j x y
each_was R olds news i upto past j y new =
    let many = upto.many in
    let within = slice_get_within news j y new in
    let old = item_at olds j (omega arith) in
    (old.0, old.1, all_changed R olds news i upto (omega arith) j old.0 y old.1 new)
