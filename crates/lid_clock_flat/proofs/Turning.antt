-- Loops that turn each element of a list from one thing to another, in order.
use Rattle.std.proofs.Common.{◌≡◌, ℕ, ◌+◌, ◌<◌, ◌≤◌, List, set, sym, ◌∙◌, subst, arith}
use Rattle.std.specs.Prelude.{Some, slice_get}
use Rattle.lid_base.proofs.Places.{set_here, set_there}
use mathlib.Core.Logic.{dite}
use native.Mathlib.Decide.{ℕ_discrete}

-- elements before place i are P, the others still Q
pub record Turned {X : Type 0} (P Q : ℕ → X → Type 0) (i : ℕ) (xs : List X) : Type 0 where
  pub before : (j : ℕ) (x : X) → j < i → slice_get xs j ≡ Some x → P j x
  pub after : (j : ℕ) (x : X) → i ≤ j → slice_get xs j ≡ Some x → Q j x

pub one_turned : {X : Type 0} (P Q : ℕ → X → Type 0) (i : ℕ) (xs : List X) (y : X) → Turned P Q i xs → P i y → Turned P Q (i + 1) (set xs i y)
one_turned P Q i xs y turned is = record {
  before = λ j x less at.
      dite (ℕ_discrete j i)
      (λ same. subst (λ n. P n x) (sym same) (subst (P i) (set_here xs i y x (subst (λ n. slice_get (set xs i y) n ≡ Some x) same at)) is))
      (λ other. turned.before j x (omega arith) (sym (set_there xs i j y other) ∙ at));
  after = λ j x from at. turned.after j x (omega arith) (sym (set_there xs i j y (λ same. omega arith)) ∙ at);
}
