-- Lists that were written, made of others, or grew at their end.
use Rattle.std.proofs.Common.{◌≡◌, ℕ, zero, suc, ◌+◌, inl, inr, List, [], ◌∷◌, ◌++◌, length, map, set, ◌<◌, length-append, refl, sym, ◌∙◌, ap, subst, arith}
use Rattle.std.specs.Prelude.{Some, slice_get}
use Rattle.std.proofs.lemmas.Option.{same_Some}
use Rattle.lid_board.specs.declared.board.Board.{Board}
use Rattle.lid_board.specs.Views.{EndTable}
use Rattle.lid_base.proofs.Places.{get_push}
use Rattle.lid_free_crew.specs.Crews.{IsHired, AreHired}
use Rattle.lid_free_crew.specs.declared.worker.Worker.{Worker}

-- the element that was written stands there
pub set_at : {X : Type 0} (xs : List X) (i : ℕ) (x : X) → i < length xs → slice_get (set xs i x) i ≡ Some x
set_at [] i x within = absurd (omega (arith, within))
set_at (y ∷ xs) zero x within = refl
set_at (y ∷ xs) (suc i) x within = set_at xs i x (omega (arith, within))

-- a list that has at each place what a function makes of the element there is what it makes of them all
pub mapped : {A B : Type 0} (f : A → B) (xs : List A) (ys : List B) → length ys ≡ length xs → ((i : ℕ) (x : A) → slice_get xs i ≡ Some x → slice_get ys i ≡ Some (f x)) → ys ≡ map f xs
mapped f [] [] long each = refl
mapped f [] (y ∷ ys) long each = absurd (omega (arith, long))
mapped f (x ∷ xs) [] long each = absurd (omega (arith, long))
mapped f (x ∷ xs) (y ∷ ys) long each =
    ap (λ (z : _). z ∷ ys) (same_Some y (f x) (each 0 x refl)) ∙ ap (λ (l : List _). f x ∷ l) (mapped f xs ys (omega (arith, long)) (λ i a at_a. each (suc i) a at_a))

-- one worker more
pub hired_more : (board : Board) (workers : ℕ) (owners : List ℕ) (all : EndTable) (many : ℕ) (old new : List Worker) (w : Worker)
    → AreHired board workers owners all many old → IsHired board workers owners all many w → new ≡ old ++ w ∷ [] → AreHired board workers owners all (many + 1) new
hired_more board workers owners all many old new w so one pushed = record {
  many_are = ap length pushed ∙ length-append old (w ∷ []) ∙ ap (λ (n : ℕ). n + 1) so.many_are;
  each = λ i x at.
      elim (get_push old w i x (ap (λ (l : List Worker). slice_get l i) (sym pushed) ∙ at)) [
        | inl h ↦ so.each i x h
        | inr h ↦ subst (λ (n : ℕ). IsHired board workers owners all n x) (sym (h.0 ∙ so.many_are)) (subst (λ (y : Worker). IsHired board workers owners all many y) (sym h.1) one)
      ];
}
