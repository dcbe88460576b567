-- Lists that grow by one item of a number, and states that move by one draw.
use Rattle.std.proofs.Common.{◌≡◌, ℕ, suc, ◌+◌, ◌*◌, List, [], ◌∷◌, ◌++◌, sym, ◌∙◌, ap, arith}
use Rattle.lid_base.specs.Each.{from_each}
use Rattle.lid_gen.specs.Draws.{moved, state_after}
use Rattle.lid_base.proofs.Each.{each_one_more}

-- an item that was pushed
pub each_pushed : {A : Type 0} (f : ℕ → A) (n : ℕ) (old new : List A) (x : A) → old ≡ from_each f 0 n → new ≡ old ++ x ∷ [] → x ≡ f n → new ≡ from_each f 0 (n + 1)
each_pushed {A} f n old new x was pushed is =
    pushed ∙ ap (λ (xs : List A). xs ++ x ∷ []) was ∙ ap (λ (y : A). from_each f 0 n ++ y ∷ []) is ∙ sym (each_one_more f n)

-- the state after a draw more
pub after_next : (k s : ℕ) → state_after (k + 1) s ≡ moved (state_after k s)
unfolding state_after
after_next k s = let e : k + 1 ≡ suc k = omega arith in ap (λ (n : ℕ). state_after n s) e

-- the state after both of two draws of a turn
pub after_two : (k s : ℕ) → state_after (2 * (k + 1)) s ≡ moved (moved (state_after (2 * k) s))
unfolding state_after
after_two k s = let e : 2 * (k + 1) ≡ suc (suc (2 * k)) = omega arith in ap (λ (n : ℕ). state_after n s) e

-- the state after all of four draws of a turn
pub after_four : (k s : ℕ) → state_after (4 * (k + 1)) s ≡ state_after 4 (state_after (4 * k) s)
unfolding state_after
after_four k s = let e : 4 * (k + 1) ≡ suc (suc (suc (suc (4 * k)))) = omega arith in ap (λ (n : ℕ). state_after n s) e
