-- Shares of lists that grow at either end.
use Rattle.std.proofs.Common.{◌≡◌, ℕ, zero, suc, ◌+◌, ◌%◌, ◌<◌, inl, inr, Bool, true, false, List, [], ◌∷◌, ◌++◌, length, reverse, set, refl, sym, ◌∙◌, ap, subst, arith, eq-eqb, ne_eqb, length-append, length-set}
use Rattle.std.specs.Prelude.{if◌then◌else◌, Some, slice_get}
use Rattle.std.proofs.lemmas.Bool.{cases_eq}
use Rattle.std.proofs.lemmas.Option.{slice_get_within}
use Rattle.std.proofs.lemmas.List.{append-nil, length-reverse, reverse-append, nil_from_length}
use Rattle.lid_base.specs.Each.{from_each}
use Rattle.lid_shell.specs.declared.actor.Actor.{Actor}
use Rattle.lid_free_crew.specs.declared.worker.Worker.{Worker}
use Rattle.lid_free_crew.specs.Shares.{is_own, picked, share, numbers_of}
use Rattle.lid_free_crew.specs.Crews.{IsSameBut, AreDealt, AreBack}
use Rattle.lid_base.proofs.Places.{set_here, set_there, item_at}

pub picked_snoc : {A : Type 0} (p : ℕ → Bool) (k : ℕ) (xs : List A) (y : A) → picked p k (xs ++ y ∷ []) ≡ picked p k xs ++ (if p (k + length xs) then y ∷ [] else [])
picked_snoc p k [] y = let e : k ≡ k + 0 = omega arith in ap (λ (n : ℕ). if p n then y ∷ [] else []) e
picked_snoc p k (x ∷ xs) y =
    let e : suc k + length xs ≡ k + suc (length xs) = omega arith in
    by_first (p k) (picked_snoc p (suc k) xs y ∙ ap (λ (n : ℕ). picked p (suc k) xs ++ (if p n then y ∷ [] else [])) e)
  where
    by_first : (b : Bool) → picked p (suc k) (xs ++ y ∷ []) ≡ picked p (suc k) xs ++ (if p (k + suc (length xs)) then y ∷ [] else [])
        → (if b then x ∷ picked p (suc k) (xs ++ y ∷ []) else picked p (suc k) (xs ++ y ∷ []))
        ≡ (if b then x ∷ picked p (suc k) xs else picked p (suc k) xs) ++ (if p (k + suc (length xs)) then y ∷ [] else [])
    by_first true later = ap (λ (l : List _). x ∷ l) later
    by_first false later = later

-- one element more falls to one worker alone
pub share_mine : {A : Type 0} (workers i : ℕ) (xs : List A) (y : A) → length xs % workers ≡ i → share workers i (xs ++ y ∷ []) ≡ share workers i xs ++ y ∷ []
share_mine workers i xs y mine =
    let e : 0 + length xs ≡ length xs = omega arith in
    picked_snoc (is_own workers i) 0 xs y ∙ ap (λ (n : ℕ). share workers i xs ++ (if is_own workers i n then y ∷ [] else [])) e
    ∙ ap (λ (b : Bool). share workers i xs ++ (if b then y ∷ [] else [])) (eq-eqb (length xs % workers) i mine)

pub share_other : {A : Type 0} (workers i : ℕ) (xs : List A) (y : A) → (length xs % workers ≡ i → ⊥) → share workers i (xs ++ y ∷ []) ≡ share workers i xs
share_other workers i xs y other =
    let e : 0 + length xs ≡ length xs = omega arith in
    picked_snoc (is_own workers i) 0 xs y ∙ ap (λ (n : ℕ). share workers i xs ++ (if is_own workers i n then y ∷ [] else [])) e
    ∙ ap (λ (b : Bool). share workers i xs ++ (if b then y ∷ [] else [])) (ne_eqb (length xs % workers) i other)
    ∙ append-nil (share workers i xs)

same_then : (w x y : Worker) → IsSameBut w x → IsSameBut x y → IsSameBut w y
same_then w x y one two = record { number = two.number ∙ one.number; hand = two.hand ∙ one.hand; tally = two.tally ∙ one.tally }

-- one more
pub dealt_more : (actors : List Actor) (a : Actor) (old now : List Worker) (k : ℕ) (w x : Worker) → AreDealt actors old now
    → slice_get now k ≡ Some w → k ≡ length actors % length old → IsSameBut w x → x.actors.items ≡ w.actors.items ++ a ∷ [] → AreDealt (actors ++ a ∷ []) old (set now k x)
dealt_more actors a old now k w x dealt at_k is same pushed = record {
  many = length-set now k x ∙ dealt.many;
  each = λ i u y at_u at_y.
      elim (cases_eq i k) [
        | inl here ↦
            (let is_x : x ≡ y = set_here now k x y (subst (λ (n : ℕ). slice_get (set now k x) n ≡ Some y) here at_y) in
            let was = dealt.each k u w (subst (λ (n : ℕ). slice_get old n ≡ Some u) here at_u) at_k in
            let mine = share_mine (length old) k actors a (sym is) in
            subst (λ (z : Worker). IsSameBut u z × (z.actors.items ≡ share (length old) i (actors ++ a ∷ []))) is_x
            (same_then u w x was.0 same, pushed ∙ ap (λ (l : List Actor). l ++ a ∷ []) was.1 ∙ sym mine ∙ ap (λ (n : ℕ). share (length old) n (actors ++ a ∷ [])) (sym here)))
        | inr there ↦
            (let was = dealt.each i u y at_u (sym (set_there now k i x there) ∙ at_y) in
            (was.0, was.1 ∙ sym (share_other (length old) i actors a (λ e. there (sym e ∙ sym is)))))
      ];
}

-- how many numbers fall to a worker
each_length : (k n : ℕ) → length (from_each (λ v. v) k n) ≡ n
each_length k zero = refl
each_length k (suc n) = let e = each_length (k + 1) n in omega arith

each_snoc : (k n : ℕ) → from_each (λ v. v) k (suc n) ≡ from_each (λ v. v) k n ++ (k + n) ∷ []
each_snoc k zero = let e : k ≡ k + 0 = omega arith in ap (λ (x : ℕ). x ∷ []) e
each_snoc k (suc n) = let e : (k + 1) + n ≡ k + suc n = omega arith in ap (λ (l : List ℕ). k ∷ l) (each_snoc (k + 1) n ∙ ap (λ (x : ℕ). from_each (λ v. v) (k + 1) n ++ x ∷ []) e)

pub numbers_mine : (workers n : ℕ) → numbers_of workers (n % workers) (suc n) ≡ numbers_of workers (n % workers) n ++ n ∷ []
numbers_mine workers n =
    let z : 0 + n ≡ n = omega arith in
    ap (share workers (n % workers)) (each_snoc 0 n) ∙ share_mine workers (n % workers) (from_each (λ v. v) 0 n) (0 + n) (ap (λ (m : ℕ). m % workers) (each_length 0 n))
    ∙ ap (λ (m : ℕ). numbers_of workers (n % workers) n ++ m ∷ []) z

pub numbers_other : (workers i n : ℕ) → (n % workers ≡ i → ⊥) → numbers_of workers i (suc n) ≡ numbers_of workers i n
numbers_other workers i n other =
    ap (share workers i) (each_snoc 0 n) ∙ share_other workers i (from_each (λ v. v) 0 n) (0 + n) (λ e. other (ap (λ (m : ℕ). m % workers) (sym (each_length 0 n)) ∙ e))

-- the last actors were given back, from a number on
pub record AreBackFrom (left many : ℕ) (into : List Actor) (old now : List Worker) : Type 0 where
  pub many_are : left + length into ≡ many
  pub crew_many : length now ≡ length old
  pub each :
      (i : ℕ) (w x : Worker) → slice_get old i ≡ Some w → slice_get now i ≡ Some x
      → IsSameBut w x × (x.actors.items ++ picked (is_own (length old) i) left (reverse into) ≡ w.actors.items) × (length x.actors.items ≡ length (numbers_of (length old) i left))

front : {A : Type 0} (p : ℕ → Bool) (n : ℕ) (x : A) (xs : List A) (b : Bool) → p n ≡ b → picked p n (x ∷ xs) ≡ (if b then x ∷ picked p (suc n) xs else picked p (suc n) xs)
front p n x xs b is = ap (λ (c : Bool). if c then x ∷ picked p (suc n) xs else picked p (suc n) xs) is

snoc_cons : {A : Type 0} (xs : List A) (y : A) (ys : List A) → xs ++ y ∷ ys ≡ (xs ++ y ∷ []) ++ ys
snoc_cons [] y ys = refl
snoc_cons (x ∷ xs) y ys = ap (λ (l : List _). x ∷ l) (snoc_cons xs y ys)

-- one actor more was given back
module _ (n many : ℕ) (into : List Actor) (old now : List Worker) (back : AreBackFrom (suc n) many into old now) (k : ℕ) (w x : Worker)
    (at_k : slice_get now k ≡ Some w) (is : k ≡ n % length old) where
  -- there is one
  pub some_left : (0 < length w.actors.items)
  some_left =
      let within = slice_get_within now k w at_k in
      let same = back.crew_many in
      let (u, at_u) = item_at old k (omega arith) in
      let was = back.each k u w at_u at_k in
      let mine = ap (length {A = ℕ}) (ap (λ (m : ℕ). numbers_of (length old) m (suc n)) is ∙ numbers_mine (length old) n) in
      let long = length-append (numbers_of (length old) (n % length old) n) (n ∷ []) in
      let count = was.2 in
      omega arith

  pub back_more : (a : Actor) → IsSameBut w x → w.actors.items ≡ x.actors.items ++ a ∷ [] → AreBackFrom n many (into ++ a ∷ []) old (set now k x)
  back_more a same popped = record {
    many_are = let e = length-append into (a ∷ []) in let m = back.many_are in omega arith;
    crew_many = length-set now k x ∙ back.crew_many;
    each = λ i u y at_u at_y.
        let turned : reverse (into ++ a ∷ []) ≡ a ∷ reverse into = reverse-append into (a ∷ []) in
        elim (cases_eq i k) [
          | inl here ↦
              (let is_x : x ≡ y = set_here now k x y (subst (λ (m : ℕ). slice_get (set now k x) m ≡ Some y) here at_y) in
              let was = back.each i u w at_u (subst (λ (m : ℕ). slice_get now m ≡ Some w) (sym here) at_k) in
              let own : is_own (length old) i n ≡ true = eq-eqb (n % length old) i (sym is ∙ sym here) in
              let parts = ap (λ (l : List Actor). x.actors.items ++ picked (is_own (length old) i) n l) turned
              ∙ ap (λ (l : List Actor). x.actors.items ++ l) (front (is_own (length old) i) n a (reverse into) true own)
              ∙ snoc_cons x.actors.items a (picked (is_own (length old) i) (suc n) (reverse into))
              ∙ ap (λ (l : List Actor). l ++ picked (is_own (length old) i) (suc n) (reverse into)) (sym popped) ∙ was.1 in
              let mine = ap (length {A = ℕ}) (ap (λ (m : ℕ). numbers_of (length old) m (suc n)) (here ∙ is) ∙ numbers_mine (length old) n) in
              let long = length-append (numbers_of (length old) (n % length old) n) (n ∷ []) in
              let count = was.2 in
              let less = ap (length {A = Actor}) popped ∙ length-append x.actors.items (a ∷ []) in
              let one = ap (λ (m : ℕ). length (numbers_of (length old) m n)) (here ∙ is) in
              let rest : length x.actors.items ≡ length (numbers_of (length old) i n) = omega arith in
              subst (λ (z : Worker). IsSameBut u z × (z.actors.items ++ picked (is_own (length old) i) n (reverse (into ++ a ∷ [])) ≡ u.actors.items) × (length z.actors.items ≡ length (numbers_of (length old) i n))) is_x
              (same_then u w x was.0 same, parts, rest))
          | inr there ↦
              (let was = back.each i u y at_u (sym (set_there now k i x there) ∙ at_y) in
              let own : is_own (length old) i n ≡ false = ne_eqb (n % length old) i (λ e. there (sym e ∙ sym is)) in (
                was.0,
                ap (λ (l : List Actor). y.actors.items ++ picked (is_own (length old) i) n l) turned
                    ∙ ap (λ (l : List Actor). y.actors.items ++ l) (front (is_own (length old) i) n a (reverse into) false own) ∙ was.1,
                was.2 ∙ ap (length {A = ℕ}) (numbers_other (length old) i n (λ e. there (sym e ∙ sym is))),
              ))
        ];
  }

-- all were given back
pub all_back : (many : ℕ) (into actors : List Actor) (old now : List Worker) → AreBackFrom 0 many into old now → actors ≡ reverse into → AreBack many actors old now
all_back many into actors old now back turned = record {
  many_are = ap length turned ∙ length-reverse into ∙ (let e = back.many_are in let f : length into ≡ many = omega arith in f);
  crew_many = back.crew_many;
  each = λ i w x at_w at_x.
      let was = back.each i w x at_w at_x in
      let none = nil_from_length x.actors.items was.2 in
      (was.0, ap (share (length old) i) turned ∙ sym (ap (λ (l : List Actor). l ++ picked (is_own (length old) i) 0 (reverse into)) none) ∙ was.1);
}
