-- What is reached from the starts, along an order.
use Rattle.std.proofs.Common.{◌≡◌, ℕ, zero, suc, ◌+◌, ◌<◌, ◌≢◌, ◌⊎◌, inl, inr, ◌↔◌, Bool, true, false, List, length, get_or, set, take, refl, sym, ◌∙◌, ap, subst, arith}
use Rattle.std.specs.Bool.{MatchBool}
use Rattle.std.proofs.lemmas.Bool.{cases_eq}
use Rattle.lid_base.specs.Lists.{Among}
use Rattle.lid_check_digraph.specs.Graphs.{reads_at, flag, WalkPast, IsReached}
use Rattle.lid_check_digraph.proofs.Lists.{index_take, among_take, flag_here}

module _ (g : List (List ℕ)) (cut starts : List Bool) where
  pub reached_start : (k : ℕ) → flag starts k ≡ true → IsReached g cut starts k
  reached_start k on = (k, on, (0, refl))

  pub reached_edge : (k b : ℕ) → flag cut k ≡ false → Among b (reads_at g k) → IsReached g cut starts b → IsReached g cut starts k
  reached_edge k b free h from = (from.0, from.1, (suc from.2.0, (b, from.2.1, h, free)))

  pub reached_cases : (k : ℕ) → IsReached g cut starts k → (flag starts k ≡ true) ⊎ ((flag cut k ≡ false) × (b : ℕ) × Among b (reads_at g k) × IsReached g cut starts b)
  reached_cases k from = by_length from.2.0 from.2.1
    where
      by_length : (n : ℕ) → WalkPast g cut n from.0 k → (flag starts k ≡ true) ⊎ ((flag cut k ≡ false) × (b : ℕ) × Among b (reads_at g k) × IsReached g cut starts b)
      by_length zero w = inl (ap (λ (x : ℕ). flag starts x) (sym w) ∙ from.1)
      by_length (suc n) w = inr (w.3, w.0, w.2, (from.0, from.1, (n, w.1)))

  pub set_true : (k : ℕ) (reached : List Bool) → k < length reached → (now : Bool) → now ≡ true → IsReached g cut starts k → (flag (set reached k now) k ≡ true) ↔ IsReached g cut starts k
  set_true k reached within now e from = (λ _. from, λ _. flag_here reached k now within ∙ e)

  pub set_false : (k : ℕ) (reached : List Bool) → k < length reached → (now : Bool) → now ≡ false → (IsReached g cut starts k → ⊥) → (flag (set reached k now) k ≡ true) ↔ IsReached g cut starts k
  set_false k reached within now e none = (λ on. absurd (let off : flag (set reached k now) k ≡ false = flag_here reached k now within ∙ e in cc), λ from. absurd (none from))

  module _ (k : ℕ) (reached : List Bool) (earlier : (b : ℕ) → Among b (reads_at g k) → (flag reached b ≡ true) ↔ IsReached g cut starts b) where
    pub reached_no : flag starts k ≡ false → (flag cut k ≡ true) ⊎ ((b : ℕ) → Among b (reads_at g k) → flag reached b ≡ false) → IsReached g cut starts k → ⊥
    reached_no off shut from = by_case (reached_cases k from) shut
      where
        by_case : (flag starts k ≡ true) ⊎ ((flag cut k ≡ false) × (b : ℕ) × Among b (reads_at g k) × IsReached g cut starts b) → (flag cut k ≡ true) ⊎ ((b : ℕ) → Among b (reads_at g k) → flag reached b ≡ false) → ⊥
        by_case (inl on) shut = cc
        by_case (inr step) (inl closed) = let free = step.0 in cc
        by_case (inr step) (inr none) = let on = (earlier step.1 step.2).1 step.3 in let no = none step.1 step.2 in cc

    pub reached_some : flag cut k ≡ false → (b : ℕ) × Among b (reads_at g k) × (flag reached b ≡ true) → IsReached g cut starts k
    reached_some free some = reached_edge k some.0 free some.1 ((earlier some.0 some.1).0 some.2)

    -- by what the program tests
    pub reached_any : k < length reached → (row : List ℕ) → row ≡ reads_at g k → flag starts k ≡ false → flag cut k ≡ false → (any : Bool) → MatchBool any ((b : ℕ) × Among b row × (flag reached b ≡ true)) ((b : ℕ) → Among b row → flag reached b ≡ false) → (now : Bool) → now ≡ any → (flag (set reached k now) k ≡ true) ↔ IsReached g cut starts k
    reached_any within row is off free true says now e = set_true k reached within now e (reached_some free (subst (λ (xs : List ℕ). (b : ℕ) × Among b xs × (flag reached b ≡ true)) is says))
    reached_any within row is off free false says now e = set_false k reached within now e (reached_no off (inr (subst (λ (xs : List ℕ). (b : ℕ) → Among b xs → flag reached b ≡ false) is says)))

  -- one number more of the order
  pub reached_more : (order : List ℕ) (i : ℕ) (old new : List Bool) → ((c : ℕ) → Among c (take i order) → (flag old c ≡ true) ↔ IsReached g cut starts c) → ((flag new (get_or order i 0) ≡ true) ↔ IsReached g cut starts (get_or order i 0)) → ((c : ℕ) → (c ≡ get_or order i 0 → ⊥) → flag new c ≡ flag old c) → (c : ℕ) → Among c (take (i + 1) order) → (flag new c ≡ true) ↔ IsReached g cut starts c
  reached_more order i old new before here others c h = by_number (cases_eq c (get_or order i 0))
    where
      in_front : c ≢ get_or order i 0 → Among c (take i order)
      in_front other =
          let at = index_take c (i + 1) order h in
          by_place at.0 at.1 at.2 at.3 other (cases_eq at.0 i)
        where
          by_place : (j : ℕ) → j < i + 1 → j < length order → get_or order j 0 ≡ c → c ≢ get_or order i 0 → (j ≡ i) ⊎ (j ≢ i) → Among c (take i order)
          by_place j less l e other (inl is) = absurd (other (sym e ∙ ap (λ (n : ℕ). get_or order n 0) is))
          by_place j less l e other (inr before_it) = subst (λ (x : ℕ). Among x (take i order)) e (among_take order j i (omega arith) l)

      by_number : (c ≡ get_or order i 0) ⊎ (c ≢ get_or order i 0) → (flag new c ≡ true) ↔ IsReached g cut starts c
      by_number (inl is) = subst (λ (x : ℕ). (flag new x ≡ true) ↔ IsReached g cut starts x) (sym is) here
      by_number (inr other) = subst (λ (b : Bool). (b ≡ true) ↔ IsReached g cut starts c) (sym (others c other)) (before c (in_front other))
