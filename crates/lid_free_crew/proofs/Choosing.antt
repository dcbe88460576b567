-- Which ends fall to a worker, and what hands have once they are given.
use Rattle.std.proofs.Common.{◌≡◌, ℕ, ◌+◌, ◌<◌, ◌≤◌, ◌==◌, ◌&&◌, ◌||◌, nat_lt, inl, inr, Bool, true, false, cond, List, [], ◌∷◌, ◌++◌, length, get_or, refl, sym, ◌∙◌, ap, arith, eq-eqb, ne_eqb, lt-ltb, le-ltb}
use Rattle.std.specs.Prelude.{if◌then◌else◌, Option, Some, None, option_map}
use Rattle.std.proofs.lemmas.Bool.{cases_lt, cases_eq}
use Rattle.std.proofs.lemmas.List.{get_or_past}
use Rattle.std.proofs.Math.Nat.{mod-lt}
use Rattle.lid_station.specs.declared.looks.End.{End}
use Rattle.lid_board.specs.Owners.{IsOwned, ends_of}
use Rattle.lid_board.specs.Parting.{end_number, is_chosen, unseen}
use Rattle.lid_board.specs.Views.{EndTable, at, held_of}
use Rattle.lid_board.specs.declared.hand.Hand.{Hand}
use Rattle.lid_board.specs.declared.view.EndFacts.{EndFacts}
use Rattle.lid_free_crew.specs.Shares.{holder}
use Rattle.lid_free_crew.specs.Crews.{AreUnseen, HasShare, HasGivenEnds}

chosen_append : (xs ys : List End) (e : ℕ) → is_chosen (xs ++ ys) e ≡ (is_chosen xs e || is_chosen ys e)
chosen_append [] ys e = refl
chosen_append (x ∷ xs) ys e = by_first (end_number x == e) (chosen_append xs ys e)
  where
    by_first : (b : Bool) → is_chosen (xs ++ ys) e ≡ (is_chosen xs e || is_chosen ys e) → (b || is_chosen (xs ++ ys) e) ≡ ((b || is_chosen xs e) || is_chosen ys e)
    by_first true later = refl
    by_first false later = later

-- what is not the next number is below it where it is below the one before
same_side : (k n : ℕ) → (k ≡ n → ⊥) → nat_lt k n ≡ nat_lt k (n + 1)
same_side k n other =
    elim (cases_lt k n) [
      | inl low ↦ lt-ltb k n low ∙ sym (lt-ltb k (n + 1) (omega (arith, low)))
      | inr high ↦ le-ltb k n high ∙ sym (le-ltb k (n + 1) (omega (arith, high, other)))
    ]

-- one end more was looked at
module _ (owners : List ℕ) (workers number end : ℕ) (old new : List End) (x : End) (passes : Bool)
    (was : (e : ℕ) → is_chosen old e ≡ (nat_lt e end && holder workers owners e == number))
    (pushed : new ≡ old ++ (if passes then x ∷ [] else []))
    (is_end : end_number x ≡ end) (test : passes ≡ (holder workers owners end == number)) where
  at_end : (b : Bool) → is_chosen (if b then x ∷ [] else []) end ≡ b
  at_end true = ap (λ (c : Bool). c || false) (eq-eqb (end_number x) end is_end)
  at_end false = refl

  not_end : (e : ℕ) → (e ≡ end → ⊥) → (b : Bool) → is_chosen (if b then x ∷ [] else []) e ≡ false
  not_end e other true = ap (λ (c : Bool). c || false) (ne_eqb (end_number x) e (λ is. other (sym is ∙ is_end)))
  not_end e other false = refl

  or_false : (b : Bool) → (b || false) ≡ b
  or_false true = refl
  or_false false = refl

  pub chosen_more : (e : ℕ) → is_chosen new e ≡ (nat_lt e (end + 1) && holder workers owners e == number)
  chosen_more e =
      ap (λ (l : List End). is_chosen l e) pushed ∙ chosen_append old (if passes then x ∷ [] else []) e
      ∙ elim (cases_eq e end) [
        | inl same ↦
            ap (λ (b : Bool). b || is_chosen (if passes then x ∷ [] else []) e) (was e ∙ ap (λ (b : Bool). b && holder workers owners e == number) (le-ltb e end (omega (arith, same))))
            ∙ ap (λ (n : ℕ). is_chosen (if passes then x ∷ [] else []) n) same ∙ at_end passes ∙ test
            ∙ ap (λ (n : ℕ). holder workers owners n == number) (sym same)
            ∙ ap (λ (b : Bool). b && holder workers owners e == number) (sym (lt-ltb e (end + 1) (omega (arith, same))))
        | inr other ↦
            ap (λ (b : Bool). is_chosen old e || b) (not_end e other passes) ∙ or_false (is_chosen old e) ∙ was e
            ∙ ap (λ (b : Bool). b && holder workers owners e == number) (same_side e end other)
      ]

pub none_chosen : (e number : ℕ) (owners : List ℕ) (workers : ℕ) → is_chosen [] e ≡ (nat_lt e 0 && holder workers owners e == number)
none_chosen e number owners workers = sym (ap (λ (b : Bool). b && holder workers owners e == number) (le-ltb e 0 (omega arith)))

-- the ends of one worker were cut off
module _ (owners : List ℕ) (workers number : ℕ) (all : EndTable) (ends : List End)
    (many : length owners ≡ length all) (none_seen : AreUnseen all)
    (chosen : (e : ℕ) → is_chosen ends e ≡ (nat_lt e (length owners) && holder workers owners e == number)) where
  -- an end that falls to the worker
  here : (e : ℕ) → e < length owners → holder workers owners e ≡ number → is_chosen ends e ≡ true
  here e low is =
      chosen e ∙ ap (λ (b : Bool). b && holder workers owners e == number) (lt-ltb e (length owners) low) ∙ eq-eqb (holder workers owners e) number is

  elsewhere : (e : ℕ) → (holder workers owners e ≡ number → ⊥) → is_chosen ends e ≡ false
  elsewhere e other =
      chosen e ∙ ap (λ (b : Bool). nat_lt e (length owners) && b) (ne_eqb (holder workers owners e) number other) ∙ and_false (nat_lt e (length owners))
    where
      and_false : (b : Bool) → (b && false) ≡ false
      and_false true = refl
      and_false false = refl

  beyond : (e : ℕ) → length owners ≤ e → is_chosen ends e ≡ false
  beyond e high = chosen e ∙ ap (λ (b : Bool). b && holder workers owners e == number) (le-ltb e (length owners) high)

  unseen_same : (o : Option EndFacts) → ((h : EndFacts) → o ≡ Some h → unseen h ≡ h) → option_map unseen o ≡ o
  unseen_same None same = refl
  unseen_same (Some h) same = ap (λ (x : EndFacts). Some x) (same h refl)

  none_either : (b : Bool) (o : Option EndFacts) → o ≡ None → cond b o None ≡ None
  none_either true o none = none
  none_either false o none = refl

  none_or : (b : Bool) (o : Option EndFacts) → o ≡ None → cond b None o ≡ None
  none_or true o none = refl
  none_or false o none = none

  module _ (old new given : Hand) (was : HasGivenEnds workers owners all number old)
      (kept : (e : ℕ) → at (ends_of new) e ≡ cond (is_chosen ends e) None (at (ends_of old) e))
      (gave : (e : ℕ) → at (ends_of given) e ≡ cond (is_chosen ends e) (option_map unseen (at (ends_of old) e)) None) where
    still : (e : ℕ) → number ≤ holder workers owners e → at (ends_of old) e ≡ at all e
    still e high = was e ∙ ap (λ (b : Bool). cond b None (at all e)) (le-ltb (holder workers owners e) number high)

    pub share_given : HasShare workers owners all number given
    share_given e =
        elim (cases_eq (holder workers owners e) number) [
          | inl is ↦
              elim (cases_lt e (length owners)) [
                | inl low ↦
                    gave e ∙ ap (λ (b : Bool). cond b (option_map unseen (at (ends_of old) e)) None) (here e low is)
                    ∙ ap (option_map unseen) (still e (omega (arith, is))) ∙ unseen_same (at all e) (none_seen e)
                    ∙ sym (ap (λ (b : Bool). cond b (at all e) None) (eq-eqb (holder workers owners e) number is))
                | inr high ↦
                    gave e ∙ ap (λ (b : Bool). cond b (option_map unseen (at (ends_of old) e)) None) (beyond e high)
                    ∙ sym (none_either (holder workers owners e == number) (at all e) (get_or_past all e None (omega (arith, high, many))))
              ]
          | inr other ↦
              gave e ∙ ap (λ (b : Bool). cond b (option_map unseen (at (ends_of old) e)) None) (elsewhere e other)
              ∙ sym (ap (λ (b : Bool). cond b (at all e) None) (ne_eqb (holder workers owners e) number other))
        ]

    pub given_more : HasGivenEnds workers owners all (number + 1) new
    given_more e =
        elim (cases_eq (holder workers owners e) number) [
          | inl is ↦
              elim (cases_lt e (length owners)) [
                | inl low ↦
                    kept e ∙ ap (λ (b : Bool). cond b None (at (ends_of old) e)) (here e low is)
                    ∙ sym (ap (λ (b : Bool). cond b None (at all e)) (lt-ltb (holder workers owners e) (number + 1) (omega (arith, is))))
                | inr high ↦
                    kept e ∙ ap (λ (b : Bool). cond b None (at (ends_of old) e)) (beyond e high)
                    ∙ still e (omega (arith, is)) ∙ get_or_past all e None (omega (arith, high, many))
                    ∙ sym (none_or (nat_lt (holder workers owners e) (number + 1)) (at all e) (get_or_past all e None (omega (arith, high, many))))
              ]
          | inr other ↦
              kept e ∙ ap (λ (b : Bool). cond b None (at (ends_of old) e)) (elsewhere e other) ∙ was e
              ∙ ap (λ (b : Bool). cond b None (at all e)) (same_side (holder workers owners e) number other)
        ]

  -- the ends to be cut off are owned
  pub owned : (old : Hand) → HasGivenEnds workers owners all number old → ((e : ℕ) → e < length all → IsOwned all e)
      → (e : ℕ) → is_chosen ends e ≡ true → IsOwned (ends_of old) e
  owned old was there e is =
      elim (cases_lt e (length owners)) [
        | inl low ↦
            elim (cases_eq (holder workers owners e) number) [
              | inl mine ↦
                  (let same : at (ends_of old) e ≡ at all e = was e ∙ ap (λ (b : Bool). cond b None (at all e)) (le-ltb (holder workers owners e) number (omega (arith, mine))) in
                  let own : IsOwned all e = there e (omega (arith, low, many)) in
                  same ∙ own ∙ ap (λ (o : Option EndFacts). Some (held_of o)) (sym same))
              | inr other ↦ absurd (let e_ = sym (elsewhere e other) ∙ is in cc)
            ]
        | inr high ↦ absurd (let e_ = sym (beyond e high) ∙ is in cc)
      ]

-- no end was given yet, and all were
pub none_given : (owners : List ℕ) (workers : ℕ) (all : EndTable) (hand : Hand) → ends_of hand ≡ all → HasGivenEnds workers owners all 0 hand
none_given owners workers all hand same e =
    ap (λ (x : EndTable). at x e) same ∙ sym (ap (λ (b : Bool). cond b None (at all e)) (le-ltb (holder workers owners e) 0 (omega arith)))

pub all_given : (owners : List ℕ) (workers : ℕ) (all : EndTable) (hand : Hand) → 0 < workers → HasGivenEnds workers owners all workers hand → (e : ℕ) → at (ends_of hand) e ≡ None
all_given owners workers all hand some given e =
    given e ∙ ap (λ (b : Bool). cond b None (at all e)) (lt-ltb (holder workers owners e) workers (mod-lt (get_or owners e 0) some))
