-- The numbers that a hand keeps, where ends go from hand to hand.
use Rattle.std.proofs.Common.{◌≡◌, ℕ, zero, suc, ◌+◌, ◌/◌, ◌<◌, ◌≤◌, ◌==◌, ◌||◌, cond, nat_lt, Bool, true, false, List, [], ◌∷◌, ◌++◌, length, get_or, take, drop, set, refl, sym, ◌∙◌, ap, subst, arith, eq-eqb, ne_eqb, lt-ltb, le-ltb, lt_of_not-le, get_or-set_same, get_or-set_other}
use Rattle.std.specs.Prelude.{Option, Some, None, option_map}
use Rattle.std.proofs.lemmas.Option.{same_Some}
use Rattle.lid_station.specs.declared.looks.End.{End}
use Rattle.lid_board.specs.Parting.{end_number, is_chosen, or_else, unseen, left_from, right_from, merged_ends}
use Rattle.lid_board.specs.Relation.{AreWithin, stream_of}
use Rattle.lid_board.specs.Ties.{IsTied}
use Rattle.lid_board.specs.Views.{EndTable, at, sure, IsEarly}
use Rattle.lid_board.specs.declared.view.EndFacts.{EndFacts}
use Rattle.lid_board.proofs.Parting.{at_left, at_right, at_merged}
use mathlib.Core.Logic.{dite}
use native.Mathlib.Decide.{ℕ_discrete, dec_le}
use Rattle.lid_base.proofs.Lists.{refilled}

or_true : (b : Bool) → (b || true) ≡ true
or_true true = refl
or_true false = refl

or-false : (b : Bool) → (b || false) ≡ b
or-false true = refl
or-false false = refl

or-assoc : (a b c : Bool) → (a || (b || c)) ≡ ((a || b) || c)
or-assoc true b c = refl
or-assoc false b c = refl

-- an end that stands in the list is chosen
pub chosen_at : (ends : List End) (i : ℕ) (d : End) → i < length ends → is_chosen ends (end_number (get_or ends i d)) ≡ true
chosen_at [] i d inside = absurd (omega arith)
chosen_at (x ∷ xs) zero d inside = ap (λ (b : Bool). b || is_chosen xs (end_number x)) (eq-eqb (end_number x) (end_number x) refl)
chosen_at (x ∷ xs) (suc i) d inside = ap (λ (b : Bool). (end_number x == end_number (get_or xs i d)) || b) (chosen_at xs i d (omega arith)) ∙ or_true (end_number x == end_number (get_or xs i d))

-- the number of an end that stands in the list is within what holds all that are chosen
pub chosen_within : (ends : List End) (i number long : ℕ) (d : End) → i < length ends → number ≡ end_number (get_or ends i d) → ((end : ℕ) → is_chosen ends end ≡ true → end < long) → number < long
chosen_within ends i number long d inside is within = within number (ap (is_chosen ends) is ∙ chosen_at ends i d inside)

-- one end more
chosen_suc : (ends : List End) (i : ℕ) (d : End) (k : ℕ) → i < length ends → is_chosen (take (suc i) ends) k ≡ (is_chosen (take i ends) k || (end_number (get_or ends i d) == k))
chosen_suc [] i d k inside = absurd (omega arith)
chosen_suc (x ∷ xs) zero d k inside = or-false (end_number x == k)
chosen_suc (x ∷ xs) (suc i) d k inside =
    ap (λ (b : Bool). (end_number x == k) || b) (chosen_suc xs i d k (omega arith)) ∙ or-assoc (end_number x == k) (is_chosen (take i xs) k) (end_number (get_or xs i d) == k)

pub chosen_more : (ends : List End) (i : ℕ) (d : End) (k : ℕ) → i < length ends → is_chosen (take (i + 1) ends) k ≡ (is_chosen (take i ends) k || (end_number (get_or ends i d) == k))
chosen_more ends i d k inside = ap (λ (n : ℕ). is_chosen (take n ends) k) (let e : i + 1 ≡ suc i = omega arith in e) ∙ chosen_suc ends i d k inside

else_none : (o : Option ℕ) → or_else o None ≡ o
else_none None = refl
else_none (Some n) = refl

both_parts : (b : Bool) (o : Option ℕ) → or_else (cond b None o) (cond b o None) ≡ o
both_parts true o = refl
both_parts false o = else_none o

module _ (ends : List End) (i number : ℕ) (d : End) (inside : i < length ends) (is : number ≡ end_number (get_or ends i d)) where
  chosen_here : (k : ℕ) → k ≡ number → is_chosen (take (i + 1) ends) k ≡ true
  chosen_here k hit = chosen_more ends i d k inside ∙ ap (λ (b : Bool). is_chosen (take i ends) k || b) (eq-eqb (end_number (get_or ends i d)) k (sym (hit ∙ is))) ∙ or_true (is_chosen (take i ends) k)

  chosen_else : (k : ℕ) → (k ≡ number → ⊥) → is_chosen (take (i + 1) ends) k ≡ is_chosen (take i ends) k
  chosen_else k miss = chosen_more ends i d k inside ∙ ap (λ (b : Bool). is_chosen (take i ends) k || b) (ne_eqb (end_number (get_or ends i d)) k (λ e. miss (sym e ∙ sym is))) ∙ or-false (is_chosen (take i ends) k)

  -- the numbers that stay
  pub moved_from : (from old : List (Option ℕ)) → number < length from → ((k : ℕ) → get_or from k None ≡ cond (is_chosen (take i ends) k) None (get_or old k None))
      → (k : ℕ) → get_or (set from number None) k None ≡ cond (is_chosen (take (i + 1) ends) k) None (get_or old k None)
  moved_from from old there before k =
      dite (ℕ_discrete k number)
      (λ hit. ap (λ (n : ℕ). get_or (set from number None) n None) hit ∙ get_or-set_same from number None None there ∙ sym (ap (λ (b : Bool). cond b None (get_or old k None)) (chosen_here k hit)))
      (λ miss. get_or-set_other from number k None None miss ∙ before k ∙ sym (ap (λ (b : Bool). cond b None (get_or old k None)) (chosen_else k miss)))

  -- the numbers that go
  pub moved_into : (from into old : List (Option ℕ)) (x y z : Option ℕ) → number < length into → x ≡ get_or from number None → y ≡ get_or into number None → z ≡ or_else x y
      → ((k : ℕ) → get_or from k None ≡ cond (is_chosen (take i ends) k) None (get_or old k None)) → ((k : ℕ) → get_or into k None ≡ cond (is_chosen (take i ends) k) (get_or old k None) None)
      → (k : ℕ) → get_or (set into number z) k None ≡ cond (is_chosen (take (i + 1) ends) k) (get_or old k None) None
  moved_into from into old x y z there x_is y_is z_is before after k =
      dite (ℕ_discrete k number)
      (λ hit.
      let b = is_chosen (take i ends) number in
      ap (λ (n : ℕ). get_or (set into number z) n None) hit ∙ get_or-set_same into number z None there ∙ z_is
      ∙ ap (λ (o : Option ℕ). or_else o y) (x_is ∙ before number) ∙ ap (or_else (cond b None (get_or old number None))) (y_is ∙ after number)
      ∙ both_parts b (get_or old number None)
      ∙ ap (λ (n : ℕ). get_or old n None) (sym hit)
      ∙ sym (ap (λ (b : Bool). cond b (get_or old k None) None) (chosen_here k hit)))
      (λ miss. get_or-set_other into number k z None miss ∙ after k ∙ sym (ap (λ (b : Bool). cond b (get_or old k None) None) (chosen_else k miss)))

-- and how long it is
pub written_long : {A : Type 0} (xs ys : List A) (n : ℕ) → length xs ≡ n → length ys ≡ n → length (take n (xs ++ drop (length xs) ys)) ≡ length ys
written_long {A = A} xs ys n long same = ap (λ (zs : List A). length zs) (refilled n xs ys long) ∙ long ∙ sym same

abbrev passed_of : Option EndFacts → Option ℕ
passed_of o = option_map (λ (h : EndFacts). h.passed) o

passed_unseen : (o : Option EndFacts) → passed_of (option_map unseen o) ≡ passed_of o
passed_unseen None = refl
passed_unseen (Some h) = refl

passed_left : (b : Bool) (o : Option EndFacts) → cond b None (passed_of o) ≡ passed_of (cond b None o)
passed_left true o = refl
passed_left false o = refl

passed_right : (b : Bool) (o : Option EndFacts) → cond b (passed_of o) None ≡ passed_of (cond b (option_map unseen o) None)
passed_right true o = sym (passed_unseen o)
passed_right false o = refl

passed_else : (o x : Option EndFacts) → or_else (passed_of o) (passed_of x) ≡ passed_of (or_else o (option_map unseen x))
passed_else None x = sym (passed_unseen x)
passed_else (Some h) x = refl

-- what a vector that was written through a slice has at a place
pub written_at : (xs ys : List (Option ℕ)) (n k : ℕ) (x : Option ℕ) → length xs ≡ n → length ys ≡ n → get_or xs k None ≡ x → get_or (take n (xs ++ drop (length xs) ys)) k None ≡ x
written_at xs ys n k x long same is = ap (λ (zs : List (Option ℕ)). get_or zs k None) (refilled n xs ys long) ∙ is

-- the numbers of the ends that stay
pub tied_left : (old new : List (Option ℕ)) (ends : EndTable) (chosen : ℕ → Bool) → IsTied old ends → ((k : ℕ) → get_or new k None ≡ cond (chosen k) None (get_or old k None)) → IsTied new (left_from chosen 0 ends)
tied_left old new ends chosen tied moved k =
    moved k ∙ ap (cond (chosen k) None) (tied k) ∙ passed_left (chosen k) (at ends k) ∙ sym (ap passed_of (at_left chosen ends k))

-- the numbers of the ends that go
pub tied_right : (old new : List (Option ℕ)) (ends : EndTable) (chosen : ℕ → Bool) → IsTied old ends → ((k : ℕ) → get_or new k None ≡ cond (chosen k) (get_or old k None) None) → IsTied new (right_from chosen 0 ends)
tied_right old new ends chosen tied moved k =
    moved k ∙ ap (λ (o : Option ℕ). cond (chosen k) o None) (tied k) ∙ passed_right (chosen k) (at ends k) ∙ sym (ap passed_of (at_right chosen ends k))

-- the numbers of two hands' ends
pub tied_merged : (old others new : List (Option ℕ)) (ends more : EndTable) → IsTied old ends → IsTied others more → ((k : ℕ) → get_or new k None ≡ or_else (get_or old k None) (get_or others k None)) → IsTied new (merged_ends ends more)
tied_merged old others new ends more tied tied_more taken k =
    taken k ∙ ap (λ (o : Option ℕ). or_else o (get_or others k None)) (tied k) ∙ ap (or_else (passed_of (at ends k))) (tied_more k) ∙ passed_else (at ends k) (at more k) ∙ sym (ap passed_of (at_merged ends more k))

left_early : (b : Bool) (o : Option EndFacts) (h : EndFacts) → cond b None o ≡ Some h → o ≡ Some h
left_early true o h e = absurd (cc)
left_early false o h e = e

right_early : (b : Bool) (o : Option EndFacts) (h : EndFacts) → cond b (option_map unseen o) None ≡ Some h → (x : EndFacts) × (o ≡ Some x) × (unseen x ≡ h)
right_early true None h e = absurd (cc)
right_early true (Some x) h e = (x, refl, same_Some (unseen x) h e)
right_early false o h e = absurd (cc)

-- what holds at each end of a hand, whether or not it was seen there, holds at each end that stays, and
-- at each that goes
each_left : (P : ℕ → EndFacts → Type 0) (ends : EndTable) (chosen : ℕ → Bool) → ((k : ℕ) (h : EndFacts) → at ends k ≡ Some h → P k h)
    → (k : ℕ) (h : EndFacts) → at (left_from chosen 0 ends) k ≡ Some h → P k h
each_left P ends chosen each k h is = each k h (left_early (chosen k) (at ends k) h (sym (at_left chosen ends k) ∙ is))

each_right : (P : ℕ → EndFacts → Type 0) (ends : EndTable) (chosen : ℕ → Bool) → ((k : ℕ) (h : EndFacts) → at ends k ≡ Some h → P k (unseen h))
    → (k : ℕ) (h : EndFacts) → at (right_from chosen 0 ends) k ≡ Some h → P k h
each_right P ends chosen each k h is =
    let was = right_early (chosen k) (at ends k) h (sym (at_right chosen ends k) ∙ is) in
    subst (P k) was.2 (each k was.0 was.1)

merged_early : (o x : Option EndFacts) (h : EndFacts) → or_else o (option_map unseen x) ≡ Some h → (P : EndFacts → Type 0) → ((y : EndFacts) → o ≡ Some y → P y) → ((y : EndFacts) → x ≡ Some y → P (unseen y)) → P h
merged_early None None h e P one two = absurd (cc)
merged_early None (Some y) h e P one two = subst P (same_Some (unseen y) h e) (two y refl)
merged_early (Some z) x h e P one two = subst P (same_Some z h e) (one z refl)

-- and at each end of two hands
each_merged : (P : ℕ → EndFacts → Type 0) (ends more : EndTable) → ((k : ℕ) (h : EndFacts) → at ends k ≡ Some h → P k h) → ((k : ℕ) (h : EndFacts) → at more k ≡ Some h → P k (unseen h))
    → (k : ℕ) (h : EndFacts) → at (merged_ends ends more) k ≡ Some h → P k h
each_merged P ends more one two k h is =
    merged_early (at ends k) (at more k) h (sym (at_merged ends more k) ∙ is) (P k) (one k) (two k)

-- no look missed early at the ends
abbrev early_at : ℕ → EndFacts → Type 0
early_at k h = h.passed < sure k h → h.misses ≡ 0

pub early_left : (ends : EndTable) (chosen : ℕ → Bool) → IsEarly ends → IsEarly (left_from chosen 0 ends)
early_left ends chosen early = each_left early_at ends chosen early

pub early_right : (ends : EndTable) (chosen : ℕ → Bool) → IsEarly ends → IsEarly (right_from chosen 0 ends)
early_right ends chosen early = each_right early_at ends chosen early

pub early_merged : (ends more : EndTable) → IsEarly ends → IsEarly more → IsEarly (merged_ends ends more)
early_merged ends more early early_more = each_merged early_at ends more early early_more

-- no more tokens passed the ends than their streams have
pub within_left : (plan ends : EndTable) (chosen : ℕ → Bool) → AreWithin plan ends → AreWithin plan (left_from chosen 0 ends)
within_left plan ends chosen within = each_left (λ k h. h.passed ≤ length (stream_of plan (k / 2))) ends chosen within

pub within_right : (plan ends : EndTable) (chosen : ℕ → Bool) → AreWithin plan ends → AreWithin plan (right_from chosen 0 ends)
within_right plan ends chosen within = each_right (λ k h. h.passed ≤ length (stream_of plan (k / 2))) ends chosen within

pub within_merged : (plan ends more : EndTable) → AreWithin plan ends → AreWithin plan more → AreWithin plan (merged_ends ends more)
within_merged plan ends more within within_more = each_merged (λ k h. h.passed ≤ length (stream_of plan (k / 2))) ends more within within_more

-- one number more was taken
pub merged_more : (into old from : List (Option ℕ)) (i : ℕ) (x y z : Option ℕ) → i < length into → x ≡ get_or into i None → y ≡ get_or from i None → z ≡ or_else x y
    → ((k : ℕ) → get_or into k None ≡ cond (nat_lt k i) (or_else (get_or old k None) (get_or from k None)) (get_or old k None))
    → (k : ℕ) → get_or (set into i z) k None ≡ cond (nat_lt k (i + 1)) (or_else (get_or old k None) (get_or from k None)) (get_or old k None)
merged_more into old from i x y z inside x_is y_is z_is before k =
    dite (ℕ_discrete k i)
    (λ hit.
    let same : get_or into i None ≡ get_or old i None = before i ∙ ap (λ (b : Bool). cond b (or_else (get_or old i None) (get_or from i None)) (get_or old i None)) (le-ltb i i (omega arith)) in
    ap (λ (n : ℕ). get_or (set into i z) n None) hit ∙ get_or-set_same into i z None inside ∙ z_is
    ∙ ap (λ (o : Option ℕ). or_else o y) (x_is ∙ same) ∙ ap (or_else (get_or old i None)) y_is
    ∙ ap (λ (n : ℕ). or_else (get_or old n None) (get_or from n None)) (sym hit)
    ∙ sym (ap (λ (b : Bool). cond b (or_else (get_or old k None) (get_or from k None)) (get_or old k None)) (lt-ltb k (i + 1) (omega arith))))
    (λ miss.
    get_or-set_other into i k z None miss ∙ before k
    ∙ ap (λ (b : Bool). cond b (or_else (get_or old k None) (get_or from k None)) (get_or old k None))
    (dite (dec_le i k)
    (λ past. le-ltb k i past ∙ sym (le-ltb k (i + 1) (omega arith)))
    (λ below. lt-ltb k i (lt_of_not-le below) ∙ sym (lt-ltb k (i + 1) (let l = lt_of_not-le below in omega arith)))))
