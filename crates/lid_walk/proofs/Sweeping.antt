-- Sweeps: so many turns are made, and so many are left.
use Rattle.std.proofs.Common.{◌≡◌, ℕ, zero, suc, ◌+◌, ◌-◌, ◌<◌, ◌≤◌, [], refl, sym, ◌∙◌, ap, subst, arith}
use Rattle.std.specs.List.{sum_by}
use Rattle.std.proofs.lemmas.List.Sums.{sum_by-cons}
use mathlib.Core.Logic.{dite}
use native.Mathlib.Decide.{ℕ_discrete}
use Rattle.lid_base.specs.Each.{from_each}
use Rattle.lid_walk_machine.specs.Plans.{actors_of}
use Rattle.lid_walk_machine.specs.Setups.{plan}
use Rattle.lid_shell_laws.specs.Setups.{Setup}
use Rattle.lid_walk_machine.specs.Machine.{State, turn, turns_from, sweep, IsSettled}
use Rattle.lid_walk_machine.specs.Laws.{AllRest, HasTurned}
use Rattle.lid_walk_machine.proofs.Turns.{has_turned}
use Rattle.lid_walk_machine.proofs.Sweeps.{has_swept, idle_settled}
use Rattle.lid_walk.specs.declared.walk.Walk.{Walk}
use Rattle.lid_walk.specs.Walks.{Walks, IsAtRest, HasActorAtRest, firings_between}

-- sums over all actors
abbrev pub count : (ℕ → ℕ) → ℕ → ℕ → ℕ
count f k n = sum_by f (from_each (λ v. v) k n)

pub count_more : (f : ℕ → ℕ) (k n : ℕ) → count f k (suc n) ≡ count f k n + f (k + n)
count_more f k zero = let e : k ≡ k + 0 = omega arith in sum_by-cons f k [] ∙ ap (λ (x : ℕ). x + 0) (ap f e) ∙ (let e : f (k + 0) + 0 ≡ 0 + f (k + 0) = omega arith in e)
count_more f k (suc n) =
    let e : (k + 1) + n ≡ k + suc n = omega arith in
    let later = count_more f (k + 1) n in
    let same = ap f e in
    omega (arith, sum_by-cons f k (from_each (λ v. v) (k + 1) (suc n)), sum_by-cons f k (from_each (λ v. v) (k + 1) n), later, same)

count_same : (f g : ℕ → ℕ) (k n : ℕ) → ((i : ℕ) → k ≤ i → i < k + n → f i ≡ g i) → count f k n ≡ count g k n
count_same f g k zero same = refl
count_same f g k (suc n) same =
    let later = count_same f g (k + 1) n (λ i low high. same i (omega (arith, low)) (omega (arith, high))) in
    omega (arith, sum_by-cons f k (from_each (λ v. v) (k + 1) n), sum_by-cons g k (from_each (λ v. v) (k + 1) n), later, same k (omega arith) (omega arith))

count_none : (f : ℕ → ℕ) (k n : ℕ) → count f k n ≡ 0 → (i : ℕ) → k ≤ i → i < k + n → f i ≡ 0
count_none f k zero none i low high = absurd (omega (arith, low, high))
count_none f k (suc n) none i low high =
    let parts = sum_by-cons f k (from_each (λ v. v) (k + 1) n) in
    dite (ℕ_discrete i k)
    (λ is. ap f is ∙ (let e : f k ≡ 0 = omega (arith, parts, none) in e))
    (λ other. count_none f (k + 1) n (omega (arith, parts, none)) i (omega (arith, low, other)) (omega (arith, high)))

-- the first so many actors of a walk have made their turns, and fired so often in them
pub record HasSweptTo (v fired : ℕ) (m : Setup) (st : State) (w : Walk) : Type 0 where
  pub state : State
  pub walks : Walks m state w
  pub rest : AllRest (plan m) state
  pub left : turns_from (plan m) v (actors_of (plan m) - v) state ≡ sweep (plan m) st
  pub counted : fired ≡ count (λ u. (state u).fired - (st u).fired) 0 v
  pub later : (u : ℕ) → v ≤ u → state u ≡ st u

-- so it is for each setup and state that the walk began in
pub record IsPartway (v fired : ℕ) (old new : Walk) : Type 0 where
  pub few : fired ≤ v
  pub each : (m : Setup) (st : State) → Walks m st old → AllRest (plan m) st → HasSweptTo v fired m st new

pub none_yet : (w : Walk) → IsPartway 0 0 w w
none_yet w = record {
  few = omega arith;
  each = λ m st walks rest. record { state = st; walks = walks; rest = rest; left = (let e : actors_of (plan m) - 0 ≡ actors_of (plan m) = omega arith in ap (λ (n : ℕ). turns_from (plan m) 0 n st) e); counted = refl; later = λ u low. refl };
}

pub next_rests : (v fired : ℕ) (old new : Walk) → IsAtRest old → IsPartway v fired old new → ((m : Setup) (st : State) → Walks m st old → v < actors_of (plan m)) → HasActorAtRest new v
next_rests v fired old new (m, st, walks, rest) partway there =
    let now = partway.each m st walks rest in
    (m, now.state, now.walks, there m st walks, now.rest v (there m st walks))

module _ (v fired : ℕ) (old new then_ : Walk) (more : ℕ) (partway : IsPartway v fired old new) (once : more ≤ 1)
    (there : (m : Setup) (st : State) → Walks m st old → v < actors_of (plan m))
    (walks : (m : Setup) (st : State) → Walks m st new → (st v).position ≡ 0 → Walks m (turn (plan m) st v) then_)
    (is : (m : Setup) (st : State) → Walks m st new → (st v).position ≡ 0 → (turn (plan m) st v v).fired ≡ (st v).fired + more) where
  module _ (m : Setup) (st : State) (began : Walks m st old) (rest : AllRest (plan m) st) where
    now : HasSweptTo v fired m st new
    now = partway.each m st began rest

    h : v < actors_of (plan m)
    h = there m st began

    abbrev after : State
    after = turn (plan m) now.state v

    turned : HasTurned (plan m) v now.state after
    turned = has_turned m now.walks.rules v h now.state now.walks.sound

    left_then : turns_from (plan m) (v + 1) (actors_of (plan m) - (v + 1)) after ≡ sweep (plan m) st
    unfolding turns_from
    left_then =
        let e : actors_of (plan m) - v ≡ suc (actors_of (plan m) - (v + 1)) = omega (arith, h) in
        let s : suc v ≡ v + 1 = omega arith in
        ap (λ (u : ℕ). turns_from (plan m) u (actors_of (plan m) - (v + 1)) after) (sym s) ∙ ap (λ (n : ℕ). turns_from (plan m) v n now.state) (sym e) ∙ now.left

    counted_then : fired + more ≡ count (λ u. (after u).fired - (st u).fired) 0 (v + 1)
    counted_then =
        let e : suc v ≡ v + 1 = omega arith in
        let whole = count_more (λ u. (after u).fired - (st u).fired) 0 v in
        let before = count_same (λ u. (after u).fired - (st u).fired) (λ u. (now.state u).fired - (st u).fired) 0 v (λ u low high. ap (λ (n : ℕ). n - (st u).fired) (ap (λ (q : _). q.fired) (turned.others u (λ same. omega (arith, same, high))))) in
        let last : (after (0 + v)).fired - (st (0 + v)).fired ≡ more = last_is in
        let split : fired + more ≡ count (λ u. (after u).fired - (st u).fired) 0 (suc v) = omega (arith, whole, before, last, now.counted) in
        split ∙ ap (count (λ u. (after u).fired - (st u).fired) 0) e
      where
        last_is : (after (0 + v)).fired - (st (0 + v)).fired ≡ more
        last_is =
            let z : 0 + v ≡ v = omega arith in
            let same : (now.state v).fired ≡ (st v).fired = ap (λ (q : _). q.fired) (now.later v (omega arith)) in
            let fired_now = is m now.state now.walks (now.rest v h) in
            ap (λ (u : ℕ). (after u).fired - (st u).fired) z ∙ (let d : (after v).fired - (st v).fired ≡ more = omega (arith, same, fired_now) in d)

    swept_then : HasSweptTo (v + 1) (fired + more) m st then_
    swept_then = record {
      state = after;
      walks = walks m now.state now.walks (now.rest v h);
      rest = λ u within. dite (ℕ_discrete u v)
          (λ same. subst (λ (n : ℕ). (after n).position ≡ 0) (sym same) turned.rests)
          (λ other. ap (λ (q : _). q.position) (turned.others u other) ∙ now.rest u within);
      left = left_then;
      counted = counted_then;
      later = λ u low. turned.others u (λ same. omega (arith, same, low)) ∙ now.later u (omega (arith, low));
    }

  pub one_more : IsPartway (v + 1) (fired + more) old then_
  one_more = record {
    few = omega (arith, partway.few, once);
    each = swept_then;
  }

-- the whole sweep
module _ (v fired : ℕ) (old new : Walk) (partway : IsPartway v fired old new) (m : Setup) (st : State) (began : Walks m st old) (rest : AllRest (plan m) st) (past : v ≡ actors_of (plan m)) where
  done : HasSweptTo v fired m st new
  done = partway.each m st began rest

  same_state : done.state ≡ sweep (plan m) st
  unfolding turns_from
  same_state =
      let none : actors_of (plan m) - v ≡ 0 = omega (arith, past) in
      ap (λ (n : ℕ). turns_from (plan m) v n done.state) (sym none) ∙ done.left

  pub swept_walks : Walks m (sweep (plan m) st) new
  swept_walks = subst (λ (s : State). Walks m s new) same_state done.walks

  pub swept_count : fired ≡ firings_between (plan m) st (sweep (plan m) st)
  swept_count =
      done.counted ∙ ap (λ (s : State). count (λ u. (s u).fired - (st u).fired) 0 v) same_state
      ∙ ap (count (λ u. (sweep (plan m) st u).fired - (st u).fired) 0) past

  pub swept_rest : AllRest (plan m) (sweep (plan m) st)
  swept_rest = (has_swept m began.rules st began.sound rest).rest

  pub swept_idle : fired ≡ 0 → IsSettled (plan m) st
  swept_idle none =
      let swept = has_swept m began.rules st began.sound rest in
      idle_settled m began.rules st began.sound rest
      (λ u h. let gone = count_none (λ u. (sweep (plan m) st u).fired - (st u).fired) 0 (actors_of (plan m)) (sym swept_count ∙ none) u (omega arith) (omega (arith, h)) in omega (arith, gone, swept.goes_on u h))
