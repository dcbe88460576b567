-- Sweeps until all actors are at their caps.
use Rattle.std.proofs.Common.{◌≡◌, ℕ, zero, suc, ◌+◌, ◌-◌, ◌*◌, ◌^◌, ◌<◌, ◌≤◌, nat_lt, cond, inl, inr, Bool, true, false, List, [], ◌∷◌, length, refl, sym, ◌∙◌, ap, subst, arith}
use Rattle.std.specs.Prelude.{Some, slice_get}
use Rattle.std.specs.List.{sum_by}
use Rattle.std.proofs.lemmas.List.Sums.{sum_by-cons}
use Rattle.std.proofs.lemmas.Bool.{cases_lt}
use Rattle.std.proofs.Math.Nat.{add-mul, one-mul, mul-le-mul_right}
use Rattle.lid_base.specs.Each.{from_each}
use Rattle.lid_walk_machine.specs.Plans.{actors_of, cap}
use Rattle.lid_walk_machine.specs.Setups.{plan}
use Rattle.lid_shell_laws.specs.Setups.{Setup, IsSetup}
use Rattle.lid_walk_machine.specs.Machine.{State, sweep, IsSettled, sweeps}
use Rattle.lid_walk_machine.specs.Laws.{AllRest, HasSwept as MachineSwept}
use Rattle.lid_walk_machine.proofs.Sweeps.{has_swept, many}
use Rattle.lid_walk.proofs.Numbers.{few_actors}
use Rattle.lid_walk.proofs.Sweeping.{count}
use Rattle.lid_shell.specs.declared.actor.Actor.{Actor}
use Rattle.lid_walk.specs.declared.walk.Walk.{Walk}
use Rattle.lid_walk.specs.Walks.{Walks, firings_between}
use Rattle.lid_free.specs.Sweeps.{HasMadeSweeps, HasSettled}
use Rattle.lid_free.specs.declared.ending.Sweeps.{Sweeps}

pub count_add : (f g h : ℕ → ℕ) (k n : ℕ) → ((v : ℕ) → k ≤ v → v < k + n → h v ≡ f v + g v) → count h k n ≡ count f k n + count g k n
count_add f g h k zero same = refl
count_add f g h k (suc n) same =
    let later = count_add f g h (k + 1) n (λ v low high. same v (omega (arith, low)) (omega (arith, high))) in
    omega (arith, sum_by-cons f k (from_each (λ v. v) (k + 1) n), sum_by-cons g k (from_each (λ v. v) (k + 1) n), sum_by-cons h k (from_each (λ v. v) (k + 1) n), later, same k (omega arith) (omega arith))

pub count_most : (f : ℕ → ℕ) (most k n : ℕ) → ((v : ℕ) → k ≤ v → v < k + n → f v ≤ most) → count f k n ≤ n * most
count_most f most k zero few = omega arith
count_most f most k (suc n) few =
    let later = count_most f most (k + 1) n (λ v low high. few v (omega (arith, low)) (omega (arith, high))) in
    let parts : suc n * most ≡ most + n * most = suc_mul n most in
    omega (arith, sum_by-cons f k (from_each (λ v. v) (k + 1) n), later, few k (omega arith) (omega arith), parts)
  where
    suc_mul : (n most : ℕ) → suc n * most ≡ most + n * most
    suc_mul n most = let e : suc n ≡ 1 + n = omega arith in ap (λ (k : ℕ). k * most) e ∙ add-mul 1 n most ∙ (let o = one-mul most in omega (arith, o))

-- no sweep was made yet
pub none_swept : (m : Setup) (st : State) (w : Walk) → Walks m st w → AllRest (plan m) st → HasMadeSweeps m st (record { count = 0; fired = 0 }) w
none_swept m st w walks rest = record {
  walks = walks;
  rest = rest;
  fired_are = sym (none_between 0 (actors_of (plan m)));
  fires = omega arith;
  not_before = λ j low. absurd (omega (arith, low));
}
  where
    none_between : (k n : ℕ) → sum_by (λ v. (st v).fired - (st v).fired) (from_each (λ v. v) k n) ≡ 0
    none_between k zero = refl
    none_between k (suc n) =
        let later = none_between (k + 1) n in
        omega (arith, sum_by-cons (λ v. (st v).fired - (st v).fired) k (from_each (λ v. v) (k + 1) n), later)

-- one sweep more
module _ (m : Setup) (st : State) (s : Sweeps) (w then_ : Walk) (fired : ℕ)
    (so : HasMadeSweeps m st s w) (first : IsSetup m)
    (grown : (v : ℕ) → v < actors_of (plan m) → (st v).fired ≤ (sweeps (plan m) st s.count v).fired)
    (not_settled : IsSettled (plan m) (sweeps (plan m) st s.count) → ⊥)
    (walks : Walks m (sweep (plan m) (sweeps (plan m) st s.count)) then_)
    (is : fired ≡ firings_between (plan m) (sweeps (plan m) st s.count) (sweep (plan m) (sweeps (plan m) st s.count)))
    (idle : fired ≡ 0 → IsSettled (plan m) (sweeps (plan m) st s.count)) where
  abbrev mid : State
  mid = sweeps (plan m) st s.count

  swept : MachineSwept (plan m) mid (sweep (plan m) mid)
  swept = has_swept m first mid so.walks.sound so.rest

  more : (n : ℕ) → n ≡ suc s.count → sweeps (plan m) st n ≡ sweep (plan m) mid
  more n is_n = ap (sweeps (plan m) st) is_n

  pub some : 0 < fired
  some = by_zero fired refl
    where
      by_zero : (n : ℕ) → fired ≡ n → 0 < n
      by_zero zero e = absurd (not_settled (idle e))
      by_zero (suc n) e = omega arith

  pub swept_more : HasMadeSweeps m st (record { count = s.count + 1; fired = s.fired + fired }) then_
  swept_more =
      let next : s.count + 1 ≡ suc s.count = omega arith in
      let same = sym (more (s.count + 1) next) in
      record {
        walks = subst (λ (x : State). Walks m x then_) same walks;
        rest = subst (AllRest (plan m)) same swept.rest;
        fired_are =
            (let parts = count_add (λ v. (mid v).fired - (st v).fired) (λ v. (sweep (plan m) mid v).fired - (mid v).fired) (λ v. (sweep (plan m) mid v).fired - (st v).fired) 0 (actors_of (plan m))
            (λ v low high. let g = grown v (omega (arith, high)) in let t = swept.goes_on v (omega (arith, high)) in omega (arith, g, t)) in
            let whole = ap (λ (x : State). firings_between (plan m) st x) same in
            let was = so.fired_are in
            omega (arith, parts, whole, was, is));
        fires = (let f = so.fires in let one = some in omega (arith, f, one));
        not_before = λ j low settled.
            elim (cases_lt j s.count) [
              | inl earlier ↦ so.not_before j earlier settled
              | inr late ↦ not_settled (subst (λ (n : ℕ). IsSettled (plan m) (sweeps (plan m) st n)) (let e : j ≡ s.count = omega (arith, low, late) in e) settled)
            ];
      }

-- a sum over the actors of a walk is one over their numbers
pub list_count : {A : Type 0} (f : A → ℕ) (g : ℕ → ℕ) (k : ℕ) (xs : List A) → ((v : ℕ) (a : A) → slice_get xs v ≡ Some a → f a ≡ g (k + v)) → sum_by f xs ≡ count g k (length xs)
list_count f g k [] same = refl
list_count f g k (x ∷ xs) same =
    let s : k + 1 ≡ suc k = omega arith in
    let z : k + 0 ≡ k = omega arith in
    let later = list_count f g (k + 1) xs (λ v a at. let e : k + suc v ≡ (k + 1) + v = omega arith in same (suc v) a at ∙ ap g e) in
    let here = same 0 x refl ∙ ap g z in
    omega (arith, sum_by-cons f x xs, sum_by-cons g k (from_each (λ v. v) (k + 1) (length xs)), later, here)

-- how many firings are left
pub left_at : (m : Setup) (st : State) (w : Walk) → Walks m st w → sum_by (λ (a : Actor). a.desk.cap - a.desk.fired) w.actors.items ≡ count (λ v. cap (plan m) v - (st v).fired) 0 (actors_of (plan m))
left_at m st w walks =
    list_count (λ (a : Actor). a.desk.cap - a.desk.fired) (λ v. cap (plan m) v - (st v).fired) 0 w.actors.items
    (λ v a at.
    let z : v ≡ 0 + v = omega arith in
    let is = (walks.actors.each v a at).at in
    let e : a.desk.cap - a.desk.fired ≡ cap (plan m) v - (st v).fired = omega (arith, is.capped, is.fired_is) in
    e ∙ ap (λ (u : ℕ). cap (plan m) u - (st u).fired) z)
    ∙ ap (count (λ v. cap (plan m) v - (st v).fired) 0) walks.actors.many

pub cap_most : (m : Setup) (v : ℕ) → IsSetup m → cap (plan m) v ≤ 1000000
cap_most m v rules = by_node (nat_lt (v + 1) (length m.system.nodes))
  where
    by_node : (b : Bool) → cond b (length m.input - 1) (length m.input) ≤ 1000000
    by_node true = let few = rules.few in omega arith
    by_node false = rules.few

module _ (m : Setup) (st : State) (rules : IsSetup m) (w : Walk) (walks : Walks m st w) (rest : AllRest (plan m) st) where
  -- no firing is undone
  pub grown_by : (k v : ℕ) → v < actors_of (plan m) → (st v).fired ≤ (sweeps (plan m) st k v).fired
  grown_by k v h = (many m rules st k walks.sound rest).0.goes_on v h

  -- all firings can be counted
  pub few_firings : (k : ℕ) (now : Walk) → Walks m (sweeps (plan m) st k) now → firings_between (plan m) st (sweeps (plan m) st k) < 2 ^ 64
  few_firings k now then_ =
      let most = count_most (λ v. (sweeps (plan m) st k v).fired - (st v).fired) 1000000 0 (actors_of (plan m))
      (λ v low high. let capped = (then_.sound.actors v (omega (arith, high))).capped in let c = cap_most m v rules in omega (arith, capped, c)) in
      let few = few_actors m rules in
      let less : actors_of (plan m) * 1000000 ≤ 69634 * 1000000 = mul-le-mul_right 1000000 few in
      omega (arith, most, less)

  -- a sweep with a firing leaves fewer
  pub fewer_left : (s : Sweeps) (now then_ : Walk) (fired : ℕ) → HasMadeSweeps m st s now → Walks m (sweep (plan m) (sweeps (plan m) st s.count)) then_
      → fired ≡ firings_between (plan m) (sweeps (plan m) st s.count) (sweep (plan m) (sweeps (plan m) st s.count)) → 0 < fired
      → sum_by (λ (a : Actor). a.desk.cap - a.desk.fired) then_.actors.items < sum_by (λ (a : Actor). a.desk.cap - a.desk.fired) now.actors.items
  fewer_left s now then_ fired so after is some =
      let mid = sweeps (plan m) st s.count in
      let swept = has_swept m rules mid so.walks.sound so.rest in
      let parts = count_add (λ v. cap (plan m) v - (sweep (plan m) mid v).fired) (λ v. (sweep (plan m) mid v).fired - (mid v).fired) (λ v. cap (plan m) v - (mid v).fired) 0 (actors_of (plan m))
      (λ v low high.
      let h : v < actors_of (plan m) = omega (arith, high) in
      let t = swept.goes_on v h in
      let capped = (swept.sound.actors v h).capped in
      omega (arith, t, capped)) in
      omega (arith, parts, left_at m mid now so.walks, left_at m (sweep (plan m) mid) then_ after, is, some)
