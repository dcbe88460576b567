-- What the actors and the hands are after the parallel phase.
use Rattle.std.proofs.Common.{◌≡◌, ℕ, zero, suc, ◌+◌, ◌*◌, ◌%◌, ◌<◌, ◌≤◌, ◌==◌, true, cond, List, [], ◌∷◌, length, get_or, refl, sym, ◌∙◌, ap, subst, arith, eq-eqb}
use Rattle.std.specs.Prelude.{Some, option_map, slice_get}
use Rattle.std.specs.List.{sum_by}
use Rattle.std.proofs.Math.Nat.{mod-lt}
use Rattle.std.proofs.lemmas.Option.{same_Some, slice_get_within}
use Rattle.lid_base.specs.Each.{from_each}
use Rattle.lid_station.specs.Boards.{Facts}
use Rattle.lid_board.specs.Owners.{ends_of, start_ends}
use Rattle.lid_board.specs.Standing.{AreStreamsOf}
use Rattle.lid_board.specs.Views.{at, facts}
use Rattle.lid_board.specs.declared.board.Board.{Board}
use Rattle.lid_board.specs.declared.view.EndFacts.{EndFacts}
use Rattle.lid_walk_machine.specs.Plans.{actors_of, cap}
use Rattle.lid_walk_machine.specs.Setups.{plan}
use Rattle.lid_shell_laws.specs.Setups.{Setup}
use Rattle.lid_walk_machine.specs.Machine.{Progress}
use Rattle.lid_shell.specs.declared.actor.Actor.{Actor}
use Rattle.lid_shell.specs.Steps.{Works}
use Rattle.lid_walk.specs.Actors.{AreActors}
use Rattle.lid_free_crew.specs.declared.worker.Worker.{Worker}
use Rattle.lid_free_crew.specs.Posts.{known, resting, AgreesAt}
use Rattle.lid_free_crew.specs.Tallies.{fired_by, done_among, firings_of_done}
use Rattle.lid_free_crew.specs.Turns.{HasMadeTurns}
use Rattle.lid_free_crew.proofs.Misses.{held_there}
use Rattle.lid_free_crew.proofs.Rounding.{fired_since_none}
use Rattle.lid_free_crew.proofs.Sums.{sum_none}
use Rattle.lid_free_crew.specs.Shares.{is_own, share, numbers_of, holder}
use Rattle.lid_free_crew.specs.Crews.{HasWorked, HaveWorked}
use Rattle.lid_free.specs.Workers.{IsCrew, fired_of}
use Rattle.lid_free.specs.FreeRuns.{IsShareTally, state_of_counts}
use Rattle.lid_free.proofs.Shares.{rank, picked_at, picked_length, picks_sum}
use Rattle.lid_free.proofs.Ready.{works_at_start, held_here}
use Rattle.lid_free.proofs.Crewing.{at_start}
use Rattle.lid_base.proofs.Each.{each_length}
use Rattle.lid_base.proofs.Places.{item_at}

pub fired_read : (actors : List Actor) (v : ℕ) (a : Actor) → slice_get actors v ≡ Some a → get_or (fired_of actors) v 0 ≡ a.desk.fired
fired_read [] v a h = absurd (cc)
fired_read (x ∷ actors) zero a h = ap (λ (y : Actor). y.desk.fired) (same_Some x a h)
fired_read (x ∷ actors) (suc v) a h = fired_read actors v a h

module _ (m : Setup) (board : Board) (workers : ℕ) (owners : List ℕ) (before : List Actor) (olds news : List Worker) (made : ℕ) (actors : List Actor)
    (c : IsCrew m board workers owners before olds) (worked : HaveWorked board made olds news)
    (long : length actors ≡ actors_of (plan m))
    (shares : (i : ℕ) (w : Worker) → slice_get news i ≡ Some w → share workers i actors ≡ w.actors.items) where
  -- the worker of a number, before and after
  pub record HasPair (i : ℕ) : Type 0 where
    pub old : Worker
    pub new : Worker
    pub at_old : slice_get olds i ≡ Some old
    pub at_new : slice_get news i ≡ Some new
    pub did : HasWorked board made old new

  pub pair_of : (i : ℕ) → i < workers → HasPair i
  pair_of i within =
      let (w, at_w) = item_at olds i (omega (arith, within, c.many)) in
      let (x, at_x) = item_at news i (omega (arith, within, c.many, worked.many)) in
      record { old = w; new = x; at_old = at_w; at_new = at_x; did = worked.each i w x at_w at_x }

  pub holder_low : (end : ℕ) → holder workers owners end < workers
  holder_low end = mod-lt (get_or owners end 0) c.some

  -- an actor, before and after
  pub record HasRun (v : ℕ) (b : Actor) (p : HasPair (v % workers)) : Type 0 where
    pub was : Actor
    pub at_was : slice_get before v ≡ Some was
    pub gone : HasMadeTurns board made (known p.old.hand) was (known p.new.hand) b

  pub run_of : (v : ℕ) (b : Actor) → slice_get actors v ≡ Some b → (p : HasPair (v % workers)) → HasRun v b p
  run_of v b at_b p =
      let within = slice_get_within actors v b at_b in
      let many = c.actors_are.many in
      let (a, at_a) = item_at before v (omega (arith, within, many, long)) in
      let z : 0 + v ≡ v = omega arith in
      let own : is_own workers (v % workers) (0 + v) ≡ true = ap (λ (n : ℕ). n % workers == v % workers) z ∙ eq-eqb (v % workers) (v % workers) refl in
      let j = rank (is_own workers (v % workers)) 0 v in
      let at_old : slice_get p.old.actors.items j ≡ Some a =
      ap (λ (l : List Actor). slice_get l j) (c.each (v % workers) p.old p.at_old).actors_are ∙ picked_at (is_own workers (v % workers)) 0 before v a at_a own in
      let at_new : slice_get p.new.actors.items j ≡ Some b =
      ap (λ (l : List Actor). slice_get l j) (sym (shares (v % workers) p.new p.at_new)) ∙ picked_at (is_own workers (v % workers)) 0 actors v b at_b own in
      record { was = a; at_was = at_a; gone = p.did.gone.each j a b at_old at_new }

  -- it has not fired before
  pub none_fired : (v : ℕ) (a : Actor) → slice_get before v ≡ Some a → a.desk.fired ≡ 0
  none_fired v a at_a = (c.actors_are.each v a at_a).at.fired_is

  pub mod_low : (v : ℕ) → v % workers < workers
  mod_low v = mod-lt v c.some

  -- and agrees with its worker's hand afterwards
  pub agrees_after : (v : ℕ) (b : Actor) → slice_get actors v ≡ Some b → (p : HasPair (v % workers)) → AgreesAt m v board (known p.new.hand) b
  agrees_after v b at_b p =
      let r = run_of v b at_b p in
      let start = works_at_start m board workers owners before olds c (v % workers) p.old p.at_old v r.was refl r.at_was in
      let none = none_fired v r.was r.at_was in
      r.gone.agrees m v (subst (λ (n : ℕ). Works m v (record { fired = n; position = 0 }) r.was (known p.old.hand) (AreStreamsOf (start_ends board))) (sym none) start)

  state_is : (v : ℕ) (b : Actor) → slice_get actors v ≡ Some b → resting b ≡ state_of_counts (fired_of actors) v
  state_is v b at_b = ap (λ (n : ℕ). let q : Progress = record { fired = n; position = 0 } in q) (sym (fired_read actors v b at_b))

  pub works_after : (v : ℕ) (b : Actor) → slice_get actors v ≡ Some b → (p : HasPair (v % workers)) → Works m v (state_of_counts (fired_of actors) v) b (known p.new.hand) (AreStreamsOf (start_ends board))
  works_after v b at_b p = subst (λ (q : Progress). Works m v q b (known p.new.hand) (AreStreamsOf (start_ends board))) (state_is v b at_b) (agrees_after v b at_b p)

  pub actors_after : AreActors m (state_of_counts (fired_of actors)) actors
  actors_after = record { many = long; each = λ v b at_b. (works_after v b at_b (pair_of (v % workers) (mod_low v))).actor }

  -- each end is known to the hand to which it fell, with the start count and the capacity that it had
  pub record IsKept (end i : ℕ) (p : HasPair i) : Type 0 where
    pub first : EndFacts
    pub at_first : at (start_ends board) end ≡ Some first
    pub last : EndFacts
    pub at_last : at (ends_of p.new.hand) end ≡ Some last
    pub cap : last.cap ≡ first.cap
    pub start : last.start ≡ first.start

  pub kept : (end i : ℕ) → end < length (start_ends board) → (p : HasPair i) → holder workers owners end ≡ i → IsKept end i p
  kept end i within p mine =
      let (h, at_h, none) = at_start m board c.started end within in
      let here = held_here m board workers owners before olds c i p.old p.at_old end h mine at_h in
      let (g, at_g, keeps) = p.did.stays.ends.some end (facts h) (ap (option_map facts) here) in
      let (x, at_x, is_x) = held_there (at (ends_of p.new.hand) end) g at_g in
      record {
        first = h;
        at_first = at_h;
        last = x;
        at_last = at_x;
        cap = ap (λ (f : Facts). f.cap) is_x ∙ keeps.cap;
        start = ap (λ (f : Facts). f.start) is_x ∙ keeps.start;
      }

  -- the tallies
  share_old : (i : ℕ) → length (share workers i before) ≡ length (numbers_of workers i (actors_of (plan m)))
  share_old i = picked_length (is_own workers i) 0 before (from_each (λ v. v) 0 (actors_of (plan m))) (c.actors_are.many ∙ sym (each_length (λ v. v) 0 (actors_of (plan m))))

  sum_new : (f : Actor → ℕ) (g : ℕ → ℕ) (i : ℕ) → ((v : ℕ) (b : Actor) → slice_get actors v ≡ Some b → f b ≡ g v) → sum_by f (share workers i actors) ≡ sum_by g (numbers_of workers i (actors_of (plan m)))
  sum_new f g i same =
      picks_sum f g (is_own workers i) 0 actors (λ v b at_b. let z : v ≡ 0 + v = omega arith in same v b at_b ∙ ap g z)
      ∙ ap (λ (n : ℕ). sum_by g (numbers_of workers i n)) long

  none_before : (i : ℕ) → fired_by (share workers i before) ≡ 0
  none_before i =
      picks_sum (λ a. a.desk.fired) (λ v. 0) (is_own workers i) 0 before (λ v a at_a. none_fired v a at_a)
      ∙ sum_none (λ v. 0) (numbers_of workers i (length before)) (λ j v at_v. refl)

  cap_read : (v : ℕ) (b : Actor) → slice_get actors v ≡ Some b → b.desk.cap ≡ cap (plan m) v
  cap_read v b at_b = (actors_after.each v b at_b).at.capped

  pub tally_after : (i : ℕ) → (p : HasPair i) → IsShareTally (plan m) workers made (fired_of actors) i p.new.tally
  tally_after i p =
      let t = p.did.tally in
      let own = (c.each i p.old p.at_old).actors_are in
      let many = ap length own ∙ share_old i in
      let before_none = ap fired_by own ∙ none_before i in
      let after_all = ap fired_by (sym (shares i p.new p.at_new)) ∙ sum_new (λ a. a.desk.fired) (λ v. get_or (fired_of actors) v 0) i (λ v b at_b. sym (fired_read actors v b at_b)) in
      let done_all = ap done_among (sym (shares i p.new p.at_new))
      ∙ sum_new (λ a. cond (a.desk.fired == a.desk.cap) 1 0) (λ v. cond (get_or (fired_of actors) v 0 == cap (plan m) v) 1 0) i
      (λ v b at_b. ap (λ (n : ℕ). cond (n == b.desk.cap) 1 0) (sym (fired_read actors v b at_b)) ∙ ap (λ (n : ℕ). cond (get_or (fired_of actors) v 0 == n) 1 0) (cap_read v b at_b)) in
      let fired_done = fired_since_none p.old.actors.items p.new.actors.items p.did.gone.many before_none
      ∙ ap (sum_by (λ (a : Actor). cond (a.desk.fired == a.desk.cap) a.desk.fired 0)) (sym (shares i p.new p.at_new))
      ∙ sum_new (λ a. cond (a.desk.fired == a.desk.cap) a.desk.fired 0) (λ v. cond (get_or (fired_of actors) v 0 == cap (plan m) v) (get_or (fired_of actors) v 0) 0) i
      (λ v b at_b. ap (λ (n : ℕ). cond (n == b.desk.cap) n 0) (sym (fired_read actors v b at_b))
      ∙ ap (λ (n : ℕ). cond (get_or (fired_of actors) v 0 == n) (get_or (fired_of actors) v 0) 0) (cap_read v b at_b)) in
      record {
        turns_are = t.turns_are ∙ ap (λ (n : ℕ). made * n) many;
        fired_are = (let f = t.fired_are in omega (arith, f, before_none, after_all));
        adds_up = t.adds_up;
        dones_most =
            subst (λ (n : ℕ). p.new.tally.dones + n ≤ made * sum_by (λ v. cond (get_or (fired_of actors) v 0 == cap (plan m) v) 1 0) (numbers_of workers i (actors_of (plan m)))) fired_done
            (subst (λ (n : ℕ). p.new.tally.dones + firings_of_done p.old.actors.items p.new.actors.items ≤ made * n) done_all t.dones_most);
      }
