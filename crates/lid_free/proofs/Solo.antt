-- One worker alone does what the machine does.
use Rattle.std.proofs.Common.{◌≡◌, ℕ, zero, suc, ◌+◌, ◌*◌, ◌/◌, ◌%◌, ◌<◌, ◌≤◌, ◌==◌, Bool, true, false, cond, List, [], ◌∷◌, length, get_or, map, refl, sym, ◌∙◌, ap, subst, arith, eq-eqb}
use Rattle.std.specs.Prelude.{Option, Some, None, option_map, slice_get, if◌then◌else◌}
use Rattle.std.proofs.lemmas.Option.{same_Some, slice_get_within}
use Rattle.lid_base.specs.declared.runs.Tally.{Tally}
use Rattle.lid_base.specs.Each.{from_each}
use Rattle.lid_station.specs.Boards.{Facts, fill, drain}
use Rattle.lid_board.specs.Owners.{ends_of, start_ends}
use Rattle.lid_board.specs.Standing.{AreStreamsOf}
use Rattle.lid_board.specs.Views.{at, facts}
use Rattle.lid_board.specs.declared.board.Board.{Board}
use Rattle.lid_shell_laws.specs.Runs.{place_in}
use Rattle.lid_walk_machine.specs.Plans.{Plan, actors_of, stations_of, ins_of, outs_of, drainer_of, filler_of, start_of}
use Rattle.lid_walk_machine.specs.Setups.{plan}
use Rattle.lid_shell_laws.specs.Setups.{Setup, IsSetup}
use Rattle.lid_walk_machine.specs.Machine.{Progress, State, begun, takes_from, puts_from, in_count, out_count, sweeps}
use Rattle.lid_shell.specs.declared.actor.Actor.{Actor}
use Rattle.lid_shell.specs.Boards.{ServesBoth, ServesAll}
use Rattle.lid_walk_machine.proofs.Counts.{early}
use Rattle.lid_walk.proofs.Serving.{drains_by, fills_by}
use Rattle.lid_free_crew.specs.declared.worker.Worker.{Worker}
use Rattle.lid_free_crew.specs.Posts.{known}
use Rattle.lid_free_crew.specs.Alone.{run_from, rounds_of, AreAlone}
use Rattle.lid_free_crew.proofs.Sweeping.{rounds_sweep}
use Rattle.lid_free_crew.specs.Shares.{is_own, picked, share, holder}
use Rattle.lid_free_crew.specs.Crews.{HaveWorked}
use Rattle.lid_free.specs.Workers.{IsCrew, fired_of}
use Rattle.lid_free.specs.Gathering.{AreMachines}
use Rattle.lid_free.proofs.Parallel.{fired_read, HasPair, pair_of}
use Rattle.lid_free.proofs.Ready.{held_here, works_at_start}
use Rattle.lid_base.proofs.Each.{each_length, each_get}
use Rattle.lid_base.proofs.Places.{item_at}

mod_one : (v n : ℕ) → n ≡ 1 → v % n ≡ 0
mod_one v n one = ap (λ (k : ℕ). v % k) one ∙ (let e : v % 1 ≡ 0 = omega arith in e)

all_picked : {A : Type 0} (n k : ℕ) (xs : List A) → n ≡ 1 → picked (is_own n 0) k xs ≡ xs
all_picked n k [] one = refl
all_picked n k (x ∷ xs) one =
    ap (λ (b : Bool). if b then x ∷ picked (is_own n 0) (suc k) xs else picked (is_own n 0) (suc k) xs) (eq-eqb (k % n) 0 (mod_one k n one))
    ∙ ap (λ (l : List _). x ∷ l) (all_picked n (suc k) xs one)

module _ (m : Setup) (board : Board) (workers : ℕ) (owners : List ℕ) (before : List Actor) (olds news : List Worker) (made : ℕ) (actors : List Actor)
    (c : IsCrew m board workers owners before olds) (worked : HaveWorked board made olds news)
    (long : length actors ≡ actors_of (plan m))
    (shares : (i : ℕ) (w : Worker) → slice_get news i ≡ Some w → share workers i actors ≡ w.actors.items)
    (one : workers ≡ 1) where
  p : HasPair m board workers owners before olds news made actors c worked long shares 0
  p = pair_of m board workers owners before olds news made actors c worked long shares 0 (omega (arith, one))

  abbrev numbers : List ℕ
  numbers = from_each (λ v. v) 0 (actors_of (plan m))

  holds : (end : ℕ) → holder workers owners end ≡ 0
  holds end = mod_one (get_or owners end 0) workers one

  number_is : (i v : ℕ) → slice_get numbers i ≡ Some v → i ≡ v
  number_is i v at_v =
      let within = slice_get_within numbers i v at_v in
      let many = each_length (λ k. k) 0 (actors_of (plan m)) in
      let z : 0 + i ≡ i = omega arith in
      same_Some i v (ap (λ (k : ℕ). Some k) (sym z) ∙ sym (each_get (λ k. k) 0 (actors_of (plan m)) i (omega (arith, within, many))) ∙ at_v)

  both : (station : ℕ) → station < stations_of (plan m) → ServesBoth m begun (known p.old.hand) station
  both station there =
      let (f, at_f, start_f) = c.started.fills station there in
      let (d, at_d, start_d) = c.started.drains station there in
      let u = filler_of (plan m) station in
      let w = drainer_of (plan m) station in
      let no_put = early (puts_from (length (ins_of (plan m) u)) (length (outs_of (plan m) u)) + place_in (outs_of (plan m) u) station) 0 0 (omega arith) in
      let no_take = early (takes_from (length (ins_of (plan m) w)) (length (outs_of (plan m) w)) + place_in (ins_of (plan m) w) station) 0 0 (omega arith) in
      let zero_more : start_of (plan m) station + 0 ≡ start_of (plan m) station = omega arith in
      record {
        filled = (
          facts f,
          ap (option_map facts) (held_here m board workers owners before olds c 0 p.old p.at_old (fill station) f (holds (fill station)) at_f),
          start_f.passed_is ∙ sym zero_more ∙ ap (λ (n : ℕ). start_of (plan m) station + n) (sym no_put),
        );
        drained = (
          facts d,
          ap (option_map facts) (held_here m board workers owners before olds c 0 p.old p.at_old (drain station) d (holds (drain station)) at_d),
          start_d.passed_is ∙ sym no_take,
        );
      }

  all_old : p.old.actors.items ≡ before
  all_old = (c.each 0 p.old p.at_old).actors_are ∙ all_picked workers 0 before one

  alone : AreAlone m numbers begun board p.old.actors.items (known p.old.hand)
  alone = record {
    rules = c.rules;
    many = ap length all_old ∙ c.actors_are.many ∙ sym (each_length (λ v. v) 0 (actors_of (plan m)));
    once = λ i j v at_i at_j. number_is i v at_i ∙ sym (number_is j v at_j);
    works = λ i v a at_v at_a.
        let here : slice_get before v ≡ Some a = ap (λ (l : List Actor). slice_get l v) (sym all_old) ∙ ap (slice_get p.old.actors.items) (sym (number_is i v at_v)) ∙ at_a in
        works_at_start m board workers owners before olds c 0 p.old p.at_old v a (mod_one v workers one) here;
    rest = λ i v at_v. refl;
    serves = λ i v at_v. record {
      ins = λ k station h. both station (drains_by (plan m) v k station h).there;
      outs = λ k station h. both station (fills_by (plan m) v k station h).there;
    };
  }

  all_new : actors ≡ p.new.actors.items
  all_new = sym (all_picked workers 0 actors one) ∙ shares 0 p.new p.at_new

  tallies_are : (tallies : List Tally) → tallies ≡ map (λ (w : Worker). w.tally) news → tallies ≡ p.new.tally ∷ []
  tallies_are tallies is = is ∙ by_list news (worked.many ∙ c.many ∙ one) p.at_new
    where
      by_list : (l : List Worker) → length l ≡ 1 → slice_get l 0 ≡ Some p.new → map (λ (w : Worker). w.tally) l ≡ p.new.tally ∷ []
      by_list [] e at_0 = absurd (cc)
      by_list (x ∷ []) e at_0 = ap (λ (w : Worker). w.tally ∷ []) (same_Some x p.new at_0)
      by_list (x ∷ y ∷ l) e at_0 = absurd (omega (arith, e))

  pub machines : (tallies : List Tally) → tallies ≡ map (λ (w : Worker). w.tally) news → AreMachines m made tallies (fired_of actors)
  machines tallies is =
      let did = p.did.alone m numbers begun alone in
      record {
        tally = tallies_are tallies is ∙ ap (λ (t : Tally). t ∷ []) did.1;
        fired_are = λ v h.
            let (b, at_b) = item_at actors v (omega (arith, h, long)) in
            let here : slice_get p.new.actors.items v ≡ Some b = ap (λ (l : List Actor). slice_get l v) (sym all_new) ∙ at_b in
            let z : 0 + v ≡ v = omega arith in
            let at_v : slice_get numbers v ≡ Some v = each_get (λ k. k) 0 (actors_of (plan m)) v h ∙ ap (λ (k : ℕ). Some k) z in
            fired_read actors v b at_b ∙ (did.0.works v v b at_v here).actor.at.fired_is
            ∙ ap (λ (st : State). (st v).fired) (rounds_sweep (plan m) made (run_from begun));
      }
