-- Workers that are set out are ready to work.
use Rattle.std.proofs.Common.{◌≡◌, ℕ, ◌+◌, ◌*◌, ◌/◌, ◌%◌, ◌<◌, ◌≤◌, ◌==◌, inl, inr, Bool, true, cond, List, length, get_or, refl, sym, ◌∙◌, ap, subst, arith, eq-eqb, ne_eqb}
use Rattle.std.specs.Prelude.{Option, Some, None, option_map, slice_get}
use Rattle.std.proofs.lemmas.Bool.{eqb-true}
use Rattle.std.proofs.lemmas.Option.{slice_get_within}
use Rattle.lid_base.specs.declared.runs.Tally.{Tally}
use Rattle.lid_station.specs.Boards.{Facts, fill, drain}
use Rattle.lid_stations.specs.Stations.{filler, drainer}
use Rattle.lid_board.specs.Owners.{ends_of, start_ends}
use Rattle.lid_board.specs.Standing.{AreStreamsOf}
use Rattle.lid_board.specs.Views.{EndTable, at, facts}
use Rattle.lid_board.specs.declared.board.Board.{Board}
use Rattle.lid_board.specs.declared.hand.Hand.{Hand}
use Rattle.lid_board.specs.declared.view.EndFacts.{EndFacts}
use Rattle.lid_walk_machine.specs.Plans.{actors_of, stations_of, ins_of, outs_of, drainer_of, filler_of, start_of, stream}
use Rattle.lid_walk_machine.specs.Setups.{plan}
use Rattle.lid_shell_laws.specs.Setups.{Setup, IsSetup}
use Rattle.lid_walk_machine.specs.Machine.{Progress, begun, takes_from, puts_from}
use Rattle.lid_shell.specs.declared.actor.Actor.{Actor}
use Rattle.lid_shell.specs.Actors.{IsActor}
use Rattle.lid_shell.specs.Boards.{Agrees}
use Rattle.lid_shell.specs.Steps.{Works, IsOwn}
use Rattle.lid_walk_machine.proofs.Counts.{early}
use Rattle.lid_walk.proofs.Serving.{drains_by, fills_by}
use Rattle.lid_walk.proofs.Numbers.{few_actors}
use Rattle.lid_free_crew.specs.declared.worker.Worker.{Worker}
use Rattle.lid_free_crew.specs.Posts.{known, IsEndOf, AreApart, IsReady}
use Rattle.lid_free_crew.specs.Shares.{is_own, picked, share, holder}
use Rattle.lid_free_crew.specs.Crews.{HasShare}
use Rattle.lid_free.specs.Workers.{IsEndStart, IsStarted, AreOwners, owner, IsSetOutAs, IsCrew}
use Rattle.lid_free.proofs.Shares.{rank, IsFrom, picked_from, picked_short}

module _ (m : Setup) (board : Board) (workers : ℕ) (owners : List ℕ) (actors : List Actor) (crew : List Worker) (c : IsCrew m board workers owners actors crew) where
  -- the worker to which an end falls
  pub drain_holder : (v i station : ℕ) → slice_get (ins_of (plan m) v) i ≡ Some station → holder workers owners (drain station) ≡ v % workers
  drain_holder v i station h =
      let d = drains_by (plan m) v i station h in
      let there = d.there in
      let odd : (2 * station + 1) % 2 ≡ 1 = omega arith in
      let half : (2 * station + 1) / 2 ≡ station = omega arith in
      let read = c.owners_are.each (drain station) (omega (arith, there)) in
      ap (λ (n : ℕ). n % workers)
      (read ∙ ap (λ (b : Bool). cond b (filler (plan m).links m.placement (drain station / 2)) (drainer (plan m).links m.placement (drain station / 2))) (ne_eqb (drain station % 2) 0 (λ e. omega (arith, e, odd)))
      ∙ ap (drainer (plan m).links m.placement) half ∙ d.drainer)

  pub fill_holder : (v j station : ℕ) → slice_get (outs_of (plan m) v) j ≡ Some station → holder workers owners (fill station) ≡ v % workers
  fill_holder v j station h =
      let d = fills_by (plan m) v j station h in
      let there = d.there in
      let even : (2 * station) % 2 ≡ 0 = omega arith in
      let half : (2 * station) / 2 ≡ station = omega arith in
      let read = c.owners_are.each (fill station) (omega (arith, there)) in
      ap (λ (n : ℕ). n % workers)
      (read ∙ ap (λ (b : Bool). cond b (filler (plan m).links m.placement (fill station / 2)) (drainer (plan m).links m.placement (fill station / 2))) (eq-eqb (fill station % 2) 0 even)
      ∙ ap (filler (plan m).links m.placement) half ∙ d.filler)

  module _ (i : ℕ) (w : Worker) (at_w : slice_get crew i ≡ Some w) where
    out : IsSetOutAs m board workers owners actors i w
    out = c.each i w at_w

    -- what its hand has at an end that falls to it
    pub held_here : (end : ℕ) (h : EndFacts) → holder workers owners end ≡ i → at (start_ends board) end ≡ Some h → at (ends_of w.hand) end ≡ Some h
    held_here end h mine there = out.hand end ∙ ap (λ (b : Bool). cond b (at (start_ends board) end) None) (eq-eqb (holder workers owners end) i mine) ∙ there

    -- it agrees with each of its actors
    pub agrees_at_start : (v : ℕ) → v % workers ≡ i → Agrees m v (begun v) (known w.hand)
    agrees_at_start v mine = record {
      drains = λ k station h.
          let d = drains_by (plan m) v k station h in
          let (x, at_x, start) = c.started.drains station d.there in
          let here = held_here (drain station) x (drain_holder v k station h ∙ mine) at_x in (
            facts x,
            ap (option_map facts) here,
            record {
              capacity = start.cap;
              passed = start.passed_is ∙ sym (early (takes_from (length (ins_of (plan m) v)) (length (outs_of (plan m) v)) + k) 0 0 (omega arith));
              seen = λ low high. absurd (omega (arith, low));
            },
          );
      fills = λ k station h.
          let d = fills_by (plan m) v k station h in
          let (x, at_x, start) = c.started.fills station d.there in
          let here = held_here (fill station) x (fill_holder v k station h ∙ mine) at_x in
          let none = early (puts_from (length (ins_of (plan m) v)) (length (outs_of (plan m) v)) + k) 0 0 (omega arith) in
          let zero_more : start_of (plan m) station + 0 ≡ start_of (plan m) station = omega arith in (
            facts x,
            ap (option_map facts) here,
            record {
              capacity = start.cap;
              passed = start.passed_is ∙ sym zero_more ∙ ap (λ (n : ℕ). start_of (plan m) station + n) (sym none);
              seen = λ low high. absurd (omega (arith, low));
            },
          );
    }

    pub works_at_start : (v : ℕ) (a : Actor) → v % workers ≡ i → slice_get actors v ≡ Some a → Works m v (begun v) a (known w.hand) (AreStreamsOf (start_ends board))
    works_at_start v a mine at_a = record { actor = c.actors_are.each v a at_a; agrees = agrees_at_start v mine; streams = c.started.streams }

    -- where an actor of its share comes from
    pub from_whole : (j : ℕ) (a : Actor) → slice_get w.actors.items j ≡ Some a → IsFrom (is_own workers i) 0 actors j a
    from_whole j a at_a = picked_from (is_own workers i) 0 actors j a (ap (λ (l : List Actor). slice_get l j) (sym out.actors_are) ∙ at_a)

    pub is_mine : (v : ℕ) → is_own workers i (0 + v) ≡ true → v % workers ≡ i
    is_mine v passes = let z : 0 + v ≡ v = omega arith in ap (λ (n : ℕ). n % workers) (sym z) ∙ eqb-true ((0 + v) % workers) i passes

    owner_drain : (v : ℕ) (a : Actor) → IsActor m v (begun v) a → (s k : ℕ) → slice_get a.desk.ins.items k ≡ Some s → drainer_of (plan m) s ≡ v
    owner_drain v a is s k h = (drains_by (plan m) v k s (subst (λ (l : List ℕ). slice_get l k ≡ Some s) is.at.drains h)).drainer

    owner_fill : (v : ℕ) (a : Actor) → IsActor m v (begun v) a → (s k : ℕ) → slice_get a.desk.outs.items k ≡ Some s → filler_of (plan m) s ≡ v
    owner_fill v a is s k h = (fills_by (plan m) v k s (subst (λ (l : List ℕ). slice_get l k ≡ Some s) is.at.fills h)).filler

    -- two actors that share an end are one
    same_owner : (u v end : ℕ) (a b : Actor) → IsActor m u (begun u) a → IsActor m v (begun v) b → IsEndOf a end → IsEndOf b end → u ≡ v
    same_owner u v end a b is_a is_b (s, k, inl own_a) (t, l, inl own_b) =
        let same : s ≡ t = let e = own_a.1 in let f = own_b.1 in omega arith in
        sym (owner_drain u a is_a s k own_a.0) ∙ ap (drainer_of (plan m)) same ∙ owner_drain v b is_b t l own_b.0
    same_owner u v end a b is_a is_b (s, k, inl own_a) (t, l, inr own_b) = absurd (let e = own_a.1 in let f = own_b.1 in omega arith)
    same_owner u v end a b is_a is_b (s, k, inr own_a) (t, l, inl own_b) = absurd (let e = own_a.1 in let f = own_b.1 in omega arith)
    same_owner u v end a b is_a is_b (s, k, inr own_a) (t, l, inr own_b) =
        let same : s ≡ t = let e = own_a.1 in let f = own_b.1 in omega arith in
        sym (owner_fill u a is_a s k own_a.0) ∙ ap (filler_of (plan m)) same ∙ owner_fill v b is_b t l own_b.0

    apart : AreApart w.actors.items
    apart j k end a b at_a at_b own_a own_b =
        let from_a = from_whole j a at_a in
        let from_b = from_whole k b at_b in
        let same = same_owner from_a.place from_b.place end a b (c.actors_are.each from_a.place a from_a.at) (c.actors_are.each from_b.place b from_b.at) own_a own_b in
        sym from_a.ranks ∙ ap (rank (is_own workers i) 0) same ∙ from_b.ranks

    pub is_ready : IsReady board w
    is_ready = record {
      of = out.of;
      agree = λ j a at_a.
          let from = from_whole j a at_a in
          (m, from.place, 0, works_at_start from.place a (is_mine from.place from.passes) from.at);
      apart = apart;
      few =
          let short = picked_short (is_own workers i) 0 actors in
          let long = ap length out.actors_are in
          let many = c.actors_are.many in
          let most = few_actors m c.rules in
          omega arith;
      none = out.none;
    }
