-- The hands are joined, and the board is closed.
use Rattle.std.proofs.Common.{◌≡◌, ℕ, ◌%◌, ◌<◌, Bool, false, cond, List, length, refl, sym, ◌∙◌, ap, subst, arith, ne_eqb}
use Rattle.std.specs.Prelude.{Option, Some, None, option_map, slice_get}
use Rattle.std.proofs.lemmas.Option.{same_Some, slice_get_within}
use Rattle.lid_station.specs.Boards.{Facts, fill, drain}
use Rattle.lid_station.specs.Plain.{plain_ends, PlainStands}
use Rattle.lid_station.specs.declared.pair.Pair.{Pair}
use Rattle.lid_board.specs.Closing.{closed_facts}
use Rattle.lid_board.specs.Owners.{IsOwned, ends_of, start_ends}
use Rattle.lid_board.specs.Parting.{unseen}
use Rattle.lid_board.specs.Relation.{capacity_of}
use Rattle.lid_board.specs.Views.{at, facts, held, held_of}
use Rattle.lid_board.specs.declared.board.Board.{Board}
use Rattle.lid_board.specs.declared.hand.Hand.{Hand}
use Rattle.lid_board.specs.declared.view.EndFacts.{EndFacts}
use Rattle.lid_walk_machine.specs.Plans.{actors_of, stations_of, cap, stream}
use Rattle.lid_walk_machine.specs.Setups.{plan}
use Rattle.lid_shell_laws.specs.Setups.{Setup}
use Rattle.lid_shell.specs.declared.actor.Actor.{Actor}
use Rattle.lid_shell.specs.Boards.{IsEndWith, IsDrainedBy, IsFilledBy, Agrees}
use Rattle.lid_walk.specs.Walks.{IsBoard}
use Rattle.lid_walk.proofs.Serving.{drains_by, fills_by}
use Rattle.lid_free_crew.specs.declared.worker.Worker.{Worker}
use Rattle.lid_free_crew.specs.Posts.{known}
use Rattle.lid_free_crew.proofs.Misses.{held_there}
use Rattle.lid_free_crew.specs.Shares.{share, holder}
use Rattle.lid_free_crew.specs.Crews.{HaveWorked, HasJoined, AreShared}
use Rattle.lid_free.specs.Settings.{IsPlain}
use Rattle.lid_free.specs.Workers.{IsStarted, IsCrew, fired_of}
use Rattle.lid_free.specs.FreeRuns.{state_of_counts}
use Rattle.lid_free.proofs.Parallel.{HasPair, pair_of, holder_low, mod_low, works_after, kept}
use Rattle.lid_free.proofs.Ready.{drain_holder, fill_holder}
use Rattle.lid_base.proofs.Places.{item_at}

module _ (m : Setup) (board : Board) (workers : ℕ) (owners : List ℕ) (before : List Actor) (olds news : List Worker) (made : ℕ) (actors : List Actor)
    (c : IsCrew m board workers owners before olds) (worked : HaveWorked board made olds news)
    (long : length actors ≡ actors_of (plan m))
    (shares : (i : ℕ) (w : Worker) → slice_get news i ≡ Some w → share workers i actors ≡ w.actors.items) where
  abbrev Pair_ : ℕ → Type 0
  Pair_ i = HasPair m board workers owners before olds news made actors c worked long shares i

  pair : (i : ℕ) → i < workers → Pair_ i
  pair i within = pair_of m board workers owners before olds news made actors c worked long shares i within

  low : (end : ℕ) → holder workers owners end < workers
  low end = holder_low m board workers owners before olds news made actors c worked long shares end

  none_kept : (i end : ℕ) (w : Worker) (h : EndFacts) → (p : Pair_ i) → slice_get news i ≡ Some w → at (ends_of p.old.hand) end ≡ None → at (ends_of w.hand) end ≡ None
  none_kept i end w h p at_w none =
      let same : p.new ≡ w = same_Some p.new w (sym p.at_new ∙ at_w) in
      let gone : known p.new.hand end ≡ None = p.did.stays.ends.none end (ap (option_map facts) none) in
      by_there (at (ends_of w.hand) end) (ap (λ (x : Worker). known x.hand end) (sym same) ∙ gone)
    where
      by_there : (o : Option EndFacts) → option_map facts o ≡ None → o ≡ None
      by_there None e = refl
      by_there (Some x) e = absurd (cc)

  -- no hand has an end that fell to another
  pub shared : AreShared workers owners news
  shared i end w at_w other =
      let within = slice_get_within news i w at_w in
      let p = pair i (omega (arith, within, c.many, worked.many)) in
      let none : at (ends_of p.old.hand) end ≡ None = (c.each i p.old p.at_old).hand end ∙ ap (λ (b : Bool). cond b (at (start_ends board) end) None) (ne_eqb (holder workers owners end) i other) in
      none_kept i end w (held_of None) p at_w none

  module _ (keeper : Hand) (joined : HasJoined workers owners news keeper) where
    -- what the keeper knows then
    pub kept_at : (end : ℕ) → end < length (start_ends board) → (x : EndFacts) × (at (ends_of keeper) end ≡ Some (unseen x)) × (p : Pair_ (holder workers owners end)) × (at (ends_of p.new.hand) end ≡ Some x)
    kept_at end within =
        let p = pair (holder workers owners end) (low end) in
        let k = kept m board workers owners before olds news made actors c worked long shares end (holder workers owners end) within p refl in
        (k.last, joined end p.new p.at_new ∙ ap (option_map unseen) k.at_last, p, k.at_last)

    pub all_kept : (end : ℕ) → end < length (start_ends board) → IsOwned (ends_of keeper) end
    all_kept end within = let k = kept_at end within in k.1 ∙ ap (λ (o : Option EndFacts). Some (held_of o)) (sym k.1)

    -- and the plain board tells it
    module _ (pairs : List Pair) (plain_many : length pairs ≡ stations_of (plan m))
        (closed : (end : ℕ) → end < length (start_ends board) → plain_ends pairs end ≡ Some (closed_facts (held (ends_of keeper) end)))
        (stands : PlainStands pairs (stream (plan m))) where
      -- what the worker of an actor knew of an end, it tells, but for what was seen there
      tells : (i : ℕ) (p : Pair_ i) (end : ℕ) → end < length (start_ends board) → holder workers owners end ≡ i → (P : Facts → Type 0)
          → ((f : Facts) → P f → P (record { cap = f.cap; start = 0; passed = f.passed; mark = false; misses = None })) → IsEndWith (known p.new.hand) end P → IsEndWith (plain_ends pairs) end P
      tells i p end within mine P unseen_too (f, at_f, is) =
          let (x, at_x, is_x) = held_there (at (ends_of p.new.hand) end) f at_f in
          let here : at (ends_of keeper) end ≡ Some (unseen x) = joined end p.new (ap (slice_get news) mine ∙ p.at_new) ∙ ap (option_map unseen) at_x in (
            closed_facts (unseen x),
            closed end within ∙ ap (λ (o : Option EndFacts). Some (closed_facts (held_of o))) here,
            unseen_too (facts x) (subst P (sym is_x) is),
          )

      agrees_closed : (v : ℕ) (b : Actor) → slice_get actors v ≡ Some b → Agrees m v (state_of_counts (fired_of actors) v) (plain_ends pairs)
      agrees_closed v b at_b =
          let q = state_of_counts (fired_of actors) v in
          let p = pair (v % workers) (mod_low m board workers owners before olds news made actors c worked long shares v) in
          let w = works_after m board workers owners before olds news made actors c worked long shares v b at_b p in
          let many = c.started.many in
          record {
            drains = λ i station h.
                let there = (drains_by (plan m) v i station h).there in
                tells (v % workers) p (drain station) (omega (arith, there, many)) (drain_holder m board workers owners before olds c v i station h) (IsDrainedBy m v q i station)
                (λ f is. record { capacity = is.capacity; passed = is.passed; seen = λ lower higher. absurd (omega (arith, lower)) })
                (w.agrees.drains i station h);
            fills = λ j station h.
                let there = (fills_by (plan m) v j station h).there in
                tells (v % workers) p (fill station) (omega (arith, there, many)) (fill_holder m board workers owners before olds c v j station h) (IsFilledBy m v q j station)
                (λ f is. record { capacity = is.capacity; passed = is.passed; seen = λ lower higher. absurd (omega (arith, lower)) })
                (w.agrees.fills j station h);
          }

      pub board_closed : IsBoard m (state_of_counts (fired_of actors)) pairs
      board_closed = record {
        many = plain_many;
        agrees = λ v h. let (b, at_b) = item_at actors v (omega (arith, h, long)) in agrees_closed v b at_b;
        streams = stands;
      }

-- the capacities of a plain board are those of the board
pub caps_are : (m : Setup) (board : Board) (pairs : List Pair) → IsStarted m board → IsPlain m pairs → (station : ℕ) (p : Pair) → slice_get pairs station ≡ Some p → length p.places.items ≡ capacity_of (start_ends board) station
caps_are m board pairs started plain station p at_p =
    let within = slice_get_within pairs station p at_p in
    let many = plain.many in
    let (h, at_h, start) = started.fills station (omega (arith, within, many)) in
    plain.caps station p at_p ∙ sym start.cap ∙ ap (λ (o : Option EndFacts). (held_of o).cap) (sym at_h)
