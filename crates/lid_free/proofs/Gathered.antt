-- All that is gathered after the parallel phase.
use Rattle.std.proofs.Common.{◌≡◌, ℕ, zero, suc, ◌+◌, ◌*◌, ◌%◌, ◌<◌, ◌≤◌, List, [], ◌∷◌, length, map, get_or, refl, sym, ◌∙◌, ap, subst, arith}
use Rattle.std.specs.Prelude.{Option, Some, None, option_map, slice_get}
use Rattle.std.proofs.lemmas.Option.{same_Some, slice_get_within, slice_get-map}
use Rattle.lid_base.specs.declared.runs.Tally.{Tally}
use Rattle.lid_base.specs.Each.{from_each}
use Rattle.lid_station.specs.Plain.{plain_ends, PlainStands}
use Rattle.lid_station.specs.declared.pair.Pair.{Pair}
use Rattle.lid_board.specs.Closing.{closed_facts}
use Rattle.lid_board.specs.Owners.{IsOf, IsOwned, ends_of, start_ends}
use Rattle.lid_board.specs.Parting.{unseen}
use Rattle.lid_board.specs.Standing.{AreStreamsOf}
use Rattle.lid_board.specs.Views.{at, held}
use Rattle.lid_board.specs.declared.hand.Hand.{Hand}
use Rattle.lid_board.specs.declared.view.EndFacts.{EndFacts}
use Rattle.lid_walk_machine.specs.Plans.{actors_of, stations_of, cap, stream}
use Rattle.lid_walk_machine.specs.Setups.{plan}
use Rattle.lid_shell_laws.specs.Setups.{Setup, IsSetup}
use Rattle.lid_shell.specs.declared.actor.Actor.{Actor}
use Rattle.lid_walk.specs.Actors.{AreActors}
use Rattle.lid_walk.specs.Walks.{IsBoard}
use Rattle.lid_free_crew.specs.declared.worker.Worker.{Worker}
use Rattle.lid_free_crew.specs.Shares.{is_own, share, numbers_of, holder}
use Rattle.lid_free_crew.specs.Crews.{IsSameBut, AreBack, AreShared, HasJoined, HaveWorked}
use Rattle.lid_free.specs.Workers.{IsCrew, fired_of}
use Rattle.lid_free.specs.FreeRuns.{IsShareTally, state_of_counts}
use Rattle.lid_free.specs.Gathering.{HasWorkedOut, AreGathered}
use Rattle.lid_free.specs.declared.setting.Boards.{Boards}
use Rattle.lid_free.specs.declared.setting.Crew.{Crew}
use Rattle.lid_free.proofs.Shares.{picked_length, picked_map}
use Rattle.lid_free.proofs.Parallel.{HasPair, pair_of, fired_read, actors_after, tally_after}
use Rattle.lid_free.proofs.Closing.{shared, all_kept, board_closed}
use Rattle.lid_free.proofs.Resting.{sound_at_rest}
use Rattle.lid_free.proofs.Rounds.{few_fired}
use Rattle.lid_free.proofs.Firsts.{first_turns}
use Rattle.lid_free.proofs.Solo.{machines}
use Rattle.lid_base.proofs.Each.{each_length}
use Rattle.lid_base.proofs.Places.{item_at}

module _ (m : Setup) (workers made : ℕ) (b : Boards) (crew : Crew) (h : HasWorkedOut m workers made b crew) where
  abbrev c : IsCrew m b.board workers h.set.owners h.set.dealt h.old.workers.items
  c = h.set.crew

  abbrev news : List Worker
  news = crew.workers.items

  pub news_many : length news ≡ workers
  news_many = h.worked.many ∙ c.many

  -- each worker has as many actors as it was dealt
  pub dealt_to : (i : ℕ) (w : Worker) → slice_get news i ≡ Some w → length w.actors.items ≡ length (numbers_of (length news) i crew.actors)
  dealt_to i w at_w =
      let within = slice_get_within news i w at_w in
      let (o, at_o) = item_at h.old.workers.items i (omega (arith, within, h.worked.many)) in
      let own = ap length (c.each i o at_o).actors_are in
      let same = (h.worked.each i o w at_o at_w).gone.many in
      let all : length h.set.dealt ≡ length (from_each (λ v. v) 0 crew.actors) = c.actors_are.many ∙ sym h.actors_many ∙ sym (each_length (λ v. v) 0 crew.actors) in
      let shares = picked_length (is_own workers i) 0 h.set.dealt (from_each (λ v. v) 0 crew.actors) all in
      same ∙ own ∙ shares ∙ ap (λ (n : ℕ). length (numbers_of n i crew.actors)) (sym news_many)

  module _ (actors : List Actor) (lefts : List Worker) (back : AreBack crew.actors actors news lefts) where
    long : length actors ≡ actors_of (plan m)
    long = back.many_are ∙ h.actors_many

    shares_are : (i : ℕ) (w : Worker) → slice_get news i ≡ Some w → share workers i actors ≡ w.actors.items
    shares_are i w at_w =
        let within = slice_get_within news i w at_w in
        let (x, at_x) = item_at lefts i (omega (arith, within, back.crew_many)) in
        ap (λ (n : ℕ). share n i actors) (sym news_many) ∙ (back.each i w x at_w at_x).1

    pub lefts_many : length lefts ≡ workers
    lefts_many = back.crew_many ∙ news_many

    same_left : (i : ℕ) (x : Worker) → slice_get lefts i ≡ Some x → (w : Worker) × (slice_get news i ≡ Some w) × IsSameBut w x
    same_left i x at_x =
        let within = slice_get_within lefts i x at_x in
        let (w, at_w) = item_at news i (omega (arith, within, back.crew_many)) in
        (w, at_w, (back.each i w x at_w at_x).0)

    pub hands_of : (i : ℕ) (x : Worker) → slice_get lefts i ≡ Some x → IsOf x.hand b.board
    hands_of i x at_x =
        let (w, at_w, same) = same_left i x at_x in
        let within = slice_get_within news i w at_w in
        let (o, at_o) = item_at h.old.workers.items i (omega (arith, within, h.worked.many)) in
        subst (λ (y : Hand). IsOf y b.board) (sym same.hand) (h.worked.each i o w at_o at_w).stays.of

    pub lefts_shared : AreShared (length lefts) h.set.owners lefts
    lefts_shared i end x at_x other =
        let (w, at_w, same) = same_left i x at_x in
        ap (λ (y : Hand). at (ends_of y) end) same.hand
        ∙ shared m b.board workers h.set.owners h.set.dealt h.old.workers.items news made actors c h.worked long shares_are i end w at_w
        (λ e. other (ap (λ (n : ℕ). holder n h.set.owners end) lefts_many ∙ e))

    module _ (keeper : Hand) (joins : HasJoined (length lefts) h.set.owners lefts keeper) where
      joined : HasJoined workers h.set.owners news keeper
      joined end w at_w =
          let within = slice_get_within news (holder workers h.set.owners end) w at_w in
          let (x, at_x) = item_at lefts (holder workers h.set.owners end) (omega (arith, within, back.crew_many)) in
          let same = (back.each (holder workers h.set.owners end) w x at_w at_x).0 in
          joins end x (ap (λ (n : ℕ). slice_get lefts (holder n h.set.owners end)) lefts_many ∙ at_x)
          ∙ ap (λ (y : Hand). option_map unseen (at (ends_of y) end)) same.hand

      pub keeps_all : (end : ℕ) → end < length (start_ends b.board) → IsOwned (ends_of keeper) end
      keeps_all = all_kept m b.board workers h.set.owners h.set.dealt h.old.workers.items news made actors c h.worked long shares_are keeper joined

      module _ (pairs : List Pair) (tallies : List Tally) (many : length pairs ≡ length b.plain.pairs.items)
          (closed : (end : ℕ) → end < length (start_ends b.board) → plain_ends pairs end ≡ Some (closed_facts (held (ends_of keeper) end)))
          (stands : (streams : ℕ → List ℕ) → AreStreamsOf (start_ends b.board) streams → PlainStands pairs streams)
          (noted : tallies ≡ map (λ (w : Worker). w.tally) lefts) where
        noted_news : tallies ≡ map (λ (w : Worker). w.tally) news
        noted_news = noted ∙ same_maps lefts news back.crew_many (λ i x w at_x at_w. (back.each i w x at_w at_x).0.tally)
          where
            same_maps : (xs ws : List Worker) → length xs ≡ length ws → ((i : ℕ) (x w : Worker) → slice_get xs i ≡ Some x → slice_get ws i ≡ Some w → x.tally ≡ w.tally)
                → map (λ (w : Worker). w.tally) xs ≡ map (λ (w : Worker). w.tally) ws
            same_maps [] [] same each = refl
            same_maps [] (w ∷ ws) same each = absurd (omega (arith, same))
            same_maps (x ∷ xs) [] same each = absurd (omega (arith, same))
            same_maps (x ∷ xs) (w ∷ ws) same each =
                ap (λ (t : Tally). t ∷ map (λ (y : Worker). y.tally) xs) (each 0 x w refl refl)
                ∙ ap (λ (l : List Tally). w.tally ∷ l) (same_maps xs ws (omega (arith, same)) (λ i y z at_y at_z. each (suc i) y z at_y at_z))

        board_is : IsBoard m (state_of_counts (fired_of actors)) pairs
        board_is =
            board_closed m b.board workers h.set.owners h.set.dealt h.old.workers.items news made actors c h.worked long shares_are keeper joined
            pairs (many ∙ h.given.plain.many) closed (stands (stream (plan m)) c.started.streams)

        are : AreActors m (state_of_counts (fired_of actors)) actors
        are = actors_after m b.board workers h.set.owners h.set.dealt h.old.workers.items news made actors c h.worked long shares_are

        capped : (v : ℕ) → v < actors_of (plan m) → get_or (fired_of actors) v 0 ≤ cap (plan m) v
        capped v there = let (a, at_a) = item_at actors v (omega (arith, there, long)) in (are.each v a at_a).far.capped

        tallies_is : (i : ℕ) (t : Tally) → slice_get tallies i ≡ Some t → IsShareTally (plan m) workers made (fired_of actors) i t
        tallies_is i t at_t =
            let at_map : slice_get (map (λ (w : Worker). w.tally) news) i ≡ Some t = ap (λ (l : List Tally). slice_get l i) (sym noted_news) ∙ at_t in
            let read : option_map (λ (w : Worker). w.tally) (slice_get news i) ≡ Some t = sym (slice_get-map (λ (w : Worker). w.tally) news i) ∙ at_map in
            by_worker (slice_get news i) refl read
          where
            by_worker : (o : Option Worker) → slice_get news i ≡ o → option_map (λ (w : Worker). w.tally) o ≡ Some t → IsShareTally (plan m) workers made (fired_of actors) i t
            by_worker None at_w e = absurd (cc)
            by_worker (Some w) at_w e =
                let within = slice_get_within news i w at_w in
                let p = pair_of m b.board workers h.set.owners h.set.dealt h.old.workers.items news made actors c h.worked long shares_are i (omega (arith, within, news_many)) in
                let same : p.new ≡ w = same_Some p.new w (sym p.at_new ∙ at_w) in
                let is : p.new.tally ≡ t = ap (λ (x : Worker). x.tally) same ∙ same_Some w.tally t e in
                subst (IsShareTally (plan m) workers made (fired_of actors) i) is
                (tally_after m b.board workers h.set.owners h.set.dealt h.old.workers.items news made actors c h.worked long shares_are i p)

        length_map : (l : List Worker) → length (map (λ (w : Worker). w.tally) l) ≡ length l
        length_map [] = refl
        length_map (w ∷ l) = let e = length_map l in omega (arith, e)

        pub gathered : AreGathered m workers made pairs actors tallies
        gathered = record {
          rules = c.rules;
          actors_are = are;
          board = board_is;
          sound = sound_at_rest m c.rules (state_of_counts (fired_of actors)) pairs board_is (λ v there. refl) capped;
          tallies_many = ap length noted_news ∙ length_map news ∙ news_many;
          tallies_are = tallies_is;
          few = few_fired m b.board workers h.set.owners h.set.dealt h.old.workers.items c news made actors h.worked long shares_are;
          first = first_turns m b.board workers h.set.owners h.set.dealt h.old.workers.items news made actors c h.worked long shares_are;
          alone = λ one. machines m b.board workers h.set.owners h.set.dealt h.old.workers.items news made actors c h.worked long shares_are one tallies noted_news;
          run = record {
            board = b.board;
            owners = h.set.owners;
            dealt = h.set.dealt;
            first = h.old.workers.items;
            last = news;
            set = c;
            worked = h.worked;
            tallies_are = noted_news;
            fired_are = λ i w at_w. ap fired_of (sym (shares_are i w at_w)) ∙ picked_map (λ (a : Actor). a.desk.fired) (is_own workers i) 0 actors;
          };
        }
