-- What a move of one actor leaves of the others, and of the board: a step, or more of them.
use Rattle.std.proofs.Common.{◌≡◌, ◌≢◌, ℕ, ◌*◌, ◌/◌, ◌%◌, ◌<◌, ◌≤◌, ◌==◌, nat_lt, Bool, true, false, List, [], ◌∷◌, length, get_or, set, refl, sym, ◌∙◌, ap, subst, arith, length-set, eq-eqb}
use Rattle.std.specs.Prelude.{Option, Some, None, option_map, slice_get}
use Rattle.std.proofs.lemmas.Option.{slice_get-get_or, slice_get_past}
use Rattle.std.proofs.lemmas.Bool.{ltb-true, ltb-false}
use mathlib.Core.Logic.{dite}
use native.Mathlib.Decide.{ℕ_discrete}
use Rattle.lid_base.specs.declared.runs.Answer.{Answer}
use Rattle.lid_station.specs.Boards.{Facts, Ends, fill, drain}
use Rattle.lid_station.specs.Plain.{end_facts, plain_ends, PlainStands}
use Rattle.lid_station.specs.declared.pair.Pair.{Pair}
use Rattle.lid_walk_machine.specs.Plans.{actors_of, ins_of, outs_of, cap}
use Rattle.lid_walk_machine.specs.Setups.{plan}
use Rattle.lid_shell_laws.specs.Setups.{Setup, IsSetup}
use Rattle.lid_walk_machine.specs.Machine.{Progress, State, answer_as, after_as, answer_of, finds, next}
use Rattle.lid_walk_machine.specs.Laws.{IsSound}
use Rattle.lid_walk_machine.proofs.Moves.{here, elsewhere}
use Rattle.lid_walk_machine.proofs.Sound.{sound_after}
use Rattle.lid_shell.specs.declared.actor.Actor.{Actor}
use Rattle.lid_shell.specs.Boards.{Agrees, ServesAll}
use Rattle.lid_shell.specs.Actors.{IsActor}
use Rattle.lid_shell.specs.Steps.{Works, MakesStep, IsExact, found_in, IsOwn, Moves}
use Rattle.lid_walk.specs.declared.walk.Walk.{Walk}
use Rattle.lid_walk.specs.Actors.{AreActors}
use Rattle.lid_walk.specs.Walks.{IsBoard, Walks, HasActor}
use Rattle.lid_walk.proofs.Serving.{drains_by, fills_by, drain_apart, fill_apart, serves_all}
use Rattle.lid_base.proofs.Places.{set_here, set_there}

-- an actor of a walk works at the board
pub works : (m : Setup) (st : State) (w : Walk) (v : ℕ) (a : Actor) → Walks m st w → v < actors_of (plan m) → slice_get w.actors.items v ≡ Some a
    → Works m v (st v) a (plain_ends w.board.pairs.items) (PlainStands w.board.pairs.items)
works m st w v a walks h there = record {
  actor = walks.actors.each v a there;
  agrees = walks.board.agrees v h;
  streams = walks.board.streams;
}

pub serves : (m : Setup) (st : State) (w : Walk) (v : ℕ) → Walks m st w → ServesAll m st v (plain_ends w.board.pairs.items)
serves m st w v walks = serves_all m walks.rules st (plain_ends w.board.pairs.items) walks.board.agrees v

-- an actor that exists has its place, and exists in each setup of the walk
pub has_place : (w : Walk) (v : ℕ) → HasActor w v → v < length w.actors.items
has_place w v (m, st, walks, h) = omega (arith, h, walks.actors.many)

pub is_actor : (m : Setup) (st : State) (w : Walk) (v : ℕ) → HasActor w v → Walks m st w → v < actors_of (plan m)
is_actor m st w v has walks = omega (arith, has_place w v has, walks.actors.many)

some_is_not_none : {X : Type 0} {x : X} → Some x ≡ None → ⊥
some_is_not_none h = absurd (cc)

first_of : {X : Type 0} (xs : List X) → 0 < length xs → X
first_of [] h = absurd (omega (arith, h))
first_of (x ∷ xs) h = x

half : (k : ℕ) → 2 * k / 2 ≡ k
half k = omega arith

at_half : (ps : List Pair) (k : ℕ) (o : Option Pair) → slice_get ps k ≡ o → plain_ends ps (2 * k) ≡ option_map (end_facts (2 * k % 2 == 0)) o
at_half ps k o e = ap (λ (n : ℕ). option_map (end_facts (2 * k % 2 == 0)) (slice_get ps n)) (half k) ∙ ap (option_map (end_facts (2 * k % 2 == 0))) e

-- the ends of plain stations tell how many there are
more_than : (pairs news : List Pair) → ((end : ℕ) → plain_ends pairs end ≡ None → plain_ends news end ≡ None) → length news ≤ length pairs
more_than pairs news none = by_less (nat_lt (length pairs) (length news)) refl
  where
    by_less : (b : Bool) → nat_lt (length pairs) (length news) ≡ b → length news ≤ length pairs
    by_less false is = ltb-false (length pairs) (length news) is
    by_less true is =
        let more : length pairs < length news = ltb-true (length pairs) (length news) is in
        let gone = none (2 * length pairs) (at_half pairs (length pairs) None (slice_get_past pairs (length pairs) (omega arith))) in
        absurd (some_is_not_none (sym (at_half news (length pairs) (Some (get_or news (length pairs) d)) (slice_get-get_or news (length pairs) d more)) ∙ gone))
      where
        d : Pair
        d = first_of news (omega (arith, ltb-true (length pairs) (length news) is))

-- so there are as many as before, where each end is served as before
pub as_many : (pairs news : List Pair) → ((end : ℕ) → plain_ends pairs end ≡ None → plain_ends news end ≡ None)
    → ((end : ℕ) (f : Facts) → plain_ends pairs end ≡ Some f → (g : Facts) × (plain_ends news end ≡ Some g)) → length news ≡ length pairs
as_many pairs news none some =
    let less = more_than pairs news none in
    let more = more_than news pairs back in
    omega (arith, less, more)
  where
    by_end : (end : ℕ) (o : Option Facts) → plain_ends pairs end ≡ o → plain_ends news end ≡ None → o ≡ None
    by_end end None e gone = refl
    by_end end (Some f) e gone = let there = some end f e in absurd (some_is_not_none (sym there.1 ∙ gone))

    back : (end : ℕ) → plain_ends news end ≡ None → plain_ends pairs end ≡ None
    back end gone = by_end end (plain_ends pairs end) refl gone

-- actor v has moved at the board of all, and is as far as a state says that leaves the others as they were
module _ (m : Setup) (rules : IsSetup m) (st new : State) (v : ℕ) (ins outs : List ℕ) (ends then_ : Ends)
    (in_is : ins ≡ ins_of (plan m) v) (out_is : outs ≡ outs_of (plan m) v)
    (others : (end : ℕ) → (IsOwn ins outs end → ⊥) → then_ end ≡ ends end)
    (same : (w : ℕ) → w ≢ v → new w ≡ st w) where
  not_drained : (w i station : ℕ) → w ≢ v → slice_get (ins_of (plan m) w) i ≡ Some station → then_ (drain station) ≡ ends (drain station)
  not_drained w i station other h = others (drain station) (drain_apart m v ins outs in_is out_is station (λ mine. other (sym (drains_by (plan m) w i station h).drainer ∙ mine)))

  not_filled : (w j station : ℕ) → w ≢ v → slice_get (outs_of (plan m) w) j ≡ Some station → then_ (fill station) ≡ ends (fill station)
  not_filled w j station other h = others (fill station) (fill_apart m v ins outs in_is out_is station (λ mine. other (sym (fills_by (plan m) w j station h).filler ∙ mine)))

  agrees_else : (w : ℕ) → w ≢ v → Agrees m w (st w) ends → Agrees m w (new w) then_
  agrees_else w other agrees =
      subst (λ (q : Progress). Agrees m w q then_) (sym (same w other))
      record {
        drains = λ i station h. let was = agrees.drains i station h in (was.0, not_drained w i station other h ∙ was.1, was.2);
        fills = λ j station h. let was = agrees.fills j station h in (was.0, not_filled w j station other h ∙ was.1, was.2);
      }

  pub all_agree : Agrees m v (new v) then_ → ((w : ℕ) → w < actors_of (plan m) → Agrees m w (st w) ends) → (w : ℕ) → w < actors_of (plan m) → Agrees m w (new w) then_
  all_agree mine before w h =
      dite (ℕ_discrete w v)
      (λ is. subst (λ (u : ℕ). Agrees m u (new u) then_) (sym is) mine)
      (λ other. agrees_else w other (before w h))

-- actor v has moved at the board, and is as far as a sound state says that leaves the others as they were: so all are as it says
module _ (m : Setup) (st new : State) (w : Walk) (v : ℕ) (a b : Actor) (news : List Pair)
    (walks : Walks m st w) (there : slice_get w.actors.items v ≡ Some a)
    (same : (u : ℕ) → u ≢ v → new u ≡ st u) (sound : IsSound (plan m) new)
    (works_then : Works m v (new v) b (plain_ends news) (PlainStands news)) where
  actors_then : AreActors m new (set w.actors.items v b)
  actors_then = record {
    many = length-set w.actors.items v b ∙ walks.actors.many;
    each = λ u c at. dite (ℕ_discrete u v)
        (λ is. subst (λ (n : ℕ). IsActor m n (new n) c) (sym is)
        (subst (λ (d : Actor). IsActor m v (new v) d) (set_here w.actors.items v b c (subst (λ (n : ℕ). slice_get (set w.actors.items v b) n ≡ Some c) is at)) works_then.actor))
        (λ other. subst (λ (q : Progress). IsActor m u q c) (sym (same u other)) (walks.actors.each u c (sym (set_there w.actors.items v u b other) ∙ at)));
  }

  module _ (missed : Option ℕ) (moves : Moves a.desk.ins.items a.desk.outs.items missed (plain_ends w.board.pairs.items) (plain_ends news)) where
    board_then : IsBoard m new news
    board_then =
        let was = walks.actors.each v a there in
        record {
          many = as_many w.board.pairs.items news moves.none (λ end f e. let g = moves.some end f e in (g.0, g.1)) ∙ walks.board.many;
          agrees = all_agree m walks.rules st new v a.desk.ins.items a.desk.outs.items (plain_ends w.board.pairs.items) (plain_ends news) was.at.drains was.at.fills moves.others same works_then.agrees walks.board.agrees;
          streams = works_then.streams;
        }

    pub all_moved : (x : Walk) → x.actors.items ≡ set w.actors.items v b → x.board.pairs.items ≡ news → Walks m new x
    all_moved x actors board = record {
      rules = walks.rules;
      sound = sound;
      actors = subst (AreActors m new) (sym actors) actors_then;
      board = subst (IsBoard m new) (sym board) board_then;
    }

-- actor v has made a step at the board: so all are as the machine says
module _ (m : Setup) (st : State) (w : Walk) (v : ℕ) (a b : Actor) (news : List Pair) (answer : Answer)
    (walks : Walks m st w) (h : v < actors_of (plan m)) (there : slice_get w.actors.items v ≡ Some a)
    (steps : (m : Setup) (u : ℕ) (q : Progress) → Works m u q a (plain_ends w.board.pairs.items) (PlainStands w.board.pairs.items) → MakesStep m u q answer b (plain_ends news) (PlainStands news))
    (exact : (m : Setup) (u : ℕ) (st : State) → Works m u (st u) a (plain_ends w.board.pairs.items) (PlainStands w.board.pairs.items) → ServesAll m st u (plain_ends w.board.pairs.items) → IsExact m st u answer) where
  step_of : MakesStep m v (st v) answer b (plain_ends news) (PlainStands news)
  step_of = steps m v (st v) (works m st w v a walks h there)

  -- what a look finds decides what follows, and at its cap an actor does not look
  as_found : {X : Type 0} (f : Bool → X) → ((st v).fired ≡ cap (plan m) v → f (found_in answer) ≡ f (finds (plan m) st v)) → f (found_in answer) ≡ f (finds (plan m) st v)
  as_found f at_cap =
      dite (ℕ_discrete (st v).fired (cap (plan m) v)) at_cap
      (λ below. ap f (exact m v st (works m st w v a walks h there) (serves m st w v walks) (omega (arith, below, (walks.sound.actors v h).capped))))

  pub answers_so : answer ≡ answer_of (plan m) st v
  answers_so = step_of.answers ∙ as_found (answer_as (plan m) v (st v)) (λ at. rw (eq-eqb (st v).fired (cap (plan m) v) at) refl)

  works_then : Works m v (next (plan m) st v v) b (plain_ends news) (PlainStands news)
  works_then =
      subst (λ (q : Progress). Works m v q b (plain_ends news) (PlainStands news))
      (as_found (after_as (plan m) v (st v)) (λ at. rw (eq-eqb (st v).fired (cap (plan m) v) at) refl) ∙ sym (here (plan m) st v)) step_of.works

  pub walks_then : (missed : Option ℕ) → Moves a.desk.ins.items a.desk.outs.items missed (plain_ends w.board.pairs.items) (plain_ends news)
      → (x : Walk) → x.actors.items ≡ set w.actors.items v b → x.board.pairs.items ≡ news → Walks m (next (plan m) st v) x
  walks_then = all_moved m st (next (plan m) st v) w v a b news walks there (elsewhere (plan m) st v) (sound_after m walks.rules st v h walks.sound) works_then
