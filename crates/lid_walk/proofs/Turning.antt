-- What a turn of one actor leaves of the others, and of the board.
use Rattle.std.proofs.Common.{◌≡◌, ℕ, ◌+◌, ◌<◌, List, get_or, set, refl, sym, ◌∙◌, ap, subst, arith}
use Rattle.std.specs.Prelude.{Option, Some, slice_get}
use Rattle.lid_station.specs.Plain.{plain_ends, PlainStands}
use Rattle.lid_station.specs.declared.pair.Pair.{Pair}
use Rattle.lid_walk_machine.specs.Plans.{actors_of}
use Rattle.lid_walk_machine.specs.Setups.{plan}
use Rattle.lid_shell_laws.specs.Setups.{Setup}
use Rattle.lid_walk_machine.specs.Machine.{Progress, State, turn, turn_answer}
use Rattle.lid_walk_machine.specs.Laws.{HasTurned}
use Rattle.lid_walk_machine.proofs.Turns.{has_turned}
use Rattle.lid_shell.specs.declared.actor.Actor.{Actor}
use Rattle.lid_shell.specs.declared.turn.TurnEnd.{TurnEnd}
use Rattle.lid_shell.specs.declared.turn.TurnEnd.TheVariants.{Fired}
use Rattle.lid_shell.specs.Actors.{IsActor}
use Rattle.lid_shell.specs.Boards.{ServesAll}
use Rattle.lid_shell.specs.Steps.{Works, Moves}
use Rattle.lid_shell.specs.Turns.{fired_at, Turned}
use Rattle.lid_shell.specs.TurnEnds.{end_at}
pub use Rattle.lid_shell.proofs.Along.{resting}
use Rattle.lid_walk.specs.declared.walk.Walk.{Walk}
use Rattle.lid_walk.specs.Walks.{Walks, HasActor, HasActorAtRest}
use Rattle.lid_walk.proofs.Stepping.{works, serves, has_place, is_actor, all_moved}
use Rattle.lid_base.proofs.Places.{item_read}

-- progress is how often was fired, and where
pub as_far : (p q : Progress) → p.fired ≡ q.fired → p.position ≡ q.position → p ≡ q
as_far p q fired position = ap (λ (n : ℕ). let r : Progress = record { fired = n; position = p.position } in r) fired ∙ ap (λ (n : ℕ). let r : Progress = record { fired = q.fired; position = n } in r) position

-- an actor at rest works at the board
pub works_at_rest : (m : Setup) (st : State) (w : Walk) (v : ℕ) (a : Actor) → Walks m st w → v < actors_of (plan m) → (st v).position ≡ 0 → slice_get w.actors.items v ≡ Some a
    → Works m v (resting (st v).fired) a (plain_ends w.board.pairs.items) (PlainStands w.board.pairs.items)
works_at_rest m st w v a walks h rests there =
    subst (λ (q : Progress). Works m v q a (plain_ends w.board.pairs.items) (PlainStands w.board.pairs.items)) (as_far (st v) (resting (st v).fired) refl rests) (works m st w v a walks h there)

-- actor v has made a turn at the board: so all are as the machine says
module _ (m : Setup) (st : State) (w : Walk) (v : ℕ) (a b : Actor) (news : List Pair) (end : TurnEnd)
    (walks : Walks m st w) (h : v < actors_of (plan m)) (rests : (st v).position ≡ 0) (there : slice_get w.actors.items v ≡ Some a)
    (turned : Turned m v (st v).fired end b (plain_ends news) (PlainStands news))
    (is : IsActor m v (turn (plan m) st v v) b) where
  abbrev new : State
  new = turn (plan m) st v

  left : HasTurned (plan m) v st new
  left = has_turned m walks.rules v h st walks.sound

  far : new v ≡ resting (fired_at end (st v).fired)
  far = as_far (new v) (resting (fired_at end (st v).fired)) (sym is.at.fired_is ∙ turned.works.actor.at.fired_is) left.rests

  fired_so : (new v).fired ≡ fired_at end (st v).fired
  fired_so = ap (λ (q : Progress). q.fired) far

  works_then : Works m v (new v) b (plain_ends news) (PlainStands news)
  works_then = subst (λ (q : Progress). Works m v q b (plain_ends news) (PlainStands news)) (sym far) turned.works

  walks_then : (missed : Option ℕ) → Moves a.desk.ins.items a.desk.outs.items missed (plain_ends w.board.pairs.items) (plain_ends news)
      → (x : Walk) → x.actors.items ≡ set w.actors.items v b → x.board.pairs.items ≡ news → Walks m new x
  walks_then = all_moved m st new w v a b news walks there left.others left.sound works_then

-- a turn of an actor that is at rest in a walk, by what its contract says
module _ (w : Walk) (v : ℕ) (a b : Actor) (news : List Pair) (end : TurnEnd) (asked : HasActorAtRest w v) (read : a ≡ get_or w.actors.items v a)
    (turned : (m : Setup) (u fired : ℕ) → Works m u (resting fired) a (plain_ends w.board.pairs.items) (PlainStands w.board.pairs.items) → Turned m u fired end b (plain_ends news) (PlainStands news))
    (exact : (m : Setup) (u : ℕ) (st : State) → (st u).position ≡ 0 → Works m u (st u) a (plain_ends w.board.pairs.items) (PlainStands w.board.pairs.items) → ServesAll m st u (plain_ends w.board.pairs.items)
    → (end ≡ end_at (turn_answer (plan m) st u)) × IsActor m u (turn (plan m) st u u) b) where
  has : HasActor w v
  has = let (m, st, walks, h, rests) = asked in (m, st, walks, h)

  at : slice_get w.actors.items v ≡ Some a
  at = item_read w.actors.items v a (has_place w v has) read

  module _ (m : Setup) (st : State) (walks : Walks m st w) (rests : (st v).position ≡ 0) where
    below : v < actors_of (plan m)
    below = is_actor m st w v has walks

    did : Turned m v (st v).fired end b (plain_ends news) (PlainStands news)
    did = turned m v (st v).fired (works_at_rest m st w v a walks below rests at)

    is_then : IsActor m v (turn (plan m) st v v) b
    is_then = (exact m v st rests (works m st w v a walks below at) (serves m st w v walks)).1

    pub walks_now : (missed : Option ℕ) → Moves a.desk.ins.items a.desk.outs.items missed (plain_ends w.board.pairs.items) (plain_ends news)
        → (x : Walk) → x.actors.items ≡ set w.actors.items v b → x.board.pairs.items ≡ news → Walks m (turn (plan m) st v) x
    walks_now = walks_then m st w v a b news end walks below rests at did is_then

    pub fired_now : (turn (plan m) st v v).fired ≡ fired_at end (st v).fired
    fired_now = fired_so m st w v a b news end walks below rests at did is_then

-- where an actor does not fire in a turn, it has fired as often as before
pub fired_none : (end : TurnEnd) (fired : ℕ) → (end ≡ Fired → ⊥) → fired_at end fired ≡ fired + 0
fired_none Fired fired other = absurd (other refl)
fired_none _ fired other = omega arith
