-- Crews: workers with their shares.
use Rattle.std.specs.Prelude.{◌≡◌, ℕ, ◌+◌, ◌==◌, nat_lt, cond, List, [], length, map, Option, Some, None, option_map, slice_get, vec_capacity}
use Rattle.lid_base.specs.Each.{from_each}
use Rattle.lid_base.specs.declared.runs.Tally.{Tally}
use Rattle.lid_board.specs.Owners.{IsOf, ends_of}
use Rattle.lid_board.specs.Parting.{unseen}
use Rattle.lid_board.specs.Views.{EndTable, at}
use Rattle.lid_board.specs.declared.board.Board.{Board}
use Rattle.lid_board.specs.declared.hand.Hand.{Hand}
use Rattle.lid_board.specs.declared.view.EndFacts.{EndFacts}
use Rattle.lid_shell.specs.declared.actor.Actor.{Actor}
use Rattle.lid_free_crew.specs.Posts.{StaysAt}
use Rattle.lid_free_crew.specs.Tallies.{IsTallyOf}
use Rattle.lid_free_crew.specs.Nothing.{no_turns}
use Rattle.lid_free_crew.specs.Turns.{HaveGone}
use Rattle.lid_free_crew.specs.Order.{WorksInOrder}
use Rattle.lid_free_crew.specs.Alone.{WorksAlone, MakesRounds}
use Rattle.lid_shell_laws.specs.Setups.{Setup}
use Rattle.lid_walk_machine.specs.Machine.{State}
use Rattle.lid_free_crew.specs.declared.worker.Worker.{Worker}
use Rattle.lid_free_crew.specs.Shares.{share, holder}

-- nothing is seen at the ends
abbrev pub AreUnseen : EndTable → Type 0
AreUnseen all = (end : ℕ) (h : EndFacts) → at all end ≡ Some h → unseen h ≡ h

-- a hand has the ends that fall to worker i, of these
abbrev pub HasShare : ℕ → List ℕ → EndTable → ℕ → Hand → Type 0
HasShare workers owners all i hand = (end : ℕ) → at (ends_of hand) end ≡ cond (holder workers owners end == i) (at all end) None

-- a hand that gave the ends to the first workers
abbrev pub HasGivenEnds : ℕ → List ℕ → EndTable → ℕ → Hand → Type 0
HasGivenEnds workers owners all i hand = (end : ℕ) → at (ends_of hand) end ≡ cond (nat_lt (holder workers owners end) i) None (at all end)

-- a hand without ends
abbrev pub HasNone : Hand → Type 0
HasNone hand = (end : ℕ) → at (ends_of hand) end ≡ None

-- worker i before it has actors
pub record IsHired (board : Board) (workers : ℕ) (owners : List ℕ) (all : EndTable) (i : ℕ) (w : Worker) : Type 0 where
  pub number : w.number ≡ i
  pub of : IsOf w.hand board
  pub hand : HasShare workers owners all i w.hand
  pub none : w.tally ≡ no_turns
  pub idle : w.actors.items ≡ []

-- the first workers
pub record AreHired (board : Board) (workers : ℕ) (owners : List ℕ) (all : EndTable) (many : ℕ) (crew : List Worker) : Type 0 where
  pub many_are : length crew ≡ many
  pub each : (i : ℕ) (w : Worker) → slice_get crew i ≡ Some w → IsHired board workers owners all i w

-- two workers are the same but for their actors
pub record IsSameBut (old new : Worker) : Type 0 where
  pub number : new.number ≡ old.number
  pub hand : new.hand ≡ old.hand
  pub tally : new.tally ≡ old.tally

-- the actors were dealt: each worker has got its share
pub record AreDealt (actors : List Actor) (old new : List Worker) : Type 0 where
  pub many : length new ≡ length old
  pub each :
      (i : ℕ) (w x : Worker) → slice_get old i ≡ Some w → slice_get new i ≡ Some x
      → IsSameBut w x × (x.actors.items ≡ share (length old) i actors)

-- and they were given back, in their order
pub record AreBack (many : ℕ) (actors : List Actor) (old new : List Worker) : Type 0 where
  pub many_are : length actors ≡ many
  pub crew_many : length new ≡ length old
  pub each :
      (i : ℕ) (w x : Worker) → slice_get old i ≡ Some w → slice_get new i ≡ Some x
      → IsSameBut w x × (share (length old) i actors ≡ w.actors.items)

-- a worker made so many rounds
pub record HasWorked (board : Board) (rounds : ℕ) (old new : Worker) : Type 0 where
  pub stays : StaysAt board old new
  pub gone : HaveGone board rounds old new
  pub tally : IsTallyOf board rounds old new
  pub in_order : WorksInOrder board rounds old new
  pub alone : (m : Setup) (numbers : List ℕ) (st : State) → WorksAlone m numbers st board old → MakesRounds m numbers st board rounds new

-- each worker did
pub record HaveWorked (board : Board) (rounds : ℕ) (old new : List Worker) : Type 0 where
  pub many : length new ≡ length old
  pub each : (i : ℕ) (w x : Worker) → slice_get old i ≡ Some w → slice_get new i ≡ Some x → HasWorked board rounds w x

-- no worker's hand has an end that falls to another
abbrev pub AreShared : ℕ → List ℕ → List Worker → Type 0
AreShared workers owners crew =
    (i end : ℕ) (w : Worker) → slice_get crew i ≡ Some w → (holder workers owners end ≡ i → ⊥) → at (ends_of w.hand) end ≡ None

-- a hand has got the ends of all workers, with nothing seen
abbrev pub HasJoined : ℕ → List ℕ → List Worker → Hand → Type 0
HasJoined workers owners crew hand =
    (end : ℕ) (w : Worker) → slice_get crew (holder workers owners end) ≡ Some w → at (ends_of hand) end ≡ option_map unseen (at (ends_of w.hand) end)
