-- Serves the bodies: what an actor's desk and part are while a firing goes on, and what each act does to them.
use Rattle.std.specs.Prelude.{◌≡◌, ℕ, ◌+◌, ◌<◌, ◌≤◌, ◌==◌, Bool, true, false, List, length, map, set, Option, Some, None, slice_get}
use Rattle.std.specs.List.{All}
use Rattle.lid_base.specs.declared.runs.Answer.{Answer}
use Rattle.lid_base.specs.declared.runs.Answer.TheVariants as answer
use Rattle.lid_design.specs.Network.{Table}
use Rattle.lid_system.specs.declared.System.{System}
use Rattle.lid_system.specs.Systems.{Point, IsWellFormed}
use Rattle.lid_system.specs.Tables.{IsTable}
use Rattle.lid_system.specs.Streams.{output_row}
use Rattle.lid_shell_nodes.specs.Nodes.{tokens_to}
use Rattle.lid_shell_nodes.specs.Wiring.{SinkView, IsSinkOf}
use Rattle.lid_stations.specs.Laws.{StationsStandBetweenActors}
use Rattle.lid_shell_laws.specs.Laws.{NodesDrainTheirChannels, NodesFillTheirChannels, StationsOfNodesStartWithAToken, MoversMoveTokensOn}
use Rattle.lid_station.specs.Boards.{Ends}
use Rattle.lid_walk_machine.specs.Plans.{actors_of, ins_of, outs_of, cap, start_of, stream}
use Rattle.lid_walk_machine.specs.Setups.{plan}
use Rattle.lid_shell_laws.specs.Setups.{Setup, IsSetup}
use Rattle.lid_walk_machine.specs.Machine.{Progress, State, Act, looks_in, looks_out, takes, puts, fires, takes_from, puts_from, ends_at, in_at, out_at, is_last, tells, moves, finds_at}
use Rattle.lid_shell.specs.declared.actor.Actor.{Actor}
use Rattle.lid_shell.specs.declared.desk.Desk.{Desk}
use Rattle.lid_shell.specs.declared.desk.Next.{Next}
use Rattle.lid_shell.specs.declared.desk.Next.TheVariants.{LookIn, LookOut, Take, Put, Fire}
use Rattle.lid_shell.specs.declared.turn.TurnEnd.{TurnEnd}
use Rattle.lid_shell.specs.declared.turn.TurnEnd.TheVariants as end
use Rattle.lid_shell.specs.declared.part.Given.{Given}
use Rattle.lid_shell.specs.declared.part.Role.{Role}
use Rattle.lid_shell.specs.Parts.{IsRole}
use Rattle.lid_shell.specs.Actors.{IsDesk, IsActor, row_number}
use Rattle.lid_shell.specs.Boards.{Agrees, ServesAll}
use Rattle.lid_shell.specs.Steps.{Works, found_in}

-- what laws say of actors and stations
pub record ActorsGoByRules : Type 0 where
  pub between : StationsStandBetweenActors
  pub drained : NodesDrainTheirChannels
  pub filled : NodesFillTheirChannels
  pub starts : StationsOfNodesStartWithAToken
  pub moves : MoversMoveTokensOn

-- what is next, as an act of the machine
abbrev pub act_in : Next → Act
act_in (LookIn i) = looks_in i
act_in (LookOut j) = looks_out j
act_in (Take i) = takes i
act_in (Put j) = puts j
act_in Fire = fires

-- at which positions it is next
abbrev pub IsNext : ℕ → ℕ → ℕ → Next → Type 0
IsNext ins outs position (LookIn i) = (position ≡ i) × (i < ins)
IsNext ins outs position (LookOut j) = (position ≡ ins + j) × (j < outs)
IsNext ins outs position (Take i) = (position ≡ takes_from ins outs + i) × (i < ins)
IsNext ins outs position (Put j) = (position ≡ puts_from ins outs + j) × (j < outs)
IsNext ins outs position Fire = ends_at ins outs ≤ position

abbrev pub IsAbout : Setup → ℕ → Progress → Next → Type 0
IsAbout m v q next = IsNext (length (ins_of (plan m) v)) (length (outs_of (plan m) v)) q.position next

-- the tokens that a firing takes, and those that it puts
abbrev pub tokens_taken : Setup → ℕ → ℕ → List ℕ
tokens_taken m v fired = map (λ station. (plan m).token station fired) (ins_of (plan m) v)

abbrev pub tokens_made : Setup → ℕ → ℕ → List ℕ
tokens_made m v fired = map (λ station. (plan m).token station (start_of (plan m) station + fired)) (outs_of (plan m) v)

-- the tokens of a firing are ready to be put
abbrev pub AreMade : Setup → ℕ → ℕ → List ℕ → Type 0
AreMade m v fired tokens =
    (j station : ℕ) → slice_get (outs_of (plan m) v) j ≡ Some station → slice_get tokens j ≡ Some ((plan m).token station (start_of (plan m) station + fired))

-- a sink makes a row of the tokens that it takes
abbrev pub MakesRow : SinkView → List ℕ → List Bool → Type 0
MakesRow node taken row =
    (s : System) (rows : List (List Bool)) (b : Table Point) (v t : ℕ)
    → IsWellFormed s → IsTable s rows b → t < length rows → IsSinkOf s v node → taken ≡ tokens_to s b v t → row ≡ output_row s b t

-- the part of an actor that takes the tokens of a firing, where so many are put
pub record IsPassing (m : Setup) (v fired : ℕ) (taken : List ℕ) (outs : ℕ) (part : Role) : Type 0 where
  pub rules : IsSetup m
  pub there : v < actors_of (plan m)
  pub below : fired < cap (plan m) v
  pub takes : taken ≡ tokens_taken m v fired
  pub puts : outs ≡ length (outs_of (plan m) v)
  pub is : IsRole m v fired fired part

pub record CanPass (fired : ℕ) (taken : List ℕ) (outs : ℕ) (part : Role) : Type 0 where
  pub setup : Setup
  pub number : ℕ
  pub passing : IsPassing setup number fired taken outs part

-- a sink has room for the row that it makes
pub record CanReceive (rows : Given) (node : SinkView) (taken : ℕ) : Type 0 where
  pub takes : taken ≡ node.taken
  pub wide : All (λ row. length row ≡ length node.reads) rows.rows.items
  pub room : rows.count < length rows.rows.items

-- it has made a row of the tokens that it takes, and given it
pub record Receives (old : Given) (node : SinkView) (taken : List ℕ) (new : Given) : Type 0 where
  pub columns : new.columns ≡ old.columns
  pub count : new.count ≡ old.count + 1
  pub row : List Bool
  pub makes : MakesRow node taken row
  pub wide : length row ≡ length node.reads
  pub rows : new.rows.items ≡ set old.rows.items old.count row

-- the part has taken them and made those that are put
pub record HasPassed (m : Setup) (v fired : ℕ) (into : List ℕ) (part : Role) : Type 0 where
  pub makes : into ≡ tokens_made m v fired
  pub is : IsRole m v (fired + 1) (fired + 1) part

-- an actor below its cap, before a firing, within it, or at its end
pub record IsBusy (m : Setup) (v : ℕ) (q : Progress) (d : Desk) : Type 0 where
  pub rules : IsSetup m
  pub there : v < actors_of (plan m)
  pub below : q.fired < cap (plan m) v
  pub within : q.position ≤ ends_at (length (ins_of (plan m) v)) (length (outs_of (plan m) v))
  pub at : IsDesk m v q d

-- and a board that agrees with it and stands for the streams
pub record IsBusyAtBoard (m : Setup) (v : ℕ) (q : Progress) (d : Desk) (ends : Ends) (stands : (ℕ → List ℕ) → Type 0) : Type 0 where
  pub busy : IsBusy m v q d
  pub agrees : Agrees m v q ends
  pub streams : stands (stream (plan m))

-- one position further
abbrev pub further : Progress → Progress
further q = record { fired = q.fired; position = q.position + 1 }

-- back at the first position
abbrev pub set_back : Progress → Progress
set_back q = record { fired = q.fired; position = 0 }

-- one firing more, where this was its end
abbrev pub closed : Bool → Progress → Progress
closed true q = record { fired = q.fired + 1; position = 0 }
closed false q = q

-- a desk can do what is next
pub record CanDo (next : Next) (d : Desk) (ends : Ends) (stands : (ℕ → List ℕ) → Type 0) : Type 0 where
  pub setup : Setup
  pub number : ℕ
  pub far : Progress
  pub work : IsBusyAtBoard setup number far d ends stands
  pub about : IsAbout setup number far next

-- how far it is after a look
abbrev pub looked : Bool → Progress → Progress
looked true q = further q
looked false q = set_back q

-- it has looked
pub record HasLooked (m : Setup) (v : ℕ) (q : Progress) (next : Next) (answer : Answer) (d : Desk) (ends : Ends) (stands : (ℕ → List ℕ) → Type 0) : Type 0 where
  pub answers : answer ≡ tells (plan m) v q.fired (act_in next) (found_in answer) false
  pub work : IsBusyAtBoard m v (looked (found_in answer) q) d ends stands

abbrev pub Looks : Next → Desk → Ends → ((ℕ → List ℕ) → Type 0) → Answer → Desk → Ends → ((ℕ → List ℕ) → Type 0) → Type 0
Looks next old ends stands answer new ends_new stands_new =
    (m : Setup) (v : ℕ) (q : Progress)
    → IsBusyAtBoard m v q old ends stands → IsAbout m v q next → HasLooked m v q next answer new ends_new stands_new

abbrev pub LooksExactly : Next → Desk → Ends → ((ℕ → List ℕ) → Type 0) → Answer → Type 0
LooksExactly next old ends stands answer =
    (m : Setup) (v : ℕ) (st : State)
    → IsBusyAtBoard m v (st v) old ends stands → IsAbout m v (st v) next → ServesAll m st v ends → found_in answer ≡ finds_at (plan m) st v (act_in next)

-- it has taken a token
pub record HasTaken (m : Setup) (v : ℕ) (q : Progress) (i taken : ℕ) (d : Desk) (ends : Ends) (stands : (ℕ → List ℕ) → Type 0) : Type 0 where
  pub token_is : taken ≡ (plan m).token (in_at (plan m) v i) q.fired
  pub work : IsBusyAtBoard m v (further q) d ends stands

-- it has put one
pub record HasPut (m : Setup) (v : ℕ) (q : Progress) (j put : ℕ) (d : Desk) (ends : Ends) (stands : (ℕ → List ℕ) → Type 0) : Type 0 where
  pub token_is : put ≡ (plan m).token (out_at (plan m) v j) (start_of (plan m) (out_at (plan m) v j) + q.fired)
  pub work : IsBusyAtBoard m v (further q) d ends stands

-- a desk can put one
pub record CanPut (j : ℕ) (d : Desk) (ends : Ends) (stands : (ℕ → List ℕ) → Type 0) : Type 0 where
  pub setup : Setup
  pub number : ℕ
  pub far : Progress
  pub work : IsBusyAtBoard setup number far d ends stands
  pub about : IsAbout setup number far (Put j)
  pub ready : AreMade setup number far.fired d.tokens.items

-- an actor with its part
pub record IsGoing (m : Setup) (v : ℕ) (q : Progress) (a : Actor) : Type 0 where
  pub busy : IsBusy m v q a.desk
  pub is : IsRole m v q.fired (row_number m v q) a.part

-- all tokens of a firing are taken, and none is made
pub record IsToMake (m : Setup) (v : ℕ) (q : Progress) (a : Actor) : Type 0 where
  pub busy : IsBusy m v q a.desk
  pub taken : puts_from (length (ins_of (plan m) v)) (length (outs_of (plan m) v)) ≤ q.position
  pub is : IsRole m v q.fired q.fired a.part

pub record CanMake (a : Actor) : Type 0 where
  pub setup : Setup
  pub number : ℕ
  pub far : Progress
  pub to_make : IsToMake setup number far a

-- those that it puts are made
pub record HasMade (m : Setup) (v : ℕ) (q : Progress) (a : Actor) : Type 0 where
  pub busy : IsBusy m v q a.desk
  pub tokens : AreMade m v q.fired a.desk.tokens.items
  pub is : IsRole m v (q.fired + 1) (q.fired + 1) a.part

-- an actor can be made ready for a put
pub record CanReady (j : ℕ) (a : Actor) : Type 0 where
  pub setup : Setup
  pub number : ℕ
  pub far : Progress
  pub going : IsGoing setup number far a
  pub about : IsAbout setup number far (Put j)

-- the tokens of its firing are made, and its part is as after the put
pub record HasTokensReady (m : Setup) (v : ℕ) (q : Progress) (a : Actor) : Type 0 where
  pub busy : IsBusy m v q a.desk
  pub tokens : AreMade m v q.fired a.desk.tokens.items
  pub is : IsRole m v q.fired (q.fired + 1) a.part

-- an actor without stations can fire
pub record CanFire (a : Actor) : Type 0 where
  pub setup : Setup
  pub number : ℕ
  pub far : Progress
  pub going : IsGoing setup number far a
  pub about : IsAbout setup number far Fire

abbrev pub Fires : Actor → Actor → Type 0
Fires old new = (m : Setup) (v : ℕ) (q : Progress) → IsGoing m v q old → IsAbout m v q Fire → IsActor m v (closed true q) new

-- an actor is at the end of a firing
abbrev pub IsAtEnd : Setup → ℕ → Progress → Type 0
IsAtEnd m v q = q.position ≡ ends_at (length (ins_of (plan m) v)) (length (outs_of (plan m) v))

pub record CanClose (a : Actor) : Type 0 where
  pub setup : Setup
  pub number : ℕ
  pub far : Progress
  pub going : IsGoing setup number far a
  pub ending : IsAtEnd setup number far

pub record CanFinish (a : Actor) : Type 0 where
  pub setup : Setup
  pub number : ℕ
  pub far : Progress
  pub going : IsGoing setup number far a

-- an actor at the end of a firing has made all tokens of it
pub record HasClosed (m : Setup) (v : ℕ) (q : Progress) (a : Actor) : Type 0 where
  pub busy : IsBusy m v q a.desk
  pub is : IsRole m v (q.fired + 1) (q.fired + 1) a.part

-- whether a firing ended, and where the actor is then
pub record HasFinished (m : Setup) (v : ℕ) (q : Progress) (ended : Bool) (a : Actor) : Type 0 where
  pub tells : ended ≡ (q.position == ends_at (length (ins_of (plan m) v)) (length (outs_of (plan m) v)))
  pub actor : IsActor m v (closed ended q) a

-- an actor can go on at a board
pub record CanGoAt (next : Next) (a : Actor) (ends : Ends) (stands : (ℕ → List ℕ) → Type 0) : Type 0 where
  pub setup : Setup
  pub number : ℕ
  pub far : Progress
  pub work : IsBusyAtBoard setup number far a.desk ends stands
  pub is : IsRole setup number far.fired (row_number setup number far) a.part
  pub about : IsAbout setup number far next

-- it has made the step
pub record HasMadeNext (m : Setup) (v : ℕ) (q : Progress) (next : Next) (answer : Answer) (a : Actor) (ends : Ends) (stands : (ℕ → List ℕ) → Type 0) : Type 0 where
  pub answers : answer ≡ tells (plan m) v q.fired (act_in next) true (is_last (plan m) v q.position)
  pub works : Works m v (moves (act_in next) true (is_last (plan m) v q.position) q) a ends stands

abbrev pub MakesNext : Next → Actor → Ends → ((ℕ → List ℕ) → Type 0) → Answer → Actor → Ends → ((ℕ → List ℕ) → Type 0) → Type 0
MakesNext next old ends stands answer new ends_new stands_new =
    (m : Setup) (v : ℕ) (q : Progress)
    → IsBusyAtBoard m v q old.desk ends stands → IsRole m v q.fired (row_number m v q) old.part → IsAbout m v q next
    → HasMadeNext m v q next answer new ends_new stands_new

-- how a turn ends in which this is answered; it goes on where the actor is within a firing
abbrev pub ending : Answer → Option TurnEnd
ending (answer.Void station told) = Some (end.Void station told)
ending (answer.Stop station told) = Some (end.Stop station told)
ending answer.Done = Some end.Done
ending answer.Fired = Some end.Fired
ending (answer.Took station token true) = Some end.Fired
ending (answer.Put station token true) = Some end.Fired
ending _ = None
