-- Which fetches the steps of a command make that are beneath the top call.
use Rattle.std.specs.Prelude.{◌≡◌, ℕ, Bool, List, [], ◌++◌, Option, Some, None, Result, IfOk, OnOk, IfErr, ◌⊎◌}
use Rattle.lid_base.specs.declared.outside.Fetch.{Fetch}
use Rattle.lid_base_io.specs.Calls.{CameAs, IsFetching, IsFetchingPart}
use Rattle.lid_top_refusals.specs.Refusals.{refusal_line}
use Rattle.lid_top_script.specs.declared.fault.Stop.{Stop}
use Rattle.lid_top_script.specs.declared.fault.Stop.TheVariants.{Refused, Read, Memory, Denied}
use Rattle.lid_top_script.specs.Outputs.{Output, IsTextOf}
use Rattle.lid_top_script.specs.Scripts.{refuses, denies, gives, Script, fetch, again, decide, end, net_limit, text_limit}
use Rattle.lid_top_script.specs.Causes.{MissesSystem, MissesStations}
use Rattle.lid_top_script.specs.Fetches.{Halt, at_end, at_fetch, between, GoesBy}

-- a text that the script may end in, and the fetches by which it comes to that end
pub record HasTextBy (whole : Bool) (held : List ℕ → Option (List ℕ)) (script : Script) (text : List ℕ) (calls : List Fetch) : Type 0 where
  pub output : Output
  pub goes : GoesBy whole held script calls (at_end (gives output))
  pub text_of : IsTextOf output text

-- where a script halts for this reason
abbrev pub halt_of : Stop → Halt
halt_of (Refused refusal) = at_end (refuses (refusal_line refusal))
halt_of (Read file) = at_fetch file.now
halt_of Memory = between
halt_of Denied = at_end denies

-- counts rose only where a fetch failed
abbrev pub StillAt : Stop → (List ℕ → ℕ) → (List ℕ → ℕ) → Type 0
StillAt (Read file) before after = Unit {0}
StillAt _ before after = (q : List ℕ) → after q ≡ before q

-- steps whose calls are these where they come to something, and those where they stop for a reason; so the calls told
-- and the counts are before them and after them
pub record StepsBy {A : Type 0} (All : A → List Fetch → Type 0) (Part : Stop → List Fetch → Type 0)
    (old new : Option (List Fetch)) (before after : List ℕ → ℕ) (result : Result A Stop) : Type 0 where
  pub done : IfOk result (λ a. CameAs old new (All a))
  pub begun : IfErr result (λ stop. CameAs old new (Part stop))
  pub still : OnOk result ((q : List ℕ) → after q ≡ before q)
  pub still_at : IfErr result (λ stop. StillAt stop before after)

-- the fetches of a file that is not read for this reason: all of them, where it is its text that is refused
abbrev pub FetchesFor : Stop → Bool → Option (List ℕ) → List ℕ → ℕ → List Fetch → Type 0
FetchesFor (Refused refusal) = IsFetching
FetchesFor (Read file) = IsFetchingPart
FetchesFor Memory = IsFetchingPart
FetchesFor Denied = IsFetching

-- the steps that read a file
abbrev pub FetchesFile : {A : Type 0} → Bool → Option (List ℕ) → List ℕ → ℕ → Option (List Fetch) → Option (List Fetch) → (List ℕ → ℕ) → (List ℕ → ℕ) → Result A Stop → Type 0
FetchesFile whole held name limit old new before after result =
    StepsBy (λ _. IsFetching whole held name limit) (λ stop. FetchesFor stop whole held name limit) old new before after result

-- the fetches of a file of stations or stalls, where one is named
abbrev pub NamedCalls : Bool → (List ℕ → Option (List ℕ)) → Option (List ℕ) → List Fetch → Type 0
NamedCalls whole held None calls = calls ≡ []
NamedCalls whole held (Some name) calls = IsFetching whole (held name) name text_limit calls

-- the same where it is not read for this reason
abbrev pub NamedPart : Bool → (List ℕ → Option (List ℕ)) → Option (List ℕ) → Stop → List Fetch → Type 0
NamedPart whole held None stop calls = calls ≡ []
NamedPart whole held (Some name) stop calls = FetchesFor stop whole (held name) name text_limit calls

-- the steps to the placement or the stalls of a job
abbrev pub FetchesNamed : {A : Type 0} → Bool → (List ℕ → Option (List ℕ)) → Option (List ℕ) → Option (List Fetch) → Option (List Fetch) → (List ℕ → ℕ) → (List ℕ → ℕ) → Result A Stop → Type 0
FetchesNamed whole held name old new before after result =
    StepsBy (λ _. NamedCalls whole held name) (NamedPart whole held name) old new before after result

-- the fetches of the netlist, and then those of the stations
pub record WrappedCalls (whole : Bool) (held : List ℕ → Option (List ℕ)) (net : List ℕ) (stations : Option (List ℕ)) (calls : List Fetch) : Type 0 where
  pub first : List Fetch
  pub rest : List Fetch
  pub are : calls ≡ first ++ rest
  pub of_net : IsFetching whole (held net) net net_limit first
  pub of_stations : NamedCalls whole held stations rest

-- the system is had, and no placement, after these fetches
pub record MissesStationsBy (whole : Bool) (held : List ℕ → Option (List ℕ)) (net : List ℕ) (stations root : Option (List ℕ)) (before after : List ℕ → ℕ) (stop : Stop) (calls : List Fetch) : Type 0 where
  pub misses : MissesStations held net stations root before after stop
  pub first : List Fetch
  pub rest : List Fetch
  pub are : calls ≡ first ++ rest
  pub of_net : IsFetching whole (held net) net net_limit first
  pub of_stations : NamedPart whole held stations stop rest

-- why the netlist or the stations are not had, after these fetches
abbrev pub MissesWrappedBy : Bool → (List ℕ → Option (List ℕ)) → List ℕ → Option (List ℕ) → Option (List ℕ) → (List ℕ → ℕ) → (List ℕ → ℕ) → Stop → List Fetch → Type 0
MissesWrappedBy whole held net stations root before after stop calls =
    (MissesSystem held net root before after stop × FetchesFor stop whole (held net) net net_limit calls)
    ⊎ MissesStationsBy whole held net stations root before after stop calls

-- the steps to a system with its stations
abbrev pub FetchesWrapped : {A : Type 0} → Bool → (List ℕ → Option (List ℕ)) → List ℕ → Option (List ℕ) → Option (List ℕ) → Option (List Fetch) → Option (List Fetch) → (List ℕ → ℕ) → (List ℕ → ℕ) → Result A Stop → Type 0
FetchesWrapped whole held net stations root old new before after result =
    StepsBy (λ _. WrappedCalls whole held net stations) (MissesWrappedBy whole held net stations root before after) old new before after result

-- a script without a fetch
abbrev pub FetchesNothing : Script → Type 0
FetchesNothing (fetch name limit next) = ⊥
FetchesNothing (again second next) = ⊥
FetchesNothing (decide {A} Good Bad next) = (a : A) → FetchesNothing (next a)
FetchesNothing (end last) = Unit {0}
