-- Which fetches a script makes, and where it halts.
use Rattle.std.specs.Prelude.{◌≡◌, ◌≢◌, ℕ, nat_lt, Bool, true, List, [], ◌++◌, length, take, Option, IfSome, ◌⊎◌}
use Rattle.std.specs.List.{filter}
use Rattle.lid_base.specs.declared.outside.Fetch.{Fetch}
use Rattle.lid_base_io.specs.Calls.{CameAs, fetches_of, IsFetching, IsFetchingPart}
use Rattle.lid_top_script.specs.Scripts.{Ending, refuses, denies, gives, Rereading, Script, fetch, again, decide, end, IsFetched, IsReread, IsChanged}

-- where a script halts
pub data Halt : Type 0 where
  at_end : Ending → Halt
  at_fetch : List ℕ → Halt  -- a fetch of this file failed
  at_write : Halt  -- a write failed while a file was read a second time
  between : Halt  -- memory was wanting

-- a script may halt so while it fetches this file
abbrev pub HaltsIn : Halt → List ℕ → Type 0
HaltsIn (at_end ending) name = ⊥
HaltsIn (at_fetch file) name = name ≡ file
HaltsIn at_write name = ⊥
HaltsIn between name = Unit {0}

-- or while it reads this file a second time
abbrev pub HaltsInAgain : Halt → List ℕ → Type 0
HaltsInAgain (at_end ending) name = ⊥
HaltsInAgain (at_fetch file) name = name ≡ file
HaltsInAgain at_write name = Unit {0}
HaltsInAgain between name = Unit {0}

-- those fetches of a file, where each gives as many bytes as there is room for or as are left, that begin before so many
-- of its rows have ended
abbrev pub refetches_of : Rereading → ℕ → List ℕ → List Fetch
refetches_of second rows file = filter (λ call. nat_lt (second.ended (take call.at file)) rows) (fetches_of second.name second.limit (length file))

-- the fetches of a file whose rows are read a second time: piece after piece, and from a whole shelf exactly those that
-- begin before the rows that are asked for have ended
pub record IsRefetching (whole : Bool) (held : Option (List ℕ)) (second : Rereading) (calls : List Fetch) : Type 0 where
  pub asked : ℕ
  pub asks : second.Asks asked
  pub part : IsFetchingPart whole held second.name second.limit calls
  pub exact : whole ≡ true → IfSome held (λ file. calls ≡ refetches_of second asked file)

-- some first fetches of such a file: from a whole shelf, of those that begin before all its rows have ended
pub record IsRefetchingPart (whole : Bool) (held : Option (List ℕ)) (second : Rereading) (calls : List Fetch) : Type 0 where
  pub part : IsFetchingPart whole held second.name second.limit calls
  pub exact : whole ≡ true → IfSome held (λ file. (k : ℕ) × (calls ≡ take k (refetches_of second (length second.rows) file)))

-- the script goes by these fetches until it halts so, for some bytes of its files, those told where they are told: all
-- fetches of each file that it comes to, in order, and some first ones of the file in which it halts; and those that are
-- needed of a file whose rows are read a second time, or all, where that has changed
abbrev pub GoesBy : Bool → (List ℕ → Option (List ℕ)) → Script → List Fetch → Halt → Type 0
GoesBy whole held (fetch name limit next) calls halt =
    (HaltsIn halt name × IsFetchingPart whole (held name) name limit calls)
    ⊎ ((bytes : List ℕ) × (first : List Fetch) × (rest : List Fetch) × (calls ≡ first ++ rest)
    × IsFetched held name limit bytes × IsFetching whole (held name) name limit first × GoesBy whole held (next bytes) rest halt)
GoesBy whole held (again second next) calls halt =
    (HaltsInAgain halt second.name × IsRefetchingPart whole (held second.name) second calls)
    ⊎ ((rows : List (List Bool)) × (first : List Fetch) × (rest : List Fetch) × (calls ≡ first ++ rest)
    × IsReread held second rows × IsRefetching whole (held second.name) second first × GoesBy whole held (next rows) rest halt)
    ⊎ ((line : List ℕ) × IsChanged held second line × IsFetching whole (held second.name) second.name second.limit calls × (halt ≡ at_end (refuses line)))
GoesBy whole held (decide {A} Good Bad next) calls halt =
    ((calls ≡ []) × (halt ≡ between))
    ⊎ ((a : A) × Good a × GoesBy whole held (next a) calls halt)
    ⊎ ((line : List ℕ) × Bad line × (calls ≡ []) × (halt ≡ at_end (refuses line)))
GoesBy whole held (end last) calls halt = (calls ≡ []) × ((halt ≡ at_end last) ⊎ (halt ≡ between))

-- a job whose script halts so may end with this status; a write fails where the output is whole, or while a file is read
-- a second time
abbrev pub IsStatusAt : Halt → ℕ → Type 0
IsStatusAt (at_end (refuses line)) status = status ≡ 1
IsStatusAt (at_end denies) status = status ≡ 6
IsStatusAt (at_end (gives output)) status = (status ≡ 0) ⊎ (status ≡ 4)
IsStatusAt (at_fetch file) status = status ≡ 3
IsStatusAt at_write status = status ≡ 4
IsStatusAt between status = status ≡ 5

-- the fetches of a job that ends with this status: its script goes by them until it halts
pub record AreJobCalls (whole : Bool) (held : List ℕ → Option (List ℕ)) (script : Script) (status : ℕ) (calls : List Fetch) : Type 0 where
  pub halt : Halt
  pub goes : GoesBy whole held script calls halt
  pub halts : IsStatusAt halt status

-- the job made these fetches and no other, and no count rose but where one of them failed
pub record FetchesJob (whole : Bool) (held : List ℕ → Option (List ℕ)) (script : Script) (old new : Option (List Fetch)) (before after : List ℕ → ℕ) (status : ℕ) : Type 0 where
  pub came : CameAs old new (AreJobCalls whole held script status)
  pub still : status ≢ 3 → (q : List ℕ) → after q ≡ before q
