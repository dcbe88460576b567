-- What fetches, writes and counts of faults say.
use Rattle.std.specs.Prelude.{◌≡◌, ℕ, ◌+◌, ◌-◌, ◌≤◌, ◌<◌, min, Bool, true, List, [], ◌∷◌, ◌++◌, length, take, drop, Option, Some, IfSome}
use Rattle.lid_base.specs.declared.outside.Fetch.{Fetch}

-- a count rose; one that stands at the last value of a u64 counts as risen
abbrev pub Rose : ℕ → ℕ → Type 0
Rose old new = min (old + 1) 18446744073709551615 ≤ new

-- the first n bytes of `into` are those of the file from the place `at`; where there is room, there
-- are none only at its end; and from a whole shelf they are as many as there is room for or as are left
pub record IsFetchedFrom (whole : Bool) (file : List ℕ) (at : ℕ) (into : List ℕ) (n : ℕ) : Type 0 where
  pub bytes : take n into ≡ take n (drop at file)
  pub some : 0 < length into → at < length file → 0 < n
  pub all : whole ≡ true → n ≡ min (length into) (length file - at)

-- where the name's bytes are told: n of them were fetched from the place `at`
abbrev pub FetchedFrom : Bool → Option (List ℕ) → ℕ → List ℕ → ℕ → Type 0
FetchedFrom whole held at into n = IfSome held (λ file. IsFetchedFrom whole file at into n)

-- where the calls so far are told in the end: they were told before, and these calls came after them
abbrev pub Came : {A : Type 0} → Option (List A) → Option (List A) → List A → Type 0
Came {A} old new calls = IfSome new (λ all. (before : List A) × (old ≡ Some before) × (all ≡ before ++ calls))

-- where the calls so far are told in the end: some first of these calls came
abbrev pub CamePrefix : {A : Type 0} → Option (List A) → Option (List A) → List A → Type 0
CamePrefix {A} old new calls = (k : ℕ) × Came old new (take k calls)

-- a fetch of the name from this place, with room for so many bytes
abbrev pub one_fetch : List ℕ → ℕ → ℕ → List Fetch
one_fetch name at room = record { name = name; at = at; room = room } ∷ []

-- where the bytes written are told: the whole piece came after those before
abbrev pub Appended : Option (List ℕ) → Option (List ℕ) → List ℕ → Type 0
Appended old new piece = IfSome old (λ before. new ≡ Some (before ++ piece))

-- where the bytes written are told: some first bytes of the piece came after those before
abbrev pub AppendedPrefix : Option (List ℕ) → Option (List ℕ) → List ℕ → Type 0
AppendedPrefix old new piece = IfSome old (λ before. (k : ℕ) × (new ≡ Some (before ++ take k piece)))

-- an output of the system: what was written, where its writer tells that, and how many writes failed
pub record OutputState : Type 0 where
  pub written : Option (List ℕ)
  pub faults : ℕ
