-- What sets of borrowed names stand for: lists of names without a name twice. For the contracts of
-- this crate alone.
use denote.Ref.{Bor}
use Rattle.lid_design.specs.Models.{is_twice}
use Rattle.std.specs.Prelude.{◌≡◌, ℕ, if◌then◌else◌, List, [], ◌∷◌, ◌++◌, map}
use Rattle.indexmap.specs.IndexSet.{IndexSet}
use Rattle.lid_check_names.specs.declared.held.HeldName.{HeldName}
pub use Rattle.lid_design.specs.Columns.{is_among}
pub use Rattle.lid_design.specs.Models.{firsts}

-- the names that references lead to
abbrev pub texts : List (Bor (List ℕ)) → List (List ℕ)
texts refs = map (λ (r : Bor (List ℕ)). r.now) refs

-- the bytes of a name as a set keeps it
abbrev pub bytes_of : HeldName → List ℕ
bytes_of held = held.bytes.now

-- the names of a set, in order
abbrev pub names_of : {S : Type 0} → IndexSet HeldName S → List (List ℕ)
names_of set = map bytes_of set.keys

-- a list with a name added after the others, unless it is there already
abbrev pub with_name : List (List ℕ) → List ℕ → List (List ℕ)
with_name names name = if is_among name names then names else names ++ name ∷ []

-- the names of a list, and those that stand in it more than once
pub record IsTally (names all twice : List (List ℕ)) : Type 0 where
  pub each : (n : List ℕ) → is_among n all ≡ is_among n names
  pub again : (n : List ℕ) → is_among n twice ≡ is_twice names n
