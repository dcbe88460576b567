-- Which fetches and which writes a call makes.
use Rattle.std.specs.Prelude.{◌≡◌, ℕ, zero, suc, ◌+◌, ◌-◌, ◌/◌, ◌≤◌, ◌<◌, min, nat_le, Bool, true, if◌then◌else◌, List, [], ◌∷◌, ◌++◌, length, take, drop, map, Option, IfSome, ⊤}
use Rattle.std.specs.List.{concat}
use Rattle.lid_base.specs.declared.outside.Fetch.{Fetch}
use Rattle.lid_base.specs.Outside.{Came}

-- into how many pieces of 65,536 bytes, the last of which may be shorter, n bytes are cut
abbrev pub pieces_in : ℕ → ℕ
pieces_in n = (n + 65535) / 65536

-- so many cuts of 65,536 bytes
abbrev pub cuts : ℕ → List ℕ → List (List ℕ)
cuts zero text = []
cuts (suc count) text = take 65536 text ∷ cuts count (drop 65536 text)

-- the pieces of a text: all have 65,536 bytes but the last, which has those that are left
abbrev pub pieces_of : List ℕ → List (List ℕ)
pieces_of text = cuts (pieces_in (length text)) text

-- those pieces of a text that have 65,536 bytes
abbrev pub full_pieces : List ℕ → List (List ℕ)
full_pieces text = cuts (length text / 65536) text

-- so many places, the first of which is `at`, each 65,536 past the one before
abbrev pub places_from : ℕ → ℕ → List ℕ
places_from zero at = []
places_from (suc count) at = at ∷ places_from count (at + 65536)

-- where a file of `size` bytes is fetched from the place `at` on, if each fetch gives as many bytes as
-- there is room for or as are left: at the beginning of each piece of the bytes up to one more than the
-- limit, and at the end of the file where that is not past the limit
abbrev pub fetch_places : ℕ → ℕ → ℕ → List ℕ
fetch_places limit size at = places_from (pieces_in (min size (limit + 1) - at)) at ++ (if nat_le size limit then size ∷ [] else [])

-- a fetch of the name from a place, with room for a piece, but for no more than one byte past the limit
abbrev pub fetch_from : List ℕ → ℕ → ℕ → Fetch
fetch_from name limit at = record { name = name; at = at; room = min 65536 (limit + 1 - at) }

-- the fetches of a file of `size` bytes, where each gives as many as there is room for or as are left
abbrev pub fetches_of : List ℕ → ℕ → ℕ → List Fetch
fetches_of name limit size = map (fetch_from name limit) (fetch_places limit size 0)

-- the first place lies between these two, each next one is past the one before by 1 to 65,536, and none
-- is past the limit
abbrev pub Rise : ℕ → ℕ → ℕ → List ℕ → Type 0
Rise limit least most [] = ⊤
Rise limit least most (at ∷ places) = (least ≤ at) × (at ≤ most) × (at ≤ limit) × Rise limit (at + 1) (at + 65536) places

-- fetches of one name, piece after piece from its first byte on
pub record AreFetches (name : List ℕ) (limit : ℕ) (calls : List Fetch) : Type 0 where
  pub places : List ℕ
  pub rise : Rise limit 0 0 places
  pub are : calls ≡ map (fetch_from name limit) places

-- all fetches of a file that was fetched to its end, or until one byte more than the limit was there
pub record IsFetching (whole : Bool) (held : Option (List ℕ)) (name : List ℕ) (limit : ℕ) (calls : List Fetch) : Type 0 where
  pub some : 0 < length calls
  pub named : AreFetches name limit calls
  pub exact : whole ≡ true → IfSome held (λ file. calls ≡ fetches_of name limit (length file))

-- some first fetches of a file
pub record IsFetchingPart (whole : Bool) (held : Option (List ℕ)) (name : List ℕ) (limit : ℕ) (calls : List Fetch) : Type 0 where
  pub named : AreFetches name limit calls
  pub exact : whole ≡ true → IfSome held (λ file. (k : ℕ) × (calls ≡ take k (fetches_of name limit (length file))))

-- calls of which this holds came
abbrev pub CameAs : {A : Type 0} → Option (List A) → Option (List A) → (List A → Type 0) → Type 0
CameAs {A} old new Are = (calls : List A) × Came old new calls × Are calls

-- pieces came that, one after the other, make this text
abbrev pub CameJoined : Option (List (List ℕ)) → Option (List (List ℕ)) → List ℕ → Type 0
CameJoined old new text = CameAs old new (λ pieces. concat pieces ≡ text)

-- pieces came that, one after the other, make some first part of this text
abbrev pub CameJoinedPrefix : Option (List (List ℕ)) → Option (List (List ℕ)) → List ℕ → Type 0
CameJoinedPrefix old new text = CameAs old new (λ pieces. (k : ℕ) × (concat pieces ≡ take k text))

-- before each fetch of a loop, where `at` bytes are there: the fetches so far, and what is said of them
-- with those that are left
pub record FetchesSoFar (whole : Bool) (held : Option (List ℕ)) (name : List ℕ) (limit at : ℕ) (calls : List Fetch) : Type 0 where
  pub places : List ℕ
  pub are : calls ≡ map (fetch_from name limit) places
  pub rise : (later : List ℕ) → Rise limit at at later → Rise limit 0 0 (places ++ later)
  pub some : 0 < at → 0 < length calls
  pub left : whole ≡ true → IfSome held (λ file. (at ≤ min (length file) (limit + 1)) × (calls ++ map (fetch_from name limit) (fetch_places limit (length file) at) ≡ fetches_of name limit (length file)))
