-- How plain stations start.
use Rattle.std.specs.Prelude.{◌≡◌, ℕ, ◌^◌, ◌<◌, false, List, length, get_or, set, replicate, Option, Some, None, slice_get}
use Rattle.std.specs.List.{All}
use Rattle.lid_station.specs.declared.pair.Pair.{Pair}

-- how many tokens a station starts with
abbrev pub start_count : Option ℕ → ℕ
start_count None = 0
start_count (Some token) = 1

-- the places of a station that starts: the start token stands in the first
abbrev pub start_places : Option ℕ → ℕ → List ℕ
start_places None cap = replicate cap 0
start_places (Some token) cap = set (replicate cap 0) 0 token

-- whether a station starts with a token, or none, and a capacity
pub record IsStart (first : Option ℕ) (cap : ℕ) (p : Pair) : Type 0 where
  pub put : p.put ≡ start_count first
  pub taken : p.taken ≡ 0
  pub places : p.places.items ≡ start_places first cap
  pub no_token : p.token_seen ≡ false
  pub no_room : p.room_seen ≡ false

-- whether stations start with tokens, or none, and capacities, one for each
pub record AreStarts (firsts : List (Option ℕ)) (caps : List ℕ) (pairs : List Pair) : Type 0 where
  pub many : length pairs ≡ length firsts
  pub each : (i : ℕ) → (p : Pair) → slice_get pairs i ≡ Some p → IsStart (get_or firsts i None) (get_or caps i 0) p

-- whether streams of 31-bit tokens, each of fewer than 2^64, begin with the start tokens
pub record Begin (firsts : List (Option ℕ)) (streams : ℕ → List ℕ) : Type 0 where
  pub short : (i : ℕ) → i < length firsts → length (streams i) < 2 ^ 64
  pub small : (i : ℕ) → i < length firsts → All (λ token. token < 2 ^ 31) (streams i)
  pub first : (i token : ℕ) → slice_get firsts i ≡ Some (Some token) → slice_get (streams i) 0 ≡ Some token
