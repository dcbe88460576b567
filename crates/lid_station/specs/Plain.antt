-- What a plain station shows at its ends, and which streams plain stations stand for.
use Rattle.std.specs.Prelude.{◌≡◌, ℕ, ◌+◌, ◌%◌, ◌/◌, ◌^◌, ◌<◌, ◌≤◌, ◌==◌, Bool, true, false, List, length, get_or, Option, Some, None, option_map, slice_get}
use Rattle.std.specs.List.{All}
use Rattle.lid_station.specs.declared.pair.Pair.{Pair}
use Rattle.lid_station.specs.Boards.{Facts}

-- what is known of one end of a plain station: its filled one, or else its drained one. With how
-- many tokens it started is not known, and misses are not counted
abbrev pub end_facts : Bool → Pair → Facts
end_facts true p =
    record { cap = length p.places.items; start = 0; passed = p.put; mark = p.room_seen; misses = None }
end_facts false p =
    record { cap = length p.places.items; start = 0; passed = p.taken; mark = p.token_seen; misses = None }

-- the ends of plain stations: all of them
abbrev pub plain_ends : List Pair → ℕ → Option Facts
plain_ends pairs end = option_map (end_facts (end % 2 == 0)) (slice_get pairs (end / 2))

-- whether a station stands for a stream: the tokens that it holds are those of the stream from the
-- number taken up to the number put
pub record HoldsTokensOf (p : Pair) (stream : List ℕ) : Type 0 where
  pub short : length stream < 2 ^ 64
  pub small : All (λ token. token < 2 ^ 31) stream
  pub filled : p.put ≤ length stream
  pub held :
      (i : ℕ) → p.taken ≤ i → i < p.put
      → get_or p.places.items (i % length p.places.items) 0 ≡ get_or stream i 0

-- whether each station stands for its stream
abbrev pub PlainStands : List Pair → (ℕ → List ℕ) → Type 0
PlainStands pairs streams = (i : ℕ) → (p : Pair) → slice_get pairs i ≡ Some p → HoldsTokensOf p (streams i)

-- whether a token may be put in a station: it has 31 bits, and the number put can be counted
pub record PlainAdmits (pairs : List Pair) (station token : ℕ) : Type 0 where
  pub small : token < 2 ^ 31
  pub counted : (p : Pair) → slice_get pairs station ≡ Some p → p.put + 1 < 2 ^ 64
