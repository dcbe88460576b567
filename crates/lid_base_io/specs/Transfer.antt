-- What one fetch adds to the bytes fetched so far, and the pieces of a text that is written.
use Rattle.std.specs.Prelude.{◌≡◌, ℕ, ◌+◌, ◌-◌, ◌*◌, ◌/◌, ◌<◌, min, Bool, true, List, ◌++◌, length, take, drop, Option, IfSome}

-- of a file of which some first bytes were fetched, `count` more came next; where there is room, there
-- are none only at its end; and from a whole shelf they are as many as there is room for or as are left
pub record ComesNext (whole : Bool) (file old new : List ℕ) (room : ℕ) : Type 0 where
  pub count : ℕ
  pub bytes : new ≡ old ++ take count (drop (length old) file)
  pub size : length new ≡ length old + count
  pub some : 0 < room → length old < length file → 0 < count
  pub all : whole ≡ true → count ≡ min room (length file - length old)

-- where the file's bytes are told: some that come after those that were fetched came next
abbrev pub FetchedNext : Bool → Option (List ℕ) → List ℕ → List ℕ → ℕ → Type 0
FetchedNext whole held old new room = IfSome held (λ file. ComesNext whole file old new room)

-- how many of n bytes make whole pieces of 65,536 bytes
abbrev pub piece_bytes : ℕ → ℕ
piece_bytes n = n / 65536 * 65536

-- the bytes that make whole pieces
unfoldable pub whole_pieces : List ℕ → List ℕ
whole_pieces bytes = take (piece_bytes (length bytes)) bytes

-- the bytes after the whole pieces, fewer than a piece
unfoldable pub after_pieces : List ℕ → List ℕ
after_pieces bytes = drop (piece_bytes (length bytes)) bytes
