-- What it is to say a line on the standard error.
use Rattle.std.specs.Prelude.{ℕ, List, Option, ◌⊎◌}
use Rattle.lid_base.specs.Outside.{Rose, Appended, AppendedPrefix}
use Rattle.lid_base_io.specs.Calls.{CameJoined, CameJoinedPrefix}

-- a line was written, in pieces that make it one after the other; or the sink's count rose, and a prefix of the line
-- was written, in such pieces
abbrev pub Says : {E : Type 0} → (E → Option (List ℕ)) → (E → Option (List (List ℕ))) → (E → ℕ) → E → E → List ℕ → Type 0
Says written pieces faults old new line =
    (Appended (written old) (written new) line × CameJoined (pieces old) (pieces new) line)
    ⊎ (Rose (faults old) (faults new) × AppendedPrefix (written old) (written new) line × CameJoinedPrefix (pieces old) (pieces new) line)
