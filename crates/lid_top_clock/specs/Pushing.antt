-- A text that is pushed line by line to an output, of which is seen what was written and by which pieces, where these
-- are told. This serves the code of this crate.
use Rattle.std.specs.Prelude.{◌≡◌, ℕ, List, [], ◌++◌, Bool, Option, None, Some, ⊤}
use Rattle.lid_base.specs.Outside.{Appended, AppendedPrefix, Came, CamePrefix}
use Rattle.lid_base_io.specs.Calls.{pieces_of, full_pieces}
use Rattle.lid_base_io.specs.Transfer.{whole_pieces, after_pieces}
use Rattle.lid_texts.specs.RowsText.{row_text}
use Rattle.lid_top_clock.specs.declared.fault.RunFault.{RunFault}
use Rattle.lid_top_clock.specs.declared.fault.RunFault.TheVariants.{Feed, Few, Memory, Write}

-- this text was pushed: its whole pieces were written one by one, and what they leave of it is held
pub record HasPushed {O : Type 0} (written : O → Option (List ℕ)) (pieces : O → Option (List (List ℕ)))
    (before now : O) (held text : List ℕ) : Type 0 where
  pub appended : Appended (written before) (written now) (whole_pieces text)
  pub came : Came (pieces before) (pieces now) (full_pieces text)
  pub rest : held ≡ after_pieces text

-- a prefix of a text was written, by some first of these pieces
pub record WritesFirst {O : Type 0} (written : O → Option (List ℕ)) (pieces : O → Option (List (List ℕ)))
    (before now : O) (text : List ℕ) (calls : List (List ℕ)) : Type 0 where
  pub appended : AppendedPrefix (written before) (written now) text
  pub came : CamePrefix (pieces before) (pieces now) calls

-- a text was pushed after what was pushed before
abbrev pub Adds : {O : Type 0} → (O → Option (List ℕ)) → (O → Option (List (List ℕ))) → O → O → List ℕ → List ℕ → List ℕ → Type 0
Adds {O} written pieces old new held now text =
    (before : O) (pushed : List ℕ) → HasPushed written pieces before old held pushed → HasPushed written pieces before new now (pushed ++ text)

-- a first part of what was pushed before and of this text was written, and no pieces but full ones
abbrev pub Breaks : {O : Type 0} → (O → Option (List ℕ)) → (O → Option (List (List ℕ))) → O → O → List ℕ → List ℕ → Type 0
Breaks {O} written pieces old new held text =
    (before : O) (pushed : List ℕ) → HasPushed written pieces before old held pushed
    → WritesFirst written pieces before new (pushed ++ text) (full_pieces (pushed ++ text))

-- the same where this text is the last one
abbrev pub BreaksAtEnd : {O : Type 0} → (O → Option (List ℕ)) → (O → Option (List (List ℕ))) → O → O → List ℕ → List ℕ → Type 0
BreaksAtEnd {O} written pieces old new held text =
    (before : O) (pushed : List ℕ) → HasPushed written pieces before old held pushed
    → WritesFirst written pieces before new (pushed ++ text) (pieces_of (pushed ++ text))

-- all that was pushed before and this text were written
abbrev pub Closes : {O : Type 0} → (O → Option (List ℕ)) → (O → Option (List (List ℕ))) → O → O → List ℕ → List ℕ → Type 0
Closes {O} written pieces old new held text =
    (before : O) (pushed : List ℕ) → HasPushed written pieces before old held pushed
    → Appended (written before) (written new) (pushed ++ text) × Came (pieces before) (pieces new) (pieces_of (pushed ++ text))

-- why a text was not pushed: there was no memory, or a write failed
abbrev pub IsTellCause : Type 0 → RunFault → Type 0
IsTellCause writes (Feed fault) = ⊥
IsTellCause writes (Few found) = ⊥
IsTellCause writes Memory = ⊤
IsTellCause writes Write = writes

-- but where a write failed, this holds
abbrev pub UnlessWrite : Type 0 → RunFault → Type 0
UnlessWrite IsStill Write = ⊤
UnlessWrite IsStill _ = IsStill

-- the line of a row, where there is one
abbrev pub last_text : List (List ℕ) → Option (List Bool) → List ℕ
last_text columns None = []
last_text columns (Some row) = row_text columns row
