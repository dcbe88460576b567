-- What the parts of actors make of tokens.
use Rattle.std.specs.Prelude.{◌≡◌, ℕ, ◌+◌, ◌<◌, Bool, List, length, Option, Some, None, slice_get}
use Rattle.lid_design.specs.Network.{Table}
use Rattle.lid_system.specs.declared.System.{System}
use Rattle.lid_system.specs.Systems.{Point, IsWellFormed}
use Rattle.lid_system.specs.Tables.{IsTable}
use Rattle.lid_system.specs.Streams.{output_row}
use Rattle.lid_shell_nodes.specs.Nodes.{tokens_to, tokens_from}
use Rattle.lid_shell_nodes.specs.Wiring.{SourceView, ShellView, SinkView, IsSourceOf, IsShellOf, IsSinkOf}
use Rattle.lid_clock.specs.declared.part.Role.{Role}
use Rattle.lid_clock.specs.declared.part.Role.TheVariants.{Source, Shell, Mover, Sink}

-- a part takes and puts so many tokens in a firing, and its row is as wide as its node says
abbrev pub IsOfSize : Role → ℕ → ℕ → Type 0
IsOfSize (Source node row) ins outs = (length row.items ≡ node.width) × (outs ≡ length node.ports)
IsOfSize (Shell node) ins outs = (ins ≡ node.taken) × (outs ≡ length node.ports)
IsOfSize Mover ins outs = (ins ≡ 1) × (outs ≡ 1)
IsOfSize (Sink node row) ins outs = (length row.items ≡ length node.reads) × (ins ≡ node.taken)

-- a source makes tokens of its row
abbrev pub MakesTokens : SourceView → List Bool → List ℕ → Type 0
MakesTokens node row into =
    (s : System) (rows : List (List Bool)) (b : Table Point) (t : ℕ)
    → IsWellFormed s → IsSourceOf s node → IsTable s rows b → slice_get rows t ≡ Some row → into ≡ tokens_from s b 0 t

-- a shell that takes the tokens of a row goes on to the next one, and makes its tokens
pub record GoesOn (old new : ShellView) (taken into : List ℕ) : Type 0 where
  pub goes :
      (s : System) (rows : List (List Bool)) (b : Table Point) (v t : ℕ)
      → IsWellFormed s → IsTable s rows b → t < length rows → IsShellOf s b v t old → taken ≡ tokens_to s b v t → IsShellOf s b v (t + 1) new
  pub gives :
      (s : System) (rows : List (List Bool)) (b : Table Point) (v t : ℕ)
      → IsWellFormed s → IsTable s rows b → t + 1 < length rows → IsShellOf s b v t old → taken ≡ tokens_to s b v t → into ≡ tokens_from s b v (t + 1)

-- a sink makes a row of the tokens that it takes
abbrev pub MakesRow : SinkView → List ℕ → List Bool → Type 0
MakesRow node taken row =
    (s : System) (rows : List (List Bool)) (b : Table Point) (v t : ℕ)
    → IsWellFormed s → IsTable s rows b → t < length rows → IsSinkOf s v node → taken ≡ tokens_to s b v t → row ≡ output_row s b t

-- a part that takes these tokens puts those
abbrev pub Passes : Role → List ℕ → List ℕ → Role → Type 0
Passes (Source node row) taken into (Source now line) = (now ≡ node) × (line.items ≡ row.items) × MakesTokens node row.items into
Passes (Shell node) taken into (Shell now) = GoesOn node now taken into
Passes Mover taken into Mover = into ≡ taken
Passes (Sink node row) taken into (Sink now line) = (now ≡ node) × MakesRow node taken line.items
Passes _ taken into _ = ⊥

-- the row that a sink made last
abbrev pub row_of : Role → Option (List Bool)
row_of (Sink node row) = Some row.items
row_of _ = None
