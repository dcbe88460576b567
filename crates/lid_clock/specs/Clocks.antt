-- Clocked runs over rows that are held at hand, in which nobody is held back.
use Rattle.std.specs.Prelude.{◌≡◌, ℕ, suc, ◌<◌, Bool, List, length, map, take}
use Rattle.std.specs.List.{All}
use Rattle.std.specs.declared.vec.Vec.{Vec}
use Rattle.std.specs.declared.alloc.Global.{Global}
use Rattle.lid_design.specs.Network.{Table}
use Rattle.lid_base.specs.Each.{from_each}
use Rattle.lid_graph.specs.Firings.{no_hold, IsFirstAtCap}
use Rattle.lid_stations.specs.Placements.{links_of}
use Rattle.lid_stations.specs.Markings.{marking}
use Rattle.lid_system.specs.declared.System.{System}
use Rattle.lid_system.specs.Systems.{Point}
use Rattle.lid_system.specs.Streams.{output_row}
use Rattle.lid_shell_laws.specs.Runs.{cap_of, IsWithinLag}
use Rattle.lid_clock_laws.specs.Bounds.{HasBound}
use Rattle.lid_clock.specs.Lives.{Life, IsLife, HoldsNobody, IsBelow, fired_after, sink}
use Rattle.lid_clock.specs.Ran.{Ran}
use Rattle.lid_clock.specs.declared.clocked.Clocked.{Clocked}

-- a life of these rows, in which nobody is held back
pub record IsFreeLife (l : Life) (rows : List (List Bool)) : Type 0 where
  pub rules : IsLife l
  pub input : l.setup.input ≡ rows
  pub nobody : (k : ℕ) → HoldsNobody l k

-- the output rows of the first k cycles
abbrev pub rows_after : Life → ℕ → List (List Bool)
rows_after l k = from_each (output_row l.setup.system l.setup.table) 0 (fired_after l k (sink l))

-- rows have the width of the sink
abbrev pub AreOutWide : System → List (List Bool) → Type 0
AreOutWide s room = (b : Table Point) (t : ℕ) → All (λ row. length row ≡ length (output_row s b t)) room

-- the room for output rows, of which those of the first k cycles were kept: so many
pub record HasKept (l : Life) (k done : ℕ) (room : List (List Bool)) : Type 0 where
  pub count : done ≡ fired_after l k (sink l)
  pub many : length room ≡ length l.setup.input
  pub wide : AreOutWide l.setup.system room
  pub rows : take done room ≡ rows_after l k

-- the rows that vectors hold
abbrev pub rows_in : Vec (Vec Bool Global) Global → List (List Bool)
rows_in rows = map (λ row. row.items) rows.items

-- a run after k cycles, each of which was needed; its stream has made `cycles` of them
pub record Goes (l : Life) (k cycles : ℕ) (c : Clocked) : Type 0 where
  pub free : IsFreeLife l c.input.now.bits
  pub ran : Ran l cycles c.given c.stream
  pub has : HasKept l k c.done (rows_in c.outs)
  pub made : c.made ≡ k
  pub needed : (j : ℕ) → j < cycles → IsBelow l j

-- a run after k cycles
abbrev pub Clocks : Life → ℕ → Clocked → Type 0
Clocks l k c = Goes l k k c

-- a run whose stream has made one cycle more
abbrev pub HasCycled : Life → ℕ → Clocked → Type 0
HasCycled l k c = Goes l k (suc k) c

-- a run of some life
abbrev pub IsClockedRun : Clocked → Type 0
IsClockedRun c = (l : Life) × (k : ℕ) × Clocks l k c

-- a run is over after so many cycles: they are the least after which the sink has fired for each row, and
-- within the bound, which there is
pub record IsOver (l : Life) (cycles : ℕ) : Type 0 where
  pub ends : IsFirstAtCap (marking (links_of l.setup.system) l.setup.placement) (cap_of (links_of l.setup.system) (length l.setup.input)) no_hold (sink l) cycles
  pub within : IsWithinLag (links_of l.setup.system) l.setup.placement (length l.setup.input) cycles
  pub bound : HasBound (links_of l.setup.system) l.setup.placement (length l.setup.input) cycles
