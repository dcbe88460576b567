-- When the wires of a plan are connected: what they read are wires of the plan.
use Rattle.std.specs.Prelude.{◌≡◌, ◌⊎◌, ⊤, ℕ, ◌<◌, ◌≤◌, Bool, true, ◌++◌, [], ◌∷◌, length}
use Rattle.std.specs.List.{AllByRecursion}
use Rattle.lid_base.specs.Lists.{Among}
use Rattle.lid_cover.specs.Cover.{IsCover}
use Rattle.lid_design.specs.Network.{Driver, from_input, from_latch, from_cover, from_connection}
use Rattle.lid_design.specs.Walks.{read_before}
use Rattle.lid_design.specs.Feeds.{read_now}
use Rattle.lid_design.specs.Flat.{IsFlat}
use Rattle.lid_emit_circuit.specs.Wires.{Wire, given, steady, place}
use Rattle.lid_emit_circuit.specs.Plans.{CircuitPlan}
use Rattle.lid_emit_circuit.specs.Network.{emitted}
use Rattle.lid_emit_circuit.specs.Carried.{IsPlan, AreWired}
use Rattle.lid_emit_circuit.specs.Known.{IsKnown, is_late}
use Rattle.lid_emit_circuit.specs.Heights.{height}

-- a wire that an actor reads: a constant, or a bit in a place of a station
abbrev pub IsReadWire : CircuitPlan → Wire → Type 0
IsReadWire q wire =
    ((bit : Bool) × (wire ≡ steady bit))
    ⊎ ((s : ℕ) × (i : ℕ) × (j : ℕ) × (wire ≡ place s i j) × ((s < q.stations) × (i ≤ q.capacity s) × (j < q.width s)))

-- a wire that an actor puts: a data input, what a mover reads, or a net of a shell after a firing
abbrev pub IsPutWire : CircuitPlan → Wire → Type 0
IsPutWire q wire =
    ((j : ℕ) × (wire ≡ given j) × (j < q.inputs))
    ⊎ (IsReadWire q wire ⊎ ((v : ℕ) × (k : ℕ) × (wire ≡ q.after v k) × (k < (q.flat v).nets)))

pub record IsConnected (q : CircuitPlan) : Type 0 where
  pub plan : IsPlan q
  pub put : (s j : ℕ) → s < q.stations → j < q.width s → IsPutWire q (q.put s j)
  pub shows : (wire : Wire) → Among wire q.shows → IsReadWire q wire
  pub shells : (v : ℕ) → 0 < (q.flat v).nets → v < q.nodes
  pub rules : (v : ℕ) → IsFlat (q.flat v)
  pub ins : (v k : ℕ) → Among k (q.flat v).ins → IsReadWire q (q.here v k) × IsReadWire q (q.after v k)
  pub wired : (v : ℕ) → AreWired v (q.flat v) (q.here v) (q.after v) (q.skips v)

-- a latch or a cover
abbrev pub IsCellDriver : Driver Wire → Type 0
IsCellDriver (from_input j) = ⊥
IsCellDriver (from_latch first input) = ⊤
IsCellDriver (from_cover cover reads) = ⊤
IsCellDriver (from_connection w) = ⊥

-- the cover of a cell meets the rules of covers, and has as many inputs as the cell
abbrev pub IsFormed : Driver Wire → Type 0
IsFormed (from_cover cover reads) = IsCover cover × (cover.inputs ≡ length reads)
IsFormed other = ⊤

-- one cell alone drives the wire. It reads wires of the plan, in the same row lower ones, and late ones only where the wire
-- is late itself
pub record IsDrivenByCell (q : CircuitPlan) (wire : Wire) : Type 0 where
  pub source : Driver Wire
  pub only : emitted q wire ≡ source ∷ []
  pub cell : IsCellDriver source
  pub formed : IsFormed source
  pub reads : AllByRecursion (IsKnown q) (read_now source ++ read_before source)
  pub lower : AllByRecursion (λ r. height q r < height q wire) (read_now source)
  pub apart : AllByRecursion (λ r. is_late r ≡ true → is_late wire ≡ true) (read_now source)
