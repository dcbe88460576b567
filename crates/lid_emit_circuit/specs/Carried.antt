-- When a plan fits together, and what a wrapped system carries: tokens of stations and bits of nets, row by row.
use Rattle.std.specs.Prelude.{◌≡◌, ◌⊎◌, ℕ, ◌+◌, ◌<◌, ◌≤◌, nat_lt, Bool, true, false, not, List, [], ◌∷◌, length}
use Rattle.lid_base.specs.Lists.{Among}
use Rattle.lid_design.specs.declared.Flat.{Flat}
use Rattle.lid_design.specs.declared.FlatLatch.{FlatLatch}
use Rattle.lid_design.specs.declared.FlatCover.{FlatCover}
use Rattle.lid_design.specs.Network.{Table, IsStrict}
use Rattle.lid_design.specs.Flat.{flat_drivers, IsFlat}
use Rattle.lid_emit_circuit.specs.Wires.{Wire, given, steady, level, place, now, later}
use Rattle.lid_emit_circuit.specs.Gates.{PassesOn}
use Rattle.lid_emit_circuit.specs.Plans.{CircuitPlan}
use Rattle.lid_emit_circuit.specs.Network.{sink}
use Rattle.lid_emit_circuit.specs.Runs.{counts_up, row_bit}
use Rattle.lid_emit_circuit.specs.Counts.{fired, put_count, taken_count}

-- actors fill and drain the stations, of which they have lists; the source drains none, and the sink fills none
pub record IsPlan (q : CircuitPlan) : Type 0 where
  pub source : 0 < sink q
  pub last : sink q < q.actors
  pub filled : (s : ℕ) → s < q.stations → q.filler s < q.actors
  pub drained : (s : ℕ) → s < q.stations → q.drainer s < q.actors
  pub room : (s : ℕ) → s < q.stations → 1 ≤ q.capacity s
  pub few : (s : ℕ) → q.first s ≤ 1
  pub is_in : (v s : ℕ) → Among s (q.ins v) → (s < q.stations) × (q.drainer s ≡ v)
  pub is_out : (v s : ℕ) → Among s (q.outs v) → (s < q.stations) × (q.filler s ≡ v)
  pub in_there : (s : ℕ) → s < q.stations → Among s (q.ins (q.drainer s))
  pub out_there : (s : ℕ) → s < q.stations → Among s (q.outs (q.filler s))
  pub source_in : q.ins 0 ≡ []
  pub sink_out : q.outs (sink q) ≡ []

-- so many rows, the bits of the tokens that each station passes, and those of each shell's nets
pub record Original : Type 0 where
  pub rows : ℕ
  pub token : ℕ → ℕ → ℕ → Bool  -- token s n j: bit j of token n of station s
  pub net : ℕ → Table ℕ  -- net v n k: net k of shell v in row n

-- the bit is put from an input row
pub record FromEntry (q : CircuitPlan) (rows : List (List Bool)) (o : Original) (s j : ℕ) : Type 0 where
  pub input : ℕ
  pub within : input < q.inputs
  pub wire : q.put s j ≡ given input
  pub none : q.first s ≡ 0
  pub same :
      (k : ℕ) → k < length rows → counts_up (fired q rows) (q.filler s) k ≡ true
      → fired q rows k (q.filler s) < o.rows → o.token s (fired q rows k (q.filler s)) j ≡ row_bit rows k input

-- it is put by a shell: an output of its pearl after the firing
pub record FromNet (q : CircuitPlan) (o : Original) (s j : ℕ) : Type 0 where
  pub net : ℕ
  pub out : Among net (q.flat (q.filler s)).outs
  pub after_source : 0 < q.filler s
  pub before_sink : q.filler s < sink q
  pub wire : q.put s j ≡ q.after (q.filler s) net
  pub one : q.first s ≡ 1
  pub same : (n : ℕ) → n < o.rows → o.token s n j ≡ o.net (q.filler s) n net

-- it is moved on from the station that the filler drains
pub record FromStation (q : CircuitPlan) (o : Original) (s j : ℕ) : Type 0 where
  pub station : ℕ
  pub there : station < q.stations
  pub bit : ℕ
  pub within : bit < q.width station
  pub drained : q.drainer station ≡ q.filler s
  pub wire : q.put s j ≡ place station 0 bit
  pub none : q.first s ≡ 0
  pub same : (n : ℕ) → n < o.rows → o.token s n j ≡ o.token station n bit

abbrev pub IsPut : CircuitPlan → List (List Bool) → Original → ℕ → ℕ → Type 0
IsPut q rows o s j = FromEntry q rows o s j ⊎ (FromNet q o s j ⊎ FromStation q o s j)

-- a wire that an actor reads for a bit that each row has: a constant, or a bit of the token that it takes
pub record IsTakenWire (q : CircuitPlan) (o : Original) (v : ℕ) (wire : Wire) (bits : ℕ → Bool) : Type 0 where
  pub station : ℕ
  pub there : station < q.stations
  pub bit : ℕ
  pub within : bit < q.width station
  pub drained : q.drainer station ≡ v
  pub is : wire ≡ place station 0 bit
  pub same : (n : ℕ) → n < o.rows → bits n ≡ o.token station n bit

pub record Has (o : Original) (wire : Wire) (bits : ℕ → Bool) : Type 0 where
  pub bit : Bool
  pub is : wire ≡ steady bit
  pub same : (n : ℕ) → n < o.rows → bits n ≡ bit

abbrev pub IsTaken : CircuitPlan → Original → ℕ → Wire → (ℕ → Bool) → Type 0
IsTaken q o v wire bits = Has o wire bits ⊎ IsTakenWire q o v wire bits

-- the net of a cover has the wires of the net whose bit it passes on, or two covers of its own
pub record PassesNet (here after : ℕ → Wire) (skips : ℕ → Bool) (c : FlatCover) : Type 0 where
  pub net : ℕ
  pub skipped : skips c.out ≡ true
  pub reads : c.ins ≡ net ∷ []
  pub passes : PassesOn c.cover
  pub as_here : here c.out ≡ here net
  pub as_after : after c.out ≡ after net

pub record MakesNet (v : ℕ) (here after : ℕ → Wire) (skips : ℕ → Bool) (c : FlatCover) : Type 0 where
  pub made : skips c.out ≡ false
  pub by_now : here c.out ≡ now v c.out
  pub by_later : after c.out ≡ later v c.out

-- the wires of the nets of latches and covers of shell v
pub record AreWired (v : ℕ) (f : Flat) (here after : ℕ → Wire) (skips : ℕ → Bool) : Type 0 where
  pub latches : (l : FlatLatch) → Among l f.latches → (here l.out ≡ now v l.out) × (after l.out ≡ here l.input)
  pub covers : (c : FlatCover) → Among c f.covers → PassesNet here after skips c ⊎ MakesNet v here after skips c

-- a shell has the bits of its pearl's flat part
pub record IsCarriedShell (q : CircuitPlan) (o : Original) (v : ℕ) : Type 0 where
  pub rules : IsFlat (q.flat v)
  pub inputs : List (List Bool)
  pub long : length inputs ≡ o.rows
  pub table : IsStrict (flat_drivers (q.flat v)) inputs (o.net v)
  pub given : (k : ℕ) → Among k (q.flat v).ins → IsTaken q o v (q.here v k) (λ n. o.net v n k)
  pub wired : AreWired v (q.flat v) (q.here v) (q.after v) (q.skips v)

-- what is put and what is taken is that of the original
pub record IsCarried (q : CircuitPlan) (rows : List (List Bool)) (o : Original) : Type 0 where
  pub begins : (s j : ℕ) → s < q.stations → j < q.width s → q.first s ≡ 1 → 0 < o.rows → o.token s 0 j ≡ q.begins s j
  pub put : (s j : ℕ) → s < q.stations → j < q.width s → IsPut q rows o s j
  pub shells : (v : ℕ) → 0 < v → v < sink q → IsCarriedShell q o v

-- a station that was put so many tokens, and from which so many were taken, holds at least i
abbrev pub holds : ℕ → ℕ → ℕ → Bool
holds put taken i = not (nat_lt put (taken + i))

-- in row k the levels of a station show how many tokens it holds
abbrev pub ShowsLevels : CircuitPlan → List (List Bool) → Table Wire → ℕ → Type 0
ShowsLevels q rows b k =
    (s i : ℕ) → s < q.stations → i ≤ q.capacity s + 1
    → b k (level s i) ≡ holds (put_count q (fired q rows k) s) (taken_count q (fired q rows k) s) i

-- its places show the tokens that it holds, as far as the original has rows
abbrev pub ShowsTokens : CircuitPlan → List (List Bool) → Original → Table Wire → ℕ → Type 0
ShowsTokens q rows o b k =
    (s i j : ℕ) → s < q.stations → j < q.width s
    → taken_count q (fired q rows k) s + i < put_count q (fired q rows k) s → taken_count q (fired q rows k) s + i < o.rows
    → b k (place s i j) ≡ o.token s (taken_count q (fired q rows k) s + i) j

-- and its latches show the state of the row that comes next
abbrev pub ShowsStates : CircuitPlan → List (List Bool) → Original → Table Wire → ℕ → Type 0
ShowsStates q rows o b k =
    (v : ℕ) (l : FlatLatch) → 0 < v → v < sink q → Among l (q.flat v).latches → fired q rows k v < o.rows
    → b k (now v l.out) ≡ o.net v (fired q rows k v) l.out
