-- The network of a wrapped system: what drives each wire.
use Rattle.std.specs.Prelude.{ℕ, zero, suc, ◌+◌, ◌-◌, ◌==◌, nat_lt, Bool, true, false, not, ◌&&◌, if◌then◌else◌, List, [], ◌∷◌, length, map, flat_map, slice_get}
use Rattle.std.specs.Option.{option_map_or}
use Rattle.lid_cover.specs.declared.Cover.{Cover}
use Rattle.lid_design.specs.Network.{Driver, from_input, from_latch, from_cover}
use Rattle.lid_design.specs.Flat.{flat_drivers}
use Rattle.lid_emit_circuit.specs.Wires.{Wire, entry, given, offer, block, steady, may, fire, level, grown, place, moved, now, kept, later, shown, valid, stop, ActorEnd, drains, fills}
use Rattle.lid_emit_circuit.specs.Gates.{constant, buffer, negation, both, without, choice, count, move}
use Rattle.lid_emit_circuit.specs.Plans.{CircuitPlan, ends}

abbrev pub within : Bool → List (Driver Wire) → List (Driver Wire)
within there sources = if there then sources else []

-- a wire that one cover drives
abbrev pub gate : Cover → List Wire → List (Driver Wire)
gate cover reads = from_cover cover reads ∷ []

-- a wire that one latch drives
abbrev pub flop : Bool → Wire → List (Driver Wire)
flop first input = from_latch first input ∷ []

-- the next end lets an actor fire where the station that it drains holds a token, or the one that it fills has room
abbrev pub link : CircuitPlan → ℕ → ℕ → ActorEnd → List (Driver Wire)
link q v i (drains s) = gate both (may v i ∷ level s 1 ∷ [])
link q v i (fills s) = gate without (may v i ∷ level s (q.capacity s) ∷ [])

-- all ends of an actor let it fire
abbrev pub last_link : CircuitPlan → ℕ → Wire
last_link q v = may v (length (ends q v))

abbrev pub sink : CircuitPlan → ℕ
sink q = q.nodes - 1

-- an actor fires where its ends let it, the source where a row is offered too, the sink where one is taken
abbrev pub firing : CircuitPlan → ℕ → List (Driver Wire)
firing q v =
    if v == 0
    then gate both (last_link q v ∷ offer ∷ [])
    else (if v == sink q
    then gate without (last_link q v ∷ block ∷ [])
    else gate buffer (last_link q v ∷ []))

-- the levels of a station, from 0, which each reaches, to one above its capacity, which none does
abbrev pub level_in : CircuitPlan → ℕ → ℕ → List (Driver Wire)
level_in q s zero = gate (constant true) []
level_in q s (suc i) =
    if nat_lt i (q.capacity s)
    then flop (not (nat_lt (q.first s) (suc i))) (grown s (suc i))
    else within (i == q.capacity s) (gate (constant false) [])

abbrev pub grown_in : CircuitPlan → ℕ → ℕ → List (Driver Wire)
grown_in q s zero = []
grown_in q s (suc i) =
    within (nat_lt i (q.capacity s)) (gate count (fire (q.drainer s) ∷ fire (q.filler s) ∷ level s i ∷ level s (suc i) ∷ level s (suc (suc i)) ∷ []))

-- the places of a station, each with a bit of a token; past its capacity there is a 0
abbrev pub place_drivers : CircuitPlan → ℕ → ℕ → ℕ → List (Driver Wire)
place_drivers q s i j =
    if nat_lt i (q.capacity s)
    then flop (q.begins s j) (moved s i j)
    else within (i == q.capacity s) (gate (constant false) [])

abbrev pub moved_in : CircuitPlan → ℕ → ℕ → ℕ → List (Driver Wire)
moved_in q s i j =
    within (nat_lt i (q.capacity s))
    (gate move (fire (q.drainer s) ∷ level s (suc i) ∷ place s i j ∷ level s (suc (suc i)) ∷ place s (suc i) j ∷ q.put s j ∷ []))

-- the nets of a shell: latches take what they read where it fires, and covers stand twice
abbrev pub now_from : CircuitPlan → ℕ → ℕ → Driver ℕ → List (Driver Wire)
now_from q v k (from_latch first input) = flop first (kept v k)
now_from q v k (from_cover cover ks) = within (not (q.skips v k)) (gate cover (map (q.here v) ks))
now_from q v k other = []

abbrev pub kept_from : CircuitPlan → ℕ → ℕ → Driver ℕ → List (Driver Wire)
kept_from q v k (from_latch first input) = gate choice (fire v ∷ q.here v input ∷ now v k ∷ [])
kept_from q v k other = []

abbrev pub later_from : CircuitPlan → ℕ → ℕ → Driver ℕ → List (Driver Wire)
later_from q v k (from_cover cover ks) = within (not (q.skips v k)) (gate cover (map (q.after v) ks))
later_from q v k other = []

-- what drives a wire
unfoldable pub emitted : CircuitPlan → Wire → List (Driver Wire)
emitted q (entry j) = within (nat_lt j q.inputs) (from_input j ∷ [])
emitted q (given j) = within (nat_lt j q.inputs) (gate buffer (entry j ∷ []))
emitted q offer = from_input q.inputs ∷ []
emitted q block = from_input (q.inputs + 1) ∷ []
emitted q (steady bit) = gate (constant bit) []
emitted q (may v zero) = within (nat_lt v q.actors) (gate (constant true) [])
emitted q (may v (suc i)) = within (nat_lt v q.actors) (option_map_or (link q v i) (slice_get (ends q v) i) [])
emitted q (fire v) = within (nat_lt v q.actors) (firing q v)
emitted q (level s i) = within (nat_lt s q.stations) (level_in q s i)
emitted q (grown s i) = within (nat_lt s q.stations) (grown_in q s i)
emitted q (place s i j) = within (nat_lt s q.stations && nat_lt j (q.width s)) (place_drivers q s i j)
emitted q (moved s i j) = within (nat_lt s q.stations && nat_lt j (q.width s)) (moved_in q s i j)
emitted q (now v k) = flat_map (now_from q v k) (flat_drivers (q.flat v) k)
emitted q (kept v k) = flat_map (kept_from q v k) (flat_drivers (q.flat v) k)
emitted q (later v k) = flat_map (later_from q v k) (flat_drivers (q.flat v) k)
emitted q (shown j) = option_map_or (λ wire. gate both (last_link q (sink q) ∷ wire ∷ [])) (slice_get q.shows j) []
emitted q valid = gate buffer (last_link q (sink q) ∷ [])
emitted q stop = gate negation (last_link q 0 ∷ [])
