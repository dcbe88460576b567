-- Which names are short enough for a wrapped design to have a short text.
use Rattle.std.specs.Prelude.{ℕ, ◌+◌, ◌≤◌, List, length}
use Rattle.lid_emit_circuit.specs.Wires.{Wire, entry, given, offer, block, steady, may, fire, level, grown, place, moved, now, kept, later, shown, valid, stop}
use Rattle.lid_emit_circuit.specs.Plans.{CircuitPlan}
use Rattle.lid_emit_circuit.specs.Known.{IsKnown}

-- how long the name of a wire may be, with one byte: a name of 16 bytes and numbers of 20 digits with a byte between them;
-- those of data inputs and outputs may be as long as they are
abbrev pub word_most : (Wire → List ℕ) → Wire → ℕ
word_most name (entry j) = 1 + length (name (entry j))
word_most name (given j) = 37
word_most name offer = 13
word_most name block = 13
word_most name (steady bit) = 37
word_most name (may v i) = 58
word_most name (fire v) = 37
word_most name (level s i) = 58
word_most name (grown s i) = 58
word_most name (place s i j) = 79
word_most name (moved s i j) = 79
word_most name (now v k) = 58
word_most name (kept v k) = 58
word_most name (later v k) = 58
word_most name (shown j) = 1 + length (name (shown j))
word_most name valid = 13
word_most name stop = 13

-- the names of the wires of a plan are as short
abbrev pub AreShort : CircuitPlan → (Wire → List ℕ) → Type 0
AreShort q name = (wire : Wire) → IsKnown q wire → 1 + length (name wire) ≤ word_most name wire
