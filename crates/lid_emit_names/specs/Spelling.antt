-- Names for the wires of a plan: ports have those of the design, and each other wire a prefix, a letter and numbers.
use Rattle.std.specs.Prelude.{◌≡◌, ℕ, ◌^◌, ◌<◌, Bool, true, false, List, [], ◌∷◌, ◌++◌, slice_index_or}
use Rattle.std.specs.Fmt.{decimal}
use Rattle.std.specs.List.{AllByRecursion}
use Rattle.lid_base.specs.Lists.{Among}
use Rattle.lid_emit_circuit.specs.Wires.{Wire, entry, given, offer, block, steady, may, fire, level, grown, place, moved, now, kept, later, shown, valid, stop}
use Rattle.lid_emit_circuit.specs.Plans.{CircuitPlan}
use Rattle.lid_emit_circuit.specs.Known.{IsKnown}

-- the names of the ports of a design: data inputs and outputs, and those of its environment
pub record PortNames : Type 0 where
  pub inputs : List (List ℕ)
  pub outputs : List (List ℕ)
  pub offer : List ℕ
  pub block : List ℕ
  pub valid : List ℕ
  pub stop : List ℕ

abbrev pub input_ports : PortNames → List (List ℕ)
input_ports ports = ports.inputs ++ ports.offer ∷ ports.block ∷ []

abbrev pub output_ports : PortNames → List (List ℕ)
output_ports ports = ports.outputs ++ ports.valid ∷ ports.stop ∷ []

-- the letter of an inner wire, and 0 for a port
abbrev pub letter : Wire → ℕ
letter (given j) = 100
letter (steady bit) = 99
letter (may v i) = 109
letter (fire v) = 102
letter (level s i) = 108
letter (grown s i) = 103
letter (place s i j) = 112
letter (moved s i j) = 113
letter (now v k) = 110
letter (kept v k) = 107
letter (later v k) = 97
letter port = 0

abbrev pub bit_number : Bool → ℕ
bit_number true = 1
bit_number false = 0

-- its numbers
abbrev pub numbers : Wire → List ℕ
numbers (given j) = j ∷ []
numbers (steady bit) = bit_number bit ∷ []
numbers (may v i) = v ∷ i ∷ []
numbers (fire v) = v ∷ []
numbers (level s i) = s ∷ i ∷ []
numbers (grown s i) = s ∷ i ∷ []
numbers (place s i j) = s ∷ i ∷ j ∷ []
numbers (moved s i j) = s ∷ i ∷ j ∷ []
numbers (now v k) = v ∷ k ∷ []
numbers (kept v k) = v ∷ k ∷ []
numbers (later v k) = v ∷ k ∷ []
numbers port = []

-- numbers in decimal digits, with `_` between them
abbrev pub digits_joined : List ℕ → List ℕ
digits_joined [] = []
digits_joined (n ∷ []) = decimal n
digits_joined (n ∷ m ∷ ns) = decimal n ++ 95 ∷ digits_joined (m ∷ ns)

abbrev pub inner_name : List ℕ → ℕ → List ℕ → List ℕ
inner_name prefix letter ns = prefix ++ letter ∷ digits_joined ns

abbrev pub name_of : PortNames → List ℕ → Wire → List ℕ
name_of ports prefix (entry j) = slice_index_or ports.inputs j []
name_of ports prefix offer = ports.offer
name_of ports prefix block = ports.block
name_of ports prefix (shown j) = slice_index_or ports.outputs j []
name_of ports prefix valid = ports.valid
name_of ports prefix stop = ports.stop
name_of ports prefix (given j) = inner_name prefix 100 (j ∷ [])
name_of ports prefix (steady bit) = inner_name prefix 99 (bit_number bit ∷ [])
name_of ports prefix (may v i) = inner_name prefix 109 (v ∷ i ∷ [])
name_of ports prefix (fire v) = inner_name prefix 102 (v ∷ [])
name_of ports prefix (level s i) = inner_name prefix 108 (s ∷ i ∷ [])
name_of ports prefix (grown s i) = inner_name prefix 103 (s ∷ i ∷ [])
name_of ports prefix (place s i j) = inner_name prefix 112 (s ∷ i ∷ j ∷ [])
name_of ports prefix (moved s i j) = inner_name prefix 113 (s ∷ i ∷ j ∷ [])
name_of ports prefix (now v k) = inner_name prefix 110 (v ∷ k ∷ [])
name_of ports prefix (kept v k) = inner_name prefix 107 (v ∷ k ∷ [])
name_of ports prefix (later v k) = inner_name prefix 97 (v ∷ k ∷ [])

-- no name begins with a prefix
abbrev pub IsFree : List ℕ → List (List ℕ) → Type 0
IsFree prefix names = (name rest : List ℕ) → Among name names → ¬ (name ≡ prefix ++ rest)

-- the numbers of wires are small
abbrev pub AreSmall : CircuitPlan → Type 0
AreSmall q = (wire : Wire) → IsKnown q wire → AllByRecursion (λ n. n < 2 ^ 64) (numbers wire)
