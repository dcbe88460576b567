-- The last stations of channels, and what inputs read of them.
use Rattle.std.proofs.Common.{◌≡◌, ℕ, zero, suc, ◌+◌, ◌<◌, List, [], ◌∷◌, length, map, take, get_or, refl, ◌∙◌, ap, subst, arith}
use Rattle.std.specs.List.{AllByRecursion}
use Rattle.std.proofs.lemmas.List.Sums.{sum_by-cons}
use Rattle.std.proofs.lemmas.Option.{slice_get_within}
use Rattle.lid_system.specs.declared.System.{System}
use Rattle.lid_system.specs.declared.InBit.{InBit}
use Rattle.lid_system.specs.declared.InBit.TheVariants.{Const, Port}
use Rattle.lid_system.specs.Systems.{IsRead}
use Rattle.lid_stations.specs.declared.placement.Placement.{Placement}
use Rattle.lid_stations.specs.Placements.{station_count}
use Rattle.lid_emit_circuit.specs.Wires as circuit
use Rattle.lid_emit_system.specs.Nets.{last_station, read_wire}
use Rattle.lid_emit_cells.specs.Shown.{wire_of}
use Rattle.lid_emit_shells.specs.Reading.{lasts_from, ReadsBelow, wire_by}

pub length_lasts : (first : ℕ) (relays : List ℕ) → length (lasts_from first relays) ≡ length relays
length_lasts first [] = refl
length_lasts first (k ∷ ks) = ap suc (length_lasts (first + k + 1) ks)

last_at : (first : ℕ) (relays : List ℕ) (c : ℕ) → c < length relays → get_or (lasts_from first relays) c 0 ≡ first + (station_count (take c relays) + get_or relays c 0)
last_at first [] c less = absurd (omega (arith, less))
last_at first (k ∷ ks) zero less = omega arith
last_at first (k ∷ ks) (suc c) less =
    let later : get_or (lasts_from (first + k + 1) ks) c 0 ≡ (first + k + 1) + (station_count (take c ks) + get_or ks c 0) = last_at (first + k + 1) ks c (omega (arith, less)) in
    let more : station_count (take (suc c) (k ∷ ks)) ≡ (k + 1) + station_count (take c ks) = sum_by-cons (λ (k : ℕ). k + 1) k (take c ks) in
    omega arith

-- an input reads what is told by the last stations
pub told_wire : (p : Placement) (x : InBit) → ReadsBelow (length p.relays) x → wire_of (wire_by (lasts_from 0 p.relays) x) ≡ read_wire p x
told_wire p (Const bit) below = refl
told_wire p (Port chan bit) below =
    let e : get_or (lasts_from 0 p.relays) chan 0 ≡ last_station p chan = (let at = last_at 0 p.relays chan below in omega arith) in
    ap (λ (n : ℕ). circuit.place n 0 bit) e

pub told_wires : (p : Placement) (xs : List InBit) → AllByRecursion (ReadsBelow (length p.relays)) xs → map wire_of (map (wire_by (lasts_from 0 p.relays)) xs) ≡ map (read_wire p) xs
told_wires p [] below = refl
told_wires p (x ∷ xs) below =
    ap (λ (w : circuit.Wire). w ∷ map wire_of (map (wire_by (lasts_from 0 p.relays)) xs)) (told_wire p x below.0)
    ∙ ap (λ (ws : List circuit.Wire). read_wire p x ∷ ws) (told_wires p xs below.1)

-- what is read is there
pub reads_below : (s : System) (v n : ℕ) (ins : List InBit) → length s.channels ≡ n → AllByRecursion (IsRead s v) ins → AllByRecursion (ReadsBelow n) ins
reads_below s v n [] many reads = tt
reads_below s v n (x ∷ ins) many reads = (by x reads.0, reads_below s v n ins many reads.1)
  where
    by : (x : InBit) → IsRead s v x → ReadsBelow n x
    by (Const bit) is = tt
    by (Port chan bit) is = subst (λ (m : ℕ). chan < m) many (slice_get_within s.channels chan is.0 is.1)
