-- Packed bits of ports, and their bounds.
use Rattle.std.proofs.Common.{◌≡◌, ℕ, ◌^◌, ◌<◌, Bool, false, List, length, map, Some, slice_get, ◌∙◌, ap, subst}
use Rattle.std.proofs.lemmas.List.{length-map, get_or-map}
use Rattle.std.proofs.lemmas.Option.{slice_get_within, get_or_from_slice_get}
use Rattle.lid_cover.specs.Masks.{packed}
use Rattle.lid_strict_engine.specs.Rows.{bit_at}
use Rattle.lid_strict_engine.specs.Truth.{is_set}
use Rattle.lid_strict_engine.proofs.Tabling.{packed_bound, packed_bit}

pub bit_of_port : (bits : List Bool) (ports : List ℕ) (j port : ℕ) → slice_get ports j ≡ Some port → is_set (packed (map (bit_at bits) ports)) j ≡ bit_at bits port
bit_of_port bits ports j port here =
    packed_bit (map (bit_at bits) ports) j
    ∙ get_or-map (bit_at bits) ports j 0 false (slice_get_within ports j port here)
    ∙ ap (bit_at bits) (get_or_from_slice_get ports j port 0 here)

pub packed_ports : (bits : List Bool) (ports : List ℕ) → packed (map (bit_at bits) ports) < 2 ^ length ports
packed_ports bits ports = subst (λ (n : ℕ). packed (map (bit_at bits) ports) < 2 ^ n) (length-map ports (bit_at bits)) (packed_bound (map (bit_at bits) ports))
