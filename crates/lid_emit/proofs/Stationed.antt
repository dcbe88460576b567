-- The sizes of stations, added up in their order.
use Rattle.std.proofs.Common.{◌≡◌, ℕ, ◌+◌, ◌*◌, ◌<◌, ◌≤◌, [], length, take, get_or, sum_by, sym, ◌∙◌, ap, add-zero, arith}
use Rattle.std.proofs.lemmas.List.{get_or_default}
use Rattle.std.proofs.lemmas.List.Sums.{sum_by-cons, sum_by-append}
use Rattle.lid_base.specs.Each.{from_each}
use Rattle.lid_system.specs.declared.System.{System}
use Rattle.lid_system.specs.declared.Channel.{Channel}
use Rattle.lid_stations.specs.declared.placement.Placement.{Placement}
use Rattle.lid_stations.specs.Placements.{Links, links_of, station_count, Fits}
use Rattle.lid_stations.specs.Stations.{Spot, spot_at, no_channel, channel_at, capacity}
use Rattle.lid_stations.proofs.Spots.{spot_is}
use Rattle.lid_emit_meaning.specs.Sizes.{station_size, sizes_from}
use Rattle.lid_base.proofs.Each.{each_append}

-- further stations
pub sizes_more : (l : Links) (p : Placement) (k m n : ℕ) → sizes_from l p k (m + n) ≡ sizes_from l p k m + sizes_from l p (k + m) n
sizes_more l p k m n =
    ap (sum_by (station_size l p)) (each_append (λ j. j) k m n)
    ∙ sum_by-append (station_size l p) (from_each (λ j. j) k m) (from_each (λ j. j) (k + m) n)

-- a station more
pub size_more : (l : Links) (p : Placement) (k m : ℕ) → sizes_from l p k (m + 1) ≡ sizes_from l p k m + station_size l p (k + m)
size_more l p k m = sizes_more l p k m 1 ∙ (let one = sum_by-cons (station_size l p) (k + m) [] in ap (λ (n : ℕ). sizes_from l p k m + n) (one ∙ add-zero (station_size l p (k + m))))

-- the station at a place of a channel
pub size_at : (s : System) (p : Placement) → Fits s p → (c place station cap ports : ℕ) (x : Channel) → c < length p.relays → place ≤ get_or p.relays c 0 → station ≡ station_count (take c p.relays) + place
    → cap ≡ capacity p station → x ≡ get_or s.channels c x → ports ≡ length x.ports → station_size (links_of s) p station ≡ cap * (1 + ports)
size_at s p fits c place station cap ports x below within number is_cap is_x is_ports =
    let spot : spot_at p.relays station ≡ record { channel = c; place = place } = spot_is p.relays station c place below within number in
    let there : c < length s.channels = (let e = fits.counts in omega arith) in
    let channel : channel_at (links_of s) c ≡ x = get_or_default s.channels c no_channel x there ∙ sym is_x in
    let its_ports : length (channel_at (links_of s) (spot_at p.relays station).channel).ports ≡ ports =
    ap (λ (spot : Spot). length (channel_at (links_of s) spot.channel).ports) spot ∙ ap (λ (x : Channel). length x.ports) channel ∙ sym is_ports in
    ap (λ (n : ℕ). capacity p station * (1 + n)) its_ports ∙ ap (λ (n : ℕ). n * (1 + ports)) (sym is_cap)
