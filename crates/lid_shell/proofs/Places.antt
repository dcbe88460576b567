-- An actor has few stations.
use Rattle.std.proofs.Common.{◌≡◌, ℕ, ◌≤◌, ◌==◌, Bool, List, length, filter, arith}
use Rattle.std.proofs.lemmas.List.Sums.{length-filter, count_by-le-length}
use Rattle.lid_base.specs.Each.{from_each}
use Rattle.lid_stations.specs.Placements.{links_of, station_count}
use Rattle.lid_stations.specs.Stations.{filler, drainer}
use Rattle.lid_walk_machine.specs.Plans.{ins_of, outs_of}
use Rattle.lid_walk_machine.specs.Setups.{plan}
use Rattle.lid_shell_laws.specs.Setups.{Setup, IsSetup}
use Rattle.lid_base.proofs.Each.{each_length}

few_of : (m : Setup) (f : ℕ → Bool) → IsSetup m → length (filter f (from_each (λ s. s) 0 (station_count m.placement.relays))) ≤ 65536
few_of m f setup =
    let all : List ℕ = from_each (λ s. s) 0 (station_count m.placement.relays) in
    let is : length (filter f all) ≡ _ = length-filter f all in
    let most = count_by-le-length f all in
    let long : length all ≡ station_count m.placement.relays = each_length (λ (s : ℕ). s) 0 (station_count m.placement.relays) in
    let few : station_count m.placement.relays ≤ 65536 = setup.fits.rules.most in
    omega arith

pub few_ins : (m : Setup) (v : ℕ) → IsSetup m → length (ins_of (plan m) v) ≤ 65536
few_ins m v setup = few_of m (λ s. drainer (links_of m.system) m.placement s == v) setup

pub few_outs : (m : Setup) (v : ℕ) → IsSetup m → length (outs_of (plan m) v) ≤ 65536
few_outs m v setup = few_of m (λ s. filler (links_of m.system) m.placement s == v) setup
