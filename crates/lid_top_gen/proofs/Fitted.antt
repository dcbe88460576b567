-- The placement of a generated run fits.
use Rattle.std.proofs.Common.{◌≡◌, ℕ, zero, suc, ◌+◌, ◌*◌, ◌≤◌, List, [], ◌∷◌, length, replicate, arith}
use Rattle.std.specs.List.{All, AllByRecursion}
use Rattle.std.proofs.lemmas.List.{length-replicate}
use Rattle.std.proofs.lemmas.List.Sums.{sum_by-cons}
use Rattle.lid_gen.specs.Runs.{generated_relays}
use Rattle.lid_top_script.specs.Generated.{generated_placement}
use Rattle.lid_stations.specs.Placements.{station_count, IsCapacity, Fits}
use Rattle.lid_system.specs.declared.System.{System}
use Rattle.lid_base.proofs.Alls.{all_weaker, all_replicate}

pub all_of : {A : Type 0} (P : A → Type 0) (xs : List A) → AllByRecursion P xs → All P xs
all_of P [] all k d h = absurd (omega (arith, h))
all_of P (x ∷ xs) all zero d h = all.0
all_of P (x ∷ xs) all (suc k) d h = all_of P xs all.1 k d (omega (arith, h))

-- channels with at most 3 relay stations have at most 4 stations each
pub stations_few : (relays : List ℕ) → AllByRecursion (λ k. k ≤ 3) relays → station_count relays ≤ 4 * length relays
stations_few [] all = omega arith
stations_few (k ∷ ks) all =
    let first = all.0 in
    let others = stations_few ks all.1 in
    let both : station_count (k ∷ ks) ≡ (k + 1) + station_count ks = sum_by-cons (λ n. n + 1) k ks in
    omega (arith, first, others, both)

module _ (seed shells rows : ℕ) (s : System) where
  abbrev relays : List ℕ
  relays = generated_relays seed shells rows (length s.channels)

  pub generated_fits : length s.channels ≤ 16384 → length relays ≡ length s.channels → AllByRecursion (λ k. k ≤ 3) relays → Fits s (generated_placement seed shells rows (length s.channels))
  generated_fits short long few = record {
    rules = record {
      few = all_of (λ k. k ≤ 64) relays (all_weaker (λ k. k ≤ 3) (λ k. k ≤ 64) relays (λ k h. omega (arith, h)) few);
      most = (let most = stations_few relays few in omega (arith, most, short, long));
      caps = length-replicate (station_count relays) 2;
      range = all_of IsCapacity (replicate (station_count relays) 2) (all_replicate IsCapacity (station_count relays) 2 (omega arith, omega arith));
    };
    counts = long;
  }
