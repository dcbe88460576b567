use Rattle.std.proofs.Common.{◌≡◌, ℕ, ◌+◌, ◌≤◌, length, replicate, sym, ◌∙◌, arith}
use Rattle.std.proofs.lemmas.List.{length-replicate}
use Rattle.std.proofs.lemmas.List.Elements.{All-replicate}
use Rattle.std.proofs.lemmas.List.Folds.{sum_by-replicate}
use Rattle.lid_system.specs.declared.System.{System}
use Rattle.lid_system.specs.Systems.{IsWellFormed}
use Rattle.lid_stations.specs.Placements.{station_count, IsCapacity, Fits}
use Rattle.lid_stations.proofs.laws.some_placement_fits.Goals as goal

plain_fits : (s : System) → IsWellFormed s → Fits s (record { relays = replicate (length s.channels) 0; caps = replicate (length s.channels) 2 })
plain_fits s well =
    let n = length s.channels in
    let count : station_count (replicate n 0) ≡ n = sum_by-replicate (λ (k : ℕ). k + 1) n 0 ∙ (omega arith) in
    record {
      rules = record {
        few = All-replicate (λ k. k ≤ 64) n 0 (omega arith);
        most = omega (arith, count, well.few);
        caps = length-replicate n 2 ∙ sym count;
        range = All-replicate IsCapacity n 2 (omega arith, omega arith);
      };
      counts = length-replicate n 0;
    }

pub returns : goal.returns
returns c s well = (record { relays = replicate (length s.channels) 0; caps = replicate (length s.channels) 2 }, plain_fits s well)
