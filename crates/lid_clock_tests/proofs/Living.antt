-- A life in which nobody is held but, where this is so, the source in the first cycle.
use Rattle.std.proofs.Common.{◌≡◌, ℕ, zero, suc, ◌-◌, ◌≤◌, ◌==◌, if◌then◌else◌, Bool, true, false, List, length, refl, arith}
use Rattle.std.specs.List.{AllByRecursion}
use Rattle.lid_design.specs.Walks.{HasTable}
use Rattle.lid_system.specs.declared.System.{System}
use Rattle.lid_system.specs.Systems.{IsWellFormed}
use Rattle.lid_system.specs.Tables.{system_drivers}
use Rattle.lid_stations.specs.declared.placement.Placement.{Placement}
use Rattle.lid_stations.specs.Placements.{Fits}
use Rattle.lid_clock.specs.Lives.{Life, IsLife, Holds}
use Rattle.lid_shell_laws.specs.Setups.{IsInputRow}
use Rattle.lid_clock.specs.declared.clocked.Clocked.{Clocked}
use Rattle.lid_clock.specs.Clocks.{IsFreeLife, Clocks, IsClockedRun}
use Rattle.lid_clock_tests.specs.Runs.{IsFreeFrom}

abbrev hold_of : System → Bool → ℕ → ℕ → Bool
hold_of s held zero v = if v == 0 then held else if v == (length s.nodes - 1) then false else false
hold_of s held (suc k) v = false

both : (b c : Bool) → (if b then false else if c then false else false) ≡ false
both true c = refl
both false true = refl
both false false = refl

pub nobody : (s : System) (k v : ℕ) → hold_of s false k v ≡ false
nobody s zero v = both (v == 0) (v == (length s.nodes - 1))
nobody s (suc k) v = refl

module _ (s : System) (p : Placement) (rows : List (List Bool)) (held : Bool)
    (formed : IsWellFormed s) (fits : Fits s p) (few : length rows ≤ 1000000) (wide : AllByRecursion (IsInputRow s) rows) (tables : HasTable (system_drivers s)) where
  abbrev pub life : Life
  life = record { setup = record { system = s; placement = p; input = rows; table = (tables rows).0 }; hold = hold_of s held }

  pub rules : IsLife life
  rules = record { system = formed; fits = fits; few = few; wide = wide; table = (tables rows).1 }

  pub held_once : Holds life 0 held false
  held_once v = refl

  pub free : IsFreeFrom life 1
  free zero late = absurd (omega (arith, late))
  free (suc k) late = λ v. refl

-- a run over these rows that has started is one of a life in which nobody is held
pub starts : (s : System) (p : Placement) (rows : List (List Bool)) (formed : IsWellFormed s) (fits : Fits s p) (few : length rows ≤ 1000000) (wide : AllByRecursion (IsInputRow s) rows) (tables : HasTable (system_drivers s))
    (c : Clocked) → ((l : Life) → IsFreeLife l rows → l.setup.system ≡ s → l.setup.placement ≡ p → Clocks l 0 c) → IsClockedRun c
starts s p rows formed fits few wide tables c started =
    let l = life s p rows false formed fits few wide tables in
    let free : IsFreeLife l rows = record {
      rules = rules s p rows false formed fits few wide tables;
      input = refl;
      nobody = λ k v. nobody s k v;
    } in
    (l, 0, started l free refl refl)
