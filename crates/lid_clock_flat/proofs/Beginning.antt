-- A run that starts is one of some life: that in which all rows are the first one, and nobody is held.
use Rattle.std.proofs.Common.{◌≡◌, ℕ, ◌<◌, ◌≤◌, min, false, Bool, List, [], length, replicate, refl, sym, ◌∙◌, ap, arith}
use Rattle.std.specs.Prelude.{Option, Some, None, slice_get}
use Rattle.std.specs.List.{AllByRecursion}
use Rattle.std.proofs.lemmas.List.{length-replicate, get_or-replicate}
use Rattle.std.proofs.lemmas.Option.{slice_get-get_or}
use Rattle.lid_base.proofs.Alls.{all_replicate}
use Rattle.lid_design.specs.Walks.{HasTable}
use Rattle.lid_system.specs.declared.System.{System}
use Rattle.lid_system.specs.Systems.{IsWellFormed}
use Rattle.lid_system.specs.Tables.{system_drivers}
use Rattle.lid_stations.specs.declared.placement.Placement.{Placement}
use Rattle.lid_stations.specs.Placements.{Fits}
use Rattle.lid_clock.specs.declared.stream.ClockStream.{ClockStream}
use Rattle.lid_shell_laws.specs.Setups.{IsInputRow}
use Rattle.lid_clock.specs.Lives.{Life, StartsSo}
use Rattle.lid_clock.specs.Ran.{Ran, IsFirstRow}
use Rattle.lid_clock_flat.specs.Runs.{IsJustStarted}

-- so many rows, each as the first one
abbrev rows_of : ℕ → Option (List Bool) → List (List Bool)
rows_of n None = []
rows_of n (Some row) = replicate n row

many : (s : System) (n : ℕ) (first : Option (List Bool)) → IsFirstRow s n first → length (rows_of n first) ≡ n
many s n None is = sym is
many s n (Some row) is = length-replicate n row

wide : (s : System) (n : ℕ) (first : Option (List Bool)) → IsFirstRow s n first → AllByRecursion (IsInputRow s) (rows_of n first)
wide s n None is = tt
wide s n (Some row) is = all_replicate (IsInputRow s) n row is.1

begins : (s : System) (n : ℕ) (first : Option (List Bool)) → IsFirstRow s n first → slice_get (rows_of n first) 0 ≡ first
begins s n None is = refl
begins s n (Some row) is =
    let some : 0 < n = is.0 in
    let long : length (replicate n row) ≡ n = length-replicate n row in
    slice_get-get_or (replicate n row) 0 row (omega arith) ∙ ap (λ (x : List Bool). Some x) (get_or-replicate n 0 row row some)

module _ (s : System) (p : Placement) (rows : ℕ) (first : Option (List Bool)) (formed : IsWellFormed s) (fits : Fits s p) (few : rows ≤ 1000000) (is : IsFirstRow s rows first) (tables : HasTable (system_drivers s)) where
  abbrev life : Life
  life = record { setup = record { system = s; placement = p; input = rows_of rows first; table = (tables (rows_of rows first)).0 }; hold = λ k v. false }

  starts : StartsSo life s p rows first
  starts = record {
    rules = record { system = formed; fits = fits; few = (let same = many s rows first is in omega arith); wide = wide s rows first is; table = (tables (rows_of rows first)).1 };
    of = refl;
    stations = refl;
    many = many s rows first is;
    begins = begins s rows first is;
  }

  -- so it was built
  pub built : (x : ClockStream) (count : ℕ) → ((l : Life) → StartsSo l s p rows first → Ran l 0 (min 1 rows) x) → count ≡ length s.nodes → IsJustStarted x count
  built x count ran is_count = (life, min 1 rows, ran life starts, is_count)
