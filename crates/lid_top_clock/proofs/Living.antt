-- Lives: there is one that begins with the rows that were given, and each goes on with the next row.
use Rattle.std.proofs.Common.{◌≡◌, ℕ, zero, suc, ◌-◌, ◌<◌, Bool, false, List, [], ◌∷◌, ◌++◌, length, length-append, take, drop, replicate, slice_get, Option, None, Some, refl, sym, ◌∙◌, ap, subst, append_assoc, arith}
use Rattle.std.specs.List.{AllByRecursion}
use Rattle.std.specs.Option.{option_map_or}
use Rattle.std.proofs.lemmas.List.{length-replicate, take-append-drop}
use Rattle.std.proofs.Math.Seq.{take-append_seam}
use Rattle.lid_base.proofs.Lists.{all_append}
use Rattle.lid_design.proofs.Tables.{has_table}
use Rattle.lid_stall_text.specs.Holds.{hold_of}
use Rattle.lid_shell_laws.specs.Runs.{sink_of}
use Rattle.lid_stations.specs.Placements.{links_of}
use Rattle.lid_system.specs.declared.System.{System}
use Rattle.lid_system.specs.Tables.{system_drivers}
use Rattle.lid_system.proofs.Points.{points_once}
use Rattle.lid_system.proofs.Walking.{limit, points_end}
use Rattle.lid_clock.specs.Lives.{Life}
use Rattle.lid_shell_laws.specs.Setups.{IsInputRow}
use Rattle.lid_texts_feed.specs.Feeds.{AreFirstRows}
use Rattle.lid_top_clock.specs.Runnings.{ClockRun, AreGiven, LifeBegins, columns_of, source_columns}
use Rattle.lid_top_clock.specs.Stepping.{MeetsRunRules}
use Rattle.lid_base.proofs.Places.{get_past}

-- a row as wide as the columns of the input is one of the source
pub wide_row : (s : System) (row : List Bool) → length row ≡ length (source_columns s) → IsInputRow s row
wide_row s row e columns is = e ∙ ap (λ node. length (option_map_or columns_of node [])) is

all_same : (s : System) (n : ℕ) (row : List Bool) → IsInputRow s row → AllByRecursion (IsInputRow s) (replicate n row)
all_same s zero row w = tt
all_same s (suc n) row w = (w, all_same s n row w)

-- a life that begins with the rows that were given, and goes on with rows of zeros
module _ (r : ClockRun) (sound : MeetsRunRules r) (given : List (List Bool)) (rows : AreGiven r given) where
  zeros : List Bool
  zeros = replicate (length (source_columns r.system)) false

  further : List (List Bool)
  further = replicate (r.rows - length given) zeros

  zeros_wide : IsInputRow r.system zeros
  unfolding zeros
  zeros_wide = wide_row r.system (replicate (length (source_columns r.system)) false) (length-replicate (length (source_columns r.system)) false)

  input : List (List Bool)
  input = given ++ further

  long : length input ≡ r.rows
  unfolding input further
  long = length-append given (replicate (r.rows - length given) zeros) ∙ (let more = length-replicate (r.rows - length given) zeros in let few = rows.few in omega arith)

  wide : AllByRecursion (IsInputRow r.system) input
  unfolding input further
  wide = all_append (IsInputRow r.system) given (replicate (r.rows - length given) zeros) rows.wide (all_same r.system (r.rows - length given) zeros zeros_wide)

  abbrev life : Life
  life = record {
    setup = record {
      system = r.system;
      placement = r.placement;
      input = input;
      table = (has_table (system_drivers r.system) (limit r.system sound.system) (points_end r.system sound.system) (points_once r.system sound.system) input).0;
    };
    hold = hold_of r.stalls (sink_of (links_of r.system));
  }

  pub some_life : (l : Life) × LifeBegins r given l
  unfolding input
  some_life = (
    life,
    record {
      of = record {
        rules = record {
          system = sound.system;
          fits = sound.fits;
          few = (let e = long in let f = sound.few in omega arith);
          wide = wide;
          table = (has_table (system_drivers r.system) (limit r.system sound.system) (points_end r.system sound.system) (points_once r.system sound.system) input).1;
        };
        of = refl;
        stations = refl;
        held = refl;
      };
      many = long;
      first = take-append_seam given further;
    },
  )

-- these rows, a further one, and others
split_more : (given xs : List (List Bool)) (row : List Bool) → take (length (given ++ row ∷ [])) xs ≡ given ++ row ∷ [] → xs ≡ given ++ (row ∷ drop (length (given ++ row ∷ [])) xs)
split_more given xs row is =
    let n = length (given ++ row ∷ []) in
    sym (take-append-drop n xs) ∙ ap (λ (ys : List (List Bool)). ys ++ drop n xs) is ∙ append_assoc given (row ∷ []) (drop n xs)

first_of_more : (given xs : List (List Bool)) (row : List Bool) → take (length (given ++ row ∷ [])) xs ≡ given ++ row ∷ [] → take (length given) xs ≡ given
first_of_more given xs row is =
    subst (λ (ys : List (List Bool)). take (length given) ys ≡ given) (sym (split_more given xs row is))
    (take-append_seam given (row ∷ drop (length (given ++ row ∷ [])) xs))

next_is : (given xs : List (List Bool)) (row : List Bool) → take (length (given ++ row ∷ [])) xs ≡ given ++ row ∷ [] → slice_get xs (length given) ≡ Some row
next_is given xs row is =
    subst (λ (ys : List (List Bool)). slice_get ys (length given) ≡ Some row) (sym (split_more given xs row is))
    (get_past given (drop (length (given ++ row ∷ [])) xs) row)

-- a life that begins with a further row begins with those before, and its next row is that one
module _ (r : ClockRun) (given : List (List Bool)) (row : List Bool) (l : Life) (b : LifeBegins r (given ++ row ∷ []) l) where
  pub begins_before : LifeBegins r given l
  begins_before = record { of = b.of; many = b.many; first = first_of_more given l.setup.input row b.first }

  pub next_row_is : slice_get l.setup.input (length given) ≡ Some row
  next_row_is = next_is given l.setup.input row b.first

-- rows that were given, and a further one
pub more_given : (r : ClockRun) (given : List (List Bool)) (row : List Bool) → AreGiven r given → length given < r.rows → length row ≡ length (source_columns r.system)
    → AreFirstRows r.held (source_columns r.system) (length r.columns) (given ++ row ∷ []) → AreGiven r (given ++ row ∷ [])
more_given r given row before below width first = record {
  few = (let long = length-append given (row ∷ []) in omega arith);
  wide = all_append (IsInputRow r.system) given (row ∷ []) before.wide (wide_row r.system row width, tt);
  first = first;
}

-- no row was given yet
pub none_given : (r : ClockRun) → AreGiven r []
none_given r = record { few = omega arith; wide = tt; first = first_none r.held }
  where
    first_none : (held : Option (List ℕ)) → AreFirstRows held (source_columns r.system) (length r.columns) []
    first_none None = tt
    first_none (Some file) = λ rows reads. refl
