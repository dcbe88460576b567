-- The outputs of a run are those of every strict table of the design.
use Rattle.std.proofs.Common.{◌≡◌, ℕ, ◌<◌, Bool, List, [], ◌∷◌, length, map, Some, slice_get, refl, sym, ◌∙◌, ap, subst}
use Rattle.std.specs.List.{AllByRecursion}
use Rattle.std.proofs.lemmas.List.{length-map}
use Rattle.std.proofs.lemmas.Option.{slice_get_within}
use Rattle.lid_base.proofs.Lists.{among_get}
use Rattle.lid_design.specs.declared.Design.{Design}
use Rattle.lid_design.specs.Network.{Driver, Table, IsStrict}
use Rattle.lid_base.specs.Each.{from_each}
use Rattle.lid_design.specs.Columns.{Column, column, root_outputs, output_row, IsStrictOutput}
use Rattle.lid_design.specs.Walks.{read_before}
use Rattle.lid_design.specs.Feeds.{read_now}
use Rattle.lid_check_digraph.specs.Graphs.{IsOrder}
use Rattle.lid_check_elab.specs.declared.driver.ColumnDriver.{ColumnDriver}
use Rattle.lid_check_elab.specs.Elaborations.{shown_driver, column_at, IsElaborated}
use Rattle.lid_check_loops.proofs.Numbered.{column_here}
use Rattle.lid_check.specs.Networks.{AreNumbersOf}
use Rattle.lid_strict.specs.Networks.{driver_list, reads_of, AreTakenBelow, rows_at}
use Rattle.lid_strict.proofs.Tables.{map_map, numbered, table}
use Rattle.lid_base.proofs.Alls.{all_from_among, all_parts}
use Rattle.lid_base.proofs.Each.{each_length, all_each, each_same}

map_names : (f : Column → Bool) (names : List (List ℕ)) → map f (map (column []) names) ≡ map (λ net. f (column [] net)) names
map_names f [] = refl
map_names f (n ∷ names) = ap (λ (bs : List Bool). f (column [] n) ∷ bs) (map_names f names)

module _ (d : Design) (list : List ColumnDriver) (starts : List ℕ) (is : IsElaborated d (map (shown_driver d) list) starts) where
  pub taken_below : AreTakenBelow (map (shown_driver d) list)
  taken_below = all_from_among (λ (s : Driver ℕ). AllByRecursion (λ a. a < length (map (shown_driver d) list)) (read_before s)) (map (shown_driver d) list) (λ s among. let at = among_get (map (shown_driver d) list) s among in each at.0 s at.1)
    where
      each : (k : ℕ) (s : Driver ℕ) → slice_get (map (shown_driver d) list) k ≡ Some s → AllByRecursion (λ a. a < length (map (shown_driver d) list)) (read_before s)
      each k s here =
          let driven = is.each k (column_at d k) (column_here d (map (shown_driver d) list) starts is k (slice_get_within (map (shown_driver d) list) k s here)) in
          let e : Some s ≡ Some driven.driver = sym here ∙ driven.here in
          let same_driver : driven.driver ≡ s = cc in
          subst (λ (r : Driver ℕ). AllByRecursion (λ a. a < length (map (shown_driver d) list)) (read_before r)) same_driver ((all_parts (λ (a : ℕ). a < length (map (shown_driver d) list)) (read_now driven.driver) (read_before driven.driver) driven.below).1)

  pub strict_output : (order outs : List ℕ) → IsOrder (reads_of (map (shown_driver d) list)) order → AreNumbersOf d (length list) outs → (rows out : List (List Bool)) → ((b : Table ℕ) → IsStrict (driver_list (map (shown_driver d) list)) rows b → out ≡ rows_at outs b (length rows)) → IsStrictOutput d rows out
  strict_output order outs ordered numbers rows out every = record {
    some = table d (map (shown_driver d) list) starts is order ordered rows;
    each = λ b strict.
        every (λ t k. b t (column_at d k)) (numbered d (map (shown_driver d) list) starts is rows b strict)
        ∙ each_same (λ t. map (λ k. b t (column_at d k)) outs) (output_row d b) 0 (length rows) (λ t less. sym (map_map (b t) (column_at d) outs) ∙ ap (map (b t)) numbers.outputs ∙ map_names (b t) (root_outputs d));
  }

-- there are as many rows of outputs as of inputs, each as wide as the outputs
pub record HasShape (d : Design) (rows out : List (List Bool)) : Type 0 where
  pub height : length out ≡ length rows
  pub width : AllByRecursion (λ row. length row ≡ length (root_outputs d)) out

pub output_shape : (d seen : Design) (rows given out : List (List Bool)) → seen ≡ d → given ≡ rows → IsStrictOutput seen given out → HasShape d rows out
output_shape d seen rows given out same_design same_rows told = record {
  height = ap length shown ∙ each_length (output_row d is.some.0) 0 (length rows);
  width = subst (AllByRecursion (λ (row : List Bool). length row ≡ length (root_outputs d))) (sym shown) (all_each (λ (row : List Bool). length row ≡ length (root_outputs d)) (output_row d is.some.0) 0 (length rows) (λ t. length-map (root_outputs d) _));
}
  where
    is : IsStrictOutput d rows out
    is = subst (λ (e : Design). IsStrictOutput e rows out) same_design (subst (λ (rs : List (List Bool)). IsStrictOutput seen rs out) same_rows told)

    shown : out ≡ from_each (output_row d is.some.0) 0 (length rows)
    shown = is.each is.some.0 is.some.1
