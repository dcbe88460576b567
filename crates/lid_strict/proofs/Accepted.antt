-- An accepted design drives each of its columns once, reads only columns, and has no walk without end.
use Rattle.std.proofs.Common.{◌≡◌, ℕ, suc, ◌<◌, List, [], ◌∷◌, ◌++◌, length, map, Option, Some, None, slice_get, inl, inr, refl, sym, ◌∙◌, ap, subst, arith, zero-add}
use Rattle.std.specs.Option.{option_map_or}
use Rattle.std.proofs.lemmas.Option.{slice_get-get_or}
use Rattle.lid_base.specs.Lists.{Among}
use Rattle.lid_base.proofs.Lists.{map_among, get_among, among_get, all_among, then_some}
use Rattle.lid_design.specs.declared.Design.{Design}
use Rattle.lid_design.specs.declared.Model.{Model}
use Rattle.lid_design.specs.Network.{Driver, from_input, from_latch, from_cover, from_connection}
use Rattle.lid_base.specs.Each.{from_each}
use Rattle.lid_design.specs.Columns.{Column, column, drivers}
use Rattle.lid_design.specs.Walks.{read_before, IsDriven, IsDrivenOnce, AreReadsDriven, WalksEnd, HasTable, HasOneTable}
use Rattle.lid_design.specs.Feeds.{read_now}
use Rattle.lid_design.specs.Models.{nets, insts_of, number_named, instance_number, number_from, data_inputs_of}
use Rattle.lid_design.specs.Elaboration.{columns, model_nets}
use Rattle.lid_design.specs.Loops.{HasNoLoop}
use Rattle.lid_design.proofs.Tables.{has_table, has_one_table}
use Rattle.lid_check_elab.specs.Elaborations.{map_driver, column_at}
use Rattle.lid_check_elab.specs.Numbers.{offset_of, start_of}
use Rattle.lid_check_drivers.specs.Locals.{actual_for}
use Rattle.lid_check_elab.specs.Templates.{net_place, net_by_place, placed_driver}
use Rattle.lid_check_drivers.specs.Judged.{IsJudged}
use Rattle.lid_check_elab.specs.Scopes.{IsOnlyDriver, IsOuter}
use Rattle.lid_check_elab.proofs.Located.{Located, located}
use Rattle.lid_check_elab.proofs.Outer.{fits}
use Rattle.lid_check_drivers.proofs.Single.{exactly_one}
use Rattle.lid_check_elab.proofs.Placed.{net_right}
use Rattle.lid_check_elab.proofs.Every.{driven_column}
use Rattle.lid_check.proofs.Descent.{walks_end}
use Rattle.lid_check_drivers.proofs.Told.{told_by_model}
use Rattle.lid_strict.proofs.Tables.{once_by}
use Rattle.lid_base.proofs.Each.{each_length, get_each}

reads_mapped : {A B : Type 0} (f : A → B) (s : Driver A) → read_now (map_driver f s) ++ read_before (map_driver f s) ≡ map f (read_now s ++ read_before s)
reads_mapped f (from_input j) = refl
reads_mapped f (from_latch first input) = refl
reads_mapped {A} {B} f (from_cover cover inputs) = whole inputs
  where
    whole : (xs : List A) → map f xs ++ [] ≡ map f (xs ++ [])
    whole [] = refl
    whole (x ∷ xs) = ap (λ (ys : List B). f x ∷ ys) (whole xs)
reads_mapped f (from_connection a) = refl

module _ (d : Design) (judged : IsJudged d) where
  -- what stands around a path
  around_at : (path : List ℕ) (k : ℕ) → number_from d d.root path ≡ Some k → (around : Option (ℕ × List ℕ)) × IsOuter d path k around
  unfolding number_from
  around_at [] k leads = (None, refl)
  around_at (i ∷ up) k leads =
      let body = then_some (number_from d d.root up) (instance_number d i) k leads in
      let inst = then_some (slice_get (insts_of d body.0) i) (λ inst. number_named d inst.model) k body.2 in
      (Some (start_of d up, map (λ formal. net_place d body.0 (actual_for inst.0 formal)) (data_inputs_of d k)), record { up = up; i = i; around = body.0; inst = inst.0; is_path = refl; leads = body.1; at = inst.1; is_start = refl; is_actuals = refl })

  -- each column has one driver
  right_at : (n : ℕ) (c : Column) → slice_get (columns d) n ≡ Some c → (s : Driver ℕ) × IsOnlyDriver d c s
  right_at n c here = by (located d judged n c here)
    where
      in_model : (at : Located d n c) (o : Option Model) → slice_get d.models at.model ≡ o → (s : Driver ℕ) × IsOnlyDriver d c s
      in_model at None e = absurd (let none : None ≡ Some c.net = ap (λ (o : Option Model). slice_get (option_map_or (nets d) o []) at.net) (sym e) ∙ at.here in cc)
      in_model at (Some m) e =
          let names : model_nets d at.model ≡ nets d m = ap (λ (o : Option Model). option_map_or (nets d) o []) e in
          let among = get_among (nets d m) at.net c.net (ap (λ (ns : List (List ℕ)). slice_get ns at.net) (sym names) ∙ at.here) in
          let one = exactly_one d judged at.model (c.path, at.leads) m e c.net among in
          let around = around_at c.path at.model at.leads in
          let count = length m.insts in (
            placed_driver (start_of d c.path) (from_each (offset_of d at.model) 0 count) around.0 (net_by_place d at.model one.0),
            net_right d judged c.path at.model m at.leads e (from_each (offset_of d at.model) 0 count)
                (λ i o is. get_each (offset_of d at.model) 0 count i o is ∙ ap (offset_of d at.model) (zero-add i))
                (each_length (offset_of d at.model) 0 count)
                around.0 (fits d c.path at.model around.0 judged around.1) c.net among one.0 one.1,
          )

      by : Located d n c → (s : Driver ℕ) × IsOnlyDriver d c s
      by at = in_model at (slice_get d.models at.model) refl

  right_of : (c : Column) → Among c (columns d) → (s : Driver ℕ) × IsOnlyDriver d c s
  right_of c among = let at = among_get (columns d) c among in right_at at.0 c at.1

  pub driven_of : (c : Column) → Among c (columns d) → IsDriven (drivers d) c
  driven_of c among =
      let right = right_of c among in
      subst (λ (ss : List (Driver Column)). 0 < length ss) (sym right.1.only) (omega arith)

  pub column_of : (c : Column) → IsDriven (drivers d) c → Among c (columns d)
  column_of = driven_column d judged

  driven_once : IsDrivenOnce (drivers d)
  driven_once = once_by (drivers d) (λ c driven. let told = told_by_model d judged c driven in (told.driver, told.only))

  reads_driven : AreReadsDriven (drivers d)
  reads_driven c s a among read =
      let right = right_of c (column_of c (some_item s (drivers d c) among)) in
      let driver : s ≡ map_driver (column_at d) right.0 = one_item s (map_driver (column_at d) right.0) (subst (λ (ss : List (Driver Column)). Among s ss) right.1.only among) in
      let reads = ap (λ (r : Driver Column). read_now r ++ read_before r) driver ∙ reads_mapped (column_at d) right.0 in
      let found = map_among (column_at d) a (read_now right.0 ++ read_before right.0) (subst (λ (cs : List Column). Among a cs) reads read) in
      let below = all_among (λ (k : ℕ). k < length (columns d)) (read_now right.0 ++ read_before right.0) found.0 right.1.below found.1 in
      let here = slice_get-get_or (columns d) found.0 (column [] []) below in
      driven_of a (get_among (columns d) found.0 a (here ∙ ap Some (sym found.2)))
    where
      some_item : (t : Driver Column) (ss : List (Driver Column)) → Among t ss → 0 < length ss
      some_item t [] none = absurd none
      some_item t (r ∷ ss) is = omega arith

      one_item : (t r : Driver Column) → Among t (r ∷ []) → t ≡ r
      one_item t r (inl e) = e
      one_item t r (inr none) = absurd none

  ends : HasNoLoop d → WalksEnd (drivers d) (suc (length (columns d)))
  ends none = walks_end (drivers d) (λ c loop. none c loop) (columns d) column_of

  pub table_of : HasNoLoop d → HasTable (drivers d)
  table_of none = has_table (drivers d) (suc (length (columns d))) (ends none) driven_once

  pub one_table_of : HasNoLoop d → HasOneTable (drivers d)
  one_table_of none = has_one_table (drivers d) (suc (length (columns d))) (ends none) reads_driven
