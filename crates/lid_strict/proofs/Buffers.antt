-- What buffers pass on: a strict table of a network is one of it with its buffers as connections, which reads the same.
use Rattle.std.proofs.Common.{◌≡◌, ◌<◌, ℕ, suc, Bool, true, false, if◌then◌else◌, List, [], ◌∷◌, length, map, Option, Some, None, slice_get, slice_index_or, option_to_list, option_map, refl, sym, ◌∙◌, ap, subst, arith}
use Rattle.std.specs.List.{AllByRecursion}
use Rattle.std.proofs.lemmas.List.{length-map}
use Rattle.std.proofs.lemmas.Option.{slice_get-map}
use Rattle.lid_base.proofs.Lists.{all_at, all_among, among_map, map_same, map_twice}
use Rattle.lid_base.proofs.Alls.{all_map_by}
use Rattle.lid_cover.specs.declared.Cover.{Cover}
use Rattle.lid_cover.specs.Cover.{cover_value}
use Rattle.lid_design.specs.declared.Design.{Design}
use Rattle.lid_design.specs.Network.{Driver, from_cover, from_connection, Table, IsStrict, bit_of}
use Rattle.lid_design.specs.Feeds.{read_now}
use Rattle.lid_design.specs.Walks.{read_before}
use Rattle.lid_check_rules.specs.Buffers.{passes_on}
use Rattle.lid_check_rules.proofs.Buffers.{passed_on}
use Rattle.lid_check_digraph.specs.Graphs.{IsOrder}
use Rattle.lid_check_elab.specs.Covers.{cover_in}
use Rattle.lid_check_elab.specs.declared.driver.ColumnDriver.{ColumnDriver}
use Rattle.lid_check_elab.specs.declared.driver.ColumnDriver.TheVariants.{Input, Latch, Cover as OfCover, Connection}
use Rattle.lid_check_elab.specs.Elaborations.{shown_driver}
use Rattle.lid_check_parts.specs.Parts.{HasCover}
use Rattle.lid_strict.specs.Networks.{driver_list, reads_of, AreTakenBelow}
use Rattle.lid_strict.specs.Stems.{unbuffered_driver}

-- the value of a buffer is the bit of its input
passed_value : (cover : Cover) → passes_on cover ≡ true → (bit : Bool) → cover_value cover (bit ∷ []) ≡ bit
passed_value cover passes true = (passed_on cover passes).2
passed_value cover passes false = (passed_on cover passes).1

module _ (cover : Cover) where
  -- a buffer has one input
  one_input : (inputs : List ℕ) → cover.inputs ≡ length inputs → passes_on cover ≡ true → inputs ≡ slice_index_or inputs 0 0 ∷ []
  one_input [] wide passes =
      let one : cover.inputs ≡ 1 = (passed_on cover passes).0 in
      let none : cover.inputs ≡ 0 = wide in
      absurd (omega arith)
  one_input (a ∷ []) wide passes = refl
  one_input (a ∷ b ∷ more) wide passes =
      let one : cover.inputs ≡ 1 = (passed_on cover passes).0 in
      let two : cover.inputs ≡ suc (suc (length more)) = wide in
      absurd (omega arith)

  module _ (inputs : List ℕ) (wide : cover.inputs ≡ length inputs) where
    abbrev seen : Bool → Driver ℕ
    seen v = if v then from_connection (slice_index_or inputs 0 0) else from_cover cover inputs

    cover_reads : read_now (seen (passes_on cover)) ≡ inputs
    cover_reads = by (passes_on cover) refl
      where
        by : (v : Bool) → passes_on cover ≡ v → read_now (seen v) ≡ inputs
        by true passes = sym (one_input inputs wide passes)
        by false stops = refl

    cover_before : read_before (seen (passes_on cover)) ≡ []
    cover_before = by (passes_on cover)
      where
        by : (v : Bool) → read_before (seen v) ≡ []
        by true = refl
        by false = refl

    cover_bit : (rows : List (List Bool)) (b : Table ℕ) (t : ℕ) → cover_value cover (map (b t) inputs) ≡ bit_of rows b t (seen (passes_on cover))
    cover_bit rows b t = by (passes_on cover) refl
      where
        by : (v : Bool) → passes_on cover ≡ v → cover_value cover (map (b t) inputs) ≡ bit_of rows b t (seen v)
        by true passes = ap (λ (ks : List ℕ). cover_value cover (map (b t) ks)) (one_input inputs wide passes) ∙ passed_value cover passes (b t (slice_index_or inputs 0 0))
        by false stops = refl

module _ (d : Design) where
  driver_reads : (driver : ColumnDriver) → HasCover d driver → read_now (unbuffered_driver d driver) ≡ read_now (shown_driver d driver)
  driver_reads (Input place) has = refl
  driver_reads (Latch first input) has = refl
  driver_reads (OfCover model cell inputs) has = cover_reads (cover_in d model cell) inputs has.1
  driver_reads (Connection other) has = refl

  driver_before : (driver : ColumnDriver) → HasCover d driver → read_before (unbuffered_driver d driver) ≡ read_before (shown_driver d driver)
  driver_before (Input place) has = refl
  driver_before (Latch first input) has = refl
  driver_before (OfCover model cell inputs) has = cover_before (cover_in d model cell) inputs has.1
  driver_before (Connection other) has = refl

  driver_bit : (rows : List (List Bool)) (b : Table ℕ) (t : ℕ) (driver : ColumnDriver) → HasCover d driver → bit_of rows b t (shown_driver d driver) ≡ bit_of rows b t (unbuffered_driver d driver)
  driver_bit rows b t (Input place) has = refl
  driver_bit rows b t (Latch first input) has = refl
  driver_bit rows b t (OfCover model cell inputs) has = cover_bit (cover_in d model cell) inputs has.1 rows b t
  driver_bit rows b t (Connection other) has = refl

  module _ (drivers : List ColumnDriver) (covers : AllByRecursion (HasCover d) drivers) where
    abbrev network : List (Driver ℕ)
    network = map (shown_driver d) drivers

    abbrev past : List (Driver ℕ)
    past = map (unbuffered_driver d) drivers

    reads_past : reads_of past ≡ reads_of network
    reads_past =
        map_twice read_now (unbuffered_driver d) drivers
        ∙ map_same (λ x. read_now (unbuffered_driver d x)) (λ x. read_now (shown_driver d x)) drivers (λ x among. driver_reads x (all_among (HasCover d) drivers x covers among))
        ∙ sym (map_twice read_now (shown_driver d) drivers)

    -- an order stays one
    pub order_past : (order : List ℕ) → IsOrder (reads_of network) order → IsOrder (reads_of past) order
    order_past order ordered = subst (λ (g : List (List ℕ)). IsOrder g order) (sym reads_past) ordered

    -- what latches read has a number still
    pub taken_past : AreTakenBelow network → AreTakenBelow past
    taken_past below = all_map_by (λ (s : Driver ℕ). AllByRecursion (λ a. a < length past) (read_before s)) (unbuffered_driver d) drivers (λ x among.
        let all = all_among (λ (s : Driver ℕ). AllByRecursion (λ a. a < length network) (read_before s)) network (shown_driver d x) below (among_map (shown_driver d) x drivers among) in
        let long : length network ≡ length past = length-map drivers (shown_driver d) ∙ sym (length-map drivers (unbuffered_driver d)) in
        subst (λ (n : ℕ). AllByRecursion (λ a. a < n) (read_before (unbuffered_driver d x))) long
        (subst (AllByRecursion (λ (a : ℕ). a < length network)) (sym (driver_before x (all_among (HasCover d) drivers x covers among))) all))

    -- a strict table stays one
    pub strict_past : (rows : List (List Bool)) (b : Table ℕ) → IsStrict (driver_list network) rows b → IsStrict (driver_list past) rows b
    strict_past rows b strict t k h =
        subst (λ (o : Option (Driver ℕ)). AllByRecursion (λ s. b t k ≡ bit_of rows b t s) (option_to_list o)) (sym (slice_get-map (unbuffered_driver d) drivers k))
        (by (slice_get drivers k) refl
        (subst (λ (o : Option (Driver ℕ)). AllByRecursion (λ s. b t k ≡ bit_of rows b t s) (option_to_list o)) (slice_get-map (shown_driver d) drivers k) (strict t k h)))
      where
        by : (o : Option ColumnDriver) → slice_get drivers k ≡ o → AllByRecursion (λ s. b t k ≡ bit_of rows b t s) (option_to_list (option_map (shown_driver d) o)) → AllByRecursion (λ s. b t k ≡ bit_of rows b t s) (option_to_list (option_map (unbuffered_driver d) o))
        by None here all = tt
        by (Some x) here all = (all.0 ∙ driver_bit rows b t x (all_at (HasCover d) drivers k x covers here), tt)
