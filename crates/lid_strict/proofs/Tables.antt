-- Strict tables of a design and of its numbered columns.
use Rattle.std.proofs.Common.{◌≡◌, ℕ, zero, suc, ◌<◌, ◌≤◌, Bool, List, [], ◌∷◌, length, map, Option, Some, None, slice_get, option_to_list, refl, sym, ◌∙◌, ap, subst, arith}
use Rattle.std.specs.List.{AllByRecursion}
use Rattle.std.proofs.lemmas.Option.{slice_get_within}
use Rattle.lid_base.proofs.Lists.{among_get}
use Rattle.lid_cover.specs.Cover.{cover_value}
use Rattle.lid_design.specs.declared.Design.{Design}
use Rattle.lid_design.specs.Network.{Driver, from_input, from_latch, from_cover, from_connection, Table, IsStrict, bit_of}
use Rattle.lid_design.specs.Columns.{Column, drivers}
use Rattle.lid_design.specs.Elaboration.{columns}
use Rattle.lid_design.specs.Walks.{WalksEnd, IsDriven, IsDrivenOnce, HasTable}
use Rattle.lid_design.specs.Feeds.{EdgesLead}
use Rattle.lid_design.proofs.Tables.{has_table}
use Rattle.lid_check_digraph.specs.Graphs.{IsOrder}
use Rattle.lid_check_digraph.proofs.Orders.{walks_end}
use Rattle.lid_check_elab.specs.Elaborations.{map_driver, column_at, IsElaborated}
use Rattle.lid_check_loops.proofs.Numbered.{graph, graph_length, column_here, within, fed_number, walk_up, column_is}
use Rattle.lid_strict.specs.Networks.{driver_list}

pub map_map : (f : Column → Bool) (g : ℕ → Column) (xs : List ℕ) → map f (map g xs) ≡ map (λ k. f (g k)) xs
map_map f g [] = refl
map_map f g (x ∷ xs) = ap (λ (bs : List Bool). f (g x) ∷ bs) (map_map f g xs)

-- what a driver gives, by numbers
numbered_bit : (rows : List (List Bool)) (b : Table Column) (col : ℕ → Column) (t : ℕ) (s : Driver ℕ) → bit_of rows b t (map_driver col s) ≡ bit_of rows (λ u k. b u (col k)) t s
numbered_bit rows b col t (from_input j) = refl
numbered_bit rows b col zero (from_latch first input) = refl
numbered_bit rows b col (suc t) (from_latch first input) = refl
numbered_bit rows b col t (from_cover cover inputs) = ap (cover_value cover) (map_map (b t) col inputs)
numbered_bit rows b col t (from_connection other) = refl

-- where each driven column has one driver, none is driven twice
pub once_by : {C : Type 0} (drivers : C → List (Driver C)) → ((c : C) → IsDriven drivers c → (s : Driver C) × (drivers c ≡ s ∷ [])) → IsDrivenOnce drivers
once_by {C} drivers one c = by (drivers c) refl
  where
    by : (ss : List (Driver C)) → drivers c ≡ ss → length ss ≤ 1
    by [] e = omega arith
    by (s ∷ ss) e =
        let driven : IsDriven drivers c = subst (λ (rs : List (Driver C)). 0 < length rs) (sym e) (omega arith) in
        let long = ap length (sym e ∙ (one c driven).1) in
        omega arith

module _ (d : Design) (network : List (Driver ℕ)) (starts : List ℕ) (is : IsElaborated d network starts) where
  -- a strict table of the design is one of the numbered columns
  pub numbered : (rows : List (List Bool)) (b : Table Column) → IsStrict (drivers d) rows b → IsStrict (driver_list network) rows (λ t k. b t (column_at d k))
  numbered rows b strict t k h = by (slice_get network k) refl
    where
      one : (s : Driver ℕ) → slice_get network k ≡ Some s → b t (column_at d k) ≡ bit_of rows (λ u j. b u (column_at d j)) t s
      one s here =
          let driven = is.each k (column_at d k) (column_here d network starts is k (slice_get_within network k s here)) in
          let e : Some s ≡ Some driven.driver = sym here ∙ driven.here in
          let same_driver : driven.driver ≡ s = cc in
          let all = subst (λ (ss : List (Driver Column)). AllByRecursion (λ r. b t (column_at d k) ≡ bit_of rows b t r) ss) driven.only (strict t (column_at d k) h) in
          all.0 ∙ numbered_bit rows b (column_at d) t driven.driver ∙ ap (bit_of rows (λ u j. b u (column_at d j)) t) same_driver

      by : (o : Option (Driver ℕ)) → slice_get network k ≡ o → AllByRecursion (λ s. b t (column_at d k) ≡ bit_of rows (λ u j. b u (column_at d j)) t s) (option_to_list o)
      by None here = tt
      by (Some s) here = (one s here, tt)

  pub once : IsDrivenOnce (drivers d)
  once = once_by (drivers d) (λ c driven.
      let number = among_get (columns d) c (is.every c driven) in
      let found = is.each number.0 c number.1 in
      (map_driver (column_at d) found.driver, found.only))

  pub ends : (order : List ℕ) → IsOrder (graph d network starts is) order → WalksEnd (drivers d) (suc (length network))
  ends order ordered c a w =
      let number = fed_number d network starts is w.0 c w.2 in
      let col : column_at d number.0 ≡ c = column_is d network starts is number.0 c number.1 in
      let below = within d network starts is number.0 c number.1 in
      let up = walk_up d network starts is (suc (length network)) a number.0 below (subst (λ (x : Column). EdgesLead (drivers d) (suc (length network)) a x) (sym col) w) in
      let long = graph_length d network starts is in
      let short = walks_end (graph d network starts is) order ordered (suc (length network)) up.0 number.0 (omega arith) up.3 in
      absurd (omega arith)

  pub table : (order : List ℕ) → IsOrder (graph d network starts is) order → HasTable (drivers d)
  table order ordered = has_table (drivers d) (suc (length network)) (ends order ordered) once
