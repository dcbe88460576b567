-- What drives the nets of a flat part that is made in an order.
use Rattle.std.proofs.Common.{◌≡◌, ◌<◌, ◌≤◌, ◌+◌, ◌==◌, ℕ, zero, suc, Bool, true, false, cond, List, [], ◌∷◌, ◌++◌, length, map, refl, ◌∙◌, ap, arith}
use Rattle.std.specs.List.{flat_map, range_with_len}
use Rattle.std.proofs.lemmas.List.{append-nil, length-map}
use Rattle.std.proofs.lemmas.Bool.{eqb-true, eqb-false, eq-eqb, ne_eqb}
use Rattle.lid_base.specs.Lists.{Among}
use Rattle.lid_design.specs.declared.Design.{Design}
use Rattle.lid_design.specs.declared.Flat.{Flat}
use Rattle.lid_design.specs.declared.FlatLatch.{FlatLatch}
use Rattle.lid_design.specs.declared.FlatCover.{FlatCover}
use Rattle.lid_design.specs.Network.{Driver, from_input, from_latch, from_cover}
use Rattle.lid_design.specs.Flat.{inputs_at, latch_at, cover_at, flat_drivers}
use Rattle.lid_check_digraph.specs.Graphs.{IsOrder}
use Rattle.lid_check_elab.specs.declared.driver.ColumnDriver.{ColumnDriver}
use Rattle.lid_check_elab.specs.declared.driver.ColumnDriver.TheVariants.{Input, Latch, Cover as OfCover, Connection}
use Rattle.lid_check_elab.specs.Covers.{cover_in}
use Rattle.lid_check_elab.specs.Elaborations.{driver_reads, shown_driver}
use Rattle.lid_check_parts.specs.Parts.{driver_at}
use Rattle.lid_check_parts.specs.Inner.{buffer, latches_of, driver_covers, latches_in, network_covers}
use Rattle.lid_check_parts.proofs.Lists.{flat_none, flat_one, order_apart}
use Rattle.lid_base.proofs.Lists.{flat_flat}

inputs_none : (k a n : ℕ) → ((i : ℕ) → a ≤ i → i < a + n → i ≡ k → ⊥) → inputs_at k a (range_with_len a n) ≡ []
inputs_none k a zero none = refl
inputs_none k a (suc n) none =
    ap (λ (b : Bool). cond b (from_input a ∷ []) [] ++ inputs_at k (a + 1) (range_with_len (a + 1) n)) (ne_eqb a k (none a (omega arith) (omega arith)))
    ∙ inputs_none k (a + 1) n (λ i first last e. none i (omega arith) (omega arith) e)

inputs_one : (k a n : ℕ) → a ≤ k → k < a + n → inputs_at k a (range_with_len a n) ≡ from_input k ∷ []
inputs_one k a zero first last = absurd (omega arith)
inputs_one k a (suc n) first last = by (a == k) refl (inputs_one k (a + 1) n)
  where
    by : (b : Bool) → (a == k) ≡ b → (a + 1 ≤ k → k < a + 1 + n → inputs_at k (a + 1) (range_with_len (a + 1) n) ≡ from_input k ∷ []) → cond b (from_input a ∷ []) [] ++ inputs_at k (a + 1) (range_with_len (a + 1) n) ≡ from_input k ∷ []
    by true e next =
        let here = eqb-true a k e in
        ap (λ (ss : List (Driver ℕ)). from_input a ∷ ss) (inputs_none k (a + 1) n (λ i later below equal. absurd (omega arith)))
        ∙ ap (λ (j : ℕ). from_input j ∷ []) here
    by false e next =
        let apart = eqb-false a k e in
        let later : a + 1 ≤ k = past a k first apart in
        next later (omega arith)
      where
        past : (a k : ℕ) → a ≤ k → (a ≡ k → ⊥) → a + 1 ≤ k
        past zero zero h apart = absurd (apart refl)
        past zero (suc k) h apart = omega arith
        past (suc a) zero h apart = absurd (omega arith)
        past (suc a) (suc k) h apart = let r = past a k (omega arith) (λ e. apart (ap suc e)) in omega arith

latch_elsewhere : (d : Design) (k j : ℕ) (s : ColumnDriver) → (j ≡ k → ⊥) → flat_map (latch_at k) (latches_of j (shown_driver d s)) ≡ []
latch_elsewhere d k j (Latch first input) apart = ap (λ (b : Bool). cond b (from_latch first input ∷ []) [] ++ []) (ne_eqb j k apart)
latch_elsewhere d k j (Input place) apart = refl
latch_elsewhere d k j (OfCover model cell inputs) apart = refl
latch_elsewhere d k j (Connection other) apart = refl

cover_elsewhere : (d : Design) (k j : ℕ) (s : ColumnDriver) → (j ≡ k → ⊥) → flat_map (cover_at k) (driver_covers j (shown_driver d s)) ≡ []
cover_elsewhere d k j (OfCover model cell inputs) apart = ap (λ (b : Bool). cond b (from_cover (cover_in d model cell) inputs ∷ []) [] ++ []) (ne_eqb j k apart)
cover_elsewhere d k j (Connection other) apart = ap (λ (b : Bool). cond b (from_cover buffer (other ∷ []) ∷ []) [] ++ []) (ne_eqb j k apart)
cover_elsewhere d k j (Input place) apart = refl
cover_elsewhere d k j (Latch first input) apart = refl

-- what drives a net, by the driver of its number
abbrev pub as_net : Design → ColumnDriver → Driver ℕ
as_net d (Input place) = from_input place
as_net d (Latch first input) = from_latch first input
as_net d (OfCover model cell inputs) = from_cover (cover_in d model cell) inputs
as_net d (Connection other) = from_cover buffer (other ∷ [])

abbrev pub is_input : ColumnDriver → Bool
is_input (Input place) = true
is_input (Latch first input) = false
is_input (OfCover model cell inputs) = false
is_input (Connection other) = false

cell_here : (d : Design) (k : ℕ) (s : ColumnDriver) → is_input s ≡ false → flat_map (latch_at k) (latches_of k (shown_driver d s)) ++ flat_map (cover_at k) (driver_covers k (shown_driver d s)) ≡ as_net d s ∷ []
cell_here d k (Latch first input) e = ap (λ (b : Bool). (cond b (from_latch first input ∷ []) [] ++ []) ++ []) (eq-eqb k k refl)
cell_here d k (OfCover model cell inputs) e = ap (λ (b : Bool). cond b (from_cover (cover_in d model cell) inputs ∷ []) [] ++ []) (eq-eqb k k refl)
cell_here d k (Connection other) e = ap (λ (b : Bool). cond b (from_cover buffer (other ∷ []) ∷ []) [] ++ []) (eq-eqb k k refl)
cell_here d k (Input place) e = absurd (let f : true ≡ false = e in cc)

cell_none : (d : Design) (k : ℕ) (s : ColumnDriver) → is_input s ≡ true → flat_map (latch_at k) (latches_of k (shown_driver d s)) ++ flat_map (cover_at k) (driver_covers k (shown_driver d s)) ≡ []
cell_none d k (Input place) e = refl
cell_none d k (Latch first input) e = absurd (let f : false ≡ true = e in cc)
cell_none d k (OfCover model cell inputs) e = absurd (let f : false ≡ true = e in cc)
cell_none d k (Connection other) e = absurd (let f : false ≡ true = e in cc)

-- a flat part whose first nets are inputs, with the latches and covers of an order of its nets
pub record IsMade (d : Design) (inner : List ColumnDriver) (order : List ℕ) (inputs : ℕ) (f : Flat) : Type 0 where
  pub nets : f.nets ≡ length inner
  pub ins : f.ins ≡ range_with_len 0 inputs
  pub latches : f.latches ≡ latches_in d inner order
  pub covers : f.covers ≡ network_covers d inner order
  pub ordered : IsOrder (map driver_reads inner) order
  pub few : inputs ≤ length inner
  pub given : (k : ℕ) → k < inputs → driver_at inner k ≡ Input k
  pub others : (k : ℕ) → inputs ≤ k → k < length inner → is_input (driver_at inner k) ≡ false

module _ (d : Design) (inner : List ColumnDriver) (order : List ℕ) (inputs : ℕ) (f : Flat) (made : IsMade d inner order inputs f) where
  pub graph_long : length (map driver_reads inner) ≡ length inner
  graph_long = length-map inner driver_reads

  pub in_order : (k : ℕ) → k < length inner → Among k order
  in_order k h = let long = graph_long in made.ordered.all k (omega arith)

  pub order_below : (k : ℕ) → Among k order → k < length inner
  order_below k among = let h = made.ordered.within k among in let long = graph_long in omega arith

  abbrev drivers_by : ℕ → List (Driver ℕ) → List (Driver ℕ) → List (Driver ℕ)
  drivers_by k latched covered = inputs_at k 0 (range_with_len 0 inputs) ++ (latched ++ covered)

  parts : (k : ℕ) → flat_drivers f k ≡ drivers_by k (flat_map (latch_at k) (latches_in d inner order)) (flat_map (cover_at k) (network_covers d inner order))
  unfolding flat_drivers
  parts k =
      ap (λ (ns : List ℕ). inputs_at k 0 ns ++ (flat_map (latch_at k) f.latches ++ flat_map (cover_at k) f.covers)) made.ins
      ∙ ap (λ (ls : List FlatLatch). drivers_by k (flat_map (latch_at k) ls) (flat_map (cover_at k) f.covers)) made.latches
      ∙ ap (λ (cs : List FlatCover). drivers_by k (flat_map (latch_at k) (latches_in d inner order)) (flat_map (cover_at k) cs)) made.covers

  abbrev latched : ℕ → ℕ → List (Driver ℕ)
  latched k j = flat_map (latch_at k) (latches_of j (shown_driver d (driver_at inner j)))

  abbrev covered : ℕ → ℕ → List (Driver ℕ)
  covered k j = flat_map (cover_at k) (driver_covers j (shown_driver d (driver_at inner j)))

  -- a net is driven by what its number says alone
  here : (k : ℕ) → k < length inner → flat_drivers f k ≡ drivers_by k (latched k k) (covered k k)
  here k h =
      let apart = order_apart (map driver_reads inner) order made.ordered in
      let among = in_order k h in
      parts k
      ∙ ap (λ (ss : List (Driver ℕ)). drivers_by k ss (flat_map (cover_at k) (network_covers d inner order)))
      (flat_flat (latch_at k) (λ j. latches_of j (shown_driver d (driver_at inner j))) order
      ∙ flat_one (latched k) k (λ j other. latch_elsewhere d k j (driver_at inner j) other) order apart among)
      ∙ ap (λ (ss : List (Driver ℕ)). drivers_by k (latched k k) ss)
      (flat_flat (cover_at k) (λ j. driver_covers j (shown_driver d (driver_at inner j))) order
      ∙ flat_one (covered k) k (λ j other. cover_elsewhere d k j (driver_at inner j) other) order apart among)

  pub input_driver : (k : ℕ) → k < inputs → flat_drivers f k ≡ from_input k ∷ []
  input_driver k h =
      let few = made.few in
      here k (omega arith)
      ∙ ap (λ (ss : List (Driver ℕ)). inputs_at k 0 (range_with_len 0 inputs) ++ ss) (cell_none d k (driver_at inner k) (ap is_input (made.given k h)))
      ∙ append-nil (inputs_at k 0 (range_with_len 0 inputs))
      ∙ inputs_one k 0 inputs (omega arith) (omega arith)

  pub cell_driver : (k : ℕ) → inputs ≤ k → k < length inner → flat_drivers f k ≡ as_net d (driver_at inner k) ∷ []
  cell_driver k past h =
      here k h
      ∙ ap (λ (ss : List (Driver ℕ)). ss ++ (latched k k ++ covered k k)) (inputs_none k 0 inputs (λ i first last e. absurd (omega arith)))
      ∙ cell_here d k (driver_at inner k) (made.others k past h)

  pub no_driver : (k : ℕ) → length inner ≤ k → flat_drivers f k ≡ []
  no_driver k past =
      let few = made.few in
      let not_there : Among k order → ⊥ = λ among. (let h = order_below k among in absurd (omega arith)) in
      parts k
      ∙ ap (λ (ss : List (Driver ℕ)). ss ++ (flat_map (latch_at k) (latches_in d inner order) ++ flat_map (cover_at k) (network_covers d inner order))) (inputs_none k 0 inputs (λ i first last e. absurd (omega arith)))
      ∙ ap (λ (ss : List (Driver ℕ)). ss ++ flat_map (cover_at k) (network_covers d inner order))
      (flat_flat (latch_at k) (λ j. latches_of j (shown_driver d (driver_at inner j))) order
      ∙ flat_none (latched k) k (λ j other. latch_elsewhere d k j (driver_at inner j) other) order not_there)
      ∙ flat_flat (cover_at k) (λ j. driver_covers j (shown_driver d (driver_at inner j))) order
      ∙ flat_none (covered k) k (λ j other. cover_elsewhere d k j (driver_at inner j) other) order not_there
