-- A flat part that is made in an order meets the rules of flat parts.
use Rattle.std.proofs.Common.{◌≡◌, ◌<◌, ◌≤◌, ◌+◌, ℕ, zero, suc, true, false, List, [], ◌∷◌, ◌++◌, length, map, inl, inr, refl, sym, ◌∙◌, ap, subst, arith}
use Rattle.std.specs.List.{AllByRecursion, range_with_len}
use Rattle.std.proofs.lemmas.Bool.{cases_lt}
use Rattle.lid_base.specs.Lists.{Among}
use Rattle.lid_base.proofs.Lists.{among_left, among_right, among_flat, among_map}
use Rattle.lid_cover.specs.Cover.{IsCover}
use Rattle.lid_design.specs.declared.Design.{Design}
use Rattle.lid_design.specs.declared.Flat.{Flat}
use Rattle.lid_design.specs.declared.FlatLatch.{FlatLatch}
use Rattle.lid_design.specs.declared.FlatCover.{FlatCover}
use Rattle.lid_design.specs.Walks.{IsDriven}
use Rattle.lid_design.specs.Flat.{flat_drivers, latch_out, IsNumbered, ReadEarlier, IsFlatCover}
use Rattle.lid_check_digraph.specs.Graphs.{reads_at}
use Rattle.lid_check_elab.specs.declared.driver.ColumnDriver.{ColumnDriver}
use Rattle.lid_check_elab.specs.declared.driver.ColumnDriver.TheVariants.{Input, Latch, Cover as OfCover, Connection}
use Rattle.lid_check_elab.specs.Elaborations.{driver_reads, shown_driver}
use Rattle.lid_check_parts.specs.Parts.{driver_at, HasCover, IsUnjudged}
use Rattle.lid_check_parts.specs.Inner.{buffer, latches_of, driver_covers, latches_in, network_covers}
use Rattle.lid_check_parts.proofs.Lists.{all_range, among_range}
use Rattle.lid_check_parts.proofs.Earlier.{Gives, read_earlier}
use Rattle.lid_check_parts.proofs.Nets.{is_input, IsMade, order_below, input_driver, cell_driver, no_driver}
use Rattle.lid_base.proofs.Alls.{all_flat}

-- all numbers that a driver reads
abbrev pub numbers_of : ColumnDriver → List ℕ
numbers_of (Input place) = []
numbers_of (Latch first input) = input ∷ []
numbers_of (OfCover model cell inputs) = inputs
numbers_of (Connection other) = other ∷ []

pub reads_here : (inner : List ColumnDriver) (k : ℕ) → reads_at (map driver_reads inner) k ≡ driver_reads (driver_at inner k)
reads_here [] k = refl
reads_here (s ∷ inner) zero = refl
reads_here (s ∷ inner) (suc k) = reads_here inner k

latch_below : (d : Design) (n k : ℕ) (s : ColumnDriver) → k < n → AllByRecursion (λ a. a < n) (numbers_of s) → AllByRecursion (λ l. (l.input < n) × (l.out < n)) (latches_of k (shown_driver d s))
latch_below d n k (Latch first input) h below = ((below.0, h), tt)
latch_below d n k (Input place) h below = tt
latch_below d n k (OfCover model cell inputs) h below = tt
latch_below d n k (Connection other) h below = tt

cover_below : (d : Design) (n k : ℕ) (s : ColumnDriver) → k < n → AllByRecursion (λ a. a < n) (numbers_of s) → AllByRecursion (λ c. AllByRecursion (λ a. a < n) c.ins × (c.out < n)) (driver_covers k (shown_driver d s))
cover_below d n k (OfCover model cell inputs) h below = ((below, h), tt)
cover_below d n k (Connection other) h below = ((below, h), tt)
cover_below d n k (Input place) h below = tt
cover_below d n k (Latch first input) h below = tt

pub buffer_is_cover : IsCover buffer
buffer_is_cover = record { width = omega arith; cubes = (record { in_range = omega arith; within = refl }, tt) }

cover_met : (d : Design) (k : ℕ) (s : ColumnDriver) → HasCover d s → AllByRecursion IsFlatCover (driver_covers k (shown_driver d s))
cover_met d k (OfCover model cell inputs) covered = (covered, tt)
cover_met d k (Connection other) covered = ((buffer_is_cover, refl), tt)
cover_met d k (Input place) covered = tt
cover_met d k (Latch first input) covered = tt

module _ (d : Design) (inner : List ColumnDriver) (order : List ℕ) (inputs : ℕ) (f : Flat) (made : IsMade d inner order inputs f) where
  abbrev known_first : List ℕ
  known_first = range_with_len 0 inputs ++ map latch_out (latches_in d inner order)

  -- what gives a number its bit: it is known before any cover is run, or a cover gives it by what stands earlier
  gives : (k : ℕ) → Among k order → (s : ColumnDriver) → driver_at inner k ≡ s → Gives (map driver_reads inner) known_first k (driver_covers k (shown_driver d s))
  gives k among (Input place) is =
      elim (cases_lt k inputs) [
        | inl given ↦ among_left k (range_with_len 0 inputs) (map latch_out (latches_in d inner order)) (among_range 0 inputs k (omega arith) (omega arith))
        | inr past ↦ absurd (let e : is_input (driver_at inner k) ≡ false = made.others k past (order_below d inner order inputs f made k among) in let g : true ≡ false = sym (ap is_input is) ∙ e in cc)
      ]
  gives k among (Latch first input) is =
      let latch : FlatLatch = record { input = input; out = k; init = first } in
      among_right k (range_with_len 0 inputs) (map latch_out (latches_in d inner order))
      (among_map latch_out latch (latches_in d inner order)
      (among_flat (λ k. latches_of k (shown_driver d (driver_at inner k))) k latch order among (subst (λ (s : ColumnDriver). Among latch (latches_of k (shown_driver d s))) (sym is) (inl refl))))
  gives k among (OfCover model cell inputs) is = (refl, λ a read. subst (Among a) (sym (reads_here inner k ∙ ap driver_reads is)) read)
  gives k among (Connection other) is = (refl, λ a read. subst (Among a) (sym (reads_here inner k ∙ ap driver_reads is)) read)

  earlier : ReadEarlier (f.ins ++ map latch_out f.latches) f.covers
  earlier =
      let along : ReadEarlier known_first (network_covers d inner order) = read_earlier (map driver_reads inner) order made.ordered (λ k. driver_covers k (shown_driver d (driver_at inner k))) known_first (λ k among. gives k among (driver_at inner k) refl) in
      let same : f.ins ++ map latch_out f.latches ≡ known_first = ap (λ (ns : List ℕ). ns ++ map latch_out f.latches) made.ins ∙ ap (λ (ls : List FlatLatch). range_with_len 0 inputs ++ map latch_out ls) made.latches in
      subst (λ (ks : List ℕ). ReadEarlier ks f.covers) (sym same) (subst (ReadEarlier known_first) (sym made.covers) along)

  at_most_one : (k : ℕ) → length (flat_drivers f k) ≤ 1
  at_most_one k = elim (cases_lt k inputs) [
    | inl given ↦ (let e : length (flat_drivers f k) ≡ 1 = ap length (input_driver d inner order inputs f made k given) in omega arith)
    | inr past ↦ elim (cases_lt k (length inner)) [
      | inl here ↦ (let e : length (flat_drivers f k) ≡ 1 = ap length (cell_driver d inner order inputs f made k past here) in omega arith)
      | inr none ↦ (let e : length (flat_drivers f k) ≡ 0 = ap length (no_driver d inner order inputs f made k none) in omega arith)
    ]
  ]

  at_least_one : (k : ℕ) → k < f.nets → IsDriven (flat_drivers f) k
  at_least_one k h =
      let nets = made.nets in
      elim (cases_lt k inputs) [
        | inl given ↦ (let e : length (flat_drivers f k) ≡ 1 = ap length (input_driver d inner order inputs f made k given) in omega arith)
        | inr past ↦ (let e : length (flat_drivers f k) ≡ 1 = ap length (cell_driver d inner order inputs f made k past (omega arith)) in omega arith)
      ]

  module _ (outputs : ℕ) (outs : f.outs ≡ range_with_len inputs outputs) (ports : inputs + outputs ≤ length inner)
      (below : (k : ℕ) → k < length inner → AllByRecursion (λ a. a < length inner) (numbers_of (driver_at inner k)))
      (covered : (k : ℕ) → k < length inner → HasCover d (driver_at inner k)) where
    numbered : IsNumbered f
    numbered = record {
      ins = subst (AllByRecursion (λ (k : ℕ). k < f.nets)) (sym made.ins) (let nets = made.nets in let few = made.few in all_range (λ k. k < f.nets) 0 inputs (λ k first last. omega arith));
      outs = subst (AllByRecursion (λ (k : ℕ). k < f.nets)) (sym outs) (let nets = made.nets in all_range (λ k. k < f.nets) inputs outputs (λ k first last. omega arith));
      latches = subst (AllByRecursion (λ (l : FlatLatch). (l.input < f.nets) × (l.out < f.nets))) (sym made.latches)
          (subst (λ (n : ℕ). AllByRecursion (λ (l : FlatLatch). (l.input < n) × (l.out < n)) (latches_in d inner order)) (sym made.nets)
          (all_flat (λ l. (l.input < length inner) × (l.out < length inner)) (λ k. latches_of k (shown_driver d (driver_at inner k))) order
          (λ k among. let h = order_below d inner order inputs f made k among in latch_below d (length inner) k (driver_at inner k) h (below k h))));
      covers = subst (AllByRecursion (λ (c : FlatCover). AllByRecursion (λ k. k < f.nets) c.ins × (c.out < f.nets))) (sym made.covers)
          (subst (λ (n : ℕ). AllByRecursion (λ (c : FlatCover). AllByRecursion (λ k. k < n) c.ins × (c.out < n)) (network_covers d inner order)) (sym made.nets)
          (all_flat (λ c. AllByRecursion (λ k. k < length inner) c.ins × (c.out < length inner)) (λ k. driver_covers k (shown_driver d (driver_at inner k))) order
          (λ k among. let h = order_below d inner order inputs f made k among in cover_below d (length inner) k (driver_at inner k) h (below k h))));
    }

    pub rules : IsUnjudged f
    rules = record {
      below = numbered;
      once = at_most_one;
      driven = at_least_one;
      earlier = earlier;
      covers = subst (AllByRecursion IsFlatCover) (sym made.covers)
          (all_flat IsFlatCover (λ k. driver_covers k (shown_driver d (driver_at inner k))) order
          (λ k among. cover_met d k (driver_at inner k) (covered k (order_below d inner order inputs f made k among))));
    }
