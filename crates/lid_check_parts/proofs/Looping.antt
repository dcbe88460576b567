-- Parts of a network: what their drivers read, and that no closed walk comes by counting from the start.
use Rattle.std.proofs.Common.{◌≡◌, ◌⊎◌, ◌<◌, ◌≤◌, ◌+◌, ◌-◌, ℕ, zero, suc, Bool, true, false, cond, List, [], ◌∷◌, length, map, inl, inr, refl, sym, ◌∙◌, ap, subst, arith, zero-add}
use Rattle.std.specs.List.{AllByRecursion, range_with_len}
use Rattle.std.proofs.lemmas.Bool.{lt-ltb, le-ltb, cases_lt}
use Rattle.std.proofs.lemmas.List.{length-map}
use Rattle.std.proofs.lemmas.Option.{slice_get-get_or}
use Rattle.std.proofs.lemmas.List.FromFn.{length-map-range_with_len, get_or-map-range_with_len}
use Rattle.lid_base.specs.Lists.{Among}
use Rattle.lid_base.proofs.Lists.{map_among, all_among, all_at}
use Rattle.lid_cover.specs.Cover.{cover_value}
use Rattle.lid_design.specs.declared.Design.{Design}
use Rattle.lid_design.specs.declared.Flat.{Flat}
use Rattle.lid_design.specs.Network.{Driver, from_input, from_latch, from_cover, from_connection}
use Rattle.lid_design.specs.Flat.{flat_drivers}
use Rattle.lid_check_digraph.specs.Graphs.{reads_at, IsGraph, EdgesLead, HasNoLoop, IsOrder}
use Rattle.lid_check_digraph.proofs.Orders.{reader_within}
use Rattle.lid_check_elab.specs.declared.driver.ColumnDriver.{ColumnDriver}
use Rattle.lid_check_elab.specs.declared.driver.ColumnDriver.TheVariants.{Input, Latch, Cover as OfCover, Connection}
use Rattle.lid_check_elab.specs.Covers.{cover_in}
use Rattle.lid_check_elab.specs.Elaborations.{driver_reads, shown_driver}
use Rattle.lid_check_rules.proofs.Buffers.{passing}
use Rattle.lid_check_parts.specs.Standing.{StandsFor, IsInput, StandsForAll}
use Rattle.lid_check_parts.specs.Parts.{driver_at, IsIn, StaysIn, IsNetworkPart, HasCover, IsFlattened}
use Rattle.lid_check_parts.specs.Inner.{buffer, counted_from, inner_driver, inner_drivers, latches_in, network_covers}
use Rattle.lid_check_parts.specs.declared.part.PearlPart.{PearlPart}
use Rattle.lid_check_parts.proofs.Nets.{is_input, as_net, IsMade, input_driver, cell_driver, no_driver}
use Rattle.lid_check_parts.proofs.Rules.{numbers_of, reads_here, rules}

-- a number of a part, counted from its first
back : (part : PearlPart) (a : ℕ) → IsIn part a → part.start + (a - part.start) ≡ a
back part a inside = let first = inside.first in omega arith

short : (part : PearlPart) (a : ℕ) → IsIn part a → a - part.start < part.nets
short part a inside = let first = inside.first in let last = inside.last in omega arith

back_all : (part : PearlPart) (ns : List ℕ) → AllByRecursion (IsIn part) ns → map (λ k. part.start + k) (map (λ a. a - part.start) ns) ≡ ns
back_all part [] all = refl
back_all part (a ∷ ns) all =
    let head = back part a all.0 in
    let tail = back_all part ns all.1 in
    cc

short_all : (part : PearlPart) (ns : List ℕ) → AllByRecursion (IsIn part) ns → AllByRecursion (λ a. a < part.nets) (map (λ a. a - part.start) ns)
short_all part [] all = tt
short_all part (a ∷ ns) all = (short part a all.0, short_all part ns all.1)

stays_below : (part : PearlPart) (s : ColumnDriver) → StaysIn part s → AllByRecursion (λ a. a < part.nets) (numbers_of (counted_from part.start s))
stays_below part (Input place) stays = absurd stays
stays_below part (Latch first input) stays = (short part input stays, tt)
stays_below part (OfCover model cell inputs) stays = short_all part inputs stays
stays_below part (Connection other) stays = (short part other stays, tt)

stays_cell : (part : PearlPart) (s : ColumnDriver) → StaysIn part s → is_input (counted_from part.start s) ≡ false
stays_cell part (Input place) stays = absurd stays
stays_cell part (Latch first input) stays = refl
stays_cell part (OfCover model cell inputs) stays = refl
stays_cell part (Connection other) stays = refl

counted_cover : (d : Design) (start : ℕ) (s : ColumnDriver) → HasCover d s → HasCover d (counted_from start s)
counted_cover d start (Input place) covered = tt
counted_cover d start (Latch first input) covered = tt
counted_cover d start (OfCover model cell inputs) covered = (covered.0, covered.1 ∙ sym (length-map inputs (λ a. a - start)))
counted_cover d start (Connection other) covered = tt

-- what is read after counting was read before
read_back : (part : PearlPart) (s : ColumnDriver) (b : ℕ) → StaysIn part s → Among b (driver_reads (counted_from part.start s)) → Among (part.start + b) (driver_reads s)
read_back part (Input place) b stays among = absurd among
read_back part (Latch first input) b stays among = absurd among
read_back part (OfCover model cell inputs) b stays among =
    let found = map_among (λ a. a - part.start) b inputs among in
    subst (λ (a : ℕ). Among a inputs) (sym (ap (λ (k : ℕ). part.start + k) found.2 ∙ back part found.0 (all_among (IsIn part) inputs found.0 stays found.1))) found.1
read_back part (Connection other) b stays (inl here) = inl (ap (λ (k : ℕ). part.start + k) here ∙ back part other stays)
read_back part (Connection other) b stays (inr none) = absurd none

-- a buffer gives the bit that it reads
pub buffered : (v : Bool) → cover_value buffer (v ∷ []) ≡ v
unfolding cover_value
buffered true = refl
buffered false = refl

-- a driver of a net stands for that of the number
stands : (d : Design) (part : PearlPart) (s : ColumnDriver) → StaysIn part s → StandsFor (λ k. part.start + k) (as_net d (counted_from part.start s)) (shown_driver d s)
stands d part (Input place) stays = absurd stays
stands d part (Latch first input) stays = ap (from_latch first) (sym (back part input stays))
stands d part (OfCover model cell inputs) stays = inl (ap (from_cover (cover_in d model cell)) (sym (back_all part inputs stays)))
stands d part (Connection other) stays = inr (other - part.start, refl, passing buffer refl (buffered false) (buffered true), ap from_connection (sym (back part other stays)))

module _ (drivers : List ColumnDriver) (part : PearlPart) (is : IsNetworkPart drivers part) where
  abbrev inner : List ColumnDriver
  inner = inner_drivers drivers part

  pub long : length inner ≡ part.nets
  long = length-map-range_with_len (inner_driver drivers part) 0 part.nets

  pub at : (k : ℕ) → k < part.nets → driver_at inner k ≡ inner_driver drivers part k
  at k h = get_or-map-range_with_len (inner_driver drivers part) 0 part.nets k k (Input 0) h (zero-add k)

  at_input : (k : ℕ) → k < part.nets → k < part.inputs → driver_at inner k ≡ Input k
  at_input k h given = at k h ∙ ap (λ (b : Bool). cond b (Input k) (counted_from part.start (driver_at drivers (part.start + k)))) (lt-ltb k part.inputs given)

  at_cell : (k : ℕ) → k < part.nets → part.inputs ≤ k → driver_at inner k ≡ counted_from part.start (driver_at drivers (part.start + k))
  at_cell k h past = at k h ∙ ap (λ (b : Bool). cond b (Input k) (counted_from part.start (driver_at drivers (part.start + k)))) (le-ltb k part.inputs past)

  below : (k : ℕ) → k < length inner → AllByRecursion (λ a. a < length inner) (numbers_of (driver_at inner k))
  below k h = elim (cases_lt k part.inputs) [
    | inl given ↦ subst (λ (s : ColumnDriver). AllByRecursion (λ a. a < length inner) (numbers_of s)) (sym (at_input k (let e = long in omega arith) given)) tt
    | inr past ↦
        (let few : k < part.nets = (let e = long in omega arith) in
        subst (λ (s : ColumnDriver). AllByRecursion (λ a. a < length inner) (numbers_of s)) (sym (at_cell k few past))
        (subst (λ (n : ℕ). AllByRecursion (λ a. a < n) (numbers_of (counted_from part.start (driver_at drivers (part.start + k))))) (sym long)
        (stays_below part (driver_at drivers (part.start + k)) (is.inner k past few))))
  ]

  -- a net that is read by another is a number of the part, read by that one's number
  edge : (b c : ℕ) → Among b (reads_at (map driver_reads inner) c) → (b < length inner) × (c < part.nets) × Among (part.start + b) (reads_at (map driver_reads drivers) (part.start + c))
  edge b c among =
      let within = reader_within (map driver_reads inner) c b among in
      let graph_long = length-map inner driver_reads in
      let inner_long = long in
      let h : c < part.nets = omega arith in
      let read : Among b (driver_reads (driver_at inner c)) = subst (λ (xs : List ℕ). Among b xs) (reads_here inner c) among in
      elim (cases_lt c part.inputs) [
        | inl given ↦ absurd (subst (λ (s : ColumnDriver). Among b (driver_reads s)) (at_input c h given) read)
        | inr past ↦
            (let s = driver_at drivers (part.start + c) in
            let stays = is.inner c past h in
            let counted : Among b (driver_reads (counted_from part.start s)) = subst (λ (r : ColumnDriver). Among b (driver_reads r)) (at_cell c h past) read in
            let outside : Among (part.start + b) (driver_reads s) = read_back part s b stays counted in
            (all_among (λ (a : ℕ). a < length inner) (numbers_of (driver_at inner c)) b (below c (omega arith)) (read_numbers b (driver_at inner c) read), h, subst (λ (xs : List ℕ). Among (part.start + b) xs) (sym (reads_here drivers (part.start + c))) outside))
      ]
    where
      read_numbers : (b : ℕ) (s : ColumnDriver) → Among b (driver_reads s) → Among b (numbers_of s)
      read_numbers b (OfCover model cell inputs) among = among
      read_numbers b (Connection other) among = among
      read_numbers b (Input place) among = absurd among
      read_numbers b (Latch first input) among = absurd among

  walk_back : (n a c : ℕ) → EdgesLead (map driver_reads inner) n a c → EdgesLead (map driver_reads drivers) n (part.start + a) (part.start + c)
  walk_back zero a c w = ap (λ (k : ℕ). part.start + k) w
  walk_back (suc n) a c w = (part.start + w.0, walk_back n a w.0 w.1, (edge w.0 c w.2).2)

  -- where no closed walk leads through numbers, none leads through nets
  pub no_loop : HasNoLoop (map driver_reads drivers) → HasNoLoop (map driver_reads inner)
  no_loop none k on = none (part.start + k) (on.0, walk_back (suc on.0) k k on.1)

  pub is_graph : length drivers ≤ 1048576 → IsGraph (map driver_reads inner)
  is_graph few = record {
    few = let graph_long = length-map inner driver_reads in let inner_long = long in let there = is.there in omega arith;
    within = λ c b among. let h = (edge b c among).0 in let graph_long = length-map inner driver_reads in omega arith;
  }

  module _ (d : Design) (f : Flat) (order : List ℕ) (few : length drivers ≤ 1048576) (ordered : IsOrder (map driver_reads inner) order)
      (covered : AllByRecursion (HasCover d) drivers)
      (nets : f.nets ≡ part.nets) (ins : f.ins ≡ range_with_len 0 part.inputs) (outs : f.outs ≡ range_with_len part.inputs part.outputs)
      (latches : f.latches ≡ latches_in d inner order) (covers : f.covers ≡ network_covers d inner order) where
    few_inputs : part.inputs ≤ part.nets
    few_inputs = let ports = is.ports in omega arith

    made : IsMade d inner order part.inputs f
    made = record {
      nets = nets ∙ sym long;
      ins = ins;
      latches = latches;
      covers = covers;
      ordered = ordered;
      few = let e = long in let h = few_inputs in omega arith;
      given = λ k given. at_input k (let h = few_inputs in omega arith) given;
      others = λ k past h.
          (let here : k < part.nets = (let e = long in omega arith) in
          ap is_input (at_cell k here past) ∙ stays_cell part (driver_at drivers (part.start + k)) (is.inner k past here));
    }

    has_cover : (k : ℕ) → k < length inner → HasCover d (driver_at inner k)
    has_cover k h = elim (cases_lt k part.inputs) [
      | inl given ↦ subst (HasCover d) (sym (at_input k (let e = long in omega arith) given)) tt
      | inr past ↦
          (let here : k < part.nets = (let e = long in omega arith) in
          let there = is.there in
          subst (HasCover d) (sym (at_cell k here past))
          (counted_cover d part.start (driver_at drivers (part.start + k))
          (all_at (HasCover d) drivers (part.start + k) (driver_at drivers (part.start + k)) covered (slice_get-get_or drivers (part.start + k) (Input 0) (omega arith)))))
    ]

    only : (s r : Driver ℕ) (ss : List (Driver ℕ)) → ss ≡ r ∷ [] → Among s ss → s ≡ r
    only s r ss e among = by (subst (λ (xs : List (Driver ℕ)). Among s xs) e among)
      where
        by : (s ≡ r) ⊎ ⊥ → s ≡ r
        by (inl same) = same
        by (inr none) = absurd none

    past : (k : ℕ) → f.nets ≤ k → flat_drivers f k ≡ []
    past k h = no_driver d inner order part.inputs f made k (let e = nets in let long_inner = long in omega arith)

    driven : (k : ℕ) (s : Driver ℕ) → Among s (flat_drivers f k) → k < part.nets
    driven k s among = elim (cases_lt k part.nets) [
      | inl here ↦ here
      | inr none ↦ absurd (subst (λ (xs : List (Driver ℕ)). Among s xs) (past k (let e = nets in omega arith)) among)
    ]

    each : StandsForAll (λ k. shown_driver d (driver_at drivers k) ∷ []) (λ k. part.start + k) f
    each k s among = elim (cases_lt k part.inputs) [
      | inl given ↦
          inl (subst (λ (r : Driver ℕ). IsInput r) (sym (only s (from_input k) (flat_drivers f k) (input_driver d inner order part.inputs f made k given) among)) tt)
      | inr past ↦
          (let here : k < part.nets = driven k s among in
          let r = driver_at drivers (part.start + k) in
          let long_inner = long in
          let driver = cell_driver d inner order part.inputs f made k past (omega arith) in
          let same = only s (as_net d (driver_at inner k)) (flat_drivers f k) driver among ∙ ap (as_net d) (at_cell k here past) in
          inr (shown_driver d r, inl refl, subst (λ (x : Driver ℕ). StandsFor (λ j. part.start + j) x (shown_driver d r)) (sym same) (stands d part r (is.inner k past here))))
    ]

    pub flattened : IsFlattened d drivers part f
    flattened = record {
      rules = rules d inner order part.inputs f made part.outputs outs (let e = long in let ports = is.ports in omega arith) below has_cover;
      nets = nets;
      ins = ins;
      outs = outs;
      past = past;
      each = each;
    }

  pub graph_by : (own : List ColumnDriver) → own ≡ inner → length drivers ≤ 1048576 → IsGraph (map driver_reads own)
  graph_by own same few = subst (λ (xs : List ColumnDriver). IsGraph (map driver_reads xs)) (sym same) (is_graph few)

  pub loops_by : (own : List ColumnDriver) → own ≡ inner → HasNoLoop (map driver_reads drivers) → HasNoLoop (map driver_reads own)
  loops_by own same none = subst (λ (xs : List ColumnDriver). HasNoLoop (map driver_reads xs)) (sym same) (no_loop none)

  pub flattened_by :
      (own : List ColumnDriver) → own ≡ inner → (d : Design) (f : Flat) (order : List ℕ) → length drivers ≤ 1048576 → IsOrder (map driver_reads own) order
      → AllByRecursion (HasCover d) drivers → f.nets ≡ part.nets → f.ins ≡ range_with_len 0 part.inputs → f.outs ≡ range_with_len part.inputs part.outputs
      → f.latches ≡ latches_in d own order → f.covers ≡ network_covers d own order → IsFlattened d drivers part f
  flattened_by own same d f order few ordered covered nets ins outs latches covers =
      flattened d f order few (subst (λ (xs : List ColumnDriver). IsOrder (map driver_reads xs) order) same ordered) covered nets ins outs
      (latches ∙ ap (λ (xs : List ColumnDriver). latches_in d xs order) same)
      (covers ∙ ap (λ (xs : List ColumnDriver). network_covers d xs order) same)
