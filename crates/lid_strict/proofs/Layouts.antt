-- What is laid out runs in its order, and the rows of strict tables are those of its runs.
use Rattle.std.proofs.Common.{◌≡◌, ◌<◌, ◌+◌, ℕ, zero, suc, Bool, List, [], ◌∷◌, ◌++◌, length, map, take, drop, Option, Some, slice_get, slice_index_or, option_to_list, option_map, inl, inr, refl, sym, ◌∙◌, ap, subst, arith}
use Rattle.std.specs.List.{AllByRecursion, flat_map}
use Rattle.std.proofs.lemmas.List.{length-map, map-append, take-append-drop}
use Rattle.std.proofs.lemmas.Option.{slice_get-get_or, slice_get-map, get_or_from_slice_get}
use Rattle.lid_base.specs.Lists.{Among}
use Rattle.lid_base.proofs.Lists.{among_left, among_right, among_push, among_flat, among_map, among_at, all_at, all_among, map_same, map_twice}
use Rattle.lid_cover.specs.Cover.{cover_value}
use Rattle.lid_design.specs.declared.Design.{Design}
use Rattle.lid_design.specs.declared.FlatLatch.{FlatLatch}
use Rattle.lid_design.specs.declared.FlatCover.{FlatCover}
use Rattle.lid_design.specs.Network.{Driver, from_input, from_latch, from_cover, from_connection, Table, IsStrict, bit_of, latch_bit}
use Rattle.lid_design.specs.Walks.{read_before}
use Rattle.lid_design.specs.Feeds.{read_now}
use Rattle.lid_design.specs.Flat.{latch_out, latch_input, latch_init, ReadEarlier, IsRow}
use Rattle.lid_check_digraph.specs.Graphs.{IsOrder}
use Rattle.lid_check_digraph.proofs.Lists.{index_among}
use Rattle.lid_check_elab.specs.declared.driver.ColumnDriver.{ColumnDriver}
use Rattle.lid_check_parts.specs.Inner.{latches_of}
use Rattle.lid_check_parts.proofs.Lists.{pushed_more}
use Rattle.lid_strict_engine.specs.Rows.{bit_at, known_after}
use Rattle.lid_strict_engine.proofs.Settling.{after_keeps, after_has}
use Rattle.lid_strict.specs.Networks.{driver_list, driver_at, reads_of, AreTakenBelow, rows_at}
use Rattle.lid_strict.specs.Stems.{stem_at, stem_by, stem_covers, latch_stem, unbuffered_driver, AreStems}
use Rattle.lid_strict.specs.Layouts.{input_nets, input_places, nets_in, places_in, latches_in, covers_in, IsLaidOut, known_first, IsSettled, IsRunnable, held_bits, FitsTable}
use Rattle.lid_strict.specs.declared.layout.Layout.{Layout}
use Rattle.lid_base.proofs.Alls.{all_from_among, all_flat, all_map, all_map_by}
use Rattle.lid_base.proofs.Each.{each_same}
use Rattle.lid_strict.proofs.Stemming.{reads_here, IsOwn, map_stems, there, one_more, before, stem_is, by_stems}

-- what is laid out so far, with what of one number more
pub laid_next : {B : Type 0} (g : ℕ → Driver ℕ → List B) (network : List (Driver ℕ)) (order : List ℕ) (i : ℕ) → i < length order → (s : Driver ℕ) → s ≡ driver_at network (slice_index_or order i 0) → (old new : List B) → old ≡ flat_map (λ k. g k (driver_at network k)) (take i order) → new ≡ old ++ g (slice_index_or order i 0) s → new ≡ flat_map (λ k. g k (driver_at network k)) (take (i + 1) order)
laid_next g network order i h s same old new so_far pushed =
    let k = slice_index_or order i 0 in
    pushed_more (λ k. g k (driver_at network k)) order i h [] old new (g k s) (ap (g k) same) so_far pushed

-- what of its latches
pub latches_next : {B : Type 0} (f : FlatLatch → B) (network : List (Driver ℕ)) (order : List ℕ) (i : ℕ) → i < length order → (s : Driver ℕ) → s ≡ driver_at network (slice_index_or order i 0) → (old new : List B) → old ≡ map f (latches_in network (take i order)) → new ≡ old ++ map f (latches_of (slice_index_or order i 0) s) → new ≡ map f (latches_in network (take (i + 1) order))
latches_next {B} f network order i h s same old new so_far pushed =
    let latches = latches_in network (take i order) in
    let more = latches_of (slice_index_or order i 0) s in
    pushed
    ∙ ap (λ (bs : List B). bs ++ map f more) so_far
    ∙ sym (map-append f latches more)
    ∙ ap (map f) (laid_next latches_of network order i h s same latches (latches ++ more) refl refl)

driver_here : (drivers : List ColumnDriver) (k : ℕ) (driver : ColumnDriver) → k < length drivers → driver ≡ slice_index_or drivers k driver → slice_get drivers k ≡ Some driver
driver_here drivers k driver h is = slice_get-get_or drivers k driver h ∙ ap Some (sym is)

-- a driver as one of a network
driver_is : (d : Design) (drivers : List ColumnDriver) (k : ℕ) (driver : ColumnDriver) → slice_get drivers k ≡ Some driver → unbuffered_driver d driver ≡ driver_at (map (unbuffered_driver d) drivers) k
driver_is d drivers k driver here =
    let show : ColumnDriver → Driver ℕ = unbuffered_driver d in
    let shown : slice_get (map show drivers) k ≡ Some (show driver) = slice_get-map show drivers k ∙ ap (option_map show) here in
    sym (get_or_from_slice_get (map show drivers) k (show driver) (from_input 0) shown)

-- the drivers of some numbers in a row of a table
module _ (rows : List (List Bool)) (b : Table ℕ) (t : ℕ) where
  abbrev Has : ℕ → Driver ℕ → Type 0
  Has k s = b t k ≡ bit_of rows b t s

  has_cells : (stems : List ℕ) (k : ℕ) (s : Driver ℕ) → ((a : ℕ) → Among a (read_now s) → b t (stem_at stems a) ≡ b t a) → Has k s → IsRow (stem_covers stems k s) (b t)
  has_cells stems k (from_input j) same e = tt
  has_cells stems k (from_latch first input) same e = tt
  has_cells stems k (from_cover cover inputs) same e = (e ∙ ap (cover_value cover) (sym (map_stems (b t) stems inputs same)), tt)
  has_cells stems k (from_connection other) same e = tt

  has_latches : (k : ℕ) (s : Driver ℕ) → Has k s → AllByRecursion (λ l. b t l.out ≡ latch_bit b l.init l.input t) (latches_of k s)
  has_latches k (from_input j) e = tt
  has_latches k (from_latch first input) e = (e, tt)
  has_latches k (from_cover cover inputs) e = tt
  has_latches k (from_connection other) e = tt

  has_inputs : (k : ℕ) (s : Driver ℕ) (nets places : List ℕ) → Has k s → map (b t) nets ≡ map (bit_at (slice_index_or rows t [])) places → map (b t) (input_nets k s ++ nets) ≡ map (bit_at (slice_index_or rows t [])) (input_places s ++ places)
  has_inputs k (from_input j) nets places e later =
      let head : b t k ≡ bit_at (slice_index_or rows t []) j = e in
      cc
  has_inputs k (from_latch first input) nets places e later = later
  has_inputs k (from_cover cover inputs) nets places e later = later
  has_inputs k (from_connection other) nets places e later = later

  all_inputs : (network : List (Driver ℕ)) (order : List ℕ) → ((k : ℕ) → Among k order → Has k (driver_at network k)) → map (b t) (nets_in network order) ≡ map (bit_at (slice_index_or rows t [])) (places_in network order)
  all_inputs network [] each = refl
  all_inputs network (k ∷ order) each = has_inputs k (driver_at network k) (nets_in network order) (places_in network order) (each k (inl refl)) (all_inputs network order (λ j among. each j (inr among)))

held_all : (b : Table ℕ) (t : ℕ) (latches : List FlatLatch) → AllByRecursion (λ l. b t l.out ≡ latch_bit b l.init l.input t) latches → map (b t) (map latch_out latches) ≡ held_bits (map latch_init latches) (map latch_input latches) b t
held_all b zero [] all = refl
held_all b zero (l ∷ latches) all =
    let head : b 0 l.out ≡ l.init = all.0 in
    let tail : map (b 0) (map latch_out latches) ≡ map latch_init latches = held_all b zero latches all.1 in
    cc
held_all b (suc t) [] all = refl
held_all b (suc t) (l ∷ latches) all =
    let head : b (suc t) l.out ≡ b t l.input = all.0 in
    let tail : map (b (suc t)) (map latch_out latches) ≡ map (b t) (map latch_input latches) = held_all b (suc t) latches all.1 in
    cc

-- latches take the same bits from stems
held_stems : (stems : List ℕ) (b : Table ℕ) (t : ℕ) (first : List Bool) (latches : List FlatLatch) → ((u : ℕ) → u < t → (l : FlatLatch) → Among l latches → b u (stem_at stems l.input) ≡ b u l.input) → held_bits first (map latch_input latches) b t ≡ held_bits first (map (latch_stem stems) latches) b t
held_stems stems b zero first latches same = refl
held_stems stems b (suc t) first latches same =
    map_twice (b t) latch_input latches
    ∙ map_same (λ (l : FlatLatch). b t l.input) (λ (l : FlatLatch). b t (stem_at stems l.input)) latches (λ l among. sym (same t (omega arith) l among))
    ∙ sym (map_twice (b t) (latch_stem stems) latches)

-- of one number
inputs_below : (n k : ℕ) (s : Driver ℕ) → k < n → AllByRecursion (λ a. a < n) (input_nets k s)
inputs_below n k (from_input j) h = (h, tt)
inputs_below n k (from_latch first input) h = tt
inputs_below n k (from_cover cover inputs) h = tt
inputs_below n k (from_connection other) h = tt

held_below : (n k : ℕ) (s : Driver ℕ) → k < n → AllByRecursion (λ l. l.out < n) (latches_of k s)
held_below n k (from_input j) h = tt
held_below n k (from_latch first input) h = (h, tt)
held_below n k (from_cover cover inputs) h = tt
held_below n k (from_connection other) h = tt

taken_below : (n k : ℕ) (s : Driver ℕ) → AllByRecursion (λ a. a < n) (read_before s) → AllByRecursion (λ l. l.input < n) (latches_of k s)
taken_below n k (from_input j) h = tt
taken_below n k (from_latch first input) h = (h.0, tt)
taken_below n k (from_cover cover inputs) h = tt
taken_below n k (from_connection other) h = tt

one_place : (k : ℕ) (s : Driver ℕ) (nets places : List ℕ) → length places ≡ length nets → length (input_places s ++ places) ≡ length (input_nets k s ++ nets)
one_place k (from_input j) nets places e = ap suc e
one_place k (from_latch first input) nets places e = e
one_place k (from_cover cover inputs) nets places e = e
one_place k (from_connection other) nets places e = e

pub same_places : (network : List (Driver ℕ)) (order : List ℕ) → length (places_in network order) ≡ length (nets_in network order)
same_places network [] = refl
same_places network (k ∷ order) = one_place k (driver_at network k) (nets_in network order) (places_in network order) (same_places network order)

module _ (network : List (Driver ℕ)) (order : List ℕ) (ordered : IsOrder (reads_of network) order) where
  order_below : (k : ℕ) → Among k order → k < length network
  order_below k among =
      let within = ordered.within k among in
      let long = length-map network read_now in
      omega arith

  -- what a number of the order reads has a number
  reads_below : (i : ℕ) → i < length order → AllByRecursion (λ a. a < length network) (read_now (driver_at network (slice_index_or order i 0)))
  reads_below i h =
      let k = slice_index_or order i 0 in
      all_from_among (λ a. a < length network) (read_now (driver_at network k)) (λ a among. order_below a (subst (Among a) (take-append-drop i order) (among_left a (take i order) (drop i order) (ordered.earlier i a h (subst (Among a) (sym (reads_here network k)) among)))))

  abbrev base : List ℕ
  base = nets_in network order ++ (map latch_out (latches_in network order) ++ [])

  input_known : (k : ℕ) → Among k order → (j : ℕ) → driver_at network k ≡ from_input j → Among k base
  input_known k among j is =
      among_left k (nets_in network order) (map latch_out (latches_in network order) ++ [])
      (among_flat (λ k. input_nets k (driver_at network k)) k k order among (subst (λ (s : Driver ℕ). Among k (input_nets k s)) (sym is) (inl refl)))

  latch_known : (k : ℕ) → Among k order → (first : Bool) (input : ℕ) → driver_at network k ≡ from_latch first input → Among k base
  latch_known k among first input is =
      let latch : FlatLatch = record { input = input; out = k; init = first } in
      among_right k (nets_in network order) (map latch_out (latches_in network order) ++ [])
      (among_left k (map latch_out (latches_in network order)) []
      (among_map latch_out latch (latches_in network order)
      (among_flat (λ k. latches_of k (driver_at network k)) k latch order among (subst (λ (s : Driver ℕ). Among latch (latches_of k s)) (sym is) (inl refl)))))

  -- what latches read has a number
  latch_reads : AreTakenBelow network → AllByRecursion (λ l. l.input < length network) (latches_in network order)
  latch_reads below = all_flat (λ l. l.input < length network) (λ k. latches_of k (driver_at network k)) order (λ k among.
      taken_below (length network) k (driver_at network k)
      (all_at (λ (s : Driver ℕ). AllByRecursion (λ a. a < length network) (read_before s)) network k (driver_at network k) below (slice_get-get_or network k (from_input 0) (order_below k among))))

  order_has : (k : ℕ) → k < length network → Among k order
  order_has k h = ordered.all k (let long = length-map network read_now in omega arith)

  module _ (stems : List ℕ) (are : AreStems network order stems) where
    stem_below : (k : ℕ) → Among k order → stem_at stems k < length network
    stem_below = by_stems network order ordered stems are (λ k s. s < length network) (λ k among s is own. order_below k among) (λ k other s among is below. below)

    -- the stems of what a number of the order reads have numbers
    pub stems_below : (i : ℕ) → i < length order → AllByRecursion (λ a. a < length network) (map (stem_at stems) (read_now (driver_at network (slice_index_or order i 0))))
    stems_below i h =
        let reads = read_now (driver_at network (slice_index_or order i 0)) in
        all_map_by (λ (a : ℕ). a < length network) (stem_at stems) reads (λ a read. stem_below a (order_has a (all_among (λ (a : ℕ). a < length network) reads a (reads_below i h) read)))

    abbrev cells : ℕ → List FlatCover
    cells k = stem_covers stems k (driver_at network k)

    -- what is left of the order runs where the stems of what is done are known
    abbrev Runs : List ℕ → Type 0
    Runs more = (done : List ℕ) → done ++ more ≡ order → (known : List ℕ) → ((a : ℕ) → Among a done → Among (stem_at stems a) known) → ((a : ℕ) → Among a base → Among a known) → ReadEarlier known (flat_map cells more)

    module _ (done more : List ℕ) (k : ℕ) (e : done ++ k ∷ more ≡ order) (known : List ℕ) (run : (a : ℕ) → Among a done → Among (stem_at stems a) known) (first : (a : ℕ) → Among a base → Among a known) (next : Runs more) where
      here : Among k order
      here = there network order ordered done more k e

      stem_run : (now : List ℕ) → ((a : ℕ) → Among a known → Among a now) → (s : Driver ℕ) → driver_at network k ≡ s → Among (stem_by stems k s) now → ReadEarlier now (flat_map cells more)
      stem_run now keeps s is stem = next (done ++ k ∷ []) (one_more network order ordered done more k e) now pushed (λ a among. keeps a (first a among))
        where
          pushed : (a : ℕ) → Among a (done ++ k ∷ []) → Among (stem_at stems a) now
          pushed a among = elim (among_push a k done among) [
            | inl earlier ↦ keeps (stem_at stems a) (run a earlier)
            | inr same ↦ subst (λ (x : ℕ). Among (stem_at stems x) now) (sym same) (subst (λ (x : ℕ). Among x now) (sym (stem_is network order ordered stems are k here s is)) stem)
          ]

      read_run : (s : Driver ℕ) → driver_at network k ≡ s → (a : ℕ) → Among a (read_now s) → Among (stem_at stems a) known
      read_run s is a read = run a (before network order ordered done more k e a (subst (λ (r : Driver ℕ). Among a (read_now r)) (sym is) read))

      one_runs : (s : Driver ℕ) → driver_at network k ≡ s → ReadEarlier known (stem_covers stems k s ++ flat_map cells more)
      one_runs (from_input j) is = stem_run known (λ a among. among) (from_input j) is (first k (input_known k here j is))
      one_runs (from_latch init input) is = stem_run known (λ a among. among) (from_latch init input) is (first k (latch_known k here init input is))
      one_runs (from_cover cover inputs) is = (
        all_map_by (λ (a : ℕ). Among a known) (stem_at stems) inputs (read_run (from_cover cover inputs) is),
        stem_run (k ∷ known) (λ a among. inr among) (from_cover cover inputs) is (inl refl),
      )
      one_runs (from_connection other) is = stem_run known (λ a among. among) (from_connection other) is (read_run (from_connection other) is other (inl refl))

    all_run : (more : List ℕ) → Runs more
    all_run [] done e known run first = tt
    all_run (k ∷ more) done e known run first = one_runs done more k e known run first (all_run more) (driver_at network k) refl

    pub earlier : ReadEarlier base (covers_in network stems order)
    earlier = all_run order [] refl base (λ a none. absurd none) (λ a among. among)

    abbrev known : List ℕ
    known = known_after base (covers_in network stems order)

    own_known : (k : ℕ) → Among k order → (s : Driver ℕ) → driver_at network k ≡ s → IsOwn s → Among k known
    own_known k among (from_input j) is own = after_keeps base (covers_in network stems order) k (input_known k among j is)
    own_known k among (from_latch init input) is own = after_keeps base (covers_in network stems order) k (latch_known k among init input is)
    own_known k among (from_cover cover inputs) is own =
        let cell : FlatCover = record { ins = map (stem_at stems) inputs; out = k; cover = cover } in
        after_has base (covers_in network stems order) cell (among_flat cells k cell order among (subst (λ (s : Driver ℕ). Among cell (stem_covers stems k s)) (sym is) (inl refl)))
    own_known k among (from_connection other) is own = absurd own

    -- the stem of each number is known in the end
    stem_known : (k : ℕ) → Among k order → Among (stem_at stems k) known
    stem_known = by_stems network order ordered stems are (λ k s. Among s known) own_known (λ k other s among is below. below)

    -- a stem has the bits of its number
    module _ (rows : List (List Bool)) (b : Table ℕ) (strict : IsStrict (driver_list network) rows b) (t : ℕ) (h : t < length rows) where
      value : (k : ℕ) → Among k order → b t k ≡ bit_of rows b t (driver_at network k)
      value k among =
          let here = slice_get-get_or network k (from_input 0) (order_below k among) in
          (subst (λ (o : Option (Driver ℕ)). AllByRecursion (λ r. b t k ≡ bit_of rows b t r) (option_to_list o)) here (strict t k h)).0

      stem_bit : (k : ℕ) → Among k order → b t (stem_at stems k) ≡ b t k
      stem_bit = by_stems network order ordered stems are (λ k s. b t s ≡ b t k) (λ k among s is own. refl) (λ k other s among is same. same ∙ sym (value k among ∙ ap (bit_of rows b t) is))

      stem_reads : (k : ℕ) → Among k order → (a : ℕ) → Among a (read_now (driver_at network k)) → b t (stem_at stems a) ≡ b t a
      stem_reads k among a read =
          let at = index_among k order among in
          let reads = all_among (λ (a : ℕ). a < length network) (read_now (driver_at network (slice_index_or order at.0 0))) a (reads_below at.0 at.1) (subst (λ (x : ℕ). Among a (read_now (driver_at network x))) (sym at.2) read) in
          stem_bit a (order_has a reads)

    -- the rows of stems are those of their numbers
    pub stem_rows : (rows : List (List Bool)) (b : Table ℕ) → IsStrict (driver_list network) rows b → (outs : List ℕ) → AllByRecursion (λ k. k < length network) outs → rows_at (map (stem_at stems) outs) b (length rows) ≡ rows_at outs b (length rows)
    stem_rows rows b strict outs below =
        each_same (λ t. map (b t) (map (stem_at stems) outs)) (λ t. map (b t) outs) 0 (length rows) (λ t h. map_stems (b t) stems outs (λ a among. stem_bit rows b strict t (omega arith) a (order_has a (all_among (λ (k : ℕ). k < length network) outs a below among))))

    module _ (p : Layout) (laid : IsLaidOut network stems order p) where
      base_is : base ≡ known_first p
      base_is = ap (λ (ks : List ℕ). ks ++ (map latch_out (latches_in network order) ++ [])) (sym laid.ins) ∙ ap (λ (ks : List ℕ). p.ins.items ++ (ks ++ [])) (sym laid.held)

      settled : (k : ℕ) → k < length network → IsSettled p (stem_at stems k)
      settled k h =
          subst (λ (cs : List FlatCover). Among (stem_at stems k) (known_after (known_first p) cs)) (sym laid.covers)
          (subst (λ (ks : List ℕ). Among (stem_at stems k) (known_after ks (covers_in network stems order))) base_is (stem_known k (order_has k h)))

      pub all_settled : (ks : List ℕ) → AllByRecursion (λ k. k < length network) ks → AllByRecursion (IsSettled p) (map (stem_at stems) ks)
      all_settled ks below = all_map_by (IsSettled p) (stem_at stems) ks (λ k among. settled k (all_among (λ (k : ℕ). k < length network) ks k below among))

      below_nets : (xs ys : List ℕ) → xs ≡ ys → AllByRecursion (λ k. k < length network) ys → AllByRecursion (λ k. k < p.program.nets) xs
      below_nets xs ys same all =
          subst (λ (n : ℕ). AllByRecursion (λ k. k < n) xs) (sym laid.nets)
          (subst (AllByRecursion (λ (k : ℕ). k < length network)) (sym same) all)

      -- what is laid out in an order runs
      pub runnable : AreTakenBelow network → IsRunnable p
      runnable below = record {
        ready = laid.ready;
        ins = below_nets p.ins.items (nets_in network order) laid.ins
            (all_flat (λ k. k < length network) (λ k. input_nets k (driver_at network k)) order (λ k among. inputs_below (length network) k (driver_at network k) (order_below k among)));
        held = below_nets p.held.items (map latch_out (latches_in network order)) laid.held (all_map (λ k. k < length network) latch_out (latches_in network order)
            (all_flat (λ l. l.out < length network) (λ k. latches_of k (driver_at network k)) order (λ k among. held_below (length network) k (driver_at network k) (order_below k among))));
        taken = below_nets p.taken.items (map (latch_stem stems) (latches_in network order)) laid.taken
            (all_map_by (λ (k : ℕ). k < length network) (latch_stem stems) (latches_in network order) (λ l among. stem_below l.input (order_has l.input (all_among (λ (l : FlatLatch). l.input < length network) (latches_in network order) l (latch_reads below) among))));
        pairs = ap length laid.places ∙ same_places network order ∙ sym (ap length laid.ins);
        latches = ap length laid.taken ∙ length-map (latches_in network order) (latch_stem stems) ∙ sym (length-map (latches_in network order) latch_out) ∙ sym (ap length laid.held);
        begun = ap length laid.first ∙ length-map (latches_in network order) latch_init ∙ sym (length-map (latches_in network order) latch_out) ∙ sym (ap length laid.held);
        earlier = subst (ReadEarlier (known_first p)) (sym laid.covers) (subst (λ (ks : List ℕ). ReadEarlier ks (covers_in network stems order)) base_is earlier);
        settled = subst (AllByRecursion (IsSettled p)) (sym laid.taken)
            (all_map_by (IsSettled p) (latch_stem stems) (latches_in network order) (λ l among. settled l.input (all_among (λ (l : FlatLatch). l.input < length network) (latches_in network order) l (latch_reads below) among)));
      }

      -- a strict table is one of its runs
      pub strict_fits : AreTakenBelow network → (rows : List (List Bool)) (b : Table ℕ) → IsStrict (driver_list network) rows b → FitsTable p rows b
      strict_fits below rows b strict t h = record {
        covers = subst (λ (cs : List FlatCover). IsRow cs (b t)) (sym laid.covers)
            (all_flat (λ c. b t c.out ≡ cover_value c.cover (map (b t) c.ins)) cells order (λ k among. has_cells rows b t stems k (driver_at network k) (stem_reads rows b strict t h k among) (value rows b strict t h k among)));
        latches = ap (map (b t)) laid.held ∙ (held_all b t (latches_in network order) (all_flat (λ l. b t l.out ≡ latch_bit b l.init l.input t) (λ k. latches_of k (driver_at network k)) order (λ k among. has_latches rows b t k (driver_at network k) (value rows b strict t h k among))))
            ∙ held_stems stems b t (map latch_init (latches_in network order)) (latches_in network order) taken
            ∙ ap (λ (bs : List Bool). held_bits bs (map (latch_stem stems) (latches_in network order)) b t) (sym laid.first)
            ∙ ap (λ (ks : List ℕ). held_bits p.first.items ks b t) (sym laid.taken);
        inputs = ap (map (b t)) laid.ins ∙ all_inputs rows b t network order (value rows b strict t h) ∙ ap (map (bit_at (slice_index_or rows t []))) (sym laid.places);
      }
        where
          taken : (u : ℕ) → u < t → (l : FlatLatch) → Among l (latches_in network order) → b u (stem_at stems l.input) ≡ b u l.input
          taken u less l among = stem_bit rows b strict u (omega arith) l.input (order_has l.input (all_among (λ (l : FlatLatch). l.input < length network) (latches_in network order) l (latch_reads below) among))

pub numbers_within : (d : Design) (drivers : List ColumnDriver) (ks : List ℕ) → AllByRecursion (λ k. k < length drivers) ks → AllByRecursion (λ k. k < length (map (unbuffered_driver d) drivers)) ks
numbers_within d drivers ks below = subst (λ (n : ℕ). AllByRecursion (λ k. k < n) ks) (sym (length-map drivers (unbuffered_driver d))) below

-- a driver that is read along an order
module _ (d : Design) (drivers : List ColumnDriver) (order : List ℕ) (ordered : IsOrder (reads_of (map (unbuffered_driver d) drivers)) order) (i : ℕ) (h : i < length order) where
  abbrev number : ℕ
  number = slice_index_or order i 0

  pub number_below : number < length drivers
  number_below = subst (λ (n : ℕ). number < n) (length-map drivers (unbuffered_driver d)) (order_below (map (unbuffered_driver d) drivers) order ordered number (among_at order i 0 h))

  module _ (driver : ColumnDriver) (read : driver ≡ slice_index_or drivers number driver) where
    pub driver_there : slice_get drivers number ≡ Some driver
    driver_there = driver_here drivers number driver number_below read

    pub driver_same : unbuffered_driver d driver ≡ driver_at (map (unbuffered_driver d) drivers) number
    driver_same = driver_is d drivers number driver driver_there

    -- the stems of what it reads have numbers
    pub reads_within : (stems : List ℕ) → AreStems (map (unbuffered_driver d) drivers) order stems → AllByRecursion (λ a. a < length drivers) (map (stem_at stems) (read_now (unbuffered_driver d driver)))
    reads_within stems are =
        let network = map (unbuffered_driver d) drivers in
        subst (λ (n : ℕ). AllByRecursion (λ a. a < n) (map (stem_at stems) (read_now (unbuffered_driver d driver)))) (length-map drivers (unbuffered_driver d))
        (subst (λ (s : Driver ℕ). AllByRecursion (λ a. a < length network) (map (stem_at stems) (read_now s))) (sym driver_same) (stems_below network order ordered stems are i h))
