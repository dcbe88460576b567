-- Flat parts: what drives a net, how long walks are, and what each row of a strict table meets.
use Rattle.std.proofs.Common.{◌≡◌, ℕ, zero, suc, ◌+◌, ◌<◌, ◌≤◌, ◌==◌, ◌⊎◌, inl, inr, Bool, false, cond, List, [], ◌∷◌, ◌++◌, length, get_or, map, Some, None, slice_get, refl, sym, ◌∙◌, ap, subst, arith}
use Rattle.std.specs.List.{AllByRecursion, flat_map}
use Rattle.std.proofs.lemmas.Bool.{eqb-true, eq-eqb}
use Rattle.std.proofs.lemmas.Option.{slice_get_within, get_or_from_slice_get}
use Rattle.lid_base.specs.Lists.{Among}
use Rattle.lid_base.proofs.Lists.{among_left, among_right, among_append, among_flat, flat_among, among_get, map_among, all_among, among_if, if_among}
use Rattle.lid_cover.specs.Cover.{cover_value}
use Rattle.lid_design.specs.declared.Flat.{Flat}
use Rattle.lid_design.specs.declared.FlatLatch.{FlatLatch}
use Rattle.lid_design.specs.declared.FlatCover.{FlatCover}
use Rattle.lid_design.specs.Network.{Driver, from_input, from_latch, from_cover, Table, bit_of, IsStrict}
use Rattle.lid_design.specs.Walks.{read_before, WalksEnd, IsDriven, AreReadsDriven}
use Rattle.lid_design.specs.Feeds.{read_now, Feeds, EdgesLead}
use Rattle.lid_design.specs.Flat.{inputs_at, latch_at, cover_at, flat_drivers, latch_out, latch_input, latch_init, ReadEarlier, IsFlat, state_at, MeetsRow}
use Rattle.lid_base.proofs.Alls.{all_from_among}

-- a list of at most one item has no two
pub same_of_one : {A : Type 0} (xs : List A) (x y : A) → length xs ≤ 1 → Among x xs → Among y xs → x ≡ y
same_of_one [] x y few i j = absurd i
same_of_one (z ∷ []) x y few (inl e) (inl e') = e ∙ sym e'
same_of_one (z ∷ []) x y few (inl e) (inr j) = absurd j
same_of_one (z ∷ []) x y few (inr i) j = absurd i
same_of_one (z ∷ w ∷ xs) x y few i j = absurd (omega arith)

input_at : (k j i : ℕ) (nets : List ℕ) → slice_get nets i ≡ Some k → Among {A = Driver ℕ} (from_input (j + i)) (inputs_at k j nets)
input_at k j i [] here = absurd (let e : None ≡ Some k = here in cc)
input_at k j zero (net ∷ nets) here =
    let same : net ≡ k = (let e : Some net ≡ Some k = here in cc) in
    let place : j + 0 ≡ j = omega arith in
    among_left (from_input (j + 0)) (cond (net == k) (from_input j ∷ []) []) (inputs_at k (j + 1) nets)
    (subst (λ (i : ℕ). Among {A = Driver ℕ} (from_input i) (cond (net == k) (from_input j ∷ []) [])) (sym place) (among_if (net == k) (from_input j) (eq-eqb net k same)))
input_at k j (suc i) (net ∷ nets) here =
    let place : (j + 1) + i ≡ j + suc i = omega arith in
    among_right (from_input (j + suc i)) (cond (net == k) (from_input j ∷ []) []) (inputs_at k (j + 1) nets)
    (subst (λ (i : ℕ). Among {A = Driver ℕ} (from_input i) (inputs_at k (j + 1) nets)) place (input_at k (j + 1) i nets here))

at_input : (k j : ℕ) (nets : List ℕ) (s : Driver ℕ) → Among s (inputs_at k j nets) → (i : ℕ) × (s ≡ from_input i)
at_input k j [] s among = absurd among
at_input k j (net ∷ nets) s among =
    elim (among_append s (cond (net == k) (from_input j ∷ []) []) (inputs_at k (j + 1) nets) among) [
      | inl here ↦ (j, (if_among (net == k) s (from_input j) here).1)
      | inr later ↦ at_input k (j + 1) nets s later
    ]

-- what drives net k of items that drive one net each
abbrev Tried : {A : Type 0} → (A → ℕ) → (A → Driver ℕ) → ℕ → A → List (Driver ℕ)
Tried out from k x = cond (out x == k) (from x ∷ []) []

-- each item drives its net
own_driver : {A : Type 0} (out : A → ℕ) (from : A → Driver ℕ) (x : A) (xs : List A) → Among x xs → Among (from x) (flat_map (Tried out from (out x)) xs)
own_driver {A} out from x xs among =
    among_flat {A = A} {B = Driver ℕ} (Tried out from (out x)) x (from x) xs among (among_if (out x == out x) (from x) (eq-eqb (out x) (out x) refl))

-- and nothing else of them drives one
driver_of : {A : Type 0} (out : A → ℕ) (from : A → Driver ℕ) (k : ℕ) (s : Driver ℕ) (xs : List A) → Among s (flat_map (Tried out from k) xs) → (x : A) × Among x xs × (out x ≡ k) × (s ≡ from x)
driver_of {A} out from k s xs here =
    let found = flat_among {A = A} {B = Driver ℕ} (Tried out from k) s xs here in
    let tells = if_among (out found.0 == k) s (from found.0) found.2 in
    (found.0, found.1, eqb-true (out found.0) k tells.0, tells.1)

abbrev by_latch : FlatLatch → Driver ℕ
by_latch latch = from_latch latch.init latch.input

abbrev by_cover : FlatCover → Driver ℕ
by_cover c = from_cover c.cover c.ins

module _ (f : Flat) where
  -- each input, latch and cover drives its net
  pub input_drives : (k i : ℕ) → slice_get f.ins i ≡ Some k → Among {A = Driver ℕ} (from_input i) (flat_drivers f k)
  unfolding flat_drivers
  input_drives k i here =
      among_left (from_input i) (inputs_at k 0 f.ins) (flat_map (latch_at k) f.latches ++ flat_map (cover_at k) f.covers)
      (subst (λ (j : ℕ). Among {A = Driver ℕ} (from_input j) (inputs_at k 0 f.ins)) (omega arith) (input_at k 0 i f.ins here))

  pub latch_drives : (latch : FlatLatch) → Among latch f.latches → Among (from_latch latch.init latch.input) (flat_drivers f latch.out)
  unfolding flat_drivers
  latch_drives latch among =
      among_right (by_latch latch) (inputs_at latch.out 0 f.ins) (flat_map (latch_at latch.out) f.latches ++ flat_map (cover_at latch.out) f.covers)
      (among_left (by_latch latch) (flat_map (latch_at latch.out) f.latches) (flat_map (cover_at latch.out) f.covers) (own_driver latch_out by_latch latch f.latches among))

  pub cover_drives : (c : FlatCover) → Among c f.covers → Among (from_cover c.cover c.ins) (flat_drivers f c.out)
  unfolding flat_drivers
  cover_drives c among =
      among_right (by_cover c) (inputs_at c.out 0 f.ins) (flat_map (latch_at c.out) f.latches ++ flat_map (cover_at c.out) f.covers)
      (among_right (by_cover c) (flat_map (latch_at c.out) f.latches) (flat_map (cover_at c.out) f.covers) (own_driver (λ c. c.out) by_cover c f.covers among))

  -- and nothing else drives one
  abbrev pub IsDriverOf : ℕ → Driver ℕ → Type 0
  IsDriverOf k s =
      ((i : ℕ) × (s ≡ from_input i))
      ⊎ (((latch : FlatLatch) × Among latch f.latches × (latch.out ≡ k) × (s ≡ from_latch latch.init latch.input))
      ⊎ ((c : FlatCover) × Among c f.covers × (c.out ≡ k) × (s ≡ from_cover c.cover c.ins)))

  pub driver_is : (k : ℕ) (s : Driver ℕ) → Among s (flat_drivers f k) → IsDriverOf k s
  unfolding flat_drivers
  driver_is k s among = by (among_append s (inputs_at k 0 f.ins) (flat_map (latch_at k) f.latches ++ flat_map (cover_at k) f.covers) among)
    where
      by_cell : Among s (flat_map (latch_at k) f.latches) ⊎ Among s (flat_map (cover_at k) f.covers) → IsDriverOf k s
      by_cell (inl here) = inr (inl (driver_of latch_out by_latch k s f.latches here))
      by_cell (inr here) = inr (inr (driver_of (λ c. c.out) by_cover k s f.covers here))

      by : Among s (inputs_at k 0 f.ins) ⊎ Among s (flat_map (latch_at k) f.latches ++ flat_map (cover_at k) f.covers) → IsDriverOf k s
      by (inl here) = inl (at_input k 0 f.ins s here)
      by (inr later) = by_cell (among_append s (flat_map (latch_at k) f.latches) (flat_map (cover_at k) f.covers) later)

  -- an edge into a net is an input of the cover that drives it
  pub fed_by_cover : (a k : ℕ) → Feeds (flat_drivers f) a k → (c : FlatCover) × Among c f.covers × (c.out ≡ k) × Among a c.ins
  fed_by_cover a k edge = by (driver_is k edge.0 edge.1)
    where
      reads : (s : Driver ℕ) → edge.0 ≡ s → Among a (read_now s)
      reads s same = subst (λ (s : Driver ℕ). Among a (read_now s)) same edge.2

      by : IsDriverOf k edge.0 → (c : FlatCover) × Among c f.covers × (c.out ≡ k) × Among a c.ins
      by (inl input) = absurd (reads (from_input input.0) input.1)
      by (inr (inl latch)) = absurd (reads (from_latch latch.0.init latch.0.input) latch.3)
      by (inr (inr cover)) = (cover.0, cover.1, cover.2, reads (from_cover cover.0.cover cover.0.ins) cover.3)

  -- no walk to net k has more than n edges
  abbrev pub IsWithin : ℕ → ℕ → Type 0
  IsWithin n k = (m a : ℕ) → EdgesLead (flat_drivers f) m a k → m ≤ n

  module _ (flat : IsFlat f) where
    -- a net is one edge further than what its driver reads in the same row
    within_next : (n k : ℕ) (s : Driver ℕ) → Among s (flat_drivers f k) → ((a : ℕ) → Among a (read_now s) → IsWithin n a) → IsWithin (suc n) k
    within_next n k s drives reads zero a w = omega arith
    within_next n k s drives reads (suc m) a w =
        let same : w.2.0 ≡ s = same_of_one (flat_drivers f k) w.2.0 s (flat.once k) w.2.1 drives in
        let read : Among w.0 (read_now s) = subst (λ (s : Driver ℕ). Among w.0 (read_now s)) same w.2.2 in
        let shorter : m ≤ n = reads w.0 read m a w.1 in
        omega arith

    -- a net whose driver reads nothing in the same row is where walks begin
    within_none : (k : ℕ) (s : Driver ℕ) → Among s (flat_drivers f k) → read_now s ≡ [] → IsWithin 0 k
    within_none k s drives none zero a w = omega arith
    within_none k s drives none (suc m) a w =
        let same : w.2.0 ≡ s = same_of_one (flat_drivers f k) w.2.0 s (flat.once k) w.2.1 drives in
        absurd (subst (λ (xs : List ℕ). Among w.0 xs) (ap read_now same ∙ none) w.2.2)

    known_within : (k : ℕ) → Among k (f.ins ++ map latch_out f.latches) → IsWithin 0 k
    known_within k among = by (among_append k f.ins (map latch_out f.latches) among)
      where
        by : Among k f.ins ⊎ Among k (map latch_out f.latches) → IsWithin 0 k
        by (inl here) =
            let found = among_get f.ins k here in
            within_none k (from_input found.0) (input_drives k found.0 found.1) refl
        by (inr here) =
            let found = map_among {A = FlatLatch} {B = ℕ} latch_out k f.latches here in
            let latch = found.0 in
            within_none k (from_latch latch.init latch.input) (subst (λ (k : ℕ). Among (from_latch latch.init latch.input) (flat_drivers f k)) (sym found.2) (latch_drives latch found.1)) refl

    covers_within : (known : List ℕ) (n : ℕ) (covers : List FlatCover) → ReadEarlier known covers → ((k : ℕ) → Among k known → IsWithin n k) → ((c : FlatCover) → Among c covers → Among c f.covers) → (i : ℕ) (c : FlatCover) → slice_get covers i ≡ Some c → IsWithin (n + (i + 1)) c.out
    covers_within known n [] earlier within each i c here = absurd (let e : None ≡ Some c = here in cc)
    covers_within known n (d ∷ covers) earlier within each i c here =
        by (covers_within (d.out ∷ known) (suc n) covers earlier.1 later (λ c among. each c (inr among))) i here
      where
        first : IsWithin (suc n) d.out
        first = within_next n d.out (from_cover d.cover d.ins) (cover_drives d (each d (inl refl))) (λ a read. within a (all_among (λ k. Among k known) d.ins a earlier.0 read))

        later : (k : ℕ) → Among k (d.out ∷ known) → IsWithin (suc n) k
        later k (inl same) m a w = first m a (subst (λ (k : ℕ). EdgesLead (flat_drivers f) m a k) same w)
        later k (inr among) m a w = let less : m ≤ n = within k among m a w in omega arith

        by : ((i : ℕ) (c : FlatCover) → slice_get covers i ≡ Some c → IsWithin (suc n + (i + 1)) c.out) → (i : ℕ) → slice_get (d ∷ covers) i ≡ Some c → IsWithin (n + (i + 1)) c.out
        by next zero here m a w =
            let same : d ≡ c = (let e : Some d ≡ Some c = here in cc) in
            let less : m ≤ suc n = first m a (subst (λ (c : FlatCover). EdgesLead (flat_drivers f) m a c.out) (sym same) w) in
            omega arith
        by next (suc i) here m a w =
            let less : m ≤ suc n + (i + 1) = next i c here m a w in
            omega arith

    -- a walk to the output of cover i has at most i + 1 edges
    pub cover_within : (i : ℕ) (c : FlatCover) → slice_get f.covers i ≡ Some c → IsWithin (i + 1) c.out
    cover_within i c here m a w =
        let less : m ≤ 0 + (i + 1) = covers_within (f.ins ++ map latch_out f.latches) 0 f.covers flat.earlier known_within (λ c among. among) i c here m a w in
        omega arith

    walk_past : (n a k : ℕ) (c : FlatCover) → Among c f.covers → c.out ≡ k → EdgesLead (flat_drivers f) n a k → n ≤ length f.covers
    walk_past n a k c among drives w = by (among_get f.covers c among).0 (among_get f.covers c among).1
      where
        by : (i : ℕ) → slice_get f.covers i ≡ Some c → n ≤ length f.covers
        by i here =
            let inside : i < length f.covers = slice_get_within f.covers i c here in
            let less : n ≤ i + 1 = cover_within i c here n a (subst (λ (k : ℕ). EdgesLead (flat_drivers f) n a k) (sym drives) w) in
            omega arith

    -- no walk has more edges than there are covers
    flat_walks : (n a k : ℕ) → EdgesLead (flat_drivers f) n a k → n ≤ length f.covers
    flat_walks zero a k w = omega arith
    flat_walks (suc n) a k w = let fed = fed_by_cover w.0 k w.2 in walk_past (suc n) a k fed.0 fed.1 fed.2 w

    pub flat_walks_end : WalksEnd (flat_drivers f) (length f.covers + 1)
    flat_walks_end k a w = let less : length f.covers + 1 ≤ length f.covers = flat_walks (length f.covers + 1) a k w in absurd (omega arith)

    -- what a driver reads is a net of the part, so it is driven
    pub flat_reads_driven : AreReadsDriven (flat_drivers f)
    flat_reads_driven k s a drives read = by (driver_is k s drives)
      where
        reads : (r : Driver ℕ) → s ≡ r → Among a (read_now r ++ read_before r)
        reads r same = subst (λ (s : Driver ℕ). Among a (read_now s ++ read_before s)) same read

        of_latch : (latch : FlatLatch) → Among latch f.latches → Among a (latch.input ∷ []) → IsDriven (flat_drivers f) a
        of_latch latch among (inl same) =
            let below = all_among {A = FlatLatch} (λ latch. (latch.input < f.nets) × (latch.out < f.nets)) f.latches latch flat.below.latches among in
            flat.driven a (subst (λ (k : ℕ). k < f.nets) (sym same) below.0)
        of_latch latch among (inr none) = absurd none

        of_cover : (c : FlatCover) → Among c f.covers → Among a (c.ins ++ []) → IsDriven (flat_drivers f) a
        of_cover c among here =
            let below = all_among {A = FlatCover} (λ c. AllByRecursion (λ k. k < f.nets) c.ins × (c.out < f.nets)) f.covers c flat.below.covers among in
            flat.driven a (elim (among_append a c.ins [] here) [ inl inside ↦ all_among (λ k. k < f.nets) c.ins a below.0 inside | inr none ↦ absurd none ])

        by : IsDriverOf k s → IsDriven (flat_drivers f) a
        by (inl input) = absurd (reads (from_input input.0) input.1)
        by (inr (inl latch)) = of_latch latch.0 latch.1 (reads (from_latch latch.0.init latch.0.input) latch.3)
        by (inr (inr cover)) = of_cover cover.0 cover.1 (reads (from_cover cover.0.cover cover.0.ins) cover.3)

map_via : {A : Type 0} (bit : ℕ → Bool) (net : A → ℕ) (value : A → Bool) (xs : List A) → ((x : A) → Among x xs → bit (net x) ≡ value x) → map bit (map net xs) ≡ map value xs
map_via bit net value [] each = refl
map_via bit net value (x ∷ xs) each =
    let head : bit (net x) ≡ value x = each x (inl refl) in
    let tail : map bit (map net xs) ≡ map value xs = map_via bit net value xs (λ y i. each y (inr i)) in
    cc

map_is_row : (bit : ℕ → Bool) (nets : List ℕ) (row : List Bool) → length row ≡ length nets → ((i k : ℕ) → slice_get nets i ≡ Some k → bit k ≡ get_or row i false) → map bit nets ≡ row
map_is_row bit [] [] wide each = refl
map_is_row bit [] (r ∷ row) wide each = absurd (omega arith)
map_is_row bit (k ∷ nets) [] wide each = absurd (omega arith)
map_is_row bit (k ∷ nets) (r ∷ row) wide each =
    let head : bit k ≡ r = each zero k refl in
    let tail : map bit nets ≡ row = map_is_row bit nets row (omega arith) (λ i n here. each (suc i) n here) in
    cc

-- each row of a strict table meets the covers, the latches and the inputs
pub flat_meets : (f : Flat) (rows : List (List Bool)) (b : Table ℕ) (t : ℕ) → IsStrict (flat_drivers f) rows b → t < length rows → MeetsRow f rows b t
flat_meets f rows b t strict below = record { covers = all_from_among (λ c. b t c.out ≡ cover_value c.cover (map (b t) c.ins)) f.covers (λ c among. given c.out _ (cover_drives f c among)); latches = state t below; inputs = from_row }
  where
    given_at : (t : ℕ) → t < length rows → (k : ℕ) (s : Driver ℕ) → Among s (flat_drivers f k) → b t k ≡ bit_of rows b t s
    given_at t below k s drives = all_among (λ s. b t k ≡ bit_of rows b t s) (flat_drivers f k) s (strict t k below) drives

    given : (k : ℕ) (s : Driver ℕ) → Among s (flat_drivers f k) → b t k ≡ bit_of rows b t s
    given = given_at t below

    state : (t : ℕ) → t < length rows → map (b t) (map latch_out f.latches) ≡ state_at f b t
    state zero below = map_via (b 0) latch_out latch_init f.latches (λ latch among. given_at zero below latch.out _ (latch_drives f latch among))
    state (suc t) below =
        map_via (b (suc t)) latch_out (λ latch. b t latch.input) f.latches (λ latch among. given_at (suc t) below latch.out _ (latch_drives f latch among))
        ∙ sym (map_via (b t) latch_input (λ latch. b t latch.input) f.latches (λ latch among. refl))

    from_row : (row : List Bool) → slice_get rows t ≡ Some row → length row ≡ length f.ins → map (b t) f.ins ≡ row
    from_row row here wide =
        map_is_row (b t) f.ins row wide
        (λ i k at. given k (from_input i) (input_drives f k i at) ∙ ap (λ (row : List Bool). get_or row i false) (get_or_from_slice_get rows t row [] here))
