-- Flat parts with their covers in another order.
use Rattle.std.proofs.Common.{◌≡◌, ◌⊎◌, ℕ, zero, suc, ◌+◌, ◌<◌, ◌==◌, Bool, true, false, not, cond, List, [], ◌∷◌, ◌++◌, length, inl, inr, refl, sym, ◌∙◌, ap, subst, arith}
use Rattle.std.specs.List.{AllByRecursion, flat_map}
use Rattle.std.proofs.lemmas.Bool.{eqb-true}
use Rattle.std.proofs.lemmas.List.{length-append}
use Rattle.lid_base.specs.Lists.{Among}
use Rattle.lid_base.proofs.Lists.{among_append, among_left, among_right, all_among, among_flat, flat_among, among_filter, some_item, if_among}
use Rattle.lid_design.specs.declared.Flat.{Flat}
use Rattle.lid_design.specs.declared.FlatLatch.{FlatLatch}
use Rattle.lid_design.specs.declared.FlatCover.{FlatCover}
use Rattle.lid_design.specs.Network.{Driver, from_input, from_latch, from_cover, Table, bit_of, IsStrict}
use Rattle.lid_design.specs.Feeds.{EdgesLead}
use Rattle.lid_design.specs.Flat.{inputs_at, latch_at, cover_at, flat_drivers, latch_out, IsFlatCover, ReadEarlier, IsFlat}
use Rattle.lid_strict_engine.specs.Rows.{known_after}
use Rattle.lid_pearl.specs.Pearls.{IsSplit, IsReordered}
use Rattle.lid_pearl.specs.Inside.{held, is_picked, IsFromInput, AreKnownMarks}
use Rattle.lid_strict_engine.proofs.Settling.{after_keeps, after_has}
use Rattle.lid_pearl.proofs.Marking.{early_of, late_of, early_reads, late_reads, early_known, late_known, fed_unless_marked}
use Rattle.lid_base.proofs.Alls.{all_from_among}

-- covers that marks pick are a split
pub split_of : (m : ℕ → Bool) (cs : List FlatCover) → IsSplit cs (early_of m cs) (late_of m cs)
split_of m [] = (refl, refl)
split_of m (c ∷ cs) = by (m c.out) (split_of m cs)
  where
    by : (b : Bool) → IsSplit cs (early_of m cs) (late_of m cs) → IsSplit (c ∷ cs) (cond b (c ∷ early_of m cs) (early_of m cs)) (cond (not b) (c ∷ late_of m cs) (late_of m cs))
    by true rest = inl (early_of m cs, refl, rest)
    by false rest = inr (late_of m cs, refl, rest)

module _ {A : Type 0} (x y : A) (first second rest : List A) where
  in_first : first ≡ y ∷ rest → (x ≡ y) ⊎ Among x (rest ++ second) → Among x (first ++ second)
  in_first same (inl e) = subst (λ (ys : List A). Among x (ys ++ second)) (sym same) (inl e)
  in_first same (inr later) = subst (λ (ys : List A). Among x (ys ++ second)) (sym same) (inr later)

  in_second : second ≡ y ∷ rest → (x ≡ y) ⊎ Among x (first ++ rest) → Among x (first ++ second)
  in_second same (inl e) = subst (λ (ys : List A). Among x (first ++ ys)) (sym same) (among_right x first (y ∷ rest) (inl e))
  in_second same (inr later) = subst (λ (ys : List A). Among x (first ++ ys)) (sym same) (by (among_append x first rest later))
    where
      by : Among x first ⊎ Among x rest → Among x (first ++ y ∷ rest)
      by (inl one) = among_left x first (y ∷ rest) one
      by (inr two) = among_right x first (y ∷ rest) (inr two)

-- the items of a list and those of its parts are the same
pub split_among : {A : Type 0} (xs first second : List A) → IsSplit xs first second → (x : A) → Among x xs → Among x (first ++ second)
split_among [] first second split x among = absurd among
split_among (y ∷ xs) first second (inl found) x (inl same) = in_first x y first second found.0 found.1 (inl same)
split_among (y ∷ xs) first second (inl found) x (inr later) = in_first x y first second found.0 found.1 (inr (split_among xs found.0 second found.2 x later))
split_among (y ∷ xs) first second (inr found) x (inl same) = in_second x y first second found.0 found.1 (inl same)
split_among (y ∷ xs) first second (inr found) x (inr later) = in_second x y first second found.0 found.1 (inr (split_among xs first found.0 found.2 x later))

first_among : {A : Type 0} (xs first second : List A) → IsSplit xs first second → (x : A) → Among x first → Among x xs
first_among {A} [] first second split x among = absurd (subst (λ (ys : List A). Among x ys) split.0 among)
first_among {A} (y ∷ xs) first second (inl found) x among = elim (subst (λ (ys : List A). Among x ys) found.1 among) [ inl same ↦ inl same | inr later ↦ inr (first_among xs found.0 second found.2 x later) ]
first_among (y ∷ xs) first second (inr found) x among = inr (first_among xs first found.0 found.2 x among)

second_among : {A : Type 0} (xs first second : List A) → IsSplit xs first second → (x : A) → Among x second → Among x xs
second_among {A} [] first second split x among = absurd (subst (λ (ys : List A). Among x ys) split.1 among)
second_among (y ∷ xs) first second (inl found) x among = inr (second_among xs found.0 second found.2 x among)
second_among {A} (y ∷ xs) first second (inr found) x among = elim (subst (λ (ys : List A). Among x ys) found.1 among) [ inl same ↦ inl same | inr later ↦ inr (second_among xs first found.0 found.2 x later) ]

pub among_split : {A : Type 0} (xs first second : List A) → IsSplit xs first second → (x : A) → Among x (first ++ second) → Among x xs
among_split xs first second split x among = elim (among_append x first second among) [ inl one ↦ first_among xs first second split x one | inr two ↦ second_among xs first second split x two ]

length_flat : {A B : Type 0} (h : A → List B) (x : A) (xs : List A) → length (flat_map h (x ∷ xs)) ≡ length (h x) + length (flat_map h xs)
length_flat h x xs = length-append (h x) (flat_map h xs)

split_length : {A B : Type 0} (h : A → List B) (xs first second : List A) → IsSplit xs first second → length (flat_map h first) + length (flat_map h second) ≡ length (flat_map h xs)
split_length {A} h [] first second split = ap (λ (ys : List A). length (flat_map h ys) + length (flat_map h second)) split.0 ∙ ap (λ (ys : List A). 0 + length (flat_map h ys)) split.1
split_length {A} h (x ∷ xs) first second (inl found) =
    let rest = split_length h xs found.0 second found.2 in
    let one = ap (λ (ys : List A). length (flat_map h ys)) found.1 ∙ length_flat h x found.0 in
    let all = length_flat h x xs in
    omega arith
split_length {A} h (x ∷ xs) first second (inr found) =
    let rest = split_length h xs first found.0 found.2 in
    let one = ap (λ (ys : List A). length (flat_map h ys)) found.1 ∙ length_flat h x found.0 in
    let all = length_flat h x xs in
    omega arith

flat_map_parts : {A B : Type 0} (h : A → List B) (xs ys : List A) → length (flat_map h (xs ++ ys)) ≡ length (flat_map h xs) + length (flat_map h ys)
flat_map_parts h [] ys = omega arith
flat_map_parts h (x ∷ xs) ys =
    let rest = flat_map_parts h xs ys in
    let one = length_flat h x (xs ++ ys) in
    let two = length_flat h x xs in
    omega arith

-- a flat part with other covers
abbrev pub with_covers : Flat → List FlatCover → Flat
with_covers f cs = record { nets = f.nets; ins = f.ins; outs = f.outs; latches = f.latches; covers = cs }

abbrev pub flat_of : ℕ → List ℕ → List ℕ → List FlatLatch → List FlatCover → Flat
flat_of nets ins outs latches covers = record { nets = nets; ins = ins; outs = outs; latches = latches; covers = covers }

pub reordered_is : (f g : Flat) (re : IsReordered f g) → g ≡ with_covers f (re.covers.0 ++ re.covers.1)
reordered_is f g re =
    ap (λ (n : ℕ). flat_of n g.ins g.outs g.latches g.covers) re.nets
    ∙ ap (λ (ks : List ℕ). flat_of f.nets ks g.outs g.latches g.covers) re.ins
    ∙ ap (λ (ks : List ℕ). flat_of f.nets f.ins ks g.latches g.covers) re.outs
    ∙ ap (λ (ls : List FlatLatch). flat_of f.nets f.ins f.outs ls g.covers) re.latches
    ∙ ap (λ (cs : List FlatCover). flat_of f.nets f.ins f.outs f.latches cs) re.covers.2

module _ (f : Flat) (first second : List FlatCover) (split : IsSplit f.covers first second) where
  abbrev g : Flat
  g = with_covers f (first ++ second)

  -- the drivers of each net are the same
  module _ (k : ℕ) (s : Driver ℕ) where
    move : (cs ds : List FlatCover) → ((c : FlatCover) → Among c cs → Among c ds) → Among s (flat_drivers (with_covers f cs) k) → Among s (flat_drivers (with_covers f ds) k)
    unfolding flat_drivers
    move cs ds wider among = by (among_append s (inputs_at k 0 f.ins) (flat_map (latch_at k) f.latches ++ flat_map (cover_at k) cs) among)
      where
        moved : Among s (flat_map (cover_at k) cs) → Among s (flat_map (cover_at k) ds)
        moved here = let found = flat_among {A = FlatCover} {B = Driver ℕ} (cover_at k) s cs here in among_flat {A = FlatCover} {B = Driver ℕ} (cover_at k) found.0 s ds (wider found.0 found.1) found.2

        cells : Among s (flat_map (latch_at k) f.latches) ⊎ Among s (flat_map (cover_at k) cs) → Among s (flat_map (latch_at k) f.latches ++ flat_map (cover_at k) ds)
        cells (inl latch) = among_left s (flat_map (latch_at k) f.latches) (flat_map (cover_at k) ds) latch
        cells (inr cover) = among_right s (flat_map (latch_at k) f.latches) (flat_map (cover_at k) ds) (moved cover)

        by : Among s (inputs_at k 0 f.ins) ⊎ Among s (flat_map (latch_at k) f.latches ++ flat_map (cover_at k) cs) → Among s (inputs_at k 0 f.ins ++ (flat_map (latch_at k) f.latches ++ flat_map (cover_at k) ds))
        by (inl input) = among_left s (inputs_at k 0 f.ins) (flat_map (latch_at k) f.latches ++ flat_map (cover_at k) ds) input
        by (inr cell) = among_right s (inputs_at k 0 f.ins) (flat_map (latch_at k) f.latches ++ flat_map (cover_at k) ds) (cells (among_append s (flat_map (latch_at k) f.latches) (flat_map (cover_at k) cs) cell))

    pub driver_there : Among s (flat_drivers f k) → Among s (flat_drivers g k)
    driver_there among = move f.covers (first ++ second) (split_among f.covers first second split) among

    pub driver_back : Among s (flat_drivers g k) → Among s (flat_drivers f k)
    driver_back among = move (first ++ second) f.covers (among_split f.covers first second split) among

  as_many : (k : ℕ) → length (flat_drivers g k) ≡ length (flat_drivers f k)
  unfolding flat_drivers
  as_many k =
      let one = length-append (inputs_at k 0 f.ins) (flat_map (latch_at k) f.latches ++ flat_map (cover_at k) (first ++ second)) in
      let two = length-append (flat_map (latch_at k) f.latches) (flat_map (cover_at k) (first ++ second)) in
      let three = length-append (inputs_at k 0 f.ins) (flat_map (latch_at k) f.latches ++ flat_map (cover_at k) f.covers) in
      let four = length-append (flat_map (latch_at k) f.latches) (flat_map (cover_at k) f.covers) in
      let parts = flat_map_parts (cover_at k) first second in
      let same = split_length (cover_at k) f.covers first second split in
      omega arith

  walk_back : (n a c : ℕ) → EdgesLead (flat_drivers g) n a c → EdgesLead (flat_drivers f) n a c
  walk_back zero a c w = w
  walk_back (suc n) a c w = (w.0, walk_back n a w.0 w.1, (w.2.0, driver_back c w.2.0 w.2.1, w.2.2))

  pub reordered_flat : IsFlat f → ReadEarlier (f.ins ++ held f.latches) (first ++ second) → IsFlat g
  reordered_flat flat earlier = record {
    below = record { ins = flat.below.ins; outs = flat.below.outs; latches = flat.below.latches; covers = all_from_among (λ (c : FlatCover). AllByRecursion (λ k. k < f.nets) c.ins × (c.out < f.nets)) (first ++ second) (λ c among. all_among (λ (c : FlatCover). AllByRecursion (λ k. k < f.nets) c.ins × (c.out < f.nets)) f.covers c flat.below.covers (among_split f.covers first second split c among)) };
    once = λ k. (let same = as_many k in let few = flat.once k in omega arith);
    driven = λ k h. (let same = as_many k in let some = flat.driven k h in omega arith);
    earlier = earlier;
    apart = λ n input output i o w. flat.apart n input output i o (walk_back n input output w);
    covers = all_from_among IsFlatCover (first ++ second) (λ c among. all_among IsFlatCover f.covers c flat.covers (among_split f.covers first second split c among));
  }

  pub strict_there : (rows : List (List Bool)) (b : Table ℕ) → IsStrict (flat_drivers f) rows b → IsStrict (flat_drivers g) rows b
  strict_there rows b strict t k h = all_from_among (λ s. b t k ≡ bit_of rows b t s) (flat_drivers g k) (λ s among. all_among (λ s. b t k ≡ bit_of rows b t s) (flat_drivers f k) s (strict t k h) (driver_back k s among))

  pub strict_back : (rows : List (List Bool)) (b : Table ℕ) → IsStrict (flat_drivers g) rows b → IsStrict (flat_drivers f) rows b
  strict_back rows b strict t k h = all_from_among (λ s. b t k ≡ bit_of rows b t s) (flat_drivers f k) (λ s among. all_among (λ s. b t k ≡ bit_of rows b t s) (flat_drivers g k) s (strict t k h) (driver_there k s among))

-- each net is known once all covers are run
inputs_among : (k j : ℕ) (nets : List ℕ) (s : Driver ℕ) → Among s (inputs_at k j nets) → Among k nets
inputs_among k j [] s among = absurd among
inputs_among k j (net ∷ nets) s among = by (net == k) refl among (inputs_among k (j + 1) nets s)
  where
    by : (b : Bool) → (net == k) ≡ b → Among s (cond b (from_input j ∷ []) [] ++ inputs_at k (j + 1) nets) → (Among s (inputs_at k (j + 1) nets) → Among k nets) → Among k (net ∷ nets)
    by true e among next = inl (sym (eqb-true net k e))
    by false e among next = inr (next among)

among_held : (latches : List FlatLatch) (latch : FlatLatch) → Among latch latches → Among latch.out (held latches)
among_held [] latch among = absurd among
among_held (l ∷ latches) latch (inl same) = inl (ap latch_out same)
among_held (l ∷ latches) latch (inr among) = inr (among_held latches latch among)

append_earlier : (known : List ℕ) (xs ys : List FlatCover) → ReadEarlier known xs → ReadEarlier (known_after known xs) ys → ReadEarlier known (xs ++ ys)
append_earlier known [] ys first second = second
append_earlier known (x ∷ xs) ys first second = (first.0, append_earlier (x.out ∷ known) xs ys first.1 second)

module _ (f : Flat) (flat : IsFlat f) (m : ℕ → Bool) (marks : AreKnownMarks f f.covers m) where
  abbrev known : List ℕ
  known = f.ins ++ held f.latches

  abbrev early : List FlatCover
  early = early_of m f.covers

  abbrev late : List FlatCover
  late = late_of m f.covers

  net_known : (k : ℕ) → k < f.nets → Among k (known_after known f.covers)
  unfolding flat_drivers
  net_known k h = by (some_item (flat_drivers f k) (flat.driven k h))
    where
      of_cell : (s : Driver ℕ) → Among s (flat_map (latch_at k) f.latches) ⊎ Among s (flat_map (cover_at k) f.covers) → Among k (known_after known f.covers)
      of_cell s (inl here) =
          let found = flat_among {A = FlatLatch} {B = Driver ℕ} (latch_at k) s f.latches here in
          let same = eqb-true found.0.out k ((if_among (found.0.out == k) s (from_latch found.0.init found.0.input) found.2).0) in
          subst (λ (k : ℕ). Among k (known_after known f.covers)) same (after_keeps known f.covers found.0.out (among_right found.0.out f.ins (held f.latches) (among_held f.latches found.0 found.1)))
      of_cell s (inr here) =
          let found = flat_among {A = FlatCover} {B = Driver ℕ} (cover_at k) s f.covers here in
          let same = eqb-true found.0.out k ((if_among (found.0.out == k) s (from_cover found.0.cover found.0.ins) found.2).0) in
          subst (λ (k : ℕ). Among k (known_after known f.covers)) same (after_has known f.covers found.0 found.1)

      of : (s : Driver ℕ) → Among s (inputs_at k 0 f.ins) ⊎ Among s (flat_map (latch_at k) f.latches ++ flat_map (cover_at k) f.covers) → Among k (known_after known f.covers)
      of s (inl input) = after_keeps known f.covers k (among_left k f.ins (held f.latches) (inputs_among k 0 f.ins s input))
      of s (inr cell) = of_cell s (among_append s (flat_map (latch_at k) f.latches) (flat_map (cover_at k) f.covers) cell)

      by : ((s : Driver ℕ) × Among s (inputs_at k 0 f.ins ++ (flat_map (latch_at k) f.latches ++ flat_map (cover_at k) f.covers))) → Among k (known_after known f.covers)
      by found = of found.0 (among_append found.0 (inputs_at k 0 f.ins) (flat_map (latch_at k) f.latches ++ flat_map (cover_at k) f.covers) found.1)

  marked_held : (k : ℕ) → Among k known → m k ≡ true → Among k (held f.latches)
  marked_held k among is = by (among_append k f.ins (held f.latches) among)
    where
      by : Among k f.ins ⊎ Among k (held f.latches) → Among k (held f.latches)
      by (inl input) = absurd (let e : false ≡ true = sym (marks.inputs k input) ∙ is in cc)
      by (inr latch) = latch

  pub early_earlier : ReadEarlier (held f.latches) early
  early_earlier = early_reads m f.covers known (held f.latches) flat.earlier marks.covers_marked marked_held

  early_has : (c : FlatCover) → Among c f.covers → m c.out ≡ true → Among c.out (f.ins ++ known_after (held f.latches) early)
  early_has c among is = among_right c.out f.ins (known_after (held f.latches) early) (early_known m f.covers known (held f.latches) marked_held c.out (after_has known f.covers c among) is)

  wider : (k : ℕ) → Among k known → Among k (f.ins ++ known_after (held f.latches) early)
  wider k among = elim (among_append k f.ins (held f.latches) among) [
    | inl input ↦ among_left k f.ins (known_after (held f.latches) early) input
    | inr latch ↦ among_right k f.ins (known_after (held f.latches) early) (after_keeps (held f.latches) early k latch)
  ]

  pub late_earlier : ReadEarlier (f.ins ++ known_after (held f.latches) early) late
  late_earlier = late_reads m f.covers known (f.ins ++ known_after (held f.latches) early) flat.earlier wider early_has

  fed : (k : ℕ) → Among k known → m k ≡ false → IsFromInput f k
  fed k among is = by (among_append k f.ins (held f.latches) among)
    where
      by : Among k f.ins ⊎ Among k (held f.latches) → IsFromInput f k
      by (inl input) = (0, k, input, refl)
      by (inr latch) = absurd (let e : true ≡ false = sym (marks.latches k latch) ∙ is in cc)

  pub out_early : (k : ℕ) → Among k f.outs → Among k (known_after (held f.latches) early)
  out_early k among = by (m k) refl
    where
      here : Among k (known_after known f.covers)
      here = net_known k (all_among (λ k. k < f.nets) f.outs k flat.below.outs among)

      by : (b : Bool) → m k ≡ b → Among k (known_after (held f.latches) early)
      by true e = early_known m f.covers known (held f.latches) marked_held k here e
      by false e = let found = fed_unless_marked f m f.covers known flat.earlier marks.covers_marked (λ c among. among) fed k here e in absurd (flat.apart found.0 found.1 k found.2 among found.3)

  pub net_late : (k : ℕ) → k < f.nets → Among k (known_after (f.ins ++ known_after (held f.latches) early) late)
  net_late k h = late_known m f.covers known (f.ins ++ known_after (held f.latches) early) wider early_has k (net_known k h)

  pub all_earlier : ReadEarlier known (early ++ late)
  all_earlier =
      append_earlier known early late
      (early_reads m f.covers known known flat.earlier marks.covers_marked (λ k among is. among))
      (late_reads m f.covers known (known_after known early) flat.earlier (λ k among. after_keeps known early k among) (λ c among is. after_has known early c (among_filter (is_picked m true) c f.covers among is)))
