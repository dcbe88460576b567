-- Marks of what is known in a state, and the covers that they pick.
use Rattle.std.proofs.Common.{◌≡◌, ◌≢◌, ◌⊎◌, ℕ, zero, suc, ◌+◌, ◌<◌, ◌≤◌, eqb, Bool, true, false, not, cond, ◌&&◌, List, [], ◌∷◌, ◌++◌, length, filter, take, set, Some, slice_get, slice_index_or, inl, inr, refl, sym, ◌∙◌, ap, subst, arith}
use Rattle.std.specs.List.{AllByRecursion, list_all}
use Rattle.std.proofs.lemmas.List.{get_or-set_same, get_or-set_other}
use Rattle.std.proofs.lemmas.Bool.Decides.{eqb_tells}
use Rattle.lid_base.specs.Lists.{Among}
use Rattle.lid_base.proofs.Lists.{among_append, among_left, among_right, all_among, all_at, last_case, among_get, map_among, get_among, among_take}
use Rattle.lid_design.specs.declared.Flat.{Flat}
use Rattle.lid_design.specs.declared.FlatLatch.{FlatLatch}
use Rattle.lid_design.specs.declared.FlatCover.{FlatCover}
use Rattle.lid_design.specs.Network.{Driver, from_input, from_latch, from_cover}
use Rattle.lid_design.specs.Feeds.{read_now}
use Rattle.lid_design.specs.Flat.{flat_drivers, latch_out, ReadEarlier, IsFlat}
use Rattle.lid_design.proofs.Parts.{input_drives, latch_drives, cover_drives}
use Rattle.lid_strict_engine.specs.Rows.{bit_at, known_after}
use Rattle.lid_strict_engine.proofs.Settling.{take_at, after_keeps, after_has, earlier_at, no_latch, latch_at}
use Rattle.lid_pearl.specs.Inside.{held, is_picked, IsFromInput, AreKnownMarks}
use Rattle.lid_base.proofs.Alls.{all_weaker, all_true}

-- what is known was so before, or is the output of a cover
pub after_cases : (known : List ℕ) (cs : List FlatCover) (k : ℕ) → Among k (known_after known cs) → Among k known ⊎ ((c : FlatCover) × Among c cs × (k ≡ c.out))
after_cases known [] k among = inl among
after_cases known (d ∷ cs) k among = by (after_cases (d.out ∷ known) cs k among)
  where
    by : Among k (d.out ∷ known) ⊎ ((c : FlatCover) × Among c cs × (k ≡ c.out)) → Among k known ⊎ ((c : FlatCover) × Among c (d ∷ cs) × (k ≡ c.out))
    by (inl (inl same)) = inr (d, inl refl, same)
    by (inl (inr earlier)) = inl earlier
    by (inr found) = inr (found.0, inr found.1, found.2)

-- each of some first covers reads what is known once they are run
reads_known : (known : List ℕ) (cs : List FlatCover) (i : ℕ) → ReadEarlier known cs → (c : FlatCover) → Among c (take i cs) → AllByRecursion (λ k. Among k (known_after known (take i cs))) c.ins
reads_known known cs zero earlier c among = absurd among
reads_known known [] (suc i) earlier c among = absurd among
reads_known known (d ∷ cs) (suc i) earlier c (inl same) =
    subst (λ (c : FlatCover). AllByRecursion (λ k. Among k (known_after (d.out ∷ known) (take i cs))) c.ins) (sym same)
    (all_weaker (λ k. Among k known) (λ k. Among k (known_after (d.out ∷ known) (take i cs))) d.ins (λ k a. after_keeps (d.out ∷ known) (take i cs) k (inr a)) earlier.0)
reads_known known (d ∷ cs) (suc i) earlier c (inr among) = reads_known (d.out ∷ known) cs i earlier.1 c among

list_all_same : (m n : ℕ → Bool) (ks : List ℕ) → AllByRecursion (λ k. m k ≡ n k) ks → list_all m ks ≡ list_all n ks
list_all_same m n [] same = refl
list_all_same m n (k ∷ ks) same =
    let head : m k ≡ n k = same.0 in
    let tail : list_all m ks ≡ list_all n ks = list_all_same m n ks same.1 in
    cc

-- a latch that is read gives a net below what all are below
pub latch_below : (n : ℕ) (latches : List FlatLatch) (i : ℕ) → i < length latches → AllByRecursion (λ k. k < n) (held latches) → (slice_index_or latches i no_latch).out < n
latch_below n latches i inside below = all_at (λ (k : ℕ). k < n) (held latches) i (slice_index_or latches i no_latch).out below (latch_at latch_out latches i inside)

-- in a list of at most one, all are one
pub same_driver : (xs : List (Driver ℕ)) (s r : Driver ℕ) → length xs ≤ 1 → Among s xs → Among r xs → s ≡ r
same_driver [] s r few i j = absurd i
same_driver (x ∷ []) s r few (inl e) (inl e') = e ∙ sym e'
same_driver (x ∷ []) s r few (inl e) (inr j) = absurd j
same_driver (x ∷ []) s r few (inr i) j = absurd i
same_driver (x ∷ y ∷ xs) s r few i j = absurd (omega arith)

-- what a cover reads
abbrev reads_of : Driver ℕ → List ℕ
reads_of s = read_now s

is_input : Driver ℕ → Bool
is_input (from_input i) = true
is_input s = false

is_latch : Driver ℕ → Bool
is_latch (from_latch first input) = true
is_latch s = false

module _ (f : Flat) (flat : IsFlat f) where
  abbrev base : List ℕ
  base = f.ins ++ held f.latches

  -- what drives a net
  cover_there : (d : FlatCover) → Among d f.covers → (k : ℕ) → k ≡ d.out → Among {A = Driver ℕ} (from_cover d.cover d.ins) (flat_drivers f k)
  cover_there d among k same = subst (λ (k : ℕ). Among {A = Driver ℕ} (from_cover d.cover d.ins) (flat_drivers f k)) (sym same) (cover_drives f d among)

  latch_there : (k : ℕ) → Among k (held f.latches) → (l : FlatLatch) × Among {A = Driver ℕ} (from_latch l.init l.input) (flat_drivers f k)
  latch_there k here =
      let found = map_among {A = FlatLatch} {B = ℕ} latch_out k f.latches here in
      let latch = found.0 in (
        latch,
        subst (λ (k : ℕ). Among {A = Driver ℕ} (from_latch latch.init latch.input) (flat_drivers f k)) (sym found.2) (latch_drives f latch found.1),
      )

  -- an input is driven as one alone, and so is a latch's output
  input_alone : (k : ℕ) → Among k f.ins → (s : Driver ℕ) → Among s (flat_drivers f k) → is_input s ≡ true
  unfolding is_input
  input_alone k here s among =
      let found = among_get f.ins k here in
      ap is_input (same_driver (flat_drivers f k) s (from_input found.0) (flat.once k) among (input_drives f k found.0 found.1))

  latch_alone : (k : ℕ) → Among k (held f.latches) → (s : Driver ℕ) → Among s (flat_drivers f k) → is_latch s ≡ true
  unfolding is_latch
  latch_alone k here s among =
      let found = latch_there k here in
      ap is_latch (same_driver (flat_drivers f k) s (from_latch found.0.init found.0.input) (flat.once k) among found.1)

  -- a cover's output is no input and no latch's output
  not_input : (d : FlatCover) → Among d f.covers → (k : ℕ) → k ≡ d.out → Among k f.ins → ⊥
  unfolding is_input
  not_input d among k same here = let e : false ≡ true = input_alone k here (from_cover d.cover d.ins) (cover_there d among k same) in cc

  not_held : (d : FlatCover) → Among d f.covers → (k : ℕ) → k ≡ d.out → Among k (held f.latches) → ⊥
  unfolding is_latch
  not_held d among k same here = let e : false ≡ true = latch_alone k here (from_cover d.cover d.ins) (cover_there d among k same) in cc

  pub input_not_held : (k : ℕ) → Among k f.ins → Among k (held f.latches) → ⊥
  unfolding is_input
  input_not_held k here there =
      let found = latch_there k there in
      let e : false ≡ true = input_alone k here (from_latch found.0.init found.0.input) found.1 in cc

  -- covers with the same output read the same
  same_reads : (c d : FlatCover) → Among c f.covers → Among d f.covers → c.out ≡ d.out → c.ins ≡ d.ins
  same_reads c d here there same =
      let one = cover_there c here d.out (sym same) in
      let two = cover_drives f d there in
      ap reads_of (same_driver (flat_drivers f d.out) (from_cover c.cover c.ins) (from_cover d.cover d.ins) (flat.once d.out) one two)

  -- one more cover is marked
  module _ (marks : List Bool) (i : ℕ) (d : FlatCover) (at : slice_get f.covers i ≡ Some d) (room : d.out < length marks) (so_far : AreKnownMarks f (take i f.covers) (bit_at marks)) where
    abbrev v : Bool
    v = list_all (bit_at marks) d.ins

    abbrev new : List Bool
    new = set marks d.out v

    d_among : Among d f.covers
    d_among = get_among f.covers i d at

    right : (k : ℕ) → Among k (known_after base (take i f.covers)) → k ≡ d.out → bit_at marks k ≡ v
    right k among same = by (after_cases base (take i f.covers) k among)
      where
        of_base : Among k f.ins ⊎ Among k (held f.latches) → bit_at marks k ≡ v
        of_base (inl input) = absurd (not_input d d_among k same input)
        of_base (inr latch) = absurd (not_held d d_among k same latch)

        by : Among k base ⊎ ((c : FlatCover) × Among c (take i f.covers) × (k ≡ c.out)) → bit_at marks k ≡ v
        by (inl early) = of_base (among_append k f.ins (held f.latches) early)
        by (inr found) =
            let c = found.0 in
            ap (bit_at marks) found.2
            ∙ so_far.covers_marked c found.1
            ∙ ap (list_all (bit_at marks)) (same_reads c d (among_take f.covers i c found.1) d_among (sym found.2 ∙ same))

    unchanged : (k : ℕ) → Among k (known_after base (take i f.covers)) → bit_at new k ≡ bit_at marks k
    unchanged k among = by (eqb_tells k d.out)
      where
        by : ((eqb k d.out ≡ true) × (k ≡ d.out)) ⊎ ((eqb k d.out ≡ false) × (k ≢ d.out)) → bit_at new k ≡ bit_at marks k
        by (inl e) = ap (bit_at new) e.1 ∙ get_or-set_same marks d.out v false room ∙ sym (right k among e.1)
        by (inr e) = get_or-set_other marks d.out k v false e.1

    all_unchanged : (ks : List ℕ) → AllByRecursion (λ k. Among k (known_after base (take i f.covers))) ks → list_all (bit_at new) ks ≡ list_all (bit_at marks) ks
    all_unchanged ks all = list_all_same (bit_at new) (bit_at marks) ks (all_weaker (λ k. Among k (known_after base (take i f.covers))) (λ k. bit_at new k ≡ bit_at marks k) ks unchanged all)

    pub marked_next : AreKnownMarks f (take (i + 1) f.covers) (bit_at new)
    marked_next = record {
      inputs = λ k among. unchanged k (after_keeps base (take i f.covers) k (among_left k f.ins (held f.latches) among)) ∙ so_far.inputs k among;
      latches = λ k among. unchanged k (after_keeps base (take i f.covers) k (among_right k f.ins (held f.latches) among)) ∙ so_far.latches k among;
      covers_marked = λ c among.
          last_case c (take i f.covers) d (subst (Among c) (take_at f.covers i d at) among)
          (λ earlier.
          unchanged c.out (after_has base (take i f.covers) c earlier)
          ∙ so_far.covers_marked c earlier
          ∙ sym (all_unchanged c.ins (reads_known base f.covers i flat.earlier c earlier)))
          (λ same.
          ap (λ (c : FlatCover). bit_at new c.out) same
          ∙ get_or-set_same marks d.out v false room
          ∙ sym (all_unchanged d.ins (earlier_at base f.covers i d flat.earlier at))
          ∙ sym (ap (λ (c : FlatCover). list_all (bit_at new) c.ins) same));
    }

-- the covers whose outputs are marked, and the others
abbrev pub early_of : (ℕ → Bool) → List FlatCover → List FlatCover
early_of m cs = filter (is_picked m true) cs

abbrev pub late_of : (ℕ → Bool) → List FlatCover → List FlatCover
late_of m cs = filter (is_picked m false) cs

abbrev pub Exact : (ℕ → Bool) → List FlatCover → Type 0
Exact m cs = (c : FlatCover) → Among c cs → m c.out ≡ list_all m c.ins

one_false : (m : ℕ → Bool) (ks : List ℕ) → list_all m ks ≡ false → (k : ℕ) × Among k ks × (m k ≡ false)
one_false m [] e = absurd (let f : true ≡ false = e in cc)
one_false m (k ∷ ks) e = by (m k) refl e (one_false m ks)
  where
    later : ((x : ℕ) × Among x ks × (m x ≡ false)) → (x : ℕ) × Among x (k ∷ ks) × (m x ≡ false)
    later found = (found.0, inr found.1, found.2)

    by : (b : Bool) → m k ≡ b → (b && list_all m ks) ≡ false → (list_all m ks ≡ false → (x : ℕ) × Among x ks × (m x ≡ false)) → (x : ℕ) × Among x (k ∷ ks) × (m x ≡ false)
    by true here e next = later (next e)
    by false here e next = (k, inl refl, here)

both_all : (P Q R : ℕ → Type 0) (ks : List ℕ) → ((k : ℕ) → P k → Q k → R k) → AllByRecursion P ks → AllByRecursion Q ks → AllByRecursion R ks
both_all P Q R [] h ps qs = tt
both_all P Q R (k ∷ ks) h ps qs = (h k ps.0 qs.0, both_all P Q R ks h ps.1 qs.1)

abbrev EarlyRead : (ℕ → Bool) → List FlatCover → Type 0
EarlyRead m cs = (known known' : List ℕ) → ReadEarlier known cs → Exact m cs → ((k : ℕ) → Among k known → m k ≡ true → Among k known') → ReadEarlier known' (early_of m cs)

-- early covers read what is known in a state
pub early_reads : (m : ℕ → Bool) (cs : List FlatCover) (known known' : List ℕ) → ReadEarlier known cs → Exact m cs → ((k : ℕ) → Among k known → m k ≡ true → Among k known') → ReadEarlier known' (early_of m cs)
early_reads m [] known known' earlier exact marked = tt
early_reads m (c ∷ cs) known known' earlier exact marked = by (m c.out) refl (early_reads m cs)
  where
    by : (b : Bool) → m c.out ≡ b → EarlyRead m cs → ReadEarlier known' (cond b (c ∷ early_of m cs) (early_of m cs))
    by true e next = (
      both_all (λ k. Among k known) (λ k. m k ≡ true) (λ k. Among k known') c.ins marked earlier.0 (all_true m c.ins (sym (exact c (inl refl)) ∙ e)),
      next (c.out ∷ known) (c.out ∷ known') earlier.1 (λ d among. exact d (inr among)) (λ k among is. elim among [ inl same ↦ inl same | inr among ↦ inr (marked k among is) ]),
    )
    by false e next = next (c.out ∷ known) known' earlier.1 (λ d among. exact d (inr among)) more
      where
        more : (k : ℕ) → Among k (c.out ∷ known) → m k ≡ true → Among k known'
        more k (inl same) is = absurd (let f : m c.out ≡ true = sym (ap m same) ∙ is in cc)
        more k (inr among) is = marked k among is

abbrev LateRead : (ℕ → Bool) → List FlatCover → Type 0
LateRead m cs = (known known' : List ℕ) → ReadEarlier known cs → ((k : ℕ) → Among k known → Among k known') → ((c : FlatCover) → Among c cs → m c.out ≡ true → Among c.out known') → ReadEarlier known' (late_of m cs)

-- late covers read what is known once the inputs are
pub late_reads : (m : ℕ → Bool) (cs : List FlatCover) (known known' : List ℕ) → ReadEarlier known cs → ((k : ℕ) → Among k known → Among k known') → ((c : FlatCover) → Among c cs → m c.out ≡ true → Among c.out known') → ReadEarlier known' (late_of m cs)
late_reads m [] known known' earlier wider early = tt
late_reads m (c ∷ cs) known known' earlier wider early = by (m c.out) refl (late_reads m cs)
  where
    by : (b : Bool) → m c.out ≡ b → LateRead m cs → ReadEarlier known' (cond (not b) (c ∷ late_of m cs) (late_of m cs))
    by false e next = (
      all_weaker (λ k. Among k known) (λ k. Among k known') c.ins wider earlier.0,
      next (c.out ∷ known) (c.out ∷ known') earlier.1 (λ k among. elim among [ inl same ↦ inl same | inr among ↦ inr (wider k among) ]) (λ d among is. inr (early d (inr among) is)),
    )
    by true e next = next (c.out ∷ known) known' earlier.1 (λ k among. elim among [ inl same ↦ subst (λ (x : ℕ). Among x known') (sym same) (early c (inl refl) e) | inr among ↦ wider k among ]) (λ d among is. early d (inr among) is)

abbrev EarlyKnown : (ℕ → Bool) → List FlatCover → Type 0
EarlyKnown m cs = (known known' : List ℕ) → ((k : ℕ) → Among k known → m k ≡ true → Among k known') → (k : ℕ) → Among k (known_after known cs) → m k ≡ true → Among k (known_after known' (early_of m cs))

-- what is marked and known is known in a state
pub early_known : (m : ℕ → Bool) (cs : List FlatCover) (known known' : List ℕ) → ((k : ℕ) → Among k known → m k ≡ true → Among k known') → (k : ℕ) → Among k (known_after known cs) → m k ≡ true → Among k (known_after known' (early_of m cs))
early_known m [] known known' marked k among is = marked k among is
early_known m (c ∷ cs) known known' marked k among is = by (m c.out) refl (early_known m cs)
  where
    by : (b : Bool) → m c.out ≡ b → EarlyKnown m cs → Among k (known_after known' (cond b (c ∷ early_of m cs) (early_of m cs)))
    by true e next = next (c.out ∷ known) (c.out ∷ known') (λ k among is. elim among [ inl same ↦ inl same | inr among ↦ inr (marked k among is) ]) k among is
    by false e next = next (c.out ∷ known) known' more k among is
      where
        more : (k : ℕ) → Among k (c.out ∷ known) → m k ≡ true → Among k known'
        more k (inl same) is = absurd (let f : m c.out ≡ true = sym (ap m same) ∙ is in cc)
        more k (inr among) is = marked k among is

abbrev LateKnown : (ℕ → Bool) → List FlatCover → Type 0
LateKnown m cs = (known known' : List ℕ) → ((k : ℕ) → Among k known → Among k known') → ((c : FlatCover) → Among c cs → m c.out ≡ true → Among c.out known') → (k : ℕ) → Among k (known_after known cs) → Among k (known_after known' (late_of m cs))

-- all that is known is so once the late covers are run
pub late_known : (m : ℕ → Bool) (cs : List FlatCover) (known known' : List ℕ) → ((k : ℕ) → Among k known → Among k known') → ((c : FlatCover) → Among c cs → m c.out ≡ true → Among c.out known') → (k : ℕ) → Among k (known_after known cs) → Among k (known_after known' (late_of m cs))
late_known m [] known known' wider early k among = wider k among
late_known m (c ∷ cs) known known' wider early k among = by (m c.out) refl (late_known m cs)
  where
    by : (b : Bool) → m c.out ≡ b → LateKnown m cs → Among k (known_after known' (cond (not b) (c ∷ late_of m cs) (late_of m cs)))
    by false e next = next (c.out ∷ known) (c.out ∷ known') (λ k among. elim among [ inl same ↦ inl same | inr among ↦ inr (wider k among) ]) (λ d among is. inr (early d (inr among) is)) k among
    by true e next = next (c.out ∷ known) known' (λ k among. elim among [ inl same ↦ subst (λ (x : ℕ). Among x known') (sym same) (early c (inl refl) e) | inr among ↦ wider k among ]) (λ d among is. early d (inr among) is) k among

-- an input leads to what is known and not marked
pub fed_unless_marked : (f : Flat) (m : ℕ → Bool) (cs : List FlatCover) (known : List ℕ) → ReadEarlier known cs → Exact m cs → ((c : FlatCover) → Among c cs → Among c f.covers) → ((k : ℕ) → Among k known → m k ≡ false → IsFromInput f k) → (k : ℕ) → Among k (known_after known cs) → m k ≡ false → IsFromInput f k
fed_unless_marked f m [] known earlier exact within fed k among is = fed k among is
fed_unless_marked f m (c ∷ cs) known earlier exact within fed k among is = fed_unless_marked f m cs (c.out ∷ known) earlier.1 (λ d among. exact d (inr among)) (λ d among. within d (inr among)) more k among is
  where
    reach : ((a : ℕ) × Among a c.ins × (m a ≡ false)) → IsFromInput f c.out
    reach found =
        let a = found.0 in
        let before = fed a (all_among (λ k. Among k known) c.ins a earlier.0 found.1) found.2 in
        (suc before.0, before.1, before.2, (a, before.3, (from_cover c.cover c.ins, cover_drives f c (within c (inl refl)), found.1)))

    more : (k : ℕ) → Among k (c.out ∷ known) → m k ≡ false → IsFromInput f k
    more k (inl same) is = subst (IsFromInput f) (sym same) (reach (one_false m c.ins (sym (exact c (inl refl)) ∙ sym (ap m same) ∙ is)))
    more k (inr among) is = fed k among is

-- one more net is marked
module _ (nets : List ℕ) (marks : List Bool) where
  pub held_next : (i k : ℕ) → slice_get nets i ≡ Some k → k < length marks → ((x : ℕ) → Among x (take i nets) → bit_at marks x ≡ true) → (x : ℕ) → Among x (take (i + 1) nets) → bit_at (set marks k true) x ≡ true
  held_next i k here room so_far x among = last_case x (take i nets) k (subst (Among x) (take_at nets i k here) among) (λ earlier. other earlier (eqb_tells x k)) (λ same. ap (bit_at (set marks k true)) same ∙ get_or-set_same marks k true false room)
    where
      other : Among x (take i nets) → ((eqb x k ≡ true) × (x ≡ k)) ⊎ ((eqb x k ≡ false) × (x ≢ k)) → bit_at (set marks k true) x ≡ true
      other earlier (inl e) = ap (bit_at (set marks k true)) e.1 ∙ get_or-set_same marks k true false room
      other earlier (inr e) = get_or-set_other marks k x true false e.1 ∙ so_far x earlier

  pub held_alone : (old : List Bool) (i k : ℕ) → slice_get nets i ≡ Some k → ((x : ℕ) → bit_at marks x ≡ true → bit_at old x ≡ false → Among x nets) → (x : ℕ) → bit_at (set marks k true) x ≡ true → bit_at old x ≡ false → Among x nets
  held_alone old i k here alone x is none = by (eqb_tells x k)
    where
      by : ((eqb x k ≡ true) × (x ≡ k)) ⊎ ((eqb x k ≡ false) × (x ≢ k)) → Among x nets
      by (inl e) = subst (λ (n : ℕ). Among n nets) (sym e.1) (get_among nets i k here)
      by (inr e) = alone x (sym (get_or-set_other marks k x true false e.1) ∙ is) none
