-- Bits that are right at some nets stay so, and one more net gets a right bit.
use Rattle.std.proofs.Common.{◌≡◌, ◌≢◌, ◌⊎◌, ℕ, zero, suc, ◌+◌, ◌<◌, eqb, Bool, true, false, List, [], ◌∷◌, ◌++◌, length, map, take, set, get_or, Some, None, slice_get, inl, inr, refl, sym, ◌∙◌, ap, subst, arith}
use Rattle.std.specs.List.{AllByRecursion}
use Rattle.std.proofs.lemmas.List.{take_more, get_or-set_same, get_or-set_other}
use Rattle.std.proofs.lemmas.Bool.Decides.{eqb_tells}
use Rattle.std.proofs.lemmas.Option.{slice_get_within, get_or_from_slice_get}
use Rattle.lid_base.specs.Lists.{Among}
use Rattle.lid_base.proofs.Lists.{all_at, among_append, among_right, among_left}
use Rattle.lid_cover.specs.Cover.{cover_value}
use Rattle.lid_design.specs.declared.FlatCover.{FlatCover}
use Rattle.lid_design.specs.declared.FlatLatch.{FlatLatch}
use Rattle.lid_design.specs.Flat.{IsRow, ReadEarlier}
use Rattle.lid_strict_engine.specs.Rows.{bit_at, AreRightAt, known_after}

-- a right bit, written anywhere
pub bit_set : (f : ℕ → Bool) (known : List ℕ) (bits : List Bool) (k : ℕ) (v : Bool) → k < length bits → v ≡ f k → AreRightAt f known bits → AreRightAt f (k ∷ known) (set bits k v)
bit_set f known bits k v room right agrees = at
  where
    here : bit_at (set bits k v) k ≡ f k
    here = get_or-set_same bits k v false room ∙ right

    there : (x : ℕ) → Among x known → ((eqb x k ≡ true) × (x ≡ k)) ⊎ ((eqb x k ≡ false) × (x ≢ k)) → bit_at (set bits k v) x ≡ f x
    there x among (inl e) = subst (λ (n : ℕ). bit_at (set bits k v) n ≡ f n) (sym e.1) here
    there x among (inr e) = get_or-set_other bits k x v false e.1 ∙ agrees x among

    at : AreRightAt f (k ∷ known) (set bits k v)
    at x (inl same) = subst (λ (n : ℕ). bit_at (set bits k v) n ≡ f n) (sym same) here
    at x (inr among) = there x among (eqb_tells x k)

pub agrees_all : (f : ℕ → Bool) (known : List ℕ) (bits : List Bool) (nets : List ℕ) → AreRightAt f known bits → AllByRecursion (λ k. Among k known) nets → map (bit_at bits) nets ≡ map f nets
agrees_all f known bits [] agrees all = refl
agrees_all f known bits (k ∷ nets) agrees all =
    let head : bit_at bits k ≡ f k = agrees k all.0 in
    let tail : map (bit_at bits) nets ≡ map f nets = agrees_all f known bits nets agrees all.1 in
    cc

-- one more item
pub take_at : {A : Type 0} (xs : List A) (i : ℕ) (x : A) → slice_get xs i ≡ Some x → take (i + 1) xs ≡ take i xs ++ x ∷ []
take_at {A} xs i x here = take_more xs i x (slice_get_within xs i x here) ∙ ap (λ (y : A). take i xs ++ y ∷ []) (get_or_from_slice_get xs i x x here)

pub after_push : (known : List ℕ) (covers : List FlatCover) (c : FlatCover) → known_after known (covers ++ c ∷ []) ≡ c.out ∷ known_after known covers
after_push known [] c = refl
after_push known (d ∷ covers) c = after_push (d.out ∷ known) covers c

-- what is known stays known
pub after_keeps : (known : List ℕ) (cs : List FlatCover) (k : ℕ) → Among k known → Among k (known_after known cs)
after_keeps known [] k among = among
after_keeps known (c ∷ cs) k among = after_keeps (c.out ∷ known) cs k (inr among)

pub after_has : (known : List ℕ) (cs : List FlatCover) (c : FlatCover) → Among c cs → Among c.out (known_after known cs)
after_has known [] c among = absurd among
after_has known (d ∷ cs) c (inl same) = after_keeps (d.out ∷ known) cs c.out (inl (ap (λ (c : FlatCover). c.out) same))
after_has known (d ∷ cs) c (inr among) = after_has (d.out ∷ known) cs c among

-- a cover reads what is known once those before it are run
pub earlier_at : (known : List ℕ) (covers : List FlatCover) (i : ℕ) (c : FlatCover) → ReadEarlier known covers → slice_get covers i ≡ Some c → AllByRecursion (λ k. Among k (known_after known (take i covers))) c.ins
earlier_at known [] i c earlier here = absurd (let e : None ≡ Some c = here in cc)
earlier_at known (d ∷ covers) zero c earlier here =
    let same : d ≡ c = (let e : Some d ≡ Some c = here in cc) in
    subst (λ (c : FlatCover). AllByRecursion (λ k. Among k known) c.ins) same earlier.0
earlier_at known (d ∷ covers) (suc i) c earlier here = earlier_at (d.out ∷ known) covers i c earlier.1 here

-- one more cover is run
pub settled_next : (covers : List FlatCover) (i : ℕ) (c : FlatCover) (bits : List Bool) (v : Bool) → slice_get covers i ≡ Some c → c.out < length bits → v ≡ cover_value c.cover (map (bit_at bits) c.ins) → (f : ℕ → Bool) (known : List ℕ) → IsRow covers f → ReadEarlier known covers → AreRightAt f (known_after known (take i covers)) bits → AreRightAt f (known_after known (take (i + 1) covers)) (set bits c.out v)
settled_next covers i c bits v here room value f known row earlier agrees =
    let reads : map (bit_at bits) c.ins ≡ map f c.ins = agrees_all f (known_after known (take i covers)) bits c.ins agrees (earlier_at known covers i c earlier here) in
    let right : v ≡ f c.out = value ∙ ap (cover_value c.cover) reads ∙ sym (all_at (λ (c : FlatCover). f c.out ≡ cover_value c.cover (map f c.ins)) covers i c row here) in
    subst (λ (nets : List ℕ). AreRightAt f nets (set bits c.out v)) (sym (ap (known_after known) (take_at covers i c here) ∙ after_push known (take i covers) c))
    (bit_set f (known_after known (take i covers)) bits c.out v room right agrees)

-- one more net is given its bit
pub put_next : (nets : List ℕ) (values bits : List Bool) (i k : ℕ) (v : Bool) → slice_get nets i ≡ Some k → slice_get values i ≡ Some v → k < length bits → (f : ℕ → Bool) (known : List ℕ) → map f nets ≡ values → AreRightAt f (take i nets ++ known) bits → AreRightAt f (take (i + 1) nets ++ known) (set bits k v)
put_next nets values bits i k v here there room f known given agrees x among = by (subst (λ (ns : List ℕ). Among x (ns ++ known)) (take_at nets i k here) among)
  where
    value_at : (nets : List ℕ) (i : ℕ) → slice_get nets i ≡ Some k → slice_get (map f nets) i ≡ Some (f k)
    value_at [] i here = absurd (let e : None ≡ Some k = here in cc)
    value_at (n ∷ nets) zero here = (let e : Some n ≡ Some k = here in let e' : n ≡ k = cc in ap (λ (n : ℕ). Some (f n)) e')
    value_at (n ∷ nets) (suc i) here = value_at nets i here

    right : v ≡ f k
    right = (let e : Some v ≡ Some (f k) = sym there ∙ ap (λ (vs : List Bool). slice_get vs i) (sym given) ∙ value_at nets i here in cc)

    now : AreRightAt f (k ∷ (take i nets ++ known)) (set bits k v)
    now = bit_set f (take i nets ++ known) bits k v room right agrees

    of_both : Among x (take i nets) ⊎ Among x (k ∷ []) → bit_at (set bits k v) x ≡ f x
    of_both (inl early) = now x (inr (among_left x (take i nets) known early))
    of_both (inr (inl same)) = now x (inl same)
    of_both (inr (inr none)) = absurd none

    by : Among x ((take i nets ++ k ∷ []) ++ known) → bit_at (set bits k v) x ≡ f x
    by among = elim (among_append x (take i nets ++ k ∷ []) known among) [
      | inl some ↦ of_both (among_append x (take i nets) (k ∷ []) some)
      | inr later ↦ now x (inr (among_right x (take i nets) known later))
    ]

-- latches by their places
abbrev pub no_latch : FlatLatch
no_latch = record { input = 0; out = 0; init = false }

pub latch_at : (net : FlatLatch → ℕ) (latches : List FlatLatch) (i : ℕ) → i < length latches → slice_get (map net latches) i ≡ Some (net (get_or latches i no_latch))
latch_at net [] i h = absurd (omega arith)
latch_at net (latch ∷ latches) zero h = refl
latch_at net (latch ∷ latches) (suc i) h = latch_at net latches i (omega arith)
