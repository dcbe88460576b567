-- What stands in a list that was filled place by place.
use Rattle.std.proofs.Common.{◌≡◌, ℕ, zero, suc, ◌<◌, inl, inr, Bool, true, false, cond, List, [], ◌∷◌, length, get_or, map, Some, None, slice_get, slice_index_or, slice_set, refl, sym, ◌∙◌, ap, subst}
use Rattle.std.specs.List.{AllByRecursion}
use Rattle.std.proofs.Math.ListN.{set}
use Rattle.std.proofs.lemmas.List.{length-set, get_or-set_same, get_or-set_other}
use Rattle.lid_base.specs.Lists.{Among, AreOnce}
use Rattle.lid_base.proofs.Lists.{among_map}
use Rattle.lid_design.specs.declared.FlatCover.{FlatCover}
use Rattle.lid_design.specs.Flat.{ReadEarlier}
use Rattle.lid_check_rules.specs.Buffers.{passes_on}
use Rattle.lid_emit_cells.specs.declared.wire.Wire.{Wire}
use Rattle.lid_emit_cells.specs.declared.wire.Wire.TheVariants.{Offer}
use Rattle.lid_emit_shells.specs.Filling.{AreNetsWithin, IsCoverWithin, overwritten, passed_by, passed, cover_out}

pub length_written : {A : Type 0} (ks : List ℕ) (xs list : List A) → length (overwritten ks xs list) ≡ length list
length_written [] xs list = refl
length_written (k ∷ ks) [] list = refl
length_written (k ∷ ks) (x ∷ xs) list = length_written ks xs (slice_set list k x) ∙ length-set list k x

-- nothing else is written
pub written_other : {A : Type 0} (ks : List ℕ) (xs list : List A) (k : ℕ) (d : A) → (Among k ks → ⊥) → get_or (overwritten ks xs list) k d ≡ get_or list k d
written_other [] xs list k d apart = refl
written_other (j ∷ ks) [] list k d apart = refl
written_other (j ∷ ks) (x ∷ xs) list k d apart =
    written_other ks xs (slice_set list j x) k d (λ i. apart (inr i)) ∙ get_or-set_other list j k x d (λ same. apart (inl same))

-- each value stands at its place
pub written_at : {A : Type 0} (ks : List ℕ) (xs list : List A) (j k : ℕ) (x d : A) → AreOnce ks → AreNetsWithin (length list) ks → slice_get ks j ≡ Some k → slice_get xs j ≡ Some x → get_or (overwritten ks xs list) k d ≡ x
written_at [] xs list j k x d once within here there = absurd (let e : None ≡ Some k = here in cc)
written_at (i ∷ ks) [] list j k x d once within here there = absurd (let e : None ≡ Some x = there in cc)
written_at (i ∷ ks) (y ∷ xs) list zero k x d once within here there =
    let same : i ≡ k = (let e : Some i ≡ Some k = here in cc) in
    let is : y ≡ x = (let e : Some y ≡ Some x = there in cc) in
    subst (λ (n : ℕ). get_or (overwritten ks xs (slice_set list i y)) n d ≡ x) same (written_other ks xs (slice_set list i y) i d once.0 ∙ get_or-set_same list i y d within.0 ∙ is)
written_at (i ∷ ks) (y ∷ xs) list (suc j) k x d once within here there =
    written_at ks xs (slice_set list i y) j k x d once.1 (subst (λ (n : ℕ). AreNetsWithin n ks) (sym (length-set list i y)) within.1) here there

pub length_passed_by : (c : FlatCover) (ws : List Wire) → length (passed_by c ws) ≡ length ws
length_passed_by c ws = by (passes_on c.cover)
  where
    by : (b : Bool) → length (cond b (slice_set ws c.out (slice_index_or ws (slice_index_or c.ins 0 0) Offer)) ws) ≡ length ws
    by true = length-set ws c.out (slice_index_or ws (slice_index_or c.ins 0 0) Offer)
    by false = refl

pub length_passed : (cs : List FlatCover) (ws : List Wire) → length (passed cs ws) ≡ length ws
length_passed [] ws = refl
length_passed (c ∷ cs) ws = length_passed cs (passed_by c ws) ∙ length_passed_by c ws

-- a cover changes its own net alone
passed_by_other : (c : FlatCover) (ws : List Wire) (k : ℕ) → (k ≡ c.out → ⊥) → get_or (passed_by c ws) k Offer ≡ get_or ws k Offer
passed_by_other c ws k apart = by (passes_on c.cover)
  where
    by : (b : Bool) → get_or (cond b (slice_set ws c.out (slice_index_or ws (slice_index_or c.ins 0 0) Offer)) ws) k Offer ≡ get_or ws k Offer
    by true = get_or-set_other ws c.out k (slice_index_or ws (slice_index_or c.ins 0 0) Offer) Offer apart
    by false = refl

pub passed_other : (cs : List FlatCover) (ws : List Wire) (k : ℕ) → (Among k (map cover_out cs) → ⊥) → get_or (passed cs ws) k Offer ≡ get_or ws k Offer
passed_other [] ws k apart = refl
passed_other (c ∷ cs) ws k apart = passed_other cs (passed_by c ws) k (λ i. apart (inr i)) ∙ passed_by_other c ws k (λ same. apart (inl same))

-- and that only where it passes its input on
pub passed_stays : (cs : List FlatCover) (ws : List Wire) → AreOnce (map cover_out cs) → (c : FlatCover) → Among c cs → passes_on c.cover ≡ false → get_or (passed cs ws) c.out Offer ≡ get_or ws c.out Offer
passed_stays [] ws once c none makes = absurd none
passed_stays (e ∷ cs) ws once c (inl same) makes =
    subst (λ (n : ℕ). get_or (passed cs (passed_by e ws)) n Offer ≡ get_or ws n Offer) (ap cover_out (sym same))
    (passed_other cs (passed_by e ws) e.out once.0 ∙ ap (λ (b : Bool). get_or (cond b (slice_set ws e.out (slice_index_or ws (slice_index_or e.ins 0 0) Offer)) ws) e.out Offer) (ap (λ (x : FlatCover). passes_on x.cover) (sym same) ∙ makes))
passed_stays (e ∷ cs) ws once c (inr later) makes =
    passed_stays cs (passed_by e ws) once.1 c later makes
    ∙ passed_by_other e ws c.out (λ same. once.0 (subst (λ (n : ℕ). Among n (map cover_out cs)) same (among_map {A = FlatCover} {B = ℕ} cover_out c cs later)))

-- what the first of some covers passes on stays
first_passes : (known : List ℕ) (c : FlatCover) (cs : List FlatCover) (ws : List Wire) → ReadEarlier known (c ∷ cs) → ((k : ℕ) → Among k known → Among k (map cover_out (c ∷ cs)) → ⊥) → AreOnce (map cover_out (c ∷ cs)) → c.out < length ws → passes_on c.cover ≡ true → (a : ℕ) → c.ins ≡ a ∷ [] → get_or (passed (c ∷ cs) ws) c.out Offer ≡ get_or (passed (c ∷ cs) ws) a Offer
first_passes known c cs ws earlier apart once within passes a ins =
    let reads : AllByRecursion (λ k. Among k known) (a ∷ []) = subst (AllByRecursion (λ (k : ℕ). Among k known)) ins earlier.0 in
    passed_other cs (passed_by c ws) c.out once.0
    ∙ ap (λ (b : Bool). get_or (cond b (slice_set ws c.out (slice_index_or ws (slice_index_or c.ins 0 0) Offer)) ws) c.out Offer) passes
    ∙ get_or-set_same ws c.out (slice_index_or ws (slice_index_or c.ins 0 0) Offer) Offer within
    ∙ ap (λ (ks : List ℕ). get_or ws (slice_index_or ks 0 0) Offer) ins
    ∙ sym (passed_other (c ∷ cs) ws a (apart a reads.0))

-- a cover that passes its input on has the wire of the net that it reads
pub passed_passes : (known : List ℕ) (cs : List FlatCover) (ws : List Wire) → ReadEarlier known cs → ((k : ℕ) → Among k known → Among k (map cover_out cs) → ⊥) → AreOnce (map cover_out cs) → AllByRecursion (IsCoverWithin (length ws)) cs → (c : FlatCover) → Among c cs → passes_on c.cover ≡ true → (a : ℕ) → c.ins ≡ a ∷ [] → get_or (passed cs ws) c.out Offer ≡ get_or (passed cs ws) a Offer
passed_passes known [] ws earlier apart once within c none passes a ins = absurd none
passed_passes known (e ∷ cs) ws earlier apart once within c (inl same) passes a ins =
    subst (λ (n : ℕ). get_or (passed (e ∷ cs) ws) n Offer ≡ get_or (passed (e ∷ cs) ws) a Offer) (ap cover_out (sym same))
    (first_passes known e cs ws earlier apart once within.0.1 (ap (λ (x : FlatCover). passes_on x.cover) (sym same) ∙ passes) a (ap (λ (x : FlatCover). x.ins) (sym same) ∙ ins))
passed_passes known (e ∷ cs) ws earlier apart once within c (inr later) passes a ins =
    passed_passes (e.out ∷ known) cs (passed_by e ws) earlier.1 after once.1 (subst (λ (n : ℕ). AllByRecursion (IsCoverWithin n) cs) (sym (length_passed_by e ws)) within.1) c later passes a ins
  where
    after : (k : ℕ) → Among k (e.out ∷ known) → Among k (map cover_out cs) → ⊥
    after k (inl same) out = once.0 (subst (λ (n : ℕ). Among n (map cover_out cs)) same out)
    after k (inr there) out = apart k there (inr out)
