-- Reads that are sorted, each once.
use Rattle.std.proofs.Common.{◌≡◌, ◌<◌, ◌≤◌, ◌⊎◌, ℕ, zero, suc, eqb, Bool, true, false, ◌&&◌, List, [], ◌∷◌, length, get_or, inl, inr, refl, sym, ◌∙◌, ap, subst, arith, Ordering, Less, Equal, Greater}
use Rattle.std.specs.List.{AllByRecursion, Contains}
use Rattle.std.specs.Cmp.{IsTotalOrder, IsEquivalence, tied_then}
use Rattle.std.proofs.lemmas.Bool.Decides.{nat_tests}
use Rattle.std.proofs.lemmas.Cmp.{then_total, on_total, nat_cmp_total}
use Rattle.std.specs.List.Sorted.{IsStrictlySortedBy, IsNonDecreasingBy, IsPartitionPoint}
use Rattle.std.specs.Ordering.{nat_cmp, ordering_then, is_eq, eq_by_cmp, ordering_index}
use Rattle.std.proofs.lemmas.Bool.{cases_lt}
use Rattle.lid_base.specs.Lists.{Among}
use Rattle.lid_base.proofs.Lists.{all_among, among_at}
use Rattle.lid_net_channels.specs.declared.reads.Read.{Read}
use Rattle.lid_net_channels.specs.Reads.{IsReadBefore, AreAscending}

-- the order of reads, as it is derived
abbrev pub read_cmp : Read → Read → Ordering
read_cmp a b = ordering_then (nat_cmp a.from b.from) (ordering_then (nat_cmp a.to b.to) (nat_cmp a.port b.port))

-- what a comparison of numbers tells
less : (m n : ℕ) → nat_cmp m n ≡ Less → m < n
less m n h = grind (arith, h)

alike : (m n : ℕ) → nat_cmp m n ≡ Equal → m ≡ n
alike m n h = grind (arith, h)

pub before : (a b : Read) → read_cmp a b ≡ Less → IsReadBefore a b
before a b h = by_from (nat_cmp a.from b.from) refl h
  where
    by_port : (o : Ordering) → nat_cmp a.port b.port ≡ o → a.from ≡ b.from → a.to ≡ b.to → o ≡ Less → IsReadBefore a b
    by_port o e from to l = inr (from, inr (to, less a.port b.port (e ∙ l)))

    by_to : (o : Ordering) → nat_cmp a.to b.to ≡ o → a.from ≡ b.from → ordering_then o (nat_cmp a.port b.port) ≡ Less → IsReadBefore a b
    by_to Less e from l = inr (from, inl (less a.to b.to e))
    by_to Equal e from l = by_port (nat_cmp a.port b.port) refl from (alike a.to b.to e) l
    by_to Greater e from l = absurd (let f : Greater ≡ Less = l in cc)

    by_from : (o : Ordering) → nat_cmp a.from b.from ≡ o → ordering_then o (ordering_then (nat_cmp a.to b.to) (nat_cmp a.port b.port)) ≡ Less → IsReadBefore a b
    by_from Less e l = inl (less a.from b.from e)
    by_from Equal e l = by_to (nat_cmp a.to b.to) refl (alike a.from b.from e) l
    by_from Greater e l = absurd (let f : Greater ≡ Less = l in cc)

pub read_total : IsTotalOrder read_cmp
read_total = then_total (on_total (λ r. r.from) nat_cmp_total) (then_total (on_total (λ r. r.to) nat_cmp_total) (on_total (λ r. r.port) nat_cmp_total))

-- reads that are compared as equal are equal
pub same_read : (a b : Read) → read_cmp a b ≡ Equal → a ≡ b
same_read a b h = by_from (nat_cmp a.from b.from) refl h
  where
    by_to : (o : Ordering) → nat_cmp a.to b.to ≡ o → a.from ≡ b.from → ordering_then o (nat_cmp a.port b.port) ≡ Equal → a ≡ b
    by_to Less e from l = absurd (let f : Less ≡ Equal = l in cc)
    by_to Equal e from l = let to = alike a.to b.to e in let port = alike a.port b.port l in
        ap (λ (n : ℕ). record { from = n; to = a.to; port = a.port }) from ∙ ap (λ (n : ℕ). record { from = b.from; to = n; port = a.port }) to ∙ ap (λ (n : ℕ). record { from = b.from; to = b.to; port = n }) port
    by_to Greater e from l = absurd (let f : Greater ≡ Equal = l in cc)

    by_from : (o : Ordering) → nat_cmp a.from b.from ≡ o → ordering_then o (ordering_then (nat_cmp a.to b.to) (nat_cmp a.port b.port)) ≡ Equal → a ≡ b
    by_from Less e l = absurd (let f : Less ≡ Equal = l in cc)
    by_from Equal e l = by_to (nat_cmp a.to b.to) refl (alike a.from b.from e) l
    by_from Greater e l = absurd (let f : Greater ≡ Equal = l in cc)

-- strictly sorted reads ascend
pub ascend : (rs : List Read) → IsStrictlySortedBy read_cmp rs → AreAscending rs
unfolding IsStrictlySortedBy
ascend [] h = tt
ascend (r ∷ rs) h = (all rs h.0, ascend rs h.1)
  where
    all : (xs : List Read) → AllByRecursion (λ y. read_cmp r y ≡ Less) xs → AllByRecursion (IsReadBefore r) xs
    all [] a = tt
    all (x ∷ xs) a = (before r x a.0, all xs a.1)

-- what a list contains is among it
pub to_contains : (r : Read) (rs : List Read) → Among r rs → Contains rs r
to_contains r [] h = absurd h
to_contains r (x ∷ rs) (inl e) = (zero, omega arith, sym e)
to_contains r (x ∷ rs) (inr h) = let c = to_contains r rs h in (suc c.0, omega arith, c.2)

pub from_contains : (r : Read) (rs : List Read) → Contains rs r → Among r rs
from_contains r rs c = subst (λ (x : Read). Among x rs) c.2 (among_at rs c.0 r c.1)

-- equality of reads, as it is derived
abbrev pub read_eq : Read → Read → Bool
read_eq a b = eqb a.from b.from && (eqb a.to b.to && eqb a.port b.port)

tie : (m n : ℕ) → eqb m n ≡ is_eq (nat_cmp m n)
tie m n = grind (arith, nat_tests)

pub read_ties : (a b : Read) → read_eq a b ≡ eq_by_cmp read_cmp a b
read_ties a b =
    ap (λ (x : Bool). x && (eqb a.to b.to && eqb a.port b.port)) (tie a.from b.from)
    ∙ ap (λ (x : Bool). is_eq (nat_cmp a.from b.from) && (x && eqb a.port b.port)) (tie a.to b.to)
    ∙ ap (λ (x : Bool). is_eq (nat_cmp a.from b.from) && (is_eq (nat_cmp a.to b.to) && x)) (tie a.port b.port)
    ∙ ap (λ (x : Bool). is_eq (nat_cmp a.from b.from) && x) (tied_then (nat_cmp a.to b.to) (nat_cmp a.port b.port))
    ∙ tied_then (nat_cmp a.from b.from) (ordering_then (nat_cmp a.to b.to) (nat_cmp a.port b.port))

is_equal : (o : Ordering) → is_eq o ≡ true → o ≡ Equal
is_equal Less e = absurd (let f : false ≡ true = e in cc)
is_equal Equal e = refl
is_equal Greater e = absurd (let f : false ≡ true = e in cc)

pub eq_same : (a b : Read) → read_eq a b ≡ true → a ≡ b
eq_same a b e = same_read a b (is_equal (read_cmp a b) (sym (read_ties a b) ∙ e))

itself : (n : ℕ) → eqb n n ≡ true
itself n = grind (arith, nat_tests)

turned : (m n : ℕ) → eqb m n ≡ eqb n m
turned m n = grind (arith, nat_tests)

pub read_equiv : IsEquivalence read_eq
read_equiv = record {
  refl = λ r. ap (λ (x : Bool). x && (eqb r.to r.to && eqb r.port r.port)) (itself r.from) ∙ ap (λ (x : Bool). x && eqb r.port r.port) (itself r.to) ∙ itself r.port;
  symm = λ a b. ap (λ (x : Bool). x && (eqb a.to b.to && eqb a.port b.port)) (turned a.from b.from) ∙ ap (λ (x : Bool). eqb b.from a.from && (x && eqb a.port b.port)) (turned a.to b.to) ∙ ap (λ (x : Bool). eqb b.from a.from && (eqb b.to a.to && x)) (turned a.port b.port);
  congr = λ a b d e. ap (λ (r : Read). read_eq r d) (eq_same a b e);
}

below : (m n : ℕ) → m < n → nat_cmp m n ≡ Less
below m n h = grind (arith, nat_tests, h)

level : (m n : ℕ) → m ≡ n → nat_cmp m n ≡ Equal
level m n h = grind (arith, nat_tests, h)

-- what comes before is less
lesser : (a b : Read) → IsReadBefore a b → read_cmp a b ≡ Less
lesser a b (inl h) = ap (λ (o : Ordering). ordering_then o (ordering_then (nat_cmp a.to b.to) (nat_cmp a.port b.port))) (below a.from b.from h)
lesser a b (inr (from, inl h)) =
    ap (λ (o : Ordering). ordering_then o (ordering_then (nat_cmp a.to b.to) (nat_cmp a.port b.port))) (level a.from b.from from)
    ∙ ap (λ (o : Ordering). ordering_then o (nat_cmp a.port b.port)) (below a.to b.to h)
lesser a b (inr (from, inr (to, h))) =
    ap (λ (o : Ordering). ordering_then o (ordering_then (nat_cmp a.to b.to) (nat_cmp a.port b.port))) (level a.from b.from from)
    ∙ ap (λ (o : Ordering). ordering_then o (nat_cmp a.port b.port)) (level a.to b.to to)
    ∙ below a.port b.port h

-- reads that ascend rise against any other
mono : (a b x : Read) → read_cmp a b ≡ Less → ordering_index (read_cmp a x) ≤ ordering_index (read_cmp b x)
mono a b x h = by (read_cmp b x) refl
  where
    least : (o p : Ordering) → o ≡ Less → ordering_index o ≤ ordering_index p
    least o p e = subst (λ (q : Ordering). ordering_index q ≤ ordering_index p) (sym e) (omega arith)

    most : (o : Ordering) → ordering_index o ≤ 2
    most Less = omega arith
    most Equal = omega arith
    most Greater = omega arith

    by : (o : Ordering) → read_cmp b x ≡ o → ordering_index (read_cmp a x) ≤ ordering_index o
    by Less e = least (read_cmp a x) Less (read_total.trans a b x h e)
    by Equal e = least (read_cmp a x) Equal (subst (λ (y : Read). read_cmp a y ≡ Less) (same_read b x e) h)
    by Greater e = most (read_cmp a x)

later : (rs : List Read) (i j : ℕ) (d : Read) → AreAscending rs → i < j → j < length rs → read_cmp (get_or rs i d) (get_or rs j d) ≡ Less
later [] i j d h less in_range = absurd (omega arith)
later (r ∷ rs) zero zero d h less in_range = absurd (omega arith)
later (r ∷ rs) zero (suc j) d h less in_range = lesser r (get_or rs j d) (all_among (IsReadBefore r) rs (get_or rs j d) h.0 (among_at rs j d (omega arith)))
later (r ∷ rs) (suc i) zero d h less in_range = absurd (omega arith)
later (r ∷ rs) (suc i) (suc j) d h less in_range = later rs i j d h.1 (omega arith) (omega arith)

pub rising : (rs : List Read) (x : Read) → AreAscending rs → IsNonDecreasingBy (λ y. ordering_index (read_cmp y x)) rs
rising rs x h i j d less in_range = by (cases_lt i j)
  where
    by : (i < j) ⊎ (j ≤ i) → ordering_index (read_cmp (get_or rs i d) x) ≤ ordering_index (read_cmp (get_or rs j d) x)
    by (inl before) = mono (get_or rs i d) (get_or rs j d) x (later rs i j d h before in_range)
    by (inr after) = let e : i ≡ j = omega arith in subst (λ (k : ℕ). ordering_index (read_cmp (get_or rs i d) x) ≤ ordering_index (read_cmp (get_or rs k d) x)) e (omega arith)

-- a search does not miss what is there
pub found : (rs : List Read) (x : Read) (i : ℕ) → AreAscending rs → Among x rs → (IsNonDecreasingBy (λ y. ordering_index (read_cmp y x)) rs → IsPartitionPoint (λ y. read_cmp y x ≡ Less) (λ y. read_cmp y x ≡ Greater) rs i) → ⊥
found rs x i h among search_says =
    let at = to_contains x rs among in
    let parts = search_says (rising rs x h) in
    by at.0 at.1 at.2 parts (cases_lt at.0 i)
  where
    itself_equal : read_cmp x x ≡ Equal
    itself_equal = is_equal (read_cmp x x) (sym (read_ties x x) ∙ read_equiv.refl x)

    by : (k : ℕ) → k < length rs → get_or rs k x ≡ x → IsPartitionPoint (λ y. read_cmp y x ≡ Less) (λ y. read_cmp y x ≡ Greater) rs i → (k < i) ⊎ (i ≤ k) → ⊥
    by k less is parts (inl before) = absurd (let e : read_cmp x x ≡ Less = subst (λ (y : Read). read_cmp y x ≡ Less) is (parts.0 k x (omega arith) before) in let f : Equal ≡ Less = sym itself_equal ∙ e in cc)
    by k less is parts (inr after) = absurd (let e : read_cmp x x ≡ Greater = subst (λ (y : Read). read_cmp y x ≡ Greater) is (parts.1 k x after less) in let f : Equal ≡ Greater = sym itself_equal ∙ e in cc)
