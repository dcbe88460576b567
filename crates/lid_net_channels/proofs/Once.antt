-- Reads in order are known by which they are, and channels by what they carry.
use Rattle.std.proofs.Common.{◌≡◌, ◌⊎◌, ◌↔◌, ◌<◌, ◌≤◌, ◌+◌, ℕ, zero, suc, eqb, Bool, true, false, ◌&&◌, cond, List, [], ◌∷◌, ◌++◌, length, map, reverse, append_assoc, append-nil, Some, None, inl, inr, refl, sym, ◌∙◌, ap, subst, arith}
use Rattle.std.specs.Prelude.{nat_lt}
use Rattle.std.specs.List.{flat_map, AllByRecursion}
use Rattle.std.proofs.lemmas.Bool.{eq-eqb}
use Rattle.std.proofs.lemmas.List.{reverse-append, length-reverse, reverse-reverse}
use Rattle.lid_base.specs.Lists.{Among}
use Rattle.lid_base.proofs.Lists.{all_among}
use Rattle.lid_system.specs.declared.Channel.{Channel}
use Rattle.lid_net_channels.specs.declared.reads.Read.{Read}
use Rattle.lid_net_channels.specs.Reads.{IsReadBefore, AreAscending}
use Rattle.lid_net_channels.specs.Pieces.{read_at, reads_in, is_beside, IsPieceAfter, IsNextPiece, AreCut}
use Rattle.lid_net_channels.specs.Cutting.{with_port, is_between, placed_read, grown, cut_back}

-- no two reads stand before each other
not_both : (a b : Read) → IsReadBefore a b → IsReadBefore b a → ⊥
not_both a b (inl l) (inl m) = omega arith
not_both a b (inl l) (inr m) = let e = m.0 in omega arith
not_both a b (inr l) (inl m) = let e = l.0 in omega arith
not_both a b (inr l) (inr m) = by l.1 m.1
  where
    by : (a.to < b.to) ⊎ ((a.to ≡ b.to) × (a.port < b.port)) → (b.to < a.to) ⊎ ((b.to ≡ a.to) × (b.port < a.port)) → ⊥
    by (inl s) (inl t) = omega arith
    by (inl s) (inr t) = let e = t.0 in omega arith
    by (inr s) (inl t) = let e = s.0 in omega arith
    by (inr s) (inr t) = let p = s.1 in let q = t.1 in omega arith

abbrev AreAlike : List Read → List Read → Type 0
AreAlike xs ys = (r : Read) → Among r xs ↔ Among r ys

-- lists in order with the same reads are one list
pub same_reads : (xs ys : List Read) → AreAscending xs → AreAscending ys → AreAlike xs ys → xs ≡ ys
same_reads [] [] a b alike = refl
same_reads [] (y ∷ ys) a b alike = absurd ((alike y).1 (inl refl))
same_reads (x ∷ xs) [] a b alike = absurd ((alike x).0 (inl refl))
same_reads (x ∷ xs) (y ∷ ys) a b alike = joined (first ((alike x).0 (inl refl)) ((alike y).1 (inl refl))) (λ is. same_reads xs ys a.1 b.1 (alike_after is))
  where
    first : Among x (y ∷ ys) → Among y (x ∷ xs) → x ≡ y
    first (inl e) there = e
    first (inr l) (inl e) = sym e
    first (inr l) (inr m) = absurd (not_both x y (all_among (IsReadBefore x) xs y a.0 m) (all_among (IsReadBefore y) ys x b.0 l))

    alike_after : x ≡ y → AreAlike xs ys
    alike_after is r = (λ here. forth here ((alike r).0 (inr here)), λ there. back there ((alike r).1 (inr there)))
      where
        forth : Among r xs → Among r (y ∷ ys) → Among r ys
        forth here (inl e) = let before : IsReadBefore x x = subst (IsReadBefore x) (e ∙ sym is) (all_among (IsReadBefore x) xs r a.0 here) in absurd (not_both x x before before)
        forth here (inr l) = l

        back : Among r ys → Among r (x ∷ xs) → Among r xs
        back there (inl e) = let before : IsReadBefore y y = subst (IsReadBefore y) (e ∙ is) (all_among (IsReadBefore y) ys r b.0 there) in absurd (not_both y y before before)
        back there (inr l) = l

    joined : x ≡ y → (x ≡ y → xs ≡ ys) → x ∷ xs ≡ y ∷ ys
    joined is rest = ap (λ (r : Read). r ∷ xs) is ∙ ap (λ (rs : List Read). y ∷ rs) (rest is)

-- a channel by its ports, the last first
abbrev chan : ℕ → ℕ → ℕ → List ℕ → Channel
chan from to piece ports = record { from = from; to = to; piece = piece; ports = reverse ports }

abbrev read : ℕ → ℕ → ℕ → Read
read from to port = record { from = from; to = to; port = port }

both : (f t : ℕ) → eqb f f && eqb t t ≡ true
both f t = ap (λ (b : Bool). b && eqb t t) (eq-eqb f f refl) ∙ eq-eqb t t refl

-- the first port of a piece begins it
begins : (f t k q : ℕ) (before : List Channel) → IsNextPiece (chan f t k (q ∷ [])) before → chan f t k (q ∷ []) ∷ before ≡ grown (read f t q) before
begins f t k q [] next = ap (λ (n : ℕ). chan f t n (q ∷ []) ∷ []) next
begins f t k q (c ∷ bs) next = by (is_between c (read f t q)) next
  where
    by : (v : Bool) → IsPieceAfter v c (chan f t k (q ∷ [])) → chan f t k (q ∷ []) ∷ c ∷ bs ≡ placed_read (read f t q) (c ∷ bs) (cond v (cond (nat_lt (length c.ports) 31) None (Some (c.piece + 1))) (Some 0))
    by true p =
        ap (λ (n : ℕ). chan f t n (q ∷ []) ∷ c ∷ bs) p.1
        ∙ ap (λ (n : ℕ). placed_read (read f t q) (c ∷ bs) (cond (nat_lt n 31) None (Some (c.piece + 1)))) (sym p.0)
    by false p = ap (λ (n : ℕ). chan f t n (q ∷ []) ∷ c ∷ bs) p

-- and each further one extends it
extends : (f t k q : ℕ) (qs : List ℕ) (before : List Channel) → length qs < 31 → chan f t k (q ∷ qs) ∷ before ≡ grown (read f t q) (chan f t k qs ∷ before)
extends f t k q qs before few =
    let longer : reverse (q ∷ qs) ≡ reverse qs ++ q ∷ [] = reverse-append (q ∷ []) qs in
    let room : nat_lt (length (reverse qs)) 31 ≡ true = (let l = length-reverse qs in grind (arith, l, few)) in
    ap (λ (ports : List ℕ). record { from = f; to = t; piece = k; ports = ports } ∷ before) longer
    ∙ ap (λ (b : Bool). placed_read (read f t q) (chan f t k qs ∷ before) (cond true (cond b None (Some (k + 1))) (Some 0))) (sym room)
    ∙ ap (λ (b : Bool). placed_read (read f t q) (chan f t k qs ∷ before) (cond b (cond (nat_lt (length (reverse qs)) 31) None (Some (k + 1))) (Some 0))) (sym (both f t))

grows : (f t k q : ℕ) (qs : List ℕ) (before : List Channel) (rs : List Read) → before ≡ cut_back rs → suc (length qs) ≤ 31 → IsNextPiece (chan f t k (q ∷ qs)) before → chan f t k (q ∷ qs) ∷ before ≡ cut_back (map (read f t) (q ∷ qs) ++ rs)
grows f t k q [] before rs is few next = begins f t k q before next ∙ ap (grown (read f t q)) is
grows f t k q (p ∷ qs) before rs is few next =
    extends f t k q (p ∷ qs) before (omega arith) ∙ ap (grown (read f t q)) (grows f t k p qs before rs is (omega arith) (passed before next))
  where
    passed : (bs : List Channel) → IsNextPiece (chan f t k (q ∷ p ∷ qs)) bs → IsNextPiece (chan f t k (p ∷ qs)) bs
    passed [] e = e
    passed (b ∷ bs) e = by (is_beside b (chan f t k (p ∷ qs))) e
      where
        by : (v : Bool) → IsPieceAfter v b (chan f t k (q ∷ p ∷ qs)) → IsPieceAfter v b (chan f t k (p ∷ qs))
        by true h = h
        by false h = h

-- what channels carry, the last first of both
abbrev carried_back : List Channel → List Read
carried_back [] = []
carried_back (c ∷ before) = map (read_at c) (reverse c.ports) ++ carried_back before

cut_once : (cs : List Channel) → AreCut cs → cs ≡ cut_back (carried_back cs)
cut_once [] cut = refl
cut_once (c ∷ before) cut = by (reverse c.ports) refl (cut_once before cut.3)
  where
    turned : (qs : List ℕ) → reverse c.ports ≡ qs → c ≡ chan c.from c.to c.piece qs
    turned qs is = ap (λ (ports : List ℕ). record { from = c.from; to = c.to; piece = c.piece; ports = ports }) (sym (reverse-reverse c.ports) ∙ ap reverse is)

    by : (qs : List ℕ) → reverse c.ports ≡ qs → before ≡ cut_back (carried_back before) → c ∷ before ≡ cut_back (map (read_at c) qs ++ carried_back before)
    by [] is rest = let none : length c.ports ≡ 0 = sym (length-reverse c.ports) ∙ ap length is in let some = cut.0 in absurd (omega arith)
    by (q ∷ qs) is rest =
        let same = turned (q ∷ qs) is in
        let long : length c.ports ≡ suc (length qs) = sym (length-reverse c.ports) ∙ ap length is in
        let few : suc (length qs) ≤ 31 = (let narrow = cut.1 in omega arith) in
        ap (λ (d : Channel). d ∷ before) same
        ∙ grows c.from c.to c.piece q qs before (carried_back before) rest few (subst (λ (d : Channel). IsNextPiece d before) same cut.2)

carried_append : (xs ys : List Channel) → carried_back (xs ++ ys) ≡ carried_back xs ++ carried_back ys
carried_append [] ys = refl
carried_append (x ∷ xs) ys = ap (λ (rs : List Read). map (read_at x) (reverse x.ports) ++ rs) (carried_append xs ys) ∙ sym (append_assoc (map (read_at x) (reverse x.ports)) (carried_back xs) (carried_back ys))

map_turned : (f : ℕ → Read) (xs : List ℕ) → reverse (map f xs) ≡ map f (reverse xs)
map_turned f [] = refl
map_turned f (x ∷ xs) =
    reverse-append (f x ∷ []) (map f xs) ∙ ap (λ (rs : List Read). rs ++ f x ∷ []) (map_turned f xs) ∙ sym (map_end (reverse xs)) ∙ ap (map f) (sym (reverse-append (x ∷ []) xs))
  where
    map_end : (ys : List ℕ) → map f (ys ++ x ∷ []) ≡ map f ys ++ f x ∷ []
    map_end [] = refl
    map_end (y ∷ ys) = ap (λ (rs : List Read). f y ∷ rs) (map_end ys)

carried_turned : (cs : List Channel) → carried_back (reverse cs) ≡ reverse (flat_map reads_in cs)
carried_turned [] = refl
carried_turned (c ∷ cs) =
    ap carried_back (reverse-append (c ∷ []) cs)
    ∙ carried_append (reverse cs) (c ∷ [])
    ∙ ap (λ (rs : List Read). rs ++ (map (read_at c) (reverse c.ports) ++ [])) (carried_turned cs)
    ∙ ap (λ (rs : List Read). reverse (flat_map reads_in cs) ++ rs) (append-nil (map (read_at c) (reverse c.ports)) ∙ sym (map_turned (read_at c) c.ports))
    ∙ sym (reverse-append (reads_in c) (flat_map reads_in cs))

-- channels that are cut and carry the same are the same
pub same_channels : (a b : List Channel) → AreCut (reverse a) → AreCut (reverse b) → flat_map reads_in a ≡ flat_map reads_in b → a ≡ b
same_channels a b cut_a cut_b is =
    let turned : reverse a ≡ reverse b =
    cut_once (reverse a) cut_a ∙ ap cut_back (carried_turned a ∙ ap reverse is ∙ sym (carried_turned b)) ∙ sym (cut_once (reverse b) cut_b) in
    sym (reverse-reverse a) ∙ ap reverse turned ∙ reverse-reverse b
