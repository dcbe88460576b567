-- Channels of ascending reads ascend.
use Rattle.std.proofs.Common.{◌≡◌, ◌<◌, ◌≤◌, ◌+◌, ◌⊎◌, ℕ, zero, suc, Bool, true, false, eqb, ◌&&◌, List, [], ◌∷◌, ◌++◌, length, map, reverse, Option, Some, None, slice_get, inl, inr, refl, sym, ◌∙◌, ap, subst, arith, append-nil}
use Rattle.std.specs.List.{AllByRecursion, flat_map}
use Rattle.std.proofs.lemmas.List.{reverse-append, reverse-reverse}
use Rattle.std.proofs.lemmas.Grind.{flat_map-append}
use Rattle.lid_base.specs.Lists.{Among}
use Rattle.lid_base.proofs.Lists.{all_among, among_left, among_right, among_flat, among_map, among_get, get_among}
use Rattle.lid_system.specs.declared.Channel.{Channel}
use Rattle.lid_system.specs.Systems.{Precedes}
use Rattle.lid_net_channels.specs.declared.reads.Read.{Read}
use Rattle.lid_net_channels.specs.Reads.{IsReadBefore, AreAscending}
use Rattle.lid_net_channels.specs.Pieces.{read_at, reads_in, is_beside, IsPieceAfter, IsNextPiece, AreCut}
use Rattle.std.proofs.lemmas.Bool.{eq-eqb}
use Rattle.lid_base.proofs.Alls.{all_from_among}

-- what ascends in two parts
parts_ascend : (xs ys : List Read) → AreAscending (xs ++ ys) → AreAscending xs × ((x y : Read) → Among x xs → Among y ys → IsReadBefore x y)
parts_ascend [] ys h = (tt, λ x y i j. absurd i)
parts_ascend (r ∷ xs) ys h =
    let later = parts_ascend xs ys h.1 in
    ((all_from_among (IsReadBefore r) xs (λ x i. all_among (IsReadBefore r) (xs ++ ys) x h.0 (among_left x xs ys i)), later.0), both later.1)
  where
    both : ((x y : Read) → Among x xs → Among y ys → IsReadBefore x y) → (x y : Read) → Among x (r ∷ xs) → Among y ys → IsReadBefore x y
    both later x y (inl e) j = subst (λ (z : Read). IsReadBefore z y) (sym e) (all_among (IsReadBefore r) (xs ++ ys) y h.0 (among_right y xs ys j))
    both later x y (inr i) j = later x y i j

-- all that a channel carries comes before all that a later one does
abbrev Comes : Channel → Channel → Type 0
Comes c e = (p q : ℕ) → Among p c.ports → Among q e.ports → IsReadBefore (read_at c p) (read_at e q)

-- of channels, the last first
abbrev Descend : List Channel → Type 0
Descend [] = Unit {0}
Descend (e ∷ before) = AllByRecursion (λ c. Comes c e) before × Descend before

abbrev Fall : List Channel → Type 0
Fall [] = Unit {0}
Fall (e ∷ before) = AllByRecursion (λ c. Precedes c e) before × Fall before

turned : (c : Channel) (cs : List Channel) → Among c cs → Among c (reverse cs)
turned c [] h = absurd h
turned c (d ∷ cs) (inl e) = subst (λ (xs : List Channel). Among c xs) (sym (reverse-append (d ∷ []) cs)) (among_right c (reverse cs) (d ∷ []) (inl e))
turned c (d ∷ cs) (inr h) = subst (λ (xs : List Channel). Among c xs) (sym (reverse-append (d ∷ []) cs)) (among_left c (reverse cs) (d ∷ []) (turned c cs h))

descend : (bs : List Channel) → AreAscending (flat_map reads_in (reverse bs)) → Descend bs
descend [] h = tt
descend (e ∷ before) h =
    let whole : flat_map reads_in (reverse (e ∷ before)) ≡ flat_map reads_in (reverse before) ++ reads_in e =
    ap (flat_map reads_in) (reverse-append (e ∷ []) before) ∙ flat_map-append reads_in (reverse before) (e ∷ []) ∙ ap (λ (rs : List Read). flat_map reads_in (reverse before) ++ rs) (append-nil (reads_in e)) in
    let parts = parts_ascend (flat_map reads_in (reverse before)) (reads_in e) (subst AreAscending whole h) in (
      all_from_among (λ c. Comes c e) before (λ c i p q j k. parts.1 (read_at c p) (read_at e q)
          (among_flat reads_in c (read_at c p) (reverse before) (turned c before i) (among_map (read_at c) p c.ports j))
          (among_map (read_at e) q e.ports k)),
      descend before parts.0,
    )

precedes_after : (a b c : Channel) → Precedes a b → Precedes b c → Precedes a c
precedes_after a b c (inl x) (inl y) = inl (omega arith)
precedes_after a b c (inl x) (inr (e, y)) = inl (omega arith)
precedes_after a b c (inr (e, x)) (inl y) = inl (omega arith)
precedes_after a b c (inr (e, inl x)) (inr (f, inl y)) = inr (e ∙ f, inl (omega arith))
precedes_after a b c (inr (e, inl x)) (inr (f, inr (g, y))) = inr (e ∙ f, inl (omega arith))
precedes_after a b c (inr (e, inr (g, x))) (inr (f, inl y)) = inr (e ∙ f, inl (omega arith))
precedes_after a b c (inr (e, inr (g, x))) (inr (f, inr (h, y))) = inr (e ∙ f, inr (g ∙ h, omega arith))

head_of : (ports : List ℕ) → 0 < length ports → (p : ℕ) × Among p ports
head_of [] h = absurd (omega arith)
head_of (p ∷ ports) h = (p, inl refl)

beside : (a b : Channel) → a.from ≡ b.from → a.to ≡ b.to → is_beside a b ≡ true
beside a b e f = let x = eq-eqb a.from b.from e in let y = eq-eqb a.to b.to f in ap (λ (v : Bool). v && eqb a.to b.to) x ∙ y

-- of two channels that stand side by side
neighbours : (c e : Channel) → 0 < length c.ports → 0 < length e.ports → Comes c e → IsPieceAfter (is_beside c e) c e → Precedes c e
neighbours c e some more comes piece =
    let p = head_of c.ports some in
    let q = head_of e.ports more in
    by (comes p.0 q.0 p.1 q.1)
  where
    by : {p q : ℕ} → IsReadBefore (read_at c p) (read_at e q) → Precedes c e
    by (inl h) = inl h
    by (inr (from, inl h)) = inr (from, inl h)
    by (inr (from, inr (to, h))) =
        let after : IsPieceAfter true c e = subst (λ (v : Bool). IsPieceAfter v c e) (beside c e from to) piece in
        inr (from, inr (to, (let n = after.1 in omega arith)))

fall : (bs : List Channel) → AreCut bs → Descend bs → Fall bs
fall [] cut h = tt
fall (e ∷ []) cut h = (tt, tt)
fall (e ∷ c ∷ before) cut h =
    let earlier = fall (c ∷ before) cut.3 h.1 in
    let near = neighbours c e cut.3.0 cut.0 h.0.0 cut.2 in
    ((near, all_from_among (λ b. Precedes b e) before (λ b i. precedes_after b c e (all_among (λ b. Precedes b c) before b earlier.0 i) near)), earlier)

-- the last of falling channels comes before all others
fall_last : (ys : List Channel) (x : Channel) → Fall (ys ++ x ∷ []) → Fall ys × ((y : Channel) → Among y ys → Precedes x y)
fall_last [] x h = (tt, λ y i. absurd i)
fall_last (z ∷ ys) x h =
    let later = fall_last ys x h.1 in
    ((all_from_among (λ c. Precedes c z) ys (λ c i. all_among (λ c. Precedes c z) (ys ++ x ∷ []) c h.0 (among_left c ys (x ∷ []) i)), later.0), by later.1)
  where
    by : ((y : Channel) → Among y ys → Precedes x y) → (y : Channel) → Among y (z ∷ ys) → Precedes x y
    by later y (inl e) = subst (Precedes x) (sym e) (all_among (λ c. Precedes c z) (ys ++ x ∷ []) x h.0 (among_right x ys (x ∷ []) (inl refl)))
    by later y (inr i) = later y i

rise : (xs : List Channel) → Fall (reverse xs) → (i j : ℕ) (c e : Channel) → i < j → slice_get xs i ≡ Some c → slice_get xs j ≡ Some e → Precedes c e
rise [] h i j c e less here there = absurd (let f : None ≡ Some c = here in cc)
rise (x ∷ xs) h i zero c e less here there = absurd (omega arith)
rise (x ∷ xs) h zero (suc j) c e less here there =
    let parts = fall_last (reverse xs) x (subst Fall (reverse-append (x ∷ []) xs) h) in
    let same : x ≡ c = (let f : Some x ≡ Some c = here in cc) in
    subst (λ (y : Channel). Precedes y e) same (parts.1 e (turned e xs (get_among xs j e there)))
rise (x ∷ xs) h (suc i) (suc j) c e less here there =
    let parts = fall_last (reverse xs) x (subst Fall (reverse-append (x ∷ []) xs) h) in
    rise xs parts.0 i j c e (omega arith) here there

pub channels_rise : (channels : List Channel) → AreAscending (flat_map reads_in channels) → AreCut (reverse channels) → (i j : ℕ) (c e : Channel) → i < j → slice_get channels i ≡ Some c → slice_get channels j ≡ Some e → Precedes c e
channels_rise channels ascending cut = rise channels (fall (reverse channels) cut (descend (reverse channels) (subst (λ (cs : List Channel). AreAscending (flat_map reads_in cs)) (sym (reverse-reverse channels)) ascending)))

cut_ports : (bs : List Channel) (c : Channel) → AreCut bs → Among c bs → (0 < length c.ports) × (length c.ports ≤ 31)
cut_ports [] c cut h = absurd h
cut_ports (b ∷ bs) c cut (inl e) = subst (λ (x : Channel). (0 < length x.ports) × (length x.ports ≤ 31)) (sym e) (cut.0, cut.1)
cut_ports (b ∷ bs) c cut (inr h) = cut_ports bs c cut.3 h

pub channel_ports : (channels : List Channel) (c : Channel) → AreCut (reverse channels) → Among c channels → (0 < length c.ports) × (length c.ports ≤ 31)
channel_ports channels c cut h = cut_ports (reverse channels) c cut (turned c channels h)

pub first_port : (c : Channel) → 0 < length c.ports → (p : ℕ) × Among p c.ports
first_port c h = head_of c.ports h
