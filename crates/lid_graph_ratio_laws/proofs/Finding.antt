-- Each component has a ratio: from a closed walk on, lower ones are looked for among those that are short, until there is none.
use Rattle.std.proofs.Common.{◌≡◌, ℕ, zero, suc, ◌+◌, ◌*◌, ◌/◌, ◌<◌, ◌≤◌, ◌⊎◌, inl, inr, List, [], ◌∷◌, ◌++◌, length, refl, sym, ◌∙◌, ap, subst, arith}
use Rattle.std.specs.Int.{IsGcd}
use Rattle.std.proofs.lemmas.Bool.{cases_lt}
use Rattle.std.proofs.Math.Nat.{mul-le-mul_left, div-mul_cancel, div-le_self}
use Rattle.lid_graph.specs.declared.graph.Graph.{Graph}
use Rattle.lid_graph.specs.Walks.{edge_at, IsPaired, IsWalk, IsClosedWalk, IsJoined, walk_start, walk_tokens}
use Rattle.lid_graph.specs.Ratios.{IsClosedWalkNear, IsRatio}
use Rattle.lid_graph.proofs.Journeys.{joined_step, joined_back}
use Rattle.lid_graph_ratio_laws.proofs.Splitting.{GoesRound, IsShortened, goes_round, shortened, closed_at}
use Rattle.lid_graph_laws.proofs.Alive.{ends_below}
use Rattle.lid_graph_ratio_laws.proofs.Deciding.{Exceeds, NoneExceeds, some_or_all, exceeds_or_none, joined_or_not}
use Rattle.lid_graph_ratio_laws.proofs.Lowest.{coprime, positive_gcd, common, most_scaled, falls}

-- a walk of the component of v that ends where it begins, with at most as many edges as there are transitions
pub record HasRound (g : Graph) (v t e : ℕ) : Type 0 where
  pub start : ℕ
  pub edges : List ℕ
  pub joined : IsJoined g v start
  pub around : IsWalk g start edges start
  pub long : length edges ≡ e
  pub tokens : walk_tokens g edges ≡ t
  pub some : 1 ≤ e
  pub few : e ≤ g.nodes

-- no short walk of the component that ends where it begins has a lower ratio
abbrev pub KeepsShort : Graph → ℕ → ℕ → ℕ → Type 0
KeepsShort g v p q = (w : ℕ) → w < g.nodes → IsJoined g v w → NoneExceeds g p q g.nodes w w 0 0

pub record HasLeastShort (g : Graph) (v : ℕ) : Type 0 where
  pub tokens : ℕ
  pub edges : ℕ
  pub around : HasRound g v tokens edges
  pub least : KeepsShort g v tokens edges

-- each transition has a walk of one edge round itself
begins : (g : Graph) → IsPaired g → (v : ℕ) → v < g.nodes → HasRound g v 1 1
begins g paired v h =
    let self = paired.self v h in
    record {
      start = v;
      edges = self.0 ∷ [];
      joined = ([], refl);
      around = (self.1, self.2, self.3);
      long = refl;
      tokens = omega (arith, self.4);
      some = omega arith;
      few = omega arith;
    }

-- a walk that ends where it begins and has a lower ratio has an edge
lower_round : (g : Graph) (v t e w : ℕ) → IsJoined g v w → Exceeds g t e g.nodes w w 0 0 → (a : ℕ) × (b : ℕ) × HasRound g v a b × (e * a < t * b)
lower_round g v t e w joined x =
    (walk_tokens g x.edges, length x.edges, record { start = w; edges = x.edges; joined = joined; around = x.leads; long = refl; tokens = refl; some = by_length (length x.edges) refl; few = x.short }, omega (arith, x.more))
  where
    by_length : (n : ℕ) → length x.edges ≡ n → 1 ≤ length x.edges
    by_length zero none =
        let z : t * length x.edges ≡ t * 0 = ap (λ (n : ℕ). t * n) none in
        absurd (omega (arith, x.more))
    by_length (suc n) is = omega arith

descend : (g : Graph) → IsPaired g → (v : ℕ) → v < g.nodes → (most t e : ℕ) → HasRound g v t e → (g.nodes * g.nodes * t) / e < most → HasLeastShort g v
descend g paired v below zero t e around less = absurd (omega arith)
descend g paired v below (suc most) t e around less = by_lower (some_or_all Lower Kept g.nodes (λ w h. lower w (joined_or_not g paired v w below) (exceeds_or_none g t e g.nodes w w 0 0))) (λ a b r h. descend g paired v below most a b r h)
  where
    Lower : ℕ → Type 0
    Lower w = IsJoined g v w × Exceeds g t e g.nodes w w 0 0

    Kept : ℕ → Type 0
    Kept w = IsJoined g v w → NoneExceeds g t e g.nodes w w 0 0

    lower : (w : ℕ) → IsJoined g v w ⊎ (IsJoined g v w → ⊥) → Exceeds g t e g.nodes w w 0 0 ⊎ NoneExceeds g t e g.nodes w w 0 0 → Lower w ⊎ Kept w
    lower w (inl joined) (inl x) = inl (joined, x)
    lower w (inl joined) (inr none) = inr (λ h. none)
    lower w (inr apart) either = inr (λ h. absurd (apart h))

    on : ((a b : ℕ) → HasRound g v a b → (g.nodes * g.nodes * a) / b < most → HasLeastShort g v) → (a : ℕ) × (b : ℕ) × HasRound g v a b × (e * a < t * b) → HasLeastShort g v
    on rest r =
        let down : (g.nodes * g.nodes * r.0) / r.1 < (g.nodes * g.nodes * t) / e = falls g.nodes t e r.0 r.1 around.some around.few r.2.some r.2.few r.3 in
        rest r.0 r.1 r.2 (omega arith)

    by_lower : ((w : ℕ) × (w < g.nodes) × Lower w) ⊎ ((w : ℕ) → w < g.nodes → Kept w) → ((a b : ℕ) → HasRound g v a b → (g.nodes * g.nodes * a) / b < most → HasLeastShort g v) → HasLeastShort g v
    by_lower (inl l) rest = on rest (lower_round g v t e l.0 l.2.0 l.2.1)
    by_lower (inr kept) rest = record { tokens = t; edges = e; around = around; least = kept }

-- then no walk of the component that ends where it begins has a lower ratio
keeps_all : (g : Graph) → IsPaired g → (v p q : ℕ) → KeepsShort g v p q → (most w : ℕ) (ks : List ℕ) → w < g.nodes → IsJoined g v w → IsWalk g w ks w → length ks ≤ most → p * length ks ≤ q * walk_tokens g ks
keeps_all g paired v p q keeps most w [] below joined walk few =
    let none : 0 + p * 0 ≤ 0 + q * 0 = keeps w below joined [] refl (omega arith) in
    omega arith
keeps_all g paired v p q keeps zero w (k ∷ ks) below joined walk few = absurd (omega arith)
keeps_all g paired v p q keeps (suc most) w (k ∷ ks) below joined walk few = by_length (cases_lt g.nodes (length (k ∷ ks))) (λ x ls h j on less. keeps_all g paired v p q keeps most x ls h j on less)
  where
    Shorter : Type 0
    Shorter = (x : ℕ) (ls : List ℕ) → x < g.nodes → IsJoined g v x → IsWalk g x ls x → length ls ≤ most → p * length ls ≤ q * walk_tokens g ls

    by_round : Shorter → GoesRound g (edge_at g k).to w ks → p * length (k ∷ ks) ≤ q * walk_tokens g (k ∷ ks)
    by_round shorter r =
        let s = shortened g (edge_at g k).to w ks r in
        let there : r.middle < g.nodes = ends_below g paired (edge_at g k).to r.middle r.first r.leads (paired.ends k walk.0).to in
        let reached : IsJoined g v r.middle = joined_step g v w r.middle joined (k ∷ r.first, (walk.0, walk.1, r.leads)) in
        let around : p * length r.round ≤ q * walk_tokens g r.round = shorter r.middle r.round there reached r.around (omega (arith, s.long)) in
        let rest : p * length (k ∷ (r.first ++ r.last)) ≤ q * walk_tokens g (k ∷ (r.first ++ r.last)) = shorter w (k ∷ (r.first ++ r.last)) below joined (walk.0, walk.1, s.leads) (omega (arith, s.long, r.some)) in
        let edges : p * length (k ∷ ks) ≡ p * length (k ∷ (r.first ++ r.last)) + p * length r.round = (let long = s.long in let e : length (k ∷ ks) ≡ length (k ∷ (r.first ++ r.last)) + length r.round = omega arith in ap (λ (n : ℕ). p * n) e ∙ omega arith) in
        let tokens : q * walk_tokens g (k ∷ ks) ≡ q * walk_tokens g (k ∷ (r.first ++ r.last)) + q * walk_tokens g r.round = (let e : walk_tokens g (k ∷ ks) ≡ walk_tokens g (k ∷ (r.first ++ r.last)) + walk_tokens g r.round = omega (arith, s.tokens) in ap (λ (n : ℕ). q * n) e ∙ omega arith) in
        omega arith

    by_length : (g.nodes < length (k ∷ ks)) ⊎ (length (k ∷ ks) ≤ g.nodes) → Shorter → p * length (k ∷ ks) ≤ q * walk_tokens g (k ∷ ks)
    by_length (inl more) shorter = by_round shorter (goes_round g paired (edge_at g k).to w ks walk.2 (paired.ends k walk.0).to (omega arith))
    by_length (inr less) shorter =
        let bound : 0 + p * length (k ∷ ks) ≤ 0 + q * walk_tokens g (k ∷ ks) = keeps w below joined (k ∷ ks) walk less in
        omega arith

-- the ratio of a component, of at most 1
pub record HasRatio (g : Graph) (v : ℕ) : Type 0 where
  pub p : ℕ
  pub q : ℕ
  pub is : IsRatio g v p q
  pub slow : p ≤ q
  pub short : q ≤ g.nodes

-- the ratio of a walk of t tokens and e edges, in lowest terms
in_lowest : (g : Graph) → IsPaired g → (v t e d : ℕ) → v < g.nodes → HasRound g v t e → KeepsShort g v t e → IsGcd t e d → HasRatio g v
in_lowest g paired v t e d below r keeps is = record { p = p; q = q; is = ratio; slow = slow; short = omega (arith, div-le_self e d, r.few) }
  where
    p : ℕ
    p = t / d

    q : ℕ
    q = e / d

    p_is : p * d ≡ t
    p_is = div-mul_cancel d is.0

    q_is : q * d ≡ e
    q_is = div-mul_cancel d is.1

    some : 1 ≤ d
    some = positive_gcd t e d r.some is

    positive : (n : ℕ) → n * d ≡ e → 1 ≤ n
    positive zero h = absurd (omega (arith, r.some))
    positive (suc n) h = omega arith

    all : (ks : List ℕ) → IsClosedWalkNear g v ks → p * length ks ≤ q * walk_tokens g ks
    all ks near =
        let there : walk_start g ks < g.nodes = ends_below g paired v (walk_start g ks) near.1.0 near.1.1 below in
        let bound : t * length ks ≤ e * walk_tokens g ks = keeps_all g paired v t e keeps (length ks) (walk_start g ks) ks there near.1 near.0.closed (omega arith) in
        let edges : t * length ks ≡ p * d * length ks = ap (λ (n : ℕ). n * length ks) (sym p_is) in
        let tokens : e * walk_tokens g ks ≡ q * d * walk_tokens g ks = ap (λ (n : ℕ). n * walk_tokens g ks) (sym q_is) in
        most_scaled (p * length ks) (q * walk_tokens g ks) d some (omega arith)

    reached : (ks : List ℕ) × IsClosedWalkNear g v ks × (q * walk_tokens g ks ≡ p * length ks)
    reached =
        let closed = closed_at g r.start r.edges r.around (omega (arith, r.long, r.some)) in
        let tokens : q * walk_tokens g r.edges ≡ q * (p * d) = ap (λ (n : ℕ). q * n) (r.tokens ∙ sym p_is) in
        let edges : p * length r.edges ≡ p * (q * d) = ap (λ (n : ℕ). p * n) (r.long ∙ sym q_is) in
        (r.edges, (closed.1, subst (IsJoined g v) (sym closed.0) r.joined), omega arith)

    ratio : IsRatio g v p q
    ratio = record { positive = positive q q_is; lowest = coprime t e d p q some is p_is q_is; all = all; some = reached }

    slow : p ≤ q
    slow =
        let b = begins g paired v below in
        let closed = closed_at g b.start b.edges b.around (omega (arith, b.long)) in
        let bound : p * length b.edges ≤ q * walk_tokens g b.edges = all b.edges (closed.1, subst (IsJoined g v) (sym closed.0) b.joined) in
        let edges : p * length b.edges ≡ p * 1 = ap (λ (n : ℕ). p * n) b.long in
        let tokens : q * walk_tokens g b.edges ≡ q * 1 = ap (λ (n : ℕ). q * n) b.tokens in
        omega arith

pub has_ratio : (g : Graph) → IsPaired g → (v : ℕ) → v < g.nodes → HasRatio g v
has_ratio g paired v below = lowest (descend g paired v below (suc ((g.nodes * g.nodes * 1) / 1)) 1 1 (begins g paired v below) (omega arith))
  where
    lowest : HasLeastShort g v → HasRatio g v
    lowest l = let d = common l.edges l.tokens l.edges (omega arith) in in_lowest g paired v l.tokens l.edges d.0 below l.around l.least d.1

-- all transitions of a component have its ratio
pub ratio_near : (g : Graph) → IsPaired g → (v w p q : ℕ) → IsJoined g v w → IsRatio g v p q → IsRatio g w p q
ratio_near g paired v w p q joined is = record { positive = is.positive; lowest = is.lowest; all = all; some = some }
  where
    all : (ks : List ℕ) → IsClosedWalkNear g w ks → p * length ks ≤ q * walk_tokens g ks
    all ks near = is.all ks (near.0, joined_step g v w (walk_start g ks) joined near.1)

    some : (ks : List ℕ) × IsClosedWalkNear g w ks × (q * walk_tokens g ks ≡ p * length ks)
    some = let s = is.some in (s.0, (s.1.0, joined_step g w v (walk_start g s.0) (joined_back g paired joined.0 v w joined.1) s.1.1), s.2)
