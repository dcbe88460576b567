-- Whether a short walk has more edges for its tokens than allowed is decided by looking.
use Rattle.std.proofs.Common.{◌≡◌, ℕ, zero, suc, ◌+◌, ◌*◌, ◌<◌, ◌≤◌, ◌⊎◌, inl, inr, List, [], ◌∷◌, length, refl, sym, ◌∙◌, ap, subst, arith}
use Rattle.std.proofs.lemmas.Bool.{cases_lt, cases_eq}
use Rattle.lid_graph.specs.declared.graph.Graph.{Graph}
use Rattle.lid_graph.specs.Walks.{edge_at, IsPaired, IsWalk, IsJoined, walk_tokens}
use Rattle.lid_graph_ratio_laws.proofs.Splitting.{GoesRound, IsShortened, goes_round, shortened}

-- below a number one of two holds of each: then the first holds somewhere, or the second everywhere
pub some_or_all : (P Q : ℕ → Type 0) (m : ℕ) → ((k : ℕ) → k < m → P k ⊎ Q k) → ((k : ℕ) × (k < m) × P k) ⊎ ((k : ℕ) → k < m → Q k)
some_or_all P Q zero each = inr (λ k h. absurd (omega arith))
some_or_all P Q (suc m) each = by_last (each m (omega arith)) (some_or_all P Q m (λ k h. each k (omega arith)))
  where
    Whole : Type 0
    Whole = ((k : ℕ) × (k < suc m) × P k) ⊎ ((k : ℕ) → k < suc m → Q k)

    by_place : Q m → ((k : ℕ) → k < m → Q k) → (k : ℕ) → k < suc m → (k < m) ⊎ (m ≤ k) → Q k
    by_place last before k h (inl less) = before k less
    by_place last before k h (inr more) = let same : m ≡ k = omega arith in subst Q same last

    by_last : P m ⊎ Q m → ((k : ℕ) × (k < m) × P k) ⊎ ((k : ℕ) → k < m → Q k) → Whole
    by_last (inl p) rest = inl (m, omega arith, p)
    by_last (inr q) (inl p) = inl (p.0, omega arith, p.2)
    by_last (inr q) (inr before) = inr (λ k h. by_place q before k h (cases_lt k m))

-- a walk of at most n edges from u to w has more than allowed
pub record Exceeds (g : Graph) (p q n u w a b : ℕ) : Type 0 where
  pub edges : List ℕ
  pub leads : IsWalk g u edges w
  pub short : length edges ≤ n
  pub more : a + q * walk_tokens g edges < b + p * length edges

-- none has
abbrev pub NoneExceeds : Graph → ℕ → ℕ → ℕ → ℕ → ℕ → ℕ → ℕ → Type 0
NoneExceeds g p q n u w a b = (ks : List ℕ) → IsWalk g u ks w → length ks ≤ n → b + p * length ks ≤ a + q * walk_tokens g ks

-- what the walks after edge k may have
abbrev Past : Graph → ℕ → ℕ → ℕ → ℕ → ℕ → ℕ → ℕ → ℕ → Type 0
Past g p q n u w a b k = ((edge_at g k).from ≡ u) × Exceeds g p q n (edge_at g k).to w (a + q * (edge_at g k).tokens) (b + p)

abbrev NonePast : Graph → ℕ → ℕ → ℕ → ℕ → ℕ → ℕ → ℕ → ℕ → Type 0
NonePast g p q n u w a b k = (edge_at g k).from ≡ u → NoneExceeds g p q n (edge_at g k).to w (a + q * (edge_at g k).tokens) (b + p)

pub exceeds_or_none : (g : Graph) (p q n u w a b : ℕ) → Exceeds g p q n u w a b ⊎ NoneExceeds g p q n u w a b
exceeds_or_none g p q zero u w a b = by_same (cases_eq u w) (cases_lt a b)
  where
    none : (u ≡ w → b ≤ a) → NoneExceeds g p q 0 u w a b
    none most [] walk short = let h : b ≤ a = most walk in omega arith
    none most (k ∷ ks) walk short = absurd (omega arith)

    by_same : (u ≡ w) ⊎ (u ≡ w → ⊥) → (a < b) ⊎ (b ≤ a) → Exceeds g p q 0 u w a b ⊎ NoneExceeds g p q 0 u w a b
    by_same (inl same) (inl less) = inl (record { edges = []; leads = same; short = omega arith; more = omega arith })
    by_same (inl same) (inr most) = inr (none (λ h. most))
    by_same (inr apart) order = inr (none (λ h. absurd (apart h)))
exceeds_or_none g p q (suc n) u w a b = by_empty (cases_eq u w) (cases_lt a b) (some_or_all (Past g p q n u w a b) (NonePast g p q n u w a b) (length g.edges) (λ k h. past k (cases_eq (edge_at g k).from u) (exceeds_or_none g p q n (edge_at g k).to w (a + q * (edge_at g k).tokens) (b + p))))
  where
    Whole : Type 0
    Whole = Exceeds g p q (suc n) u w a b ⊎ NoneExceeds g p q (suc n) u w a b

    past : (k : ℕ) → ((edge_at g k).from ≡ u) ⊎ ((edge_at g k).from ≡ u → ⊥)
        → Exceeds g p q n (edge_at g k).to w (a + q * (edge_at g k).tokens) (b + p) ⊎ NoneExceeds g p q n (edge_at g k).to w (a + q * (edge_at g k).tokens) (b + p)
        → Past g p q n u w a b k ⊎ NonePast g p q n u w a b k
    past k (inl here) (inl e) = inl (here, e)
    past k (inl here) (inr none) = inr (λ h. none)
    past k (inr apart) either = inr (λ h. absurd (apart h))

    none : (u ≡ w → b ≤ a) → ((k : ℕ) → k < length g.edges → NonePast g p q n u w a b k) → NoneExceeds g p q (suc n) u w a b
    none most rest [] walk short = let h : b ≤ a = most walk in omega arith
    none most rest (k ∷ ks) walk short =
        let on : b + p + p * length ks ≤ a + q * (edge_at g k).tokens + q * walk_tokens g ks = rest k walk.0 walk.1 ks walk.2 (omega arith) in
        omega arith

    longer : (k : ℕ) → k < length g.edges → Past g p q n u w a b k → Exceeds g p q (suc n) u w a b
    longer k there is =
        let e = is.1 in
        let short : length e.edges ≤ n = e.short in
        let more : a + q * (edge_at g k).tokens + q * walk_tokens g e.edges < b + p + p * length e.edges = e.more in
        record { edges = k ∷ e.edges; leads = (there, is.0, e.leads); short = omega arith; more = omega arith }

    by_rest : (u ≡ w → b ≤ a) → ((k : ℕ) × (k < length g.edges) × Past g p q n u w a b k) ⊎ ((k : ℕ) → k < length g.edges → NonePast g p q n u w a b k) → Whole
    by_rest most (inl e) = inl (longer e.0 e.1 e.2)
    by_rest most (inr rest) = inr (none most rest)

    by_empty : (u ≡ w) ⊎ (u ≡ w → ⊥) → (a < b) ⊎ (b ≤ a) → ((k : ℕ) × (k < length g.edges) × Past g p q n u w a b k) ⊎ ((k : ℕ) → k < length g.edges → NonePast g p q n u w a b k) → Whole
    by_empty (inl same) (inl less) rest = inl (record { edges = []; leads = same; short = omega arith; more = omega arith })
    by_empty (inl same) (inr most) rest = by_rest (λ h. most) rest
    by_empty (inr apart) order rest = by_rest (λ h. absurd (apart h)) rest

-- what is joined is joined by a walk with fewer edges than there are transitions
pub short_joined : (g : Graph) → IsPaired g → (most u v : ℕ) (ks : List ℕ) → IsWalk g u ks v → u < g.nodes → length ks ≤ most → (ls : List ℕ) × IsWalk g u ls v × (length ls < g.nodes)
short_joined g paired zero u v ks walk h few = (ks, walk, omega arith)
short_joined g paired (suc most) u v ks walk h few = by_length (cases_lt (length ks) g.nodes) (λ ls on less. short_joined g paired most u v ls on h less)
  where
    Short : Type 0
    Short = (ls : List ℕ) × IsWalk g u ls v × (length ls < g.nodes)

    by_round : ((ls : List ℕ) → IsWalk g u ls v → length ls ≤ most → Short) → (r : GoesRound g u v ks) → Short
    by_round rest r = let s = shortened g u v ks r in rest _ s.leads (omega (arith, s.long, r.some))

    by_length : (length ks < g.nodes) ⊎ (g.nodes ≤ length ks) → ((ls : List ℕ) → IsWalk g u ls v → length ls ≤ most → Short) → Short
    by_length (inl less) rest = (ks, walk, less)
    by_length (inr more) rest = by_round rest (goes_round g paired u v ks walk h more)

-- whether two transitions are joined is decided
pub joined_or_not : (g : Graph) → IsPaired g → (u v : ℕ) → u < g.nodes → IsJoined g u v ⊎ (IsJoined g u v → ⊥)
joined_or_not g paired u v h = by_walk (exceeds_or_none g 0 0 g.nodes u v 0 1)
  where
    apart : NoneExceeds g 0 0 g.nodes u v 0 1 → IsJoined g u v → ⊥
    apart none j =
        let s = short_joined g paired (length j.0) u v j.0 j.1 h (omega arith) in
        let bound : 1 + 0 * length s.0 ≤ 0 + 0 * walk_tokens g s.0 = none s.0 s.1 (let l = s.2 in omega arith) in
        omega arith

    by_walk : Exceeds g 0 0 g.nodes u v 0 1 ⊎ NoneExceeds g 0 0 g.nodes u v 0 1 → IsJoined g u v ⊎ (IsJoined g u v → ⊥)
    by_walk (inl e) = inl (e.edges, e.leads)
    by_walk (inr none) = inr (apart none)
