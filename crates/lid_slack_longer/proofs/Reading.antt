-- A walk that passes a chain of stations, read edge by edge, beside two walks that pass a shorter and a longer
-- chain.
use Rattle.std.proofs.Common.{◌≡◌, ℕ, suc, ◌+◌, ◌-◌, ◌*◌, ◌<◌, ◌≤◌, ◌⊎◌, inl, inr, List, [], ◌∷◌, length, refl, sym, ◌∙◌, ap, subst, arith}
use Rattle.std.proofs.Math.Nat.{mul-le-mul_left, le_of_mul-le-mul_left}
use Rattle.lid_graph.specs.declared.graph.Graph.{Graph}
use Rattle.lid_graph.specs.Walks.{edge_at, IsWalk, walk_tokens}

-- walks, by where they begin and end, their edges and their tokens
abbrev pub Walks : Type 1
Walks = ℕ → ℕ → ℕ → ℕ → Type 0

-- walks along edges of a base, by ends and tokens, and along n + 1 stations in a row from u to w and back
pub record AreWalks (Base : ℕ → ℕ → ℕ → Type 0) (u w forth back n : ℕ) (Has : ℕ → ℕ → ℕ → ℕ → Type 0) : Type 0 where
  pub nil : (a : ℕ) → Has a a 0 0
  pub join : (a b c l m t r : ℕ) → Has a b l t → Has b c m r → Has a c (l + m) (t + r)
  pub base : (a b t : ℕ) → Base a b t → Has a b 1 t
  pub along : Has u w (n + 1) forth
  pub backward : Has w u (n + 1) (back + 2 * n)

-- where a walk is: at a transition of the base, or at one of the further movers
pub data Where : Type 0 where
  stays : ℕ → Where
  further : ℕ → Where

-- an edge of a graph with x further movers
abbrev pub IsStep : (ℕ → ℕ → ℕ → Type 0) → ℕ → ℕ → ℕ → ℕ → ℕ → Where → Where → ℕ → Type 0
IsStep Base u w forth back x (stays a) (stays b) t = Base a b t
IsStep Base u w forth back x (stays a) (further i) t = ((a ≡ u) × (i ≡ 0) × (t ≡ forth)) ⊎ ((a ≡ w) × (i + 1 ≡ x) × (t ≡ 2))
IsStep Base u w forth back x (further i) (stays b) t = ((b ≡ u) × (i ≡ 0) × (t ≡ back)) ⊎ ((b ≡ w) × (i + 1 ≡ x) × (t ≡ 0))
IsStep Base u w forth back x (further i) (further j) t = (i < x) × (j < x) × (((j ≡ i + 1) × (t ≡ 0)) ⊎ (((i ≡ j + 1) × (t ≡ 2)) ⊎ ((i ≡ j) × (t ≡ 1))))

module _ (p q x z : ℕ) (le : p ≤ q) (Near Far : ℕ → ℕ → ℕ → ℕ → Type 0) where
  -- walks from a to b past the shorter and the longer chain that together have no less of p*edges - q*tokens
  -- than z + x times a walk of l edges and t tokens, but for so many edges more and tokens less
  pub record Beside (a b l t more less : ℕ) : Type 0 where
    pub near_edges : ℕ
    pub near_tokens : ℕ
    pub far_edges : ℕ
    pub far_tokens : ℕ
    pub near : Near a b near_edges near_tokens
    pub far : Far a b far_edges far_tokens
    pub bound :
        (z + x) * p * l + z * q * near_tokens + x * q * far_tokens + (z + x) * q * less
        ≤ (z + x) * q * t + z * p * near_edges + x * p * far_edges + (z + x) * p * more

  module _ (Base : ℕ → ℕ → ℕ → Type 0) (u w forth back : ℕ) (nears : AreWalks Base u w forth back 0 Near) (fars : AreWalks Base u w forth back (z + x) Far) (enough : 2 ≤ forth + back) where
    -- what is read of a walk, by where it begins: it comes out of the chain at w or at u
    abbrev Read : Where → ℕ → ℕ → ℕ → Type 0
    Read (stays a) b l t = Beside a b l t 0 0
    Read (further i) b l t = Beside w b l t (x - i) 0 ⊎ Beside u b l t (i + 1) (back + 2 * i)

    -- a half-way turn costs nothing
    turn : (n : ℕ) → n * p * 2 ≤ n * q * 2
    turn n = let h : n * p ≤ n * q = mul-le-mul_left n le in omega arith

    turn_last : (n : ℕ) → n * p * 2 ≤ n * q * forth + n * q * back
    turn_last n =
        let h : n * p * 2 ≤ n * q * 2 = turn n in
        let i : n * q * 2 ≤ n * q * (forth + back) = mul-le-mul_left (n * q) enough in
        omega arith

    -- an edge of the base before
    on_base : (a c b l t r : ℕ) → Base a c r → Beside c b l t 0 0 → Beside a b (l + 1) (r + t) 0 0
    on_base a c b l t r edge h = record {
      near_edges = 1 + h.near_edges;
      near_tokens = r + h.near_tokens;
      far_edges = 1 + h.far_edges;
      far_tokens = r + h.far_tokens;
      near = nears.join a c b 1 h.near_edges r h.near_tokens (nears.base a c r edge) h.near;
      far = fars.join a c b 1 h.far_edges r h.far_tokens (fars.base a c r edge) h.far;
      bound = (let e = h.bound in omega arith);
    }

    -- from u through the chain, which is left at w, and from w, left at u
    through : (b l t : ℕ) → Beside w b l t x 0 → Beside u b (l + 1) (forth + t) 0 0
    through b l t h = record {
      near_edges = 0 + 1 + h.near_edges;
      near_tokens = forth + h.near_tokens;
      far_edges = z + x + 1 + h.far_edges;
      far_tokens = forth + h.far_tokens;
      near = nears.join u w b (0 + 1) h.near_edges forth h.near_tokens nears.along h.near;
      far = fars.join u w b (z + x + 1) h.far_edges forth h.far_tokens fars.along h.far;
      bound = (let e = h.bound in omega arith);
    }

    back_through : (b l t less : ℕ) → less + 2 ≡ back + 2 * x → Beside u b l t x less → Beside w b (l + 1) (2 + t) 0 0
    back_through b l t less is h = record {
      near_edges = 0 + 1 + h.near_edges;
      near_tokens = back + 2 * 0 + h.near_tokens;
      far_edges = z + x + 1 + h.far_edges;
      far_tokens = back + 2 * (z + x) + h.far_tokens;
      near = nears.join w u b (0 + 1) h.near_edges (back + 2 * 0) h.near_tokens nears.backward h.near;
      far = fars.join w u b (z + x + 1) h.far_edges (back + 2 * (z + x)) h.far_tokens fars.backward h.far;
      bound = (let e = h.bound in let same : (z + x) * q * (less + 2) ≡ (z + x) * q * (back + 2 * x) = ap (λ (n : ℕ). (z + x) * q * n) is in omega arith);
    }

    -- the walks beside stay as they are
    kept : (a b l t more less l' t' more' less' : ℕ) → (h : Beside a b l t more less)
        → ((z + x) * p * l' + z * q * h.near_tokens + x * q * h.far_tokens + (z + x) * q * less' ≤ (z + x) * q * t' + z * p * h.near_edges + x * p * h.far_edges + (z + x) * p * more')
        → Beside a b l' t' more' less'
    kept a b l t more less l' t' more' less' h bound = record {
      near_edges = h.near_edges;
      near_tokens = h.near_tokens;
      far_edges = h.far_edges;
      far_tokens = h.far_tokens;
      near = h.near;
      far = h.far;
      bound = bound;
    }

    turn_at_u : (b l t : ℕ) → Beside u b l t 1 back → Beside u b (l + 1) (forth + t) 0 0
    turn_at_u b l t h = kept u b l t 1 back (l + 1) (forth + t) 0 0 h (let e = h.bound in omega (arith, turn_last (z + x)))

    turn_at_w : (b l t : ℕ) → Beside w b l t 1 0 → Beside w b (l + 1) (2 + t) 0 0
    turn_at_w b l t h = kept w b l t 1 0 (l + 1) (2 + t) 0 0 h (let e = h.bound in omega (arith, turn (z + x)))

    out_at_u : (b l t : ℕ) → Beside u b l t 0 0 → Beside u b (l + 1) (back + t) 1 back
    out_at_u b l t h = kept u b l t 0 0 (l + 1) (back + t) 1 back h (let e = h.bound in omega arith)

    out_at_w : (b l t : ℕ) → Beside w b l t 0 0 → Beside w b (l + 1) (0 + t) 1 0
    out_at_w b l t h = kept w b l t 0 0 (l + 1) (0 + t) 1 0 h (let e = h.bound in omega arith)

    on_to_w : (b l t n : ℕ) → Beside w b l t n 0 → Beside w b (l + 1) (0 + t) (n + 1) 0
    on_to_w b l t n h = kept w b l t n 0 (l + 1) (0 + t) (n + 1) 0 h (let e = h.bound in omega arith)

    on_to_u : (b l t n less : ℕ) → Beside u b l t (n + 1) (less + 2) → Beside u b (l + 1) (0 + t) n less
    on_to_u b l t n less h = kept u b l t (n + 1) (less + 2) (l + 1) (0 + t) n less h (let e = h.bound in omega (arith, turn (z + x)))

    back_to_w : (b l t n : ℕ) → Beside w b l t (n + 1) 0 → Beside w b (l + 1) (2 + t) n 0
    back_to_w b l t n h = kept w b l t (n + 1) 0 (l + 1) (2 + t) n 0 h (let e = h.bound in omega (arith, turn (z + x)))

    back_to_u : (b l t n less : ℕ) → Beside u b l t n less → Beside u b (l + 1) (2 + t) (n + 1) (less + 2)
    back_to_u b l t n less h = kept u b l t n less (l + 1) (2 + t) (n + 1) (less + 2) h (let e = h.bound in omega arith)

    stay : (a b l t more less : ℕ) → Beside a b l t more less → Beside a b (l + 1) (1 + t) more less
    stay a b l t more less h = kept a b l t more less (l + 1) (1 + t) more less h (let e = h.bound in let one : (z + x) * p ≤ (z + x) * q = mul-le-mul_left (z + x) le in omega arith)

    -- the same at equal numbers
    moved : (a c b l r m t : ℕ) → a ≡ c → r ≡ m → Beside c b l (m + t) 0 0 → Beside a b l (r + t) 0 0
    moved a c b l r m t at tokens h =
        subst (λ (n : ℕ). Beside a b l (n + t) 0 0) (sym tokens) (subst (λ (n : ℕ). Beside n b l (m + t) 0 0) (sym at) h)

    owed : (a b l t more less r m : ℕ) → more ≡ r → less ≡ m → Beside a b l t more less → Beside a b l t r m
    owed a b l t more less r m h i beside = subst (λ (n : ℕ). Beside a b l t r n) i (subst (λ (n : ℕ). Beside a b l t n less) h beside)

    tokens_are : (a b l t r m more less : ℕ) → r ≡ m → Beside a b l (m + t) more less → Beside a b l (r + t) more less
    tokens_are a b l t r m more less is h = subst (λ (n : ℕ). Beside a b l (n + t) more less) (sym is) h

    -- into the chain
    enters : (a i b l t r : ℕ) → IsStep Base u w forth back x (stays a) (further i) r → Read (further i) b l t → Beside a b (l + 1) (r + t) 0 0
    enters a i b l t r (inl h) (inl beside) = moved a u b (l + 1) r forth t h.0 h.2 (through b l t (owed w b l t (x - i) 0 x 0 (let e = h.1 in omega arith) refl beside))
    enters a i b l t r (inl h) (inr beside) = moved a u b (l + 1) r forth t h.0 h.2 (turn_at_u b l t (owed u b l t (i + 1) (back + 2 * i) 1 back (let e = h.1 in omega arith) (let e = h.1 in omega arith) beside))
    enters a i b l t r (inr h) (inl beside) = moved a w b (l + 1) r 2 t h.0 h.2 (turn_at_w b l t (owed w b l t (x - i) 0 1 0 (let e = h.1 in omega arith) refl beside))
    enters a i b l t r (inr h) (inr beside) = moved a w b (l + 1) r 2 t h.0 h.2 (back_through b l t (back + 2 * i) (let e = h.1 in omega arith) (owed u b l t (i + 1) (back + 2 * i) x (back + 2 * i) h.1 refl beside))

    -- and out of it
    leaves : (i c b l t r : ℕ) → IsStep Base u w forth back x (further i) (stays c) r → Beside c b l t 0 0 → Read (further i) b (l + 1) (r + t)
    leaves i c b l t r (inl h) beside =
        inr (tokens_are u b (l + 1) t r back (i + 1) (back + 2 * i) h.2 (owed u b (l + 1) (back + t) 1 back (i + 1) (back + 2 * i) (let e = h.1 in omega arith) (let e = h.1 in omega arith)
        (out_at_u b l t (subst (λ (n : ℕ). Beside n b l t 0 0) h.0 beside))))
    leaves i c b l t r (inr h) beside =
        inl (tokens_are w b (l + 1) t r 0 (x - i) 0 h.2 (owed w b (l + 1) (0 + t) 1 0 (x - i) 0 (let e = h.1 in omega arith) refl
        (out_at_w b l t (subst (λ (n : ℕ). Beside n b l t 0 0) h.0 beside))))

    -- and on, back, or nowhere
    moves : (i j b l t r : ℕ) → i < x → j < x → ((j ≡ i + 1) × (r ≡ 0)) ⊎ (((i ≡ j + 1) × (r ≡ 2)) ⊎ ((i ≡ j) × (r ≡ 1))) → Read (further j) b l t → Read (further i) b (l + 1) (r + t)
    moves i j b l t r here there (inl h) (inl beside) =
        let next = h.0 in
        inl (tokens_are w b (l + 1) t r 0 (x - i) 0 h.1 (owed w b (l + 1) (0 + t) (x - j + 1) 0 (x - i) 0 (omega arith) refl (on_to_w b l t (x - j) beside)))
    moves i j b l t r here there (inl h) (inr beside) =
        let next = h.0 in
        inr (tokens_are u b (l + 1) t r 0 (i + 1) (back + 2 * i) h.1 (on_to_u b l t (i + 1) (back + 2 * i) (owed u b l t (j + 1) (back + 2 * j) (i + 1 + 1) (back + 2 * i + 2) (omega arith) (omega arith) beside)))
    moves i j b l t r here there (inr (inl h)) (inl beside) =
        let next = h.0 in
        inl (tokens_are w b (l + 1) t r 2 (x - i) 0 h.1 (back_to_w b l t (x - i) (owed w b l t (x - j) 0 (x - i + 1) 0 (omega arith) refl beside)))
    moves i j b l t r here there (inr (inl h)) (inr beside) =
        let next = h.0 in
        inr (tokens_are u b (l + 1) t r 2 (i + 1) (back + 2 * i) h.1 (owed u b (l + 1) (2 + t) (j + 1 + 1) (back + 2 * j + 2) (i + 1) (back + 2 * i) (omega arith) (omega arith) (back_to_u b l t (j + 1) (back + 2 * j) beside)))
    moves i j b l t r here there (inr (inr h)) (inl beside) =
        let same = h.0 in
        inl (tokens_are w b (l + 1) t r 1 (x - i) 0 h.1 (owed w b (l + 1) (1 + t) (x - j) 0 (x - i) 0 (omega arith) refl (stay w b l t (x - j) 0 beside)))
    moves i j b l t r here there (inr (inr h)) (inr beside) =
        let same = h.0 in
        inr (tokens_are u b (l + 1) t r 1 (i + 1) (back + 2 * i) h.1 (owed u b (l + 1) (1 + t) (j + 1) (back + 2 * j) (i + 1) (back + 2 * i) (omega arith) (omega arith) (stay u b l t (j + 1) (back + 2 * j) beside)))

    step : (f e : Where) (b l t r : ℕ) → IsStep Base u w forth back x f e r → Read e b l t → Read f b (l + 1) (r + t)
    step (stays a) (stays c) b l t r edge h = on_base a c b l t r edge h
    step (stays a) (further i) b l t r edge h = enters a i b l t r edge h
    step (further i) (stays c) b l t r edge h = leaves i c b l t r edge h
    step (further i) (further j) b l t r edge h = moves i j b l t r edge.0 edge.1 edge.2 h

    module _ (g : Graph) (place : ℕ → Where) (steps : (k : ℕ) → k < length g.edges → IsStep Base u w forth back x (place (edge_at g k).from) (place (edge_at g k).to) (edge_at g k).tokens) where
      read : (ks : List ℕ) (n e b : ℕ) → place e ≡ stays b → IsWalk g n ks e → Read (place n) b (length ks) (walk_tokens g ks)
      read [] n e b is walk = subst (λ (f : Where). Read f b 0 0) (sym (ap place walk ∙ is)) (record {
        near_edges = 0;
        near_tokens = 0;
        far_edges = 0;
        far_tokens = 0;
        near = nears.nil b;
        far = fars.nil b;
        bound = omega arith;
      })
      read (k ∷ ks) n e b is walk =
          let later : Read (place (edge_at g k).to) b (length ks) (walk_tokens g ks) = read ks (edge_at g k).to e b is walk.2 in
          let all : Read (place (edge_at g k).from) b (length ks + 1) ((edge_at g k).tokens + walk_tokens g ks) = step (place (edge_at g k).from) (place (edge_at g k).to) b (length ks) (walk_tokens g ks) (edge_at g k).tokens (steps k walk.0) later in
          let one : length ks + 1 ≡ suc (length ks) = omega arith in
          subst (λ (m : ℕ). Read (place m) b (suc (length ks)) ((edge_at g k).tokens + walk_tokens g ks)) walk.1
          (subst (λ (m : ℕ). Read (place (edge_at g k).from) b m ((edge_at g k).tokens + walk_tokens g ks)) one all)

      -- what closed walks at v keep past the shorter and the longer chain, they keep past this one
      pub closed_keeps : (n v : ℕ) → place n ≡ stays v → 1 ≤ x
          → ((l t : ℕ) → Near v v l t → p * l ≤ q * t)
          → ((l t : ℕ) → Far v v l t → p * l ≤ q * t)
          → (ks : List ℕ) → IsWalk g n ks n → p * length ks ≤ q * walk_tokens g ks
      closed_keeps n v is some near far ks walk = from_beside (subst (λ (f : Where). Read f v (length ks) (walk_tokens g ks)) is (read ks n n v is walk))
        where
          from_beside : Beside v v (length ks) (walk_tokens g ks) 0 0 → p * length ks ≤ q * walk_tokens g ks
          from_beside h =
              let short : z * (p * h.near_edges) ≤ z * (q * h.near_tokens) = mul-le-mul_left z (near h.near_edges h.near_tokens h.near) in
              let long : x * (p * h.far_edges) ≤ x * (q * h.far_tokens) = mul-le-mul_left x (far h.far_edges h.far_tokens h.far) in
              let bound = h.bound in
              let all : (z + x) * (p * length ks) ≤ (z + x) * (q * walk_tokens g ks) = omega arith in
              le_of_mul-le-mul_left all (omega arith)
