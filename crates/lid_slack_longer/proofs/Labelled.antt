-- Labels along walks that pass a chain of stations: those of the movers of the chain are chosen here.
use Rattle.std.proofs.Common.{◌≡◌, ℕ, ◌+◌, ◌-◌, ◌*◌, ◌<◌, ◌≤◌, ◌⊎◌, inl, inr, max, List, [], ◌∷◌, length, refl, sym, ap, subst, arith}
use Rattle.std.specs.Bool.{⊤}
use Rattle.std.proofs.Math.Nat.{mul-le-mul_left}
use Rattle.lid_graph.specs.declared.graph.Graph.{Graph}
use Rattle.lid_graph.specs.Walks.{edge_at, IsWalk, walk_start, walk_tokens}
use Rattle.lid_graph.specs.Ratios.{IsClosedWalkNear}
use Rattle.lid_slack_longer.proofs.Reading.{Where, stays, further, IsStep}

-- labels of a base that allow for its edges at a/b, and for a chain from u to w and back with x further movers
pub record IsBaseAllowed (a b x : ℕ) (Base : ℕ → ℕ → ℕ → Type 0) (u w forth back : ℕ) (inside : ℕ → Type 0) (label : ℕ → ℕ) : Type 0 where
  pub at_most_one : a ≤ b
  pub enough : 2 ≤ forth + back
  pub base : (m n t : ℕ) → Base m n t → inside m → inside n × (label m + a ≤ label n + b * t)
  pub filled : inside u
  pub drained : inside w
  pub along : label u + a * (x + 1) ≤ label w + b * forth
  pub backward : label w + a * (x + 1) ≤ label u + b * (back + 2 * x)

max_grows : (m n r s c d : ℕ) → m + c ≤ r + d → n + c ≤ s + d → max m n + c ≤ max r s + d
max_grows m n r s c d h i = omega arith

max_below : (m n r c : ℕ) → m + c ≤ r → n + c ≤ r → max m n + c ≤ r
max_below m n r c h i = omega arith

module _ (a b x : ℕ) (Base : ℕ → ℕ → ℕ → Type 0) (u w forth back : ℕ) (inside : ℕ → Type 0) (label : ℕ → ℕ) (allowed : IsBaseAllowed a b x Base u w forth back inside label) where
  -- a further mover is as late as the way along the chain asks, and as early as the way back allows
  abbrev early : ℕ → ℕ
  early i = label u + a * (i + 1) + 2 * b * x

  abbrev late : ℕ → ℕ
  late i = label w + b * forth + 2 * b * i + a * (x - i)

  -- all labels are lifted by as many tokens as the chain may hold
  abbrev height : Where → ℕ
  height (stays n) = label n + b * forth + 2 * b * x
  height (further i) = max (early i) (late i)

  abbrev Inside : Where → Type 0
  Inside (stays n) = inside n
  Inside (further i) = ⊤

  into_first : height (stays u) + a ≤ max (early 0) (late 0) + b * forth
  into_first = omega arith

  into_last : (i : ℕ) → i + 1 ≡ x → height (stays w) + a ≤ max (early i) (late i) + b * 2
  into_last i is =
      let rest : a * (x - i) ≡ a * 1 = (let e : x - i ≡ 1 = omega arith in ap (λ (n : ℕ). a * n) e) in
      let all : b * x ≡ b * (i + 1) = ap (λ (n : ℕ). b * n) (sym is) in
      let one : height (stays w) + a ≤ late i + b * 2 = omega arith in
      omega arith

  out_at_first : max (early 0) (late 0) + a ≤ height (stays u) + b * back
  out_at_first =
      let le = allowed.at_most_one in
      let two : b * 2 ≤ b * (forth + back) = mul-le-mul_left b allowed.enough in
      let rest : a * (x - 0) ≡ a * x = (let e : x - 0 ≡ x = omega arith in ap (λ (n : ℕ). a * n) e) in
      let owed = allowed.backward in
      max_below (early 0) (late 0) (height (stays u) + b * back) a (omega arith) (omega arith)

  out_at_last : (i : ℕ) → i + 1 ≡ x → max (early i) (late i) + a ≤ height (stays w) + b * 0
  out_at_last i is =
      let le = allowed.at_most_one in
      let rest : a * (x - i) ≡ a * 1 = (let e : x - i ≡ 1 = omega arith in ap (λ (n : ℕ). a * n) e) in
      let all : b * x ≡ b * (i + 1) = ap (λ (n : ℕ). b * n) (sym is) in
      let long : a * (x + 1) ≡ a * (i + 1 + 1) = ap (λ (n : ℕ). a * (n + 1)) (sym is) in
      let owed = allowed.along in
      max_below (early i) (late i) (height (stays w) + b * 0) a (omega arith) (omega arith)

  onward : (i : ℕ) → i + 1 < x → max (early i) (late i) + a ≤ max (early (i + 1)) (late (i + 1)) + b * 0
  onward i h =
      let le = allowed.at_most_one in
      let rest : a * (x - i) ≡ a * (x - (i + 1) + 1) = (let e : x - i ≡ x - (i + 1) + 1 = omega arith in ap (λ (n : ℕ). a * n) e) in
      max_grows (early i) (late i) (early (i + 1)) (late (i + 1)) a (b * 0) (omega arith) (omega arith)

  backward : (i : ℕ) → i + 1 < x → max (early (i + 1)) (late (i + 1)) + a ≤ max (early i) (late i) + b * 2
  backward i h =
      let le = allowed.at_most_one in
      let rest : a * (x - i) ≡ a * (x - (i + 1) + 1) = (let e : x - i ≡ x - (i + 1) + 1 = omega arith in ap (λ (n : ℕ). a * n) e) in
      max_grows (early (i + 1)) (late (i + 1)) (early i) (late i) a (b * 2) (omega arith) (omega arith)

  abbrev Rises : Where → Where → ℕ → Type 0
  Rises f e t = height f + a ≤ height e + b * t

  -- the same at equal places and numbers
  rises_at : (f f' e e' : Where) (t t' : ℕ) → f ≡ f' → e ≡ e' → t ≡ t' → Rises f' e' t' → Rises f e t
  rises_at f f' e e' t t' from to tokens h =
      subst (λ (n : ℕ). Rises f e n) (sym tokens) (subst (λ (p : Where). Rises f p t') (sym to) (subst (λ (p : Where). Rises p e' t') (sym from) h))

  moves : (i j t : ℕ) → i < x → j < x → ((j ≡ i + 1) × (t ≡ 0)) ⊎ (((i ≡ j + 1) × (t ≡ 2)) ⊎ ((i ≡ j) × (t ≡ 1))) → Rises (further i) (further j) t
  moves i j t here there (inl h) =
      let next = h.0 in
      rises_at (further i) (further i) (further j) (further (i + 1)) t 0 refl (ap further h.0) h.1 (onward i (omega arith))
  moves i j t here there (inr (inl h)) =
      let next = h.0 in
      rises_at (further i) (further (j + 1)) (further j) (further j) t 2 (ap further h.0) refl h.1 (backward j (omega arith))
  moves i j t here there (inr (inr h)) =
      let le = allowed.at_most_one in
      rises_at (further i) (further i) (further j) (further i) t 1 refl (ap further (sym h.0)) h.1 (omega arith)

  step : (f e : Where) (t : ℕ) → IsStep Base u w forth back x f e t → Inside f → Inside e × Rises f e t
  step (stays m) (stays n) t edge at =
      let next = allowed.base m n t edge at in
      let rise = next.1 in
      (next.0, omega arith)
  step (stays m) (further i) t (inl h) at = (tt, rises_at (stays m) (stays u) (further i) (further 0) t forth (ap stays h.0) (ap further h.1) h.2 into_first)
  step (stays m) (further i) t (inr h) at = (tt, rises_at (stays m) (stays w) (further i) (further i) t 2 (ap stays h.0) refl h.2 (into_last i h.1))
  step (further i) (stays n) t (inl h) at = (subst inside (sym h.0) allowed.filled, rises_at (further i) (further 0) (stays n) (stays u) t back (ap further h.1) (ap stays h.0) h.2 out_at_first)
  step (further i) (stays n) t (inr h) at = (subst inside (sym h.0) allowed.drained, rises_at (further i) (further i) (stays n) (stays w) t 0 refl (ap stays h.0) h.2 (out_at_last i h.1))
  step (further i) (further j) t edge at = (tt, moves i j t edge.0 edge.1 edge.2)

  module _ (g : Graph) (place : ℕ → Where) (steps : (k : ℕ) → k < length g.edges → IsStep Base u w forth back x (place (edge_at g k).from) (place (edge_at g k).to) (edge_at g k).tokens) where
    -- along a walk heights grow by at least a for each edge, less b for each token
    walk_grows : (ks : List ℕ) (n e : ℕ) → IsWalk g n ks e → Inside (place n) → Inside (place e) × (height (place n) + a * length ks ≤ height (place e) + b * walk_tokens g ks)
    walk_grows [] n e walk at =
        (subst (λ (m : ℕ). Inside (place m)) walk at, (let same : height (place n) ≡ height (place e) = ap (λ (m : ℕ). height (place m)) walk in omega arith))
    walk_grows (k ∷ ks) n e walk at =
        let here : Inside (place (edge_at g k).from) = subst (λ (m : ℕ). Inside (place m)) (sym walk.1) at in
        let one = step (place (edge_at g k).from) (place (edge_at g k).to) (edge_at g k).tokens (steps k walk.0) here in
        let later = walk_grows ks (edge_at g k).to e walk.2 one.0 in
        let same : height (place (edge_at g k).from) ≡ height (place n) = ap (λ (m : ℕ). height (place m)) walk.1 in
        let first : height (place (edge_at g k).from) + a ≤ height (place (edge_at g k).to) + b * (edge_at g k).tokens = one.1 in
        let rest : height (place (edge_at g k).to) + a * length ks ≤ height (place e) + b * walk_tokens g ks = later.1 in
        (later.0, omega arith)

    -- so closed walks keep the ratio
    pub labelled_keeps : (n v : ℕ) → place n ≡ stays v → inside v → (ks : List ℕ) → IsClosedWalkNear g n ks → a * length ks ≤ b * walk_tokens g ks
    labelled_keeps n v is at ks near =
        let here : Inside (place n) = subst (λ (f : Where). Inside f) (sym is) at in
        let there : Inside (place (walk_start g ks)) = (walk_grows near.1.0 n (walk_start g ks) near.1.1 here).0 in
        let around = (walk_grows ks (walk_start g ks) (walk_start g ks) near.0.closed there).1 in
        omega arith
