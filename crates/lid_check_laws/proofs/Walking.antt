-- Walks where each edge stays inside a model, enters an instance or leaves one: what enters is late, and
-- nothing late leaves.
use Rattle.std.proofs.Common.{◌⊎◌, ℕ, zero, suc, ◌+◌, ◌<◌, ◌≤◌, List, inl, inr, subst, arith}
use Rattle.lid_design.specs.Network.{Driver}
use Rattle.lid_design.specs.Columns.{Column}
use Rattle.lid_design.specs.Feeds.{Feeds, EdgesLead}

-- a walk along edges that keep a set stays in it
pub walk_keeps : (drivers : Column → List (Driver Column)) (P : Column → Type 0) → ((a c : Column) → Feeds drivers a c → P a → P c) → (n : ℕ) (a c : Column) → EdgesLead drivers n a c → P a → P c
walk_keeps drivers P keeps zero a c same here = subst P same here
walk_keeps drivers P keeps (suc n) a c walk here = keeps walk.0 c walk.2 (walk_keeps drivers P keeps n a walk.0 walk.1 here)

module _ (Root Late : Column → Type 0) (Height : Column → ℕ → Type 0) where
  -- an edge inside a model
  pub record Inside (a c : Column) : Type 0 where
    pub late : Late a → Late c
    pub root : Root a → Root c
    pub back : Root c → Root a
    pub some : (h : ℕ) × Height c h
    pub lower : (h : ℕ) → Height c h → (low : ℕ) × (low < h) × Height a low

  -- an edge enters an instance of the root, or leaves one
  abbrev pub Edge : Column → Column → Type 0
  Edge a c = Inside a c ⊎ (Root a × Late c) ⊎ ((¬ Late a) × (¬ Root a) × Root c)

  -- a walk whose edges are all inside one model
  record Stays (n : ℕ) (a c : Column) : Type 0 where
    late : Late a → Late c
    root : Root a → Root c
    back : Root c → Root a
    some : 0 < n → (h : ℕ) × Height c h
    lower : (h : ℕ) → Height c h → (low : ℕ) × (low + n ≤ h) × Height a low

  -- where a walk has come
  abbrev Come : ℕ → Column → Column → Type 0
  Come n a c = Stays n a c ⊎ (Late c × (¬ Late a)) ⊎ (Root c × (¬ Root a) × (¬ Late a))

  here : (a : Column) → Stays 0 a a
  here a = record { late = λ x. x; root = λ x. x; back = λ x. x; some = λ none. absurd (omega arith); lower = λ h x. (h, omega arith, x) }

  stays_next : (n : ℕ) (a b c : Column) → Stays n a b → Inside b c → Stays (suc n) a c
  stays_next n a b c stays inside = record {
    late = λ x. inside.late (stays.late x);
    root = λ x. inside.root (stays.root x);
    back = λ x. stays.back (inside.back x);
    some = λ more. inside.some;
    lower = λ h x.
        let step = inside.lower h x in
        let before = stays.lower step.0 step.2 in
        (before.0, (let e = step.1 in let f = before.1 in omega arith), before.2);
  }

  module _ (drivers : Column → List (Driver Column)) (apart : (c : Column) → Root c → Late c → ⊥) (edges : (a c : Column) → Feeds drivers a c → Edge a c) where
    next : (n : ℕ) (a b c : Column) → Come n a b → Edge b c → Come (suc n) a c
    next n a b c (inl stays) (inl inside) = inl (stays_next n a b c stays inside)
    next n a b c (inl stays) (inr (inl enters)) = inr (inl (enters.1, λ late. apart b enters.0 (stays.late late)))
    next n a b c (inl stays) (inr (inr leaves)) = inr (inr (leaves.2, (λ root. leaves.1 (stays.root root)), (λ late. leaves.0 (stays.late late))))
    next n a b c (inr (inl late)) (inl inside) = inr (inl (inside.late late.0, late.1))
    next n a b c (inr (inl late)) (inr (inl enters)) = absurd (apart b enters.0 late.0)
    next n a b c (inr (inl late)) (inr (inr leaves)) = absurd (leaves.0 late.0)
    next n a b c (inr (inr root)) (inl inside) = inr (inr (inside.root root.0, root.1, root.2))
    next n a b c (inr (inr root)) (inr (inl enters)) = inr (inl (enters.1, root.2))
    next n a b c (inr (inr root)) (inr (inr leaves)) = absurd (leaves.1 root.0)

    come : (n : ℕ) (a c : Column) → EdgesLead drivers n a c → Come n a c
    come zero a c same = subst (Come 0 a) same (inl (here a))
    come (suc n) a c walk = next n a walk.0 c (come n a walk.0 walk.1) (edges walk.0 c walk.2)

    -- heights would fall for ever round a closed walk
    falls : (n : ℕ) (c : Column) → Stays (suc n) c c → (most h : ℕ) → h ≤ most → Height c h → ⊥
    falls n c stays zero h le has = let low = stays.lower h has in absurd (let e = low.1 in omega arith)
    falls n c stays (suc most) h le has = let low = stays.lower h has in falls n c stays most low.0 (let e = low.1 in omega arith) low.2

    pub none_closed : (n : ℕ) (c : Column) → EdgesLead drivers (suc n) c c → ⊥
    none_closed n c walk = by (come (suc n) c c walk)
      where
        by : Come (suc n) c c → ⊥
        by (inl stays) = let some = stays.some (omega arith) in falls n c stays some.0 some.0 (omega arith) some.1
        by (inr (inl late)) = late.1 late.0
        by (inr (inr root)) = root.1 root.0

    -- from what is late a walk leads to what is late
    pub stays_late : (n : ℕ) (a c : Column) → EdgesLead drivers n a c → Late a → Late c
    stays_late n a c walk late = by (come n a c walk)
      where
        by : Come n a c → Late c
        by (inl stays) = stays.late late
        by (inr (inl there)) = there.0
        by (inr (inr root)) = absurd (root.2 late)
