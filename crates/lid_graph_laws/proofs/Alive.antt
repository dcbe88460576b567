-- Graphs each closed walk of which has a token.
use Rattle.std.proofs.Common.{◌≡◌, ℕ, zero, suc, ◌+◌, ◌*◌, ◌<◌, ◌≤◌, ◌==◌, ◌||◌, ◌⊎◌, inl, inr, Bool, true, false, List, [], ◌∷◌, length, true≢false, refl, sym, ap, subst, arith}
use Rattle.std.specs.List.{IsDistinct, AllByRecursion, list_any}
use Rattle.std.proofs.lemmas.Bool.{cases_lt, eqb-true}
use Rattle.std.proofs.lemmas.Map.Steps.{length-le_from_distinct_below}
use Rattle.std.proofs.Math.Nat.{mul-le-mul_left}
use Rattle.lid_graph.specs.declared.graph.Graph.{Graph}
use Rattle.lid_graph.specs.Walks.{edge_at, IsPaired, IsWalk, WalksHaveTokens, walk_start, walk_tokens}
use Rattle.lid_graph.specs.Firings.{no_hold, firings}
use Rattle.lid_graph.specs.Ratios.{IsClosedWalkNear}
use Rattle.lid_graph.proofs.Counting.{firings_cap}
use Rattle.lid_graph_laws.specs.Laws.{HasWalkOf, RiseWithoutTokens, NumbersShowTokens, TokensMakeRatios, TokensReachCaps}
use Rattle.lid_graph_laws.proofs.Walking.{walks_keep_back}

-- the transitions that a walk from u meets, u itself first
abbrev pub met : Graph → ℕ → List ℕ → List ℕ
met g u [] = u ∷ []
met g u (k ∷ ks) = u ∷ met g (edge_at g k).to ks

pub length_met : (g : Graph) (u : ℕ) (ks : List ℕ) → length (met g u ks) ≡ suc (length ks)
length_met g u [] = refl
length_met g u (k ∷ ks) = ap suc (length_met g (edge_at g k).to ks)

-- the part of a walk that leads to a transition which it meets
record LeadsTo (g : Graph) (u w most : ℕ) : Type 0 where
  edges : List ℕ
  leads : IsWalk g u edges w
  few : walk_tokens g edges ≤ most

leads_to : (g : Graph) (u v w : ℕ) (ks : List ℕ) → IsWalk g u ks v → list_any (λ x. w == x) (met g u ks) ≡ true → LeadsTo g u w (walk_tokens g ks)
leads_to g u v w [] walk is = by_head (w == u) refl is
  where
    by_head : (b : Bool) → w == u ≡ b → (b || false) ≡ true → LeadsTo g u w 0
    by_head true e is = record { edges = []; leads = sym (eqb-true w u e); few = omega arith }
    by_head false e is = cc
leads_to g u v w (k ∷ ks) walk is = by_head (w == u) refl is (λ is. leads_to g (edge_at g k).to v w ks walk.2 is)
  where
    later : LeadsTo g (edge_at g k).to w (walk_tokens g ks) → LeadsTo g u w (walk_tokens g (k ∷ ks))
    later l = record { edges = k ∷ l.edges; leads = (walk.0, walk.1, l.leads); few = omega (arith, l.few) }

    by_head : (b : Bool) → w == u ≡ b → (b || list_any (λ x. w == x) (met g (edge_at g k).to ks)) ≡ true → (list_any (λ x. w == x) (met g (edge_at g k).to ks) ≡ true → LeadsTo g (edge_at g k).to w (walk_tokens g ks)) → LeadsTo g u w (walk_tokens g (k ∷ ks))
    by_head true e is rest = record { edges = []; leads = sym (eqb-true w u e); few = omega arith }
    by_head false e is rest = later (rest is)

-- where no test passes, all fail
pub all_differ : (w : ℕ) (xs : List ℕ) → list_any (λ x. w == x) xs ≡ false → AllByRecursion (λ x. (w == x) ≡ false) xs
all_differ w [] is = tt
all_differ w (x ∷ xs) is = by_head (w == x) refl is (λ is. all_differ w xs is)
  where
    by_head : (b : Bool) → (w == x) ≡ b → (b || list_any (λ x. w == x) xs) ≡ false → (list_any (λ x. w == x) xs ≡ false → AllByRecursion (λ x. (w == x) ≡ false) xs) → AllByRecursion (λ x. (w == x) ≡ false) (x ∷ xs)
    by_head true e is rest = absurd (true≢false is)
    by_head false e is rest = (e, rest is)

-- without a token, where all closed walks have one, a walk meets no transition twice
meets_once : (g : Graph) → WalksHaveTokens g → (u v : ℕ) (ks : List ℕ) → IsWalk g u ks v → walk_tokens g ks ≡ 0 → IsDistinct (λ x y. x == y) (met g u ks)
unfolding IsDistinct
meets_once g tokens u v [] walk none = (tt, tt)
meets_once g tokens u v (k ∷ ks) walk none = (by_again (list_any (λ x. u == x) (met g (edge_at g k).to ks)) refl, meets_once g tokens (edge_at g k).to v ks walk.2 (omega arith))
  where
    closes : LeadsTo g (edge_at g k).to u (walk_tokens g ks) → ⊥
    closes l =
        let back : IsWalk g (edge_at g k).to l.edges (edge_at g k).from = subst (IsWalk g (edge_at g k).to l.edges) (sym walk.1) l.leads in
        let some : 0 < walk_tokens g (k ∷ l.edges) = tokens (k ∷ l.edges) (record { some = omega arith; closed = (walk.0, refl, back) }) in
        omega (arith, l.few)

    by_again : (b : Bool) → list_any (λ x. u == x) (met g (edge_at g k).to ks) ≡ b → AllByRecursion (λ x. (u == x) ≡ false) (met g (edge_at g k).to ks)
    by_again true is = absurd (closes (leads_to g (edge_at g k).to v u ks walk.2 is))
    by_again false is = all_differ u (met g (edge_at g k).to ks) is

-- what a walk meets lies in the graph
pub met_below : (g : Graph) → IsPaired g → (u v : ℕ) (ks : List ℕ) → IsWalk g u ks v → u < g.nodes → (w : ℕ) → list_any (λ x. w == x) (met g u ks) ≡ true → w < g.nodes
met_below g paired u v [] walk h w is = by_head (w == u) refl is
  where
    by_head : (b : Bool) → w == u ≡ b → (b || false) ≡ true → w < g.nodes
    by_head true e is = subst (λ (n : ℕ). n < g.nodes) (sym (eqb-true w u e)) h
    by_head false e is = cc
met_below g paired u v (k ∷ ks) walk h w is = by_head (w == u) refl is (λ is. met_below g paired (edge_at g k).to v ks walk.2 (paired.ends k walk.0).to w is)
  where
    by_head : (b : Bool) → w == u ≡ b → (b || list_any (λ x. w == x) (met g (edge_at g k).to ks)) ≡ true → (list_any (λ x. w == x) (met g (edge_at g k).to ks) ≡ true → w < g.nodes) → w < g.nodes
    by_head true e is rest = subst (λ (n : ℕ). n < g.nodes) (sym (eqb-true w u e)) h
    by_head false e is rest = rest is

-- so a walk with as many edges as there are transitions has a token
has_token : (g : Graph) → IsPaired g → WalksHaveTokens g → (u v : ℕ) (ks : List ℕ) → IsWalk g u ks v → u < g.nodes → g.nodes ≤ length ks → 0 < walk_tokens g ks
has_token g paired tokens u v ks walk h long = by_tokens (walk_tokens g ks) refl
  where
    by_tokens : (n : ℕ) → walk_tokens g ks ≡ n → 0 < walk_tokens g ks
    by_tokens zero none =
        let most : length (met g u ks) ≤ g.nodes = length-le_from_distinct_below (met g u ks) g.nodes (meets_once g tokens u v ks walk none) (met_below g paired u v ks walk h) in
        absurd (omega (arith, length_met g u ks))
    by_tokens (suc n) is = omega arith

-- a walk cut in two
record IsCut (g : Graph) (u v : ℕ) (ks : List ℕ) (n : ℕ) : Type 0 where
  middle : ℕ
  first : List ℕ
  second : List ℕ
  forth : IsWalk g u first middle
  on : IsWalk g middle second v
  long : length first ≡ n
  whole : length ks ≡ n + length second
  tokens : walk_tokens g ks ≡ walk_tokens g first + walk_tokens g second

cut_walk : (g : Graph) (u v : ℕ) (ks : List ℕ) (n : ℕ) → IsWalk g u ks v → n ≤ length ks → IsCut g u v ks n
cut_walk g u v ks zero walk h = record { middle = u; first = []; second = ks; forth = refl; on = walk; long = refl; whole = omega arith; tokens = omega arith }
cut_walk g u v [] (suc n) walk h = absurd (omega arith)
cut_walk g u v (k ∷ ks) (suc n) walk h = longer (cut_walk g (edge_at g k).to v ks n walk.2 (omega arith))
  where
    longer : IsCut g (edge_at g k).to v ks n → IsCut g u v (k ∷ ks) (suc n)
    longer c = record {
      middle = c.middle;
      first = k ∷ c.first;
      second = c.second;
      forth = (walk.0, walk.1, c.forth);
      on = c.on;
      long = ap suc c.long;
      whole = omega (arith, c.whole);
      tokens = omega (arith, c.tokens);
    }

pub ends_below : (g : Graph) → IsPaired g → (u v : ℕ) (ks : List ℕ) → IsWalk g u ks v → u < g.nodes → v < g.nodes
ends_below g paired u v [] walk h = subst (λ (n : ℕ). n < g.nodes) walk h
ends_below g paired u v (k ∷ ks) walk h = ends_below g paired (edge_at g k).to v ks walk.2 (paired.ends k walk.0).to

-- a number is at most its product with one that is not 0
at_most_product : (n m : ℕ) → 1 ≤ m → n ≤ n * m
at_most_product n m some = let more : n * 1 ≤ n * m = mul-le-mul_left n some in omega arith

-- and each walk has fewer edges than there are transitions for each token and once more
edges_for_tokens : (g : Graph) → IsPaired g → WalksHaveTokens g → (most u v : ℕ) (ks : List ℕ) → IsWalk g u ks v → u < g.nodes → walk_tokens g ks ≤ most → length ks < g.nodes * suc (walk_tokens g ks)
edges_for_tokens g paired tokens zero u v ks walk h few = by_length (cases_lt (length ks) g.nodes)
  where
    by_length : (length ks < g.nodes) ⊎ (g.nodes ≤ length ks) → length ks < g.nodes * suc (walk_tokens g ks)
    by_length (inl less) = omega (arith, at_most_product g.nodes (suc (walk_tokens g ks)) (omega arith))
    by_length (inr more) = absurd (omega (arith, has_token g paired tokens u v ks walk h more))
edges_for_tokens g paired tokens (suc most) u v ks walk h few = by_length (cases_lt (length ks) g.nodes) (λ m n ls on below less. edges_for_tokens g paired tokens most m n ls on below less)
  where
    Shorter : Type 0
    Shorter = (m n : ℕ) (ls : List ℕ) → IsWalk g m ls n → m < g.nodes → walk_tokens g ls ≤ most → length ls < g.nodes * suc (walk_tokens g ls)

    by_cut : Shorter → IsCut g u v ks g.nodes → length ks < g.nodes * suc (walk_tokens g ks)
    by_cut shorter c =
        let some : 0 < walk_tokens g c.first = has_token g paired tokens u c.middle c.first c.forth h (omega (arith, c.long)) in
        let on : length c.second < g.nodes * suc (walk_tokens g c.second) = shorter c.middle v c.second c.on (ends_below g paired u c.middle c.first c.forth h) (omega (arith, c.tokens)) in
        let more : g.nodes * suc (suc (walk_tokens g c.second)) ≤ g.nodes * suc (walk_tokens g ks) = mul-le-mul_left g.nodes (omega (arith, c.tokens)) in
        omega (arith, c.whole)

    by_length : (length ks < g.nodes) ⊎ (g.nodes ≤ length ks) → Shorter → length ks < g.nodes * suc (walk_tokens g ks)
    by_length (inl less) shorter = omega (arith, at_most_product g.nodes (suc (walk_tokens g ks)) (omega arith))
    by_length (inr more) shorter = by_cut shorter (cut_walk g u v ks g.nodes walk more)

-- a walk that ends in the graph begins there
pub begins_below : (g : Graph) → IsPaired g → (u v : ℕ) (ks : List ℕ) → IsWalk g u ks v → v < g.nodes → u < g.nodes
begins_below g paired u v [] walk h = subst (λ (n : ℕ). n < g.nodes) (sym walk) h
begins_below g paired u v (k ∷ ks) walk h = subst (λ (n : ℕ). n < g.nodes) walk.1 (paired.ends k walk.0).from

pub tokens_reach_caps : TokensReachCaps
tokens_reach_caps g cap k v paired fit tokens h late = by_order (cases_lt (firings g cap no_hold k v) (cap v))
  where
    by_walk : firings g cap no_hold k v < cap v → HasWalkOf g v k (firings g cap no_hold k v) → ⊥
    by_walk less w =
        let short : length w.edges < g.nodes * suc (walk_tokens g w.edges) = edges_for_tokens g paired tokens (walk_tokens g w.edges) w.start v w.edges w.leads (begins_below g paired w.start v w.edges w.leads h) (omega arith) in
        let more : g.nodes * suc (walk_tokens g w.edges) ≤ g.nodes * cap v = mul-le-mul_left g.nodes (omega (arith, w.holds)) in
        omega (arith, w.long)

    by_order : (firings g cap no_hold k v < cap v) ⊎ (cap v ≤ firings g cap no_hold k v) → firings g cap no_hold k v ≡ cap v
    by_order (inl less) = absurd (by_walk less (walks_keep_back g cap k v fit less))
    by_order (inr more) = omega (arith, firings_cap g cap no_hold k v)

pub tokens_make_ratios : TokensMakeRatios
tokens_make_ratios g v p q tokens ratio = by_walk ratio.some
  where
    by_p : (n : ℕ) → p ≡ n → (ks : List ℕ) → 0 < walk_tokens g ks → q * walk_tokens g ks ≡ p * length ks → 1 ≤ p
    by_p zero is ks some equal =
        let none : p * length ks ≡ 0 * length ks = ap (λ (m : ℕ). m * length ks) is in
        let more : q * 1 ≤ q * walk_tokens g ks = mul-le-mul_left q some in
        absurd (omega (arith, ratio.positive))
    by_p (suc n) is ks some equal = omega arith

    by_walk : (ks : List ℕ) × IsClosedWalkNear g v ks × (q * walk_tokens g ks ≡ p * length ks) → 1 ≤ p
    by_walk w = by_p p refl w.0 (tokens w.0 w.1.0) w.2

-- along a walk without tokens the numbers rise with each edge
rises_along : (g : Graph) (number : ℕ → ℕ) → RiseWithoutTokens g number → (u v : ℕ) (ks : List ℕ) → IsWalk g u ks v → walk_tokens g ks ≡ 0 → number u + length ks ≤ number v
rises_along g number rise u v [] walk none = let same : number u ≡ number v = ap number walk in omega arith
rises_along g number rise u v (k ∷ ks) walk none =
    let on : number (edge_at g k).to + length ks ≤ number v = rises_along g number rise (edge_at g k).to v ks walk.2 (omega arith) in
    let up : number (edge_at g k).from < number (edge_at g k).to = rise k walk.0 (omega arith) in
    let same : number (edge_at g k).from ≡ number u = ap number walk.1 in
    omega arith

pub numbers_show_tokens : NumbersShowTokens
numbers_show_tokens g number rise ks closed = by_tokens (walk_tokens g ks) refl
  where
    by_tokens : (n : ℕ) → walk_tokens g ks ≡ n → 0 < walk_tokens g ks
    by_tokens zero none = absurd (omega (arith, rises_along g number rise (walk_start g ks) (walk_start g ks) ks closed.closed none, closed.some))
    by_tokens (suc n) is = omega arith
