-- Each transition has a lag: short walks that end there are looked for that raise it, until there is none.
use Rattle.std.proofs.Common.{◌≡◌, ℕ, zero, suc, ◌+◌, ◌*◌, ◌-◌, ◌<◌, ◌≤◌, ◌⊎◌, inl, inr, List, [], ◌∷◌, ◌++◌, length, refl, sym, ◌∙◌, ap, subst, arith}
use Rattle.std.proofs.lemmas.Bool.{cases_lt}
use Rattle.std.proofs.Math.Nat.{mul-le-mul_left}
use Rattle.lid_graph.specs.declared.graph.Graph.{Graph}
use Rattle.lid_graph.specs.Walks.{edge_at, IsPaired, IsWalk, IsJoined, walk_start, walk_tokens}
use Rattle.lid_graph.specs.Ratios.{IsRatio, IsLag}
use Rattle.lid_graph.proofs.Journeys.{joined_back}
use Rattle.lid_graph_ratio_laws.proofs.Splitting.{GoesRound, IsShortened, goes_round, shortened, closed_at}
use Rattle.lid_graph_laws.proofs.Alive.{begins_below}
use Rattle.lid_graph_ratio_laws.proofs.Deciding.{Exceeds, NoneExceeds, some_or_all, exceeds_or_none}

-- a short walk that ends at v has so many more edges than tokens
pub record IsOfShort (g : Graph) (p q v most : ℕ) : Type 0 where
  pub start : ℕ
  pub edges : List ℕ
  pub leads : IsWalk g start edges v
  pub short : length edges ≤ g.nodes - 1
  pub same : p * length edges ≡ most + q * walk_tokens g edges

-- and none has more
pub record IsShortLag (g : Graph) (p q v most : ℕ) : Type 0 where
  pub of : IsOfShort g p q v most
  pub all : (u : ℕ) → u < g.nodes → NoneExceeds g p q (g.nodes - 1) u v most 0

raised : (g : Graph) (p q u v least : ℕ) → (x : Exceeds g p q (g.nodes - 1) u v least 0) → IsOfShort g p q v (p * length x.edges - q * walk_tokens g x.edges)
raised g p q u v least x = record { start = u; edges = x.edges; leads = x.leads; short = x.short; same = omega (arith, x.more) }

-- the lag of a short walk is at most p for each other transition
bounded : (g : Graph) (p q v most : ℕ) → IsOfShort g p q v most → most ≤ p * (g.nodes - 1)
bounded g p q v most o =
    let edges : p * length o.edges ≤ p * (g.nodes - 1) = mul-le-mul_left p o.short in
    omega (arith, o.same)

climb : (g : Graph) (p q v most least : ℕ) → IsOfShort g p q v least → p * (g.nodes - 1) < least + most → (n : ℕ) × IsShortLag g p q v n
climb g p q v zero least o room = absurd (omega (arith, bounded g p q v least o))
climb g p q v (suc most) least o room = by_more (some_or_all (λ u. Exceeds g p q (g.nodes - 1) u v least 0) (λ u. NoneExceeds g p q (g.nodes - 1) u v least 0) g.nodes (λ u h. exceeds_or_none g p q (g.nodes - 1) u v least 0)) (λ n o h. climb g p q v most n o h)
  where
    by_more : ((u : ℕ) × (u < g.nodes) × Exceeds g p q (g.nodes - 1) u v least 0) ⊎ ((u : ℕ) → u < g.nodes → NoneExceeds g p q (g.nodes - 1) u v least 0)
        → ((n : ℕ) → IsOfShort g p q v n → p * (g.nodes - 1) < n + most → (n : ℕ) × IsShortLag g p q v n) → (n : ℕ) × IsShortLag g p q v n
    by_more (inl x) rest =
        let up = raised g p q x.0 v least x.2 in
        rest (p * length x.2.edges - q * walk_tokens g x.2.edges) up (omega (arith, x.2.more))
    by_more (inr none) rest = (least, record { of = o; all = none })

-- no walk at all has more
lag_all : (g : Graph) → IsPaired g → (p q v least : ℕ) → v < g.nodes → IsRatio g v p q → IsShortLag g p q v least
    → (most u : ℕ) (ks : List ℕ) → IsWalk g u ks v → length ks ≤ most → p * length ks ≤ least + q * walk_tokens g ks
lag_all g paired p q v least below ratio short zero u ks walk few =
    let bound : 0 + p * length ks ≤ least + q * walk_tokens g ks = short.all u (begins_below g paired u v ks walk below) ks walk (omega arith) in
    omega arith
lag_all g paired p q v least below ratio short (suc most) u ks walk few = by_length (cases_lt (length ks) g.nodes) (λ ls on less. lag_all g paired p q v least below ratio short most u ls on less)
  where
    there : u < g.nodes
    there = begins_below g paired u v ks walk below

    by_round : GoesRound g u v ks → ((ls : List ℕ) → IsWalk g u ls v → length ls ≤ most → p * length ls ≤ least + q * walk_tokens g ls) → p * length ks ≤ least + q * walk_tokens g ks
    by_round r shorter =
        let s = shortened g u v ks r in
        let rest : p * length (r.first ++ r.last) ≤ least + q * walk_tokens g (r.first ++ r.last) = shorter (r.first ++ r.last) s.leads (omega (arith, s.long, r.some)) in
        let closed = closed_at g r.middle r.round r.around r.some in
        let near : IsJoined g v (walk_start g r.round) = subst (IsJoined g v) (sym closed.0) (joined_back g paired r.last r.middle v r.on) in
        let around : p * length r.round ≤ q * walk_tokens g r.round = ratio.all r.round (closed.1, near) in
        let edges : p * length ks ≡ p * length (r.first ++ r.last) + p * length r.round = ap (λ (n : ℕ). p * n) s.long ∙ omega arith in
        let tokens : q * walk_tokens g ks ≡ q * walk_tokens g (r.first ++ r.last) + q * walk_tokens g r.round = ap (λ (n : ℕ). q * n) s.tokens ∙ omega arith in
        omega arith

    by_length : (length ks < g.nodes) ⊎ (g.nodes ≤ length ks) → ((ls : List ℕ) → IsWalk g u ls v → length ls ≤ most → p * length ls ≤ least + q * walk_tokens g ls) → p * length ks ≤ least + q * walk_tokens g ks
    by_length (inl less) shorter =
        let bound : 0 + p * length ks ≤ least + q * walk_tokens g ks = short.all u there ks walk (omega arith) in
        omega arith
    by_length (inr more) shorter = by_round (goes_round g paired u v ks walk there more) shorter

-- the lag of a transition, of at most p for each other
pub record HasLag (g : Graph) (p q v : ℕ) : Type 0 where
  pub most : ℕ
  pub is : IsLag g p q v most
  pub few : most ≤ p * (g.nodes - 1)

pub has_lag : (g : Graph) → IsPaired g → (p q v : ℕ) → v < g.nodes → IsRatio g v p q → HasLag g p q v
has_lag g paired p q v below ratio = made (climb g p q v (suc (p * (g.nodes - 1))) 0 (record { start = v; edges = []; leads = refl; short = omega arith; same = omega arith }) (omega arith))
  where
    made : (n : ℕ) × IsShortLag g p q v n → HasLag g p q v
    made s = record {
      most = s.0;
      is = record {
        all = λ u ks walk. lag_all g paired p q v s.0 below ratio s.1 (length ks) u ks walk (omega arith);
        some = (s.1.of.start, s.1.of.edges, s.1.of.leads, s.1.of.same);
      };
      few = bounded g p q v s.0 s.1.of;
    }
