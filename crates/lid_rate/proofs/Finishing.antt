-- What the making of a part needs.
use Rattle.std.proofs.Common.{◌≡◌, ℕ, ◌+◌, ◌-◌, ◌*◌, ◌<◌, ◌≤◌, ◌==◌, ◌&&◌, Bool, true, false, length, refl, sym, ◌∙◌, ap, arith}
use Rattle.std.proofs.lemmas.Bool.{eq-eqb, eqb-true, and_parts}
use Rattle.std.proofs.Math.Nat.{mul-le-mul_right}
use Rattle.lid_graph.specs.declared.graph.Edge.{Edge}
use Rattle.lid_graph.specs.declared.graph.Graph.{Graph}
use Rattle.lid_graph.specs.Walks.{edge_at, IsPaired}
use Rattle.lid_rate.specs.Rates.{IsLoopAt, is_loop_edge}

pub lead_enough : (p q s n : ℕ) → s ≡ q - p → q * n ≤ s * n + p * n
lead_enough p q s n is = let scaled : q * n ≤ (s + p) * n = mul-le-mul_right n (omega arith) in omega arith

-- an edge of a transition to itself comes at last
pub loop_somewhere : (g : Graph) (v : ℕ) → IsPaired g → v < g.nodes → (i : ℕ) × IsLoopAt g v i
loop_somewhere g v paired h = let self = paired.self v h in (self.0, record { within = self.1; from = self.2; to = self.3; token = self.4 })

pub loop_told : (g : Graph) (v k : ℕ) (e : Edge) (b : Bool) → e ≡ edge_at g k → b ≡ is_loop_edge e v → k < length g.edges → b ≡ true → IsLoopAt g v k
loop_told g v k e b e_is b_is h holds =
    let all : is_loop_edge (edge_at g k) v ≡ true = ap (λ (f : Edge). is_loop_edge f v) (sym e_is) ∙ (sym b_is ∙ holds) in
    let first = and_parts ((edge_at g k).from == v) (((edge_at g k).to == v) && ((edge_at g k).tokens == 1)) all in
    let rest = and_parts ((edge_at g k).to == v) ((edge_at g k).tokens == 1) first.1 in
    record { within = h; from = eqb-true (edge_at g k).from v first.0; to = eqb-true (edge_at g k).to v rest.0; token = eqb-true (edge_at g k).tokens 1 rest.1 }

pub no_loop_told : (g : Graph) (v k : ℕ) (e : Edge) (b : Bool) → e ≡ edge_at g k → b ≡ is_loop_edge e v → b ≡ false → IsLoopAt g v k → ⊥
no_loop_told g v k e b e_is b_is fails loop =
    let a : (edge_at g k).from == v ≡ true = eq-eqb (edge_at g k).from v loop.from in
    let c : (edge_at g k).to == v ≡ true = eq-eqb (edge_at g k).to v loop.to in
    let d : (edge_at g k).tokens == 1 ≡ true = eq-eqb (edge_at g k).tokens 1 loop.token in
    let all : is_loop_edge (edge_at g k) v ≡ true = rw (a, c, d) refl in
    let same : b ≡ is_loop_edge (edge_at g k) v = b_is ∙ ap (λ (f : Edge). is_loop_edge f v) e_is in
    cc
