-- Which actor owns each end.
use Rattle.std.proofs.Common.{◌≡◌, ℕ, zero, suc, ◌+◌, ◌*◌, ◌/◌, ◌%◌, ◌<◌, inl, inr, Bool, cond, List, [], ◌∷◌, ◌++◌, length, get_or, refl, sym, ◌∙◌, ap, arith, eq-eqb, ne_eqb, length-append}
use Rattle.std.proofs.lemmas.Bool.{cases_eq}
use Rattle.lid_graph.specs.declared.graph.Edge.{Edge}
use Rattle.lid_graph.specs.declared.graph.Graph.{Graph}
use Rattle.lid_graph.specs.Walks.{edge_at}
use Rattle.lid_system.specs.declared.System.{System}
use Rattle.lid_stations.specs.declared.placement.Placement.{Placement}
use Rattle.lid_stations.specs.Placements.{links_of, station_count}
use Rattle.lid_stations.specs.Stations.{filler, drainer}
use Rattle.lid_stations.specs.Markings.{marking}
use Rattle.lid_stations.specs.Laws.{StationsHaveTwoEdges}
use Rattle.lid_free.specs.Workers.{owner, AreOwners}

get_snoc : (xs : List ℕ) (y : ℕ) → get_or (xs ++ y ∷ []) (length xs) 0 ≡ y
get_snoc [] y = refl
get_snoc (x ∷ xs) y = get_snoc xs y

get_before : (xs : List ℕ) (y i : ℕ) → i < length xs → get_or (xs ++ y ∷ []) i 0 ≡ get_or xs i 0
get_before [] y i within = absurd (omega (arith, within))
get_before (x ∷ xs) y zero within = refl
get_before (x ∷ xs) y (suc i) within = get_before xs y i (omega (arith, within))

module _ (s : System) (p : Placement) (edges : StationsHaveTwoEdges) where
  -- each end belongs to the actor at which its edge begins
  pub edge_owner : (end : ℕ) → end < 2 * station_count p.relays → (edge_at (marking (links_of s) p) end).from ≡ owner (links_of s) p end
  edge_owner end within =
      let station = end / 2 in
      let two = edges s p station (omega (arith, within)) in
      elim (cases_eq (end % 2) 0) [
        | inl even ↦
            (let e : end ≡ 2 * station = omega (arith, even) in
            ap (λ (k : ℕ). (edge_at (marking (links_of s) p) k).from) e ∙ ap (λ (x : Edge). x.from) two.along
            ∙ sym (ap (λ (b : Bool). cond b (filler (links_of s) p station) (drainer (links_of s) p station)) (eq-eqb (end % 2) 0 even)))
        | inr odd ↦
            (let e : end ≡ 2 * station + 1 = omega (arith, odd) in
            ap (λ (k : ℕ). (edge_at (marking (links_of s) p) k).from) e ∙ ap (λ (x : Edge). x.from) two.backward
            ∙ sym (ap (λ (b : Bool). cond b (filler (links_of s) p station) (drainer (links_of s) p station)) (ne_eqb (end % 2) 0 odd)))
      ]

  pub owners_more : (end : ℕ) (old new : List ℕ) (x : ℕ) (g : Graph) → AreOwners s p end old → new ≡ old ++ x ∷ [] → g ≡ marking (links_of s) p → x ≡ (edge_at g end).from → end < 2 * station_count p.relays → AreOwners s p (end + 1) new
  owners_more end old new x g so pushed is read within = record {
    many_are = ap length pushed ∙ length-append old (x ∷ []) ∙ ap (λ (n : ℕ). n + 1) so.many_are;
    each = λ k low.
        ap (λ (l : List ℕ). get_or l k 0) pushed
        ∙ elim (cases_eq k end) [
          | inl same ↦
              (let last = so.many_are in
              ap (λ (n : ℕ). get_or (old ++ x ∷ []) n 0) (same ∙ sym last) ∙ get_snoc old x ∙ read ∙ ap (λ (h : Graph). (edge_at h end).from) is ∙ edge_owner end within
              ∙ ap (owner (links_of s) p) (sym same))
          | inr other ↦ (let last = so.many_are in get_before old x k (omega (arith, low, other, last)) ∙ so.each k (omega (arith, low, other)))
        ];
  }

pub no_owners : (s : System) (p : Placement) (owners : List ℕ) → owners ≡ [] → AreOwners s p 0 owners
no_owners s p owners none = record { many_are = ap length none; each = λ k low. absurd (omega (arith, low)) }
