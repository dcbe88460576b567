-- Forests whose labels are kept, merged, and in the end those of the components.
use Rattle.std.proofs.Common.{◌≡◌, ℕ, zero, suc, ◌+◌, ◌<◌, ◌≤◌, ◌≢◌, ◌⊎◌, inl, inr, min, max, List, [], ◌∷◌, length, get_or, refl, sym, ◌∙◌, ap, subst, get_or-set_same, get_or-set_other, arith}
use Rattle.std.proofs.Math.ListN.{set, length-set}
use Rattle.std.proofs.lemmas.Bool.{cases_eq, cases_lt, eq-eqb, ne_eqb}
use Rattle.lid_graph.specs.declared.graph.Graph.{Graph}
use Rattle.lid_graph.specs.Walks.{edge_at, IsPaired, IsWalk, IsJoined, IsLeastJoined}
use Rattle.lid_graph.specs.Forests.{IsForest, IsLabelled, relabel, merged, IsLinked}
use Rattle.lid_graph.proofs.Journeys.{joined_step, joined_back}

-- an entry of a list after a write: the new one at its place, the old ones elsewhere
at_write : (p : List ℕ) (i x w : ℕ) (P : ℕ → Type 0) → i < length p → (w ≡ i → P x) → (w ≢ i → P (get_or p w 0)) → P (get_or (set p i x) w 0)
at_write p i x w P h here elsewhere = by_place (cases_eq w i)
  where
    by_place : (w ≡ i) ⊎ (w ≡ i → ⊥) → P (get_or (set p i x) w 0)
    by_place (inl is) = subst (λ (k : ℕ). P (get_or (set p i x) k 0)) (sym is) (rw get_or-set_same (here is))
    by_place (inr other) = rw get_or-set_other (elsewhere other)

-- a write of no more than the place keeps a forest
pub forest_write : (p : List ℕ) (i x : ℕ) → IsForest p → i < length p → x ≤ i → IsForest (set p i x)
forest_write p i x forest h low w within =
    at_write p i x w (λ (y : ℕ). y ≤ w) h (λ is. omega arith) (λ other. forest w (omega (arith, length-set {A = ℕ})))

-- a grandparent in place of a parent keeps the labels
pub label_halved : (p : List ℕ) (label : ℕ → ℕ) (v : ℕ) → IsForest p → IsLabelled p label → v < length p → IsLabelled (set p v (get_or p (get_or p v 0) 0)) label
label_halved p label v forest labelled h = record {
  parent = λ w within. at_write p v (get_or p (get_or p v 0) 0) w (λ (y : ℕ). label y ≡ label w) h
      (λ is. labelled.parent (get_or p v 0) (omega (arith, forest v h)) ∙ (labelled.parent v h ∙ ap label (sym is)))
      (λ other. labelled.parent w (omega (arith, length-set {A = ℕ})));
  root = λ w within. at_write p v (get_or p (get_or p v 0) 0) w (λ (y : ℕ). y ≡ w → label w ≡ w) h
      (λ is e.
      let low : get_or p v 0 ≤ v = forest v h in
      let lower : get_or p (get_or p v 0) 0 ≤ get_or p v 0 = forest (get_or p v 0) (omega arith) in
      let same : get_or p v 0 ≡ v = omega arith in
      subst (λ (n : ℕ). label n ≡ n) (sym is) (labelled.root v h same))
      (λ other e. labelled.root w (omega (arith, length-set {A = ℕ})) e);
}

module _ (p : List ℕ) (label : ℕ → ℕ) (forest : IsForest p) (labelled : IsLabelled p label) where
  label_below : (n v : ℕ) → v < n → v < length p → (label v ≤ v) × (label (label v) ≡ label v)
  label_below zero v h within = absurd (omega arith)
  label_below (suc n) v h within = by_root (λ u less inside. label_below n u less inside) (cases_eq (get_or p v 0) v)
    where
      by_root : ((u : ℕ) → u < n → (u < length p) → (label u ≤ u) × (label (label u) ≡ label u)) → (get_or p v 0 ≡ v) ⊎ (get_or p v 0 ≡ v → ⊥) → (label v ≤ v) × (label (label v) ≡ label v)
      by_root earlier (inl is) = let own : label v ≡ v = labelled.root v within is in (omega arith, ap label own)
      by_root earlier (inr other) =
          let low : get_or p v 0 ≤ v = forest v within in
          let up : label (get_or p v 0) ≡ label v = labelled.parent v within in
          let rest = earlier (get_or p v 0) (omega arith) (omega arith) in
          (omega (arith, rest.0), ap label (sym up) ∙ (rest.1 ∙ up))

  pub label_le : (v : ℕ) → v < length p → label v ≤ v
  label_le v within = (label_below (suc v) v (omega arith) within).0

  pub label_own : (v : ℕ) → v < length p → label (label v) ≡ label v
  label_own v within = (label_below (suc v) v (omega arith) within).1

relabel_same : (high low x : ℕ) → x ≡ high → relabel high low x ≡ low
relabel_same high low x is = rw (eq-eqb x high is) refl

relabel_other : (high low x : ℕ) → (x ≡ high → ⊥) → relabel high low x ≡ x
relabel_other high low x other = rw (ne_eqb x high other) refl

relabel_low : (high low : ℕ) → relabel high low low ≡ low
relabel_low high low = by_case (cases_eq low high)
  where
    by_case : (low ≡ high) ⊎ (low ≡ high → ⊥) → relabel high low low ≡ low
    by_case (inl is) = relabel_same high low low is
    by_case (inr other) = relabel_other high low low other

-- a root under a lesser one
pub label_put : (p : List ℕ) (label : ℕ → ℕ) (high low : ℕ) → IsLabelled p label → high < length p → label high ≡ high → label low ≡ low → IsLabelled (set p high low) (λ w. relabel high low (label w))
label_put p label high low labelled h own_high own_low = record {
  parent = λ w within. at_write p high low w (λ (y : ℕ). relabel high low (label y) ≡ relabel high low (label w)) h
      (λ is. ap (relabel high low) own_low ∙ (relabel_low high low ∙ sym (relabel_same high low (label w) (ap label is ∙ own_high))))
      (λ other. ap (relabel high low) (labelled.parent w (omega (arith, length-set {A = ℕ}))));
  root = λ w within. at_write p high low w (λ (y : ℕ). y ≡ w → relabel high low (label w) ≡ w) h
      (λ is e. relabel_same high low (label w) (ap label is ∙ own_high) ∙ e)
      (λ other e.
      let own : label w ≡ w = labelled.root w (omega (arith, length-set {A = ℕ})) e in
      relabel_other high low (label w) (λ same. other (sym own ∙ same)) ∙ own);
}

-- a root is its own label
root_own : (p : List ℕ) (label : ℕ → ℕ) (u root : ℕ) → IsForest p → IsLabelled p label → u < length p → root ≡ label u → label root ≡ root
root_own p label u root forest labelled within is = ap label is ∙ (label_own p label forest labelled u within ∙ sym is)

-- the trees of u and v made one, by a write of the lesser root at the greater
label_merged : (p : List ℕ) (label : ℕ → ℕ) (u v high low : ℕ) → IsLabelled p label → high < length p → label high ≡ high → label low ≡ low → high ≡ max (label u) (label v) → low ≡ min (label u) (label v) → IsLabelled (set p high low) (merged label u v)
label_merged p label u v high low labelled within own_high own_low is_high is_low =
    subst (λ (h : ℕ). IsLabelled (set p high low) (λ w. relabel h (min (label u) (label v)) (label w))) is_high
    (subst (λ (l : ℕ). IsLabelled (set p high low) (λ w. relabel high l (label w))) is_low (label_put p label high low labelled within own_high own_low))

pub label_merged_left : (p : List ℕ) (label : ℕ → ℕ) (u v left right : ℕ) → IsForest p → IsLabelled p label → u < length p → v < length p → left ≡ label u → right ≡ label v → left < right → IsLabelled (set p right left) (merged label u v)
label_merged_left p label u v left right forest labelled hu hv is_left is_right less =
    let below : label v ≤ v = label_le p label forest labelled v hv in
    label_merged p label u v right left labelled (omega arith) (root_own p label v right forest labelled hv is_right) (root_own p label u left forest labelled hu is_left) (omega arith) (omega arith)

pub label_merged_right : (p : List ℕ) (label : ℕ → ℕ) (u v left right : ℕ) → IsForest p → IsLabelled p label → u < length p → v < length p → left ≡ label u → right ≡ label v → right ≤ left → IsLabelled (set p left right) (merged label u v)
label_merged_right p label u v left right forest labelled hu hv is_left is_right less =
    let below : label u ≤ u = label_le p label forest labelled u hu in
    label_merged p label u v left right labelled (omega arith) (root_own p label u left forest labelled hu is_left) (root_own p label v right forest labelled hv is_right) (omega arith) (omega arith)

-- before any edge each transition is its own label
pub linked_none : (g : Graph) (p : List ℕ) → length p ≡ g.nodes → ((v : ℕ) → v < g.nodes → get_or p v 0 ≡ v) → IsLinked g 0 p (λ v. v)
linked_none g p long own = record {
  labelled = record { parent = λ v h. own v (omega arith); root = λ v h e. refl };
  joined = λ v h. ([], refl);
  same = λ k h. absurd (omega arith);
}

-- one more edge
module _ (g : Graph) (paired : IsPaired g) (label : ℕ → ℕ) (i : ℕ) (within : i < length g.edges) where
  abbrev u : ℕ
  u = (edge_at g i).from

  abbrev v : ℕ
  v = (edge_at g i).to

  there : IsJoined g u v
  there = (i ∷ [], (within, refl, refl))

  back_from : (a b : ℕ) → IsJoined g a b → IsJoined g b a
  back_from a b j = joined_back g paired j.0 a b j.1

  -- the roots of the two ends are joined
  across : ((w : ℕ) → w < g.nodes → IsJoined g w (label w)) → IsJoined g (label u) (label v)
  across joined =
      joined_step g (label u) u (label v) (back_from u (label u) (joined u ((paired.ends i within).from)))
      (joined_step g u v (label v) there (joined v ((paired.ends i within).to)))

  to_low : ((w : ℕ) → w < g.nodes → IsJoined g w (label w)) → (label u ≤ label v) ⊎ (label v ≤ label u) → IsJoined g (max (label u) (label v)) (min (label u) (label v))
  to_low joined (inl le) =
      let high : label v ≡ max (label u) (label v) = omega arith in
      let low : label u ≡ min (label u) (label v) = omega arith in
      subst (λ (h : ℕ). IsJoined g h (min (label u) (label v))) high (subst (λ (l : ℕ). IsJoined g (label v) l) low (back_from (label u) (label v) (across joined)))
  to_low joined (inr le) =
      let high : label u ≡ max (label u) (label v) = omega arith in
      let low : label v ≡ min (label u) (label v) = omega arith in
      subst (λ (h : ℕ). IsJoined g h (min (label u) (label v))) high (subst (λ (l : ℕ). IsJoined g (label u) l) low (across joined))

  one_label : (label u ≤ label v) ⊎ (label v ≤ label u) → merged label u v u ≡ merged label u v v
  one_label (inl le) =
      let high : label v ≡ max (label u) (label v) = omega arith in
      let low : label u ≡ min (label u) (label v) = omega arith in
      ap (relabel (max (label u) (label v)) (min (label u) (label v))) low ∙ (relabel_low (max (label u) (label v)) (min (label u) (label v)) ∙ sym (relabel_same (max (label u) (label v)) (min (label u) (label v)) (label v) high))
  one_label (inr le) =
      let high : label u ≡ max (label u) (label v) = omega arith in
      let low : label v ≡ min (label u) (label v) = omega arith in
      relabel_same (max (label u) (label v)) (min (label u) (label v)) (label u) high ∙ (sym (relabel_low (max (label u) (label v)) (min (label u) (label v))) ∙ sym (ap (relabel (max (label u) (label v)) (min (label u) (label v))) low))

  either : (label u ≤ label v) ⊎ (label v ≤ label u)
  either = by_order (cases_lt (label u) (label v))
    where
      by_order : (label u < label v) ⊎ (label v ≤ label u) → (label u ≤ label v) ⊎ (label v ≤ label u)
      by_order (inl l) = inl (omega arith)
      by_order (inr g) = inr g

  pub linked_more : (p q : List ℕ) → IsLinked g i p label → IsLabelled q (merged label u v) → IsLinked g (i + 1) q (merged label u v)
  linked_more p q linked labelled = record {
    labelled = labelled;
    joined = λ w h. joined_label w h (cases_eq (label w) (max (label u) (label v)));
    same = λ k h. same_label k (cases_lt k i) h;
  }
    where
      joined_label : (w : ℕ) → w < g.nodes → (label w ≡ max (label u) (label v)) ⊎ (label w ≡ max (label u) (label v) → ⊥) → IsJoined g w (merged label u v w)
      joined_label w h (inl is) =
          subst (λ (x : ℕ). IsJoined g w x) (sym (relabel_same (max (label u) (label v)) (min (label u) (label v)) (label w) is))
          (joined_step g w (max (label u) (label v)) (min (label u) (label v)) (subst (λ (x : ℕ). IsJoined g w x) is (linked.joined w h)) (to_low linked.joined either))
      joined_label w h (inr other) =
          subst (λ (x : ℕ). IsJoined g w x) (sym (relabel_other (max (label u) (label v)) (min (label u) (label v)) (label w) other)) (linked.joined w h)

      same_label : (k : ℕ) → (k < i) ⊎ (i ≤ k) → k < i + 1 → merged label u v (edge_at g k).from ≡ merged label u v (edge_at g k).to
      same_label k (inl l) h = ap (relabel (max (label u) (label v)) (min (label u) (label v))) (linked.same k l)
      same_label k (inr l) h =
          let this : i ≡ k = omega arith in
          subst (λ (n : ℕ). merged label u v (edge_at g n).from ≡ merged label u v (edge_at g n).to) this (one_label either)

-- in the end labels are the least of their components
module _ (g : Graph) (paired : IsPaired g) (p : List ℕ) (label : ℕ → ℕ) (long : length p ≡ g.nodes) (forest : IsForest p) (linked : IsLinked g (length g.edges) p label) where
  along : (ks : List ℕ) (v w : ℕ) → v < g.nodes → IsWalk g v ks w → (label v ≡ label w) × (w < g.nodes)
  along [] v w h walk = (ap label walk, subst (λ (n : ℕ). n < g.nodes) walk h)
  along (k ∷ ks) v w h walk =
      let rest = along ks (edge_at g k).to w ((paired.ends k walk.0).to) walk.2 in
      (ap label (sym walk.1) ∙ (linked.same k walk.0 ∙ rest.0), rest.1)

  pub least_label : (v : ℕ) → v < g.nodes → IsLeastJoined g v (label v)
  least_label v h = record {
    joined = linked.joined v h;
    least = λ w joined.
        let there = along joined.0 v w h joined.1 in
        let low : label w ≤ w = label_le p label forest linked.labelled w (omega (arith, there.1)) in
        omega (arith, there.0);
  }

-- a transition whose parent has its root as parent, or is its root
flat_entry : (p : List ℕ) (label : ℕ → ℕ) (v : ℕ) → IsForest p → IsLabelled p label → v < length p → ((w : ℕ) → w < v → get_or p w 0 ≡ label w) → (get_or p v 0 ≡ v) ⊎ (get_or p v 0 ≡ v → ⊥) → get_or p (get_or p v 0) 0 ≡ label v
flat_entry p label v forest labelled h flat (inl is) = ap (λ (n : ℕ). get_or p n 0) is ∙ (is ∙ sym (labelled.root v h is))
flat_entry p label v forest labelled h flat (inr other) =
    let low : get_or p v 0 ≤ v = forest v h in
    flat (get_or p v 0) (omega arith) ∙ labelled.parent v h

pub flat_more : (p : List ℕ) (label : ℕ → ℕ) (v : ℕ) → IsForest p → IsLabelled p label → v < length p → ((w : ℕ) → w < v → get_or p w 0 ≡ label w) → (w : ℕ) → w < v + 1 → get_or (set p v (get_or p (get_or p v 0) 0)) w 0 ≡ label w
flat_more p label v forest labelled h flat w within =
    at_write p v (get_or p (get_or p v 0) 0) w (λ (y : ℕ). y ≡ label w) h
    (λ is. flat_entry p label v forest labelled h flat (cases_eq (get_or p v 0) v) ∙ ap label (sym is))
    (λ other. flat w (omega arith))
