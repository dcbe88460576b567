-- An order, or a part of one, has no closed walk, and walks in it end.
use Rattle.std.proofs.Common.{◌≡◌, ℕ, zero, suc, ◌+◌, ◌<◌, ◌≤◌, ◌⊎◌, inl, inr, List, [], ◌∷◌, length, get_or, take, refl, sym, ◌∙◌, subst, arith}
use Rattle.std.proofs.lemmas.Bool.{cases_lt}
use Rattle.lid_base.specs.Lists.{Among}
use Rattle.lid_check_digraph.specs.Graphs.{reads_at, EdgesLead, IsOnLoop, HasNoLoop, IsOrder}
use Rattle.lid_check_digraph.proofs.Lists.{index_among, index_take, among_take}

module _ (g : List (List ℕ)) (order : List ℕ) (earlier : (i b : ℕ) → i < length order → Among b (reads_at g (get_or order i 0)) → Among b (take i order)) where
  -- a walk of n edges to a number comes from one that stands at least n places before it
  pub walk_back : (n a i : ℕ) → i < length order → EdgesLead g n a (get_or order i 0) → (j : ℕ) × (j + n ≤ i) × (j < length order) × (get_or order j 0 ≡ a)
  walk_back zero a i h w = (i, omega arith, h, sym w)
  walk_back (suc n) a i h w =
      let at = index_take w.0 i order (earlier i w.0 h w.2) in
      let back = walk_back n a at.0 at.2 (subst (λ (x : ℕ). EdgesLead g n a x) (sym at.3) w.1) in
      (back.0, omega arith, back.2, back.3)

  pub no_loop_among : ((i : ℕ) → i < length order → Among (get_or order i 0) (take i order) → ⊥) → (k : ℕ) → Among k order → IsOnLoop g k → ⊥
  no_loop_among once k h on =
      let at = index_among k order h in
      let back = walk_back (suc on.0) k at.0 at.1 (subst (λ (x : ℕ). EdgesLead g (suc on.0) k x) (sym at.2) on.1) in
      let early : Among (get_or order back.0 0) (take at.0 order) = among_take order back.0 at.0 (omega arith) back.2 in
      once at.0 at.1 (subst (λ (x : ℕ). Among x (take at.0 order)) (back.3 ∙ sym at.2) early)

-- past the last number nothing is read
pub reads_past : (g : List (List ℕ)) (k : ℕ) → length g ≤ k → reads_at g k ≡ []
reads_past [] k h = refl
reads_past (r ∷ g) zero h = absurd (omega arith)
reads_past (r ∷ g) (suc k) h = reads_past g k (omega arith)

-- what reads is one of the numbers
pub reader_within : (g : List (List ℕ)) (k b : ℕ) → Among b (reads_at g k) → k < length g
reader_within g k b h = by_place (cases_lt k (length g))
  where
    by_place : (k < length g) ⊎ (length g ≤ k) → k < length g
    by_place (inl less) = less
    by_place (inr past) = absurd (subst (λ (r : List ℕ). Among b r) (reads_past g k past) h)

-- what lies on a closed walk is one of the numbers
pub loop_within : (g : List (List ℕ)) (k : ℕ) → IsOnLoop g k → k < length g
loop_within g k on = reader_within g k on.1.0 on.1.2

-- where there is an order there is no closed walk
pub order_has_none : (g : List (List ℕ)) (order : List ℕ) → IsOrder g order → HasNoLoop g
order_has_none g order is k on = no_loop_among g order is.earlier is.once k (is.all k (loop_within g k on)) on

-- where there is an order each walk to a number has fewer edges than there are numbers
pub walks_end : (g : List (List ℕ)) (order : List ℕ) → IsOrder g order → (n a c : ℕ) → c < length g → EdgesLead g n a c → n < length g
walks_end g order is n a c h w =
    let at = index_among c order (is.all c h) in
    let back = walk_back g order is.earlier n a at.0 at.1 (subst (λ (x : ℕ). EdgesLead g n a x) (sym at.2) w) in
    let long = is.long in
    omega arith
