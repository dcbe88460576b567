-- The chain of edges that stand for transitions, one edge on, and where it closes.
use Rattle.std.proofs.Common.{◌≡◌, ℕ, zero, suc, ◌+◌, ◌-◌, ◌<◌, ◌≤◌, ◌≢◌, ◌⊎◌, inl, inr, List, [], ◌∷◌, ◌++◌, length, get_or, set, drop, reverse, Option, Some, None, refl, sym, ◌∙◌, ap, subst, arith}
use Rattle.std.proofs.lemmas.Bool.{cases_eq, cases_lt}
use Rattle.std.proofs.lemmas.List.{get_or-set_same, get_or-set_other, length-set, get_or_append_left, get_or-drop, length-append, length-drop}
use Rattle.std.proofs.Math.Seq.{get_or-append_seam}
use Rattle.std.proofs.lemmas.List.Sums.{sum_by-set}
use Rattle.lid_graph.specs.declared.graph.Graph.{Graph}
use Rattle.lid_graph.specs.Walks.{edge_at}
use Rattle.lid_rate_ratio.specs.WalksBack.{IsPredecessorWalk, predecessor_of}
use Rattle.lid_rate_ratio.specs.Cycles.{ArePredecessors, IsTrace, unplaced, ClosesUp}

last_chain_more : (g : Graph) (last : List (Option ℕ)) (ks : List ℕ) (v u k : ℕ) → IsPredecessorWalk g last v ks u → predecessor_of last u ≡ Some k → IsPredecessorWalk g last v (ks ++ k ∷ []) (edge_at g k).from
last_chain_more g last [] v u k chain e = (ap (λ (n : ℕ). get_or last n None) chain ∙ e, refl)
last_chain_more g last (l ∷ ks) v u k chain e = (chain.0, last_chain_more g last ks (edge_at g l).from u k chain.1 e)

last_chain_drop : (g : Graph) (last : List (Option ℕ)) → ArePredecessors g last → (ks : List ℕ) (i v u : ℕ) → IsPredecessorWalk g last v ks u → i < length ks → IsPredecessorWalk g last (edge_at g (get_or ks i 0)).to (drop i ks) u
last_chain_drop g last lasts [] i v u chain h = absurd (omega arith)
last_chain_drop g last lasts (k ∷ ks) zero v u chain h = subst (λ (n : ℕ). IsPredecessorWalk g last n (k ∷ ks) u) (sym (lasts.ends v k chain.0)) chain
last_chain_drop g last lasts (k ∷ ks) (suc i) v u chain h = last_chain_drop g last lasts ks i (edge_at g k).from u chain.1 (omega arith)

module _ (g : Graph) (last : List (Option ℕ)) (lasts : ArePredecessors g last) (start : ℕ) (chain places : List ℕ) (at k : ℕ) (trace : IsTrace g last start chain places at) (new : get_or places at 0 ≡ 0) (stands : predecessor_of last at ≡ Some k) where
  abbrev more : List ℕ
  more = chain ++ k ∷ []

  abbrev now : List ℕ
  now = set places at (length chain + 1)

  at_in : at < length places
  at_in = let within = trace.at_within in omega (arith, trace.place_count)

  long : length (chain ++ k ∷ []) ≡ length chain + 1
  long = length-append chain (k ∷ [])

  here : get_or (set places at (length chain + 1)) at 0 ≡ length chain + 1
  here = get_or-set_same places at (length chain + 1) 0 at_in

  there : (v : ℕ) → v ≢ at → get_or (set places at (length chain + 1)) v 0 ≡ get_or places v 0
  there v other = get_or-set_other places at v (length chain + 1) 0 other

  low : (v : ℕ) → 0 < get_or now v 0 → get_or now v 0 ≤ length more
  low v some = by_end (cases_eq v at)
    where
      by_end : (v ≡ at) ⊎ (v ≢ at) → get_or now v 0 ≤ length more
      by_end (inl is) = let l = long in subst (λ (n : ℕ). get_or now n 0 ≤ length more) (sym is) (let h = here in omega arith)
      by_end (inr other) = let l = long in let same = there v other in let old = trace.low v (omega arith) in omega arith

  placed : (v : ℕ) → 0 < get_or now v 0 → (edge_at g (get_or more (get_or now v 0 - 1) 0)).to ≡ v
  placed v some = by_end (cases_eq v at)
    where
      by_end : (v ≡ at) ⊎ (v ≢ at) → (edge_at g (get_or more (get_or now v 0 - 1) 0)).to ≡ v
      by_end (inl is) =
          let place : get_or now v 0 - 1 ≡ length chain = (let h = here in let e = ap (λ (n : ℕ). get_or now n 0) is in omega arith) in
          let key : get_or more (get_or now v 0 - 1) 0 ≡ k = ap (λ (n : ℕ). get_or more n 0) place ∙ get_or-append_seam chain k [] 0 in
          ap (λ (n : ℕ). (edge_at g n).to) key ∙ (lasts.ends at k stands ∙ sym is)
      by_end (inr other) =
          let same = there v other in
          let was : 0 < get_or places v 0 = omega arith in
          let old = trace.low v was in
          let key : get_or more (get_or now v 0 - 1) 0 ≡ get_or chain (get_or places v 0 - 1) 0 = ap (λ (n : ℕ). get_or more (n - 1) 0) same ∙ get_or_append_left chain (k ∷ []) 0 (get_or places v 0 - 1) (omega arith) in
          ap (λ (n : ℕ). (edge_at g n).to) key ∙ trace.placed v was

  back : (i : ℕ) → i < length more → get_or now (edge_at g (get_or more i 0)).to 0 ≡ i + 1
  back i h = by_index (cases_lt i (length chain))
    where
      by_index : (i < length chain) ⊎ (length chain ≤ i) → get_or now (edge_at g (get_or more i 0)).to 0 ≡ i + 1
      by_index (inl early) =
          let key : get_or more i 0 ≡ get_or chain i 0 = get_or_append_left chain (k ∷ []) 0 i early in
          let old : get_or places (edge_at g (get_or chain i 0)).to 0 ≡ i + 1 = trace.back i early in
          let other : (edge_at g (get_or chain i 0)).to ≢ at = λ is. (let e : get_or places (edge_at g (get_or chain i 0)).to 0 ≡ get_or places at 0 = ap (λ (n : ℕ). get_or places n 0) is in omega arith) in
          ap (λ (n : ℕ). get_or now (edge_at g n).to 0) key ∙ (there (edge_at g (get_or chain i 0)).to other ∙ old)
      by_index (inr late) =
          let l = long in
          let is : i ≡ length chain = omega arith in
          let key : get_or more i 0 ≡ k = ap (λ (n : ℕ). get_or more n 0) is ∙ get_or-append_seam chain k [] 0 in
          ap (λ (n : ℕ). get_or now (edge_at g n).to 0) key ∙ (ap (λ (n : ℕ). get_or now n 0) (lasts.ends at k stands) ∙ (here ∙ ap (λ (n : ℕ). n + 1) (sym is)))

  counted : unplaced now + length more ≡ g.nodes
  counted =
      let l = long in
      let sums : unplaced now + (1 - get_or places at 0) ≡ unplaced places + (1 - (length chain + 1)) = sum_by-set (λ (n : ℕ). 1 - n) places at (length chain + 1) 0 at_in in
      let old : unplaced places + length chain ≡ g.nodes = trace.counted in
      omega arith

  pub trace_on : (from : (edge_at g k).from < g.nodes) → IsTrace g last start (chain ++ k ∷ []) (set places at (length chain + 1)) (edge_at g k).from
  trace_on from = record {
    chained = last_chain_more g last chain start at k trace.chained stands;
    at_within = from;
    place_count = length-set places at (length chain + 1) ∙ trace.place_count;
    low = low;
    placed = placed;
    back = back;
    counted = counted;
  }

module _ (g : Graph) (last : List (Option ℕ)) (lasts : ArePredecessors g last) (start : ℕ) (chain places : List ℕ) (at : ℕ) (trace : IsTrace g last start chain places at) where
  pub closes_up : (first : ℕ) → get_or places at 0 ≡ first + 1 → (walk : List ℕ) → walk ≡ reverse (drop first chain) → ClosesUp g last walk
  closes_up first place walk walk_is =
      let low : get_or places at 0 ≤ length chain = trace.low at (omega arith) in
      let within : first < length chain = omega arith in
      let less : get_or places at 0 - 1 ≡ first = omega arith in
      let ends : (edge_at g (get_or chain first 0)).to ≡ at = ap (λ (n : ℕ). (edge_at g (get_or chain n 0)).to) (sym less) ∙ trace.placed at (omega arith) in
      let old : unplaced places + length chain ≡ g.nodes = trace.counted in
      let long : length (drop first chain) ≡ length chain - first = length-drop first chain in
      record {
        at = at;
        chain = drop first chain;
        chained = subst (λ (n : ℕ). IsPredecessorWalk g last n (drop first chain) at) ends (last_chain_drop g last lasts chain first start at trace.chained within);
        some = omega arith;
        short = omega arith;
        once = λ i j hi hj e. once i j hi hj long e;
        walk_is = walk_is;
      }
    where
      once : (i j : ℕ) → i < length (drop first chain) → j < length (drop first chain) → length (drop first chain) ≡ length chain - first → (edge_at g (get_or (drop first chain) i 0)).to ≡ (edge_at g (get_or (drop first chain) j 0)).to → i ≡ j
      once i j hi hj long e =
          let at_i : get_or (drop first chain) i 0 ≡ get_or chain (first + i) 0 = get_or-drop first chain i 0 in
          let at_j : get_or (drop first chain) j 0 ≡ get_or chain (first + j) 0 = get_or-drop first chain j 0 in
          let same : (edge_at g (get_or chain (first + i) 0)).to ≡ (edge_at g (get_or chain (first + j) 0)).to = ap (λ (n : ℕ). (edge_at g n).to) (sym at_i) ∙ (e ∙ ap (λ (n : ℕ). (edge_at g n).to) at_j) in
          let place_i : get_or places (edge_at g (get_or chain (first + i) 0)).to 0 ≡ first + i + 1 = trace.back (first + i) (omega arith) in
          let place_j : get_or places (edge_at g (get_or chain (first + j) 0)).to 0 ≡ first + j + 1 = trace.back (first + j) (omega arith) in
          let places_same = ap (λ (n : ℕ). get_or places n 0) same in
          omega arith

-- one edge on, as the program writes it
pub went_on : (g : Graph) (last : List (Option ℕ)) (lasts : ArePredecessors g last) (start : ℕ) (chain places : List ℕ) (at k : ℕ) → IsTrace g last start chain places at → get_or places at 0 ≡ 0 → predecessor_of last at ≡ Some k → (later : List ℕ) (place from : ℕ) → later ≡ chain ++ k ∷ [] → place ≡ length later → from ≡ (edge_at g k).from → IsTrace g last start later (set places at place) from × (length later ≡ length chain + 1)
went_on g last lasts start chain places at k trace new stands later place from later_is place_is from_is =
    let size : length later ≡ length chain + 1 = ap length later_is ∙ length-append chain (k ∷ []) in
    let step = trace_on g last lasts start chain places at k trace new stands (lasts.from k (lasts.within at k stands)) in
    let to_chain : IsTrace g last start later (set places at (length chain + 1)) (edge_at g k).from = subst (λ (l : List ℕ). IsTrace g last start l (set places at (length chain + 1)) (edge_at g k).from) (sym later_is) step in
    let to_place : IsTrace g last start later (set places at place) (edge_at g k).from = subst (λ (n : ℕ). IsTrace g last start later (set places at n) (edge_at g k).from) (sym (place_is ∙ size)) to_chain in
    (subst (λ (n : ℕ). IsTrace g last start later (set places at place) n) (sym from_is) to_place, size)
