-- Closed walks that show that a station with one place less does not reach.
use Rattle.std.proofs.Common.{◌≡◌, ℕ, zero, suc, ◌+◌, ◌-◌, ◌*◌, ◌/◌, ◌%◌, ◌<◌, ◌≢◌, List, [], ◌∷◌, ◌++◌, length, get_or, replicate, refl, sym, ◌∙◌, ap, subst, append-nil, arith}
use Rattle.std.specs.List.{All}
use Rattle.std.proofs.lemmas.List.{get_or-replicate}
use Rattle.std.proofs.lemmas.List.Elements.{All-get_or}
use Rattle.std.proofs.Math.Nat.{mul-le-mul_left}
use Rattle.lid_graph.specs.declared.graph.Graph.{Graph}
use Rattle.lid_graph.specs.Walks.{edge_at, walk_start, IsWalk, IsClosedWalk}
use Rattle.lid_graph.specs.Ratios.{IsClosedWalkNear}
use Rattle.lid_system.specs.declared.System.{System}
use Rattle.lid_stations.specs.declared.placement.Placement.{Placement}
use Rattle.lid_stations.specs.Placements.{links_of, station_count, IsCapacity}
use Rattle.lid_size_laws.specs.Capacities.{IsForward}
use Rattle.lid_size_laws.proofs.Alike.{closed_alike}
use Rattle.lid_size_laws.proofs.Forward.{has_kept}
use Rattle.lid_rate_ratio.specs.declared.lowest_terms.Ratio.{Ratio}
use Rattle.lid_size_forward.specs.ForwardParts.{AreForwardRatios, no_ratio}
use Rattle.lid_size.specs.declared.ways.Way.{Way}
use Rattle.lid_size.specs.Choices.{followed}
use Rattle.lid_size.specs.Sizes.{IsReachedPlacement}
use Rattle.lid_size.specs.Sizing.{sized, greatest, Reaches, IsFirst}
use Rattle.lid_size.specs.Testing.{IsWidest, IsRefuted, IsWayTo, AreTight}
use Rattle.lid_size.proofs.Chosen.{followed_capacities, chosen_first}
use Rattle.lid_size.proofs.Sized.{differ, back_tokens, reach_up, wants_stay}

module _ (n : ℕ) (done : List ℕ) (c : ℕ) (few : length done < n) (range : All IsCapacity done) (next : IsCapacity c) where
  pub followed_range : (i : ℕ) → i < n → IsCapacity (get_or (followed n done c) i 2)
  followed_range i h =
      let are = followed_capacities n done c few range next in
      All-get_or IsCapacity (followed n done c) i 2 (let c = are.count in omega arith) are.range

  -- the tokens of an edge forth are the same
  pub forward_tokens : (g : Graph) (k : ℕ) (s : System) (relays : List ℕ) → k < length g.edges → IsForward n k → IsWidest g n s relays → (edge_at g k).tokens ≡ (edge_at (sized (links_of s) relays (followed n done c)) k).tokens
  forward_tokens g k s relays h forth widest =
      let there : k < length (sized (links_of s) relays (greatest relays)).edges = subst (λ (x : Graph). k < length x.edges) widest.is h in
      let count : IsForward (station_count relays) k = subst (λ (n : ℕ). IsForward n k) (sym widest.count) forth in
      ap (λ (x : Graph). (edge_at x k).tokens) widest.is ∙ (differ s relays (greatest relays) (followed n done c)).forward k there count

  -- those of an edge back are fewer by as many places as the station has less
  pub backward_tokens : (g : Graph) (k result cap : ℕ) (s : System) (relays : List ℕ) → k % 2 ≢ 0 → k / 2 < n → cap ≡ get_or (followed n done c) (k / 2) 2 → result ≡ (edge_at g k).tokens + cap - 16 → IsWidest g n s relays → result ≡ (edge_at (sized (links_of s) relays (followed n done c)) k).tokens
  backward_tokens g k result cap s relays odd low cap_is is widest =
      let number : suc (k / 2 + k / 2) ≡ k = omega arith in
      let below : k / 2 < station_count relays = (let c = widest.count in omega arith) in
      let most : get_or (greatest relays) (k / 2) 2 ≡ 16 = get_or-replicate (station_count relays) (k / 2) 16 2 below in
      let ranged = followed_range (k / 2) low in
      let tokens = back_tokens s relays (greatest relays) (followed n done c) (k / 2) below (omega arith) (let r = ranged.0 in omega arith) in
      let here : (edge_at g k).tokens ≡ (edge_at (sized (links_of s) relays (greatest relays)) (suc (k / 2 + k / 2))).tokens = ap (λ (x : Graph). (edge_at x k).tokens) widest.is ∙ ap (λ (m : ℕ). (edge_at (sized (links_of s) relays (greatest relays)) m).tokens) (sym number) in
      let there : (edge_at (sized (links_of s) relays (followed n done c)) (suc (k / 2 + k / 2))).tokens ≡ (edge_at (sized (links_of s) relays (followed n done c)) k).tokens = ap (λ (m : ℕ). (edge_at (sized (links_of s) relays (followed n done c)) m).tokens) number in
      omega arith

start_is : (g : Graph) (ks : List ℕ) (u v : ℕ) → 0 < length ks → IsWalk g u ks v → walk_start g ks ≡ u
start_is g [] u v some walk = absurd (omega arith)
start_is g (k ∷ ks) u v some walk = walk.1

some_edges : (p edges tokens : ℕ) → tokens < p * edges → 0 < edges
some_edges p zero tokens less = absurd (omega arith)
some_edges p (suc edges) tokens less = omega arith

-- a closed walk below the forward ratio
pub refuted : (g : Graph) (n : ℕ) (wants : List Ratio) (caps : List ℕ) (way : Way) → IsWayTo g n caps way.from way → (get_or wants way.from no_ratio).q * way.tokens < (get_or wants way.from no_ratio).p * way.edges → IsRefuted g n wants caps
unfolding Reaches
refuted g n wants caps way is lower s relays widest ratios reach =
    let v = way.from in
    let walk = is.walk in
    let long : length is.walk ≡ way.edges = is.edges in
    let some : 0 < length is.walk = (let e = some_edges (get_or wants way.from no_ratio).p way.edges _ lower in omega arith) in
    let start = start_is g is.walk way.from way.from some is.leads in
    let closed : IsClosedWalk g is.walk = record { some = some; closed = subst (λ (u : ℕ). IsWalk g u is.walk u) (sym start) is.leads } in
    let like = differ s relays (greatest relays) caps in
    let near_wide : IsClosedWalkNear (sized (links_of s) relays (greatest relays)) way.from is.walk = subst (λ (x : Graph). IsClosedWalkNear x way.from is.walk) widest.is (closed, ([], sym start)) in
    let near = closed_alike (sized (links_of s) relays (greatest relays)) (sized (links_of s) relays caps) like.alike way.from is.walk near_wide in
    let known : AreForwardRatios (sized (links_of s) relays (greatest relays)) (station_count relays) wants = subst (λ (x : Graph). AreForwardRatios x (station_count relays) wants) widest.is (subst (λ (n : ℕ). AreForwardRatios g n wants) (sym widest.count) ratios) in
    let stay = wants_stay s relays (greatest relays) caps wants known in
    let inside : way.from < (sized (links_of s) relays caps).nodes = (let n = like.alike.nodes in let e : g.nodes ≡ (sized (links_of s) relays (greatest relays)).nodes = ap (λ (x : Graph). x.nodes) widest.is in let b = is.start in omega arith) in
    let want = get_or wants way.from no_ratio in
    let kept = has_kept (sized (links_of s) relays caps) (station_count relays) way.from want.p want.q (stay.each way.from inside) (reach way.from inside) is.walk near in
    let fewer = mul-le-mul_left want.q (is.tokens s relays widest) in
    let edges : want.p * length is.walk ≡ want.p * way.edges = ap (λ (n : ℕ). want.p * n) is.edges in
    omega arith

-- capacities that reach, of which none can be less by one
pub tight_first : (s : System) (relays caps : List ℕ) (g : Graph) (wants : List Ratio) → IsWidest g (length caps) s relays → AreForwardRatios g (length caps) wants → AreTight g (length caps) wants caps → Reaches (links_of s) relays caps → IsFirst (Reaches (links_of s) relays) (station_count relays) caps
tight_first s relays caps g wants widest ratios are reach =
    subst (λ (n : ℕ). IsFirst (Reaches (links_of s) relays) n caps) (sym widest.count)
    (chosen_first (Reaches (links_of s) relays) (length caps) (λ xs ys less reach. reach_up s relays xs ys less reach) caps refl (record {
      few = omega arith;
      range = are.range;
      holds = subst (Reaches (links_of s) relays) (sym (ap (λ (m : ℕ). caps ++ replicate m 16) (let e : length caps - length caps ≡ 0 = omega arith in e) ∙ append-nil caps)) reach;
      tight = λ station h more reach. are.tight station h more s relays widest ratios reach;
    }))

-- a placement whose capacities a guess gave
pub tested_is : (s : System) (relays caps widest_caps : List ℕ) (g : Graph) (wants : List Ratio) (p : Placement) → p.relays ≡ relays → p.caps ≡ caps → length caps ≡ station_count relays → g ≡ sized (links_of s) relays widest_caps → widest_caps ≡ greatest relays → AreForwardRatios (sized (links_of s) relays widest_caps) (station_count relays) wants → AreTight g (length caps) wants caps → Reaches (links_of s) p.relays p.caps → IsReachedPlacement (links_of s) relays p
tested_is s relays caps widest_caps g wants p relays_are caps_are count is widest ratios tight reach =
    let wide : g ≡ sized (links_of s) relays (greatest relays) = is ∙ ap (sized (links_of s) relays) widest in
    let here : AreForwardRatios g (length caps) wants = subst (λ (n : ℕ). AreForwardRatios g n wants) (sym count) (subst (λ (x : Graph). AreForwardRatios x (station_count relays) wants) (sym is) ratios) in
    let reached : Reaches (links_of s) relays caps = subst (λ (l : List ℕ). Reaches (links_of s) l caps) relays_are (subst (Reaches (links_of s) p.relays) caps_are reach) in
    record {
      relays_are = relays_are;
      caps = subst (IsFirst (Reaches (links_of s) relays) (station_count relays)) (sym caps_are) (tight_first s relays caps g wants (record { is = wide; count = sym count }) here tight reached);
    }
