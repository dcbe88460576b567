-- Ways that are lengthened, and that serve for later stations too.
use Rattle.std.proofs.Common.{◌≡◌, ℕ, suc, ◌+◌, ◌-◌, ◌^◌, ◌<◌, ◌≤◌, ◌≢◌, ◌⊎◌, inl, inr, List, [], ◌∷◌, ◌++◌, length, take, get_or, set, replicate, refl, sym, ◌∙◌, ap, subst, arith}
use Rattle.std.specs.List.{All}
use Rattle.std.proofs.lemmas.Bool.{cases_lt, cases_eq}
use Rattle.std.proofs.lemmas.List.{length-append, length-set, append_assoc, get_or_append_left, take-append-le, get_or_default, get_or-set_same, get_or-set_other}
use Rattle.std.proofs.lemmas.List.Elements.{All-nil, All-push}
use Rattle.std.proofs.Math.Seq.{get_or-append_seam, take-append_seam}
use Rattle.lid_base.specs.Each.{from_each}
use Rattle.lid_base.proofs.Each.{each_length, each_at}
use Rattle.lid_graph.specs.declared.graph.Graph.{Graph}
use Rattle.lid_graph.specs.Walks.{edge_at, walk_tokens, IsWalk}
use Rattle.lid_graph.proofs.Journeys.{walk_append}
use Rattle.lid_rate_ratio.proofs.Backward.{tokens_append}
use Rattle.lid_rate_ratio.specs.declared.lowest_terms.Ratio.{Ratio}
use Rattle.lid_system.specs.declared.System.{System}
use Rattle.lid_stations.specs.Placements.{links_of, IsCapacity}
use Rattle.lid_size_laws.proofs.Alike.{walk_alike, fewer_tokens}
use Rattle.lid_size.specs.declared.ways.Way.{Way}
use Rattle.lid_size.specs.Choices.{followed}
use Rattle.lid_size.specs.Sizing.{sized, greatest}
use Rattle.lid_size.specs.Testing.{IsWidest, widened, IsRefuted, IsWayTo, empty_way, AreWays, IsTightNext, AreTight}
use Rattle.lid_size.proofs.Chosen.{followed_capacities, followed_early, followed_here, below_followed}
use Rattle.lid_size.proofs.Sized.{alike, no_more}

module _ (g : Graph) (n : ℕ) where
  -- fewer places do not give a way more tokens
  pub way_lowered : (xs ys : List ℕ) (v : ℕ) (way : Way) → ((i : ℕ) → get_or xs i 2 ≤ get_or ys i 2) → IsWayTo g n ys v way → IsWayTo g n xs v way
  way_lowered xs ys v way less is = record {
    walk = is.walk;
    leads = is.leads;
    start = is.start;
    edges = is.edges;
    tokens = tokens;
    few = is.few;
    short = is.short;
  }
    where
      tokens : (s : System) (relays : List ℕ) → IsWidest g n s relays → walk_tokens (sized (links_of s) relays xs) is.walk ≤ way.tokens
      tokens s relays widest =
          let wide : IsWalk (sized (links_of s) relays (greatest relays)) way.from is.walk v = subst (λ (x : Graph). IsWalk x way.from is.walk v) widest.is is.leads in
          let walk = walk_alike (sized (links_of s) relays (greatest relays)) (sized (links_of s) relays xs) (alike s relays (greatest relays) xs) is.walk way.from v wide in
          let fewer = fewer_tokens (sized (links_of s) relays xs) (sized (links_of s) relays ys) (no_more s relays xs ys less) is.walk way.from v walk in
          let most = is.tokens s relays widest in
          omega arith

  pub ways_lowered : (xs ys : List ℕ) (ways : List Way) → ((i : ℕ) → get_or xs i 2 ≤ get_or ys i 2) → AreWays g n ys ways → AreWays g n xs ways
  ways_lowered xs ys ways less are = record {
    count = are.count;
    each = λ v h. way_lowered xs ys v (get_or ways v (empty_way 0)) less (are.each v h);
  }

  -- a way that is one edge longer
  pub way_longer : (caps : List ℕ) (k tokens : ℕ) (way longer : Way) → k < length g.edges → IsWayTo g n caps (edge_at g k).from way → ((s : System) (relays : List ℕ) → IsWidest g n s relays → tokens ≡ (edge_at (sized (links_of s) relays caps) k).tokens) → tokens ≤ 16 → way.edges < 2 ^ 18 → longer.from ≡ way.from → longer.edges ≡ way.edges + 1 → longer.tokens ≡ way.tokens + tokens → IsWayTo g n caps (edge_at g k).to longer
  way_longer caps k tokens way longer h is exact few short from_is edges_are tokens_are = record {
    walk = is.walk ++ k ∷ [];
    leads = subst (λ (u : ℕ). IsWalk g u (is.walk ++ k ∷ []) (edge_at g k).to) (sym from_is) (walk_append g is.walk (k ∷ []) way.from (edge_at g k).from (edge_at g k).to is.leads (h, refl, refl));
    start = (let s = is.start in omega arith);
    edges = omega (arith, length-append is.walk (k ∷ []), is.edges);
    tokens = λ s relays widest. omega (arith, tokens_append (sized (links_of s) relays caps) is.walk (k ∷ []), is.tokens s relays widest, exact s relays widest);
    few = (let f = is.few in omega arith);
    short = omega arith;
  }

  pub way_begun : (caps : List ℕ) (v : ℕ) → v < g.nodes → IsWayTo g n caps v (empty_way v)
  way_begun caps v h = record {
    walk = [];
    leads = refl;
    start = h;
    edges = refl;
    tokens = λ s relays widest. omega arith;
    few = omega arith;
    short = omega arith;
  }

  pub first_ways_are : (caps : List ℕ) → AreWays g n caps (from_each empty_way 0 g.nodes)
  first_ways_are caps = record {
    count = each_length empty_way 0 g.nodes;
    each = λ v h. (
        let below : v < g.nodes = (let l = each_length empty_way 0 g.nodes in omega arith) in
        subst (IsWayTo g n caps v) (sym (each_at empty_way 0 g.nodes v (empty_way 0) below ∙ ap empty_way (let e : 0 + v ≡ v = omega arith in e))) (way_begun caps v below)
        );
  }

-- with another capacity than 16 for the next station no station has more places
module _ (n : ℕ) (done : List ℕ) (c : ℕ) (few : length done < n) (range : All IsCapacity done) (next : IsCapacity c) where
  pub followed_less : (i : ℕ) → get_or (followed n done c) i 2 ≤ get_or (followed n done 16) i 2
  followed_less i =
      below_followed n (followed n done c) done 16 few (followed_capacities n done c few range next)
      (λ j h. followed_early n done c few j h)
      (let here = followed_here n done c few in let most = next.1 in omega arith) i

-- 16 for all that are left is 16 for the next and for all after it
pub widened_next : (n : ℕ) (done : List ℕ) → length done < n → widened n done ≡ followed n done 16
widened_next n done few =
    let e : n - length done ≡ suc (n - (length done + 1)) = omega arith in
    ap (λ (m : ℕ). done ++ replicate m 16) e

pub widened_pushed : (n : ℕ) (done : List ℕ) (c : ℕ) → widened n (done ++ c ∷ []) ≡ followed n done c
widened_pushed n done c =
    let long : length (done ++ c ∷ []) ≡ length done + 1 = length-append done (c ∷ []) in
    ap (λ (m : ℕ). (done ++ c ∷ []) ++ replicate (n - m) 16) long ∙ append_assoc done (c ∷ []) (replicate (n - (length done + 1)) 16)

-- ways that were found for one station serve for the next
pub ways_pushed : (g : Graph) (n : ℕ) (done : List ℕ) (c : ℕ) (ways : List Way) → length done < n → All IsCapacity done → IsCapacity c → AreWays g n (followed n done 16) ways → AreWays g n (widened n (done ++ c ∷ [])) ways
ways_pushed g n done c ways few range next are =
    subst (λ (caps : List ℕ). AreWays g n caps ways) (sym (widened_pushed n done c))
    (ways_lowered g n (followed n done c) (followed n done 16) ways (followed_less n done c few range next) are)

pub none_tight : (g : Graph) (n : ℕ) (wants : List Ratio) → AreTight g n wants []
none_tight g n wants = record { range = All-nil IsCapacity; tight = λ station h more. absurd (omega arith) }

pub tight_pushed : (g : Graph) (n : ℕ) (wants : List Ratio) (done : List ℕ) (c : ℕ) → AreTight g n wants done → IsTightNext g n wants done c → AreTight g n wants (done ++ c ∷ [])
tight_pushed g n wants done c are next = record {
  range = All-push IsCapacity done c are.range next.range;
  tight = λ station h more. by_place station more (let l = length-append done (c ∷ []) in omega arith) (cases_lt station (length done));
}
  where
    by_place : (station : ℕ) → 2 < get_or (done ++ c ∷ []) station 0 → station < length done + 1 → (station < length done) ⊎ (length done ≤ station) → IsRefuted g n wants (followed n (take station (done ++ c ∷ [])) (get_or (done ++ c ∷ []) station 0 - 1))
    by_place station more h (inl early) =
        let same : get_or (done ++ c ∷ []) station 0 ≡ get_or done station 0 = get_or_append_left done (c ∷ []) 0 station early in
        let taken : take station (done ++ c ∷ []) ≡ take station done = take-append-le station done (c ∷ []) (omega arith) in
        subst (λ (xs : List ℕ). IsRefuted g n wants (followed n xs (get_or (done ++ c ∷ []) station 0 - 1))) (sym taken)
        (subst (λ (m : ℕ). IsRefuted g n wants (followed n (take station done) (m - 1))) (sym same) (are.tight station early (omega arith)))
    by_place station more h (inr late) =
        let last : station ≡ length done = omega arith in
        let same : get_or (done ++ c ∷ []) station 0 ≡ c = ap (λ (m : ℕ). get_or (done ++ c ∷ []) m 0) last ∙ get_or-append_seam done c [] 0 in
        let taken : take station (done ++ c ∷ []) ≡ done = ap (λ (m : ℕ). take m (done ++ c ∷ [])) last ∙ take-append_seam done (c ∷ []) in
        subst (λ (xs : List ℕ). IsRefuted g n wants (followed n xs (get_or (done ++ c ∷ []) station 0 - 1))) (sym taken)
        (subst (λ (m : ℕ). IsRefuted g n wants (followed n done (m - 1))) (sym same) (next.tight (omega arith)))
