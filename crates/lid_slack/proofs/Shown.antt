-- What labels and ways show of the slack of a channel.
use Rattle.std.proofs.Common.{◌≡◌, ℕ, zero, suc, ◌+◌, ◌*◌, ◌<◌, ◌≤◌, List, [], ◌∷◌, length, Option, Some, None, sym, ap, subst, true≢false, arith}
use Rattle.std.specs.List.{All}
use Rattle.std.specs.Option.{MatchOption, IsNone}
use Rattle.lid_graph.specs.declared.graph.Graph.{Graph}
use Rattle.lid_graph.specs.Walks.{IsWalk, edge_at, walk_tokens}
use Rattle.lid_graph.specs.Ratios.{IsRatio}
use Rattle.lid_system.specs.declared.System.{System}
use Rattle.lid_rate_ratio.specs.declared.lowest_terms.Ratio.{Ratio}
use Rattle.lid_stations.specs.declared.placement.Placement.{Placement}
use Rattle.lid_stations.specs.Placements.{Links, links_of, station_count}
use Rattle.lid_stations.specs.Markings.{marking}
use Rattle.lid_stations.proofs.Edges.{edges_long}
use Rattle.lid_slack_longer.specs.Longer.{last_station, longer_marking, producer, room, KeepsAt}
use Rattle.lid_slack_longer.specs.Labels.{edge_along, AreKeepingLabels}
use Rattle.lid_slack_longer.specs.Laws.{HasWalk}
use Rattle.lid_slack_longer.proofs.Labelling.{labels_keep, ways_close}
use Rattle.lid_slack_longer.proofs.Renumbering.{through_is, last_below}
use Rattle.lid_slack.specs.declared.answer.Slack.{Slack}
use Rattle.lid_slack.specs.declared.answer.PlainSlack.{PlainSlack}
use Rattle.lid_slack.specs.Told.{IsEnd, IsTold, IsNextRatio, HasNextRatio, IsSlackAndNext}
use Rattle.lid_slack.specs.Trials.{CanTry, IsPresent, IsMost}
use Rattle.lid_slack.specs.Labelled.{IsWayRatio}
use Rattle.lid_slack.proofs.Ratios.{exact_below}
use Rattle.lid_slack.proofs.Tried.{is_slack}

-- the last station of a channel is one of the stations
pub last_within : (s : System) (p : Placement) (c x : ℕ) → CanTry s p c x → last_station p c < station_count p.relays
last_within s p c x can =
    let there : c < length p.relays = (let t = can.there in omega (arith, can.fits.counts)) in
    omega (arith, through_is s p c can.system can.fits there, last_below s p c can.system can.fits there)

-- and has an edge
pub edge_within : (s : System) (p : Placement) (c x : ℕ) → CanTry s p c x → 2 * last_station p c < length (marking (links_of s) p).edges
edge_within s p c x can = omega (arith, edges_long s p, last_within s p c x can)

-- all edges of a walk are edges
pub walk_within : (g : Graph) (ks : List ℕ) (u v : ℕ) → IsWalk g u ks v → All (λ k. k < length g.edges) ks
walk_within g [] u v walk i d h = absurd (omega arith)
walk_within g (k ∷ ks) u v walk zero d h = walk.0
walk_within g (k ∷ ks) u v walk (suc i) d h = walk_within g ks (edge_at g k).to v walk.2 i d (omega arith)

-- labels show that a ratio is kept
pub labels_show : (s : System) (p : Placement) (c x a b : ℕ) (g : Graph) (labels : List (Option ℕ)) → CanTry s p c x → 1 ≤ x → g ≡ marking (links_of s) p → AreKeepingLabels g (last_station p c) (producer (links_of s) c) x a b labels → KeepsAt (links_of s) p c x a b
labels_show s p c x a b g labels can some is are =
    labels_keep s p c x a b labels can.system can.fits can.there some (subst (λ (h : Graph). AreKeepingLabels h (last_station p c) (producer (links_of s) c) x a b labels) is are)

module _ (s : System) (p : Placement) (c x a b : ℕ) (can : CanTry s p c x) (g : Graph) (is : g ≡ marking (links_of s) p) (way : List ℕ) (rated : IsWayRatio g (last_station p c) x way a b) where
  here : IsWayRatio (marking (links_of s) p) (last_station p c) x way a b
  here = subst (λ (h : Graph). IsWayRatio h (last_station p c) x way a b) is rated

  abbrev tokens : ℕ
  tokens = (edge_along (marking (links_of s) p) (last_station p c)).tokens + walk_tokens (marking (links_of s) p) way

  has : HasWalk s p c x (x + 1 + length way) tokens
  has = ways_close s p c x way can.system can.fits can.there here.is_way

  exact : b * walk_tokens (longer_marking (links_of s) p c x) has.walk ≡ a * length has.walk
  exact =
      let same : b * tokens ≡ a * (x + 1 + length way) = here.lowest.same in
      let long : a * length has.walk ≡ a * (x + 1 + length way) = ap (λ (n : ℕ). a * n) has.long in
      let holds : b * walk_tokens (longer_marking (links_of s) p c x) has.walk ≡ b * tokens = ap (λ (n : ℕ). b * n) has.holds in
      omega arith

  -- a way of a lower ratio shows that a ratio is not kept
  pub way_lowers : (d e : ℕ) → a * e < d * b → KeepsAt (links_of s) p c x d e → ⊥
  way_lowers d e less keeps =
      let kept = keeps has.walk has.near in
      let lower = exact_below a b d e (length has.walk) (walk_tokens (longer_marking (links_of s) p c x) has.walk) exact (omega (arith, has.long)) less in
      omega arith

  -- and where its ratio is kept, it is that of the component
  pub way_shows : KeepsAt (links_of s) p c x a b → IsRatio (longer_marking (links_of s) p c x) (producer (links_of s) c) a b
  way_shows keeps = record { positive = here.lowest.positive; lowest = here.lowest.coprime; all = keeps; some = (has.walk, has.near, exact) }

-- what is shown where all that there is room for keep the ratio, and where one more does not
pub found_all : (s : System) (p : Placement) (c a b x : ℕ) (found : PlainSlack) → CanTry s p c x → IsPresent s p c a b → x ≡ room p c → KeepsAt (links_of s) p c x a b → found ≡ record { added = x; next = None } → IsSlackAndNext (links_of s) p c found
found_all s p c a b x found can present full keeps is =
    let most : IsMost s p c a b x = record { within = can.enough; keeps = keeps; next = λ less. absurd (omega arith) } in
    let all : IsSlackAndNext (links_of s) p c (record { added = x; next = None }) = record { added = is_slack s p c a b present x can most; next = full } in
    subst (IsSlackAndNext (links_of s) p c) (sym is) all

pub found_less : (s : System) (p : Placement) (c a b x : ℕ) (ratio : Ratio) (found : PlainSlack) → CanTry s p c x → IsPresent s p c a b → x < room p c → KeepsAt (links_of s) p c x a b → (KeepsAt (links_of s) p c (x + 1) a b → ⊥) → IsRatio (longer_marking (links_of s) p c (x + 1)) (producer (links_of s) c) ratio.p ratio.q → found ≡ record { added = x; next = Some ratio } → IsSlackAndNext (links_of s) p c found
found_less s p c a b x ratio found can present less keeps lower is_ratio is =
    let most : IsMost s p c a b x = record { within = can.enough; keeps = keeps; next = λ room. lower } in
    let all : IsSlackAndNext (links_of s) p c (record { added = x; next = Some ratio }) = record { added = is_slack s p c a b present x can most; next = (less, is_ratio) } in
    subst (IsSlackAndNext (links_of s) p c) (sym is) all
