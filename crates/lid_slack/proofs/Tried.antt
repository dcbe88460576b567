-- What a trial shows: that a ratio is kept, or a closed walk that lowers it.
use Rattle.std.proofs.Common.{◌≡◌, ℕ, ◌+◌, ◌-◌, ◌*◌, ◌<◌, ◌≤◌, ◌⊎◌, inl, inr, Bool, true, false, List, length, IsTrue, Option, Some, sym, ◌∙◌, ap, subst, arith}
use Rattle.std.specs.List.{All}
use Rattle.std.proofs.lemmas.Bool.{cases_lt}
use Rattle.std.proofs.lemmas.List.{get_or_default}
use Rattle.lid_graph.specs.Rateable.{IsRateable}
use Rattle.lid_graph.specs.declared.graph.Graph.{Graph}
use Rattle.lid_graph.specs.Walks.{IsPaired, walk_tokens}
use Rattle.lid_graph.specs.Ratios.{IsRatio}
use Rattle.lid_system.specs.declared.System.{System}
use Rattle.lid_system.specs.Systems.{IsWellFormed}
use Rattle.lid_rate_ratio.specs.declared.lowest_terms.Ratio.{Ratio}
use Rattle.lid_stations.specs.declared.placement.Placement.{Placement}
use Rattle.lid_stations.specs.Placed.{IsPlaced}
use Rattle.lid_stations.specs.Placements.{Links, links_of, Fits}
use Rattle.lid_stations.specs.Markings.{marking}
use Rattle.lid_stations.proofs.Spots.{channel_there}
use Rattle.lid_stations.proofs.Edges.{node_count}
use Rattle.lid_stations.proofs.Alive.{rateable}
use Rattle.lid_cert.specs.declared.cert.Part.{Part}
use Rattle.lid_cert.specs.declared.cert.Cert.{Cert}
use Rattle.lid_cert.specs.Laws.{ShowsTransition}
use Rattle.lid_cert.proofs.Consequences.{cycle_near, each_is_shown, ratio_is_shown}
use Rattle.lid_rate.specs.Exact.{IsExactPart}
use Rattle.lid_cert.specs.Certificates.{Certifies, has_node, IsPart, no_part, part_at}
use Rattle.lid_slack_longer.specs.Longer.{longer, longer_marking, producer, room, KeepsAt, KeepsRatio}
use Rattle.lid_slack_longer.proofs.Kept.{longer_fits, none_keep, fewer_keep}
use Rattle.lid_slack.specs.declared.answer.Slack.{Slack}
use Rattle.lid_slack.specs.declared.certified.Certified.{Certified}
use Rattle.lid_slack.specs.Slack.{IsSlack}
use Rattle.lid_slack.specs.Told.{IsCertified, IsAgainst, IsTold}
use Rattle.lid_slack.specs.Trials.{CanTry, IsTrial, IsPresent, IsMost, IsBetween, IsFoundSlack}
use Rattle.lid_slack.proofs.Ratios.{keeps_lower, exact_below, below_higher, ratio_keeps, keeps_ratio, one_ratio}

-- some part has each transition
pub some_part : (g : Graph) (cert : Cert) (v : ℕ) → IsPaired g → Certifies g cert → v < g.nodes → ((k : ℕ) → k < length cert.parts → has_node (part_at cert.parts k) v ≡ false) → ⊥
some_part g cert v paired certifies within none = from_part (each_is_shown g cert v paired certifies within)
  where
    from_part : (part : Part) × ShowsTransition g cert part v → ⊥
    from_part h =
        let stands = h.1.stands in
        let same : part_at cert.parts stands.0 ≡ h.0 = get_or_default cert.parts stands.0 no_part h.0 stands.1 ∙ stands.2 in
        let out : has_node h.0 v ≡ false = sym (ap (λ (part : Part). has_node part v) same) ∙ none stands.0 stands.1 in
        let inside : has_node h.0 v ≡ true = h.1.inside in
        cc

-- no further relay station can be tried on each channel of a placed system
pub can_none : (s : System) (p : Placement) (c : ℕ) → IsPlaced s p → c < length s.channels → CanTry s p c 0
can_none s p c placed there = record { system = placed.formed; fits = placed.fits; there = there; enough = omega arith }

-- the producer of a channel is a transition
pub producer_within : (s : System) (p : Placement) (c x : ℕ) → CanTry s p c x → producer (links_of s) c < (longer_marking (links_of s) p c x).nodes
producer_within s p c x can =
    let comes = (channel_there s p can.system can.fits c (omega (arith, can.there, can.fits.counts))).comes in
    omega (arith, node_count s (longer p c x))

-- what is found with further relay stations
pub trial_is : (s : System) (p : Placement) (c x : ℕ) (g : Graph) (cert : Cert) (part : ℕ) → g ≡ longer_marking (links_of s) p c x → Certifies g cert → All (IsExactPart g) cert.parts → part < length cert.parts → has_node (part_at cert.parts part) (producer (links_of s) c) ≡ true → IsTrial s p c x cert part
trial_is s p c x g cert part is certifies exact within stands = record {
  certifies = subst (λ (h : Graph). Certifies h cert) is certifies;
  within = within;
  stands = stands;
  exact = subst (λ (h : Graph). IsExactPart h (part_at cert.parts part)) is (exact part no_part within);
}

-- the ratio of a trial's part
pub ratio_here_is : (s : System) (p : Placement) (c x a b : ℕ) (cert : Cert) (part : ℕ) → IsTrial s p c x cert part → a ≡ (part_at cert.parts part).p → b ≡ (part_at cert.parts part).q → IsRatio (longer_marking (links_of s) p c x) (producer (links_of s) c) a b
ratio_here_is s p c x a b cert part trial a_is b_is =
    subst (λ (n : ℕ). IsRatio (longer_marking (links_of s) p c x) (producer (links_of s) c) n b) (sym a_is)
    (subst (λ (n : ℕ). IsRatio (longer_marking (links_of s) p c x) (producer (links_of s) c) (part_at cert.parts part).p n) (sym b_is) (trial.exact.ratio (producer (links_of s) c) trial.stands))

-- what is certified for all channels
module _ (s : System) (p : Placement) (c : ℕ) (present : Certified) (can : CanTry s p c 0) (made : IsCertified (links_of s) p present) where
  pub certified_rateable : IsRateable present.graph
  certified_rateable = subst IsRateable (sym made.graph) (rateable s p can.system can.fits)

  -- has the producer of the channel
  pub certified_within : producer (links_of s) c < present.graph.nodes
  certified_within = subst (λ (g : Graph). producer (links_of s) c < g.nodes) (sym made.graph)
      (let comes = (channel_there s p can.system can.fits c (omega (arith, can.there, can.fits.counts))).comes in omega (arith, node_count s p))

  -- and its part is of the present ratio
  pub present_is : (a b part : ℕ) → part < length present.cert.parts → has_node (part_at present.cert.parts part) (producer (links_of s) c) ≡ true → a ≡ (part_at present.cert.parts part).p → b ≡ (part_at present.cert.parts part).q → IsPresent s p c a b
  present_is a b part within stands a_is b_is =
      subst (λ (n : ℕ). IsPresent s p c n b) (sym a_is) (subst (λ (n : ℕ). IsPresent s p c (part_at present.cert.parts part).p n) (sym b_is) here)
    where
      shows : ShowsTransition present.graph present.cert (part_at present.cert.parts part) (producer (links_of s) c)
      shows = record { paired = certified_rateable.paired; certifies = made.certifies; stands = (part, within, get_or_default present.cert.parts part (part_at present.cert.parts part) no_part within); inside = stands }

      here : IsPresent s p c (part_at present.cert.parts part).p (part_at present.cert.parts part).q
      here = record {
        ratio = subst (λ (g : Graph). IsRatio g (producer (links_of s) c) (part_at present.cert.parts part).p (part_at present.cert.parts part).q) made.graph (ratio_is_shown present.graph present.cert (part_at present.cert.parts part) (producer (links_of s) c) shows);
        small_a = (made.in_range part no_part within).p;
        small_b = (made.in_range part no_part within).q;
      }

-- no answer is both
pub not_true : (answer : Bool) → IsTrue answer → answer ≡ false → ⊥
not_true answer holds fails = (let never : true ≡ false = sym holds ∙ fails in cc)

-- an answer that is false exactly where it is not the case
pub not_below : (answer : Bool) (m n : ℕ) → (m < n → IsTrue answer) → answer ≡ false → n ≤ m
not_below answer m n holds fails = by_order (cases_lt m n)
  where
    by_order : (m < n) ⊎ (n ≤ m) → n ≤ m
    by_order (inl less) = absurd (not_true answer (holds less) fails)
    by_order (inr more) = more

module _ (s : System) (p : Placement) (c a b : ℕ) (present : IsPresent s p c a b) where
  abbrev pub l : Links
  l = links_of s

  abbrev pub v : ℕ
  v = producer (links_of s) c

  -- the present ratio in other terms
  same_ratio : (x d e : ℕ) → IsRatio (marking l p) v d e → KeepsAt l p c x a b → KeepsAt l p c x d e
  same_ratio x d e other keeps ks near =
      keeps_lower a b d e (length ks) (walk_tokens (longer_marking l p c x) ks) present.ratio.positive (one_ratio (marking l p) v a b d e present.ratio other) (keeps ks near)

  -- a bisection begins, and ends
  pub between : (most : ℕ) → CanTry s p c most → (KeepsAt l p c most a b → ⊥) → IsBetween s p c a b 0 most
  between most can lower = record { less = by_number (cases_lt 0 most); enough = can.enough; keeps = none; lowers = lower }
    where
      none : KeepsAt l p c 0 a b
      none = none_keep s p c a b can.system can.fits (omega (arith, can.there, can.fits.counts)) present.ratio

      by_number : (0 < most) ⊎ (most ≤ 0) → 0 < most
      by_number (inl some) = some
      by_number (inr none_are) = (let is : 0 ≡ most = omega arith in absurd (lower (subst (λ (n : ℕ). KeepsAt l p c n a b) is none)))

  pub most_is : (low high : ℕ) → IsBetween s p c a b low high → high - low ≤ 1 → IsMost s p c a b low
  most_is low high h close = record {
    within = (let less = h.less in let enough = h.enough in omega arith);
    keeps = h.keeps;
    next = λ room keeps. (let less = h.less in let is : low + 1 ≡ high = omega arith in h.lowers (subst (λ (n : ℕ). KeepsAt l p c n a b) is keeps));
  }

  module _ (x : ℕ) (can : CanTry s p c x) (cert : Cert) (part : ℕ) (trial : IsTrial s p c x cert part) where
    abbrev g : Graph
    g = longer_marking l p c x

    abbrev here : Part
    here = part_at cert.parts part

    ratio_here : IsRatio g v here.p here.q
    ratio_here = trial.exact.ratio v trial.stands

    -- a ratio that is no lower is kept, and a lower one is not
    pub kept : a * here.q ≤ here.p * b → KeepsAt l p c x a b
    kept less = keeps_ratio g v here.p here.q a b ratio_here less

    pub not_kept : here.p * b < a * here.q → KeepsAt l p c x a b → ⊥
    not_kept less keeps = let most = ratio_keeps g v here.p here.q a b ratio_here keeps in omega arith

    paired : IsPaired g
    paired = (rateable s (longer p c x) can.system (longer_fits s p c x can.fits can.there can.enough)).paired

    meets : IsPart g here
    meets = trial.certifies.parts part no_part trial.within

    -- the closed walk of the part
    pub against : here.p * b < a * here.q → IsAgainst l p c x here.cycle
    against less =
        let tokens : here.q * walk_tokens g here.cycle ≡ here.p * length here.cycle = (let e = meets.inside.ratio in omega arith) in
        let some : 0 < length here.cycle = meets.inside.walk.some in
        record {
          near = cycle_near g here meets paired v trial.stands;
          least = λ ks near. (let bound = ratio_here.all ks near in let h = keeps_lower here.p here.q (walk_tokens g here.cycle) (length here.cycle) (length ks) (walk_tokens g ks) ratio_here.positive (omega arith) bound in omega arith);
          below = λ d e other.
              (let lower : b * walk_tokens g here.cycle < a * length here.cycle = exact_below here.p here.q a b (length here.cycle) (walk_tokens g here.cycle) tokens some less in
              below_higher a b d e (length here.cycle) (walk_tokens g here.cycle) other.positive (one_ratio (marking l p) v d e a b other present.ratio) lower);
        }

  -- with the greatest number that keeps the ratio
  module _ (x : ℕ) (can : CanTry s p c x) (most : IsMost s p c a b x) where
    fewer : (y : ℕ) → y ≤ x → KeepsAt l p c y a b
    fewer y h = fewer_keep s p c y x a b can.system can.fits can.there can.enough h present.ratio most.keeps

    pub fewer_keep_ratio : (y : ℕ) → y ≤ x → KeepsRatio l p c y
    fewer_keep_ratio y h d e other = same_ratio y d e other (fewer y h)

    pub is_slack : IsSlack l p c x
    is_slack = record {
      rated = (a, b, present.ratio);
      within = most.within;
      keeps = fewer_keep_ratio x (omega arith);
      greatest = greatest;
    }
      where
        greatest : (y : ℕ) → y ≤ room p c → KeepsRatio l p c y → y ≤ x
        greatest y enough keeps = by_order (cases_lt x y)
          where
            by_order : (x < y) ⊎ (y ≤ x) → y ≤ x
            by_order (inr h) = h
            by_order (inl less) =
                absurd (most.next (omega arith) (fewer_keep s p c (x + 1) y a b can.system can.fits can.there enough (omega arith) present.ratio (keeps a b present.ratio)))

-- what is found is the slack
pub told_is : (s : System) (p : Placement) (c a b : ℕ) → IsPresent s p c a b → IsWellFormed s → Fits s p → c < length s.channels → (slack : Slack) (next : Option Ratio) → IsFoundSlack s p c a b slack next → IsTold (links_of s) p c slack
told_is s p c a b present well fits there slack next found =
    let can : CanTry s p c slack.added = record { system = well; fits = fits; there = there; enough = found.most.within } in
    record {
      added = is_slack s p c a b present slack.added can found.most;
      fewer = fewer_keep_ratio s p c a b present slack.added can found.most;
      cert = found.certifies;
      against = found.ends;
    }

-- what is found with a walk that lowers the ratio with one more
pub lower_found : (s : System) (p : Placement) (c a b x : ℕ) (cert : Cert) (walk : List ℕ) (ratio : Ratio) (slack : Slack) (next : Option Ratio)
    → slack ≡ record { added = x; cert = cert; against = Some walk }
    → next ≡ Some ratio
    → x < room p c
    → Certifies (longer_marking (links_of s) p c x) cert
    → KeepsAt (links_of s) p c x a b
    → (KeepsAt (links_of s) p c (x + 1) a b → ⊥)
    → IsAgainst (links_of s) p c (x + 1) walk
    → IsRatio (longer_marking (links_of s) p c (x + 1)) (producer (links_of s) c) ratio.p ratio.q
    → IsFoundSlack s p c a b slack next
lower_found s p c a b x cert walk ratio slack next slack_is next_is less certifies keeps lower against is_ratio =
    let all : IsFoundSlack s p c a b (record { added = x; cert = cert; against = Some walk }) (Some ratio) = record {
      most = record { within = omega arith; keeps = keeps; next = λ room. lower };
      certifies = certifies;
      ends = (less, against);
      next_is = is_ratio;
    } in
    subst (λ (k : Slack). IsFoundSlack s p c a b k next) (sym slack_is) (subst (λ (o : Option Ratio). IsFoundSlack s p c a b (record { added = x; cert = cert; against = Some walk }) o) (sym next_is) all)
