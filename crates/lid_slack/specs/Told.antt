-- What is told of the slack of a channel, and of the ratio with one relay station more.
use Rattle.std.specs.Prelude.{◌≡◌, ℕ, ◌+◌, ◌*◌, ◌<◌, ◌≤◌, List, length, Option}
use Rattle.std.specs.Option.{MatchOption, IsNone}
use Rattle.lid_graph.specs.Walks.{walk_tokens}
use Rattle.lid_graph.specs.Ratios.{IsClosedWalkNear, IsRatio}
use Rattle.lid_stations.specs.declared.placement.Placement.{Placement}
use Rattle.lid_stations.specs.Placements.{Links}
use Rattle.lid_stations.specs.Markings.{marking}
use Rattle.lid_rate_ratio.specs.declared.lowest_terms.Ratio.{Ratio}
use Rattle.lid_cert.specs.Certificates.{Certifies, IsInRange}
use Rattle.lid_slack.specs.declared.answer.Slack.{Slack}
use Rattle.lid_slack.specs.declared.answer.PlainSlack.{PlainSlack}
use Rattle.lid_slack.specs.declared.certified.Certified.{Certified}
use Rattle.lid_slack_longer.specs.Longer.{longer_marking, producer, room, KeepsRatio}
use Rattle.lid_slack.specs.Slack.{IsSlack}

-- the marked graph of a placement, and a certificate of it with all numbers in range
pub record IsCertified (l : Links) (p : Placement) (present : Certified) : Type 0 where
  pub graph : present.graph ≡ marking l p
  pub certifies : Certifies present.graph present.cert
  pub in_range : IsInRange present.cert

-- with x further relay stations on channel c the walk is a closed one of its component, of the least ratio
-- there, which is below the present one
pub record IsAgainst (l : Links) (p : Placement) (c x : ℕ) (walk : List ℕ) : Type 0 where
  pub near : IsClosedWalkNear (longer_marking l p c x) (producer l c) walk
  pub least :
      (ks : List ℕ)
      → IsClosedWalkNear (longer_marking l p c x) (producer l c) ks
      → walk_tokens (longer_marking l p c x) walk * length ks ≤ walk_tokens (longer_marking l p c x) ks * length walk
  pub below : (a b : ℕ) → IsRatio (marking l p) (producer l c) a b → b * walk_tokens (longer_marking l p c x) walk < a * length walk

-- a walk is told exactly where there is room for one more than x, and it lowers the ratio
abbrev pub IsEnd : Links → Placement → ℕ → ℕ → Option (List ℕ) → Type 0
IsEnd l p c x against = MatchOption against (x ≡ room p c) (λ walk. (x < room p c) × IsAgainst l p c (x + 1) walk)

-- what is told of the slack of channel c
pub record IsTold (l : Links) (p : Placement) (c : ℕ) (slack : Slack) : Type 0 where
  pub added : IsSlack l p c slack.added
  pub fewer : (y : ℕ) → y ≤ slack.added → KeepsRatio l p c y
  pub cert : Certifies (longer_marking l p c slack.added) slack.cert
  pub against : IsEnd l p c slack.added slack.against

-- the ratio of the component with one more than the slack is told exactly where a walk is
abbrev pub IsNextRatio : Links → Placement → ℕ → Slack → Option Ratio → Type 0
IsNextRatio l p c slack next =
    MatchOption slack.against (IsNone next)
    (λ walk. MatchOption next ⊥ (λ ratio. IsRatio (longer_marking l p c (slack.added + 1)) (producer l c) ratio.p ratio.q))

-- with one more than x the component has this ratio, where there is room for one more, else no ratio is told
abbrev pub HasNextRatio : Links → Placement → ℕ → ℕ → Option Ratio → Type 0
HasNextRatio l p c x next =
    MatchOption next (x ≡ room p c) (λ ratio. (x < room p c) × IsRatio (longer_marking l p c (x + 1)) (producer l c) ratio.p ratio.q)

-- the slack of channel c, and the ratio of its component with one more
pub record IsSlackAndNext (l : Links) (p : Placement) (c : ℕ) (found : PlainSlack) : Type 0 where
  pub added : IsSlack l p c found.added
  pub next : HasNextRatio l p c found.added found.next
