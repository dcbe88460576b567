-- That channels have slacks, and texts of them.
use Rattle.std.specs.Prelude.{◌≡◌, ℕ, ◌<◌, List, length, Option}
use Rattle.lid_system.specs.declared.System.{System}
use Rattle.lid_system.specs.Systems.{IsWellFormed}
use Rattle.lid_stations.specs.declared.placement.Placement.{Placement}
use Rattle.lid_stations.specs.Placements.{Links, links_of, Fits}
use Rattle.lid_rate_ratio.specs.declared.lowest_terms.Ratio.{Ratio}
use Rattle.lid_slack.specs.declared.answer.Slack.{Slack}
use Rattle.lid_slack.specs.Slack.{IsSlack}
use Rattle.lid_slack.specs.Told.{IsTold, IsNextRatio}
use Rattle.lid_size_text.specs.Slacks.{IsSlackText}

-- the slack of channel c, what shows it, and the ratio of the channel's component with one more
pub record HasSlack (l : Links) (p : Placement) (c : ℕ) : Type 0 where
  pub slack : Slack
  pub told : IsTold l p c slack
  pub next : Option Ratio
  pub is_next : IsNextRatio l p c slack next

abbrev pub ChannelsHaveSlacks : Type 0
ChannelsHaveSlacks =
    (s : System) (p : Placement) (c : ℕ)
    → IsWellFormed s → Fits s p → c < length s.channels → HasSlack (links_of s) p c

abbrev pub SlacksAreUnique : Type 0
SlacksAreUnique = (l : Links) (p : Placement) (c x y : ℕ) → IsSlack l p c x → IsSlack l p c y → x ≡ y

-- a text that `slack` may answer
abbrev pub PlacementsHaveSlackTexts : Type 0
PlacementsHaveSlackTexts =
    (s : System) (p : Placement) → IsWellFormed s → Fits s p → (text : List ℕ) × IsSlackText (links_of s) p text
