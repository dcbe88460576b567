-- For the search: what is found with some further relay stations.
use Rattle.std.specs.Prelude.{◌≡◌, ℕ, ◌+◌, ◌<◌, ◌≤◌, ◌^◌, true, length, List, Option}
use Rattle.lid_graph.specs.Ratios.{IsRatio}
use Rattle.lid_stations.specs.declared.placement.Placement.{Placement}
use Rattle.lid_stations.specs.Placements.{links_of, Fits}
use Rattle.lid_stations.specs.Markings.{marking}
use Rattle.lid_system.specs.declared.System.{System}
use Rattle.lid_system.specs.Systems.{IsWellFormed}
use Rattle.lid_cert.specs.declared.cert.Cert.{Cert}
use Rattle.lid_cert.specs.Certificates.{Certifies, has_node, part_at}
use Rattle.lid_rate_ratio.specs.declared.lowest_terms.Ratio.{Ratio}
use Rattle.lid_rate.specs.Exact.{IsExactPart}
use Rattle.lid_slack_longer.specs.Longer.{longer_marking, producer, room, KeepsAt}
use Rattle.lid_graph.specs.declared.graph.Graph.{Graph}
use Rattle.lid_slack.specs.declared.answer.Slack.{Slack}
use Rattle.lid_slack.specs.declared.trial.Probe.{Probe}
use Rattle.lid_slack.specs.Told.{IsEnd, IsAgainst, IsNextRatio}

-- a channel of a system with stations, and as many further relay stations there as there is room for
pub record CanTry (s : System) (p : Placement) (c x : ℕ) : Type 0 where
  pub system : IsWellFormed s
  pub fits : Fits s p
  pub there : c < length s.channels
  pub enough : x ≤ room p c

-- a certificate with x further relay stations, and its part of the channel's component
pub record IsTrial (s : System) (p : Placement) (c x : ℕ) (cert : Cert) (part : ℕ) : Type 0 where
  pub certifies : Certifies (longer_marking (links_of s) p c x) cert
  pub within : part < length cert.parts
  pub stands : has_node (part_at cert.parts part) (producer (links_of s) c) ≡ true
  pub exact : IsExactPart (longer_marking (links_of s) p c x) (part_at cert.parts part)

-- a/b is the present ratio of the channel's component
pub record IsPresent (s : System) (p : Placement) (c a b : ℕ) : Type 0 where
  pub ratio : IsRatio (marking (links_of s) p) (producer (links_of s) c) a b
  pub small_a : a < 2 ^ 31
  pub small_b : b < 2 ^ 31

-- with x further relay stations a ratio is kept, and not with one more, if there is room for it
pub record IsMost (s : System) (p : Placement) (c a b x : ℕ) : Type 0 where
  pub within : x ≤ room p c
  pub keeps : KeepsAt (links_of s) p c x a b
  pub next : x < room p c → KeepsAt (links_of s) p c (x + 1) a b → ⊥

-- the slack that is told, by the present ratio a/b, and the ratio with one more
pub record IsFoundSlack (s : System) (p : Placement) (c a b : ℕ) (slack : Slack) (next : Option Ratio) : Type 0 where
  pub most : IsMost s p c a b slack.added
  pub certifies : Certifies (longer_marking (links_of s) p c slack.added) slack.cert
  pub ends : IsEnd (links_of s) p c slack.added slack.against
  pub next_is : IsNextRatio (links_of s) p c slack next

-- for the loop: a ratio is kept with the low number, and not with the high one
pub record IsBetween (s : System) (p : Placement) (c a b low high : ℕ) : Type 0 where
  pub less : low < high
  pub enough : high ≤ room p c
  pub keeps : KeepsAt (links_of s) p c low a b
  pub lowers : KeepsAt (links_of s) p c high a b → ⊥

-- the same of a probe: its channel, and the present ratio that it holds
abbrev pub CanProbe : Probe → ℕ → Type 0
CanProbe t x = CanTry t.system.now t.placement.now t.channel x

abbrev pub ShowsPresent : Probe → Type 0
ShowsPresent t = IsPresent t.system.now t.placement.now t.channel t.present.p t.present.q

abbrev pub marking_with : Probe → ℕ → Graph
marking_with t x = longer_marking (links_of t.system.now) t.placement.now t.channel x

abbrev pub IsTrialOf : Probe → ℕ → Cert → ℕ → Type 0
IsTrialOf t x cert part = IsTrial t.system.now t.placement.now t.channel x cert part

abbrev pub ProbeKeeps : Probe → ℕ → Type 0
ProbeKeeps t x = KeepsAt (links_of t.system.now) t.placement.now t.channel x t.present.p t.present.q

abbrev pub IsAgainstMore : Probe → ℕ → List ℕ → Type 0
IsAgainstMore t x walk = IsAgainst (links_of t.system.now) t.placement.now t.channel x walk

abbrev pub IsMostOf : Probe → ℕ → Type 0
IsMostOf t x = IsMost t.system.now t.placement.now t.channel t.present.p t.present.q x

abbrev pub IsFoundBy : Probe → Slack → Option Ratio → Type 0
IsFoundBy t slack next = IsFoundSlack t.system.now t.placement.now t.channel t.present.p t.present.q slack next
