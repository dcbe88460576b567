use Rattle.std.proofs.Common.{length}
use Rattle.lid_graph.specs.Walks.{walk_tokens}
use Rattle.lid_stations.specs.Markings.{marking}
use Rattle.lid_slack_longer.specs.Longer.{longer_marking, producer}
use Rattle.lid_slack.proofs.Ratios.{keeps_lower, ratio_keeps, keeps_ratio, one_ratio}
use Rattle.lid_slack.proofs.laws.keeping_is_not_lowering.Goals as goal

pub returns : goal.returns
returns start l p c x a b d e present later = (
  λ keeps. ratio_keeps (longer_marking l p c x) (producer l c) d e a b later (keeps a b present),
  λ less f g other ks near.
      keeps_lower a b f g (length ks) (walk_tokens (longer_marking l p c x) ks) present.positive (one_ratio (marking l p) (producer l c) a b f g present other)
      (keeps_ratio (longer_marking l p c x) (producer l c) d e a b later less ks near),
)
