-- The laws that clocked runs rest on, in one.
use Rattle.lid_stations.specs.Laws.{StationsStandBetweenActors}
use Rattle.lid_shell_laws.specs.Laws.{ActorsFireWhereTheyMay, ActorsRestWhereTheyMayNot, StationsHoldFew, NodesDrainTheirChannels, NodesFillTheirChannels, StationsOfNodesStartWithAToken, MoversMoveTokensOn}

pub record RunsGoByRules : Type 0 where
  pub fires : ActorsFireWhereTheyMay
  pub rests : ActorsRestWhereTheyMayNot
  pub few : StationsHoldFew
  pub drained : NodesDrainTheirChannels
  pub filled : NodesFillTheirChannels
  pub starts : StationsOfNodesStartWithAToken
  pub moves : MoversMoveTokensOn
  pub between : StationsStandBetweenActors
