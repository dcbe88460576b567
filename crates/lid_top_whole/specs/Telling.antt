-- What `rate`, `size` and `slack` tell of a system and its stations.
use Rattle.lid_top_whole.specs.declared.telling.Telling.{Telling}
use Rattle.lid_top_whole.specs.declared.telling.Telling.TheVariants.{Rate, Size, Slack}
use Rattle.lid_top_script.specs.Outputs.{Output, throughput, sized, slacks}
use Rattle.lid_stations.specs.declared.placement.Placement.{Placement}
use Rattle.lid_stations.specs.Placements.{Links}

abbrev pub output_of : Telling → Links → Placement → Output
output_of Rate = throughput
output_of Size = sized
output_of Slack = slacks
