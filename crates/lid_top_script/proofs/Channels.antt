-- The channels of accepted designs.
use Rattle.std.proofs.Common.{ℕ, ◌≤◌, List, length, Option}
use Rattle.std.specs.List.{AllByRecursion}
use Rattle.lid_design.specs.declared.Design.{Design}
use Rattle.lid_system.specs.declared.Channel.{Channel}
use Rattle.lid_net_channels.proofs.Cutting.{narrow_all}
use Rattle.lid_top_script.specs.Scripts.{HasChannels}
use Rattle.lid_top_script.specs.Wrapped.{Building, graphing_of}
use Rattle.lid_top_script.specs.Causes.{GotChannels, GotSystem}

-- a channel has at most 31 ports
pub narrow_channels : (d : Design) (channels : List Channel) → HasChannels d channels → AllByRecursion (λ c. length c.ports ≤ 31) channels
narrow_channels d channels h = narrow_all channels h.graph.cut

-- where a system was built, its channels are found
pub built_channels : {held : List ℕ → Option (List ℕ)} {net : List ℕ} {root : Option (List ℕ)} (b : Building) → GotSystem held net root b → GotChannels held net root (graphing_of b)
built_channels b g = record { design = g.design; got = g.got; finds = record { is_checked = g.builds.is_checked; has = g.builds.has } }
