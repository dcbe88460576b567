-- Which commands are run by one function. This serves the functions that run them.
use Rattle.std.specs.Prelude.{Bool, true, false}
use Rattle.lid_top_words.specs.declared.job.Job.{Job}
use Rattle.lid_top_words.specs.declared.job.Job.TheVariants.{Emit, Free, Place, Rate, Size, Slack, Verify, Walk, Wave}

-- what is told of a system and its stations
abbrev pub is_told : Job → Bool
is_told (Rate net stations root) = true
is_told (Size net stations root) = true
is_told (Slack net stations root) = true
is_told _ = false

-- what is made of a netlist and its stations, its wires or a certificate
abbrev pub reads_netlist : Job → Bool
reads_netlist (Emit net stations root) = true
reads_netlist (Place net wires reach root) = true
reads_netlist (Verify net cert stations root) = true
reads_netlist _ = false

-- a free run
abbrev pub is_free : Job → Bool
is_free (Free net vec stations workers rounds tally root) = true
is_free _ = false

-- a walk along a schedule, or a trace as a dump
abbrev pub holds_rows : Job → Bool
holds_rows (Walk net vec schedule stations root) = true
holds_rows (Wave net vec stations trace root) = true
holds_rows _ = false
