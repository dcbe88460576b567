-- The scripts of runs that hold their rows: that of the command, and the steps that are left once the rows are read.
use Rattle.std.specs.Prelude.{⊤, ◌≤◌, ℕ, Bool, List, Option}
use Rattle.lid_design.specs.declared.Design.{Design}
use Rattle.lid_stations.specs.declared.placement.Placement.{Placement}
use Rattle.lid_stations.specs.Placements.{Links, links_of}
use Rattle.lid_top_script.specs.Wrapped.{Wrapping}
use Rattle.lid_top_script.specs.Scripts.{Script, freeing_script, schedule_script, waving_script, free_script, walk_script, wave_script}
use Rattle.lid_top_held.specs.declared.run.Asked.{Asked}
use Rattle.lid_top_held.specs.declared.run.HeldRun.{HeldRun}
use Rattle.lid_top_held.specs.declared.run.HeldRun.TheVariants.{Free, Walk, Wave}

-- the steps that are left
abbrev pub script_for : HeldRun → Design → Links → Placement → List (List Bool) → Script
script_for (Free workers rounds tally) d l p rows = freeing_script d l p workers rounds tally rows
script_for (Walk schedule) d l p rows = schedule_script d l p schedule.now rows
script_for (Wave cycles) d l p rows = waving_script d l p cycles rows

-- those of a design with its system and stations, for these rows
abbrev pub fed_script : HeldRun → Wrapping → List (List Bool) → Script
fed_script run w rows = script_for run w.design (links_of w.system) w.placement rows

-- the script of the command
abbrev pub script_by : List ℕ → List ℕ → Option (List ℕ) → Option (List ℕ) → HeldRun → Script
script_by net vec stations root (Free workers rounds tally) = free_script net vec stations workers rounds tally root
script_by net vec stations root (Walk schedule) = walk_script net vec schedule.now stations root
script_by net vec stations root (Wave cycles) = wave_script net vec stations cycles root

-- that of what is asked for
abbrev pub asked_script : Asked → Script
asked_script a = script_by a.files.net.now a.vec.now a.files.stations.now a.files.root.now a.run

-- there are some workers, and not too many of them or of their rounds; a trace has some cycles and not too many
abbrev pub IsSoundRun : HeldRun → Type 0
IsSoundRun (Free workers rounds tally) = (1 ≤ workers) × (workers ≤ 64) × (rounds ≤ 1000000)
IsSoundRun (Walk schedule) = ⊤
IsSoundRun (Wave cycles) = (1 ≤ cycles) × (cycles ≤ 1048576)
