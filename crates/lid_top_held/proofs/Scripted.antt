-- The script of a command whose run holds its rows goes from the netlist to the rows, and on as the run does.
use Rattle.std.proofs.Common.{◌≡◌, ℕ, Bool, List, Option, Some, refl}
use Rattle.lid_design.specs.declared.Design.{Design}
use Rattle.lid_stations.specs.declared.placement.Placement.{Placement}
use Rattle.lid_stations.specs.Placements.{Links}
use Rattle.lid_top_script.specs.FetchSteps.{FetchesNothing}
use Rattle.lid_top_script.specs.Outputs.{waved}
use Rattle.lid_top_script.specs.Scripts.{Script, end, gives, trace_read, wrapped_step, rows_step, held_step, freeing_script, waving_script, free_script, walk_script, wave_script}
use Rattle.lid_top_script.proofs.Going.{then_nothing}
use Rattle.lid_top_held.specs.declared.run.Asked.{Asked}
use Rattle.lid_top_held.specs.declared.run.HeldRun.{HeldRun}
use Rattle.lid_top_held.specs.declared.run.HeldRun.TheVariants.{Free, Walk, Wave}
use Rattle.lid_top_held.specs.Runs.{script_for, script_by, asked_script}

script_is : (net vec : List ℕ) (stations root : Option (List ℕ)) (run : HeldRun) → held_step net vec stations root (script_for run) ≡ script_by net vec stations root run
unfolding free_script walk_script wave_script
script_is net vec stations root (Free workers rounds tally) = refl
script_is net vec stations root (Walk schedule) = refl
script_is net vec stations root (Wave cycles) = refl

-- what is left once the stations are read
abbrev pub after_wrapped : Asked → Design → Links → Placement → Script
after_wrapped a d l p = rows_step d a.vec.now (script_for a.run d l p)

pub asked_is : (a : Asked) → wrapped_step a.files.net.now a.files.stations.now a.files.root.now (after_wrapped a) ≡ asked_script a
asked_is a = script_is a.files.net.now a.vec.now a.files.stations.now a.files.root.now a.run

-- once the rows are read, a free run and a trace fetch nothing
pub freeing_fetches_nothing : (d : Design) (l : Links) (p : Placement) (workers rounds : ℕ) (tally : Bool) (rows : List (List Bool)) → FetchesNothing (freeing_script d l p workers rounds tally rows)
unfolding freeing_script
freeing_fetches_nothing d l p workers rounds tally rows = tt

pub waving_fetches_nothing : (d : Design) (l : Links) (p : Placement) (cycles : ℕ) (rows : List (List Bool)) → FetchesNothing (waving_script d l p cycles rows)
unfolding waving_script
waving_fetches_nothing d l p cycles rows = then_nothing (trace_read p (Some cycles)) (λ _. end (gives (waved d l p rows cycles))) (λ _. tt)
