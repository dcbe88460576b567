-- What was built is laid flat, as it is.
use Rattle.std.proofs.Common.{◌≡◌, ℕ, min, List, length, sym, subst}
use Rattle.lid_base.proofs.Results.{if_ok}
use Rattle.lid_clock.specs.declared.station.ClockStation.{ClockStation}
use Rattle.lid_clock.specs.Lives.{Life}
use Rattle.lid_clock.specs.Ran.{Ran}
use Rattle.lid_clock_flat.specs.declared.run.FlatRun.{FlatRun}
use Rattle.lid_clock_flat.specs.Layings.{AreEmptied, AreFlattened}
use Rattle.lid_clock_flat.specs.Runs.{FlatRan, IsFlatRunOf}
use Rattle.lid_clock_flat.proofs.Begun.{emptied, movers_drain, begun}
use Rattle.lid_clock_flat.proofs.run.FlatRun.of.Goals as goal

pub lay_all-requires-clause-fresh : goal.lay_all-requires-clause-fresh
lay_all-requires-clause-fresh c =
    let q = c.requires in
    subst (λ (xs : List ClockStation). AreEmptied xs) (sym c.as_slice.ensures.value) (emptied q.0 q.1 c.args.stream q.2)

pub with-requires : goal.with-requires
with-requires c = let q = c.requires in movers_drain c.runs_go_by_rules.ensures q.0 q.1 c.args.count c.args.stream q.2 q.3

pub returns : goal.returns
returns c =
    let x = c.args.stream in
    let laid : AreFlattened x.stations.items (length x.stations.items) c.in_ok-stations.stations =
    subst (λ (xs : List ClockStation). AreFlattened xs (length xs) c.in_ok-stations.stations) c.as_slice.ensures.value c.in_ok-stations.ensures in
    if_ok {P = IsFlatRunOf x.actors.items c.in_ok-stations.stations c.args.count c.args.rows}
    {Q = λ (run : FlatRun). (l : Life) (g : ℕ) → Ran l 0 g x → c.args.count ≡ length l.setup.system.nodes → c.args.rows ≡ length l.setup.input → g ≡ min 1 c.args.rows → FlatRan l 0 g run}
    c.with.result (λ run has l g ran is many given. begun c.runs_go_by_rules.ensures l g c.args.count c.args.rows x c.in_ok-stations.stations run ran is many given laid has)
    c.with.ensures
