use Rattle.std.proofs.Common.{◌≡◌, ℕ, [], ◌∷◌, ◌++◌, ◌∙◌, ap, arith}
use Rattle.lid_base.specs.declared.runs.Shown.{Shown}
use Rattle.lid_base.specs.Each.{from_each}
use Rattle.lid_clock.specs.Lives.{shown_after}
use Rattle.lid_base.proofs.Each.{each_pushed}
use Rattle.lid_top_held.proofs.dumping.push_cells.Goals as goal

pub loop-station-preserved : goal.loop-station-preserved
loop-station-preserved c = λ life k ran.
    each_pushed (shown_after life k) c.args.cells.now.items c.loop-station.cells.items c.push.new.self.items c.loop-station.station (c.loop-station.invariant life k ran)
    (c.in_ok-push.ensures.items ∙ ap (λ (cell : Shown). c.loop-station.cells.items ++ cell ∷ []) (c.show.ensures life k ran))

pub returns : goal.returns
returns c = λ life k ran all.
    c.loop-station.invariant life k ran
    ∙ (let e : c.loop-station.station ≡ c.args.stations = omega (arith, c.loop-station-test.false, c.loop-station.auto.station-end) in ap (λ (n : ℕ). c.args.cells.now.items ++ from_each (shown_after life k) 0 n) (e ∙ all))
