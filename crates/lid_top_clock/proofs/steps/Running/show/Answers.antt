use Rattle.std.proofs.Common.{◌≡◌, ◌+◌, ◌++◌, length, sym, ◌∙◌, ap}
use Rattle.lid_stations.specs.Placements.{station_count}
use Rattle.lid_base.proofs.Results.{on_ok}
use Rattle.lid_base.specs.Each.{from_each}
use Rattle.lid_clock.specs.Lives.{Life, shown_after}
use Rattle.lid_top_clock.specs.RunTexts.{cells_after, cycles_traced}
use Rattle.lid_top_clock.specs.Runnings.{LifeBegins}
use Rattle.lid_top_clock.proofs.Outputs.{shown_in}
use Rattle.lid_top_clock.proofs.Goings.{the_ran, on_ok_each}
use Rattle.lid_top_clock.proofs.steps.Running.show.Goals as goal

pub push_cells-requires : goal.push_cells-requires
push_cells-requires c =
    let (r, given, at) = c.requires in
    let (l, k, g, ran, begins) = the_ran r c.args.self.now given at in
    (l, k, g, ran, at.stations ∙ ap (λ p. station_count p.relays) (sym begins.of.stations))

pub returns-then-self-most-clause-shown : goal.returns-then-self-most-clause-shown
returns-then-self-most-clause-shown c = λ r given at.
    let made = c.args.self.now.made in
    on_ok c.push_cells.result (λ each l b. each (l, b))
    (on_ok_each {X = (l : Life) × LifeBegins r given l} (λ x. c.push_cells.new.cells.items ≡ cells_after x.0 (cycles_traced r.trace (made + 1))) c.push_cells.result
    (λ x. on_ok c.push_cells.result
    (λ is. shown_in x.0 r.trace c.in-Some.most made c.args.self.now.cells.items c.push_cells.new.cells.items (sym at.trace ∙ c.in-Some.is) c.if-self-most.true (at.lives x.0 x.1).cells
    (is ∙ ap (λ n. c.args.self.now.cells.items ++ from_each (shown_after x.0 made) 0 n) (at.stations ∙ ap (λ p. station_count p.relays) (sym x.1.of.stations))))
    (c.push_cells.ensures x.0 made (length given) (at.lives x.0 x.1).ran)))
