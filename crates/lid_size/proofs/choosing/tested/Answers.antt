use Rattle.std.proofs.Common.{◌≡◌, ℕ, length, Option, IfSome, sym, ◌∙◌, subst}
use Rattle.lid_stations.specs.Placed.{Placing, links_in}
use Rattle.lid_stations.specs.Placements.{station_count}
use Rattle.lid_size.specs.Comparing.{AreWants}
use Rattle.lid_size.specs.Sizing.{Reaches}
use Rattle.lid_size.specs.Testing.{AreTight}
use Rattle.lid_size.proofs.Reaching.{stations_counted, stations_of, wants_with}
use Rattle.lid_size.proofs.Refuted.{tested_is}
use Rattle.lid_size.proofs.choosing.tested.Goals as goal

pub guessed_sizes-requires-clause-graph : goal.guessed_sizes-requires-clause-graph
guessed_sizes-requires-clause-graph c = (stations_of _ _ c.args.graph.now c.len-count.result c.widest.view_is c.widest.invariant c.requires.graph c.len-count.ensures).rateable

pub reaches-requires : goal.reaches-requires
reaches-requires c =
    let s = c.widest.inside.system.now in
    let p = c.widest.inside.placement.now in
    wants_with s p.relays p.caps c.in_ok-trial.trial.relays c.in_ok-trial.trial.caps c.args.wants.now (c.in_ok-trial.ensures.relays ∙ c.as_slice.ensures)
    (subst (λ (v : Placing). AreWants v c.args.wants.now) (sym c.widest.view_is) c.requires.wants)

pub returns-then-branch : goal.returns-then-branch
returns-then-branch c =
    let s = c.args.widest.now.system in
    let p = c.args.widest.now.placement in
    let trial = c.in_ok-trial.trial in
    let caps = c.in-Some.caps.items in
    let told = subst (λ (o : Option _). IfSome o (λ caps. (length caps.items ≡ c.len-count.result) × AreTight c.args.graph.now c.len-count.result c.args.wants.now caps.items)) c.in-Some.is c.in_ok-caps.ensures in
    let count : length caps ≡ station_count p.relays = told.0 ∙ stations_counted _ _ c.len-count.result c.widest.view_is c.widest.invariant c.len-count.ensures in
    let tight : AreTight c.args.graph.now (length caps) c.args.wants.now caps = subst (λ (n : ℕ). AreTight c.args.graph.now n c.args.wants.now caps) (sym told.0) told.1 in
    tested_is s p.relays caps p.caps c.args.graph.now c.args.wants.now trial
    (subst (λ (v : Placing). trial.relays ≡ v.placement.relays) c.widest.view_is (c.in_ok-trial.ensures.relays ∙ c.as_slice.ensures))
    c.in_ok-trial.ensures.caps count c.requires.graph c.requires.widest c.requires.wants tight
    (subst (λ (v : Placing). Reaches (links_in v) trial.relays trial.caps) c.widest.view_is (c.in_ok-reaches.ensures.0 c.if-branch.true))
