use Rattle.std.proofs.Common.{length, option_map, refl, sym}
use Rattle.lid_clock.specs.Lives.{StartsSo}
use Rattle.lid_clock_tests.proofs.Living.{life, rules, held_once, free}
use Rattle.lid_clock_tests.proofs.streams.runs.Goals as goal

pub follows-requires : goal.follows-requires
follows-requires c =
    let s = c.args.system.now in
    let p = c.args.placement.now in
    let rows = c.args.rows.now in
    let formed = c.requires.system in
    let fits = c.requires.fits in
    let few = c.requires.few in
    let wide = c.requires.wide in
    let tables = c.systems_have_one_table.ensures.some s formed in
    let l = life s p rows c.args.held formed fits few wide tables in
    let starts : StartsSo l s p (length rows) (option_map (λ row. row.now) c.first_of.result) = record {
      rules = rules s p rows c.args.held formed fits few wide tables;
      of = refl;
      stations = refl;
      many = refl;
      begins = sym c.first_of.ensures;
    } in (
      l,
      refl,
      held_once s p rows c.args.held formed fits few wide tables,
      free s p rows c.args.held formed fits few wide tables,
      c.in-Ok.ensures l starts,
    )
