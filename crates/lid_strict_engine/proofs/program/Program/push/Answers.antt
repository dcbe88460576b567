use Rattle.lid_strict_engine.specs.Programs.{program_covers}
use Rattle.lid_strict_engine.proofs.Laying.{pushed_shown, pushed_steps, pushed_reads}
use Rattle.std.proofs.Common.{List, ◌++◌, map, ◌∙◌, ap, subst, sym}
use Rattle.std.specs.List.{AllByRecursion}
use Rattle.lid_cover.specs.declared.Cube.{Cube}
use Rattle.lid_strict_engine.specs.Programs.{shown_step, IsStep}
use Rattle.lid_strict_engine.proofs.program.Program.push.Goals as goal

pub returns-clause-laid : goal.returns-clause-laid
returns-clause-laid c =
    let p = c.args.self.now in
    let reads = c.append.new.to.items in
    let cubes = c.append-2.new.to.items in
    let rows = c.in_ok-cubes.ensures.items ∙ ap (λ (cs : List Cube). p.cubes.items ++ cs) c.as_slice.ensures in
    record {
      reads = pushed_reads p.nets p.reads.items c.args.ins.now reads c.in_ok-reads.ensures.items c.requires.laid.reads c.requires.ins;
      steps = subst (AllByRecursion (IsStep p.nets reads cubes)) (sym c.in_ok-push.ensures.items)
          (pushed_steps p.nets p.steps.items p.reads.items c.args.ins.now reads p.cubes.items cubes c.args.cover.now c.args.out c.small_table.result c.in_ok-reads.reads.start c.in_ok-cubes.cubes c.requires.laid.steps c.in_ok-reads.ensures.items rows c.in_ok-reads.ensures.part.0 c.in_ok-cubes.ensures.part.0 c.in_ok-cubes.ensures.part.1 c.requires.rules c.requires.width c.requires.out c.small_table.ensures);
    }

pub returns-clause-shown : goal.returns-clause-shown
unfolding program_covers
returns-clause-shown c =
    let p = c.args.self.now in
    let reads = c.append.new.to.items in
    let cubes = c.append-2.new.to.items in
    let rows = c.in_ok-cubes.ensures.items ∙ ap (λ (cs : List Cube). p.cubes.items ++ cs) c.as_slice.ensures in
    ap (map (shown_step reads cubes)) c.in_ok-push.ensures.items
    ∙ pushed_shown p.nets p.steps.items p.reads.items c.args.ins.now reads p.cubes.items cubes c.args.cover.now c.args.out c.small_table.result c.in_ok-reads.reads.start c.in_ok-cubes.cubes c.requires.laid.steps c.in_ok-reads.ensures.items rows c.in_ok-reads.ensures.part.0 c.in_ok-cubes.ensures.part.0 c.in_ok-cubes.ensures.part.1 c.requires.rules c.requires.width c.requires.out c.small_table.ensures
