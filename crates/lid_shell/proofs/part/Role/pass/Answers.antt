-- What each part makes.
use Rattle.std.proofs.Common.{◌+◌, ◌<◌, Bool, List, [], length, get_or, set, refl, sym, ◌∙◌, ap, subst, arith}
use Rattle.std.proofs.lemmas.Option.{slice_get-get_or}
use Rattle.lid_system.specs.Tables.{IsTable}
use Rattle.lid_shell_nodes.specs.Wiring.{SourceView, IsSourceOf}
use Rattle.lid_texts_packed.specs.Input.{input_of}
use Rattle.lid_shell.specs.declared.part.Role.{Role}
use Rattle.lid_shell.specs.Inside.{IsPassing, HasPassed}
use Rattle.lid_shell.proofs.Passed.{row_there, row_wide, source_many, source_makes, shell_taken, shell_many, mover_one, mover_passed, mover_sets, rows_within, shell_passed, sink_can, sink_passed}
use Rattle.lid_shell.proofs.part.Role.pass.Goals as goal

pub put-requires-clause-there : goal.put-requires-clause-there
put-requires-clause-there c =
    let q = c.requires in
    let p = subst (λ (x : Role). IsPassing q.setup q.number c.args.fired c.args.taken.now (length c.args.into.now) x) c.in-Source.is q.passing in
    row_there q.setup q.number c.args.fired c.args.taken.now (length c.args.into.now) c.in-Source.input.node (input_of c.in-Source.input.rows) p.rules p.below p.is.0 p.is.1 p.is.2.rows_are

pub put-requires-clause-wide : goal.put-requires-clause-wide
put-requires-clause-wide c =
    let q = c.requires in
    let p = subst (λ (x : Role). IsPassing q.setup q.number c.args.fired c.args.taken.now (length c.args.into.now) x) c.in-Source.is q.passing in
    let bits = input_of c.in-Source.input.rows in
    let there : c.args.fired + 1 < length bits =
    row_there q.setup q.number c.args.fired c.args.taken.now (length c.args.into.now) c.in-Source.input.node bits p.rules p.below p.is.0 p.is.1 p.is.2.rows_are in
    row_wide q.setup q.number c.args.fired c.args.taken.now (length c.args.into.now) c.in-Source.input.node bits p.rules p.below p.is.0 p.is.1 p.is.2.rows_are
    (get_or bits (c.args.fired + 1) []) (slice_get-get_or bits (c.args.fired + 1) [] there)

pub put-requires-clause-room : goal.put-requires-clause-room
put-requires-clause-room c =
    let q = c.requires in
    let p = subst (λ (x : Role). IsPassing q.setup q.number c.args.fired c.args.taken.now (length c.args.into.now) x) c.in-Source.is q.passing in
    p.is.2.room

pub put-requires-clause-many : goal.put-requires-clause-many
put-requires-clause-many c =
    let q = c.requires in
    let p = subst (λ (x : Role). IsPassing q.setup q.number c.args.fired c.args.taken.now (length c.args.into.now) x) c.in-Source.is q.passing in
    source_many q.setup q.number c.args.fired c.args.taken.now (length c.args.into.now) c.in-Source.input.node (input_of c.in-Source.input.rows) p.rules p.below p.is.0 p.is.1 p.is.2.rows_are c.actors_go_by_rules.ensures p.puts

pub fire-requires-clause-taken : goal.fire-requires-clause-taken
fire-requires-clause-taken c =
    let q = c.requires in
    shell_taken c.actors_go_by_rules.ensures q.setup q.number c.args.fired c.args.taken.now (length c.args.into.now) c.in-Shell.node
    (subst (λ (x : Role). IsPassing q.setup q.number c.args.fired c.args.taken.now (length c.args.into.now) x) c.in-Shell.is q.passing)

pub fire-requires-clause-many : goal.fire-requires-clause-many
fire-requires-clause-many c =
    let q = c.requires in
    shell_many c.actors_go_by_rules.ensures q.setup q.number c.args.fired c.args.taken.now (length c.args.into.now) c.in-Shell.node
    (subst (λ (x : Role). IsPassing q.setup q.number c.args.fired c.args.taken.now (length c.args.into.now) x) c.in-Shell.is q.passing)

pub bounds-taken-0 : goal.bounds-taken-0
bounds-taken-0 c =
    let q = c.requires in
    let one = mover_one c.actors_go_by_rules.ensures q.setup q.number c.args.fired c.args.taken.now (length c.args.into.now)
    (subst (λ (x : Role). IsPassing q.setup q.number c.args.fired c.args.taken.now (length c.args.into.now) x) c.in-Mover.is q.passing) in
    let taken = one.0 in
    omega arith

pub bounds-into-0 : goal.bounds-into-0
bounds-into-0 c =
    let q = c.requires in
    let one = mover_one c.actors_go_by_rules.ensures q.setup q.number c.args.fired c.args.taken.now (length c.args.into.now)
    (subst (λ (x : Role). IsPassing q.setup q.number c.args.fired c.args.taken.now (length c.args.into.now) x) c.in-Mover.is q.passing) in
    let into = one.1 in
    omega arith

pub receive-requires : goal.receive-requires
receive-requires c =
    let q = c.requires in
    let p = subst (λ (x : Role). IsPassing q.setup q.number c.args.fired c.args.taken.now (length c.args.into.now) x) c.in-Sink.is q.passing in
    sink_can c.actors_go_by_rules.ensures q.setup q.number c.args.fired c.args.taken.now (length c.args.into.now) c.in-Sink.node c.in-Sink.given p

pub returns-in-Source-clause-passes : goal.returns-in-Source-clause-passes
returns-in-Source-clause-passes c = λ m v passing.
    let p = subst (λ (x : Role). IsPassing m v c.args.fired c.args.taken.now (length c.args.into.now) x) c.in-Source.is passing in
    let bits = input_of c.in-Source.input.rows in
    record {
      makes =
          source_makes m v c.args.fired c.args.taken.now (length c.args.into.now) c.in-Source.input.node bits p.rules p.below p.is.0 p.is.1 p.is.2.rows_are c.actors_go_by_rules.ensures c.put.new.into
          (c.put.ensures.tokens m.system m.table p.rules.system p.is.1 (subst (λ (rows : List (List Bool)). IsTable m.system rows m.table) (sym p.is.2.rows_are) p.rules.table));
      is = (p.is.0, subst (λ (n : SourceView). IsSourceOf m.system n) (sym c.put.ensures.node) p.is.1, record { rows_are = ap input_of c.put.ensures.rows ∙ p.is.2.rows_are; room = c.put.ensures.room ∙ p.is.2.room ∙ ap (λ (n : SourceView). n.width) (sym c.put.ensures.node) });
    }

pub returns-in-Shell-clause-passes : goal.returns-in-Shell-clause-passes
returns-in-Shell-clause-passes c = λ m v passing.
    let p = subst (λ (x : Role). IsPassing m v c.args.fired c.args.taken.now (length c.args.into.now) x) c.in-Shell.is passing in
    shell_passed c.actors_go_by_rules.ensures m v c.args.fired c.args.taken.now c.fire.new.into (length c.args.into.now) c.in-Shell.node c.fire.new.self p
    (λ takes. c.fire.ensures.goes m.system m.input m.table v c.args.fired p.rules.system p.rules.table (rows_within m v c.args.fired p.below) p.is.2 takes)
    (λ more takes. c.fire.ensures.gives m.system m.input m.table v c.args.fired p.rules.system p.rules.table more p.is.2 takes)

pub returns-in-Mover-clause-passes : goal.returns-in-Mover-clause-passes
returns-in-Mover-clause-passes c = λ m v passing.
    let p = subst (λ (x : Role). IsPassing m v c.args.fired c.args.taken.now (length c.args.into.now) x) c.in-Mover.is passing in
    let one = mover_one c.actors_go_by_rules.ensures m v c.args.fired c.args.taken.now (length c.args.into.now) p in
    subst (λ (x : Role). HasPassed m v c.args.fired (set c.args.into.now 0 (get_or c.args.taken.now 0 0)) x) (sym c.in-Mover.is)
    (mover_passed c.actors_go_by_rules.ensures m v c.args.fired c.args.taken.now (set c.args.into.now 0 (get_or c.args.taken.now 0 0)) (length c.args.into.now) p (mover_sets c.args.taken.now c.args.into.now one.0 one.1))

pub returns-in-Sink-clause-passes : goal.returns-in-Sink-clause-passes
returns-in-Sink-clause-passes c = λ m v passing.
    let p = subst (λ (x : Role). IsPassing m v c.args.fired c.args.taken.now (length c.args.into.now) x) c.in-Sink.is passing in
    sink_passed c.actors_go_by_rules.ensures m v c.args.fired c.args.taken.now c.args.into.now (length c.args.into.now) c.in-Sink.node c.in-Sink.given c.receive.new.self p c.receive.ensures refl
