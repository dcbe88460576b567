use Rattle.std.proofs.Common.{◌||◌, true, false, not, refl, sym, ap, ◌∙◌}
use Rattle.lid_design.specs.declared.Design.{Design}
use Rattle.lid_design.specs.Models.{is_clock_of, read_names, inner_drivers}
use Rattle.lid_check_names.specs.Names.{is_among}
use Rattle.lid_check_table.specs.Tables.{names_in}
use Rattle.lid_check_table.proofs.Marking.{mark_here}
use Rattle.lid_check_rules.proofs.Clocking.{clock_here, given_here, misused_by}
use Rattle.lid_check_rules.proofs.names.is_misused.Goals as goal

pub returns-else-is_clock : goal.returns-else-is_clock
returns-else-is_clock c =
    let d = c.args.ports.now in
    let m = c.args.nets.now.table.now in
    let name = c.args.name.now in
    let clock = c.is_clock.ensures ∙ ap (λ (e : Design). is_clock_of e c.args.k name) c.survey.ensures ∙ clock_here d c.args.k m name c.requires.nets.here in
    c.if-is_clock.false ∙ misused_by d m name false (is_among name m.inputs || is_among name m.clocks) (is_among name (read_names d m)) (is_among name (inner_drivers d m)) (sym c.if-is_clock.false ∙ clock) refl refl refl

pub returns-then-not-given : goal.returns-then-not-given
returns-then-not-given c =
    let d = c.args.ports.now in
    let m = c.args.nets.now.table.now in
    let name = c.args.name.now in
    let clock = c.is_clock.ensures ∙ ap (λ (e : Design). is_clock_of e c.args.k name) c.survey.ensures ∙ clock_here d c.args.k m name c.requires.nets.here in
    let given = c.is_given-given.ensures ∙ given_here d c.args.k m name c.requires.nets.here in
    ap not c.if-not-given.true ∙ misused_by d m name true false (is_among name (read_names d m)) (is_among name (inner_drivers d m)) (sym c.if-is_clock.true ∙ clock) (sym c.if-not-given.true ∙ given) refl refl

pub returns-then-read : goal.returns-then-read
returns-then-read c =
    let d = c.args.ports.now in
    let m = c.args.nets.now.table.now in
    let name = c.args.name.now in
    let clock = c.is_clock.ensures ∙ ap (λ (e : Design). is_clock_of e c.args.k name) c.survey.ensures ∙ clock_here d c.args.k m name c.requires.nets.here in
    let given = c.is_given-given.ensures ∙ given_here d c.args.k m name c.requires.nets.here in
    let read = c.is_marked-read.ensures ∙ mark_here (λ n. is_among n (read_names d m)) (names_in m) c.as_slice.result.now c.args.number name (c.as_slice.ensures ∙ c.requires.nets.read) c.requires.name in
    c.if-read.true ∙ misused_by d m name true true true (is_among name (inner_drivers d m)) (sym c.if-is_clock.true ∙ clock) (sym c.if-not-given.false ∙ given) (sym c.if-read.true ∙ read) refl

pub returns-else-read : goal.returns-else-read
returns-else-read c =
    let d = c.args.ports.now in
    let m = c.args.nets.now.table.now in
    let name = c.args.name.now in
    let clock = c.is_clock.ensures ∙ ap (λ (e : Design). is_clock_of e c.args.k name) c.survey.ensures ∙ clock_here d c.args.k m name c.requires.nets.here in
    let given = c.is_given-given.ensures ∙ given_here d c.args.k m name c.requires.nets.here in
    let read = c.is_marked-read.ensures ∙ mark_here (λ n. is_among n (read_names d m)) (names_in m) c.as_slice.result.now c.args.number name (c.as_slice.ensures ∙ c.requires.nets.read) c.requires.name in
    let driven = c.is_marked-driven.ensures ∙ mark_here (λ n. is_among n (inner_drivers d m)) (names_in m) c.as_slice-2.result.now c.args.number name (c.as_slice-2.ensures ∙ c.requires.nets.within) c.requires.name in
    misused_by d m name true true false c.is_marked-driven.result (sym c.if-is_clock.true ∙ clock) (sym c.if-not-given.false ∙ given) (sym c.if-read.false ∙ read) driven
