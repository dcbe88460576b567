use Rattle.std.proofs.Common.{◌&&◌, Bool, not, sym, ap, ◌∙◌}
use Rattle.lid_design.specs.Models.{read_names, driver_names}
use Rattle.lid_check_names.specs.Names.{is_among}
use Rattle.lid_check_table.specs.Tables.{names_in}
use Rattle.lid_check_table.proofs.Marking.{mark_here}
use Rattle.lid_check_rules.proofs.names.is_undriven.Goals as goal

pub returns-then-read : goal.returns-then-read
returns-then-read c name here =
    let d = c.args.ports.now in
    let m = c.args.nets.now.table.now in
    let read = c.is_marked-read.ensures ∙ mark_here (λ n. is_among n (read_names d m)) (names_in m) c.as_slice.result.now c.args.number name (c.as_slice.ensures ∙ c.requires.read) here in
    let driven = c.is_marked-driven.ensures ∙ mark_here (λ n. is_among n (driver_names d m)) (names_in m) c.as_slice-2.result.now c.args.number name (c.as_slice-2.ensures ∙ c.requires.driven) here in
    ap not driven ∙ ap (λ (b : Bool). b && not (is_among name (driver_names d m))) (sym c.if-read.true ∙ read)

pub returns-else-read : goal.returns-else-read
returns-else-read c name here =
    let d = c.args.ports.now in
    let m = c.args.nets.now.table.now in
    let read = c.is_marked-read.ensures ∙ mark_here (λ n. is_among n (read_names d m)) (names_in m) c.as_slice.result.now c.args.number name (c.as_slice.ensures ∙ c.requires.read) here in
    c.if-read.false ∙ ap (λ (b : Bool). b && not (is_among name (driver_names d m))) (sym c.if-read.false ∙ read)
