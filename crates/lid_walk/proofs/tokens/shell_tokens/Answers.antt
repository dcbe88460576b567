-- A shell in its first state shows the tokens of the first row.
use Rattle.std.proofs.Common.{false, length, ◌∙◌, ap, arith}
use Rattle.std.proofs.lemmas.Option.{slice_get_within}
use Rattle.lid_design.specs.Network.{Table}
use Rattle.lid_system.specs.Systems.{Point}
use Rattle.lid_base.proofs.Lists.{refilled}
use Rattle.lid_walk.proofs.tokens.shell_tokens.Goals as goal

no_table : Table Point
no_table t point = false

pub show-requires : goal.show-requires
show-requires c =
    let many = c.requires.many in
    let from = ap length (c.in_ok-shell.ensures no_table).from in
    let size = c.in_ok-tokens.ensures.len in
    let long = c.as_mut_slice.ensures.len in
    omega arith

pub returns-clause-tokens : goal.returns-clause-tokens
returns-clause-tokens c = λ row rows b table at.
    refilled c.in_ok-tokens.tokens.len c.show.new.into c.in_ok-tokens.tokens.items (c.show.ensures.many ∙ c.as_mut_slice.ensures.len)
    ∙ c.show.ensures.tokens c.args.system.now rows b c.args.node 0 c.requires.system table (slice_get_within rows 0 row at) (c.in_ok-shell.ensures b)
