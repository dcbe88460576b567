use Rattle.std.proofs.Common.{map, sym, ◌∙◌, ap}
use Rattle.lid_system.proofs.Giving.{given_row}
use Rattle.lid_shell_nodes.specs.Wiring.{SourceView}
use Rattle.lid_shell_nodes.specs.Inside.{token_of_bits}
use Rattle.lid_shell_nodes.proofs.Tokens.{tokens_are}
use Rattle.lid_shell_nodes.proofs.source.SourceNode.put.Goals as goal

pub returns-clause-tokens : goal.returns-clause-tokens
returns-clause-tokens c s rows b t well is table here =
    let row = c.args.row.now in
    c.pack_all.ensures
    ∙ ap (map (token_of_bits row)) (c.as_slice.ensures.value ∙ ap (λ (v : SourceView). v.ports) c.self.view_is ∙ is.from)
    ∙ tokens_are s well 0 b t row (sym (given_row s rows b t is.columns row is.node table here (c.requires.row ∙ is.wide)))
