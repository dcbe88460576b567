use Rattle.std.proofs.Common.{◌≡◌, Bool, List, length, map, ◌∙◌, ap, subst}
use Rattle.lid_pearl.specs.Pearls.{Shows}
use Rattle.lid_shell_nodes.specs.Wiring.{ShellView}
use Rattle.lid_shell_nodes.specs.Inside.{token_of_bits}
use Rattle.lid_shell_nodes.proofs.Following.{shown_tokens}
use Rattle.lid_base.proofs.Lists.{refilled}
use Rattle.lid_shell_nodes.proofs.shell.ShellNode.show.Goals as goal

pub returns-clause-tokens : goal.returns-clause-tokens
returns-clause-tokens c s rows b v t well table below is =
    let room = c.self.inside.room.outs in
    let outs = c.outputs.new.into in
    let long : length outs ≡ room.len = c.outputs.auto.into ∙ c.as_mut_slice.ensures.len in
    c.pack_all.ensures
    ∙ ap (λ (bits : List Bool). map (token_of_bits bits) c.as_slice-2.result.now) (c.as_slice.ensures.value ∙ refilled room.len outs room.items long)
    ∙ ap (map (token_of_bits outs)) (c.as_slice-2.ensures.value ∙ ap (λ (x : ShellView). x.ports) c.self.view_is)
    ∙ shown_tokens s well rows b table v t c.args.self.now is outs below (subst (λ (x : ShellView). Shows x.pearl outs) c.self.view_is c.outputs.ensures)
