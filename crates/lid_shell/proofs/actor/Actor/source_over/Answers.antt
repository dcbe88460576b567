-- The source fills the stations of its channels, and drains none.
use Rattle.std.proofs.Common.{◌≡◌, ℕ, ◌-◌, refl, length, sym, ◌∙◌, ap, subst}
use Rattle.lid_system.specs.declared.System.{System}
use Rattle.lid_shell_nodes.specs.Wiring.{IsSourceOf}
use Rattle.lid_texts_packed.specs.Input.{input_of}
use Rattle.lid_shell.proofs.Begun.{new_source}
use Rattle.lid_shell.proofs.actor.Actor.source_over.Goals as goal

pub returns : goal.returns
returns c = λ m setup of rows outs.
    let room : length c.in_ok-row.row.items ≡ c.in_ok-node.node.width = sym c.in_ok-row.row.ok.0 ∙ c.in_ok-row.ensures.len ∙ c.width.ensures in
    new_source c.actors_go_by_rules.ensures m c.args.system.now c.args.outs.now (length (input_of c.args.rows)) c.saturating_sub-cap.result c.in_ok-desk.desk _ setup (ap length (sym rows)) outs
    (c.saturating_sub-cap.ensures ∙ ap (λ (n : ℕ). n - 1) c.len.ensures) c.in_ok-desk.ensures
    (refl, subst (λ (s : System). IsSourceOf s c.in_ok-node.node) (sym of) c.in_ok-node.ensures, record { rows_are = sym rows; room = room })
