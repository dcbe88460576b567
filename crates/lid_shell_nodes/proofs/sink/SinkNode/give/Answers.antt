use Rattle.std.proofs.Common.{◌≡◌, ℕ, ◌-◌, List, length, map, sym, ◌∙◌, ap, arith}
use Rattle.lid_system.specs.declared.Node.TheVariants.{Sink}
use Rattle.lid_system.specs.Tables.{input_bits}
use Rattle.lid_shell_nodes.specs.Wiring.{SinkView, read_of}
use Rattle.lid_shell_nodes.specs.Inside.{bit_read}
use Rattle.lid_shell_nodes.proofs.Tokens.{bits_are, inputs_at}
use Rattle.lid_shell_nodes.proofs.sink.SinkNode.give.Goals as goal

pub returns-clause-row : goal.returns-clause-row
returns-clause-row c s rows b v t well table below is taken =
    let last : v ≡ length s.nodes - 1 = (let end = is.last in omega arith) in
    c.read_all.ensures
    ∙ ap (map (bit_read c.args.taken.now)) (c.as_slice.ensures.value ∙ ap (λ (x : SinkView). x.reads) c.self.view_is ∙ is.reading)
    ∙ ap (λ (tokens : List ℕ). map (bit_read tokens) (map (read_of s.channels v) is.ins)) taken
    ∙ bits_are s well v b t is.ins (well.each_node v (Sink is.columns is.ins) is.node).reads
    ∙ sym (inputs_at s b v t (Sink is.columns is.ins) is.node)
    ∙ ap (λ (i : ℕ). input_bits s b i t) last
