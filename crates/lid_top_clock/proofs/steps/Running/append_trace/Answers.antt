use Rattle.std.proofs.Common.{◌*◌, ℕ, length, sym, ◌∙◌, ap}
use Rattle.lid_top_clock.proofs.Goings.{trace_long}
use Rattle.lid_top_clock.proofs.steps.Running.append_trace.Goals as goal

pub print_trace-requires : goal.print_trace-requires
print_trace-requires c =
    let r = c.requires.0 in
    let given = c.requires.1 in
    ap length (c.from_vec.ensures ∙ ap (λ cells. cells.items) c.replace-cells.ensures.value)
    ∙ trace_long r c.args.self.now given c.requires.2 c.in-Some.most c.in-Some.is
    ∙ ap (λ (n : ℕ). c.args.self.now.stations * n) (sym c.min.ensures)
