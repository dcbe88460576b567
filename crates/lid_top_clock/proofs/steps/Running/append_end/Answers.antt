use Rattle.std.proofs.Common.{◌≡◌, ◌++◌, ℕ, List, length, sym, ◌∙◌, ap, append_assoc, arith}
use Rattle.lid_base.proofs.Results.{on_ok}
use Rattle.lid_base.specs.Each.{from_each}
use Rattle.lid_clock.specs.Lives.{fired_after}
use Rattle.lid_texts_runs.specs.Runs.{cycles_text}
use Rattle.lid_stall_text.specs.Holds.{stalled_line}
use Rattle.lid_top_clock.specs.RunTexts.{nodes_fired, traced}
use Rattle.lid_top_clock.proofs.Goings.{the_ran}
use Rattle.lid_base.proofs.Each.{each_length}
use Rattle.lid_top_clock.proofs.steps.Running.append_end.Goals as goal

pub firings-requires : goal.firings-requires
firings-requires c =
    let (r, given, at, nodes) = c.requires in
    let (l, k, g, ran, begins) = the_ran r c.args.self.now given at in
    (l, k, g, ran, nodes ∙ ap (λ s. length s.nodes) (sym begins.of.of))

pub print_cycles-requires : goal.print_cycles-requires
print_cycles-requires c =
    let (r, given, at, nodes) = c.requires in
    let (l, k, g, ran, begins) = the_ran r c.args.self.now given at in
    let fired = c.in_ok-fired.ensures l k g ran in
    let long : length c.deref.result.now ≡ c.args.nodes = ap length (c.deref.ensures.value ∙ fired) ∙ each_length (fired_after l k) 0 c.args.nodes in
    omega (arith, long, nodes, at.rules.system.least)

pub returns : goal.returns
returns c = λ r given l at b nodes.
    let made = c.args.self.now.made in
    let fired = c.in_ok-fired.ensures l made (length given) (at.lives l b).ran in
    let all : c.deref.result.now ≡ nodes_fired l made =
    c.deref.ensures.value ∙ fired ∙ ap (from_each (fired_after l made) 0) (nodes ∙ ap (λ s. length s.nodes) (sym b.of.of)) in
    let cycles : c.print_cycles.new.into.items ≡ c.args.into.now.items ++ cycles_text made (nodes_fired l made) =
    c.in_ok-print_cycles.ensures.ok ∙ ap (λ (ns : List ℕ). c.args.into.now.items ++ cycles_text made ns) all in
    on_ok c.append_trace.result
    (λ is. is
    ∙ ap (λ (xs : List ℕ). xs ++ traced l r.trace made) (c.in_ok-append_stalled.ensures r given l at b)
    ∙ ap (λ (xs : List ℕ). (xs ++ stalled_line r.stalls made) ++ traced l r.trace made) cycles
    ∙ append_assoc (c.args.into.now.items ++ cycles_text made (nodes_fired l made)) (stalled_line r.stalls made) (traced l r.trace made)
    ∙ append_assoc c.args.into.now.items (cycles_text made (nodes_fired l made)) (stalled_line r.stalls made ++ traced l r.trace made))
    (c.append_trace.ensures r given l at b)
