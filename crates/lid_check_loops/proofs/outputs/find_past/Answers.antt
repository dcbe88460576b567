use Rattle.std.proofs.Common.{◌≡◌, ◌<◌, ◌↔◌, ℕ, Bool, true, List, length, sym, subst, ◌∙◌, ap}
use Rattle.lid_check_digraph.specs.Graphs.{flag, IsReached}
use Rattle.lid_check_loops.specs.Pearls.{AreCutOff, AreInputMarks}
use Rattle.lid_check_loops.proofs.outputs.find_past.Goals as goal

pub find_in_pearls-requires-clause-sizes : goal.find_in_pearls-requires-clause-sizes
find_in_pearls-requires-clause-sizes c = record {
  all_cut = c.requires.size;
  all_reached = ap length c.as_slice-2.ensures ∙ c.in_ok-led.ensures.count;
  few = c.requires.few;
}

pub find_in_pearls-requires-clause-apart : goal.find_in_pearls-requires-clause-apart
find_in_pearls-requires-clause-apart c =
    let g = c.args.graph.now.reads.now in
    let cut = c.args.cut.now in
    let led = c.in_ok-led.led in
    let exact = subst (λ (ss : List Bool). (k : ℕ) → k < length g → (flag led k ≡ true) ↔ IsReached g cut ss k) c.as_slice.ensures c.in_ok-led.ensures.exact in
    let are : AreInputMarks c.args.survey.now g cut c.args.pearls.now led = (c.in_ok-starts.starts, c.in_ok-starts.ensures.exact, exact) in
    subst (λ (x : List Bool). AreCutOff c.args.survey.now g cut x c.args.pearls.now) (sym c.as_slice-2.ensures) (c.requires.apart led are)
