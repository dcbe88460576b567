use Rattle.std.proofs.Common.{◌≡◌, ◌⊎◌, ◌↔◌, ℕ, true, List, take, get_or, sym, subst, arith}
use Rattle.std.proofs.lemmas.List.{take_more}
use Rattle.lid_check_digraph.specs.Graphs.{flag}
use Rattle.lid_check_loops.specs.declared.pearls.Pearl.{Pearl}
use Rattle.lid_check_loops.specs.Pearls.{IsInputOf, IsNumberOf}
use Rattle.lid_check_loops.proofs.Marking.{inputs_more}
use Rattle.lid_check_loops.proofs.pearls.mark_inputs.Goals as goal

pub loop-pearl-preserved : goal.loop-pearl-preserved
loop-pearl-preserved c =
    let i = c.loop-pearl.pearl-index in
    let ps = c.args.pearls.now in
    let none : Pearl = record { model = 0; start = 0 } in
    let pearl = get_or ps i none in
    subst (λ (xs : List Pearl). (k : ℕ) → (flag c.mark_nets.new.marks k ≡ true) ↔ ((flag c.args.marks.now k ≡ true) ⊎ IsInputOf c.args.survey.now xs k)) (sym (take_more ps i none (omega arith)))
    (inputs_more c.args.survey.now (take i ps) (get_or ps i none) c.args.marks.now c.loop-pearl.marks c.mark_nets.new.marks c.loop-pearl.invariant
    (subst (λ (xs : List (List ℕ)). (k : ℕ) → (flag c.mark_nets.new.marks k ≡ true) ↔ ((flag c.loop-pearl.marks k ≡ true) ⊎ IsNumberOf c.args.survey.now pearl xs k)) c.data_inputs.ensures c.mark_nets.ensures))
