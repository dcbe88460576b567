use Rattle.std.proofs.Common.{◌≤◌, refl, arith}
use Rattle.lid_design.specs.Elaboration.{count_cells, count_nets}
use Rattle.lid_gen.specs.Draws.{first_state}
use Rattle.lid_gen.specs.Designs.{shell_at, root_model, made, generated}
use Rattle.lid_gen_laws.proofs.Sizes.{some, few}
use Rattle.lid_gen_laws.proofs.Pearls.{late}
use Rattle.lid_gen_laws.proofs.Roots.{root_plain}
use Rattle.lid_gen_laws.proofs.Heights.{heights, root_rises}
use Rattle.lid_gen_laws.proofs.Formed.{well_formed, all_cells, all_nets, drivers_length}
use Rattle.lid_gen_laws.proofs.Subs.{subs_rise}
use Rattle.lid_base.proofs.Each.{each_length}
use Rattle.lid_gen_laws.proofs.laws.generated_designs_are_accepted.Goals as goal

pub returns-clause-formed : goal.returns-clause-formed
unfolding generated
returns-clause-formed c seed n fine = well_formed (first_state seed) n (few n fine)

pub returns-clause-accepted : goal.returns-clause-accepted
unfolding generated
returns-clause-accepted c seed n fine =
    let s = first_state seed in
    let formed = well_formed s n (few n fine) in
    let plain = root_plain s n (some n fine) (few n fine) in
    let counted = c.roots_with_instances_are_counted.ensures in
    let limit = few n fine in
    let insts = each_length (shell_at s n) 0 n in
    let cells : count_cells (made s n) ≤ 262144 = (let a = counted.cells (made s n) (root_model s n) formed refl plain in let b = all_cells s n 0 n in omega (arith, a, b, insts, limit)) in
    let nets : count_nets (made s n) ≤ 1048576 = (let a = counted.nets (made s n) (root_model s n) formed refl plain in let b = all_nets s n 0 n in let d = drivers_length s n in omega (arith, a, b, d, limit)) in
    c.roots_with_instances_are_accepted.ensures.accepted (made s n) (root_model s n) (λ m. heights n) (λ m. late) formed refl plain (root_rises s n) (λ inst sub among is. subs_rise s n (some n fine) inst sub is) cells nets
