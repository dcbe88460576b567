use Rattle.std.proofs.Common.{◌≡◌, ℕ, ◌==◌, ◌&&◌, nat_lt, List, length, refl, sym, subst, arith}
use Rattle.lid_station.specs.declared.looks.End.{End}
use Rattle.lid_board.specs.Parting.{is_chosen}
use Rattle.lid_free_crew.specs.Shares.{holder}
use Rattle.lid_free_crew.proofs.Choosing.{none_chosen, chosen_more}
use Rattle.lid_free_crew.proofs.hiring.ends_for.Goals as goal

pub loop-end-init : goal.loop-end-init
loop-end-init c = λ e. subst (λ (l : List End). is_chosen l e ≡ (nat_lt e 0 && holder c.args.workers c.args.owners.now e == c.args.number)) (sym c.new-ends.ensures.items) (none_chosen e c.args.number c.args.owners.now c.args.workers)

pub loop-end-preserved : goal.loop-end-preserved
loop-end-preserved c = chosen_more c.args.owners.now c.args.workers c.args.number c.loop-end.end c.loop-end.ends.items c.push_where.new.ends.items c.end_of.result _ c.loop-end.invariant c.in_ok-push_where.ensures c.end_of.ensures refl

pub returns : goal.returns
returns c = λ e.
    let past = c.loop-end-test.false in
    let high = c.loop-end.auto.end-end in
    let same : c.loop-end.end ≡ length c.args.owners.now = omega arith in
    subst (λ (n : ℕ). is_chosen c.loop-end.ends.items e ≡ (nat_lt e n && holder c.args.workers c.args.owners.now e == c.args.number)) same (c.loop-end.invariant e)
