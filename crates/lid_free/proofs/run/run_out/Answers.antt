use Rattle.std.proofs.Common.{ℕ, ◌==◌, cond, length, sym, ◌∙◌, ap, subst}
use Rattle.lid_free.specs.Endings.{IsEnding}
use Rattle.lid_free.proofs.Running.{all_ready, worked_out, noted_in, made_is}
use Rattle.lid_free.proofs.Ended.{free_end}
use Rattle.lid_free.proofs.run.run_out.Goals as goal

pub run_all-requires-clause-ready : goal.run_all-requires-clause-ready
run_all-requires-clause-ready g c κs within =
    let (m, workers, set) = c.requires.some in
    all_ready m workers c.args.setting c.as_mut_slice.result.now set c.as_mut_slice.ensures.value

pub gather-left-requires : goal.gather-left-requires
gather-left-requires g c =
    let (m, workers, set) = c.requires.some in (
      m,
      workers,
      cond (c.args.setting.rows == 0) 0 c.args.rounds,
      worked_out m workers (cond (c.args.setting.rows == 0) 0 c.args.rounds) c.args.setting c.as_mut_slice.result.now c.run_all.new.crew set c.as_mut_slice.ensures.value c.run_all.ensures,
      ap length c.as_mut_slice-2.ensures.value ∙ set.room.tallies,
    )

pub end_run-requires : goal.end_run-requires
end_run-requires g c =
    let (m, workers, set) = c.requires.some in
    let made = cond (c.args.setting.rows == 0) 0 c.args.rounds in
    let h = worked_out m workers made c.args.setting c.as_mut_slice.result.now c.run_all.new.crew set c.as_mut_slice.ensures.value c.run_all.ensures in
    let gathered = c.gather-left.ensures m workers made h in (
      m,
      workers,
      made,
      noted_in m workers made c.args.setting c.gather-left.result.plain.pairs.items c.gather-left.result.actors.items c.gather-left.new.tallies set gathered,
      set.room.fired ∙ sym gathered.actors_are.many,
      set.room.passed ∙ sym gathered.board.many,
    )

pub returns : goal.returns
returns g c = λ m workers set.
    let made = cond (c.args.setting.rows == 0) 0 c.args.rounds in
    let h = worked_out m workers made c.args.setting c.as_mut_slice.result.now c.run_all.new.crew set c.as_mut_slice.ensures.value c.run_all.ensures in
    let gathered = c.gather-left.ensures m workers made h in
    let is =
    subst (λ (n : ℕ). IsEnding m workers n c.end_run.result) (made_is c.args.setting.rows c.args.rounds m set.rows)
    (c.end_run.ensures m workers made (noted_in m workers made c.args.setting c.gather-left.result.plain.pairs.items c.gather-left.result.actors.items c.gather-left.new.tallies set gathered)) in
    free_end m workers c.args.rounds c.end_run.result set.crew.crew.rules is set.crew.crew.some
