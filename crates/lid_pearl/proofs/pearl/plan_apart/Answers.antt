use Rattle.std.proofs.Common.{◌≡◌, Bool, true, false, List, filter, ◌∙◌, ap}
use Rattle.lid_base.proofs.Results.{if_ok}
use Rattle.lid_design.specs.declared.FlatCover.{FlatCover}
use Rattle.lid_strict_engine.specs.Programs.{program_covers}
use Rattle.lid_strict_engine.specs.Rows.{bit_at}
use Rattle.lid_pearl.specs.Inside.{is_picked}
use Rattle.lid_pearl.proofs.Planning.{is_ordered, plan_split, plan_earlier}
use Rattle.lid_pearl.proofs.pearl.plan_apart.Goals as goal

-- what the covers that are picked by the marks of a slice are
abbrev picked_by : List Bool → Bool → List FlatCover → List FlatCover
picked_by marks wanted covers = filter (is_picked (bit_at marks) wanted) covers

same_pick : (wanted : Bool) (marks marks' : List Bool) (covers covers' : List FlatCover) → marks ≡ marks' → covers ≡ covers' → picked_by marks wanted covers ≡ picked_by marks' wanted covers'
same_pick wanted marks marks' covers covers' m c = ap (λ (ms : List Bool). picked_by ms wanted covers) m ∙ ap (picked_by marks' wanted) c

pub returns-clause-ordered : goal.returns-clause-ordered
returns-clause-ordered c =
    let f = c.args.flat in
    let apart = c.in_ok-halves.ensures in
    let one = apart.early ∙ same_pick true _ _ _ _ c.as_slice.ensures.value c.into_vec.ensures in
    let two = apart.late ∙ same_pick false _ _ _ _ c.as_slice.ensures.value c.into_vec.ensures in
    if_ok c.run_halves.result (λ plan is.
    is_ordered f c.requires (bit_at c.in_ok-marks.marks.items) c.in_ok-marks.ensures.marked plan.early.program plan.late.program (ap program_covers is.0 ∙ one) (ap program_covers is.1 ∙ two)
    (ap (λ p. p.nets) is.0 ∙ apart.nets.0) (ap (λ p. p.nets) is.1 ∙ apart.nets.1)) c.run_halves.ensures.programs

pub returns-clause-split : goal.returns-clause-split
returns-clause-split c =
    let apart = c.in_ok-halves.ensures in
    let one = apart.early ∙ same_pick true _ _ _ _ c.as_slice.ensures.value c.into_vec.ensures in
    let two = apart.late ∙ same_pick false _ _ _ _ c.as_slice.ensures.value c.into_vec.ensures in
    if_ok c.run_halves.result (λ plan is.
    plan_split c.args.flat c.requires (bit_at c.in_ok-marks.marks.items) c.in_ok-marks.ensures.marked plan.early.program plan.late.program (ap program_covers is.0 ∙ one) (ap program_covers is.1 ∙ two)) c.run_halves.ensures.programs

pub returns-clause-rules : goal.returns-clause-rules
returns-clause-rules c =
    let apart = c.in_ok-halves.ensures in
    let one = apart.early ∙ same_pick true _ _ _ _ c.as_slice.ensures.value c.into_vec.ensures in
    let two = apart.late ∙ same_pick false _ _ _ _ c.as_slice.ensures.value c.into_vec.ensures in
    if_ok c.run_halves.result (λ plan is.
    plan_earlier c.args.flat c.requires (bit_at c.in_ok-marks.marks.items) c.in_ok-marks.ensures.marked plan.early.program plan.late.program (ap program_covers is.0 ∙ one) (ap program_covers is.1 ∙ two)) c.run_halves.ensures.programs
