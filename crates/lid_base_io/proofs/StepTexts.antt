-- The instance numbers of a path, step by step.
use Rattle.std.proofs.Common.{◌≡◌, ℕ, ◌+◌, ◌<◌, List, ◌∷◌, ◌++◌, length, drop, get_or, Option, sym, ◌∙◌, ap, subst, add-one}
use Rattle.std.specs.Fmt.{decimal}
use Rattle.std.proofs.Math.Seq.{drop-cons}
use Rattle.lid_base.specs.Outside.{Appended, AppendedPrefix}
use Rattle.lid_base_io.specs.Calls.{CameJoined, CameJoinedPrefix}
use Rattle.lid_base_io.specs.Telling.{steps_text}
use Rattle.lid_base.proofs.Writes.{SoFar, one_more, part_written}
use Rattle.lid_base_io.proofs.Joined.{JoinedSoFar, more_joined, part_joined}

-- the first step that is left, and those after it
steps_next : (steps : List ℕ) (i d : ℕ) → i < length steps → steps_text (drop i steps) ≡ (47 ∷ decimal (get_or steps i d)) ++ steps_text (drop (i + 1) steps)
steps_next steps i d lt = ap steps_text (drop-cons steps i d lt ∙ ap (λ n. get_or steps i d ∷ drop n steps) (sym (add-one i)))

pub step_written : (before now new : Option (List ℕ)) (text : List ℕ) (steps : List ℕ) (i d : ℕ) → i < length steps → SoFar before now text (steps_text (drop i steps)) → Appended now new (47 ∷ decimal (get_or steps i d)) → SoFar before new text (steps_text (drop (i + 1) steps))
step_written before now new text steps i d lt so a =
    one_more before now new text (47 ∷ decimal (get_or steps i d)) (steps_text (drop (i + 1) steps))
    (subst (λ l. SoFar before now text l) (steps_next steps i d lt) so) a

pub step_begun : (before now new : Option (List ℕ)) (text : List ℕ) (steps : List ℕ) (i d : ℕ) → i < length steps → SoFar before now text (steps_text (drop i steps)) → AppendedPrefix now new (47 ∷ decimal (get_or steps i d)) → AppendedPrefix before new text
step_begun before now new text steps i d lt so a =
    part_written before now new text (47 ∷ decimal (get_or steps i d)) (steps_text (drop (i + 1) steps))
    (subst (λ l. SoFar before now text l) (steps_next steps i d lt) so) a

-- the same of the pieces
module _ (before now new : Option (List (List ℕ))) (text steps : List ℕ) (i d : ℕ) (lt : i < length steps) (so : JoinedSoFar before now text (steps_text (drop i steps))) where
  step_left : JoinedSoFar before now text ((47 ∷ decimal (get_or steps i d)) ++ steps_text (drop (i + 1) steps))
  step_left = subst (λ (left : List ℕ). JoinedSoFar before now text left) (steps_next steps i d lt) so

  pub step_joined : CameJoined now new (47 ∷ decimal (get_or steps i d)) → JoinedSoFar before new text (steps_text (drop (i + 1) steps))
  step_joined a = more_joined before now new text (47 ∷ decimal (get_or steps i d)) (steps_text (drop (i + 1) steps)) step_left a

  pub step_part : CameJoinedPrefix now new (47 ∷ decimal (get_or steps i d)) → CameJoinedPrefix before new text
  step_part a = part_joined before now new text (47 ∷ decimal (get_or steps i d)) (steps_text (drop (i + 1) steps)) step_left a
