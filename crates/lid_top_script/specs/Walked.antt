-- What `walk` writes, said of the design alone: what actors answer along a schedule, and the output rows given then.
use Rattle.std.specs.Prelude.{◌≡◌, ℕ, Bool, List, [], ◌∷◌, ◌++◌, length, take}
use Rattle.lid_base.specs.declared.runs.Answer.{Answer}
use Rattle.lid_design.specs.declared.Design.{Design}
use Rattle.lid_design.specs.Network.{Table, IsStrict}
use Rattle.lid_design.specs.Columns.{Column, drivers, root_outputs, IsStrictOutput}
use Rattle.lid_walk_machine.specs.Plans.{Plan, sink}
use Rattle.lid_walk_machine.specs.Machine.{begun, answers, after_all}
use Rattle.lid_texts_runs.specs.Runs.{answer_text}
use Rattle.lid_stations.specs.declared.placement.Placement.{Placement}
use Rattle.lid_stations.specs.Placements.{Links}
use Rattle.lid_texts.specs.RowsText.{rows_text}
use Rattle.lid_top_script.specs.Clocked.{station_token}

-- what the interleaving machine knows of a design: the tokens are those of its strict table
abbrev pub plan_of : Design → Table Column → Links → Placement → ℕ → Plan
plan_of d table l p rows = record { links = l; placement = p; rows = rows; token = station_token d table l p }

-- a line for each step of a schedule: the actor and its answer
abbrev pub answer_lines : List ℕ → List Answer → List ℕ
answer_lines [] said = []
answer_lines (v ∷ schedule) [] = []
answer_lines (v ∷ schedule) (a ∷ said) = answer_text v a ++ answer_lines schedule said

-- the rows that the sink has given after a schedule: one for each of its firings
abbrev pub given_after : Plan → List ℕ → ℕ
given_after plan schedule = (after_all plan begun schedule (sink plan)).fired

-- `walk` writes the answers of the interleaving machine along the schedule, and then the rows that the sink has given:
-- the first of the strict output rows. The tokens are those of a strict table
pub record IsWalkText (d : Design) (l : Links) (p : Placement) (rows : List (List Bool)) (schedule : List ℕ) (text : List ℕ) : Type 0 where
  pub table : Table Column
  pub strict : IsStrict (drivers d) rows table
  pub outs : List (List Bool)
  pub are_outs : IsStrictOutput d rows outs
  pub written :
      text ≡ answer_lines schedule (answers (plan_of d table l p (length rows)) begun schedule)
      ++ rows_text (root_outputs d) (take (given_after (plan_of d table l p (length rows)) schedule) outs)
