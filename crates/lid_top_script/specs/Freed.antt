-- What `free` writes, said of the design alone: the strict output rows, and where tallies are asked for, what workers
-- and sweeps did, which is any that the laws of free runs allow.
use Rattle.std.specs.Prelude.{◌≡◌, ℕ, Bool, if◌then◌else◌, List, [], ◌++◌, length}
use Rattle.lid_design.specs.declared.Design.{Design}
use Rattle.lid_design.specs.Network.{Table, IsStrict}
use Rattle.lid_design.specs.Columns.{Column, drivers, root_outputs, IsStrictOutput}
use Rattle.lid_free.specs.declared.run.FreeEnd.{FreeEnd}
use Rattle.lid_free.specs.FreeRuns.{IsLawful}
use Rattle.lid_texts_runs.specs.Runs.{tallies_text}
use Rattle.lid_stations.specs.declared.placement.Placement.{Placement}
use Rattle.lid_stations.specs.Placements.{Links}
use Rattle.lid_texts.specs.RowsText.{rows_text}
use Rattle.lid_top_script.specs.Walked.{plan_of}

-- `free` writes the strict output rows, whatever its workers did, and then their tallies where these are asked for
pub record IsFreeText (d : Design) (l : Links) (p : Placement) (rows : List (List Bool)) (workers rounds : ℕ) (tally : Bool) (text : List ℕ) : Type 0 where
  pub table : Table Column
  pub strict : IsStrict (drivers d) rows table
  pub outs : List (List Bool)
  pub are_outs : IsStrictOutput d rows outs
  pub run : FreeEnd
  pub lawful : IsLawful (plan_of d table l p (length rows)) workers rounds run
  pub written : text ≡ rows_text (root_outputs d) outs ++ (if tally then tallies_text run.tallies run.finish run.finish_fired else [])
