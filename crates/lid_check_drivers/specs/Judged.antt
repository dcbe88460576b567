-- Designs whose models pass the conditions on models.
use Rattle.std.specs.Prelude.{ℕ, List}
use Rattle.lid_design.specs.declared.Design.{Design}
use Rattle.lid_design.specs.WellFormed.{IsWellFormed}
use Rattle.lid_check_hierarchy.specs.Surveys.{IsModelOrder, AreKnown}
use Rattle.lid_check_rules.specs.Acceptance.{ModelsPass}

-- a design whose models meet the conditions on models, and what follows from that: it is well formed,
-- no model reaches itself, and each instance of a reached model has a model
pub record IsJudged (d : Design) : Type 0 where
  pub formed : IsWellFormed d
  pub order : List ℕ
  pub ordered : IsModelOrder d order
  pub known : AreKnown d
  pub pass : ModelsPass d
