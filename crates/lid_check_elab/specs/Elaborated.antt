-- A design whose columns have numbers.
use Rattle.std.specs.Prelude.{ℕ, List}
use Rattle.lid_design.specs.declared.Design.{Design}
use Rattle.lid_check_elab.specs.declared.driver.ColumnDriver.{ColumnDriver}

-- the design, what drives each column, and where the columns of the instances of the root start
pub record Elaborated : Type 0 where
  pub design : Design
  pub drivers : List ColumnDriver
  pub starts : List ℕ
