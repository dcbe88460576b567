-- A design for a test of the writer.
use Rattle.std.specs.Prelude.{[], ◌∷◌}
use Rattle.lid_design.specs.declared.Design.{Design}
use Rattle.lid_design.specs.declared.Model.{Model}

-- a model without anything in it
unfoldable pub lone_model : Model
lone_model = record { name = 109 ∷ []; inputs = []; outputs = []; clocks = []; cells = []; insts = [] }

-- a design of that model
unfoldable pub lone_design : Design
lone_design = record { models = lone_model ∷ []; root = 0 }
