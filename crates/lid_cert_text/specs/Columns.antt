-- What the `node` lines of a part say, as the reader collects it.
use Rattle.std.specs.Prelude.{◌≡◌, ℕ, ◌^◌, List, [], ◌∷◌, ◌++◌, map}
use Rattle.lid_base.specs.declared.line.Line.{Line}
use Rattle.lid_cert_text.specs.declared.building.Columns.{Columns}
use Rattle.lid_base.specs.Numbers.{value_below}
use Rattle.lid_base.specs.Words.{word_at}
use Rattle.lid_cert_text.specs.Texts.{via_value, values_at}

-- what one more line says stands at the end
pub record AreMore (old new : Columns) (words : List (List ℕ)) : Type 0 where
  pub nodes : new.nodes.items ≡ old.nodes.items ++ value_below (2 ^ 32) (word_at words 1) ∷ []
  pub lag : new.lag.items ≡ old.lag.items ++ value_below (2 ^ 62) (word_at words 2) ∷ []
  pub lead : new.lead.items ≡ old.lead.items ++ value_below (2 ^ 62) (word_at words 3) ∷ []
  pub depth : new.depth.items ≡ old.depth.items ++ value_below (2 ^ 32) (word_at words 4) ∷ []
  pub via : new.via.items ≡ old.via.items ++ via_value (word_at words 5) ∷ []

-- what the lines say
pub record AreColumns (columns : Columns) (lines : List Line) : Type 0 where
  pub nodes : columns.nodes.items ≡ values_at (2 ^ 32) 1 lines
  pub lag : columns.lag.items ≡ values_at (2 ^ 62) 2 lines
  pub lead : columns.lead.items ≡ values_at (2 ^ 62) 3 lines
  pub depth : columns.depth.items ≡ values_at (2 ^ 32) 4 lines
  pub via : columns.via.items ≡ map (λ l. via_value (word_at l.words 5)) lines
