-- What is counted in the flat part of a pearl.
use Rattle.std.specs.Prelude.{ℕ, not, List, count_by}
use Rattle.lid_design.specs.declared.FlatCover.{FlatCover}
use Rattle.lid_check_rules.specs.Buffers.{passes_on}

-- how many covers do not give the one input that they have, as each binding inside a pearl does in its flat part
abbrev pub count_logic : List FlatCover → ℕ
count_logic covers = count_by (λ c. not (passes_on c.cover)) covers
