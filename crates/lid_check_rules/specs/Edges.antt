-- How the edges of latches are tried: the latches that have a type, model by model.
use Rattle.std.specs.Prelude.{ℕ, List, [], flat_map, slice_get}
use Rattle.std.specs.Option.{option_map_or}
use Rattle.lid_design.specs.declared.Design.{Design}
use Rattle.lid_check_rules.specs.declared.edges.Typed.{Typed}
use Rattle.lid_check_rules.specs.Conditions.{TypedLatch, typed_cell}

-- what the references of a latch lead to
abbrev pub latch_seen : Typed → TypedLatch
latch_seen t = record { model = t.model.now; out = t.out.now; rises = t.rises }

-- the latches of the model of a number that have a type
unfoldable pub typed_in : Design → ℕ → List TypedLatch
typed_in d k = option_map_or (λ m. flat_map (typed_cell m) m.cells) (slice_get d.models k) []

abbrev pub typed_of : Design → List ℕ → List TypedLatch
typed_of d ks = flat_map (typed_in d) ks
