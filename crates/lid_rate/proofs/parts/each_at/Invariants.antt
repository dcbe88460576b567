use Rattle.std.proofs.Common.{◌≡◌, map, take, slice_index, option_map}
use Rattle.lid_rate.proofs.parts.each_at.Given as goal

abbrev pub invariant-loop-place : goal.invariant-loop-place
invariant-loop-place l = l.all.items ≡ map (λ o. option_map (λ k. slice_index l.numbers k) o) (take l.place-index l.places)
