use Rattle.std.proofs.Common.{◌≡◌, map, take, slice_index}
use Rattle.lid_rate.proofs.parts.all_at.Given as goal

abbrev pub invariant-loop-place : goal.invariant-loop-place
invariant-loop-place l = l.all.items ≡ map (λ k. slice_index l.numbers k) (take l.place-index l.places)
