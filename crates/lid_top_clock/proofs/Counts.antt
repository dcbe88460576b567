-- The count of writes that failed is as it was, but where a write failed.
use Rattle.std.proofs.Common.{ℕ, List}
use Rattle.std.specs.Borrow.{Bor}
use Rattle.lid_top_clock.specs.declared.fault.RunFault.{RunFault}
use Rattle.lid_top_clock.specs.declared.fault.RunFault.TheVariants.{Feed, Few, Memory, Write}
use Rattle.lid_top_clock.specs.Pushing.{UnlessWrite}
use Rattle.lid_top_clock.specs.Stops.{end_of_run}
use Rattle.lid_top_script.specs.Causes.{IsStoppedJob}

-- what holds whatever the fault is
pub unless_any : {A : Type 0} (fault : RunFault) → A → UnlessWrite A fault
unless_any (Feed fault) a = a
unless_any (Few found) a = a
unless_any Memory a = a
unless_any Write a = tt

-- and what follows from it
pub unless_later : {A B : Type 0} (fault : RunFault) → (A → B) → UnlessWrite A fault → UnlessWrite B fault
unless_later (Feed fault) f a = f a
unless_later (Few found) f a = f a
unless_later Memory f a = f a
unless_later Write f a = tt

-- it holds of the end of a run too
pub end_stopped : (A : Type 0) (vec : Bor (List ℕ)) (count : ℕ) (fault : RunFault) → UnlessWrite A fault → IsStoppedJob (end_of_run vec count fault) → A
end_stopped A vec count (Feed fault) a stopped = a
end_stopped A vec count (Few found) a stopped = a
end_stopped A vec count Memory a stopped = a
end_stopped A vec count Write a stopped = absurd stopped
