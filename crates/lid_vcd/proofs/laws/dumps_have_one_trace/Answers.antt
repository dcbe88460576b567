use Rattle.std.proofs.Common.{◌≡◌, ℕ, sym, ◌∙◌}
use Rattle.std.specs.Prelude.{Result, Ok}
use Rattle.lid_texts_runs.specs.declared.trace.Trace.{Trace}
use Rattle.lid_vcd.proofs.laws.dumps_have_one_trace.Goals as goal

one : (s t : Trace) → (let r : Result Trace ℕ = Ok s in r) ≡ Ok t → s ≡ t
one s t e = cc

pub returns : goal.returns
returns c = λ bytes s t a b. one s t (sym a ∙ b)
