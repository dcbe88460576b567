use Rattle.std.proofs.Common.{◌≡◌, sym, ◌∙◌, ap, arith}
use Rattle.lid_check_elab.specs.Covers.{no_cover}
use Rattle.lid_check_rules.specs.Buffers.{passes_on}
use Rattle.lid_check_rules.proofs.Buffers.{passes_none}
use Rattle.lid_strict.proofs.stems.is_buffer.Goals as goal

pub returns-in-None : goal.returns-in-None
returns-in-None c = sym (passes_none no_cover (λ wide. let none : 0 ≡ 1 = wide in omega arith)) ∙ ap passes_on c.in-None.ensures
