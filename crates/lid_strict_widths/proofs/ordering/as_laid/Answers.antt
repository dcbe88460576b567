use Rattle.std.proofs.Common.{◌≡◌, ℕ, length, ◌∙◌, ap, arith}
use Rattle.lid_base.specs.Each.{from_each}
use Rattle.lid_base.proofs.Results.{if_ok}
use Rattle.lid_strict_engine.specs.Programs.{program_covers}
use Rattle.lid_strict_widths.proofs.Standing.{covers_long, as_they_stand}
use Rattle.lid_strict_widths.proofs.ordering.as_laid.Goals as goal

pub returns : goal.returns
returns c =
    let p = c.args.program.now in
    let many = p.steps.ok.0 in
    let len = c.len.ensures in
    let long = covers_long p in
    let count : c.len.result ≡ length (program_covers p) = omega arith in
    if_ok c.numbers_below.result
    (λ order is. as_they_stand (program_covers p) order.items (is ∙ ap (λ (n : ℕ). from_each (λ k. k) 0 n) count))
    c.numbers_below.ensures
