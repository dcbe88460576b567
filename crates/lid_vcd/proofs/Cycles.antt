-- Cycles, appended one after another.
use Rattle.std.proofs.Common.{◌≡◌, ℕ, zero, suc, ◌-◌, ◌<◌, List, ◌++◌, ap, ◌∙◌, append_assoc, arith}
use Rattle.lid_base.specs.declared.runs.Shown.{Shown}
use Rattle.lid_vcd_form.specs.Shows.{shown_stations, cycles_of}

pub cycle_step : (left : ℕ) (values : List ℕ) (old new whole : List Shown) → 0 < left → old ++ cycles_of left values ≡ whole → new ≡ old ++ shown_stations values → new ++ cycles_of (left - 1) values ≡ whole
cycle_step zero values old new whole some so e = absurd (omega arith)
cycle_step (suc left) values old new whole some so e =
    let less : suc left - 1 ≡ left = omega arith in
    ap (λ (m : ℕ). new ++ cycles_of m values) less ∙ ap (λ (xs : List Shown). xs ++ cycles_of left values) e ∙ append_assoc old (shown_stations values) (cycles_of left values) ∙ so
