-- Rows of strict tables are what a pearl goes through.
use Rattle.std.proofs.Common.{◌≡◌, ℕ, suc, ◌+◌, ◌<◌, Bool, List, length, map, Some, slice_get, sym, ◌∙◌, ap, subst, arith}
use Rattle.std.proofs.lemmas.Option.{slice_get_within}
use Rattle.lid_design.specs.declared.Flat.{Flat}
use Rattle.lid_design.specs.Network.{Table, IsStrict}
use Rattle.lid_design.specs.Flat.{flat_drivers, state_at}
use Rattle.lid_design.proofs.Parts.{flat_meets}
use Rattle.lid_pearl.specs.Pearls.{View, Shows, Steps}

pub shown_outs : (p : View) (rows : List (List Bool)) (b : Table ℕ) (t : ℕ) (outs : List Bool) → IsStrict (flat_drivers p.flat) rows b → t < length rows → p.state ≡ state_at p.flat b t → Shows p outs → outs ≡ map (b t) p.flat.outs
shown_outs p rows b t outs strict below state shows =
    let meets = flat_meets p.flat rows b t strict below in
    shows (b t) meets.covers (meets.latches ∙ sym state)

module _ (p q : View) (rows : List (List Bool)) (b : Table ℕ) (t : ℕ) (inputs outs : List Bool) (strict : IsStrict (flat_drivers p.flat) rows b) (here : slice_get rows t ≡ Some inputs) (wide : length inputs ≡ length p.flat.ins) (state : p.state ≡ state_at p.flat b t) (steps : Steps p inputs q outs) where
  pub next_state : q.state ≡ state_at q.flat b (t + 1)
  next_state =
      let meets = flat_meets p.flat rows b t strict (slice_get_within rows t inputs here) in
      let next : suc t ≡ t + 1 = omega arith in
      steps.state (b t) meets.covers (meets.latches ∙ sym state) (meets.inputs inputs here wide)
      ∙ ap (state_at p.flat b) next
      ∙ ap (λ (f : Flat). state_at f b (t + 1)) (sym steps.flat)

  pub next_outs : t + 1 < length rows → outs ≡ map (b (t + 1)) p.flat.outs
  next_outs below =
      shown_outs q rows b (t + 1) outs (subst (λ (f : Flat). IsStrict (flat_drivers f) rows b) (sym steps.flat) strict) below next_state steps.shows
      ∙ ap (λ (f : Flat). map (b (t + 1)) f.outs) steps.flat
