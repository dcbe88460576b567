-- A trace grows by a cycle, and is that of the run where no further cycle is wanted or needed.
use Rattle.std.proofs.Common.{◌≡◌, ℕ, suc, ◌+◌, ◌<◌, ◌≤◌, ◌⊎◌, inl, inr, List, ◌++◌, sym, ◌∙◌, ap, subst, add-one, arith}
use Rattle.std.proofs.lemmas.Bool.{cases_lt}
use Rattle.lid_base.specs.declared.runs.Shown.{Shown}
use Rattle.lid_stations.specs.Placements.{station_count}
use Rattle.lid_clock.specs.Lives.{Life, IsBelow}
use Rattle.lid_clock_flat.specs.declared.rows.FlatRows.{FlatRows}
use Rattle.lid_clock_flat.specs.Feeds.{Feeds}
use Rattle.lid_top_held.specs.Traces.{life_cells, HasTraced, IsTraceOf}
use Rattle.lid_top_held.proofs.Cells.{cells_one_more}

module _ (l : Life) (k : ℕ) (now : FlatRows) (cells : List Shown) (has : HasTraced l k now cells) where
  pub traced_more : (next : FlatRows) (more : List Shown) → Feeds l (suc k) next → IsBelow l k → more ≡ cells ++ life_cells l k → HasTraced l (k + 1) next more
  traced_more next more ran below is = record {
    ran = subst (λ (n : ℕ). Feeds l n next) (sym (add-one k)) ran;
    needed = λ j less. by_order j less (cases_lt j k);
    shown = is ∙ ap (λ (xs : List Shown). xs ++ life_cells l k) has.shown ∙ sym (cells_one_more l k);
  }
    where
      by_order : (j : ℕ) → j < k + 1 → (j < k) ⊎ (k ≤ j) → IsBelow l j
      by_order j less (inl before) = has.needed j before
      by_order j less (inr past) = let last : k ≡ j = omega arith in subst (IsBelow l) last below

  pub trace_ends : (stations most : ℕ) → stations ≡ station_count l.setup.placement.relays → k ≤ most → (k < most → IsBelow l k → ⊥) → IsTraceOf l most (record { stations = stations; cycles = k; cells = cells })
  trace_ends stations most all few ended = record {
    all = all;
    few = few;
    needed = has.needed;
    ended = ended;
    shown = has.shown;
  }
