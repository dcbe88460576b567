-- Rows that are kept as the sink fires.
use Rattle.std.proofs.Common.{◌≡◌, ℕ, suc, ◌+◌, ◌-◌, ◌<◌, ◌⊎◌, inl, inr, Bool, false, List, [], ◌∷◌, ◌++◌, length, replicate, set, get_or, Some, None, refl, sym, ◌∙◌, ap, subst, arith}
use Rattle.std.proofs.lemmas.List.{length-map, length-set, length-replicate, take_more_set}
use Rattle.std.proofs.lemmas.List.Elements.{All-set, All-get_or, All-replicate}
use Rattle.std.proofs.lemmas.Bool.{cases_eq}
use Rattle.std.specs.List.{All}
use Rattle.lid_graph.specs.Firings.{firings}
use Rattle.lid_design.specs.Network.{Table}
use Rattle.lid_base.specs.Each.{from_each}
use Rattle.lid_system.specs.declared.System.{System}
use Rattle.lid_system.specs.Systems.{Point}
use Rattle.lid_system.specs.Streams.{output_row}
use Rattle.lid_clock.specs.Lives.{Life, IsLife, IsBelow, HasSunk, IsLast, fired_after, sink}
use Rattle.lid_clock.specs.Clocks.{HasKept, rows_after}
use Rattle.lid_clock.proofs.FreeLives.{sinks_on, sinks_by_one}
use Rattle.lid_base.proofs.Each.{each_one_more}

-- all output rows are as wide
out_wide : (s : System) (b c : Table Point) (t u : ℕ) → length (output_row s b t) ≡ length (output_row s c u)
out_wide s b c t u = simp length-map

module _ (l : Life) (rules : IsLife l) (k : ℕ) where
  -- what the last cycle gave, where the sink fired in it
  pub record HasGiven (row : List Bool) : Type 0 where
    pub more : fired_after l (suc k) (sink l) ≡ fired_after l k (sink l) + 1
    pub is : row ≡ output_row l.setup.system l.setup.table (fired_after l k (sink l))

  sunk : fired_after l (suc k) (sink l) ≡ fired_after l k (sink l) + 1 → HasSunk l (suc k)
  sunk more = (k, omega arith, more)

  not_sunk : (fired_after l (suc k) (sink l) ≡ fired_after l k (sink l) + 1 → ⊥) → HasSunk l (suc k) → ⊥
  not_sunk still has = still (subst (λ (j : ℕ). fired_after l (suc k) (sink l) ≡ fired_after l j (sink l) + 1) (omega (arith, has.1)) has.2)

  pub given_some : (row : List Bool) → IsLast l (suc k) (Some row) → HasGiven row
  given_some row last = by_count (cases_eq (fired_after l (suc k) (sink l)) (fired_after l k (sink l) + 1))
    where
      by_count : (fired_after l (suc k) (sink l) ≡ fired_after l k (sink l) + 1) ⊎ (fired_after l (suc k) (sink l) ≡ fired_after l k (sink l) + 1 → ⊥) → HasGiven row
      by_count (inl more) =
          let is : Some row ≡ Some (output_row l.setup.system l.setup.table (fired_after l (suc k) (sink l) - 1)) = last.some (sunk more) in
          let given : row ≡ output_row l.setup.system l.setup.table (fired_after l (suc k) (sink l) - 1) = cc in
          let number : fired_after l (suc k) (sink l) - 1 ≡ fired_after l k (sink l) = omega arith in
          record { more = more; is = given ∙ ap (output_row l.setup.system l.setup.table) number }
      by_count (inr still) = let is : Some row ≡ None = last.none (not_sunk still) in absurd cc

  -- and where it gave none the count stands
  pub given_none : IsLast l (suc k) None → fired_after l (suc k) (sink l) ≡ fired_after l k (sink l)
  given_none last = by_count (cases_eq (fired_after l (suc k) (sink l)) (fired_after l k (sink l) + 1))
    where
      by_count : (fired_after l (suc k) (sink l) ≡ fired_after l k (sink l) + 1) ⊎ (fired_after l (suc k) (sink l) ≡ fired_after l k (sink l) + 1 → ⊥) → fired_after l (suc k) (sink l) ≡ fired_after l k (sink l)
      by_count (inl more) =
          let is : None ≡ Some (output_row l.setup.system l.setup.table (fired_after l (suc k) (sink l) - 1)) = last.some (sunk more) in
          absurd cc
      by_count (inr still) = omega (arith, still, sinks_on l rules k, sinks_by_one l rules k)

  module _ (done : ℕ) (room : List (List Bool)) (has : HasKept l k done room) where
    -- the next row has its place
    pub place_there : IsBelow l k → done < length room
    place_there below = omega (arith, has.count, has.many, below)

    -- which is as wide
    pub place_wide : (row old : List Bool) → HasGiven row → IsBelow l k → old ≡ get_or room done old → length old ≡ length row
    place_wide row old gives below is =
        subst (λ (x : List Bool). length x ≡ length (output_row l.setup.system l.setup.table (fired_after l k (sink l)))) (sym is)
        (All-get_or (λ x. length x ≡ length (output_row l.setup.system l.setup.table (fired_after l k (sink l)))) room done old (place_there below) (has.wide l.setup.table (fired_after l k (sink l))))
        ∙ ap length (sym gives.is)

    pub kept_on : (row : List Bool) → HasGiven row → IsBelow l k → HasKept l (suc k) (done + 1) (set room done row)
    kept_on row gives below = record {
      count = ap (λ (n : ℕ). n + 1) has.count ∙ sym gives.more;
      many = length-set room done row ∙ has.many;
      wide = λ b t. All-set (λ x. length x ≡ length (output_row l.setup.system b t)) room done row (ap length gives.is ∙ out_wide l.setup.system l.setup.table b (fired_after l k (sink l)) t) (has.wide b t);
      rows =
          take_more_set room done row (place_there below)
          ∙ ap (λ (xs : List (List Bool)). xs ++ row ∷ []) has.rows
          ∙ ap (λ (x : List Bool). rows_after l k ++ x ∷ []) gives.is
          ∙ sym (each_one_more (output_row l.setup.system l.setup.table) (fired_after l k (sink l)))
          ∙ ap (from_each (output_row l.setup.system l.setup.table) 0) (sym gives.more);
    }

    pub kept_still : fired_after l (suc k) (sink l) ≡ fired_after l k (sink l) → HasKept l (suc k) done room
    kept_still still = record {
      count = has.count ∙ sym still;
      many = has.many;
      wide = has.wide;
      rows = has.rows ∙ ap (from_each (output_row l.setup.system l.setup.table) 0) (sym still);
    }

-- room that was made holds none
pub kept_none : (l : Life) (room : List (List Bool)) (count width : ℕ) → room ≡ replicate count (replicate width false) → count ≡ length l.setup.input → ((b : Table Point) (t : ℕ) → width ≡ length (output_row l.setup.system b t)) → HasKept l 0 0 room
unfolding firings
kept_none l room count width is many wide = record {
  count = refl;
  many = ap length is ∙ length-replicate count (replicate width false) ∙ many;
  wide = λ b t. subst (All (λ x. length x ≡ length (output_row l.setup.system b t))) (sym is) (All-replicate (λ x. length x ≡ length (output_row l.setup.system b t)) count (replicate width false) (length-replicate width false ∙ wide b t));
  rows = refl;
}
