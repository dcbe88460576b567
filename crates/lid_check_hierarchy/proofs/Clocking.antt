-- The clock names of the models of an order, one model after the other.
use Rattle.std.proofs.Common.{◌≡◌, ◌≢◌, ◌⊎◌, ℕ, zero, suc, ◌+◌, ◌<◌, eqb, true, false, List, [], ◌∷◌, length, take, get_or, Some, inl, inr, sym, ◌∙◌, ap, subst, arith}
use Rattle.std.proofs.lemmas.List.{take_more}
use Rattle.std.proofs.lemmas.Bool.Decides.{eqb_tells}
use Rattle.lid_base.specs.Lists.{Among}
use Rattle.lid_base.proofs.Lists.{among_at, last_case}
use Rattle.lid_design.specs.declared.Design.{Design}
use Rattle.lid_design.specs.Columns.{is_among}
use Rattle.lid_design.specs.WellFormed.{IsWellFormed}
use Rattle.lid_design.specs.Models.{instance_number, is_clock_of}
use Rattle.lid_check_hierarchy.specs.Surveys.{StandsAfterItsModels, IsModelOrder}
use Rattle.lid_check_hierarchy.specs.Clocks.{in_sets, HasClocks, HaveClocks}
use Rattle.lid_check_hierarchy.proofs.Fixpoints.{clock_by_same, clock_fixpoint}

-- the model of an instance stands before the model that has it
earlier : (d : Design) (found order : List ℕ) (i e : ℕ) → i < length order → StandsAfterItsModels d found order → (inst j : ℕ) → instance_number d inst (get_or order i e) ≡ Some j → Among j found ⊎ Among j (take i order)
earlier d found [] i e h after inst j names = absurd (omega arith)
earlier d found (x ∷ order) zero e h after inst j names = inl (after.0 inst j names)
earlier d found (x ∷ order) (suc i) e h after inst j names = by (earlier d (x ∷ found) order i e (omega arith) after.1 inst j names)
  where
    by : Among j (x ∷ found) ⊎ Among j (take i order) → Among j found ⊎ Among j (take (suc i) (x ∷ order))
    by (inl (inl same)) = inr (inl same)
    by (inl (inr among)) = inl among
    by (inr among) = inr (inr among)

module _ (d : Design) (formed : IsWellFormed d) (order : List ℕ) (ordered : IsModelOrder d order) (i : ℕ) (h : i < length order) (old new : List (List (List ℕ))) (set : List (List ℕ)) (have : HaveClocks d (take i order) old) (has : HasClocks d old (get_or order i 0) set) (size : length new ≡ length old) (here : get_or new (get_or order i 0) [] ≡ set) (others : (k : ℕ) → k ≢ get_or order i 0 → get_or new k [] ≡ get_or old k []) where
  -- the model that comes next
  at_next : (net : List ℕ) → in_sets new (get_or order i 0) net ≡ is_clock_of d (get_or order i 0) net
  at_next net =
      ap (is_among net) here
      ∙ has net
      ∙ clock_by_same d (in_sets old) (is_clock_of d) (get_or order i 0) (λ inst j formal names. subs inst j formal (earlier d [] order i 0 h ordered.after inst j names)) net
      ∙ sym (clock_fixpoint d formed order ordered (get_or order i 0) (among_at order i 0 h) net)
    where
      subs : (inst j : ℕ) (formal : List ℕ) → ⊥ ⊎ Among j (take i order) → in_sets old j formal ≡ is_clock_of d j formal
      subs inst j formal (inl none) = absurd none
      subs inst j formal (inr among) = have.each j formal among

  each : (k : ℕ) (net : List ℕ) → Among k (take (i + 1) order) → in_sets new k net ≡ is_clock_of d k net
  each k net among =
      last_case k (take i order) (get_or order i 0) (subst (Among k) (take_more order i 0 h) among)
      (λ before. by before (eqb_tells k (get_or order i 0)))
      next
    where
      next : k ≡ get_or order i 0 → in_sets new k net ≡ is_clock_of d k net
      next same = subst (λ (n : ℕ). in_sets new n net ≡ is_clock_of d n net) (sym same) (at_next net)

      by : Among k (take i order) → ((eqb k (get_or order i 0) ≡ true) × (k ≡ get_or order i 0)) ⊎ ((eqb k (get_or order i 0) ≡ false) × (k ≢ get_or order i 0)) → in_sets new k net ≡ is_clock_of d k net
      by before (inl same) = next same.1
      by before (inr other) = ap (is_among net) (others k other.1) ∙ have.each k net before

  pub clocks_next : HaveClocks d (take (i + 1) order) new
  clocks_next = record { size = size ∙ have.size; each = each }
