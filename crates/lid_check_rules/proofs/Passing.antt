-- The reached models are one list, and where no unknown model is told each instance has a model.
use Rattle.std.proofs.Common.{◌≡◌, ℕ, zero, suc, ◌+◌, ◌<◌, ◌≤◌, cond, is_none, List, [], ◌∷◌, length, Option, Some, None, IsSome, option_and_then, slice_get, inl, inr, refl, sym, ◌∙◌, ap, arith}
use Rattle.std.specs.Option.{option_map_or}
use Rattle.std.specs.List.{enumerate_from}
use Rattle.lid_base.specs.Lists.{Among}
use Rattle.lid_design.specs.declared.Design.{Design}
use Rattle.lid_design.specs.declared.Model.{Model}
use Rattle.lid_design.specs.declared.Inst.{Inst}
use Rattle.lid_design.specs.Models.{number_named, Ascend, AreReached}
use Rattle.lid_check_hierarchy.specs.Surveys.{AreKnown}
use Rattle.lid_check_rules.specs.declared.fault.CheckFault.{CheckFault}
use Rattle.lid_check_rules.specs.declared.fault.CheckFault.TheVariants.{UnknownModel}
use Rattle.lid_check_rules.specs.Conditions.{first_told, in_insts, unknown_at, unknown_model}
use Rattle.lid_check_rules.proofs.Faults.{none_both}

least_low : (least : ℕ) (xs : List ℕ) (k : ℕ) → Ascend least xs → Among k xs → least ≤ k
least_low least [] k up none = absurd none
least_low least (x ∷ xs) k up (inl same) = let h = up.0 in omega arith
least_low least (x ∷ xs) k up (inr among) = let h = up.0 in let l = least_low (x + 1) xs k up.1 among in omega arith

-- two ascending lists of the same numbers are one
pub same_ascending : (least other : ℕ) (xs ys : List ℕ) → Ascend least xs → Ascend other ys → ((k : ℕ) → Among k xs → Among k ys) → ((k : ℕ) → Among k ys → Among k xs) → xs ≡ ys
same_ascending least other [] [] up up' to from = refl
same_ascending least other [] (y ∷ ys) up up' to from = absurd (from y (inl refl))
same_ascending least other (x ∷ xs) [] up up' to from = absurd (to x (inl refl))
same_ascending least other (x ∷ xs) (y ∷ ys) up up' to from = both head (same_ascending (x + 1) (y + 1) xs ys up.1 up'.1 to_rest from_rest)
  where
    head : x ≡ y
    head = at (to x (inl refl)) (from y (inl refl))
      where
        at : Among x (y ∷ ys) → Among y (x ∷ xs) → x ≡ y
        at (inl same) a = same
        at (inr a) (inl same) = sym same
        at (inr a) (inr b) = let l = least_low (y + 1) ys x up'.1 a in let m = least_low (x + 1) xs y up.1 b in absurd (omega arith)

    to_rest : (k : ℕ) → Among k xs → Among k ys
    to_rest k among = at (to k (inr among))
      where
        at : Among k (y ∷ ys) → Among k ys
        at (inl same) = let l = least_low (x + 1) xs k up.1 among in let e = head in absurd (omega arith)
        at (inr a) = a

    from_rest : (k : ℕ) → Among k ys → Among k xs
    from_rest k among = at (from k (inr among))
      where
        at : Among k (x ∷ xs) → Among k xs
        at (inl same) = let l = least_low (y + 1) ys k up'.1 among in let e = head in absurd (omega arith)
        at (inr a) = a

    both : x ≡ y → xs ≡ ys → x ∷ xs ≡ y ∷ ys
    both same rest = cc

-- the reached models are one list
pub one_list : (d : Design) (ks ks' : List ℕ) → AreReached d ks → AreReached d ks' → ks ≡ ks'
one_list d ks ks' are are' =
    same_ascending 0 0 ks ks' are.ascend are'.ascend (λ k among. (are'.each k).1 ((are.each k).0 among)) (λ k among. (are.each k).1 ((are'.each k).0 among))

told_none : (f : ℕ → Option CheckFault) (ks : List ℕ) (k : ℕ) → first_told f ks ≡ None → Among k ks → f k ≡ None
told_none f [] k none among = absurd among
told_none f (x ∷ xs) k none (inl same) = ap f same ∙ (none_both (f x) (first_told f xs) none).0
told_none f (x ∷ xs) k none (inr among) = told_none f xs k (none_both (f x) (first_told f xs) none).1 among

known_insts : (d : Design) (m : Model) (insts : List Inst) (n : ℕ) → first_told (λ p. unknown_at d m p.0 p.1) (enumerate_from n insts) ≡ None → (i : ℕ) → i < length insts → IsSome (option_and_then (λ inst. number_named d inst.model) (slice_get insts i))
known_insts d m [] n none i h = absurd (omega arith)
known_insts d m (inst ∷ insts) n none zero h = by (number_named d inst.model) (none_both (unknown_at d m n inst) (first_told (λ p. unknown_at d m p.0 p.1) (enumerate_from (n + 1) insts)) none).0
  where
    by : (o : Option ℕ) → cond (is_none o) (Some (UnknownModel m.name n inst.model)) None ≡ None → IsSome o
    by None e = absurd (let f : Some (UnknownModel m.name n inst.model) ≡ None = e in cc)
    by (Some j) e = refl
known_insts d m (inst ∷ insts) n none (suc i) h = known_insts d m insts (n + 1) (none_both (unknown_at d m n inst) (first_told (λ p. unknown_at d m p.0 p.1) (enumerate_from (n + 1) insts)) none).1 i (omega arith)

-- where no instance of a reached model names an unknown model, each has a model
pub known_by : (d : Design) (ks : List ℕ) → AreReached d ks → unknown_model d ks ≡ None → AreKnown d
unfolding unknown_model
known_by d ks are none k i reached h = by (slice_get d.models k) (told_none (λ k. option_and_then (λ m. in_insts (unknown_at d m) m) (slice_get d.models k)) ks k none ((are.each k).1 reached)) h
  where
    by : (o : Option Model) → option_and_then (λ m. in_insts (unknown_at d m) m) o ≡ None → i < length (option_map_or (λ m. m.insts) o []) → IsSome (option_and_then (λ inst. number_named d inst.model) (slice_get (option_map_or (λ m. m.insts) o []) i))
    by None none h = absurd (omega arith)
    by (Some m) none h = known_insts d m m.insts 0 none i h
