-- Conditions in order, and what is known of a design that passes the first of them.
use Rattle.std.proofs.Common.{◌≡◌, ◌⊎◌, ℕ, List, [], ◌∷◌, Option, Some, None, inl, inr, refl, sym, ◌∙◌, ap, subst}
use Rattle.lid_design.specs.declared.Design.{Design}
use Rattle.lid_design.specs.Models.{AreReached, HasNoRecursion}
use Rattle.lid_check_hierarchy.specs.Surveys.{AreKnown}
use Rattle.lid_check_rules.specs.declared.fault.CheckFault.{CheckFault}
use Rattle.lid_check_rules.specs.declared.fault.CheckFault.TheVariants.{Memory}
use Rattle.lid_check_ports.specs.declared.formals.InstRule.{InstRule}
use Rattle.lid_check_ports.specs.declared.formals.InstRule.TheVariants.{UnknownFormal, FormalTwice, Unbound}
use Rattle.lid_check_rules.specs.declared.names.NameRule.TheVariants.{TwoDrivers, Undriven, ClockUse}
use Rattle.lid_check_rules.specs.declared.told.Told.{Told}
use Rattle.lid_check_rules.specs.Conditions.{or_fault, unknown_model, duplicate_name, unknown_formal, formal_twice, unbound, two_drivers, undriven, clock_use, two_clocks, mixed_edges, root_logic, limits}
use Rattle.lid_check_rules.specs.Acceptance.{fault_before_recursion, fault_after_recursion, IsModelFault}
use Rattle.lid_check_rules.specs.Rules.{inst_at, by_inst, by_insts}
use Rattle.lid_check_rules.specs.Names.{name_at, by_name, by_names}
use Rattle.lid_check_rules.specs.Early.{duplicates, unknowns, duplicate_at, unknown_in, PassesEarly}
use Rattle.lid_check_rules.specs.Told.{fault_of_told, shown_of, IsToldOf}
use Rattle.lid_check_rules.proofs.Faults.{none_both, or_assoc}
use Rattle.lid_check_rules.proofs.Passing.{known_by, one_list}
use Rattle.lid_check_models.specs.Late.{after_insts, after_names, after_clocks, after_edges}

-- what each of the conditions on instances, and on names, tells of some models
tells_insts : (d : Design) (ks : List ℕ) → (unknown_formal d ks ≡ by_inst UnknownFormal d ks) × (formal_twice d ks ≡ by_inst FormalTwice d ks) × (unbound d ks ≡ by_inst Unbound d ks)
unfolding unknown_formal formal_twice unbound inst_at
tells_insts d ks = (refl, refl, refl)

tells_names : (d : Design) (ks : List ℕ) → (two_drivers d ks ≡ by_name TwoDrivers d ks) × (undriven d ks ≡ by_name Undriven d ks) × (clock_use d ks ≡ by_name ClockUse d ks)
unfolding two_drivers undriven clock_use name_at
tells_names d ks = (refl, refl, refl)

-- the conditions after those on names
tells_after_names : (d : Design) (ks : List ℕ) → or_fault (two_clocks d) (or_fault (mixed_edges d ks) (or_fault (root_logic d) (limits d))) ≡ after_names d ks
unfolding after_names after_clocks after_edges
tells_after_names d ks = refl

-- the conditions after those on instances
tells_after_insts : (d : Design) (ks : List ℕ) → or_fault (by_name TwoDrivers d ks) (or_fault (by_name Undriven d ks) (or_fault (by_name ClockUse d ks) (after_names d ks))) ≡ after_insts d ks
unfolding after_insts by_names
tells_after_insts d ks =
    ap (or_fault (by_name TwoDrivers d ks)) (sym (or_assoc (by_name Undriven d ks) (by_name ClockUse d ks) (after_names d ks)))
    ∙ sym (or_assoc (by_name TwoDrivers d ks) (or_fault (by_name Undriven d ks) (by_name ClockUse d ks)) (after_names d ks))

abbrev pub three : List InstRule
three = UnknownFormal ∷ FormalTwice ∷ Unbound ∷ []

three_first : (a b c rest : Option CheckFault) → or_fault a (or_fault b (or_fault c rest)) ≡ or_fault (or_fault a (or_fault b (or_fault c None))) rest
three_first (Some x) b c rest = refl
three_first None (Some x) c rest = refl
three_first None None (Some x) rest = refl
three_first None None None rest = refl

-- equals in place of three conditions and the others
three_same : (a b c rest a' b' c' rest' : Option CheckFault) → a ≡ a' → b ≡ b' → c ≡ c' → rest ≡ rest' → or_fault a (or_fault b (or_fault c rest)) ≡ or_fault a' (or_fault b' (or_fault c' rest'))
three_same a b c rest a' b' c' rest' sa sb sc sr = cc

-- the conditions after recursion: those on instances, and the others
pub late_are : (d : Design) (ks : List ℕ) → fault_after_recursion d ks ≡ or_fault (by_insts d ks three) (after_insts d ks)
unfolding fault_after_recursion
late_are d ks =
    let last : Option CheckFault = or_fault (two_clocks d) (or_fault (mixed_edges d ks) (or_fault (root_logic d) (limits d))) in
    three_same (unknown_formal d ks) (formal_twice d ks) (unbound d ks) (or_fault (two_drivers d ks) (or_fault (undriven d ks) (or_fault (clock_use d ks) last)))
    (by_inst UnknownFormal d ks) (by_inst FormalTwice d ks) (by_inst Unbound d ks) (after_insts d ks)
    (tells_insts d ks).0 (tells_insts d ks).1 (tells_insts d ks).2
    (three_same (two_drivers d ks) (undriven d ks) (clock_use d ks) last (by_name TwoDrivers d ks) (by_name Undriven d ks) (by_name ClockUse d ks) (after_names d ks) (tells_names d ks).0 (tells_names d ks).1 (tells_names d ks).2 (tells_after_names d ks) ∙ tells_after_insts d ks)
    ∙ three_first (by_inst UnknownFormal d ks) (by_inst FormalTwice d ks) (by_inst Unbound d ks) (after_insts d ks)

-- the same of any list of the reached models
pub late_of : (d : Design) (rs ks : List ℕ) → AreReached d rs → AreReached d ks → or_fault (by_insts d rs three) (after_insts d rs) ≡ fault_after_recursion d ks
late_of d rs ks reached are = sym (late_are d rs) ∙ ap (fault_after_recursion d) (one_list d rs ks reached are)

-- a design that passes the conditions before recursion has only known models
pub known_early : (d : Design) → PassesEarly d → AreKnown d
unfolding fault_before_recursion
known_early d pass = known_by d pass.ks pass.reached (none_both (duplicate_name d pass.ks) (unknown_model d pass.ks) pass.before).1

pub after_told : (d : Design) (o : Option Told) (told : Told) → PassesEarly d → HasNoRecursion d → ((ks : List ℕ) → AreReached d ks → shown_of o ≡ fault_after_recursion d ks) → o ≡ Some told → IsModelFault d (fault_of_told told)
after_told d o told pass flat tells is = (pass.ks, pass.reached, inr (inr (pass.before, flat, sym (tells pass.ks pass.reached) ∙ ap shown_of is)))

-- what is told of a design, with copies of its names
pub copied : (d : Design) (told : Told) (fault : CheckFault) → IsToldOf d told → (fault ≡ Memory) ⊎ (fault ≡ fault_of_told told) → (fault ≡ Memory) ⊎ IsModelFault d fault
copied d told fault (inl memory) (inl none) = inl none
copied d told fault (inl memory) (inr copy) = inl (copy ∙ ap fault_of_told memory)
copied d told fault (inr tells) (inl none) = inl none
copied d told fault (inr tells) (inr copy) = inr (subst (IsModelFault d) (sym copy) tells)

-- the conditions before recursion, model by model
pub early_are : (d : Design) (ks : List ℕ) → fault_before_recursion d ks ≡ or_fault (duplicates d ks) (unknowns d ks)
unfolding fault_before_recursion duplicate_name unknown_model duplicate_at unknown_in
early_are d ks = refl
