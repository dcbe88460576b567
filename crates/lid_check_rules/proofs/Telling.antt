-- What conditions tell, by the names that they tell of.
use Rattle.std.proofs.Common.{◌≡◌, ℕ, not, find, List, map, Option, Some, None, option_map, option_and_then, false, refl, ap, ◌∙◌}
use Rattle.lid_design.specs.declared.Design.{Design}
use Rattle.lid_design.specs.declared.Model.{Model}
use Rattle.lid_design.specs.declared.Inst.{Inst}
use Rattle.lid_design.specs.Columns.{is_among, model_named, data_inputs}
use Rattle.lid_design.specs.Models.{is_port, formal_of, formals, occurrences}
use Rattle.lid_check_rules.specs.declared.fault.CheckFault.TheVariants as fault
use Rattle.lid_check_ports.specs.declared.formals.InstRule.{InstRule}
use Rattle.lid_check_ports.specs.declared.formals.InstRule.TheVariants.{UnknownFormal, FormalTwice, Unbound}
use Rattle.lid_check_rules.specs.declared.names.NameRule.{NameRule}
use Rattle.lid_check_rules.specs.declared.names.NameRule.TheVariants.{TwoDrivers, Undriven, ClockUse}
use Rattle.lid_check_rules.specs.Conditions.{first_name}
use Rattle.lid_check_rules.specs.Rules.{inst_rule, told_formal}
use Rattle.lid_check_ports.specs.Formals.{faulty_formal}
use Rattle.lid_check_rules.specs.Names.{name_rule, name_at, by_names, told_by, first_by_rules, is_faulty, told_name}
use Rattle.lid_check_rules.specs.declared.names.Findings.{Findings}
use Rattle.lid_check_rules.proofs.Faults.{same_told}
use Rattle.lid_check_table.specs.Tables.{names_in}
use Rattle.lid_check_rules.proofs.Sets.{find_map, find_none, find_firsts}

map_then : {A B C : Type 0} (f : B → C) (g : A → Option B) (o : Option A) → option_and_then (λ a. option_map f (g a)) o ≡ option_map f (option_and_then g o)
map_then f g None = refl
map_then f g (Some a) = refl

then_same : {A B : Type 0} (f g : A → Option B) (o : Option A) → ((a : A) → f a ≡ g a) → option_and_then f o ≡ option_and_then g o
then_same f g None same = refl
then_same f g (Some a) same = same a

pub rule_by_formal : (rule : InstRule) (d : Design) (m : Model) (i : ℕ) (inst : Inst) → inst_rule rule d m i inst ≡ option_map (told_formal rule m.name i) (faulty_formal rule d inst)
rule_by_formal UnknownFormal d m i inst =
    then_same _ _ (model_named d inst.model) (λ sub. find_map (fault.UnknownFormal m.name i) (λ n. not (is_port sub n)) formal_of inst.binds)
    ∙ map_then (fault.UnknownFormal m.name i) (λ sub. find (λ n. not (is_port sub n)) (formals inst)) (model_named d inst.model)
rule_by_formal FormalTwice d m i inst = refl
rule_by_formal Unbound d m i inst = map_then (fault.Unbound m.name i) (λ sub. find (λ n. not (is_among n (formals inst))) (data_inputs d sub)) (model_named d inst.model)

pub rule_by_name : (rule : NameRule) (d : Design) (m : Model) → name_rule rule d m ≡ option_map (told_name rule m.name) (first_name (is_faulty rule d m) m)
rule_by_name TwoDrivers d m = refl
rule_by_name Undriven d m = refl
rule_by_name ClockUse d m = refl

-- what a condition tells, where each name is asked once
pub rule_by_first : (rule : NameRule) (d : Design) (m : Model) → name_rule rule d m ≡ option_map (told_name rule m.name) (find (is_faulty rule d m) (names_in m))
rule_by_first rule d m = rule_by_name rule d m ∙ ap (option_map (told_name rule m.name)) (find_firsts (is_faulty rule d m) (occurrences m))

-- where a condition is broken at no name it tells nothing
pub rule_unbroken : (rule : NameRule) (d : Design) (m : Model) → ((name : List ℕ) → is_faulty rule d m name ≡ false) → name_rule rule d m ≡ None
rule_unbroken rule d m never = rule_by_name rule d m ∙ ap (option_map (told_name rule m.name)) (find_none (is_faulty rule d m) (occurrences m) never)

-- what the conditions on names tell, by what each tells of each model
pub told_by_rules : (d : Design) (ks : List ℕ) (list : List Findings) → ((rule : NameRule) → map (told_by rule) list ≡ map (name_at rule d) ks) → first_by_rules list ≡ by_names d ks
unfolding by_names
told_by_rules d ks list tells =
    let two = same_told (told_by TwoDrivers) (name_at TwoDrivers d) list ks (tells TwoDrivers) in
    let undriven = same_told (told_by Undriven) (name_at Undriven d) list ks (tells Undriven) in
    let misused = same_told (told_by ClockUse) (name_at ClockUse d) list ks (tells ClockUse) in
    cc
