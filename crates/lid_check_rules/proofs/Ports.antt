-- A name that stands twice in the lists of a model is found among the names of the lists.
use Rattle.std.proofs.Common.{◌≡◌, ℕ, zero, suc, nat_lt, Bool, true, false, not, ◌&&◌, ◌||◌, List, ◌++◌, find, count_by, flat_map, refl, sym, ap, ◌∙◌, append_assoc, arith}
use Rattle.std.specs.Str.{bytes_eq}
use Rattle.std.proofs.lemmas.Bool.{lt-ltb}
use Rattle.lid_design.specs.declared.Model.{Model}
use Rattle.lid_design.specs.Columns.{is_among}
use Rattle.lid_design.specs.Models.{occurrences, is_twice, cell_names, actual_names}
use Rattle.lid_check_names.proofs.Lists.{among_counted, is_among_append}
use Rattle.lid_check_rules.specs.Conditions.{is_duplicate, first_name}
use Rattle.lid_check_rules.proofs.Sets.{find_within}

-- what stands twice stands there
twice_among : (names : List (List ℕ)) (n : List ℕ) → is_twice names n ≡ true → is_among n names ≡ true
twice_among names n twice = among_counted n names ∙ by (count_by (bytes_eq n) names) twice
  where
    by : (k : ℕ) → nat_lt 1 k ≡ true → nat_lt 0 k ≡ true
    by zero h = absurd (let f : false ≡ true = h in cc)
    by (suc k) h = lt-ltb 0 (suc k) (omega arith)

-- a name that is twice in a list, or in two lists, is in one of them
in_some : (ti to tc both ai ao ac : Bool) → (ti ≡ true → ai ≡ true) → (to ≡ true → ao ≡ true) → (tc ≡ true → ac ≡ true) → (ti || (to || (tc || (both && (ao && (ai || ac)))))) ≡ true → ((ai || ao) || ac) ≡ true
in_some true to tc both ai ao ac i o c h = ap (λ (b : Bool). (b || ao) || ac) (i refl)
in_some false true tc both true ao ac i o c h = refl
in_some false true tc both false ao ac i o c h = ap (λ (b : Bool). b || ac) (o refl)
in_some false false true both true ao ac i o c h = refl
in_some false false true both false true ac i o c h = refl
in_some false false true both false false ac i o c h = c refl
in_some false false false true true ao ac i o c h = refl
in_some false false false true false true ac i o c h = refl
in_some false false false true false false ac i o c h = absurd (let f : false ≡ true = h in cc)
in_some false false false false ai ao ac i o c h = absurd (let f : false ≡ true = h in cc)

-- the first such name of a model
pub first_in_ports : (is_root : Bool) (m : Model) → find (is_duplicate is_root m) (m.inputs ++ m.outputs ++ m.clocks) ≡ first_name (is_duplicate is_root m) m
unfolding occurrences
first_in_ports is_root m = sym (ap (find (is_duplicate is_root m)) joined ∙ find_within (is_duplicate is_root m) ports rest within)
  where
    ports : List (List ℕ)
    ports = m.inputs ++ m.outputs ++ m.clocks

    rest : List (List ℕ)
    rest = flat_map cell_names m.cells ++ flat_map actual_names m.insts

    joined : occurrences m ≡ ports ++ rest
    joined = append_assoc ports (flat_map cell_names m.cells) (flat_map actual_names m.insts)

    within : (n : List ℕ) → is_duplicate is_root m n ≡ true → is_among n ports ≡ true
    within n twice =
        is_among_append n (m.inputs ++ m.outputs) m.clocks
        ∙ ap (λ (b : Bool). b || is_among n m.clocks) (is_among_append n m.inputs m.outputs)
        ∙ in_some (is_twice m.inputs n) (is_twice m.outputs n) (is_twice m.clocks n) (not is_root) (is_among n m.inputs) (is_among n m.outputs) (is_among n m.clocks)
        (twice_among m.inputs n) (twice_among m.outputs n) (twice_among m.clocks n) twice
