-- What the conditions say of each reached model, where none of them applies.
use Rattle.std.proofs.Common.{◌≡◌, ℕ, true, false, not, List, [], ◌∷◌, Option, Some, None, option_and_then, option_map, slice_get, inl, inr, refl, sym, ◌∙◌, ap, subst, zero-add}
use Rattle.std.specs.List.{enumerate_from}
use Rattle.lid_base.specs.Lists.{Among}
use Rattle.lid_base.proofs.Lists.{among_enumerate, not_false}
use Rattle.lid_design.specs.declared.Design.{Design}
use Rattle.lid_design.specs.declared.Model.{Model}
use Rattle.lid_design.specs.declared.Inst.{Inst}
use Rattle.lid_design.specs.declared.Bind.{Bind}
use Rattle.lid_design.specs.Columns.{is_among, model_named, data_inputs}
use Rattle.lid_design.specs.Models.{occurrences, is_port, driver_names, IsReached, is_twice, formals}
use Rattle.lid_check_rules.specs.declared.fault.CheckFault.{CheckFault}
use Rattle.lid_check_rules.specs.Conditions.{or_fault, first_told, in_models, in_insts, in_known, is_undriven, is_misused, unknown_formal, unknown_formal_at, formal_twice, formal_twice_at, unbound, unbound_at, two_drivers, two_drivers_in, undriven, undriven_in, clock_use, clock_use_in, two_clocks, mixed_edges, root_logic, limits}
use Rattle.lid_check_rules.specs.Acceptance.{ModelsPass, fault_after_recursion}
use Rattle.lid_check_drivers.proofs.Names.{none_found}

-- what the conditions say of an instance of a model
pub record IsSoundInst (d : Design) (sub : Model) (inst : Inst) : Type 0 where
  pub ports : (b : Bind) → Among b inst.binds → is_port sub b.formal ≡ true
  pub once : (formal : List ℕ) → Among formal (formals inst) → is_twice (formals inst) formal ≡ false
  pub bound : (formal : List ℕ) → Among formal (data_inputs d sub) → is_among formal (formals inst) ≡ true

-- what the conditions say of a reached model
pub record IsSound (d : Design) (m : Model) : Type 0 where
  pub once : (net : List ℕ) → Among net (occurrences m) → is_twice (driver_names d m) net ≡ false
  pub driven : (net : List ℕ) → Among net (occurrences m) → is_undriven d m net ≡ false
  pub clocks : (net : List ℕ) → Among net (occurrences m) → is_misused d m net ≡ false
  pub insts : (i : ℕ) (inst : Inst) (sub : Model) → slice_get m.insts i ≡ Some inst → model_named d inst.model ≡ Some sub → IsSoundInst d sub inst

pub or_none : (a b : Option CheckFault) → or_fault a b ≡ None → (a ≡ None) × (b ≡ None)
or_none None b h = (refl, h)
or_none (Some fault) b h = absurd (let e : Some fault ≡ None = h in cc)

pub none_told : {A : Type 0} (told : A → Option CheckFault) (xs : List A) → first_told told xs ≡ None → (x : A) → Among x xs → told x ≡ None
none_told told [] none x among = absurd among
none_told told (y ∷ ys) none x (inl same) = ap told same ∙ (or_none (told y) (first_told told ys) none).0
none_told told (y ∷ ys) none x (inr later) = none_told told ys (or_none (told y) (first_told told ys) none).1 x later

pub map_none : {A B : Type 0} (f : A → B) (o : Option A) → option_map f o ≡ None → o ≡ None
map_none f None h = refl
map_none f (Some a) h = absurd (let e : Some (f a) ≡ None = h in cc)

-- a condition on models that does not apply, at a model
model_none : (d : Design) (ks : List ℕ) (told : Model → Option CheckFault) → in_models told d ks ≡ None → (k : ℕ) (m : Model) → Among k ks → slice_get d.models k ≡ Some m → told m ≡ None
model_none d ks told none k m among here = ap (option_and_then told) (sym here) ∙ none_told (λ k. option_and_then told (slice_get d.models k)) ks none k among

-- at an instance
inst_none : (told : ℕ → Inst → Option CheckFault) (m : Model) → in_insts told m ≡ None → (i : ℕ) (inst : Inst) → slice_get m.insts i ≡ Some inst → told i inst ≡ None
inst_none told m none i inst here =
    none_told (λ p. told p.0 p.1) (enumerate_from 0 m.insts) none (i, inst) (subst (λ (n : ℕ). Among (n, inst) (enumerate_from 0 m.insts)) (zero-add i) (among_enumerate 0 i m.insts inst here))

known_none : (d : Design) (told : Model → Option CheckFault) (inst : Inst) (sub : Model) → in_known d told inst ≡ None → model_named d inst.model ≡ Some sub → told sub ≡ None
known_none d told inst sub none named = ap (option_and_then told) (sym named) ∙ none

record AllNone (d : Design) (ks : List ℕ) : Type 0 where
  formal : unknown_formal d ks ≡ None
  twice : formal_twice d ks ≡ None
  unbounds : unbound d ks ≡ None
  two : two_drivers d ks ≡ None
  not_driven : undriven d ks ≡ None
  clock : clock_use d ks ≡ None
  root : root_logic d ≡ None
  limit : limits d ≡ None

all_none : (d : Design) (ks : List ℕ) → fault_after_recursion d ks ≡ None → AllNone d ks
unfolding fault_after_recursion
all_none d ks none =
    let a = or_none (unknown_formal d ks) _ none in
    let b = or_none (formal_twice d ks) _ a.1 in
    let e = or_none (unbound d ks) _ b.1 in
    let f = or_none (two_drivers d ks) _ e.1 in
    let g = or_none (undriven d ks) _ f.1 in
    let h = or_none (clock_use d ks) _ g.1 in
    let i = or_none (two_clocks d) _ h.1 in
    let j = or_none (mixed_edges d ks) _ i.1 in
    let l = or_none (root_logic d) (limits d) j.1 in
    record { formal = a.0; twice = b.0; unbounds = e.0; two = f.0; not_driven = g.0; clock = h.0; root = l.0; limit = l.1 }

-- the root has no logic of its own beside instances
pub no_root_logic : (d : Design) (ks : List ℕ) → fault_after_recursion d ks ≡ None → root_logic d ≡ None
no_root_logic d ks none = (all_none d ks none).root

-- no limit is passed
pub no_limit : (d : Design) (ks : List ℕ) → fault_after_recursion d ks ≡ None → limits d ≡ None
no_limit d ks none = (all_none d ks none).limit

sound_inst : (d : Design) (ks : List ℕ) → AllNone d ks → (k : ℕ) (m : Model) → Among k ks → slice_get d.models k ≡ Some m → (i : ℕ) (inst : Inst) (sub : Model) → slice_get m.insts i ≡ Some inst → model_named d inst.model ≡ Some sub → IsSoundInst d sub inst
unfolding unknown_formal formal_twice unbound
sound_inst d ks all k m among here i inst sub at named = record {
  ports = λ b bound.
      let told = known_none d _ inst sub (inst_none (unknown_formal_at d m) m (model_none d ks (λ m. in_insts (unknown_formal_at d m) m) all.formal k m among here) i inst at) named in
      not_false (is_port sub b.formal) (none_found (λ b. not (is_port sub b.formal)) inst.binds (map_none _ _ told) b bound);
  once = λ formal bound.
      let told = inst_none (formal_twice_at m) m (model_none d ks (λ m. in_insts (formal_twice_at m) m) all.twice k m among here) i inst at in
      none_found (is_twice (formals inst)) (formals inst) (map_none _ _ told) formal bound;
  bound = λ formal input.
      let told = known_none d _ inst sub (inst_none (unbound_at d m) m (model_none d ks (λ m. in_insts (unbound_at d m) m) all.unbounds k m among here) i inst at) named in
      not_false (is_among formal (formals inst)) (none_found (λ name. not (is_among name (formals inst))) (data_inputs d sub) (map_none _ _ told) formal input);
}

pub sound_model : (d : Design) → ModelsPass d → (k : ℕ) (m : Model) → IsReached d k → slice_get d.models k ≡ Some m → IsSound d m
unfolding two_drivers undriven clock_use
sound_model d pass k m reached here =
    let all = all_none d pass.ks pass.after in
    let among = (pass.reached.each k).1 reached in
    record {
      once = λ net occurs. none_found (is_twice (driver_names d m)) (occurrences m) (map_none _ _ (model_none d pass.ks (two_drivers_in d) all.two k m among here)) net occurs;
      driven = λ net occurs. none_found (is_undriven d m) (occurrences m) (map_none _ _ (model_none d pass.ks (undriven_in d) all.not_driven k m among here)) net occurs;
      clocks = λ net occurs. none_found (is_misused d m) (occurrences m) (map_none _ _ (model_none d pass.ks (clock_use_in d) all.clock k m among here)) net occurs;
      insts = sound_inst d pass.ks all k m among here;
    }
