-- Acceptance and refusals exclude each other, and a design has at most one refusal.
use Rattle.std.proofs.Common.{◌≡◌, ◌⊎◌, ℕ, zero, suc, ◌<◌, List, Option, Some, None, option_map, slice_get, inl, inr, refl, sym, ◌∙◌, ap, subst, arith}
use Rattle.lid_design.specs.declared.Design.{Design}
use Rattle.lid_design.specs.declared.Model.{Model}
use Rattle.lid_design.specs.Columns.{data_inputs, model_at}
use Rattle.lid_design.specs.Models.{HasNoRecursion}
use Rattle.lid_design.specs.Loops.{pearls}
use Rattle.lid_check_rules.specs.declared.fault.CheckFault.{CheckFault}
use Rattle.lid_check_rules.specs.declared.fault.CheckFault.TheVariants.{Recursive}
use Rattle.lid_check_rules.specs.Acceptance.{ModelsPass, IsModelFault, TellsRecursive, fault_before_recursion, fault_after_recursion}
use Rattle.lid_check_rules.proofs.Passing.{one_list}
use Rattle.lid_check_loops.specs.Dependence.{TellsLoop, StandsBefore, TellsDependence}
use Rattle.lid_check.specs.Acceptance.{IsAccepted, IsRefusal}
use Rattle.lid_base.proofs.Options.{same_some}

some_none : {A : Type 0} (o : Option A) (a : A) → o ≡ Some a → o ≡ None → ⊥
some_none o a h g = absurd (let e : Some a ≡ None = sym h ∙ g in cc)

either_way : (a b : ℕ) → (a < b) ⊎ (a ≡ b) ⊎ (b < a)
either_way zero zero = inr (inl refl)
either_way zero (suc b) = inl (omega arith)
either_way (suc a) zero = inr (inr (omega arith))
either_way (suc a) (suc b) = next (either_way a b)
  where
    next : (a < b) ⊎ (a ≡ b) ⊎ (b < a) → (suc a < suc b) ⊎ (suc a ≡ suc b) ⊎ (suc b < suc a)
    next (inl h) = inl (omega arith)
    next (inr (inl h)) = inr (inl (ap suc h))
    next (inr (inr h)) = inr (inr (omega arith))

-- what the conditions on models tell, for one list of reached models
abbrev TellsOf : Design → List ℕ → CheckFault → Type 0
TellsOf d ks fault =
    (fault_before_recursion d ks ≡ Some fault)
    ⊎ ((fault_before_recursion d ks ≡ None) × TellsRecursive d fault)
    ⊎ ((fault_before_recursion d ks ≡ None) × HasNoRecursion d × (fault_after_recursion d ks ≡ Some fault))

recursive_one : (d : Design) (f g : CheckFault) → TellsRecursive d f → TellsRecursive d g → f ≡ g
recursive_one d f g a b = by (either_way a.0 b.0)
  where
    by : (a.0 < b.0) ⊎ (a.0 ≡ b.0) ⊎ (b.0 < a.0) → f ≡ g
    by (inl lt) = absurd (b.1.first a.0 lt a.1.reached a.1.itself)
    by (inr (inl same)) =
        same_some (option_map (λ (m : Model). Recursive m.name) (slice_get d.models a.0)) f g a.2
        (ap (λ (k : ℕ). option_map (λ (m : Model). Recursive m.name) (slice_get d.models k)) same ∙ b.2)
    by (inr (inr gt)) = absurd (a.1.first b.0 gt b.1.reached b.1.itself)

tells_one : (d : Design) (ks : List ℕ) (f g : CheckFault) → TellsOf d ks f → TellsOf d ks g → f ≡ g
tells_one d ks f g (inl a) (inl b) = same_some (fault_before_recursion d ks) f g a b
tells_one d ks f g (inl a) (inr (inl b)) = absurd (some_none (fault_before_recursion d ks) f a b.0)
tells_one d ks f g (inl a) (inr (inr b)) = absurd (some_none (fault_before_recursion d ks) f a b.0)
tells_one d ks f g (inr (inl a)) (inl b) = absurd (some_none (fault_before_recursion d ks) g b a.0)
tells_one d ks f g (inr (inl a)) (inr (inl b)) = recursive_one d f g a.1 b.1
tells_one d ks f g (inr (inl a)) (inr (inr b)) = absurd (b.1 a.1.0 a.1.1.reached a.1.1.itself)
tells_one d ks f g (inr (inr a)) (inl b) = absurd (some_none (fault_before_recursion d ks) g b a.0)
tells_one d ks f g (inr (inr a)) (inr (inl b)) = absurd (a.1 b.1.0 b.1.1.reached b.1.1.itself)
tells_one d ks f g (inr (inr a)) (inr (inr b)) = same_some (fault_after_recursion d ks) f g a.2 b.2

model_one : (d : Design) (f g : CheckFault) → IsModelFault d f → IsModelFault d g → f ≡ g
model_one d f g a b =
    tells_one d a.0 f g a.2 (subst (λ (ks : List ℕ). TellsOf d ks g) (one_list d b.0 a.0 b.1 a.1) b.2)

tells_apart : (d : Design) (ks : List ℕ) (f : CheckFault) → fault_before_recursion d ks ≡ None → HasNoRecursion d → fault_after_recursion d ks ≡ None → TellsOf d ks f → ⊥
tells_apart d ks f early flat late (inl a) = some_none (fault_before_recursion d ks) f a early
tells_apart d ks f early flat late (inr (inl a)) = flat a.1.0 a.1.1.reached a.1.1.itself
tells_apart d ks f early flat late (inr (inr a)) = some_none (fault_after_recursion d ks) f a.2 late

model_apart : (d : Design) (f : CheckFault) → ModelsPass d → IsModelFault d f → ⊥
model_apart d f pass a =
    tells_apart d pass.ks f pass.before pass.flat pass.after (subst (λ (ks : List ℕ). TellsOf d ks f) (one_list d a.0 pass.ks a.1 pass.reached) a.2)

loop_one : (d : Design) (f g : CheckFault) → TellsLoop d f → TellsLoop d g → f ≡ g
loop_one d f g a b = by (either_way a.k b.k)
  where
    by : (a.k < b.k) ⊎ (a.k ≡ b.k) ⊎ (b.k < a.k) → f ≡ g
    by (inl lt) = absurd (b.is.first a.k a.is.c lt a.is.here a.is.on)
    by (inr (inl same)) =
        let c : a.is.c ≡ b.is.c = same_some _ a.is.c b.is.c a.is.here (ap (slice_get _) same ∙ b.is.here) in
        let e = a.told in let h = b.told in cc
    by (inr (inr gt)) = absurd (a.is.first b.k b.is.c gt b.is.here b.is.on)

dependence_one : (d : Design) (f g : CheckFault) → TellsDependence d f → TellsDependence d g → f ≡ g
dependence_one d f g a b = by (either_way a.is.p b.is.p) (either_way a.o b.o) (either_way a.i b.i)
  where
    left : StandsBefore a.is.p a.o a.i b.is.p b.o b.i → f ≡ g
    left before = absurd (b.is.first a.is.p a.o a.i a.is.m a.is.output a.is.input before a.is.on)

    right : StandsBefore b.is.p b.o b.i a.is.p a.o a.i → f ≡ g
    right before = absurd (a.is.first b.is.p b.o b.i b.is.m b.is.output b.is.input before b.is.on)

    equal : a.is.p ≡ b.is.p → a.o ≡ b.o → a.i ≡ b.i → f ≡ g
    equal p o i =
        let path : a.is.on.path ≡ b.is.on.path = same_some (slice_get (pearls d) a.is.p) _ _ a.is.on.pearl (ap (slice_get (pearls d)) p ∙ b.is.on.pearl) in
        let m : a.is.m ≡ b.is.m = same_some (model_at d a.is.on.path) _ _ a.is.on.model (ap (model_at d) path ∙ b.is.on.model) in
        let output : a.is.output ≡ b.is.output = same_some (slice_get a.is.m.outputs a.o) _ _ a.is.on.out (ap (λ (x : Model). slice_get x.outputs a.o) m ∙ ap (slice_get b.is.m.outputs) o ∙ b.is.on.out) in
        let input : a.is.input ≡ b.is.input = same_some (slice_get (data_inputs d a.is.m) a.i) _ _ a.is.on.given (ap (λ (x : Model). slice_get (data_inputs d x) a.i) m ∙ ap (slice_get (data_inputs d b.is.m)) i ∙ b.is.on.given) in
        let e = a.told in let h = b.told in let name = ap (λ (x : Model). x.name) m in cc

    by : (a.is.p < b.is.p) ⊎ (a.is.p ≡ b.is.p) ⊎ (b.is.p < a.is.p) → (a.o < b.o) ⊎ (a.o ≡ b.o) ⊎ (b.o < a.o) → (a.i < b.i) ⊎ (a.i ≡ b.i) ⊎ (b.i < a.i) → f ≡ g
    by (inl p) o i = left (inl p)
    by (inr (inr p)) o i = right (inl p)
    by (inr (inl p)) (inl o) i = left (inr (p, inl o))
    by (inr (inl p)) (inr (inr o)) i = right (inr (sym p, inl o))
    by (inr (inl p)) (inr (inl o)) (inl i) = left (inr (p, inr (o, i)))
    by (inr (inl p)) (inr (inl o)) (inr (inr i)) = right (inr (sym p, inr (sym o, i)))
    by (inr (inl p)) (inr (inl o)) (inr (inl i)) = equal p o i

-- a design is refused for one fault
pub refusal_one : (d : Design) (f g : CheckFault) → IsRefusal d f → IsRefusal d g → f ≡ g
refusal_one d f g (inl a) (inl b) = model_one d f g a b
refusal_one d f g (inl a) (inr (inl b)) = absurd (model_apart d f b.0 a)
refusal_one d f g (inl a) (inr (inr b)) = absurd (model_apart d f b.0 a)
refusal_one d f g (inr (inl a)) (inl b) = absurd (model_apart d g a.0 b)
refusal_one d f g (inr (inl a)) (inr (inl b)) = loop_one d f g a.1 b.1
refusal_one d f g (inr (inl a)) (inr (inr b)) = absurd (b.1 a.1.is.c a.1.is.on)
refusal_one d f g (inr (inr a)) (inl b) = absurd (model_apart d g a.0 b)
refusal_one d f g (inr (inr a)) (inr (inl b)) = absurd (a.1 b.1.is.c b.1.is.on)
refusal_one d f g (inr (inr a)) (inr (inr b)) = dependence_one d f g a.2 b.2

-- an accepted design is not refused
pub refusal_apart : (d : Design) (f : CheckFault) → IsAccepted d → IsRefusal d f → ⊥
refusal_apart d f accepted (inl a) = model_apart d f accepted.models a
refusal_apart d f accepted (inr (inl a)) = accepted.loops a.1.is.c a.1.is.on
refusal_apart d f accepted (inr (inr a)) = accepted.outputs a.2.is.p a.2.o a.2.i a.2.is.m a.2.is.output a.2.is.input a.2.is.on
