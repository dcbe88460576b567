-- Drivers of nets that are pushed one after the other.
use Rattle.std.proofs.Common.{◌≡◌, ℕ, zero, suc, ◌+◌, ◌<◌, Bool, true, false, not, cond, List, [], ◌∷◌, ◌++◌, length, map, drop, get_or, Option, Some, None, option_and_then, option_map, IsSome, slice_get, refl, sym, ◌∙◌, ap, subst, arith, append_assoc, drop-cons}
use Rattle.std.specs.Option.{option_map_or}
use Rattle.std.specs.List.{flat_map, enumerate_from}
use Rattle.std.proofs.lemmas.List.{map-append, append-nil, length-map}
use Rattle.std.proofs.lemmas.Option.{slice_get-map, slice_get_read, slice_get_within}
use Rattle.lid_base.proofs.Lists.{filter_same}
use Rattle.lid_check_names.proofs.Lists.{is_among_firsts}
use Rattle.lid_design.specs.declared.Design.{Design}
use Rattle.lid_design.specs.declared.Model.{Model}
use Rattle.lid_design.specs.declared.Inst.{Inst}
use Rattle.lid_design.specs.declared.Bind.{Bind}
use Rattle.lid_design.specs.Columns.{is_clock, data_inputs}
use Rattle.lid_design.specs.Models.{is_clock_of, firsts, insts_of, number_named, instance_number, IsReached, data_inputs_of}
use Rattle.lid_check_drivers.specs.Locals.{Local, NetLocal, inputs_from, local_connection, local_of, output_driver, outputs_of, locals, model_locals}
use Rattle.lid_check_elab.specs.Templates.{shown_local, name_at}
use Rattle.lid_check_elab.specs.Parts.{driven_net, numbered_local, Grows, ShowsDrivers, data_of, output_sets}
use Rattle.lid_check_drivers.specs.Judged.{IsJudged}
use Rattle.lid_check_elab.specs.declared.driven.Driven.{Driven}
use Rattle.lid_check_drivers.proofs.Clocking.{named_model}
use Rattle.lid_check_elab.proofs.Counting.{model_below}
use Rattle.lid_base.proofs.Options.{map_some}
use Rattle.lid_base.proofs.Places.{item_at}

-- what was pushed and what is left are what was there at first and all that is pushed
pub record Left (d : Design) (k : ℕ) (now : Driven) (rest : List NetLocal) (old : Driven) (whole : List NetLocal) : Type 0 where
  pub nets : map (name_at d k) now.nets.items ++ map driven_net rest ≡ map (name_at d k) old.nets.items ++ map driven_net whole
  pub locals : map (shown_local d) now.locals.items ++ map (numbered_local d k) rest ≡ map (shown_local d) old.locals.items ++ map (numbered_local d k) whole

-- some items go from what is left to what is there
moved : {A B : Type 0} (f : A → B) (xs ys : List B) (ps rest : List A) (total : List B) → ys ≡ xs ++ map f ps → xs ++ map f (ps ++ rest) ≡ total → ys ++ map f rest ≡ total
moved {A} {B} f xs ys ps rest total new before =
    ap (λ (zs : List B). zs ++ map f rest) new
    ∙ append_assoc xs (map f ps) (map f rest)
    ∙ ap (λ (zs : List B). xs ++ zs) (sym (map-append f ps rest))
    ∙ before

after_both : {A B : Type 0} (f : A → B) (xs ys zs : List B) (ps qs : List A) → ys ≡ xs ++ map f ps → zs ≡ ys ++ map f qs → zs ≡ xs ++ map f (ps ++ qs)
after_both {A} {B} f xs ys zs ps qs first second =
    second
    ∙ ap (λ (bs : List B). bs ++ map f qs) first
    ∙ append_assoc xs (map f ps) (map f qs)
    ∙ ap (λ (bs : List B). xs ++ bs) (sym (map-append f ps qs))

-- an item of a list that is worked through
pub drop_item : {A : Type 0} (xs : List A) (i : ℕ) (x : A) → i < length xs → x ≡ get_or xs i x → drop i xs ≡ x ∷ drop (i + 1) xs
drop_item {A} xs i x below is =
    let next : i + 1 ≡ suc i = omega arith in
    drop-cons xs i x below ∙ ap (λ (y : A). y ∷ drop (suc i) xs) (sym is) ∙ ap (λ (n : ℕ). x ∷ drop n xs) (sym next)

-- nothing stands past the end of a list
pub get_none : {A : Type 0} (xs : List A) (i : ℕ) (d : A) → slice_get xs i ≡ None → d ≡ get_or xs i d
get_none [] i d none = refl
get_none (x ∷ xs) zero d none = absurd (let e : Some x ≡ None = none in cc)
get_none (x ∷ xs) (suc i) d none = get_none xs i d none

-- outputs by a set of them
outputs_by : (ns : List (List ℕ)) (i : ℕ) (binds : List Bind) → flat_map (output_driver (firsts ns) i) binds ≡ flat_map (output_driver ns i) binds
outputs_by ns i [] = refl
outputs_by ns i (b ∷ binds) =
    ap (λ (c : Bool). cond c ((b.actual, local_connection i b.formal) ∷ []) [] ++ flat_map (output_driver (firsts ns) i) binds) (is_among_firsts b.formal ns)
    ∙ ap (λ (ps : List NetLocal). output_driver ns i b ++ ps) (outputs_by ns i binds)

pub inst_outputs : (d : Design) (k i j : ℕ) (inst : Inst) → slice_get (insts_of d k) i ≡ Some inst → instance_number d i k ≡ Some j → j < length d.models → (sets : List (List (List ℕ))) → sets ≡ output_sets d.models → (formals : List (List ℕ)) → formals ≡ get_or sets j formals → flat_map (output_driver formals i) inst.binds ≡ outputs_of d (i, inst)
inst_outputs d k i j inst at number below sets whole formals is =
    ap (λ (ns : List (List ℕ)). flat_map (output_driver ns i) inst.binds) (sym found.2)
    ∙ outputs_by found.0.outputs i inst.binds
    ∙ sym (ap (λ (o : Option Model). option_map_or (λ m. flat_map (output_driver m.outputs i) inst.binds) o []) (named_model d inst j named ∙ found.1))
  where
    named : number_named d inst.model ≡ Some j
    named = ap (option_and_then (λ inst. number_named d inst.model)) (sym at) ∙ number

    long : length (output_sets d.models) ≡ length d.models
    long = length-map d.models (λ m. firsts m.outputs)

    there : option_map (λ (m : Model). firsts m.outputs) (slice_get d.models j) ≡ Some formals
    there =
        sym (slice_get-map (λ (m : Model). firsts m.outputs) d.models j)
        ∙ slice_get_read (output_sets d.models) (length d.models) j formals (sym long) below (is ∙ ap (λ (s : List (List (List ℕ))). get_or s j formals) whole)

    found : (m : Model) × (slice_get d.models j ≡ Some m) × (firsts m.outputs ≡ formals)
    found = map_some (λ (m : Model). firsts m.outputs) (slice_get d.models j) formals there

-- an instance of a reached model has a model
pub no_number : {P : Type 0} (d : Design) → IsJudged d → (k i : ℕ) (inst : Inst) → IsReached d k → slice_get (insts_of d k) i ≡ Some inst → instance_number d i k ≡ None → P
no_number d judged k i inst reached at none =
    absurd (let e : false ≡ true = subst IsSome none (judged.known k i reached (slice_get_within (insts_of d k) i inst at)) in cc)

-- a reached model
pub model_here : (d : Design) → IsJudged d → (k : ℕ) → IsReached d k → (m : Model) × (slice_get d.models k ≡ Some m)
model_here d judged k reached = item_at d.models k (model_below d judged k reached)

module _ (d : Design) (k : ℕ) where
  left_next : (ps rest : List NetLocal) (now new old : Driven) (whole : List NetLocal) → Grows d k ps now new → Left d k now (ps ++ rest) old whole → Left d k new rest old whole
  left_next ps rest now new old whole grows left = record {
    nets = moved driven_net (map (name_at d k) now.nets.items) (map (name_at d k) new.nets.items) ps rest _ grows.nets left.nets;
    locals = moved (numbered_local d k) (map (shown_local d) now.locals.items) (map (shown_local d) new.locals.items) ps rest _ grows.locals left.locals;
  }

  -- an item of a list that is worked through was pushed
  pub left_item : {A : Type 0} (f h : List A → List NetLocal) (ps : List NetLocal) (xs : List A) (i : ℕ) (x : A) → ((ys : List A) → f (x ∷ ys) ≡ ps ++ h ys) → i < length xs → x ≡ get_or xs i x → (now new old : Driven) (whole : List NetLocal) → Grows d k ps now new → Left d k now (f (drop i xs)) old whole → Left d k new (h (drop (i + 1) xs)) old whole
  left_item {A} f h ps xs i x cons below is now new old whole grows left =
      let rest : f (drop i xs) ≡ ps ++ h (drop (i + 1) xs) = ap f (drop_item xs i x below is) ∙ cons (drop (i + 1) xs) in
      left_next ps (h (drop (i + 1) xs)) now new old whole grows (subst (λ (qs : List NetLocal). Left d k now qs old whole) rest left)

  pub grows_none : (now : Driven) → Grows d k [] now now
  grows_none now = record { nets = sym (append-nil (map (name_at d k) now.nets.items)); locals = sym (append-nil (map (shown_local d) now.locals.items)) }

  grows_both : (ps qs : List NetLocal) (a b c : Driven) → Grows d k ps a b → Grows d k qs b c → Grows d k (ps ++ qs) a c
  grows_both ps qs a b c first second = record {
    nets = after_both driven_net (map (name_at d k) a.nets.items) (map (name_at d k) b.nets.items) (map (name_at d k) c.nets.items) ps qs first.nets second.nets;
    locals = after_both (numbered_local d k) (map (shown_local d) a.locals.items) (map (shown_local d) b.locals.items) (map (shown_local d) c.locals.items) ps qs first.locals second.locals;
  }

  module _ (m : Model) (here : slice_get d.models k ≡ Some m) where
    pub data_is : data_of d k m.inputs ≡ data_inputs d m
    unfolding data_inputs
    data_is = filter_same (λ net. not (is_clock_of d k net)) (λ net. not (is_clock d m net)) m.inputs (λ net. ap (λ (o : Option Model). not (option_map_or (λ m. is_clock d m net) o false)) here)

    pub inputs_are : data_of d k m.inputs ≡ data_inputs_of d k
    inputs_are = data_is ∙ sym (ap (λ (o : Option Model). option_map_or (data_inputs d) o []) here)

    -- all that drives nets of a model
    pub shows_all : (a b c e : Driven) → map (name_at d k) a.nets.items ≡ [] → map (shown_local d) a.locals.items ≡ [] → Grows d k (inputs_from 0 (data_of d k m.inputs)) a b → Grows d k (map local_of m.cells) b c → Grows d k (flat_map (outputs_of d) (enumerate_from 0 m.insts)) c e → ShowsDrivers d k (model_locals d k) e
    unfolding locals
    shows_all a b c e no_nets no_locals first second third =
        let inner = map local_of m.cells ++ flat_map (outputs_of d) (enumerate_from 0 m.insts) in
        let grows = grows_both (inputs_from 0 (data_of d k m.inputs)) inner a b e first (grows_both (map local_of m.cells) (flat_map (outputs_of d) (enumerate_from 0 m.insts)) b c e second third) in
        let whole : inputs_from 0 (data_of d k m.inputs) ++ inner ≡ model_locals d k = ap (λ (ns : List (List ℕ)). inputs_from 0 ns ++ inner) data_is ∙ sym (ap (λ (o : Option Model). option_map_or (locals d) o []) here) in
        record {
          nets = grows.nets ∙ ap (λ (ns : List (Option (List ℕ))). ns ++ map driven_net (inputs_from 0 (data_of d k m.inputs) ++ inner)) no_nets ∙ ap (map driven_net) whole;
          locals = grows.locals ∙ ap (λ (ls : List (Local ℕ)). ls ++ map (numbered_local d k) (inputs_from 0 (data_of d k m.inputs) ++ inner)) no_locals ∙ ap (map (numbered_local d k)) whole;
        }
