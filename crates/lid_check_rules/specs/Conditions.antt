-- The conditions under which the models of a design are refused, one each. Each speaks of a list of
-- model numbers, those that are reached in the order of the text, and tells the first place.
use Rattle.std.specs.Prelude.{ℕ, ◌==◌, nat_lt, min, Bool, true, false, not, ◌&&◌, ◌||◌, if◌then◌else◌, List, [], ◌∷◌, length, filter, flat_map, find, Option, Some, None, option_map, option_and_then, is_none, slice_get}
use Rattle.std.specs.Option.{option_map_or}
use Rattle.std.specs.List.{enumerate_from}
use Rattle.lid_base.specs.declared.which.Which.{Which}
use Rattle.lid_base.specs.declared.which.Which.TheVariants.{RootInsts, Depth, Cells, Nets}
use Rattle.lid_design.specs.declared.Design.{Design}
use Rattle.lid_design.specs.declared.Model.{Model}
use Rattle.lid_design.specs.declared.Cell.{Cell}
use Rattle.lid_design.specs.declared.Cell.TheVariants.{Names, Latch}
use Rattle.lid_design.specs.declared.LatchKind.{LatchKind}
use Rattle.lid_design.specs.declared.LatchKind.TheVariants.{Plain, Rise, Fall}
use Rattle.lid_design.specs.declared.Inst.{Inst}
use Rattle.lid_design.specs.Columns.{is_among, model_named, is_clock, data_inputs}
use Rattle.lid_design.specs.Models.{occurrences, is_port, port_drivers, inner_drivers, driver_names, read_names, cell_out, is_buffer, is_constant, number_named, insts_of, is_twice, formals}
use Rattle.lid_design.specs.Elaboration.{depth, count_cells, count_nets}
use Rattle.lid_check_rules.specs.declared.fault.CheckFault.{CheckFault}
use Rattle.lid_check_rules.specs.declared.fault.CheckFault.TheVariants.{DuplicateName, UnknownModel, UnknownFormal, FormalTwice, Unbound, TwoDrivers, Undriven, ClockUse, TwoClocks, MixedEdges, RootLogic, Limit}

-- the first fault, else the second
abbrev pub or_fault : Option CheckFault → Option CheckFault → Option CheckFault
or_fault (Some fault) later = Some fault
or_fault None later = later

-- the first fault that is told of the items of a list
abbrev pub first_told : {A : Type 0} → (A → Option CheckFault) → List A → Option CheckFault
first_told told [] = None
first_told told (x ∷ xs) = or_fault (told x) (first_told told xs)

-- the first fault that is told of the models of some numbers
abbrev pub in_models : (Model → Option CheckFault) → Design → List ℕ → Option CheckFault
in_models told d ks = first_told (λ k. option_and_then told (slice_get d.models k)) ks

-- the first fault that is told of the instances of a model, with their numbers
abbrev pub in_insts : (ℕ → Inst → Option CheckFault) → Model → Option CheckFault
in_insts told m = first_told (λ p. told p.0 p.1) (enumerate_from 0 m.insts)

-- the first fault that is told of an instance whose model is known, from that model
abbrev pub in_known : Design → (Model → Option CheckFault) → Inst → Option CheckFault
in_known d told inst = option_and_then told (model_named d inst.model)

-- the first fault that is told of the root
abbrev pub in_root : (Model → Option CheckFault) → Design → Option CheckFault
in_root told d = option_and_then told (slice_get d.models d.root)

-- the first name of a model, in the order of its places, that is faulty
abbrev pub first_name : (List ℕ → Bool) → Model → Option (List ℕ)
first_name is_faulty m = find is_faulty (occurrences m)

-- a name twice in .inputs, twice in .outputs or twice in .clock; or, in a model other than the
-- root, both in .outputs and in .inputs or .clock
abbrev pub is_duplicate : Bool → Model → List ℕ → Bool
is_duplicate is_root m name =
    is_twice m.inputs name
    || (is_twice m.outputs name
    || (is_twice m.clocks name
    || (not is_root && (is_among name m.outputs && (is_among name m.inputs || is_among name m.clocks)))))

abbrev pub duplicate_in : Bool → Model → Option CheckFault
duplicate_in is_root m = option_map (DuplicateName m.name) (first_name (is_duplicate is_root m) m)

unfoldable pub duplicate_name : Design → List ℕ → Option CheckFault
duplicate_name d ks = first_told (λ k. option_and_then (duplicate_in (k == d.root)) (slice_get d.models k)) ks

-- an instance names no model
abbrev pub unknown_at : Design → Model → ℕ → Inst → Option CheckFault
unknown_at d m i inst = if is_none (number_named d inst.model) then Some (UnknownModel m.name i inst.model) else None

unfoldable pub unknown_model : Design → List ℕ → Option CheckFault
unknown_model d ks = in_models (λ m. in_insts (unknown_at d m) m) d ks

-- a formal is in none of the three lists of its model
abbrev pub unknown_formal_at : Design → Model → ℕ → Inst → Option CheckFault
unknown_formal_at d m i inst =
    in_known d (λ sub. option_map (λ b. UnknownFormal m.name i b.formal) (find (λ b. not (is_port sub b.formal)) inst.binds)) inst

unfoldable pub unknown_formal : Design → List ℕ → Option CheckFault
unknown_formal d ks = in_models (λ m. in_insts (unknown_formal_at d m) m) d ks

-- a formal is bound twice in one instance: the one whose first binding comes first
abbrev pub formal_twice_at : Model → ℕ → Inst → Option CheckFault
formal_twice_at m i inst = option_map (FormalTwice m.name i) (find (is_twice (formals inst)) (formals inst))

unfoldable pub formal_twice : Design → List ℕ → Option CheckFault
formal_twice d ks = in_models (λ m. in_insts (formal_twice_at m) m) d ks

-- a data input of the model of an instance is not bound
abbrev pub unbound_at : Design → Model → ℕ → Inst → Option CheckFault
unbound_at d m i inst =
    in_known d (λ sub. option_map (Unbound m.name i) (find (λ name. not (is_among name (formals inst))) (data_inputs d sub))) inst

unfoldable pub unbound : Design → List ℕ → Option CheckFault
unbound d ks = in_models (λ m. in_insts (unbound_at d m) m) d ks

-- a net is driven more than once
abbrev pub two_drivers_in : Design → Model → Option CheckFault
two_drivers_in d m = option_map (TwoDrivers m.name) (first_name (is_twice (driver_names d m)) m)

unfoldable pub two_drivers : Design → List ℕ → Option CheckFault
two_drivers d ks = in_models (two_drivers_in d) d ks

-- a net is read and not driven
abbrev pub is_undriven : Design → Model → List ℕ → Bool
is_undriven d m name = is_among name (read_names d m) && not (is_among name (driver_names d m))

abbrev pub undriven_in : Design → Model → Option CheckFault
undriven_in d m = option_map (Undriven m.name) (first_name (is_undriven d m) m)

unfoldable pub undriven : Design → List ℕ → Option CheckFault
undriven d ks = in_models (undriven_in d) d ks

-- a clock name is not in .inputs or .clock, or it is read, or driven by a cover, a latch or an
-- output formal
abbrev pub is_misused : Design → Model → List ℕ → Bool
is_misused d m name =
    is_clock d m name
    && (not (is_among name m.inputs || is_among name m.clocks)
    || (is_among name (read_names d m)
    || is_among name (inner_drivers d m)))

abbrev pub clock_use_in : Design → Model → Option CheckFault
clock_use_in d m = option_map (ClockUse m.name) (first_name (is_misused d m) m)

unfoldable pub clock_use : Design → List ℕ → Option CheckFault
clock_use d ks = in_models (clock_use_in d) d ks

-- the first two of some names
abbrev pub first_two : List (List ℕ) → Option CheckFault
first_two [] = None
first_two (first ∷ []) = None
first_two (first ∷ second ∷ rest) = Some (TwoClocks first second)

-- the root has more than one clock name; those of .inputs come before those of .clock
unfoldable pub two_clocks : Design → Option CheckFault
two_clocks d = in_root (λ m. first_two (filter (is_clock d m) (port_drivers m))) d

-- a latch that has a type, with the names of its model and its output
pub record TypedLatch : Type 0 where
  pub model : List ℕ
  pub out : List ℕ
  pub rises : Bool

abbrev pub typed_latch : Model → List ℕ → LatchKind → List TypedLatch
typed_latch m out Plain = []
typed_latch m out Rise = record { model = m.name; out = out; rises = true } ∷ []
typed_latch m out Fall = record { model = m.name; out = out; rises = false } ∷ []

abbrev pub typed_cell : Model → Cell → List TypedLatch
typed_cell m (Names inputs out cover) = []
typed_cell m (Latch input out kind control init) = typed_latch m out kind

-- the latches of the models of some numbers that have a type
abbrev pub typed_latches : Design → List ℕ → List TypedLatch
typed_latches d ks = flat_map (λ k. option_map_or (λ m. flat_map (typed_cell m) m.cells) (slice_get d.models k) []) ks

abbrev pub same_edge : Bool → Bool → Bool
same_edge true rises = rises
same_edge false rises = not rises

-- a latch has another type than the first
abbrev pub other_edge : List TypedLatch → Option CheckFault
other_edge [] = None
other_edge (first ∷ rest) =
    option_map (λ l. MixedEdges l.model l.out) (find (λ l. not (same_edge first.rises l.rises)) rest)

unfoldable pub mixed_edges : Design → List ℕ → Option CheckFault
mixed_edges d ks = other_edge (typed_latches d ks)

-- the root has an instance, and also a latch, or a cover that is neither a buffer nor a constant
abbrev pub logic_in : Model → Option CheckFault
logic_in m =
    if length m.insts == 0
    then None
    else option_map (λ cell. RootLogic (cell_out cell)) (find (λ cell. not (is_buffer cell || is_constant cell)) m.cells)

unfoldable pub root_logic : Design → Option CheckFault
root_logic d = in_root logic_in d

-- a count over its greatest, told as at most 4,294,967,295
abbrev pub over : ℕ → Which → ℕ → Option CheckFault
over greatest which count = if nat_lt greatest count then Some (Limit which (min count 4294967295)) else None

-- a limit is exceeded
unfoldable pub limits : Design → Option CheckFault
limits d =
    or_fault (over 4096 RootInsts (length (insts_of d d.root)))
    (or_fault (over 64 Depth (depth d))
    (or_fault (over 262144 Cells (count_cells d))
    (over 1048576 Nets (count_nets d))))
