-- What is counted over the instances of a design or of a model, by recurrence on the models.
use Rattle.std.specs.Prelude.{ℕ, zero, suc, ◌+◌, max, List, [], ◌∷◌, length, sum_by, cond, slice_get}
use Rattle.std.specs.Option.{option_map_or}
use Rattle.lid_design.specs.declared.Design.{Design}
use Rattle.lid_design.specs.declared.Inst.{Inst}
use Rattle.lid_design.specs.declared.Cell.{Cell}
use Rattle.lid_design.specs.declared.Cell.TheVariants.{Names, Latch}
use Rattle.lid_design.specs.Models.{number_named, insts_of}
use Rattle.lid_design.specs.Elaboration.{own_cell_count, model_nets, count_in, is_latch, is_defaulted, is_open}
use Rattle.lid_check_models.specs.declared.counts.Measure.{Measure}
use Rattle.lid_check_models.specs.declared.counts.Measure.TheVariants.{Depth, Cells, Nets, Latches, Defaulted, Covers, CoverInputs, CoverRows}

-- what is counted in a cell: that it is a latch, or one whose first bit was left open; that it is a cover,
-- or the inputs or the rows of one
abbrev pub in_cell : Measure → Cell → ℕ
in_cell Latches (Latch input out kind control init) = 1
in_cell Defaulted (Latch input out kind control init) = cond (is_open init) 1 0
in_cell Covers (Names inputs out cover) = 1
in_cell CoverInputs (Names inputs out cover) = length inputs
in_cell CoverRows (Names inputs out cover) = length cover.cubes
in_cell _ cell = 0

-- what is counted in all cells of a model
abbrev pub in_cells : Measure → Design → ℕ → ℕ
in_cells what d k = option_map_or (λ m. sum_by (in_cell what) m.cells) (slice_get d.models k) 0

-- what is counted in a model itself
abbrev pub own : Measure → Design → ℕ → ℕ
own Depth d k = 0
own Cells d k = own_cell_count d k
own Nets d k = length (model_nets d k)
own Latches d k = count_in is_latch d k
own Defaulted d k = count_in is_defaulted d k
own Covers d k = in_cells Covers d k
own CoverInputs d k = in_cells CoverInputs d k
own CoverRows d k = in_cells CoverRows d k

-- a count, and that of a further instance's model
abbrev pub with_instance : Measure → ℕ → ℕ → ℕ
with_instance Depth n sub = max n (sub + 1)
with_instance _ n sub = n + sub

-- a count, and that of the model of an instance, by those of all models
abbrev pub with_inst : Measure → Design → (ℕ → ℕ) → ℕ → Inst → ℕ
with_inst what d counts n inst = option_map_or (λ j. with_instance what n (counts j)) (number_named d inst.model) n

-- a count, and those of the models of some instances
abbrev pub with_insts : Measure → Design → (ℕ → ℕ) → ℕ → List Inst → ℕ
with_insts what d counts n [] = n
with_insts what d counts n (inst ∷ insts) = with_insts what d counts (with_inst what d counts n inst) insts

-- the count of a model, by those of all models
unfoldable pub count_by_subs : Measure → Design → (ℕ → ℕ) → ℕ → ℕ
count_by_subs what d counts k = with_insts what d counts (own what d k) (insts_of d k)

-- the count of a model by at most so many steps into instances
abbrev pub count_within : ℕ → Measure → Design → ℕ → ℕ
count_within zero what d k = own what d k
count_within (suc n) what d k = count_by_subs what d (count_within n what d) k

-- the count of a model
unfoldable pub count_of : Measure → Design → ℕ → ℕ
count_of what d k = count_within (length d.models) what d k

-- what is counted over all instances
unfoldable pub count_at_root : Measure → Design → ℕ
count_at_root what d = count_of what d d.root
