-- How a pearl is kept: covers that no input leads to are run early, for the present state, and the
-- others late, once the inputs are known.
use Rattle.std.specs.Prelude.{◌≡◌, ◌<◌, ◌++◌, ℕ, Bool, true, false, List, length, map}
use Rattle.std.specs.List.{AllByRecursion, list_all}
use Rattle.lid_base.specs.Lists.{Among}
use Rattle.lid_cover.specs.Cover.{same_bit}
use Rattle.lid_design.specs.declared.Flat.{Flat}
use Rattle.lid_design.specs.declared.FlatLatch.{FlatLatch}
use Rattle.lid_design.specs.declared.FlatCover.{FlatCover}
use Rattle.lid_design.specs.Feeds.{EdgesLead}
use Rattle.lid_design.specs.Flat.{flat_drivers, latch_out, latch_input, ReadEarlier, IsRow}
use Rattle.lid_strict_engine.specs.declared.program.Program.{Program}
use Rattle.lid_strict_engine.specs.Programs.{program_covers}
use Rattle.lid_strict_engine.specs.Rows.{AreRightAt, known_after}
use Rattle.lid_strict_widths.specs.Groups.{IsByWidth}
use Rattle.lid_pearl.specs.declared.pearl.Layout.{Layout}

-- the nets that the latches give
abbrev pub held : List FlatLatch → List ℕ
held latches = map latch_out latches

-- what is known in a state, and what is known once the inputs are
abbrev pub early_nets : List FlatLatch → Program → List ℕ
early_nets latches early = known_after (held latches) (program_covers early)

abbrev pub late_nets : List ℕ → List FlatLatch → Program → Program → List ℕ
late_nets ins latches early late = known_after (ins ++ early_nets latches early) (program_covers late)

-- the nets of a pearl are below their number, and each cover reads what is known when it is run
pub record IsOrdered (nets : ℕ) (ins outs : List ℕ) (latches : List FlatLatch) (early late : Program) : Type 0 where
  pub early_nets : early.nets ≡ nets
  pub late_nets : late.nets ≡ nets
  pub ins_below : AllByRecursion (λ k. k < nets) ins
  pub outs_below : AllByRecursion (λ k. k < nets) outs
  pub held_below : AllByRecursion (λ k. k < nets) (held latches)
  pub taken_below : AllByRecursion (λ k. k < nets) (map latch_input latches)
  pub early_reads : ReadEarlier (held latches) (program_covers early)
  pub late_reads : ReadEarlier (ins ++ known_after (held latches) (program_covers early)) (program_covers late)
  pub outs_early : AllByRecursion (λ k. Among k (known_after (held latches) (program_covers early))) outs
  pub taken_known : AllByRecursion (λ k. Among k (known_after (ins ++ known_after (held latches) (program_covers early)) (program_covers late))) (map latch_input latches)

-- the nets that latches give, and those that they read, latch by latch
pub record AreLatchNets (latches : List FlatLatch) (outs inputs : List ℕ) : Type 0 where
  pub held : outs ≡ held latches
  pub taken : inputs ≡ map latch_input latches

-- bits that are right at early nets in each row that has the latches' bits
abbrev pub AreSettled : List FlatLatch → Program → List Bool → List Bool → Type 0
AreSettled latches early state bits =
    (f : ℕ → Bool) → IsRow (program_covers early) f → map f (held latches) ≡ state → AreRightAt f (early_nets latches early) bits

-- the flat part of a layout: its early covers before the late ones
abbrev pub laid_flat : Layout → Flat
laid_flat l = record {
  nets = l.shape.nets;
  ins = l.shape.ins.items;
  outs = l.shape.outs.items;
  latches = l.shape.latches.all.items;
  covers = program_covers l.plan.early.program ++ program_covers l.plan.late.program;
}

-- a layout is in order: the nets of its latches are kept beside them, and each cover reads what is known when it is run
pub record IsLaidOut (l : Layout) : Type 0 where
  pub latches : AreLatchNets l.shape.latches.all.items l.shape.latches.held.items l.shape.latches.taken.items
  pub early_is : IsByWidth l.plan.early
  pub late_is : IsByWidth l.plan.late
  pub ordered : IsOrdered l.shape.nets l.shape.ins.items l.shape.outs.items l.shape.latches.all.items l.plan.early.program l.plan.late.program

-- the bits of a pearl: one for each latch, one for each net, and of early nets those of the state
pub record AreHeld (l : Layout) (state bits : List Bool) : Type 0 where
  pub state_size : length state ≡ length l.shape.latches.all.items
  pub size : length bits ≡ l.shape.nets
  pub settled : AreSettled l.shape.latches.all.items l.plan.early.program state bits

-- an input leads to the net
abbrev pub IsFromInput : Flat → ℕ → Type 0
IsFromInput f k = (n input : ℕ) × Among input f.ins × EdgesLead (flat_drivers f) n input k

-- a cover whose output is marked, or whose output is not
abbrev pub is_picked : (ℕ → Bool) → Bool → FlatCover → Bool
is_picked mark wanted c = same_bit wanted (mark c.out)

-- the marks of what is known in a state: no input has one, each latch has, and a cover's output has one
-- exactly where all that it reads has
pub record AreKnownMarks (f : Flat) (covers : List FlatCover) (mark : ℕ → Bool) : Type 0 where
  pub inputs : (k : ℕ) → Among k f.ins → mark k ≡ false
  pub latches : (k : ℕ) → Among k (held f.latches) → mark k ≡ true
  pub covers_marked : (c : FlatCover) → Among c covers → mark c.out ≡ list_all mark c.ins
