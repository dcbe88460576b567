-- What a pearl does, by what its programs do.
use Rattle.std.proofs.Common.{◌≡◌, ◌++◌, ℕ, Bool, List, map, refl}
use Rattle.lid_design.specs.declared.FlatLatch.{FlatLatch}
use Rattle.lid_design.specs.declared.FlatCover.{FlatCover}
use Rattle.lid_design.specs.Flat.{latch_input, IsRow}
use Rattle.lid_cover.specs.Cover.{cover_value}
use Rattle.lid_strict_engine.specs.declared.program.Program.{Program}
use Rattle.lid_strict_engine.specs.Programs.{program_covers}
use Rattle.lid_pearl.specs.Pearls.{View, Shows, Steps}
use Rattle.lid_pearl.specs.Inside.{held}
use Rattle.lid_pearl.proofs.Reordering.{flat_of}
use Rattle.lid_base.proofs.Alls.{all_parts}

module _ (nets : ℕ) (ins outs : List ℕ) (latches : List FlatLatch) (early late : Program) where
  abbrev pub view_of : List Bool → View
  view_of state = record { flat = flat_of nets ins outs latches (program_covers early ++ program_covers late); state = state }

  both_rows : (f : ℕ → Bool) → IsRow (program_covers early ++ program_covers late) f → IsRow (program_covers early) f × IsRow (program_covers late) f
  both_rows f row = all_parts (λ (c : FlatCover). f c.out ≡ cover_value c.cover (map f c.ins)) (program_covers early) (program_covers late) row

  pub shows_of : (state into : List Bool) → ((f : ℕ → Bool) → IsRow (program_covers early) f → map f (held latches) ≡ state → into ≡ map f outs) → Shows (view_of state) into
  shows_of state into shows f row given = shows f (both_rows f row).0 given

  pub steps_of : (state inputs state' into : List Bool)
      → ((f : ℕ → Bool) → IsRow (program_covers early) f → IsRow (program_covers late) f → map f (held latches) ≡ state → map f ins ≡ inputs → state' ≡ map f (map latch_input latches))
      → ((f : ℕ → Bool) → IsRow (program_covers early) f → map f (held latches) ≡ state' → into ≡ map f outs)
      → Steps (view_of state) inputs (view_of state') into
  steps_of state inputs state' into goes shows = record {
    flat = refl;
    state = λ f row given given'. let rows = both_rows f row in goes f rows.0 rows.1 given given';
    shows = shows_of state' into shows;
  }
