-- Where the stations of an actor stand among those that it drains and fills.
use Rattle.std.proofs.Common.{◌≡◌, ℕ, ◌<◌, length, refl}
use Rattle.std.specs.Prelude.{Some, slice_get}
use Rattle.std.proofs.lemmas.Option.{slice_get-get_or, slice_get_within, get_or_from_slice_get}
use Rattle.lid_shell_laws.specs.Runs.{place_in}
use Rattle.lid_shell_laws.proofs.Ends.{drained_is, filled_is, drained_there, filled_there, drained_place, filled_place}
use Rattle.lid_walk_machine.specs.Plans.{Plan, stations_of, ins_of, outs_of, drainer_of, filler_of}
use Rattle.lid_walk_machine.specs.Machine.{in_at, out_at}

-- a station stands at a place of those that an actor drains
pub record DrainsAt (m : Plan) (v i station : ℕ) : Type 0 where
  pub within : i < length (ins_of m v)
  pub at : in_at m v i ≡ station
  pub there : station < stations_of m
  pub drainer : drainer_of m station ≡ v
  pub place : place_in (ins_of m v) station ≡ i

-- and of those that it fills
pub record FillsAt (m : Plan) (v j station : ℕ) : Type 0 where
  pub within : j < length (outs_of m v)
  pub at : out_at m v j ≡ station
  pub there : station < stations_of m
  pub filler : filler_of m station ≡ v
  pub place : place_in (outs_of m v) station ≡ j

module _ (m : Plan) where
  -- where a station that stands in a list of an actor stands there
  pub drains_by : (v i station : ℕ) → slice_get (ins_of m v) i ≡ Some station → DrainsAt m v i station
  drains_by v i station h =
      let is = drained_is m.links m.placement v i station h in
      record {
        within = slice_get_within (ins_of m v) i station h;
        at = get_or_from_slice_get (ins_of m v) i station 0 h;
        there = is.0;
        drainer = is.1;
        place = drained_place m.links m.placement v i station h;
      }

  pub fills_by : (v j station : ℕ) → slice_get (outs_of m v) j ≡ Some station → FillsAt m v j station
  fills_by v j station h =
      let is = filled_is m.links m.placement v j station h in
      record {
        within = slice_get_within (outs_of m v) j station h;
        at = get_or_from_slice_get (outs_of m v) j station 0 h;
        there = is.0;
        filler = is.1;
        place = filled_place m.links m.placement v j station h;
      }

  -- each place has its station
  pub drains_at : (v i : ℕ) → i < length (ins_of m v) → DrainsAt m v i (in_at m v i)
  drains_at v i h = drains_by v i (in_at m v i) (slice_get-get_or (ins_of m v) i 0 h)

  pub fills_at : (v j : ℕ) → j < length (outs_of m v) → FillsAt m v j (out_at m v j)
  fills_at v j h = fills_by v j (out_at m v j) (slice_get-get_or (outs_of m v) j 0 h)

  -- each station has its place
  pub drained_at : (station : ℕ) → station < stations_of m → (i : ℕ) × DrainsAt m (drainer_of m station) i station
  drained_at station h =
      let there = drained_there m.links m.placement (drainer_of m station) station h refl in
      (there.0, drains_by (drainer_of m station) there.0 station there.1)

  pub filled_at : (station : ℕ) → station < stations_of m → (j : ℕ) × FillsAt m (filler_of m station) j station
  filled_at station h =
      let there = filled_there m.links m.placement (filler_of m station) station h refl in
      (there.0, fills_by (filler_of m station) there.0 station there.1)
