-- The station settles, and who stands at its other end is awake.
use Rattle.std.proofs.Common.{◌≡◌, ℕ, true, set, refl, sym, ◌∙◌, ap}
use Rattle.std.specs.Prelude.{Some, slice_get}
use Rattle.std.proofs.lemmas.Option.{same_Some}
use Rattle.lid_base.proofs.Places.{item_read}
use Rattle.lid_clock_flat.specs.Ends.{other_end}
use Rattle.lid_clock_flat.proofs.settling.settle_end.Goals as goal

pub returns-clause-settles : goal.returns-clause-settles
returns-clause-settles c =
    let all = c.args.stations.now.all.items in
    let first : slice_get all c.args.station ≡ Some c.index.result.now = item_read all c.args.station c.index.result.now c.requires.there c.index.ensures in
    let x = c.index_mut.result.now in
    let at : slice_get all c.args.station ≡ Some x = item_read all c.args.station x c.requires.there c.index_mut.ensures.value in
    let other = c.other_end-other.ensures ∙ ap (other_end c.args.loses) (same_Some c.index.result.now x (sym first ∙ at)) in
    record {
      before = x;
      there = at;
      after = c.settle.new.self;
      settled = c.settle.ensures;
      stations = refl;
      awake = ap (λ (v : ℕ). set c.args.awake.now.items v true) other;
    }
