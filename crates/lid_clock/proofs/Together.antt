-- Where each actor decides, and then each station settles, all have.
use Rattle.std.proofs.Common.{◌≡◌, ℕ, Bool, List, length, sym, ◌∙◌, ap, arith}
use Rattle.std.specs.Prelude.{Some, slice_get}
use Rattle.std.proofs.lemmas.Option.{slice_get_within}
use Rattle.lid_clock.specs.declared.actor.ClockActor.{ClockActor}
use Rattle.lid_clock.specs.declared.station.ClockStation.{ClockStation}
use Rattle.lid_clock.specs.States.{CanDecide, Decides, CanSettle, Settles, stations_of}
use Rattle.lid_clock.specs.Cycles.{held_at, CanDecideAll, AllDecide, CanSettleAll, AllSettle}
use Rattle.lid_base.proofs.Places.{item_at}

-- each actor can decide where all can
pub each_can_decide : (actors : List ClockActor) (stations : List ClockStation) (v : ℕ) (a : ClockActor) → CanDecideAll actors stations → slice_get actors v ≡ Some a → CanDecide a stations
each_can_decide actors stations v a all there =
    record { life = all.life; k = all.k; g = all.g; v = v; begins = all.begins; actor = all.all.each v a there; beside = all.beside }

-- all have decided where each has
pub all_decide : (olds news : List ClockActor) (stations : List ClockStation) (sunk : ℕ) (source last : Bool) → length news ≡ length olds
    → ((v : ℕ) (a b : ClockActor) → slice_get olds v ≡ Some a → slice_get news v ≡ Some b → Decides a stations (held_at sunk source last v) b)
    → AllDecide olds stations sunk source last news
all_decide olds news stations sunk source last many each l k g begins all beside sunk_is holds =
    record {
      many = many ∙ all.many;
      each = λ v b there.
          let low = slice_get_within news v b there in
          let old = item_at olds v (omega arith) in
          each v old.0 b old.1 there l k g v begins (all.each v old.0 old.1) beside (holds v ∙ ap (λ n. held_at n source last v) (sym sunk_is));
    }

-- each station can settle where all can
pub each_can_settle : (stations : List ClockStation) (actors : List ClockActor) (s : ℕ) (x : ClockStation) → CanSettleAll stations actors → slice_get stations s ≡ Some x → CanSettle x actors
each_can_settle stations actors s x all there =
    let low = slice_get_within stations s x there in
    let many : length stations ≡ stations_of all.life = all.all.many in
    record { life = all.life; k = all.k; g = all.g; station = s; rules = all.rules; there = omega arith; is = all.all.each s x there; decided = all.decided }

-- all have settled where each has
pub all_settle : (olds news : List ClockStation) (actors : List ClockActor) → length news ≡ length olds
    → ((s : ℕ) (x y : ClockStation) → slice_get olds s ≡ Some x → slice_get news s ≡ Some y → Settles x actors y)
    → AllSettle olds actors news
all_settle olds news actors many each l k g life all decided =
    record {
      many = many ∙ all.many;
      each = λ s y there.
          let low = slice_get_within news s y there in
          let count : length olds ≡ stations_of l = all.many in
          let old = item_at olds s (omega arith) in
          each s old.0 y old.1 there l k g s life (omega arith) (all.each s old.0 old.1) decided;
    }
