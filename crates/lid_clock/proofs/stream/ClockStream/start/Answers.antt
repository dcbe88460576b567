-- A run that was built is one that has not yet made a cycle.
use Rattle.std.proofs.Common.{◌≡◌, ℕ, ◌-◌, min, nat_lt, Bool, List, length, sym, ◌∙◌, ap, subst, arith}
use Rattle.std.specs.Prelude.{Option, Some, slice_get}
use Rattle.std.specs.Global.{Vec}
use Rattle.std.specs.Vec.{with_items}
use Rattle.std.proofs.lemmas.List.{with_items_is}
use Rattle.lid_system.specs.declared.System.{System}
use Rattle.lid_stations.specs.declared.placement.Placement.{Placement}
use Rattle.lid_stations.specs.Placements.{links_of, station_count}
use Rattle.lid_stations.specs.Stations.{actor_count}
use Rattle.lid_clock.specs.Ran.{lent}
use Rattle.lid_clock.specs.declared.actor.ClockActor.{ClockActor}
use Rattle.lid_clock.specs.declared.station.ClockStation.{ClockStation}
use Rattle.lid_clock.specs.Lives.{sink}
use Rattle.lid_clock.specs.Starts.{AreNew, AreUnjoined, HasLaid, IsSized, CanGain, AreReadied, AllBegin}
use Rattle.lid_clock.proofs.Begun.{all_sized, can_gain, built_of_life, starts}
use Rattle.lid_clock.proofs.Built.{IsBuilt, built}
use Rattle.lid_clock.proofs.stream.ClockStream.start.Goals as goal

-- the vector of actors holds those to which stations were joined
joined_are : (s : System) (p : Placement) (rows : ℕ) (first : Option (List Bool)) (alone : Vec ClockActor) (joined : List ClockActor) (stations : List ClockStation)
    → AreUnjoined s rows first (actor_count (links_of s) p) alone.items → HasLaid (links_of s) p (station_count p.relays) joined stations → (with_items alone joined).items ≡ joined
joined_are s p rows first alone joined stations new laid = with_items_is alone joined (laid.joined.many ∙ sym new.many ∙ sym alone.ok.0)

-- and those that were readied
readied_are : (some : Bool) (joined : Vec ClockActor) (old new : List ClockActor) → AreReadied some old new → length old ≡ joined.len → (with_items joined new).items ≡ new
readied_are some joined old new readied long = with_items_is joined new (readied.many ∙ long)

pub make_all_ready-requires : goal.make_all_ready-requires
make_all_ready-requires c =
    let s = c.args.system.now in
    let p = c.args.placement.now in
    let first = lent c.args.first in
    let joined = c.lay_stations.new.actors in
    let new : AreNew s c.args.rows first joined = c.in_ok-lay_stations.ensures.new c.args.rows first (subst (λ (xs : List ClockActor). AreNew s c.args.rows first xs) (sym c.as_mut_slice.ensures.value) c.in_ok-actors.ensures.new) in
    let are = c.as_mut_slice-2.ensures.value ∙ joined_are s p c.args.rows first c.in_ok-actors.actors joined c.lay_stations.new.stations.items c.in_ok-actors.ensures c.in_ok-lay_stations.ensures.laid in
    subst (λ (xs : List ClockActor). (v : ℕ) (a : ClockActor) → slice_get xs v ≡ Some a → IsSized a) (sym are)
    (all_sized c.runs_go_by_rules.ensures s p c.requires.system c.requires.fits c.args.rows first joined c.in_ok-lay_stations.ensures.laid.joined new)

pub begin_all-requires : goal.begin_all-requires
begin_all-requires c =
    let s = c.args.system.now in
    let p = c.args.placement.now in
    let some = nat_lt 0 c.args.rows in
    let joined = c.lay_stations.new.actors in
    let ready = c.make_all_ready.new.actors in
    let stations = c.lay_stations.new.stations.items in
    let are = c.as_mut_slice-2.ensures.value ∙ joined_are s p c.args.rows (lent c.args.first) c.in_ok-actors.actors joined stations c.in_ok-actors.ensures c.in_ok-lay_stations.ensures.laid in
    let readied : AreReadied some joined ready = subst (λ (xs : List ClockActor). AreReadied some xs ready) are c.in_ok-make_all_ready.ensures in
    let now = c.as_slice.ensures.value ∙ readied_are some (with_items c.in_ok-actors.actors joined) c.as_mut_slice-2.result.now ready c.in_ok-make_all_ready.ensures c.as_mut_slice-2.ensures.len in
    subst (λ (xs : List ClockStation). (i : ℕ) (x : ClockStation) → slice_get xs i ≡ Some x → CanGain c.as_slice.result.now x) (sym c.as_mut_slice-3.ensures.value)
    (subst (λ (xs : List ClockActor). (i : ℕ) (x : ClockStation) → slice_get stations i ≡ Some x → CanGain xs x) (sym now)
    (can_gain c.runs_go_by_rules.ensures s p c.requires.system c.requires.fits some joined ready stations c.in_ok-lay_stations.ensures.laid readied))

pub returns : goal.returns
returns c =
    let s = c.args.system.now in
    let p = c.args.placement.now in
    let rows = c.args.rows in
    let first = lent c.args.first in
    let some = nat_lt 0 rows in
    let joined = c.lay_stations.new.actors in
    let ready = c.make_all_ready.new.actors in
    let stations = c.lay_stations.new.stations.items in
    let begun = c.begin_all.new.stations in
    let new : AreNew s rows first joined = c.in_ok-lay_stations.ensures.new rows first (subst (λ (xs : List ClockActor). AreNew s rows first xs) (sym c.as_mut_slice.ensures.value) c.in_ok-actors.ensures.new) in
    let are = c.as_mut_slice-2.ensures.value ∙ joined_are s p rows first c.in_ok-actors.actors joined stations c.in_ok-actors.ensures c.in_ok-lay_stations.ensures.laid in
    let readied : AreReadied some joined ready = subst (λ (xs : List ClockActor). AreReadied some xs ready) are c.in_ok-make_all_ready.ensures in
    let ready_are = readied_are some (with_items c.in_ok-actors.actors joined) c.as_mut_slice-2.result.now ready c.in_ok-make_all_ready.ensures c.as_mut_slice-2.ensures.len in
    let now = c.as_slice.ensures.value ∙ ready_are in
    let begins : AllBegin some (length s.nodes) ready stations begun =
    subst (λ (n : ℕ). AllBegin some n ready stations begun) c.len-nodes.ensures
    (subst (λ (xs : List ClockStation). AllBegin some c.len-nodes.result ready xs begun) c.as_mut_slice-3.ensures.value
    (subst (λ (xs : List ClockActor). AllBegin some c.len-nodes.result xs c.as_mut_slice-3.result.now begun) now c.begin_all.ensures)) in
    let is : IsBuilt s p rows first ready begun = built s p rows first joined ready stations begun c.in_ok-lay_stations.ensures.laid new readied begins in
    let begun_are = with_items_is c.lay_stations.new.stations begun (c.begin_all.ensures.many ∙ c.as_mut_slice-3.ensures.len) in
    λ l so.
    let many : length l.setup.input ≡ rows = so.many in
    let nodes : c.len-nodes.result ≡ length s.nodes = c.len-nodes.ensures in
    let own : length s.nodes ≡ length l.setup.system.nodes = ap (λ (x : System). length x.nodes) (sym so.of) in
    let same_rows : rows ≡ length l.setup.input = sym many in
    let sunk : c.len-nodes.result - 1 ≡ sink l = omega arith in
    let given : c.min.result ≡ min 1 (length l.setup.input) = omega (arith, c.min.ensures) in
    starts c.runs_go_by_rules.ensures l so.rules ready begun (built_of_life l s p rows first ready begun so is) _ (min 1 rows) ready_are begun_are same_rows given sunk (ap (min 1) same_rows)
