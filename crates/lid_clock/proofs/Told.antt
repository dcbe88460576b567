-- What the calls on a run answer.
use Rattle.std.proofs.Common.{◌≡◌, ◌↔◌, ℕ, ◌+◌, ◌-◌, ◌<◌, ◌==◌, Bool, true, false, cond, ltb, nat_lt, length, refl, sym, ◌∙◌, ap, subst, arith, lt-ltb}
use Rattle.std.specs.Prelude.{Some, None, slice_get}
use Rattle.std.proofs.lemmas.Bool.{ltb-true}
use Rattle.lid_base.specs.declared.runs.Shown.{Shown}
use Rattle.lid_stations.specs.Stations.{capacity}
use Rattle.lid_clock.specs.declared.actor.ClockActor.{ClockActor}
use Rattle.lid_clock.specs.declared.station.ClockStation.{ClockStation}
use Rattle.lid_clock.specs.declared.stream.ClockStream.{ClockStream}
use Rattle.lid_clock.specs.Rings.{token_in}
use Rattle.lid_shell_laws.specs.Views.{shown_as}
use Rattle.lid_clock.specs.Parts.{row_of}
use Rattle.lid_clock.specs.Lives.{Life, NeedsRow, IsBelow, IsLast, fired_after, sink}
use Rattle.lid_clock.specs.States.{token_of_life, actors_of, stations_of, IsStation, IsLatest}
use Rattle.lid_clock.specs.Ran.{Ran}

-- the actors of a life are those of its run, and so are the stations
pub actor_there : (l : Life) (k g : ℕ) (x : ClockStream) (v : ℕ) → Ran l k g x → v < actors_of l → v < length x.actors.items
actor_there l k g x v ran there = subst (λ (n : ℕ). v < n) (sym ran.all_actors.many) there

pub station_there : (l : Life) (k g : ℕ) (x : ClockStream) (station : ℕ) → Ran l k g x → station < stations_of l → station < length x.stations.items
station_there l k g x station ran there = subst (λ (n : ℕ). station < n) (sym ran.all_stations.many) there

-- how often an actor of a run has fired
pub fired_is : (l : Life) (k g v : ℕ) (x : ClockStream) (a : ClockActor) → Ran l k g x → slice_get x.actors.items v ≡ Some a → a.fired ≡ fired_after l k v
fired_is l k g v x a ran there = (ran.all_actors.each v a there).fired_is

-- whether the sink is below the number of rows
pub below_is : (l : Life) (k g : ℕ) (x : ClockStream) (a : ClockActor) → Ran l k g x → slice_get x.actors.items x.sink ≡ Some a → (ltb a.fired x.rows ≡ true) ↔ IsBelow l k
below_is l k g x a ran there =
    let is : a.fired ≡ fired_after l k (sink l) = fired_is l k g x.sink x a ran there ∙ ap (fired_after l k) ran.sink_is in
    let rows : x.rows ≡ length l.setup.input = ran.rows_are in
    ((λ yes_below. let low = ltb-true a.fired x.rows yes_below in omega arith), λ low. lt-ltb a.fired x.rows (omega arith))

-- whether the source needs a row
pub needs_is : (l : Life) (k g : ℕ) (x : ClockStream) (a : ClockActor) (b : Bool) → Ran l k g x → slice_get x.actors.items 0 ≡ Some a
    → (b ≡ true → (x.given ≡ a.fired + 1) × (x.given < x.rows)) → (x.given ≡ a.fired + 1 → x.given < x.rows → b ≡ true) → (b ≡ true) ↔ NeedsRow l k g
needs_is l k g x a b ran there is_so so =
    let is : a.fired ≡ fired_after l k 0 = fired_is l k g 0 x a ran there in
    let rows : x.rows ≡ length l.setup.input = ran.rows_are in
    let given : x.given ≡ g = ran.given_is in (
      (λ e. let lacks = (is_so e).0 in let more = (is_so e).1 in record { goes_on = omega arith; lacks = omega arith }),
      λ needs. let more : fired_after l k 0 + 1 < length l.setup.input = needs.goes_on in let lacks : g ≡ fired_after l k 0 + 1 = needs.lacks in so (omega arith) (omega arith),
    )

-- the row of the last cycle
pub last_by : (l : Life) (k : ℕ) (a : ClockActor) (b : Bool) → a.went ≡ b → IsLatest l k a → IsLast l k (cond b (row_of a.part) None)
last_by l k a true went latest =
    record {
      some = λ _. (latest.fired went).1;
      none = λ none. absurd (none (latest.fired went).0);
    }
last_by l k a false went latest =
    record {
      some = λ sunk. absurd (latest.rested went sunk);
      none = λ _. refl;
    }

pub last_is : (l : Life) (k g : ℕ) (x : ClockStream) (a : ClockActor) → Ran l k g x → slice_get x.actors.items x.sink ≡ Some a → IsLast l k (cond a.went (row_of a.part) None)
last_is l k g x a ran there =
    last_by l k a a.went refl (ran.latest a (subst (λ (v : ℕ). slice_get x.actors.items v ≡ Some a) ran.sink_is there))

-- stations that hold the same token show the same
token_by : (b : Bool) (m n : ℕ) → (b ≡ true → m ≡ n) → cond b m 0 ≡ cond b n 0
token_by true m n same = same refl
token_by false m n same = refl

pub same_shown : (cap put taken : ℕ) (f h : ℕ → ℕ) → (taken < put → f taken ≡ h taken) → shown_as cap put taken f ≡ shown_as cap put taken h
same_shown cap put taken f h same =
    ap (λ (n : ℕ). let s : Shown = record { valid = nat_lt taken put; stop = put - taken == cap; token = n } in s)
    (token_by (nat_lt taken put) (f taken) (h taken) (λ some. same (ltb-true taken put some)))

-- what a station of a life shows
pub shown_is : (l : Life) (station put taken : ℕ) (x : ClockStation) → IsStation l station put taken x
    → shown_as (length x.places) x.put x.taken (token_in x.places) ≡ shown_as (capacity l.setup.placement station) put taken (token_of_life l station)
shown_is l station put taken x is =
    ap (λ (n : ℕ). shown_as n x.put x.taken (token_in x.places)) is.size
    ∙ ap (λ (n : ℕ). shown_as (capacity l.setup.placement station) n x.taken (token_in x.places)) is.put_is
    ∙ ap (λ (n : ℕ). shown_as (capacity l.setup.placement station) put n (token_in x.places)) is.taken_is
    ∙ same_shown (capacity l.setup.placement station) put taken (token_in x.places) (token_of_life l station) (λ some. is.tokens taken (omega arith) some)
