-- What the calls on a flat run answer.
use Rattle.std.proofs.Common.{◌≡◌, ◌↔◌, ℕ, ◌+◌, ◌-◌, ◌<◌, ◌≤◌, ◌==◌, Bool, true, false, cond, ltb, nat_lt, List, length, refl, sym, ◌∙◌, ap, subst, arith, lt-ltb, le-ltb, inl, inr}
use Rattle.std.specs.Prelude.{Some, None, slice_get}
use Rattle.std.proofs.lemmas.Bool.{ltb-true, cases_lt}
use Rattle.lid_base.proofs.Places.{item_at}
use Rattle.lid_base.specs.declared.runs.Shown.{Shown}
use Rattle.lid_stations.specs.Stations.{capacity}
use Rattle.lid_shell_laws.specs.Views.{shown_as}
use Rattle.lid_clock.specs.declared.actor.ClockActor.{ClockActor}
use Rattle.lid_clock.specs.Parts.{row_of}
use Rattle.lid_clock.specs.Lives.{Life, NeedsRow, IsBelow, IsLast, fired_after, sink}
use Rattle.lid_clock.specs.States.{token_of_life, put_after, taken_after}
use Rattle.lid_clock.proofs.Told.{last_by}
use Rattle.lid_clock_flat.specs.declared.station.FlatStation.{FlatStation}
use Rattle.lid_clock_flat.specs.declared.mover.FlatMover.{FlatMover}
use Rattle.lid_clock_flat.specs.declared.run.FlatRun.{FlatRun}
use Rattle.lid_clock_flat.specs.Rings.{token_on}
use Rattle.lid_clock_flat.specs.Flats.{IsFlatAt}
use Rattle.lid_clock_flat.specs.Runs.{FlatRan}
use Rattle.lid_clock_flat.proofs.Firing.{oldest_is}

module _ (l : Life) (k g : ℕ) (x : FlatRun) (ran : FlatRan l k g x) where
  -- how often a node of a run has fired
  pub node_fired_is : (v : ℕ) (a : ClockActor) → slice_get x.nodes.items v ≡ Some a → a.fired ≡ fired_after l k v
  node_fired_is v a at = (ran.all_nodes.each v a at).fired_is

  -- and a mover
  pub mover_fired_is : (v n : ℕ) (m : FlatMover) → n ≡ length x.nodes.items → n ≤ v → slice_get x.movers.items (v - n) ≡ Some m → m.fired ≡ fired_after l k v
  mover_fired_is v n m is past at =
      let number : length l.setup.system.nodes + (v - n) ≡ v = omega (arith, ran.all_nodes.many) in
      (ran.all_movers.each (v - n) m at).fired_is ∙ ap (fired_after l k) number

  -- the source and the sink
  pub source_at : (a : ClockActor) × (slice_get x.nodes.items 0 ≡ Some a)
  source_at = let least = ran.rules.system.least in item_at x.nodes.items 0 (omega (arith, ran.all_nodes.many))

  pub last_node : length x.nodes.items - 1 ≡ sink l
  last_node = ap (λ (n : ℕ). n - 1) ran.all_nodes.many

  -- whether the sink is below the number of rows
  pub below_is : (a : ClockActor) → slice_get x.nodes.items (length x.nodes.items - 1) ≡ Some a → (ltb a.fired x.rows ≡ true) ↔ IsBelow l k
  below_is a at =
      let is : a.fired ≡ fired_after l k (sink l) = node_fired_is (length x.nodes.items - 1) a at ∙ ap (fired_after l k) last_node in
      let rows : x.rows ≡ length l.setup.input = ran.rows_are in
      ((λ yes_below. let low = ltb-true a.fired x.rows yes_below in omega arith), λ low. lt-ltb a.fired x.rows (omega arith))

  -- whether the source needs a row
  pub needs_is : (a : ClockActor) (b : Bool) → slice_get x.nodes.items 0 ≡ Some a
      → (b ≡ true → (x.given ≡ a.fired + 1) × (x.given < x.rows)) → (x.given ≡ a.fired + 1 → x.given < x.rows → b ≡ true) → (b ≡ true) ↔ NeedsRow l k g
  needs_is a b at is_so so =
      let is : a.fired ≡ fired_after l k 0 = node_fired_is 0 a at in
      let rows : x.rows ≡ length l.setup.input = ran.rows_are in
      let given : x.given ≡ g = ran.given_is in (
        (λ e. let lacks = (is_so e).0 in let more = (is_so e).1 in record { goes_on = omega arith; lacks = omega arith }),
        λ needs. let more : fired_after l k 0 + 1 < length l.setup.input = needs.goes_on in let lacks : g ≡ fired_after l k 0 + 1 = needs.lacks in so (omega arith) (omega arith),
      )

  -- the row of the last cycle
  pub last_is : (a : ClockActor) → slice_get x.nodes.items (length x.nodes.items - 1) ≡ Some a → IsLast l k (cond a.went (row_of a.part) None)
  last_is a at = last_by l k a a.went refl (ran.latest a (subst (λ (v : ℕ). slice_get x.nodes.items v ≡ Some a) last_node at))

-- whether a row is wanting depends on the run alone
pub needs_too : (l m : Life) (k g j h : ℕ) (x : FlatRun) → FlatRan l k g x → FlatRan m j h x → NeedsRow l k g → NeedsRow m j h
needs_too l m k g j h x ran too needs =
    let source = source_at l k g x ran in
    let one : source.0.fired ≡ fired_after l k 0 = node_fired_is l k g x ran 0 source.0 source.1 in
    let other : source.0.fired ≡ fired_after m j 0 = node_fired_is m j h x too 0 source.0 source.1 in
    let given : x.given ≡ g = ran.given_is in
    let as_given : x.given ≡ h = too.given_is in
    let rows : x.rows ≡ length l.setup.input = ran.rows_are in
    let as_many : x.rows ≡ length m.setup.input = too.rows_are in
    let more : fired_after l k 0 + 1 < length l.setup.input = needs.goes_on in
    let lacks : g ≡ fired_after l k 0 + 1 = needs.lacks in
    record { goes_on = omega arith; lacks = omega arith }

-- what is shown of a station that holds a token or none, so many of so many
abbrev shown_so : Bool → ℕ → ℕ → ℕ → Shown
shown_so b many cap token = record { valid = b; stop = many == cap; token = cond b token 0 }

shown_alike : (b : Bool) (many cap m n : ℕ) → (b ≡ true → m ≡ n) → shown_so b many cap m ≡ shown_so b many cap n
shown_alike true many cap m n same = ap (shown_so true many cap) (same refl)
shown_alike false many cap m n same = refl

some_held : (taken held : ℕ) → nat_lt 0 held ≡ nat_lt taken (taken + held)
some_held taken held = elim (cases_lt 0 held) [
  | inl some ↦ lt-ltb 0 held some ∙ sym (lt-ltb taken (taken + held) (omega arith))
  | inr none ↦ le-ltb 0 held none ∙ sym (le-ltb taken (taken + held) (omega arith))
]

-- what a station of a life shows
pub shown_is : (l : Life) (k s : ℕ) (places : List ℕ) (x : FlatStation) → IsFlatAt l k s places x
    → shown_as x.cap x.held 0 (token_on places x) ≡ shown_as (capacity l.setup.placement s) (put_after l k s) (taken_after l k s) (token_of_life l s)
shown_is l k s places x is =
    let holds : put_after l k s ≡ taken_after l k s + x.held = is.holds in
    let valid : nat_lt 0 x.held ≡ nat_lt (taken_after l k s) (put_after l k s) = some_held (taken_after l k s) x.held ∙ ap (nat_lt (taken_after l k s)) (sym holds) in
    let many : x.held - 0 ≡ put_after l k s - taken_after l k s = omega arith in
    shown_alike (nat_lt 0 x.held) (x.held - 0) x.cap (token_on places x 0) (token_of_life l s (taken_after l k s)) (λ e. oldest_is l k s places x is (ltb-true 0 x.held e))
    ∙ ap (λ (b : Bool). shown_so b (x.held - 0) x.cap (token_of_life l s (taken_after l k s))) valid
    ∙ ap (λ (n : ℕ). shown_so (nat_lt (taken_after l k s) (put_after l k s)) n x.cap (token_of_life l s (taken_after l k s))) many
    ∙ ap (λ (n : ℕ). shown_so (nat_lt (taken_after l k s) (put_after l k s)) (put_after l k s - taken_after l k s) n (token_of_life l s (taken_after l k s))) is.size
