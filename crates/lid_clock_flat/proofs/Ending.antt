-- Stations settle at the ends of one actor after the other, and who stands at their other ends wakes.
use Rattle.std.proofs.Common.{◌≡◌, ◌≢◌, ℕ, ◌+◌, ◌<◌, ◌≤◌, inl, inr, Bool, true, false, cond, not, nat_lt, lt-ltb, le-ltb, List, [], ◌∷◌, length, get_or, set, refl, sym, ◌∙◌, ap, subst, arith, length-set}
use Rattle.std.specs.Prelude.{Some, slice_get}
use Rattle.std.proofs.Math.ListN.{get_or-eq_default}
use Rattle.std.proofs.lemmas.Bool.{cases_lt}
use Rattle.std.proofs.lemmas.List.{get_or-set_same, get_or-set_other}
use Rattle.std.proofs.lemmas.Option.{same_Some, slice_get_within, get_or_from_slice_get}
use Rattle.lid_base.proofs.Places.{item_at, item_read, set_here, set_there}
use Rattle.lid_stations.specs.Placements.{links_of}
use Rattle.lid_stations.specs.Stations.{filler, drainer}
use Rattle.lid_shell_laws.proofs.Ends.{drained_is, filled_is, drained_there, filled_there, drained_place, filled_place}
use Rattle.lid_clock.specs.Rules.{RunsGoByRules}
use Rattle.lid_clock.specs.Lives.{Life}
use Rattle.lid_clock.specs.States.{ins_of, outs_of, actors_of, stations_of}
use Rattle.lid_clock.proofs.Bars.{stands, reads_own}
use Rattle.lid_clock.specs.declared.actor.ClockActor.{ClockActor}
use Rattle.lid_clock_flat.specs.declared.mover.FlatMover.{FlatMover}
use Rattle.lid_clock_flat.specs.declared.station.FlatStation.{FlatStation}
use Rattle.lid_clock_flat.specs.declared.run.FlatRun.{FlatRun}
use Rattle.lid_clock_flat.specs.Rings.{around, StationSettles}
use Rattle.lid_clock_flat.specs.Reads.{AreThere, AreReadOnce, IsReadAt, AllAre, CanSettle}
use Rattle.lid_clock_flat.specs.Flats.{HaveDecided}
use Rattle.lid_clock_flat.specs.Wakings.{DecidedTo}
use Rattle.lid_clock_flat.specs.Ends.{other_end, CanSettleEnd, AreEndsAmong, EndSettles, EndsSettle, fired_before, SettlesTo, WakesTo, KeepsActors, SettledTo, HasFired}
use Rattle.lid_clock_flat.proofs.Settled.{can_settle}
use mathlib.Core.Logic.{dite}
use native.Mathlib.Decide.{ℕ_discrete}
use borrow.Author.Clash.{clash}

-- a flag that is set has a place, and stays set where another is
flag_within : (xs : List Bool) (v : ℕ) → get_or xs v false ≡ true → v < length xs
flag_within xs v on = elim (cases_lt v (length xs)) [
  | inl less ↦ less
  | inr past ↦ clash (get_or xs v false) on (get_or-eq_default xs false past)
]

set_grows : (xs : List Bool) (e v : ℕ) → get_or xs v false ≡ true → get_or (set xs e true) v false ≡ true
set_grows xs e v on =
    dite (ℕ_discrete v e)
    (λ same. subst (λ (u : ℕ). get_or (set xs u true) v false ≡ true) same (get_or-set_same xs v true false (flag_within xs v on)))
    (λ other. get_or-set_other xs e v true false other ∙ on)

-- before the first end
pub ends_none : (reads : List ℕ) (loses : Bool) (stations : List FlatStation) (awake : List Bool) → EndsSettle reads loses 0 stations stations awake awake
ends_none reads loses stations awake = record {
  many = refl;
  long = refl;
  each = λ j less x y old new. absurd (omega arith);
  kept = λ s none. refl;
  ends = λ s x y at there. let same : x ≡ y = same_Some x y (sym at ∙ there) in (sym (ap (λ (b : FlatStation). b.filler) same), sym (ap (λ (b : FlatStation). b.drainer) same));
  woken = λ j less x at. absurd (omega arith);
  grows = λ v on. on;
}

-- one more
module _ (reads : List ℕ) (loses : Bool) (i : ℕ) (old now new : List FlatStation) (was woke is : List Bool) (within : i < length reads) (once : AreReadOnce reads) (so : EndsSettle reads loses i old now was woke)
    (one : EndSettles (get_or reads i 0) loses now new woke is) (among : AreEndsAmong (length was) old) where
  abbrev t : ℕ
  t = get_or reads i 0

  first : (j : ℕ) → j < i → get_or reads j 0 ≢ t
  first j less same = let e : j ≡ i = once j i (omega arith) within same in omega arith

  same_at : slice_get now t ≡ slice_get old t
  same_at = so.kept t first

  before_is : (x : FlatStation) → slice_get old t ≡ Some x → one.before ≡ x
  before_is x at = same_Some one.before x (sym one.there ∙ same_at ∙ at)

  after_is : (y : FlatStation) → slice_get new t ≡ Some y → one.after ≡ y
  after_is y at = set_here now t one.after y (subst (λ (xs : List FlatStation). slice_get xs t ≡ Some y) one.stations at)

  left_at : (s : ℕ) → s ≢ t → slice_get new s ≡ slice_get now s
  left_at s other = ap (λ (xs : List FlatStation). slice_get xs s) one.stations ∙ set_there now t s one.after other

  end_there : (x : FlatStation) → slice_get old t ≡ Some x → other_end loses x < length woke
  end_there x at = by loses where
    by : (b : Bool) → other_end b x < length woke
    by true = omega (arith, (among t x at).0, so.long)
    by false = omega (arith, (among t x at).1, so.long)

  grown : (v : ℕ) → get_or woke v false ≡ true → get_or is v false ≡ true
  grown v on = subst (λ (xs : List Bool). get_or xs v false ≡ true) (sym one.awake) (set_grows woke (other_end loses one.before) v on)

  pub ends_next : EndsSettle reads loses (i + 1) old new was is
  ends_next = record {
    many = ap length one.stations ∙ length-set now t one.after ∙ so.many;
    long = ap length one.awake ∙ length-set woke (other_end loses one.before) true ∙ so.long;
    each = λ j less x y at there.
        dite (ℕ_discrete j i)
        (λ here.
        let x_at : slice_get old t ≡ Some x = subst (λ (n : ℕ). IsReadAt reads old n x) here at in
        let y_at : slice_get new t ≡ Some y = subst (λ (n : ℕ). IsReadAt reads new n y) here there in
        subst (λ (b : FlatStation). StationSettles b (not loses) loses y) (before_is x x_at) (subst (StationSettles one.before (not loses) loses) (after_is y y_at) one.settled))
        (λ other. so.each j (omega arith) x y at (sym (left_at (get_or reads j 0) (first j (omega arith))) ∙ there));
    kept = λ s none. left_at s (λ same. none i (omega arith) (sym same)) ∙ so.kept s (λ j less. none j (omega arith));
    ends = λ s x y at there.
        dite (ℕ_discrete s t)
        (λ here.
        let was : one.before ≡ x = before_is x (subst (λ (n : ℕ). slice_get old n ≡ Some x) here at) in
        let is : one.after ≡ y = after_is y (subst (λ (n : ℕ). slice_get new n ≡ Some y) here there) in (
          ap (λ (b : FlatStation). b.filler) (sym is) ∙ one.settled.filler ∙ ap (λ (b : FlatStation). b.filler) was,
          ap (λ (b : FlatStation). b.drainer) (sym is) ∙ one.settled.drainer ∙ ap (λ (b : FlatStation). b.drainer) was,
        ))
        (λ other. so.ends s x y at (sym (left_at s other) ∙ there));
    woken = λ j less x at.
        dite (ℕ_discrete j i)
        (λ here.
        let x_at : slice_get old t ≡ Some x = subst (λ (n : ℕ). IsReadAt reads old n x) here at in
        subst (λ (xs : List Bool). get_or xs (other_end loses x) false ≡ true) (sym one.awake)
        (subst (λ (b : FlatStation). get_or (set woke (other_end loses b) true) (other_end loses x) false ≡ true) (sym (before_is x x_at))
        (get_or-set_same woke (other_end loses x) true false (end_there x x_at))))
        (λ other. grown (other_end loses x) (so.woken j (omega arith) x at));
    grows = λ v on. grown v (so.grows v on);
  }

-- the ends of the stations are still among the actors, and the next one can settle
pub among_still : (reads : List ℕ) (loses : Bool) (i : ℕ) (old now : List FlatStation) (was woke : List Bool) → EndsSettle reads loses i old now was woke → AreEndsAmong (length was) old → AreEndsAmong (length woke) now
among_still reads loses i old now was woke so among s y at =
    let low = slice_get_within now s y at in
    let x = item_at old s (omega (arith, so.many)) in
    let own = among s x.0 x.1 in
    let same = so.ends s x.0 y x.1 at in
    (omega (arith, own.0, same.0, so.long), omega (arith, own.1, same.1, so.long))

pub can_next : (reads : List ℕ) (loses : Bool) (i : ℕ) (old now : List FlatStation) (was woke : List Bool) → EndsSettle reads loses i old now was woke → i < length reads → AreReadOnce reads → AllAre (CanSettleEnd loses) reads old
    → (y : FlatStation) → slice_get now (get_or reads i 0) ≡ Some y → CanSettleEnd loses y
can_next reads loses i old now was woke so within once can y at =
    can i within y (sym (so.kept (get_or reads i 0) (λ j less same. let e : j ≡ i = once j i (omega arith) within same in omega arith)) ∙ at)

-- a station alone
pub end_alone : (s : ℕ) (loses : Bool) (old new : List FlatStation) (was is : List Bool) → EndSettles s loses old new was is → AreEndsAmong (length was) old → EndsSettle (s ∷ []) loses 1 old new was is
end_alone s loses old new was is one among =
    ends_next (s ∷ []) loses 0 old old new was was is (omega arith) (λ i j less low same. omega arith) (ends_none (s ∷ []) loses old was) one among

-- a station that settles at one end, and then at the other
lose_after : (x y z : FlatStation) (gains : Bool) → StationSettles x gains false y → StationSettles y (not true) true z → StationSettles x gains true z
lose_after x y z gains one two = record {
  filler = two.filler ∙ one.filler;
  drainer = two.drainer ∙ one.drainer;
  base = two.base ∙ one.base;
  cap = two.cap ∙ one.cap;
  head =
      let first : y.head ≡ x.head = one.head in
      let next : z.head ≡ around (y.head + 1) y.cap = two.head in
      next ∙ ap (λ (n : ℕ). around (n + 1) y.cap) first ∙ ap (around (x.head + 1)) one.cap;
  many =
      let first : y.held + 0 ≡ x.held + cond gains 1 0 = one.many in
      let next : z.held + 1 ≡ y.held + 0 = two.many in
      next ∙ first;
}

gain_after : (x y z : FlatStation) (loses : Bool) → StationSettles x false loses y → StationSettles y (not false) false z → StationSettles x true loses z
gain_after x y z loses one two = record {
  filler = two.filler ∙ one.filler;
  drainer = two.drainer ∙ one.drainer;
  base = two.base ∙ one.base;
  cap = two.cap ∙ one.cap;
  head = let next : z.head ≡ y.head = two.head in next ∙ one.head;
  many =
      let first : y.held + cond loses 1 0 ≡ x.held + 0 = one.many in
      let next : z.held + 0 ≡ y.held + 1 = two.many in
      omega arith;
}

pub unsettled : (x : FlatStation) → StationSettles x false false x
unsettled x = record { filler = refl; drainer = refl; base = refl; cap = refl; head = refl; many = refl }

-- who is before the next actor and fired
before_here : (went : List Bool) (n : ℕ) → fired_before went n n ≡ false
before_here went n = ap (λ (b : Bool). cond b (get_or went n false) false) (le-ltb n n (omega arith))

before_next : (went : List Bool) (n : ℕ) → fired_before went (n + 1) n ≡ get_or went n false
before_next went n = ap (λ (b : Bool). cond b (get_or went n false) false) (lt-ltb n (n + 1) (omega arith))

pub before_by : (went : List Bool) (n v : ℕ) (b : Bool) → nat_lt v n ≡ b → fired_before went n v ≡ cond b (get_or went v false) false
before_by went n v b e = ap (λ (c : Bool). cond c (get_or went v false) false) e

before_other : (went : List Bool) (n v : ℕ) → v ≢ n → fired_before went (n + 1) v ≡ fired_before went n v
before_other went n v other = elim (cases_lt v n) [
  | inl less ↦ before_by went (n + 1) v true (lt-ltb v (n + 1) (omega arith)) ∙ sym (before_by went n v true (lt-ltb v n less))
  | inr past ↦ before_by went (n + 1) v false (le-ltb v (n + 1) (omega arith)) ∙ sym (before_by went n v false (le-ltb v n past))
]

-- an actor of a run in which all have decided, that fired
module _ (r : RunsGoByRules) (l : Life) (k g : ℕ) (x : FlatRun) (all : DecidedTo l k g (actors_of l) x) (n : ℕ) (y : FlatRun) (to : SettledTo n x y) (fired : HasFired n x) (ins outs : List ℕ) (drains : ins ≡ ins_of l n) (fills : outs ≡ outs_of l n) where
  have : HaveDecided l k (actors_of l) x.stations x.went.items
  have = all.done

  own_went : get_or x.went.items n false ≡ true
  own_went = get_or_from_slice_get x.went.items n true false fired

  was_at : (s : ℕ) (b : FlatStation) → slice_get y.stations.all.items s ≡ Some b → (a : FlatStation) × (slice_get x.stations.all.items s ≡ Some a)
  was_at s b at = let low = slice_get_within y.stations.all.items s b at in item_at x.stations.all.items s (omega (arith, to.settles.many))

  can : (s : ℕ) (a : FlatStation) → slice_get x.stations.all.items s ≡ Some a → CanSettle x.went.items a
  can s a at = can_settle r l k x.stations x.went.items all.begins.rules have s a at

  -- the ends of all stations are among the actors
  pub among : AreEndsAmong (length y.awake.items) y.stations.all.items
  among s b at =
      let a = was_at s b at in
      let own = can s a.0 a.1 in
      let so = to.settles.each s a.0 b a.1 at in (
        omega (arith, so.filler, own.filled, have.many, all.asleep.many, to.wakes.long),
        omega (arith, so.drainer, own.drained, have.many, all.asleep.many, to.wakes.long),
      )

  in_is : (i : ℕ) → i < length ins → slice_get (ins_of l n) i ≡ Some (get_or ins i 0)
  in_is i within = reads_own ins (ins_of l n) i drains within

  out_is : (i : ℕ) → i < length outs → slice_get (outs_of l n) i ≡ Some (get_or outs i 0)
  out_is i within = reads_own outs (outs_of l n) i fills within

  in_own : (i : ℕ) → i < length ins → (get_or ins i 0 < stations_of l) × (drainer (links_of l.setup.system) l.setup.placement (get_or ins i 0) ≡ n)
  in_own i within = drained_is (links_of l.setup.system) l.setup.placement n i (get_or ins i 0) (in_is i within)

  out_own : (i : ℕ) → i < length outs → (get_or outs i 0 < stations_of l) × (filler (links_of l.setup.system) l.setup.placement (get_or outs i 0) ≡ n)
  out_own i within = filled_is (links_of l.setup.system) l.setup.placement n i (get_or outs i 0) (out_is i within)

  -- the stations that it drains and fills exist, and none is read twice
  pub ins_there : AreThere ins y.stations.all.items
  ins_there i within = omega (arith, (in_own i within).0, have.flat.many, to.settles.many)

  pub outs_there : (news : List FlatStation) → length news ≡ length y.stations.all.items → AreThere outs news
  outs_there news many i within = omega (arith, (out_own i within).0, have.flat.many, to.settles.many)

  pub ins_once : AreReadOnce ins
  ins_once i j less low same =
      sym (drained_place (links_of l.setup.system) l.setup.placement n i (get_or ins i 0) (in_is i less))
      ∙ drained_place (links_of l.setup.system) l.setup.placement n j (get_or ins i 0) (subst (λ (m : ℕ). slice_get (ins_of l n) j ≡ Some m) (sym same) (in_is j low))

  pub outs_once : AreReadOnce outs
  outs_once i j less low same =
      sym (filled_place (links_of l.setup.system) l.setup.placement n i (get_or outs i 0) (out_is i less))
      ∙ filled_place (links_of l.setup.system) l.setup.placement n j (get_or outs i 0) (subst (λ (m : ℕ). slice_get (outs_of l n) j ≡ Some m) (sym same) (out_is j low))

  drained_here : (s : ℕ) (a : FlatStation) → slice_get x.stations.all.items s ≡ Some a → a.drainer ≡ drainer (links_of l.setup.system) l.setup.placement s
  drained_here s a at = (have.flat.each s a at).drained

  filled_here : (s : ℕ) (a : FlatStation) → slice_get x.stations.all.items s ≡ Some a → a.filler ≡ filler (links_of l.setup.system) l.setup.placement s
  filled_here s a at = (have.flat.each s a at).filled

  there_at : (s : ℕ) (a : FlatStation) → slice_get x.stations.all.items s ≡ Some a → s < stations_of l
  there_at s a at = let low = slice_get_within x.stations.all.items s a at in omega (arith, have.flat.many)

  -- where it stands among those of the actor
  in_place : (s : ℕ) (a : FlatStation) → slice_get x.stations.all.items s ≡ Some a → a.drainer ≡ n → (j : ℕ) × (j < length ins) × (get_or ins j 0 ≡ s)
  in_place s a at own =
      let place = drained_there (links_of l.setup.system) l.setup.placement n s (there_at s a at) (sym (drained_here s a at) ∙ own) in
      let read = stands ins (ins_of l n) place.0 s drains place.1 in
      (place.0, read.0, read.1)

  out_place : (s : ℕ) (a : FlatStation) → slice_get x.stations.all.items s ≡ Some a → a.filler ≡ n → (j : ℕ) × (j < length outs) × (get_or outs j 0 ≡ s)
  out_place s a at own =
      let place = filled_there (links_of l.setup.system) l.setup.placement n s (there_at s a at) (sym (filled_here s a at) ∙ own) in
      let read = stands outs (outs_of l n) place.0 s fills place.1 in
      (place.0, read.0, read.1)

  -- each station that it drains can lose a token
  pub ins_can : AllAre (CanSettleEnd true) ins y.stations.all.items
  ins_can i within b at =
      let s : ℕ = get_or ins i 0 in
      let a = was_at s b at in
      let own : (a.0).drainer ≡ n = drained_here s a.0 a.1 ∙ (in_own i within).1 in
      let some : 0 < (a.0).held = (can s a.0 a.1).some (ap (λ (v : ℕ). get_or x.went.items v false) own ∙ own_went) in
      let so = to.settles.each s a.0 b a.1 at in
      let off : fired_before x.went.items n (a.0).drainer ≡ false = ap (fired_before x.went.items n) own ∙ before_here x.went.items n in
      let none : cond {A = ℕ} (fired_before x.went.items n (a.0).drainer) 1 0 ≡ 0 = ap (λ (b : Bool). cond {A = ℕ} b 1 0) off in
      let many : b.held + cond (fired_before x.went.items n (a.0).drainer) 1 0 ≡ (a.0).held + cond (fired_before x.went.items n (a.0).filler) 1 0 = so.many in
      ((λ _. omega arith), λ e. clash true refl e)

  module _ (mid news : List FlatStation) (wakes is : List Bool) (lost : EndsSettle ins true (length ins) y.stations.all.items mid y.awake.items wakes) where
    -- what the stations have become that it drains, and the others
    mid_is : (s : ℕ) (a b : FlatStation) → slice_get x.stations.all.items s ≡ Some a → slice_get mid s ≡ Some b → StationSettles a (fired_before x.went.items n a.filler) (fired_before x.went.items (n + 1) a.drainer) b
    mid_is s a b at there =
        let low = slice_get_within mid s b there in
        let c = item_at y.stations.all.items s (omega (arith, lost.many)) in
        let so = to.settles.each s a c.0 at c.1 in
        dite (ℕ_discrete a.drainer n)
        (λ own.
        let place = in_place s a at own in
        let read : IsReadAt ins y.stations.all.items place.0 c.0 = ap (slice_get y.stations.all.items) place.2 ∙ c.1 in
        let done = lost.each place.0 place.1 c.0 b read (ap (slice_get mid) place.2 ∙ there) in
        let off : fired_before x.went.items n a.drainer ≡ false = ap (fired_before x.went.items n) own ∙ before_here x.went.items n in
        let on : fired_before x.went.items (n + 1) a.drainer ≡ true = ap (fired_before x.went.items (n + 1)) own ∙ before_next x.went.items n ∙ own_went in
        subst (λ (w : Bool). StationSettles a (fired_before x.went.items n a.filler) w b) (sym on)
        (lose_after a c.0 b (fired_before x.went.items n a.filler) (subst (λ (w : Bool). StationSettles a (fired_before x.went.items n a.filler) w c.0) off so) done))
        (λ other.
        let same : slice_get mid s ≡ slice_get y.stations.all.items s = lost.kept s (λ j less e. other (drained_here s a at ∙ ap (drainer (links_of l.setup.system) l.setup.placement) (sym e) ∙ (in_own j less).1)) in
        let is_c : c.0 ≡ b = same_Some c.0 b (sym c.1 ∙ sym same ∙ there) in
        subst (StationSettles a (fired_before x.went.items n a.filler) (fired_before x.went.items (n + 1) a.drainer)) is_c
        (subst (λ (w : Bool). StationSettles a (fired_before x.went.items n a.filler) w c.0) (sym (before_other x.went.items n a.drainer other)) so))

    mid_was : (s : ℕ) (b : FlatStation) → slice_get mid s ≡ Some b → (a : FlatStation) × (slice_get x.stations.all.items s ≡ Some a)
    mid_was s b at = let low = slice_get_within mid s b at in item_at x.stations.all.items s (omega (arith, to.settles.many, lost.many))

    pub mid_among : AreEndsAmong (length wakes) mid
    mid_among s b at =
        let a = mid_was s b at in
        let own = can s a.0 a.1 in
        let so = mid_is s a.0 b a.1 at in (
          omega (arith, so.filler, own.filled, have.many, all.asleep.many, to.wakes.long, lost.long),
          omega (arith, so.drainer, own.drained, have.many, all.asleep.many, to.wakes.long, lost.long),
        )

    -- each station that it fills can gain one
    pub outs_can : AllAre (CanSettleEnd false) outs mid
    outs_can i within b at =
        let s : ℕ = get_or outs i 0 in
        let a = mid_was s b at in
        let own : (a.0).filler ≡ n = filled_here s a.0 a.1 ∙ (out_own i within).1 in
        let room : (a.0).held < (a.0).cap = (can s a.0 a.1).room (ap (λ (v : ℕ). get_or x.went.items v false) own ∙ own_went) in
        let so = mid_is s a.0 b a.1 at in
        let off : fired_before x.went.items n (a.0).filler ≡ false = ap (fired_before x.went.items n) own ∙ before_here x.went.items n in
        let none : cond {A = ℕ} (fired_before x.went.items n (a.0).filler) 1 0 ≡ 0 = ap (λ (b : Bool). cond {A = ℕ} b 1 0) off in
        let many : b.held + cond (fired_before x.went.items (n + 1) (a.0).drainer) 1 0 ≡ (a.0).held + cond (fired_before x.went.items n (a.0).filler) 1 0 = so.many in
        ((λ e. clash false e refl), λ _. omega (arith, room, so.cap))

    module _ (gained : EndsSettle outs false (length outs) mid news wakes is) where
      new_is : (s : ℕ) (a b : FlatStation) → slice_get x.stations.all.items s ≡ Some a → slice_get news s ≡ Some b
          → StationSettles a (fired_before x.went.items (n + 1) a.filler) (fired_before x.went.items (n + 1) a.drainer) b
      new_is s a b at there =
          let low = slice_get_within news s b there in
          let c = item_at mid s (omega (arith, gained.many)) in
          let so = mid_is s a c.0 at c.1 in
          dite (ℕ_discrete a.filler n)
          (λ own.
          let place = out_place s a at own in
          let read : IsReadAt outs mid place.0 c.0 = ap (slice_get mid) place.2 ∙ c.1 in
          let done = gained.each place.0 place.1 c.0 b read (ap (slice_get news) place.2 ∙ there) in
          let off : fired_before x.went.items n a.filler ≡ false = ap (fired_before x.went.items n) own ∙ before_here x.went.items n in
          let on : fired_before x.went.items (n + 1) a.filler ≡ true = ap (fired_before x.went.items (n + 1)) own ∙ before_next x.went.items n ∙ own_went in
          subst (λ (w : Bool). StationSettles a w (fired_before x.went.items (n + 1) a.drainer) b) (sym on)
          (gain_after a c.0 b (fired_before x.went.items (n + 1) a.drainer) (subst (λ (w : Bool). StationSettles a w (fired_before x.went.items (n + 1) a.drainer) c.0) off so) done))
          (λ other.
          let same : slice_get news s ≡ slice_get mid s = gained.kept s (λ j less e. other (filled_here s a at ∙ ap (filler (links_of l.setup.system) l.setup.placement) (sym e) ∙ (out_own j less).1)) in
          let is_c : c.0 ≡ b = same_Some c.0 b (sym c.1 ∙ sym same ∙ there) in
          subst (StationSettles a (fired_before x.went.items (n + 1) a.filler) (fired_before x.went.items (n + 1) a.drainer)) is_c
          (subst (λ (w : Bool). StationSettles a w (fired_before x.went.items (n + 1) a.drainer) c.0) (sym (before_other x.went.items n a.filler other)) so))

      -- all stations have settled at the ends of one actor more
      settles_on : SettlesTo x.went.items (n + 1) x.stations.all.items news
      settles_on = record { many = gained.many ∙ lost.many ∙ to.settles.many; each = new_is }

      -- and who shares one with it is awake
      wakes_on : WakesTo x.went.items (n + 1) x.stations.all.items x.awake.items is
      wakes_on = record {
        long = gained.long ∙ lost.long ∙ to.wakes.long;
        fillers = λ s a at on.
            dite (ℕ_discrete a.drainer n)
            (λ own.
            let place = in_place s a at own in
            let low = there_at s a at in
            let c = item_at y.stations.all.items s (omega (arith, to.settles.many, have.flat.many)) in
            let so = to.settles.each s a c.0 at c.1 in
            let woke : get_or wakes (c.0).filler false ≡ true = lost.woken place.0 place.1 c.0 (ap (slice_get y.stations.all.items) place.2 ∙ c.1) in
            gained.grows a.filler (subst (λ (v : ℕ). get_or wakes v false ≡ true) so.filler woke))
            (λ other. gained.grows a.filler (lost.grows a.filler (to.wakes.fillers s a at (sym (before_other x.went.items n a.drainer other) ∙ on))));
        drainers = λ s a at on.
            dite (ℕ_discrete a.filler n)
            (λ own.
            let place = out_place s a at own in
            let low = there_at s a at in
            let c = item_at mid s (omega (arith, lost.many, to.settles.many, have.flat.many)) in
            let so = mid_is s a c.0 at c.1 in
            let woke : get_or is (c.0).drainer false ≡ true = gained.woken place.0 place.1 c.0 (ap (slice_get mid) place.2 ∙ c.1) in
            subst (λ (v : ℕ). get_or is v false ≡ true) so.drainer woke)
            (λ other. gained.grows a.drainer (lost.grows a.drainer (to.wakes.drainers s a at (sym (before_other x.went.items n a.filler other) ∙ on))));
        grows = λ v on. gained.grows v (lost.grows v (to.wakes.grows v on));
      }

      pub settled_next : (z : FlatRun) → KeepsActors y z → z.stations.all.items ≡ news → z.awake.items ≡ is → z.went.items ≡ set y.went.items n false → SettledTo (n + 1) x z
      settled_next z keeps are awake flags = record {
        keeps = record {
          nodes = keeps.nodes ∙ to.keeps.nodes;
          movers = keeps.movers ∙ to.keeps.movers;
          places = keeps.places ∙ to.keeps.places;
          rest = record { rows = keeps.rest.rows ∙ to.keeps.rest.rows; given = keeps.rest.given ∙ to.keeps.rest.given };
        };
        settles = subst (SettlesTo x.went.items (n + 1) x.stations.all.items) (sym are) settles_on;
        wakes = subst (WakesTo x.went.items (n + 1) x.stations.all.items x.awake.items) (sym awake) wakes_on;
        many = ap length flags ∙ length-set y.went.items n false ∙ to.many;
        unset = λ v w less at.
            let here : slice_get (set y.went.items n false) v ≡ Some w = subst (λ (xs : List Bool). slice_get xs v ≡ Some w) flags at in
            dite (ℕ_discrete v n)
            (λ same. sym (set_here y.went.items n false w (subst (λ (u : ℕ). slice_get (set y.went.items n false) u ≡ Some w) same here)))
            (λ other. to.unset v w (omega arith) (sym (set_there y.went.items n v false other) ∙ here));
        left = λ v past. ap (λ (xs : List Bool). slice_get xs v) flags ∙ set_there y.went.items n v false (λ same. omega arith) ∙ to.left v (omega arith);
      }

-- before the first actor
pub none_settled : (x : FlatRun) → SettledTo 0 x x
none_settled x = record {
  keeps = record { nodes = refl; movers = refl; places = refl; rest = record { rows = refl; given = refl } };
  settles = record {
    many = refl;
    each = λ s a b at there.
        let none : (v : ℕ) → fired_before x.went.items 0 v ≡ false = λ v. before_by x.went.items 0 v false (le-ltb v 0 (omega arith)) in
        let same : a ≡ b = same_Some a b (sym at ∙ there) in
        subst (StationSettles a (fired_before x.went.items 0 a.filler) (fired_before x.went.items 0 a.drainer)) same
        (subst (λ (w : Bool). StationSettles a w (fired_before x.went.items 0 a.drainer) a) (sym (none a.filler)) (subst (λ (w : Bool). StationSettles a false w a) (sym (none a.drainer)) (unsettled a)));
  };
  wakes = record {
    long = refl;
    fillers = λ s a at on. clash (fired_before x.went.items 0 a.drainer) on (before_by x.went.items 0 a.drainer false (le-ltb a.drainer 0 (omega arith)));
    drainers = λ s a at on. clash (fired_before x.went.items 0 a.filler) on (before_by x.went.items 0 a.filler false (le-ltb a.filler 0 (omega arith)));
    grows = λ v on. on;
  };
  many = refl;
  unset = λ v w less at. absurd (omega arith);
  left = λ v past. refl;
}

-- actors that did not fire are passed over
module _ (x y : FlatRun) (n m : ℕ) (to : SettledTo n x y) (past : n ≤ m) (rest : (v : ℕ) → n ≤ v → v < m → slice_get y.went.items v ≡ Some false) where
  before_same : (v : ℕ) → fired_before x.went.items m v ≡ fired_before x.went.items n v
  before_same v = elim (cases_lt v n) [
    | inl less ↦ before_by x.went.items m v true (lt-ltb v m (omega arith)) ∙ sym (before_by x.went.items n v true (lt-ltb v n less))
    | inr from ↦ elim (cases_lt v m) [
      | inl less ↦
          before_by x.went.items m v true (lt-ltb v m less) ∙ get_or_from_slice_get x.went.items v false false (sym (to.left v from) ∙ rest v from less) ∙ sym (before_by x.went.items n v false (le-ltb v n from))
      | inr over ↦ before_by x.went.items m v false (le-ltb v m over) ∙ sym (before_by x.went.items n v false (le-ltb v n from))
    ]
  ]

  pub settled_on : SettledTo m x y
  settled_on = record {
    keeps = to.keeps;
    settles = record {
      many = to.settles.many;
      each = λ s a b at there.
          subst (λ (w : Bool). StationSettles a w (fired_before x.went.items m a.drainer) b) (sym (before_same a.filler))
          (subst (λ (w : Bool). StationSettles a (fired_before x.went.items n a.filler) w b) (sym (before_same a.drainer)) (to.settles.each s a b at there));
    };
    wakes = record {
      long = to.wakes.long;
      fillers = λ s a at on. to.wakes.fillers s a at (sym (before_same a.drainer) ∙ on);
      drainers = λ s a at on. to.wakes.drainers s a at (sym (before_same a.filler) ∙ on);
      grows = to.wakes.grows;
    };
    many = to.many;
    unset = λ v w less at. elim (cases_lt v n) [
      | inl before ↦ to.unset v w before at
      | inr from ↦ sym (same_Some false w (sym (rest v from less) ∙ at))
    ];
    left = λ v over. to.left v (omega arith);
  }

-- the stations of a node of such a run, and those of a mover
pub node_ends : (l : Life) (k g : ℕ) (x : FlatRun) → DecidedTo l k g (actors_of l) x → (n : ℕ) (y : FlatRun) → SettledTo n x y → (a : ClockActor) → n < length x.nodes.items → a ≡ get_or y.nodes.items n a
    → (a.ins.items ≡ ins_of l n) × (a.outs.items ≡ outs_of l n)
node_ends l k g x all n y to a within read =
    let same : y.nodes.items ≡ x.nodes.items = ap (λ ns. ns.items) to.keeps.nodes in
    let at : slice_get x.nodes.items n ≡ Some a = item_read x.nodes.items n a within (subst (λ (xs : List ClockActor). a ≡ get_or xs n a) same read) in
    let actor = (all.nodes_done n a (omega (arith, all.nodes, all.movers)) at).actor in
    (actor.drains, actor.fills)

pub mover_ends : (l : Life) (k g : ℕ) (x : FlatRun) → DecidedTo l k g (actors_of l) x → (n j : ℕ) (y : FlatRun) → SettledTo n x y → (m : FlatMover) → n ≡ length x.nodes.items + j → j < length x.movers.items → m ≡ get_or y.movers.items j m
    → (m.station ∷ [] ≡ ins_of l n) × ((m.station + 1) ∷ [] ≡ outs_of l n)
mover_ends l k g x all n j y to m number within read =
    let same : y.movers.items ≡ x.movers.items = ap (λ ms. ms.items) to.keeps.movers in
    let at : slice_get x.movers.items j ≡ Some m = item_read x.movers.items j m within (subst (λ (xs : List FlatMover). m ≡ get_or xs j m) same read) in
    let is = all.movers_done j m (omega (arith, all.movers)) at in
    let own : length l.setup.system.nodes + j ≡ n = omega (arith, all.nodes) in
    (sym is.drains ∙ ap (ins_of l) own, sym is.fills ∙ ap (outs_of l) own)
