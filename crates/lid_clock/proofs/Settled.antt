-- Stations of a life that settle.
use Rattle.std.proofs.Common.{◌≡◌, ℕ, suc, ◌+◌, ◌<◌, ◌≤◌, ◌%◌, ◌^◌, inl, inr, Bool, true, false, List, length, get_or, set, refl, sym, ◌∙◌, ap, subst, arith, length-set, get_or-set_same, get_or-set_other, lt_of_not-le}
use Rattle.std.specs.Prelude.{Some, slice_get}
use Rattle.lid_stations.specs.Placements.{links_of}
use Rattle.lid_stations.specs.Stations.{filler, drainer, capacity}
use Rattle.lid_stations.specs.Laws.{StandsBetween}
use Rattle.lid_shell_laws.specs.Rules.{HoldsFew, MayNotFire}
use Rattle.lid_station.proofs.Words.{one_turn}
use Rattle.lid_clock.specs.declared.actor.ClockActor.{ClockActor}
use Rattle.lid_clock.specs.declared.station.ClockStation.{ClockStation}
use Rattle.lid_clock.specs.Rings.{token_in}
use Rattle.lid_clock.specs.Rules.{RunsGoByRules}
use Rattle.lid_clock.specs.Lives.{Life, IsLife, fired_after}
use Rattle.lid_clock.specs.States.{outs_of, token_of_life, put_after, taken_after, stations_of, actors_of, IsStation, Decided, AreDecided}
use Rattle.lid_clock.proofs.Bars.{stands}
use mathlib.Core.Logic.{dite}
use native.Mathlib.Decide.{ℕ_discrete}
use Rattle.lid_base.proofs.Places.{item_at, item_read}

-- nothing barred an actor that fired
not_barred : (r : RunsGoByRules) (l : Life) (k v : ℕ) → IsLife l → v < actors_of l → fired_after l (suc k) v ≡ fired_after l k v + 1 → ¬ (MayNotFire (links_of l.setup.system) l.setup.placement (length l.setup.input) (fired_after l k) v)
not_barred r l k v life there fired barred =
    let same : fired_after l (suc k) v ≡ fired_after l k v = r.rests l.setup.system l.setup.placement (length l.setup.input) l.hold k v life.system life.fits there (inr barred) in
    absurd (omega arith)

-- a station whose filler fired had room
pub had_room : (r : RunsGoByRules) (l : Life) (k station : ℕ) → IsLife l → station < stations_of l
    → fired_after l (suc k) (filler (links_of l.setup.system) l.setup.placement station) ≡ fired_after l k (filler (links_of l.setup.system) l.setup.placement station) + 1
    → put_after l k station < taken_after l k station + capacity l.setup.placement station
had_room r l k station life there fired =
    let between : StandsBetween l.setup.system l.setup.placement station = r.between l.setup.system l.setup.placement station life.system life.fits there in
    lt_of_not-le (λ full. not_barred r l k _ life between.filled fired (inr (inr (record { station = station; there = there; fills = refl; stop = full }))))

-- a station whose drainer fired had a token
pub had_token : (r : RunsGoByRules) (l : Life) (k station : ℕ) → IsLife l → station < stations_of l
    → fired_after l (suc k) (drainer (links_of l.setup.system) l.setup.placement station) ≡ fired_after l k (drainer (links_of l.setup.system) l.setup.placement station) + 1
    → taken_after l k station < put_after l k station
had_token r l k station life there fired =
    let between : StandsBetween l.setup.system l.setup.placement station = r.between l.setup.system l.setup.placement station life.system life.fits there in
    lt_of_not-le (λ void. not_barred r l k _ life between.drained fired (inr (inl (record { station = station; there = there; drains = refl; void = void }))))

module _ (r : RunsGoByRules) (l : Life) (k g station put taken : ℕ) (x : ClockStation) (actors : List ClockActor) (life : IsLife l) (there : station < stations_of l) (is : IsStation l station put taken x) (decided : AreDecided l k g actors) where
  -- the filler and the drainer of a station are among the actors
  pub ends_there : (x.filler < length actors) × (x.drainer < length actors)
  ends_there =
      let between : StandsBetween l.setup.system l.setup.placement station = r.between l.setup.system l.setup.placement station life.system life.fits there in
      let low : filler (links_of l.setup.system) l.setup.placement station < actors_of l = between.filled in
      let high : drainer (links_of l.setup.system) l.setup.placement station < actors_of l = between.drained in
      let fills : x.filler ≡ filler (links_of l.setup.system) l.setup.placement station = is.filled in
      let drains : x.drainer ≡ drainer (links_of l.setup.system) l.setup.placement station = is.drained in
      let many : length actors ≡ actors_of l = decided.many in
      (omega arith, omega arith)

  -- so the actor that is read for either has decided
  pub filler_decided : (a : ClockActor) → a ≡ get_or actors x.filler a → Decided l k g x.filler a
  filler_decided a read = decided.each x.filler a (item_read actors x.filler a ends_there.0 read)

  pub drainer_decided : (a : ClockActor) → a ≡ get_or actors x.drainer a → Decided l k g x.drainer a
  drainer_decided a read = decided.each x.drainer a (item_read actors x.drainer a ends_there.1 read)

  -- and a filler there is
  pub some_filler : (a : ClockActor) × Decided l k g x.filler a
  some_filler = let here = item_at actors x.filler ends_there.0 in (here.0, decided.each x.filler here.0 here.1)

-- the slot of a station is one of its filler's tokens
pub slot_there : (l : Life) (k g station put taken : ℕ) (x : ClockStation) (a : ClockActor) → IsStation l station put taken x → Decided l k g x.filler a → x.slot < length a.tokens.items
slot_there l k g station put taken x a is decided =
    let own = stands a.outs.items (outs_of l x.filler) x.slot station decided.actor.fills is.slot in
    let many : length a.tokens.items ≡ length a.outs.items = decided.actor.places.tokens in
    let within : x.slot < length a.outs.items = own.0 in
    omega arith

-- fewer tokens were put than can be counted
pub few_put : (r : RunsGoByRules) (l : Life) (k station taken : ℕ) (x : ClockStation) → IsLife l → station < stations_of l → IsStation l station (put_after l k station) taken x → x.put + 1 < 2 ^ 64
few_put r l k station taken x life there is =
    let few : HoldsFew (links_of l.setup.system) l.setup.placement (length l.setup.input) (fired_after l k) station = r.few l.setup.system l.setup.placement (length l.setup.input) l.hold k station life.system life.fits there in
    let low : put_after l k station ≤ length l.setup.input = few.few in
    let most : length l.setup.input ≤ 1000000 = life.few in
    let same : x.put ≡ put_after l k station = is.put_is in
    omega arith

-- the tokens of a ring in which one more is put
one_more : (f : ℕ → ℕ) (places : List ℕ) (taken put token : ℕ) → 0 < length places → put < taken + length places → token ≡ f put
    → ((i : ℕ) → taken ≤ i → i < put → token_in places i ≡ f i)
    → (i : ℕ) → taken ≤ i → i < put + 1 → token_in (set places (put % length places) token) i ≡ f i
one_more f places taken put token some room is held i from to =
    let size : length (set places (put % length places) token) ≡ length places = length-set places (put % length places) token in
    let spot : put % length places < length places = omega arith in
    ap (λ (n : ℕ). get_or (set places (put % length places) token) (i % n) 0) size
    ∙ dite (ℕ_discrete i put)
    (λ last.
    ap (λ (n : ℕ). get_or (set places (put % length places) token) (n % length places) 0) last
    ∙ get_or-set_same places (put % length places) token 0 spot
    ∙ is
    ∙ ap f (sym last))
    (λ earlier.
    get_or-set_other places (put % length places) (i % length places) token 0
    (λ same. earlier (one_turn i put (length places) (omega arith) (omega arith) same))
    ∙ held i from (omega arith))

-- a station that kept its ends
pub record KeepsEnds (old new : ClockStation) : Type 0 where
  pub filler : new.filler ≡ old.filler
  pub slot : new.slot ≡ old.slot
  pub drainer : new.drainer ≡ old.drainer

-- a station that gained its token
pub gained : (l : Life) (station put taken token : ℕ) (old new : ClockStation) → IsStation l station put taken old → KeepsEnds old new → put < taken + capacity l.setup.placement station → token ≡ token_of_life l station put
    → new.put ≡ old.put + 1 → new.taken ≡ old.taken → new.places ≡ set old.places (old.put % length old.places) token → IsStation l station (put + 1) taken new
gained l station put taken token old new is ends room wants puts takes places =
    let size : length old.places ≡ capacity l.setup.placement station = is.size in
    let some : 0 < length old.places = old.some in
    let written : new.places ≡ set old.places (put % length old.places) token = places ∙ ap (λ (n : ℕ). set old.places (n % length old.places) token) is.put_is in
    record {
      filled = ends.filler ∙ is.filled;
      slot = subst (λ (v : ℕ). slice_get (outs_of l v) new.slot ≡ Some station) (sym ends.filler) (subst (λ (i : ℕ). slice_get (outs_of l old.filler) i ≡ Some station) (sym ends.slot) is.slot);
      drained = ends.drainer ∙ is.drained;
      put_is = puts ∙ ap (λ (n : ℕ). n + 1) is.put_is;
      taken_is = takes ∙ is.taken_is;
      size = ap length written ∙ length-set old.places (put % length old.places) token ∙ is.size;
      tokens = λ i from to. ap (λ (xs : List ℕ). token_in xs i) written ∙ one_more (token_of_life l station) old.places taken put token some (omega arith) wants is.tokens i from to;
    }

-- a station that lost its oldest token
pub lost : (l : Life) (station put taken : ℕ) (old new : ClockStation) → IsStation l station put taken old → KeepsEnds old new
    → new.put ≡ old.put → new.taken ≡ old.taken + 1 → new.places ≡ old.places → IsStation l station put (taken + 1) new
lost l station put taken old new is ends puts takes places =
    record {
      filled = ends.filler ∙ is.filled;
      slot = subst (λ (v : ℕ). slice_get (outs_of l v) new.slot ≡ Some station) (sym ends.filler) (subst (λ (i : ℕ). slice_get (outs_of l old.filler) i ≡ Some station) (sym ends.slot) is.slot);
      drained = ends.drainer ∙ is.drained;
      put_is = puts ∙ is.put_is;
      taken_is = takes ∙ ap (λ (n : ℕ). n + 1) is.taken_is;
      size = ap length places ∙ is.size;
      tokens = λ i from to. ap (λ (xs : List ℕ). token_in xs i) places ∙ is.tokens i (omega arith) to;
    }

-- how often the filler of a station has fired, by the station's own word
filler_fired : (l : Life) (k g station put taken : ℕ) (x : ClockStation) (a : ClockActor) → IsStation l station put taken x → Decided l k g x.filler a → a.went ≡ true
    → fired_after l (suc k) (filler (links_of l.setup.system) l.setup.placement station) ≡ fired_after l k (filler (links_of l.setup.system) l.setup.placement station) + 1
filler_fired l k g station put taken x a is decided went =
    subst (λ (v : ℕ). fired_after l (suc k) v ≡ fired_after l k v + 1) is.filled (decided.goes went)

drainer_fired : (l : Life) (k g station put taken : ℕ) (x : ClockStation) (a : ClockActor) → IsStation l station put taken x → Decided l k g x.drainer a → a.went ≡ true
    → fired_after l (suc k) (drainer (links_of l.setup.system) l.setup.placement station) ≡ fired_after l k (drainer (links_of l.setup.system) l.setup.placement station) + 1
drainer_fired l k g station put taken x a is decided went =
    subst (λ (v : ℕ). fired_after l (suc k) v ≡ fired_after l k v + 1) is.drained (decided.goes went)

-- a station has room for the token of a filler that fired
pub room_of : (r : RunsGoByRules) (l : Life) (k g station : ℕ) (x : ClockStation) (a : ClockActor) → IsLife l → station < stations_of l → IsStation l station (put_after l k station) (taken_after l k station) x → Decided l k g x.filler a → a.went ≡ true
    → x.put < x.taken + length x.places
room_of r l k g station x a life there is decided went =
    let room : put_after l k station < taken_after l k station + capacity l.setup.placement station = had_room r l k station life there (filler_fired l k g station _ _ x a is decided went) in
    let puts : x.put ≡ put_after l k station = is.put_is in
    let takes : x.taken ≡ taken_after l k station = is.taken_is in
    let size : length x.places ≡ capacity l.setup.placement station = is.size in
    omega arith

-- a station gains the token that its filler put
pub gains : (r : RunsGoByRules) (l : Life) (k g station token : ℕ) (old new : ClockStation) (a : ClockActor) → IsLife l → station < stations_of l → IsStation l station (put_after l k station) (taken_after l k station) old
    → Decided l k g old.filler a → a.went ≡ true → token ≡ get_or a.tokens.items old.slot 0 → KeepsEnds old new
    → new.put ≡ old.put + 1 → new.taken ≡ old.taken → new.places ≡ set old.places (old.put % length old.places) token
    → IsStation l station (put_after l (suc k) station) (taken_after l k station) new
gains r l k g station token old new a life there is decided went read ends puts takes places =
    let fired : fired_after l (suc k) (filler (links_of l.setup.system) l.setup.placement station) ≡ fired_after l k (filler (links_of l.setup.system) l.setup.placement station) + 1 = filler_fired l k g station _ _ old a is decided went in
    let room = had_room r l k station life there fired in
    let more : put_after l k station + 1 ≡ put_after l (suc k) station = omega arith in
    subst (λ (n : ℕ). IsStation l station n (taken_after l k station) new) more
    (gained l station (put_after l k station) (taken_after l k station) token old new is ends room (read ∙ decided.offers went old.slot station is.slot) puts takes places)

-- a station whose filler did not fire gains nothing
pub gains_none : (l : Life) (k g station : ℕ) (x : ClockStation) (a : ClockActor) → IsStation l station (put_after l k station) (taken_after l k station) x → Decided l k g x.filler a → a.went ≡ false
    → IsStation l station (put_after l (suc k) station) (taken_after l k station) x
gains_none l k g station x a is decided went =
    let same : fired_after l (suc k) (filler (links_of l.setup.system) l.setup.placement station) ≡ fired_after l k (filler (links_of l.setup.system) l.setup.placement station) =
    subst (λ (v : ℕ). fired_after l (suc k) v ≡ fired_after l k v) is.filled (decided.rests went) in
    let as_many : put_after l k station ≡ put_after l (suc k) station = omega arith in
    subst (λ (n : ℕ). IsStation l station n (taken_after l k station) x) as_many is

-- a station whose drainer fired has a token to lose, also after it gained one
pub token_of_drainer : (r : RunsGoByRules) (l : Life) (k g station : ℕ) (x : ClockStation) (a : ClockActor) → IsLife l → station < stations_of l → IsStation l station (put_after l (suc k) station) (taken_after l k station) x
    → put_after l k station ≤ put_after l (suc k) station → Decided l k g x.drainer a → a.went ≡ true → x.taken < x.put
token_of_drainer r l k g station x a life there is grows decided went =
    let some : taken_after l k station < put_after l k station = had_token r l k station life there (drainer_fired l k g station _ _ x a is decided went) in
    let puts : x.put ≡ put_after l (suc k) station = is.put_is in
    let takes : x.taken ≡ taken_after l k station = is.taken_is in
    omega arith

-- the count of a filler never falls
pub grows : (l : Life) (k g station put taken : ℕ) (x : ClockStation) (a : ClockActor) → IsStation l station put taken x → Decided l k g x.filler a → put_after l k station ≤ put_after l (suc k) station
grows l k g station put taken x a is decided = more a.went refl where
  more : (b : Bool) → a.went ≡ b → put_after l k station ≤ put_after l (suc k) station
  more true went = let fired = filler_fired l k g station put taken x a is decided went in omega arith
  more false went =
      let same : fired_after l (suc k) (filler (links_of l.setup.system) l.setup.placement station) ≡ fired_after l k (filler (links_of l.setup.system) l.setup.placement station) =
      subst (λ (v : ℕ). fired_after l (suc k) v ≡ fired_after l k v) is.filled (decided.rests went) in
      omega arith

-- a station has settled that loses its oldest token
pub settles : (l : Life) (k g station : ℕ) (old new : ClockStation) (a : ClockActor) → IsStation l station (put_after l (suc k) station) (taken_after l k station) old → Decided l k g old.drainer a → a.went ≡ true → KeepsEnds old new
    → new.put ≡ old.put → new.taken ≡ old.taken + 1 → new.places ≡ old.places
    → IsStation l station (put_after l (suc k) station) (taken_after l (suc k) station) new
settles l k g station old new a is decided went ends puts takes places =
    subst (λ (n : ℕ). IsStation l station (put_after l (suc k) station) n new) (sym (drainer_fired l k g station _ _ old a is decided went))
    (lost l station (put_after l (suc k) station) (taken_after l k station) old new is ends puts takes places)

-- and one whose drainer did not fire
pub settles_as_is : (l : Life) (k g station : ℕ) (x : ClockStation) (a : ClockActor) → IsStation l station (put_after l (suc k) station) (taken_after l k station) x → Decided l k g x.drainer a → a.went ≡ false
    → IsStation l station (put_after l (suc k) station) (taken_after l (suc k) station) x
settles_as_is l k g station x a is decided went =
    let same : fired_after l (suc k) (drainer (links_of l.setup.system) l.setup.placement station) ≡ fired_after l k (drainer (links_of l.setup.system) l.setup.placement station) =
    subst (λ (v : ℕ). fired_after l (suc k) v ≡ fired_after l k v) is.drained (decided.rests went) in
    subst (λ (n : ℕ). IsStation l station (put_after l (suc k) station) n x) (sym same) is
