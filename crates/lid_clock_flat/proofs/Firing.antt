-- Nodes of a life that fire, or rest.
use Rattle.std.proofs.Common.{◌≡◌, ℕ, suc, ◌+◌, ◌<◌, ◌⊎◌, inl, inr, Bool, true, false, List, length, get_or, refl, sym, ◌∙◌, ap, subst, arith}
use Rattle.std.specs.Prelude.{Some, slice_get}
use Rattle.std.proofs.lemmas.Option.{slice_get-get_or, slice_get_within}
use Rattle.std.proofs.lemmas.List.{get_or-map, length-map}
use Rattle.std.proofs.lemmas.Grind.{same_number_lists}
use Rattle.lid_stations.specs.Placements.{links_of}
use Rattle.lid_stations.specs.Stations.{filler}
use Rattle.lid_shell_laws.specs.Rules.{MayFire, MayNotFire}
use Rattle.lid_shell_laws.proofs.Ends.{drained_is, filled_is, filled_there}
use Rattle.lid_clock.specs.declared.actor.ClockActor.{ClockActor}
use Rattle.lid_clock.specs.Rules.{RunsGoByRules}
use Rattle.lid_clock.specs.Lives.{Life, fired_after}
use Rattle.lid_clock.specs.States.{ins_of, outs_of, token_of_life, put_after, taken_after, stations_of, IsActor, Decided}
use Rattle.lid_clock.proofs.Bars.{stands}
use Rattle.lid_clock.proofs.Tokens.{tokens_in}
use Rattle.lid_clock.proofs.Staying.{stays}
use Rattle.lid_clock.proofs.Made.{IsFiring, IsMade, made}
use Rattle.lid_clock.proofs.Decisions.{rested}
use Rattle.lid_clock_flat.specs.declared.station.FlatStation.{FlatStation}
use Rattle.lid_clock_flat.specs.declared.stations.FlatStations.{FlatStations}
use Rattle.lid_clock_flat.specs.Rings.{token_on}
use Rattle.lid_clock_flat.specs.Reads.{IsReadAt, AllHold, AreOffered}
use Rattle.lid_clock_flat.specs.Nodes.{SeesNoBar, NodeFires}
use Rattle.lid_clock_flat.specs.Flats.{IsFlatAt, AreFlat, Chose, Offers, WritesAlone, NodeBegins, NodeDecided}
use Rattle.lid_clock_flat.proofs.Bars.{read_at, may_fire}
use Rattle.lid_clock_flat.proofs.Keeping.{none_written}
use borrow.Author.Clash.{clash}

-- the oldest token of a station is that of the number taken
pub oldest_is : (l : Life) (k s : ℕ) (places : List ℕ) (x : FlatStation) → IsFlatAt l k s places x → 0 < x.held → token_on places x 0 ≡ token_of_life l s (taken_after l k s)
oldest_is l k s places x is some =
    let number : taken_after l k s + 0 ≡ taken_after l k s = omega arith in
    is.tokens 0 some ∙ ap (token_of_life l s) number

-- whether an actor fired, by its decision
pub chose_by : (l : Life) (k g v : ℕ) (went : Bool) (a : ClockActor) → Decided l k g v a → a.went ≡ went → Chose l k v went
chose_by l k g v went a decided is = record { goes = λ e. decided.goes (is ∙ e); rests = λ e. decided.rests (is ∙ e) }

module _ (l : Life) (k g v : ℕ) (a : ClockActor) (x : FlatStations) (actor : IsActor l g v (fired_after l k v) a) (flat : AreFlat l k x.all.items x.places.items) where
  took_at : (taken : List ℕ) (i : ℕ) → AllHold a.ins.items x.all.items
      → ((j : ℕ) → j < length a.ins.items → (y : FlatStation) → IsReadAt a.ins.items x.all.items j y → get_or taken j 0 ≡ token_on x.places.items y 0)
      → i < length (ins_of l v) → get_or taken i 0 ≡ get_or (tokens_in l v (fired_after l k v)) i 0
  took_at taken i hold oldest within =
      let station : ℕ = get_or (ins_of l v) i 0 in
      let at_place : slice_get (ins_of l v) i ≡ Some station = slice_get-get_or (ins_of l v) i 0 within in
      let own = drained_is (links_of l.setup.system) l.setup.placement v i station at_place in
      let read = read_at l k x.all.items x.places.items flat a.ins.items (ins_of l v) i station actor.drains at_place own.0 in
      oldest i read.within read.station read.at
      ∙ oldest_is l k station x.places.items read.station read.is (hold i read.within read.station read.at)
      ∙ ap (λ (n : ℕ). token_of_life l station (fired_after l k n)) own.1
      ∙ sym (get_or-map (λ (s : ℕ). token_of_life l s (fired_after l k v)) (ins_of l v) i 0 0 within)

  -- a node takes the tokens of the number that it has fired
  took : (taken : List ℕ) → AllHold a.ins.items x.all.items → length taken ≡ length a.ins.items
      → ((j : ℕ) → j < length a.ins.items → (y : FlatStation) → IsReadAt a.ins.items x.all.items j y → get_or taken j 0 ≡ token_on x.places.items y 0)
      → taken ≡ tokens_in l v (fired_after l k v)
  took taken hold as_many oldest =
      let many : length taken ≡ length (ins_of l v) = as_many ∙ ap length actor.drains in
      same_number_lists taken (tokens_in l v (fired_after l k v)) (many ∙ sym (length-map (ins_of l v) (λ (s : ℕ). token_of_life l s (fired_after l k v))))
      (λ i within. took_at taken i hold oldest (omega arith))

  -- what a node offers is written into its own stations alone
  alone : (tokens : List ℕ) (y : FlatStations) → AreOffered a.outs.items tokens (length a.outs.items) x y → WritesAlone v x y
  alone tokens y offered = record {
    all = offered.all;
    many = offered.many;
    kept = offered.kept;
    free = λ s z at other. offered.free s z at (λ j less same.
        let here : slice_get (outs_of l v) j ≡ Some s = subst (λ (xs : List ℕ). slice_get xs j ≡ Some s) actor.fills (slice_get-get_or a.outs.items j 0 less ∙ ap (λ (n : ℕ). Some n) same) in
        let own = filled_is (links_of l.setup.system) l.setup.placement v j s here in
        other ((flat.each s z at).filled ∙ own.1));
  }

  -- and each of them gets the token that it wants
  offers : (tokens : List ℕ) (y : FlatStations) → AreOffered a.outs.items tokens (length a.outs.items) x y
      → ((i station : ℕ) → slice_get (outs_of l v) i ≡ Some station → get_or tokens i 0 ≡ token_of_life l station (put_after l k station)) → Offers l k v y
  offers tokens y offered puts s z at fills =
      let same : y.all.items ≡ x.all.items = ap (λ b. b.items) offered.all in
      let here : slice_get x.all.items s ≡ Some z = subst (λ (xs : List FlatStation). slice_get xs s ≡ Some z) same at in
      let is = flat.each s z here in
      let within = slice_get_within x.all.items s z here in
      let there : s < stations_of l = omega (arith, flat.many) in
      let own : filler (links_of l.setup.system) l.setup.placement s ≡ v = sym is.filled ∙ fills in
      let place = filled_there (links_of l.setup.system) l.setup.placement v s there own in
      let read = stands a.outs.items (outs_of l v) place.0 s actor.fills place.1 in
      offered.each place.0 read.0 z (ap (slice_get x.all.items) read.1 ∙ here) ∙ puts place.0 s place.1

module _ (r : RunsGoByRules) (l : Life) (k g v : ℕ) (held : Bool) (a : ClockActor) (x : FlatStations) (begins : NodeBegins l k g v held a x) where
  -- a node that fires
  pub node_fired : (new : ClockActor) (y : FlatStations) → held ≡ false → SeesNoBar a x.all.items → NodeFires a x new y → NodeDecided l k g v held true new x y
  node_fired new y free clear fires =
      let actor = begins.actor in
      let may : MayFire (links_of l.setup.system) l.setup.placement (length l.setup.input) (fired_after l k) v = may_fire l k x.all.items x.places.items begins.beside g v a actor clear in
      let goes : fired_after l (suc k) v ≡ fired_after l k v + 1 = r.fires l.setup.system l.setup.placement (length l.setup.input) l.hold k v begins.begins.rules.system begins.begins.rules.fits actor.there (begins.holds ∙ free) may in
      let firing : IsFiring l k g v new.taken.items = record { begins = begins.begins; there = actor.there; below = may.below; takes = took l k g v a x actor begins.beside new.taken.items clear.hold fires.many fires.taken } in
      let done : IsMade l k g v new.tokens.items new.part = made r l k g v new.taken.items new.tokens.items a.part new.part firing actor.is fires.passes in
      let now : IsActor l g v (fired_after l k v + 1) new = stays l g g v (fired_after l k v) (fired_after l k v + 1) a new actor fires.same (fires.fired ∙ ap (λ (n : ℕ). n + 1) actor.fired_is) fires.places done.is in
      record {
        decided = record {
          actor = subst (λ (n : ℕ). IsActor l g v n new) (sym goes) now;
          goes = λ _. goes;
          rests = λ h. clash new.went fires.went h;
          offers = λ _. done.puts;
          row = λ _. done.row;
        };
        is = fires.went;
        steps = record {
          chose = record { goes = λ _. goes; rests = λ h. clash true refl h };
          alone = alone l k g v a x actor begins.beside new.tokens.items y fires.offered;
          offers = λ _. offers l k g v a x actor begins.beside new.tokens.items y fires.offered done.puts;
        };
        bars = λ e _. clash true refl e;
      }

  -- a node that is held, or may not fire
  pub node_rested : (held ≡ true) ⊎ MayNotFire (links_of l.setup.system) l.setup.placement (length l.setup.input) (fired_after l k) v → NodeDecided l k g v held false (record a { went = false }) x x
  node_rested why =
      let decided : Decided l k g v (record a { went = false }) = rested r l k g v a begins.begins begins.actor (elim why [ inl h ↦ inl (begins.holds ∙ h) | inr h ↦ inr h ]) in
      record {
        decided = decided;
        is = refl;
        steps = record { chose = chose_by l k g v false (record a { went = false }) decided refl; alone = none_written v x; offers = λ h. clash false h refl };
        bars = λ _ free. elim why [ inl h ↦ clash held h free | inr h ↦ h ];
      }
