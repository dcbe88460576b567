-- An actor as its tokens are made, and at the end of a firing.
use Rattle.std.proofs.Common.{◌≡◌, ℕ, ◌+◌, ◌<◌, ◌≤◌, ◌==◌, Bool, true, false, List, length, refl, sym, ◌∙◌, ap, subst, arith, eq-eqb}
use Rattle.std.specs.Prelude.{Some, slice_get}
use Rattle.std.proofs.lemmas.Bool.{eqb-true}
use Rattle.std.proofs.lemmas.Option.{slice_get-get_or}
use Rattle.smallvec.specs.SmallVec.{SmallVec}
use Rattle.lid_station.specs.Boards.{Ends}
use Rattle.lid_walk_machine.specs.Plans.{ins_of, outs_of, cap, stream}
use Rattle.lid_walk_machine.specs.Setups.{plan}
use Rattle.lid_shell_laws.specs.Setups.{Setup, IsSetup}
use Rattle.lid_walk_machine.specs.Machine.{Progress, takes_from, puts_from, ends_at, is_last, goes_on}
use Rattle.lid_shell.specs.declared.actor.Actor.{Actor}
use Rattle.lid_shell.specs.declared.desk.Desk.{Desk}
use Rattle.lid_shell.specs.declared.part.Role.{Role}
use Rattle.lid_shell.specs.declared.part.Role.TheVariants.{Source, Shell, Mover, Sink}
use Rattle.lid_shell.specs.Parts.{IsRole}
use Rattle.lid_shell.specs.Actors.{row_number}
use Rattle.lid_shell.specs.Boards.{Agrees}
use Rattle.lid_shell.specs.Steps.{Works}
use Rattle.lid_shell.specs.Inside.{ActorsGoByRules, IsPassing, HasPassed, tokens_taken, AreMade, IsBusy, IsGoing, IsToMake, HasMade, HasTokensReady, IsAtEnd, HasClosed, HasFinished, further, closed}
use Rattle.lid_walk_machine.proofs.Counts.{early, late, alike}
use Rattle.lid_shell.proofs.Streams.{sink_fills_none, cap_within}
use Rattle.lid_shell.proofs.Desks.{all_taken, are_made, desk_made, desk_closed}
use Rattle.lid_shell.proofs.Agreed.{agrees_closed}

-- the part of an actor that fills a station does not tell how often it has fired
pub part_free : (r : ActorsGoByRules) (m : Setup) (v fired other t j station : ℕ) (part : Role) → IsSetup m → slice_get (outs_of (plan m) v) j ≡ Some station → IsRole m v fired t part → IsRole m v other t part
part_free r m v fired other t j station (Source input) setup at is = is
part_free r m v fired other t j station (Shell node) setup at is = is
part_free r m v fired other t j station Mover setup at is = is
part_free r m v fired other t j station (Sink node rows) setup at is = absurd (sink_fills_none r m v j station setup is.0.last at)

-- the first station that an actor fills, where there is one
pub first_out : (m : Setup) (v : ℕ) → 0 < length (outs_of (plan m) v) → (station : ℕ) × (slice_get (outs_of (plan m) v) 0 ≡ Some station)
first_out m v some = (_, slice_get-get_or (outs_of (plan m) v) 0 0 some)

-- a part that is to take what is taken
pub to_pass : (m : Setup) (v : ℕ) (q : Progress) (a : Actor) (taken into : List ℕ) → IsToMake m v q a → taken ≡ a.desk.taken.items → into ≡ a.desk.tokens.items → IsPassing m v a.desk.fired taken (length into) a.part
to_pass m v q a taken into h same tokens =
    let e : a.desk.fired ≡ q.fired = h.busy.at.fired_is in
    record {
      rules = h.busy.rules;
      there = h.busy.there;
      below = subst (λ (n : ℕ). n < cap (plan m) v) (sym e) h.busy.below;
      takes = same ∙ all_taken m v q a.desk h.busy.at h.taken ∙ ap (tokens_taken m v) (sym e);
      puts = ap length tokens ∙ h.busy.at.tokens_many;
      is = subst (λ (n : ℕ). IsRole m v n n a.part) (sym e) h.is;
    }

-- and has taken it
pub has_made : (m : Setup) (v : ℕ) (q : Progress) (a : Actor) (into : List ℕ) (tokens : SmallVec ℕ) (part : Role) → IsToMake m v q a → HasPassed m v a.desk.fired into part → tokens.items ≡ into → length into ≡ length a.desk.tokens.items
    → HasMade m v q (record { desk = record a.desk { tokens = tokens }; part = part })
has_made m v q a into tokens part h passed same many =
    let e : a.desk.fired ≡ q.fired = h.busy.at.fired_is in
    let made : AreMade m v q.fired tokens.items = subst (λ (n : ℕ). AreMade m v n tokens.items) e (are_made m v a.desk.fired tokens.items (same ∙ passed.makes)) in
    record {
      busy = record {
        rules = h.busy.rules;
        there = h.busy.there;
        below = h.busy.below;
        within = h.busy.within;
        at = desk_made m v q a.desk tokens h.busy.at (ap length same ∙ many) made;
      };
      tokens = made;
      is = subst (λ (n : ℕ). IsRole m v (n + 1) (n + 1) part) e passed.is;
    }

-- an actor that is to put its first token is to make its tokens
pub before_first : (m : Setup) (v : ℕ) (q : Progress) (a : Actor) → IsGoing m v q a → q.position ≡ puts_from (length (ins_of (plan m) v)) (length (outs_of (plan m) v)) → IsToMake m v q a
before_first m v q a h here =
    record {
      busy = h.busy;
      taken = omega arith;
      is = subst (λ (n : ℕ). IsRole m v q.fired n a.part) (early (puts_from (length (ins_of (plan m) v)) (length (outs_of (plan m) v))) q.fired q.position (omega arith)) h.is;
    }

-- it is then ready
pub ready_first : (r : ActorsGoByRules) (m : Setup) (v : ℕ) (q : Progress) (a : Actor) → 0 < length (outs_of (plan m) v) → HasMade m v q a → HasTokensReady m v q a
ready_first r m v q a some made =
    let at = first_out m v some in
    record { busy = made.busy; tokens = made.tokens; is = part_free r m v (q.fired + 1) q.fired (q.fired + 1) 0 at.0 a.part made.busy.rules at.1 made.is }

-- an actor at the end of a firing that put tokens
pub closed_late : (r : ActorsGoByRules) (m : Setup) (v : ℕ) (q : Progress) (a : Actor) → 0 < length (outs_of (plan m) v) → IsGoing m v q a → IsAtEnd m v q → HasClosed m v q a
closed_late r m v q a some h ends =
    let at = first_out m v some in
    let row = late (puts_from (length (ins_of (plan m) v)) (length (outs_of (plan m) v))) q.fired q.position (omega arith) in
    record { busy = h.busy; is = part_free r m v q.fired (q.fired + 1) (q.fired + 1) 0 at.0 a.part h.busy.rules at.1 (subst (λ (n : ℕ). IsRole m v q.fired n a.part) row h.is) }

-- an actor is at the end of a firing
pub at_end : (m : Setup) (v : ℕ) (q : Progress) (d : Desk) (e : ℕ) → IsBusy m v q d → e ≡ ends_at (length d.ins.items) (length d.outs.items) → e ≤ d.position → IsAtEnd m v q
at_end m v q d e h is past =
    let ins : length d.ins.items ≡ length (ins_of (plan m) v) = ap length h.at.drains in
    let outs : length d.outs.items ≡ length (outs_of (plan m) v) = ap length h.at.fills in
    let here : d.position ≡ q.position = h.at.position_is in
    let within : q.position ≤ ends_at (length (ins_of (plan m) v)) (length (outs_of (plan m) v)) = h.within in
    omega arith

-- it has then fired
pub finished : (m : Setup) (v : ℕ) (q : Progress) (a : Actor) (fired : ℕ) → HasClosed m v q a → IsAtEnd m v q → fired ≡ a.desk.fired + 1 → HasFinished m v q true (record { desk = record a.desk { fired = fired; position = 0 }; part = a.part })
finished m v q a fired h ends next =
    let below : q.fired < cap (plan m) v = h.busy.below in
    record {
      tells = sym (eq-eqb q.position (ends_at (length (ins_of (plan m) v)) (length (outs_of (plan m) v))) ends);
      actor = record {
        rules = h.busy.rules;
        there = h.busy.there;
        far = record {
          capped = omega arith;
          below = λ h. absurd (omega arith);
          inside = λ h. absurd (omega arith);
        };
        at = desk_closed m v q a.desk fired h.busy.at (next ∙ ap (λ (n : ℕ). n + 1) h.busy.at.fired_is);
        is = subst (λ (n : ℕ). IsRole m v (q.fired + 1) n a.part) (sym (early (puts_from (length (ins_of (plan m) v)) (length (outs_of (plan m) v))) (q.fired + 1) 0 (omega arith))) h.is;
      };
    }

-- how often it fires fits
pub fired_fits : (m : Setup) (v : ℕ) (q : Progress) (d : Desk) → IsBusy m v q d → d.fired < 1000000
fired_fits m v q d h =
    let e : d.fired ≡ q.fired = h.at.fired_is in
    let below : q.fired < cap (plan m) v = h.below in
    let most : cap (plan m) v ≤ length m.input = cap_within m v in
    let few : length m.input ≤ 1000000 = h.rules.few in
    omega arith

agrees_finished : (m : Setup) (v : ℕ) (q : Progress) (ends : Ends) (b : Bool) → b ≡ (q.position == ends_at (length (ins_of (plan m) v)) (length (outs_of (plan m) v))) → Agrees m v q ends → Agrees m v (closed b q) ends
agrees_finished m v q ends true is agrees = agrees_closed m v q ends agrees (eqb-true _ _ (sym is))
agrees_finished m v q ends false is agrees = agrees

closed_is : (b : Bool) (q : Progress) → closed b (further q) ≡ goes_on b q
closed_is true q = refl
closed_is false q = refl

-- a take or a put is done
pub gone : (m : Setup) (v : ℕ) (q : Progress) (b : Bool) (a : Actor) (ends : Ends) (stands : (ℕ → List ℕ) → Type 0) → HasFinished m v (further q) b a → Agrees m v (further q) ends → stands (stream (plan m))
    → Works m v (goes_on (is_last (plan m) v q.position) q) a ends stands
gone m v q b a ends stands f agrees streams =
    subst (λ (p : Progress). Works m v p a ends stands) (closed_is b q ∙ ap (λ (x : Bool). goes_on x q) f.tells)
    (record { actor = f.actor; agrees = agrees_finished m v (further q) ends b f.tells agrees; streams = streams })

-- the part of an actor after a take, and after a put
pub taking : (m : Setup) (v : ℕ) (q : Progress) (d : Desk) (part : Role) (i : ℕ) → IsBusy m v (further q) d → IsRole m v q.fired (row_number m v q) part → q.position ≡ takes_from (length (ins_of (plan m) v)) (length (outs_of (plan m) v)) + i → i < length (ins_of (plan m) v)
    → IsGoing m v (further q) (record { desk = d; part = part })
taking m v q d part i busy is here within =
    record { busy = busy; is = subst (λ (n : ℕ). IsRole m v q.fired n part) (alike (puts_from (length (ins_of (plan m) v)) (length (outs_of (plan m) v))) q.fired q.position (q.position + 1) (λ h. omega arith) (λ h. omega arith)) is }

pub putting : (m : Setup) (v : ℕ) (q : Progress) (d : Desk) (part : Role) (j : ℕ) → IsBusy m v (further q) d → IsRole m v q.fired (q.fired + 1) part → q.position ≡ puts_from (length (ins_of (plan m) v)) (length (outs_of (plan m) v)) + j
    → IsGoing m v (further q) (record { desk = d; part = part })
putting m v q d part j busy is here =
    record { busy = busy; is = subst (λ (n : ℕ). IsRole m v q.fired n part) (sym (late (puts_from (length (ins_of (plan m) v)) (length (outs_of (plan m) v))) q.fired (q.position + 1) (omega arith))) is }
