-- The steps of an actor are those of the machine.
use Rattle.std.proofs.Common.{◌≡◌, ℕ, ◌+◌, ◌-◌, ◌<◌, ◌≤◌, Bool, true, false, cond, List, length, refl, sym, ◌∙◌, ap, subst, arith, eq-eqb, lt-ltb, le-ltb, inl, inr}
use Rattle.std.specs.Prelude.{nat_lt}
use Rattle.std.proofs.lemmas.Bool.{ne_eqb, cases_lt, cases_eq}
use Rattle.lid_base.specs.declared.runs.Answer.{Answer}
use Rattle.lid_base.specs.declared.runs.Answer.TheVariants as answer
use Rattle.lid_station.specs.Boards.{Ends}
use Rattle.lid_walk_machine.specs.Plans.{ins_of, outs_of, cap}
use Rattle.lid_walk_machine.specs.Setups.{plan}
use Rattle.lid_shell_laws.specs.Setups.{Setup}
use Rattle.lid_walk_machine.specs.Machine.{Progress, State, Act, looks_in, looks_out, takes, puts, fires, takes_from, puts_from, ends_at, act_at, act_of, is_last, tells, moves, answer_as, after_as, finds_at, finds, answer_of, next}
use Rattle.lid_shell.specs.declared.actor.Actor.{Actor}
use Rattle.lid_shell.specs.declared.desk.Desk.{Desk}
use Rattle.lid_shell.specs.declared.desk.Next.{Next}
use Rattle.lid_shell.specs.declared.desk.Next.TheVariants.{LookIn, LookOut, Take, Put, Fire}
use Rattle.lid_shell.specs.declared.part.Role.{Role}
use Rattle.lid_shell.specs.Parts.{IsRole}
use Rattle.lid_shell.specs.Actors.{IsDesk, IsActor, IsBegun, row_number}
use Rattle.lid_shell.specs.Steps.{Works, MakesStep, IsExact, found_in}
use Rattle.lid_shell.specs.Inside.{act_in, IsNext, IsAbout, IsBusyAtBoard, HasLooked, HasMadeNext, looked, closed}
use Rattle.lid_walk_machine.proofs.Counts.{alike}
use Rattle.lid_shell.proofs.Agreed.{agrees_closed}

-- the act of a position is the one that is next there
chosen : (ins outs position : ℕ) (a b c d : Bool) → nat_lt position ins ≡ a → nat_lt position (takes_from ins outs) ≡ b → nat_lt position (puts_from ins outs) ≡ c → nat_lt position (ends_at ins outs) ≡ d
    → act_at ins outs position
    ≡ cond a (looks_in position) (cond b (looks_out (position - ins)) (cond c (takes (position - takes_from ins outs)) (cond d (puts (position - puts_from ins outs)) fires)))
unfolding act_at
chosen ins outs position a b c d e f g h = cc

pub act_is : (ins outs position : ℕ) (next : Next) → IsNext ins outs position next → act_at ins outs position ≡ act_in next
act_is ins outs position (LookIn i) h =
    let here : position ≡ i = h.0 in
    let within : i < ins = h.1 in
    chosen ins outs position true _ _ _ (lt-ltb _ _ (omega arith)) refl refl refl ∙ ap looks_in here
act_is ins outs position (LookOut j) h =
    let here : position ≡ ins + j = h.0 in
    let within : j < outs = h.1 in
    let place : position - ins ≡ j = omega arith in
    chosen ins outs position false true _ _ (le-ltb _ _ (omega arith)) (lt-ltb _ _ (omega arith)) refl refl ∙ ap looks_out place
act_is ins outs position (Take i) h =
    let here : position ≡ takes_from ins outs + i = h.0 in
    let within : i < ins = h.1 in
    let place : position - takes_from ins outs ≡ i = omega arith in
    chosen ins outs position false false true _ (le-ltb _ _ (omega arith)) (le-ltb _ _ (omega arith)) (lt-ltb _ _ (omega arith)) refl ∙ ap takes place
act_is ins outs position (Put j) h =
    let here : position ≡ puts_from ins outs + j = h.0 in
    let within : j < outs = h.1 in
    let place : position - puts_from ins outs ≡ j = omega arith in
    chosen ins outs position false false false true (le-ltb _ _ (omega arith)) (le-ltb _ _ (omega arith)) (le-ltb _ _ (omega arith)) (lt-ltb _ _ (omega arith)) ∙ ap puts place
act_is ins outs position Fire h =
    let past : ends_at ins outs ≤ position = h in
    chosen ins outs position false false false false (le-ltb _ _ (omega arith)) (le-ltb _ _ (omega arith)) (le-ltb _ _ (omega arith)) (le-ltb _ _ (omega arith))

-- what is next for a desk is next for its actor
pub about_of : (m : Setup) (v : ℕ) (q : Progress) (d : Desk) (next : Next) → IsDesk m v q d → IsNext (length d.ins.items) (length d.outs.items) d.position next → IsAbout m v q next
about_of m v q d next is h =
    subst (λ (p : ℕ). IsNext (length (ins_of (plan m) v)) (length (outs_of (plan m) v)) p next) is.position_is
    (subst (λ (n : ℕ). IsNext (length (ins_of (plan m) v)) n d.position next) (ap length is.fills)
    (subst (λ (n : ℕ). IsNext n (length d.outs.items) d.position next) (ap length is.drains) h))

-- an actor below its cap is at work
below_cap : (m : Setup) (v : ℕ) (q : Progress) (d : Desk) → IsDesk m v q d → IsBegun m v q → (d.fired ≡ d.cap → ⊥) → q.fired < cap (plan m) v
below_cap m v q d is far other =
    let fired : d.fired ≡ q.fired = is.fired_is in
    let most : d.cap ≡ cap (plan m) v = is.capped in
    let capped : q.fired ≤ cap (plan m) v = far.capped in
    omega (arith, other)

at_work : (m : Setup) (v : ℕ) (q : Progress) (a : Actor) (ends : Ends) (stands : (ℕ → List ℕ) → Type 0) → Works m v q a ends stands → (a.desk.fired ≡ a.desk.cap → ⊥) → IsBusyAtBoard m v q a.desk ends stands
at_work m v q a ends stands w other =
    record {
      busy = record {
        rules = w.actor.rules;
        there = w.actor.there;
        below = below_cap m v q a.desk w.actor.at w.actor.far other;
        within =
            elim (cases_lt 0 q.position) [
              | inl some ↦ (let inside : q.position < ends_at (length (ins_of (plan m) v)) (length (outs_of (plan m) v)) = w.actor.far.inside some in omega arith)
              | inr none ↦ omega arith
            ];
        at = w.actor.at;
      };
      agrees = w.agrees;
      streams = w.streams;
    }

-- and can do what is next
pub ready : (m : Setup) (v : ℕ) (q : Progress) (a : Actor) (next : Next) (ends : Ends) (stands : (ℕ → List ℕ) → Type 0) → Works m v q a ends stands → (a.desk.fired ≡ a.desk.cap → ⊥) → IsNext (length a.desk.ins.items) (length a.desk.outs.items) a.desk.position next
    → IsBusyAtBoard m v q a.desk ends stands × IsAbout m v q next
ready m v q a next ends stands w other h = (at_work m v q a ends stands w other, about_of m v q a.desk next w.actor.at h)

-- what an actor below its cap answers, and how far it is then
pub answer_below : (m : Setup) (v : ℕ) (q : Progress) (found : Bool) (act : Act) (last : Bool) → q.fired < cap (plan m) v → act_of (plan m) v q.position ≡ act → is_last (plan m) v q.position ≡ last → tells (plan m) v q.fired act found last ≡ answer_as (plan m) v q found
answer_below m v q found act last below is_act last_is =
    ap (λ (b : Bool). tells (plan m) v q.fired act found b) (sym last_is)
    ∙ ap (λ (x : Act). tells (plan m) v q.fired x found (is_last (plan m) v q.position)) (sym is_act)
    ∙ ap (λ (b : Bool). cond b answer.Done (tells (plan m) v q.fired (act_of (plan m) v q.position) found (is_last (plan m) v q.position))) (sym (ne_eqb q.fired (cap (plan m) v) (λ same. omega arith)))

pub after_below : (m : Setup) (v : ℕ) (q : Progress) (found : Bool) (act : Act) (last : Bool) → q.fired < cap (plan m) v → act_of (plan m) v q.position ≡ act → is_last (plan m) v q.position ≡ last → moves act found last q ≡ after_as (plan m) v q found
after_below m v q found act last below is_act last_is =
    ap (λ (b : Bool). moves act found b q) (sym last_is)
    ∙ ap (λ (x : Act). moves x found (is_last (plan m) v q.position) q) (sym is_act)
    ∙ ap (λ (b : Bool). cond b q (moves (act_of (plan m) v q.position) found (is_last (plan m) v q.position) q)) (sym (ne_eqb q.fired (cap (plan m) v) (λ same. omega arith)))

stepped : (m : Setup) (v : ℕ) (q : Progress) (answer : Answer) (act : Act) (last : Bool) (a : Actor) (ends : Ends) (stands : (ℕ → List ℕ) → Type 0) → q.fired < cap (plan m) v → act_of (plan m) v q.position ≡ act → is_last (plan m) v q.position ≡ last
    → answer ≡ tells (plan m) v q.fired act (found_in answer) last → Works m v (moves act (found_in answer) last q) a ends stands → MakesStep m v q answer a ends stands
stepped m v q answer act last a ends stands below is_act last_is told works =
    record {
      answers = told ∙ answer_below m v q (found_in answer) act last below is_act last_is;
      works = subst (λ (p : Progress). Works m v p a ends stands) (after_below m v q (found_in answer) act last below is_act last_is) works;
    }

-- an actor that has looked
settled : (m : Setup) (v : ℕ) (q : Progress) (d : Desk) (part : Role) (ends : Ends) (stands : (ℕ → List ℕ) → Type 0) (found : Bool) → IsBusyAtBoard m v (looked found q) d ends stands → IsRole m v q.fired (row_number m v q) part
    → q.position < takes_from (length (ins_of (plan m) v)) (length (outs_of (plan m) v)) → Works m v (looked found q) (record { desk = d; part = part }) ends stands
settled m v q d part ends stands true w is early =
    record {
      actor = record {
        rules = w.busy.rules;
        there = w.busy.there;
        far = record { capped = (let below : q.fired < cap (plan m) v = w.busy.below in omega arith); below = λ _. w.busy.below; inside = λ _. omega arith };
        at = w.busy.at;
        is = subst (λ (n : ℕ). IsRole m v q.fired n part) (alike (puts_from (length (ins_of (plan m) v)) (length (outs_of (plan m) v))) q.fired q.position (q.position + 1) (λ h. omega arith) (λ h. omega arith)) is;
      };
      agrees = w.agrees;
      streams = w.streams;
    }
settled m v q d part ends stands false w is early =
    record {
      actor = record {
        rules = w.busy.rules;
        there = w.busy.there;
        far = record { capped = (let below : q.fired < cap (plan m) v = w.busy.below in omega arith); below = λ _. w.busy.below; inside = λ h. absurd (omega arith) };
        at = w.busy.at;
        is = subst (λ (n : ℕ). IsRole m v q.fired n part) (alike (puts_from (length (ins_of (plan m) v)) (length (outs_of (plan m) v))) q.fired q.position 0 (λ h. omega arith) (λ h. omega arith)) is;
      };
      agrees = w.agrees;
      streams = w.streams;
    }

looked_in : (i : ℕ) (found : Bool) (q : Progress) → looked found q ≡ moves (looks_in i) found false q
looked_in i true q = refl
looked_in i false q = refl

looked_out : (j : ℕ) (found : Bool) (q : Progress) → looked found q ≡ moves (looks_out j) found false q
looked_out j true q = refl
looked_out j false q = refl

stepped_look : (m : Setup) (v : ℕ) (q : Progress) (next : Next) (answer : Answer) (d : Desk) (part : Role) (ends : Ends) (stands : (ℕ → List ℕ) → Type 0) → looked (found_in answer) q ≡ moves (act_in next) (found_in answer) false q
    → q.position < takes_from (length (ins_of (plan m) v)) (length (outs_of (plan m) v)) → q.fired < cap (plan m) v → IsAbout m v q next → IsRole m v q.fired (row_number m v q) part
    → HasLooked m v q next answer d ends stands → MakesStep m v q answer (record { desk = d; part = part }) ends stands
stepped_look m v q next answer d part ends stands goes early below about is done =
    stepped m v q answer (act_in next) false (record { desk = d; part = part }) ends stands below (act_is (length (ins_of (plan m) v)) (length (outs_of (plan m) v)) q.position next about) (ne_eqb _ _ (λ same. omega arith)) done.answers
    (subst (λ (p : Progress). Works m v p (record { desk = d; part = part }) ends stands) goes (settled m v q d part ends stands (found_in answer) done.work is early))

pub stepped_in : (m : Setup) (v : ℕ) (q : Progress) (i : ℕ) (answer : Answer) (d : Desk) (part : Role) (ends : Ends) (stands : (ℕ → List ℕ) → Type 0) → q.fired < cap (plan m) v → IsAbout m v q (LookIn i) → IsRole m v q.fired (row_number m v q) part
    → HasLooked m v q (LookIn i) answer d ends stands → MakesStep m v q answer (record { desk = d; part = part }) ends stands
stepped_in m v q i answer d part ends stands below about is done =
    let here : q.position ≡ i = about.0 in
    let within : i < length (ins_of (plan m) v) = about.1 in
    stepped_look m v q (LookIn i) answer d part ends stands (looked_in i (found_in answer) q) (omega arith) below about is done

pub stepped_out : (m : Setup) (v : ℕ) (q : Progress) (j : ℕ) (answer : Answer) (d : Desk) (part : Role) (ends : Ends) (stands : (ℕ → List ℕ) → Type 0) → q.fired < cap (plan m) v → IsAbout m v q (LookOut j) → IsRole m v q.fired (row_number m v q) part
    → HasLooked m v q (LookOut j) answer d ends stands → MakesStep m v q answer (record { desk = d; part = part }) ends stands
stepped_out m v q j answer d part ends stands below about is done =
    let here : q.position ≡ length (ins_of (plan m) v) + j = about.0 in
    let within : j < length (outs_of (plan m) v) = about.1 in
    stepped_look m v q (LookOut j) answer d part ends stands (looked_out j (found_in answer) q) (omega arith) below about is done

-- an actor that has made another step
pub stepped_on : (m : Setup) (v : ℕ) (q : Progress) (next : Next) (answer : Answer) (a : Actor) (ends : Ends) (stands : (ℕ → List ℕ) → Type 0) → q.fired < cap (plan m) v → IsAbout m v q next → HasMadeNext m v q next answer a ends stands
    → found_in answer ≡ true → MakesStep m v q answer a ends stands
stepped_on m v q next answer a ends stands below about done found =
    stepped m v q answer (act_in next) (is_last (plan m) v q.position) a ends stands below (act_is (length (ins_of (plan m) v)) (length (outs_of (plan m) v)) q.position next about) refl
    (done.answers ∙ ap (λ (b : Bool). tells (plan m) v q.fired (act_in next) b (is_last (plan m) v q.position)) (sym found))
    (subst (λ (b : Bool). Works m v (moves (act_in next) b (is_last (plan m) v q.position) q) a ends stands) (sym found) done.works)

-- one without stations, which fires
pub fires_so : (m : Setup) (v : ℕ) (q : Progress) (old a : Actor) (ends : Ends) (stands : (ℕ → List ℕ) → Type 0) → Works m v q old ends stands → q.position ≤ ends_at (length (ins_of (plan m) v)) (length (outs_of (plan m) v)) → IsAbout m v q Fire
    → IsActor m v (closed true q) a → HasMadeNext m v q Fire answer.Fired a ends stands
fires_so m v q old a ends stands w within about actor =
    record {
      answers = refl;
      works = record { actor = actor; agrees = agrees_closed m v q ends w.agrees (let past : ends_at (length (ins_of (plan m) v)) (length (outs_of (plan m) v)) ≤ q.position = about in omega arith); streams = w.streams };
    }

-- whether a look finds what it looks for, by what is next
pub exact_at : (m : Setup) (v : ℕ) (st : State) (next : Next) (found : Bool) → IsAbout m v (st v) next → found ≡ finds_at (plan m) st v (act_in next) → found ≡ finds (plan m) st v
exact_at m v st next found about is = is ∙ ap (finds_at (plan m) st v) (sym (act_is (length (ins_of (plan m) v)) (length (outs_of (plan m) v)) (st v).position next about))

-- what is next at a position
pub next_of : (ins outs position : ℕ) → (next : Next) × IsNext ins outs position next
next_of ins outs position =
    elim (cases_lt position ins) [
      | inl in_looks ↦ (LookIn position, (refl, in_looks))
      | inr past ↦
          elim (cases_lt position (takes_from ins outs)) [
            | inl in_looks ↦ (LookOut (position - ins), (omega arith, omega arith))
            | inr past_looks ↦
                elim (cases_lt position (puts_from ins outs)) [
                  | inl in_takes ↦ (Take (position - takes_from ins outs), (omega arith, omega arith))
                  | inr past_takes ↦
                      elim (cases_lt position (ends_at ins outs)) [
                        | inl in_puts ↦ (Put (position - puts_from ins outs), (omega arith, omega arith))
                        | inr past_puts ↦ (Fire, past_puts)
                      ]
                ]
          ]
    ]

-- at its cap an actor answers the same, whatever a look would find, and is as far as it was
pub answer_at_cap : (m : Setup) (v : ℕ) (q : Progress) (found : Bool) → q.fired ≡ cap (plan m) v → answer_as (plan m) v q found ≡ answer.Done
answer_at_cap m v q found same = ap (λ (b : Bool). cond b answer.Done (tells (plan m) v q.fired (act_of (plan m) v q.position) found (is_last (plan m) v q.position))) (eq-eqb q.fired (cap (plan m) v) same)

pub after_at_cap : (m : Setup) (v : ℕ) (q : Progress) (found : Bool) → q.fired ≡ cap (plan m) v → after_as (plan m) v q found ≡ q
after_at_cap m v q found same = ap (λ (b : Bool). cond b q (moves (act_of (plan m) v q.position) found (is_last (plan m) v q.position) q)) (eq-eqb q.fired (cap (plan m) v) same)

-- so an exact step answers what the machine answers, and is as far
pub exactly : (m : Setup) (v : ℕ) (st : State) (answer : Answer) (a : Actor) (ends : Ends) (stands : (ℕ → List ℕ) → Type 0) → MakesStep m v (st v) answer a ends stands → IsExact m st v answer → (st v).fired ≤ cap (plan m) v
    → (answer ≡ answer_of (plan m) st v) × Works m v (next (plan m) st v v) a ends stands
exactly m v st answer a ends stands steps exact capped =
    let own : next (plan m) st v v ≡ after_as (plan m) v (st v) (finds (plan m) st v) = ap (λ (b : Bool). cond b (after_as (plan m) v (st v) (finds (plan m) st v)) (st v)) (eq-eqb v v refl) in
    elim (cases_eq (st v).fired (cap (plan m) v)) [
      | inl same ↦ (
        steps.answers ∙ answer_at_cap m v (st v) (found_in answer) same ∙ sym (answer_at_cap m v (st v) (finds (plan m) st v) same),
        subst (λ (p : Progress). Works m v p a ends stands) (after_at_cap m v (st v) (found_in answer) same ∙ sym (after_at_cap m v (st v) (finds (plan m) st v) same) ∙ sym own) steps.works,
      )
      | inr other ↦
          (let found = exact (omega (arith, other)) in (
            steps.answers ∙ ap (answer_as (plan m) v (st v)) found,
            subst (λ (p : Progress). Works m v p a ends stands) (ap (after_as (plan m) v (st v)) found ∙ sym own) steps.works,
          ))
    ]
