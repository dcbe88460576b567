-- How the steps of a turn end it, or go on.
use Rattle.std.proofs.Common.{◌≡◌, ◌↔◌, ℕ, ◌+◌, ◌<◌, ◌≤◌, inl, inr, Bool, true, false, List, length, refl, sym, ◌∙◌, ap, subst, arith}
use Rattle.std.specs.Prelude.{Some, None}
use Rattle.std.proofs.lemmas.Bool.{eqb-true, cases_eq, cases_lt}
use Rattle.std.proofs.lemmas.Option.{slice_get-get_or}
use Rattle.lid_base.specs.declared.runs.Answer.{Answer}
use Rattle.lid_base.specs.declared.runs.Answer.TheVariants as answer
use Rattle.lid_station.specs.Boards.{Ends}
use Rattle.lid_walk_machine.specs.Plans.{ins_of, outs_of, cap}
use Rattle.lid_walk_machine.specs.Setups.{plan}
use Rattle.lid_shell_laws.specs.Setups.{Setup}
use Rattle.lid_walk_machine.specs.Machine.{Progress, takes_from, ends_at, is_last, tells, moves}
use Rattle.lid_shell.specs.declared.actor.Actor.{Actor}
use Rattle.lid_shell.specs.declared.desk.Next.{Next}
use Rattle.lid_shell.specs.declared.desk.Next.TheVariants.{LookIn, LookOut, Take, Put, Fire}
use Rattle.lid_shell.specs.declared.turn.TurnEnd.{TurnEnd}
use Rattle.lid_shell.specs.declared.turn.TurnEnd.TheVariants as end
use Rattle.lid_shell.specs.Actors.{IsBegun}
use Rattle.lid_shell.specs.Steps.{Works, MakesStep, found_in, missed_end, MissesLate}
use Rattle.lid_shell.specs.Turns.{answer_at, fired_at, EndsSo}
use Rattle.lid_shell.specs.TurnEnds.{end_at}
use Rattle.lid_shell.specs.Inside.{act_in, IsAbout, further, ending}
use Rattle.lid_shell.proofs.Stepped.{act_is, next_of, answer_below, after_below, answer_at_cap, after_at_cap}

-- a turn that ends at a station has taken nothing
abbrev pub IsEarly : Setup → ℕ → Progress → TurnEnd → Type 0
IsEarly m v q (end.Void station told) = q.position ≤ takes_from (length (ins_of (plan m) v)) (length (outs_of (plan m) v))
IsEarly m v q (end.Stop station told) = q.position ≤ takes_from (length (ins_of (plan m) v)) (length (outs_of (plan m) v))
IsEarly m v q _ = Unit {0}

-- a step below the cap ends a turn
record EndsBelow (m : Setup) (v : ℕ) (q new : Progress) (how : TurnEnd) : Type 0 where
  ends_so : EndsSo m v q.fired how
  early : IsEarly m v q how
  not_done : how ≡ end.Done → ⊥
  far : new ≡ record { fired = fired_at how q.fired; position = 0 }

same_some : (x y : TurnEnd) → Some x ≡ Some y → x ≡ y
same_some x y e = cc

ends_below : (m : Setup) (v : ℕ) (q : Progress) (next : Next) (found last : Bool) (how : TurnEnd) → IsAbout m v q next → ending (tells (plan m) v q.fired (act_in next) found last) ≡ Some how → EndsBelow m v q (moves (act_in next) found last q) how
ends_below m v q (LookIn i) true last how about h = absurd (cc)
ends_below m v q (LookIn i) false last how about h =
    let here : q.position ≡ i = about.0 in
    let within : i < length (ins_of (plan m) v) = about.1 in
    subst (EndsBelow m v q (record { fired = q.fired; position = 0 })) (same_some _ how h)
    (record { ends_so = (i, slice_get-get_or (ins_of (plan m) v) i 0 within, refl); early = omega arith; not_done = λ e. cc; far = refl })
ends_below m v q (LookOut j) true last how about h = absurd (cc)
ends_below m v q (LookOut j) false last how about h =
    let here : q.position ≡ length (ins_of (plan m) v) + j = about.0 in
    let within : j < length (outs_of (plan m) v) = about.1 in
    subst (EndsBelow m v q (record { fired = q.fired; position = 0 })) (same_some _ how h)
    (record { ends_so = (j, slice_get-get_or (outs_of (plan m) v) j 0 within, refl); early = omega arith; not_done = λ e. cc; far = refl })
ends_below m v q (Take i) found true how about h =
    subst (EndsBelow m v q (record { fired = q.fired + 1; position = 0 })) (same_some _ how h) (record { ends_so = tt; early = tt; not_done = λ e. cc; far = refl })
ends_below m v q (Take i) found false how about h = absurd (cc)
ends_below m v q (Put j) found true how about h =
    subst (EndsBelow m v q (record { fired = q.fired + 1; position = 0 })) (same_some _ how h) (record { ends_so = tt; early = tt; not_done = λ e. cc; far = refl })
ends_below m v q (Put j) found false how about h = absurd (cc)
ends_below m v q Fire found last how about h =
    subst (EndsBelow m v q (record { fired = q.fired + 1; position = 0 })) (same_some _ how h) (record { ends_so = tt; early = tt; not_done = λ e. cc; far = refl })

goes_below : (m : Setup) (v : ℕ) (q : Progress) (next : Next) (found last : Bool) → IsAbout m v q next → is_last (plan m) v q.position ≡ last → ending (tells (plan m) v q.fired (act_in next) found last) ≡ None → moves (act_in next) found last q ≡ further q
goes_below m v q (LookIn i) true true about is h =
    let here : q.position ≡ i = about.0 in
    let within : i < length (ins_of (plan m) v) = about.1 in
    let end : q.position + 1 ≡ ends_at (length (ins_of (plan m) v)) (length (outs_of (plan m) v)) = eqb-true _ _ is in
    absurd (omega arith)
goes_below m v q (LookIn i) true false about is h = refl
goes_below m v q (LookIn i) false last about is h = absurd (cc)
goes_below m v q (LookOut j) true true about is h =
    let here : q.position ≡ length (ins_of (plan m) v) + j = about.0 in
    let within : j < length (outs_of (plan m) v) = about.1 in
    let end : q.position + 1 ≡ ends_at (length (ins_of (plan m) v)) (length (outs_of (plan m) v)) = eqb-true _ _ is in
    absurd (omega arith)
goes_below m v q (LookOut j) true false about is h = refl
goes_below m v q (LookOut j) false last about is h = absurd (cc)
goes_below m v q (Take i) found true about is h = absurd (cc)
goes_below m v q (Take i) found false about is h = refl
goes_below m v q (Put j) found true about is h = absurd (cc)
goes_below m v q (Put j) found false about is h = refl
goes_below m v q Fire found last about is h = absurd (cc)

-- a step ends a turn
pub record HasEnded (m : Setup) (v : ℕ) (q : Progress) (how : TurnEnd) (a : Actor) (ends : Ends) (stands : (ℕ → List ℕ) → Type 0) : Type 0 where
  pub ends_so : EndsSo m v q.fired how
  pub early : IsEarly m v q how
  pub done : how ≡ end.Done ↔ q.fired ≡ cap (plan m) v
  pub works : Works m v (record { fired = fired_at how q.fired; position = 0 }) a ends stands

at_rest : (m : Setup) (v : ℕ) (q : Progress) → IsBegun m v q → q.fired ≡ cap (plan m) v → q.position ≡ 0
at_rest m v q far same =
    elim (cases_lt 0 q.position) [
      | inl some ↦ (let below : q.fired < cap (plan m) v = far.below some in absurd (omega arith))
      | inr none ↦ omega arith
    ]

-- a step below the cap is the one that is next
record IsNextStep (m : Setup) (v : ℕ) (q : Progress) (answer : Answer) (a : Actor) (ends : Ends) (stands : (ℕ → List ℕ) → Type 0) : Type 0 where
  below : q.fired < cap (plan m) v
  next : Next
  about : IsAbout m v q next
  told : answer ≡ tells (plan m) v q.fired (act_in next) (found_in answer) (is_last (plan m) v q.position)
  works : Works m v (moves (act_in next) (found_in answer) (is_last (plan m) v q.position) q) a ends stands

next_step : (m : Setup) (v : ℕ) (q : Progress) (answer : Answer) (a : Actor) (ends : Ends) (stands : (ℕ → List ℕ) → Type 0) → IsBegun m v q → MakesStep m v q answer a ends stands → (q.fired ≡ cap (plan m) v → ⊥) → IsNextStep m v q answer a ends stands
next_step m v q answer a ends stands far steps other =
    let capped : q.fired ≤ cap (plan m) v = far.capped in
    let below : q.fired < cap (plan m) v = omega (arith, other) in
    let next = next_of (length (ins_of (plan m) v)) (length (outs_of (plan m) v)) q.position in
    let act = act_is (length (ins_of (plan m) v)) (length (outs_of (plan m) v)) q.position next.0 next.1 in
    record {
      below = below;
      next = next.0;
      about = next.1;
      told = steps.answers ∙ sym (answer_below m v q (found_in answer) (act_in next.0) (is_last (plan m) v q.position) below act refl);
      works = subst (λ (p : Progress). Works m v p a ends stands) (sym (after_below m v q (found_in answer) (act_in next.0) (is_last (plan m) v q.position) below act refl)) steps.works;
    }

pub ended : (m : Setup) (v : ℕ) (q : Progress) (answer : Answer) (how : TurnEnd) (a : Actor) (ends : Ends) (stands : (ℕ → List ℕ) → Type 0) → IsBegun m v q → MakesStep m v q answer a ends stands → ending answer ≡ Some how → HasEnded m v q how a ends stands
ended m v q answer how a ends stands far steps h =
    elim (cases_eq q.fired (cap (plan m) v)) [
      | inl same ↦
          (let is : end.Done ≡ how = same_some _ how (sym (ap ending (steps.answers ∙ answer_at_cap m v q (found_in answer) same)) ∙ h) in
          let works : Works m v q a ends stands = subst (λ (p : Progress). Works m v p a ends stands) (after_at_cap m v q (found_in answer) same) steps.works in
          subst (λ (x : TurnEnd). HasEnded m v q x a ends stands) is
          (record {
            ends_so = tt;
            early = tt;
            done = (λ _. same, λ _. refl);
            works = subst (λ (n : ℕ). Works m v (record { fired = q.fired; position = n }) a ends stands) (at_rest m v q far same) works;
          }))
      | inr other ↦
          (let step = next_step m v q answer a ends stands far steps other in
          let ends_so = ends_below m v q step.next (found_in answer) (is_last (plan m) v q.position) how step.about (sym (ap ending step.told) ∙ h) in
          record {
            ends_so = ends_so.ends_so;
            early = ends_so.early;
            done = (λ e. absurd (ends_so.not_done e), λ e. absurd (other e));
            works = subst (λ (p : Progress). Works m v p a ends stands) ends_so.far step.works;
          })
    ]

-- a step after which a turn goes on
pub record GoesOn (m : Setup) (v : ℕ) (q : Progress) (a : Actor) (ends : Ends) (stands : (ℕ → List ℕ) → Type 0) : Type 0 where
  pub below : q.fired < cap (plan m) v
  pub works : Works m v (further q) a ends stands

pub going_on : (m : Setup) (v : ℕ) (q : Progress) (answer : Answer) (a : Actor) (ends : Ends) (stands : (ℕ → List ℕ) → Type 0) → IsBegun m v q → MakesStep m v q answer a ends stands → ending answer ≡ None → GoesOn m v q a ends stands
going_on m v q answer a ends stands far steps h =
    elim (cases_eq q.fired (cap (plan m) v)) [
      | inl same ↦ (let not : Some end.Done ≡ None = sym (ap ending (steps.answers ∙ answer_at_cap m v q (found_in answer) same)) ∙ h in absurd (cc))
      | inr other ↦
          (let step = next_step m v q answer a ends stands far steps other in
          let goes = goes_below m v q step.next (found_in answer) (is_last (plan m) v q.position) step.about refl (sym (ap ending step.told) ∙ h) in
          record { below = step.below; works = subst (λ (p : Progress). Works m v p a ends stands) goes step.works })
    ]

-- what an answer that ends a turn, and one that does not, misses
abbrev SaysSame : Ends → Answer → TurnEnd → Type 0
SaysSame ends told how = (missed_end (answer_at how) ≡ missed_end told) × (end_at told ≡ how) × (MissesLate ends told → MissesLate ends (answer_at how))

pub says_same : (ends : Ends) (told : Answer) (how : TurnEnd) → ending told ≡ Some how → SaysSame ends told how
says_same ends (answer.Token station x) how h = absurd (cc)
says_same ends (answer.Room station) how h = absurd (cc)
says_same ends (answer.Void station x) how h = subst (SaysSame ends (answer.Void station x)) (same_some _ how h) (refl, refl, λ late. late)
says_same ends (answer.Stop station x) how h = subst (SaysSame ends (answer.Stop station x)) (same_some _ how h) (refl, refl, λ late. late)
says_same ends (answer.Took station x true) how h = subst (SaysSame ends (answer.Took station x true)) (same_some _ how h) (refl, refl, λ late. tt)
says_same ends (answer.Took station x false) how h = absurd (cc)
says_same ends (answer.Put station x true) how h = subst (SaysSame ends (answer.Put station x true)) (same_some _ how h) (refl, refl, λ late. tt)
says_same ends (answer.Put station x false) how h = absurd (cc)
says_same ends answer.Fired how h = subst (SaysSame ends answer.Fired) (same_some _ how h) (refl, refl, λ late. tt)
says_same ends answer.Done how h = subst (SaysSame ends answer.Done) (same_some _ how h) (refl, refl, λ late. tt)

pub misses_none : (told : Answer) → ending told ≡ None → missed_end told ≡ None
misses_none (answer.Token station x) h = refl
misses_none (answer.Room station) h = refl
misses_none (answer.Void station x) h = absurd (cc)
misses_none (answer.Stop station x) h = absurd (cc)
misses_none (answer.Took station x fired) h = refl
misses_none (answer.Put station x fired) h = refl
misses_none answer.Fired h = refl
misses_none answer.Done h = refl

-- only at the cap does a turn end so
pub done_only : (told : Answer) → ending told ≡ Some end.Done → told ≡ answer.Done
done_only (answer.Token station x) h = absurd (cc)
done_only (answer.Room station) h = absurd (cc)
done_only (answer.Void station x) h = absurd (cc)
done_only (answer.Stop station x) h = absurd (cc)
done_only (answer.Took station x true) h = absurd (cc)
done_only (answer.Took station x false) h = absurd (cc)
done_only (answer.Put station x true) h = absurd (cc)
done_only (answer.Put station x false) h = absurd (cc)
done_only answer.Fired h = absurd (cc)
done_only answer.Done h = refl
