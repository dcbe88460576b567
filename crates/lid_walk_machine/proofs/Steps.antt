-- One step of an actor: where it is then, and how many tokens it has taken and put.
use Rattle.std.proofs.Common.{◌≡◌, ◌≢◌, ℕ, ◌+◌, ◌<◌, ◌≤◌, Bool, true, false, length, refl, ◌∙◌, ap, arith, eq-eqb, ne_eqb}
use Rattle.lid_walk_machine.specs.Plans.{Plan, ins_of, outs_of, cap}
use Rattle.lid_walk_machine.specs.Machine.{Progress, Act, looks_in, looks_out, takes, puts, fires, takes_from, puts_from, ends_at, act_of, is_last, moves, after_as, taken_by, put_by}
use Rattle.lid_walk_machine.proofs.Acts.{act_in, act_out, act_take, act_put, act_alone}
use Rattle.lid_walk_machine.proofs.Counts.{early, late}

module _ (m : Plan) (v : ℕ) where
  abbrev pub ins : ℕ
  ins = length (ins_of m v)

  abbrev pub outs : ℕ
  outs = length (outs_of m v)

  abbrev pub takes_at : ℕ
  takes_at = takes_from ins outs

  abbrev pub puts_at : ℕ
  puts_at = puts_from ins outs

  abbrev pub end : ℕ
  end = ends_at ins outs

  -- how many tokens were taken before the take of this firing, and after it
  pub taken_early : (q : Progress) (i : ℕ) → q.position ≤ takes_at + i → taken_by m v q i ≡ q.fired
  taken_early q i h = early (takes_at + i) q.fired q.position h

  pub taken_late : (q : Progress) (i : ℕ) → takes_at + i < q.position → taken_by m v q i ≡ q.fired + 1
  taken_late q i h = late (takes_at + i) q.fired q.position h

  pub put_early : (q : Progress) (j : ℕ) → q.position ≤ puts_at + j → put_by m v q j ≡ q.fired
  put_early q j h = early (puts_at + j) q.fired q.position h

  module _ (q : Progress) where
    -- at its cap an actor stays as it is
    pub after_cap : (found : Bool) → q.fired ≡ cap m v → after_as m v q found ≡ q
    after_cap found h = rw (eq-eqb q.fired (cap m v) h) refl

    abbrev Goes : Act → Bool → Bool → Type 0
    Goes act last found = after_as m v q found ≡ moves act found last q

    -- below it, it makes its act
    goes : (act : Act) (last found : Bool) → q.fired ≢ cap m v → act_of m v q.position ≡ act → is_last m v q.position ≡ last → Goes act last found
    goes act last found below is ends =
        rw (ne_eqb q.fired (cap m v) below) (ap (λ (a : Act). moves a found (is_last m v q.position) q) is ∙ ap (λ (b : Bool). moves act found b q) ends)

    not_last : q.position + 1 ≢ end → is_last m v q.position ≡ false
    not_last h = ne_eqb (q.position + 1) end h

    last : q.position + 1 ≡ end → is_last m v q.position ≡ true
    last h = eq-eqb (q.position + 1) end h

    abbrev pub on : Progress
    on = record { fired = q.fired; position = q.position + 1 }

    abbrev pub back : Progress
    back = record { fired = q.fired; position = 0 }

    abbrev pub once_more : Progress
    once_more = record { fired = q.fired + 1; position = 0 }

    -- a look that finds what it looks for goes on
    pub after_found_in : (i : ℕ) → i < ins → q.position ≡ i → q.fired ≢ cap m v → after_as m v q true ≡ on
    after_found_in i h e below = goes (looks_in i) false true below (ap (act_of m v) e ∙ act_in ins outs i h) (not_last (λ (ends : q.position + 1 ≡ end). omega (arith, ends, h, e)))

    pub after_found_out : (j : ℕ) → j < outs → q.position ≡ ins + j → q.fired ≢ cap m v → after_as m v q true ≡ on
    after_found_out j h e below = goes (looks_out j) false true below (act_out ins outs j q.position e h) (not_last (λ (ends : q.position + 1 ≡ end). omega (arith, ends, h, e)))

    -- one that does not goes back
    pub after_void : (i : ℕ) → i < ins → q.position ≡ i → q.fired ≢ cap m v → after_as m v q false ≡ back
    after_void i h e below = goes (looks_in i) false false below (ap (act_of m v) e ∙ act_in ins outs i h) (not_last (λ (ends : q.position + 1 ≡ end). omega (arith, ends, h, e)))

    pub after_stop : (j : ℕ) → j < outs → q.position ≡ ins + j → q.fired ≢ cap m v → after_as m v q false ≡ back
    after_stop j h e below = goes (looks_out j) false false below (act_out ins outs j q.position e h) (not_last (λ (ends : q.position + 1 ≡ end). omega (arith, ends, h, e)))

    -- a take or a put goes on, and the last one has fired
    pub after_take : (i : ℕ) (found : Bool) → i < ins → q.position ≡ takes_at + i → q.fired ≢ cap m v → q.position + 1 ≢ end → after_as m v q found ≡ on
    after_take i true h e below more = goes (takes i) false true below (act_take ins outs i q.position e h) (not_last more)
    after_take i false h e below more = goes (takes i) false false below (act_take ins outs i q.position e h) (not_last more)

    pub after_last_take : (i : ℕ) (found : Bool) → i < ins → q.position ≡ takes_at + i → q.fired ≢ cap m v → q.position + 1 ≡ end → after_as m v q found ≡ once_more
    after_last_take i true h e below ends = goes (takes i) true true below (act_take ins outs i q.position e h) (last ends)
    after_last_take i false h e below ends = goes (takes i) true false below (act_take ins outs i q.position e h) (last ends)

    pub after_put : (j : ℕ) (found : Bool) → j < outs → q.position ≡ puts_at + j → q.fired ≢ cap m v → q.position + 1 ≢ end → after_as m v q found ≡ on
    after_put j true h e below more = goes (puts j) false true below (act_put ins outs j q.position e h) (not_last more)
    after_put j false h e below more = goes (puts j) false false below (act_put ins outs j q.position e h) (not_last more)

    pub after_last_put : (j : ℕ) (found : Bool) → j < outs → q.position ≡ puts_at + j → q.fired ≢ cap m v → q.position + 1 ≡ end → after_as m v q found ≡ once_more
    after_last_put j true h e below ends = goes (puts j) true true below (act_put ins outs j q.position e h) (last ends)
    after_last_put j false h e below ends = goes (puts j) true false below (act_put ins outs j q.position e h) (last ends)

    -- an actor without stations fires at once
    pub after_alone : (found : Bool) → end ≤ q.position → q.fired ≢ cap m v → after_as m v q found ≡ once_more
    after_alone true h below = goes fires (is_last m v q.position) true below (act_alone ins outs q.position h) refl
    after_alone false h below = goes fires (is_last m v q.position) false below (act_alone ins outs q.position h) refl
