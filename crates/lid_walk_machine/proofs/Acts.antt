-- The acts of positions, by cases.
use Rattle.std.proofs.Common.{◌≡◌, ℕ, ◌+◌, ◌-◌, ◌<◌, ◌≤◌, nat_lt, Bool, true, false, refl, ap, arith, lt-ltb, le-ltb}
use Rattle.std.proofs.lemmas.Bool.{ltb-true, ltb-false}
use Rattle.lid_walk_machine.specs.Machine.{looks_in, looks_out, takes, puts, fires, takes_from, puts_from, ends_at, act_at}

module _ (ins outs : ℕ) where
  pub act_in : (i : ℕ) → i < ins → act_at ins outs i ≡ looks_in i
  unfolding act_at
  act_in i h = rw (lt-ltb i ins h) refl

  pub act_out : (j position : ℕ) → position ≡ ins + j → j < outs → act_at ins outs position ≡ looks_out j
  unfolding act_at
  act_out j position e h =
      let place : position - ins ≡ j = omega (arith, e) in
      rw (le-ltb position ins (omega (arith, e))) (rw (lt-ltb position (takes_from ins outs) (omega (arith, e))) (ap looks_out place))

  pub act_take : (i position : ℕ) → position ≡ takes_from ins outs + i → i < ins → act_at ins outs position ≡ takes i
  unfolding act_at
  act_take i position e h =
      let place : position - takes_from ins outs ≡ i = omega (arith, e) in
      rw (le-ltb position ins (omega (arith, e))) (
      rw (le-ltb position (takes_from ins outs) (omega (arith, e))) (
      rw (lt-ltb position (puts_from ins outs) (omega (arith, e))) (ap takes place)))

  pub act_put : (j position : ℕ) → position ≡ puts_from ins outs + j → j < outs → act_at ins outs position ≡ puts j
  unfolding act_at
  act_put j position e h =
      let place : position - puts_from ins outs ≡ j = omega (arith, e) in
      rw (le-ltb position ins (omega (arith, e))) (
      rw (le-ltb position (takes_from ins outs) (omega (arith, e))) (
      rw (le-ltb position (puts_from ins outs) (omega (arith, e))) (
      rw (lt-ltb position (ends_at ins outs) (omega (arith, e))) (ap puts place))))

  pub act_alone : (position : ℕ) → ends_at ins outs ≤ position → act_at ins outs position ≡ fires
  unfolding act_at
  act_alone position h =
      rw (le-ltb position ins (omega (arith, h))) (
      rw (le-ltb position (takes_from ins outs) (omega (arith, h))) (
      rw (le-ltb position (puts_from ins outs) (omega (arith, h))) (
      rw (le-ltb position (ends_at ins outs) (omega (arith, h))) refl)))

  -- what a position is
  pub data At (position : ℕ) : Type 0 where
    at_in : (i : ℕ) → i < ins → position ≡ i → At position
    at_out : (j : ℕ) → j < outs → position ≡ ins + j → At position
    at_take : (i : ℕ) → i < ins → position ≡ takes_from ins outs + i → At position
    at_put : (j : ℕ) → j < outs → position ≡ puts_from ins outs + j → At position
    at_end : ends_at ins outs ≤ position → At position

  by_order : (position : ℕ) (a b c d : Bool) → nat_lt position ins ≡ a → nat_lt position (takes_from ins outs) ≡ b → nat_lt position (puts_from ins outs) ≡ c → nat_lt position (ends_at ins outs) ≡ d → At position
  by_order position true b c d ha hb hc hd = at_in position (ltb-true position ins ha) refl
  by_order position false true c d ha hb hc hd =
      let low : ins ≤ position = ltb-false position ins ha in
      let high : position < takes_from ins outs = ltb-true position (takes_from ins outs) hb in
      at_out (position - ins) (omega (arith, low, high)) (omega (arith, low, high))
  by_order position false false true d ha hb hc hd =
      let low : takes_from ins outs ≤ position = ltb-false position (takes_from ins outs) hb in
      let high : position < puts_from ins outs = ltb-true position (puts_from ins outs) hc in
      at_take (position - takes_from ins outs) (omega (arith, low, high)) (omega (arith, low, high))
  by_order position false false false true ha hb hc hd =
      let low : puts_from ins outs ≤ position = ltb-false position (puts_from ins outs) hc in
      let high : position < ends_at ins outs = ltb-true position (ends_at ins outs) hd in
      at_put (position - puts_from ins outs) (omega (arith, low, high)) (omega (arith, low, high))
  by_order position false false false false ha hb hc hd = at_end (ltb-false position (ends_at ins outs) hd)

  pub at : (position : ℕ) → At position
  at position = by_order position (nat_lt position ins) (nat_lt position (takes_from ins outs)) (nat_lt position (puts_from ins outs)) (nat_lt position (ends_at ins outs)) refl refl refl refl
