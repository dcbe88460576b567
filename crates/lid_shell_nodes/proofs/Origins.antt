-- The channels of a system stand in the order of where they come from, so those that come from one node stand together.
use Rattle.std.proofs.Common.{◌≡◌, ℕ, zero, suc, ◌+◌, ◌<◌, ◌≤◌, ◌==◌, Bool, true, false, cond, List, [], ◌∷◌, length, take, drop, get_or, Some, slice_get, inl, inr, refl, sym, ◌∙◌, ap, arith, ltb, leb, ltb-true, ltb-false, leb-true, leb-false, eq-eqb, ne_eqb, ◌-◌}
use Rattle.std.proofs.lemmas.Bool.{cases_eq, cases_lt}
use Rattle.std.proofs.lemmas.Option.{slice_get-get_or, slice_get_within, get_or_from_slice_get}
use Rattle.lid_base.proofs.Places.{item_at}
use Rattle.lid_system.specs.declared.System.{System}
use Rattle.lid_system.specs.declared.Channel.{Channel}
use Rattle.lid_system.specs.Systems.{IsWellFormed, Precedes}
use Rattle.lid_shell_nodes.specs.Nodes.{channels_from}
use Rattle.lid_shell_nodes.specs.Inside.{StandByOrigin}

no_later : (c d : Channel) → Precedes c d → c.from ≤ d.from
no_later c d (inl before) = omega arith
no_later c d (inr beside) = let e = beside.0 in omega arith

pub stand_by_origin : (s : System) → IsWellFormed s → StandByOrigin s.channels
stand_by_origin s well i j d le within =
    elim (cases_eq i j) [
      | inl same ↦ (let e = ap (λ (k : ℕ). (get_or s.channels k d).from) same in omega arith)
      | inr other ↦
          no_later (get_or s.channels i d) (get_or s.channels j d)
          (well.ascending i j (get_or s.channels i d) (get_or s.channels j d) (omega (arith, other)) (slice_get-get_or s.channels i d (omega arith)) (slice_get-get_or s.channels j d within))
    ]

-- the first so many channels do not come from node v, the next so many do, and the others do not
pub found_from : (v : ℕ) (channels : List Channel) (first many : ℕ)
    → ((k : ℕ) (c : Channel) → slice_get channels k ≡ Some c → k < first → (c.from == v) ≡ false)
    → ((k : ℕ) (c : Channel) → slice_get channels k ≡ Some c → first ≤ k → k < first + many → (c.from == v) ≡ true)
    → ((k : ℕ) (c : Channel) → slice_get channels k ≡ Some c → first + many ≤ k → (c.from == v) ≡ false)
    → take many (drop first channels) ≡ channels_from channels v
found_from v [] zero zero before here after = refl
found_from v [] zero (suc many) before here after = refl
found_from v [] (suc first) zero before here after = refl
found_from v [] (suc first) (suc many) before here after = refl
found_from v (c ∷ channels) zero zero before here after =
    found_from v channels zero zero (λ k d at low. absurd (omega arith)) (λ k d at low high. absurd (omega arith)) (λ k d at low. after (suc k) d at (omega arith))
    ∙ sym (ap (λ (b : Bool). cond b (c ∷ channels_from channels v) (channels_from channels v)) (after zero c refl (omega arith)))
found_from v (c ∷ channels) zero (suc many) before here after =
    ap (λ (cs : List Channel). c ∷ cs)
    (found_from v channels zero many (λ k d at low. absurd (omega arith)) (λ k d at low high. here (suc k) d at (omega arith) (omega arith)) (λ k d at low. after (suc k) d at (omega arith)))
    ∙ sym (ap (λ (b : Bool). cond b (c ∷ channels_from channels v) (channels_from channels v)) (here zero c refl (omega arith) (omega arith)))
found_from v (c ∷ channels) (suc first) many before here after =
    found_from v channels first many (λ k d at low. before (suc k) d at (omega arith)) (λ k d at low high. here (suc k) d at (omega arith) (omega arith)) (λ k d at low. after (suc k) d at (omega arith))
    ∙ sym (ap (λ (b : Bool). cond b (c ∷ channels_from channels v) (channels_from channels v)) (before zero c refl (omega arith)))

-- two places that were found by halving
module _ (channels : List Channel) (v first end : ℕ) (inside : first ≤ length channels)
    (firsts : ((k : ℕ) (d : Channel) → 0 ≤ k → k < first → ltb (get_or channels k d).from v ≡ true) × ((k : ℕ) (d : Channel) → first ≤ k → k < length channels → ltb (get_or channels k d).from v ≡ false))
    (ends : ((k : ℕ) (d : Channel) → 0 ≤ k → k < end → leb (get_or channels k d).from v ≡ true) × ((k : ℕ) (d : Channel) → end ≤ k → k < length channels → leb (get_or channels k d).from v ≡ false)) where
  item_is : (k : ℕ) (c : Channel) → slice_get channels k ≡ Some c → (get_or channels k c).from ≡ c.from
  item_is k c at = ap (λ (d : Channel). d.from) (get_or_from_slice_get channels k c c at)

  earlier : (k : ℕ) (c : Channel) → slice_get channels k ≡ Some c → k < first → c.from < v
  earlier k c at low = let is = item_is k c at in let less = ltb-true (get_or channels k c).from v (firsts.0 k c (omega arith) low) in omega arith

  not_earlier : (k : ℕ) (c : Channel) → slice_get channels k ≡ Some c → first ≤ k → v ≤ c.from
  not_earlier k c at high = let is = item_is k c at in let more = ltb-false (get_or channels k c).from v (firsts.1 k c high (slice_get_within channels k c at)) in omega arith

  not_later : (k : ℕ) (c : Channel) → slice_get channels k ≡ Some c → k < end → c.from ≤ v
  not_later k c at low = let is = item_is k c at in let less = leb-true (get_or channels k c).from v (ends.0 k c (omega arith) low) in omega arith

  later : (k : ℕ) (c : Channel) → slice_get channels k ≡ Some c → end ≤ k → v < c.from
  later k c at high = let is = item_is k c at in let more = leb-false (get_or channels k c).from v (ends.1 k c high (slice_get_within channels k c at)) in omega arith

  pub in_order : first ≤ end
  in_order =
      elim (cases_lt end first) [
        | inl low ↦
            (let (c, at) = item_at channels end (omega (arith, low)) in
            let one = earlier end c at low in
            let two = later end c at (omega arith) in
            absurd (omega arith))
        | inr high ↦ high
      ]

  pub found_between : take (end - first) (drop first channels) ≡ channels_from channels v
  found_between =
      let order = in_order in
      found_from v channels first (end - first)
      (λ k c at low. ne_eqb c.from v (λ e. let h = earlier k c at low in omega arith))
      (λ k c at low high. eq-eqb c.from v (let a = not_earlier k c at low in let b = not_later k c at (omega arith) in omega arith))
      (λ k c at high. ne_eqb c.from v (λ e. let h = later k c at (omega arith) in omega arith))
