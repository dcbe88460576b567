-- What has a driver is a wire of the plan.
use Rattle.std.proofs.Common.{◌≡◌, ℕ, zero, suc, ◌<◌, ◌≤◌, ◌==◌, ◌⊎◌, inl, inr, Bool, true, false, not, ◌&&◌, cond, List, [], ◌∷◌, length, map, Some, None, slice_get, refl, subst, arith}
use Rattle.std.specs.Prelude.{Option, nat_lt}
use Rattle.std.specs.Option.{option_map_or}
use Rattle.std.proofs.lemmas.Bool.{eqb-true, ltb-true}
use Rattle.std.proofs.lemmas.Option.{slice_get_within}
use Rattle.lid_base.specs.Lists.{Among}
use Rattle.lid_base.proofs.Lists.{flat_among}
use Rattle.lid_design.specs.Network.{Driver, from_input}
use Rattle.lid_design.specs.Flat.{flat_drivers}
use Rattle.lid_design.proofs.Parts.{driver_is, IsDriverOf}
use Rattle.lid_emit_circuit.specs.Wires.{Wire, entry, given, offer, block, steady, may, fire, level, grown, place, moved, now, kept, later, shown, valid, stop, ActorEnd}
use Rattle.lid_emit_circuit.specs.Gates.{constant, both}
use Rattle.lid_emit_circuit.specs.Plans.{CircuitPlan, ends}
use Rattle.lid_emit_circuit.specs.Network.{sink, link, last_link, gate, flop, firing, level_in, grown_in, place_drivers, moved_in, now_from, kept_from, later_from, emitted}
use Rattle.lid_emit_circuit.specs.Known.{IsKnown, IsLatchNet, IsCoverNet}

module _ (q : CircuitPlan) (s : Driver Wire) where
  -- what stands where a test passes
  passed : (b : Bool) (xs : List (Driver Wire)) → Among s (cond b xs []) → (b ≡ true) × Among s xs
  passed true xs there = (refl, there)
  passed false xs there = absurd there

  and_both : (x y : Bool) → x && y ≡ true → (x ≡ true) × (y ≡ true)
  and_both true true h = (refl, refl)
  and_both true false h = cc
  and_both false y h = cc

  in_range : (n m : ℕ) (xs : List (Driver Wire)) → Among s (cond (nat_lt n m) xs []) → (n < m) × Among s xs
  in_range n m xs there = let p = passed (nat_lt n m) xs there in (ltb-true n m p.0, p.1)

  -- below a limit, or at it
  at_most : (i n : ℕ) (xs ys : List (Driver Wire)) → Among s (cond (nat_lt i n) xs (cond (i == n) ys [])) → i ≤ n
  at_most i n xs ys there = by (nat_lt i n) refl there
    where
      by : (b : Bool) → nat_lt i n ≡ b → Among s (cond b xs (cond (i == n) ys [])) → i ≤ n
      by true is here = omega (arith, ltb-true i n is)
      by false is here = omega (arith, eqb-true i n (passed (i == n) ys here).0)

  in_station : (st j : ℕ) (xs : List (Driver Wire)) → Among s (cond (nat_lt st q.stations && nat_lt j (q.width st)) xs []) → (st < q.stations) × (j < q.width st) × Among s xs
  in_station st j xs there =
      let p = passed (nat_lt st q.stations && nat_lt j (q.width st)) xs there in
      let two = and_both (nat_lt st q.stations) (nat_lt j (q.width st)) p.0 in
      (ltb-true st q.stations two.0, ltb-true j (q.width st) two.1, p.1)

  next_link : (v i : ℕ) (o : Option ActorEnd) → slice_get (ends q v) i ≡ o → Among s (option_map_or (link q v i) o []) → i < length (ends q v)
  next_link v i None here there = absurd there
  next_link v i (Some e) here there = slice_get_within (ends q v) i e here

  next_shown : (j : ℕ) (o : Option Wire) → slice_get q.shows j ≡ o → Among s (option_map_or (λ wire. gate both (last_link q (sink q) ∷ wire ∷ [])) o []) → j < length q.shows
  next_shown j None here there = absurd there
  next_shown j (Some w) here there = slice_get_within q.shows j w here

  kept_skip : (b : Bool) (xs : List (Driver Wire)) → Among s (cond (not b) xs []) → b ≡ false
  kept_skip true xs there = absurd there
  kept_skip false xs there = refl

  module _ (v k : ℕ) where
    now_by : (d : Driver ℕ) → IsDriverOf (q.flat v) k d → Among s (now_from q v k d) → IsLatchNet q v k ⊎ IsCoverNet q v k
    now_by d (inl input) there = absurd (subst (λ (d : Driver ℕ). Among s (now_from q v k d)) input.1 there)
    now_by d (inr (inl latch)) there = inl (latch.0, latch.1, latch.2)
    now_by d (inr (inr cover)) there = inr (cover.0, cover.1, cover.2, kept_skip (q.skips v k) (gate cover.0.cover (map (q.here v) cover.0.ins)) (subst (λ (d : Driver ℕ). Among s (now_from q v k d)) cover.3 there))

    kept_by : (d : Driver ℕ) → IsDriverOf (q.flat v) k d → Among s (kept_from q v k d) → IsLatchNet q v k
    kept_by d (inl input) there = absurd (subst (λ (d : Driver ℕ). Among s (kept_from q v k d)) input.1 there)
    kept_by d (inr (inl latch)) there = (latch.0, latch.1, latch.2)
    kept_by d (inr (inr cover)) there = absurd (subst (λ (d : Driver ℕ). Among s (kept_from q v k d)) cover.3 there)

    later_by : (d : Driver ℕ) → IsDriverOf (q.flat v) k d → Among s (later_from q v k d) → IsCoverNet q v k
    later_by d (inl input) there = absurd (subst (λ (d : Driver ℕ). Among s (later_from q v k d)) input.1 there)
    later_by d (inr (inl latch)) there = absurd (subst (λ (d : Driver ℕ). Among s (later_from q v k d)) latch.3 there)
    later_by d (inr (inr cover)) there = (cover.0, cover.1, cover.2, kept_skip (q.skips v k) (gate cover.0.cover (map (q.after v) cover.0.ins)) (subst (λ (d : Driver ℕ). Among s (later_from q v k d)) cover.3 there))

  pub known : (wire : Wire) → Among s (emitted q wire) → IsKnown q wire
  unfolding emitted
  known (entry j) there = (in_range j q.inputs (from_input j ∷ []) there).0
  known (given j) there = (in_range j q.inputs _ there).0
  known offer there = tt
  known block there = tt
  known (steady bit) there = tt
  known (may v zero) there = ((in_range v q.actors (gate (constant true) []) there).0, omega arith)
  known (may v (suc i)) there =
      let p = in_range v q.actors (option_map_or (link q v i) (slice_get (ends q v) i) []) there in
      (p.0, next_link v i (slice_get (ends q v) i) refl p.1)
  known (fire v) there = (in_range v q.actors (firing q v) there).0
  known (level st zero) there = ((in_range st q.stations (gate (constant true) []) there).0, omega arith)
  known (level st (suc i)) there =
      let p = in_range st q.stations (level_in q st (suc i)) there in
      (p.0, omega (arith, at_most i (q.capacity st) (flop (not (nat_lt (q.first st) (suc i))) (grown st (suc i))) (gate (constant false) []) p.1))
  known (grown st zero) there = (in_range st q.stations [] there).1
  known (grown st (suc i)) there =
      let p = in_range st q.stations (grown_in q st (suc i)) there in
      (p.0, (in_range i (q.capacity st) _ p.1).0)
  known (place st i j) there =
      let p = in_station st j (place_drivers q st i j) there in
      (p.0, at_most i (q.capacity st) (flop (q.begins st j) (moved st i j)) (gate (constant false) []) p.2, p.1)
  known (moved st i j) there =
      let p = in_station st j (moved_in q st i j) there in
      (p.0, (in_range i (q.capacity st) _ p.2).0, p.1)
  known (now v k) there = let found = flat_among {A = Driver ℕ} {B = Driver Wire} (now_from q v k) s (flat_drivers (q.flat v) k) there in now_by v k found.0 (driver_is (q.flat v) k found.0 found.1) found.2
  known (kept v k) there = let found = flat_among {A = Driver ℕ} {B = Driver Wire} (kept_from q v k) s (flat_drivers (q.flat v) k) there in kept_by v k found.0 (driver_is (q.flat v) k found.0 found.1) found.2
  known (later v k) there = let found = flat_among {A = Driver ℕ} {B = Driver Wire} (later_from q v k) s (flat_drivers (q.flat v) k) there in later_by v k found.0 (driver_is (q.flat v) k found.0 found.1) found.2
  known (shown j) there = next_shown j (slice_get q.shows j) refl there
  known valid there = tt
  known stop there = tt
