-- The list of the wires of a plan.
use Rattle.std.proofs.Common.{◌≡◌, ℕ, zero, suc, ◌+◌, ◌<◌, ◌≤◌, ◌⊎◌, inl, inr, Bool, true, false, cond, List, [], ◌∷◌, ◌++◌, length, map, flat_map, refl, sym, ◌∙◌, ap, subst, arith, length-append}
use Rattle.std.specs.Prelude.{if◌then◌else◌}
use Rattle.std.specs.List.{AllByRecursion}
use Rattle.std.proofs.lemmas.Bool.{eq-eqb}
use Rattle.lid_base.specs.Lists.{Among, AreOnce}
use Rattle.lid_base.proofs.Lists.{among_left, among_right, among_append, among_flat, flat_among, all_among}
use Rattle.lid_design.specs.declared.Flat.{Flat}
use Rattle.lid_design.specs.declared.FlatLatch.{FlatLatch}
use Rattle.lid_design.specs.declared.FlatCover.{FlatCover}
use Rattle.lid_design.specs.Network.{Driver, from_latch, from_cover}
use Rattle.lid_base.specs.Each.{from_each}
use Rattle.lid_design.specs.Flat.{flat_drivers, inputs_at, latch_at, cover_at, latch_out}
use Rattle.lid_emit_circuit.specs.Wires.{Wire, entry, given, offer, block, steady, may, fire, level, grown, place, moved, now, kept, later, shown, valid, stop}
use Rattle.lid_emit_circuit.specs.Plans.{CircuitPlan, ends}
use Rattle.lid_emit_circuit.specs.Known.{IsKnown, is_outer}
use Rattle.lid_emit_circuit.specs.Connected.{IsConnected}
use Rattle.lid_emit_circuit.specs.Lists.{outer_wires, bit_wires, station_wires, actor_wires, latch_wires, cover_wires, shell_wires, wires, AreListed}
use Rattle.lid_base.proofs.Once.{once_append, once_each, once_flat, once_range}
use Rattle.lid_emit_circuit.proofs.Ranks.{no_latch_cover}
use Rattle.lid_base.proofs.Each.{each_among, among_each}

-- what a wire belongs to: the outside, a station, an actor or a shell
abbrev kind : Wire → ℕ
kind (may v i) = 2
kind (fire v) = 2
kind (level s i) = 1
kind (grown s i) = 1
kind (place s i j) = 1
kind (moved s i j) = 1
kind (now v k) = 3
kind (kept v k) = 3
kind (later v k) = 3
kind other = 0

-- to which one
abbrev owner : Wire → ℕ
owner (may v i) = v
owner (fire v) = v
owner (level s i) = s
owner (grown s i) = s
owner (place s i j) = s
owner (moved s i j) = s
owner (now v k) = v
owner (kept v k) = v
owner (later v k) = v
owner other = 0

-- as what
abbrev part : Wire → ℕ
part (given j) = 1
part (shown j) = 2
part (grown s i) = 1
part (place s i j) = 2
part (moved s i j) = 3
part (fire v) = 1
part other = 0

-- by which bit or net
abbrev bit : Wire → ℕ
bit (place s i j) = j
bit (moved s i j) = j
bit (now v k) = k
bit (kept v k) = k
bit (later v k) = k
bit other = 0

either : {P : Type 0} {A : Type 0} (x : A) (xs ys : List A) → Among x (xs ++ ys) → (Among x xs → P) → (Among x ys → P) → P
either {P} x xs ys there left right = by (among_append x xs ys there)
  where
    by : Among x xs ⊎ Among x ys → P
    by (inl i) = left i
    by (inr j) = right j

abbrev cover_out : FlatCover → ℕ
cover_out c = c.out

module _ (q : CircuitPlan) (con : IsConnected q) where
  abbrev outside : List Wire
  outside = steady false ∷ steady true ∷ valid ∷ stop ∷ from_each shown 0 (length q.shows)

  -- what stands in each list is known
  abbrev Inner : Wire → Type 0
  Inner w = IsKnown q w × (is_outer w ≡ false)

  given_in : (w : Wire) → Among w (from_each given 0 q.inputs) → Inner w
  given_in w there = let at = among_each given 0 q.inputs w there in let high : at.0 < 0 + q.inputs = at.2 in subst Inner (sym at.3) (omega arith, refl)

  shown_in : (w : Wire) → Among w (from_each shown 0 (length q.shows)) → Inner w
  shown_in w there = let at = among_each shown 0 (length q.shows) w there in let high : at.0 < 0 + length q.shows = at.2 in subst Inner (sym at.3) (omega arith, refl)

  outside_in : (w : Wire) → Among w outside → Inner w
  outside_in w (inl is) = subst Inner (sym is) (tt, refl)
  outside_in w (inr (inl is)) = subst Inner (sym is) (tt, refl)
  outside_in w (inr (inr (inl is))) = subst Inner (sym is) (tt, refl)
  outside_in w (inr (inr (inr (inl is)))) = subst Inner (sym is) (tt, refl)
  outside_in w (inr (inr (inr (inr there)))) = shown_in w there

  module _ (s : ℕ) (there : s < q.stations) where
    level_in : (w : Wire) → Among w (from_each (level s) 0 (q.capacity s + 2)) → Inner w
    level_in w among = let at = among_each (level s) 0 (q.capacity s + 2) w among in let high : at.0 < 0 + (q.capacity s + 2) = at.2 in subst Inner (sym at.3) ((there, omega arith), refl)

    grown_in : (w : Wire) → Among w (from_each (grown s) 1 (q.capacity s)) → Inner w
    grown_in w among = by at.0 at.1 at.2 at.3
      where
        at : (i : ℕ) × (1 ≤ i) × (i < 1 + q.capacity s) × (w ≡ grown s i)
        at = among_each (grown s) 1 (q.capacity s) w among

        by : (i : ℕ) → 1 ≤ i → i < 1 + q.capacity s → w ≡ grown s i → Inner w
        by zero low high is = absurd (omega arith)
        by (suc i) low high is = subst Inner (sym is) ((there, omega arith), refl)

    bit_in : (j : ℕ) → j < q.width s → (w : Wire) → Among w (bit_wires q s j) → Inner w
    bit_in j below w among = either w (from_each (λ i. place s i j) 0 (q.capacity s + 1)) (from_each (λ i. moved s i j) 0 (q.capacity s)) among
        (λ i. let at = among_each (λ i. place s i j) 0 (q.capacity s + 1) w i in let high : at.0 < 0 + (q.capacity s + 1) = at.2 in subst Inner (sym at.3) ((there, omega arith, below), refl))
        (λ i. let at = among_each (λ i. moved s i j) 0 (q.capacity s) w i in let high : at.0 < 0 + q.capacity s = at.2 in subst Inner (sym at.3) ((there, omega arith, below), refl))

    station_in : (w : Wire) → Among w (station_wires q s) → Inner w
    station_in w among = either w (from_each (level s) 0 (q.capacity s + 2)) (from_each (grown s) 1 (q.capacity s) ++ flat_map (bit_wires q s) (from_each (λ j. j) 0 (q.width s))) among (level_in w)
        (λ rest. either w (from_each (grown s) 1 (q.capacity s)) (flat_map (bit_wires q s) (from_each (λ j. j) 0 (q.width s))) rest (grown_in w)
        (λ bits. let found = flat_among {A = ℕ} {B = Wire} (bit_wires q s) w (from_each (λ j. j) 0 (q.width s)) bits in let at = among_each (λ j. j) 0 (q.width s) found.0 found.1 in let high : at.0 < 0 + q.width s = at.2 in let is : found.0 ≡ at.0 = at.3 in bit_in found.0 (omega arith) w found.2))

  actor_in : (v : ℕ) → v < q.actors → (w : Wire) → Among w (actor_wires q v) → Inner w
  actor_in v there w among = either w (from_each (may v) 0 (length (ends q v) + 1)) (fire v ∷ []) among
      (λ i. let at = among_each (may v) 0 (length (ends q v) + 1) w i in let high : at.0 < 0 + (length (ends q v) + 1) = at.2 in subst Inner (sym at.3) ((there, omega arith), refl))
      (λ i. fire_in i)
    where
      fire_in : Among w (fire v ∷ []) → Inner w
      fire_in (inl is) = subst Inner (sym is) (there, refl)
      fire_in (inr none) = absurd none

  latch_in : (v : ℕ) (l : FlatLatch) → Among l (q.flat v).latches → (w : Wire) → Among w (latch_wires v l) → Inner w
  latch_in v l i w (inl is) = subst Inner (sym is) (inl (l, i, refl), refl)
  latch_in v l i w (inr (inl is)) = subst Inner (sym is) ((l, i, refl), refl)
  latch_in v l i w (inr (inr none)) = absurd none

  cover_in : (v : ℕ) (c : FlatCover) → Among c (q.flat v).covers → (w : Wire) → Among w (cover_wires q v c) → Inner w
  cover_in v c i w among = by (q.skips v c.out) refl among
    where
      by : (b : Bool) → q.skips v c.out ≡ b → Among w (cond b [] (now v c.out ∷ later v c.out ∷ [])) → Inner w
      by true is none = absurd none
      by false is (inl here) = subst Inner (sym here) (inr (c, i, refl, is), refl)
      by false is (inr (inl here)) = subst Inner (sym here) ((c, i, refl, is), refl)
      by false is (inr (inr none)) = absurd none

  shell_in : (v : ℕ) (w : Wire) → Among w (shell_wires q v) → Inner w
  shell_in v w among = either w (flat_map (latch_wires v) (q.flat v).latches) (flat_map (cover_wires q v) (q.flat v).covers) among
      (λ i. let found = flat_among {A = FlatLatch} {B = Wire} (latch_wires v) w (q.flat v).latches i in latch_in v found.0 found.1 w found.2)
      (λ i. let found = flat_among {A = FlatCover} {B = Wire} (cover_wires q v) w (q.flat v).covers i in cover_in v found.0 found.1 w found.2)

  abbrev of_stations : List Wire
  of_stations = flat_map (station_wires q) (from_each (λ s. s) 0 q.stations)

  abbrev of_actors : List Wire
  of_actors = flat_map (actor_wires q) (from_each (λ v. v) 0 q.actors)

  abbrev of_shells : List Wire
  of_shells = flat_map (shell_wires q) (from_each (λ v. v) 0 q.nodes)

  -- a list for each of some numbers
  in_flat : {P : Wire → Type 0} (f : ℕ → List Wire) (n : ℕ) → ((s : ℕ) → s < n → (w : Wire) → Among w (f s) → P w) → (w : Wire) → Among w (flat_map f (from_each (λ s. s) 0 n)) → P w
  in_flat f n each w among =
      let found = flat_among {A = ℕ} {B = Wire} f w (from_each (λ s. s) 0 n) among in
      let at = among_each (λ s. s) 0 n found.0 found.1 in
      let high : at.0 < 0 + n = at.2 in
      let is : found.0 ≡ at.0 = at.3 in
      each found.0 (omega arith) w found.2

  wire_in : (w : Wire) → Among w (wires q) → Inner w
  wire_in w among = either w (outer_wires q) (of_stations ++ (of_actors ++ of_shells)) among
      (λ i. either w (from_each given 0 q.inputs) outside i (given_in w) (outside_in w))
      (λ i. either w of_stations (of_actors ++ of_shells) i (in_flat {P = Inner} (station_wires q) q.stations (λ s there. station_in s there) w)
      (λ j. either w of_actors of_shells j (in_flat {P = Inner} (actor_wires q) q.actors (λ v there. actor_in v there) w) (in_flat {P = Inner} (shell_wires q) q.nodes (λ v there. shell_in v) w)))

  -- and each that is known stands in its list
  to_flat : (f : ℕ → List Wire) (n s : ℕ) (w : Wire) → s < n → Among w (f s) → Among w (flat_map f (from_each (λ s. s) 0 n))
  to_flat f n s w below there = among_flat {A = ℕ} {B = Wire} f s w (from_each (λ s. s) 0 n) (each_among (λ s. s) 0 n s (omega arith) (omega arith)) there

  in_outer : (w : Wire) → Among w (outer_wires q) → Among w (wires q)
  in_outer w there = among_left w (outer_wires q) (of_stations ++ (of_actors ++ of_shells)) there

  in_outside : (w : Wire) → Among w outside → Among w (wires q)
  in_outside w there = in_outer w (among_right w (from_each given 0 q.inputs) outside there)

  in_station : (s : ℕ) (w : Wire) → s < q.stations → Among w (station_wires q s) → Among w (wires q)
  in_station s w below there = among_right w (outer_wires q) (of_stations ++ (of_actors ++ of_shells)) (among_left w of_stations (of_actors ++ of_shells) (to_flat (station_wires q) q.stations s w below there))

  in_actor : (v : ℕ) (w : Wire) → v < q.actors → Among w (actor_wires q v) → Among w (wires q)
  in_actor v w below there = among_right w (outer_wires q) (of_stations ++ (of_actors ++ of_shells)) (among_right w of_stations (of_actors ++ of_shells) (among_left w of_actors of_shells (to_flat (actor_wires q) q.actors v w below there)))

  in_shell : (v : ℕ) (w : Wire) → v < q.nodes → Among w (shell_wires q v) → Among w (wires q)
  in_shell v w below there = among_right w (outer_wires q) (of_stations ++ (of_actors ++ of_shells)) (among_right w of_stations (of_actors ++ of_shells) (among_right w of_actors of_shells (to_flat (shell_wires q) q.nodes v w below there)))

  in_bits : (s j : ℕ) (w : Wire) → s < q.stations → j < q.width s → Among w (bit_wires q s j) → Among w (wires q)
  in_bits s j w there below among =
      in_station s w there
      (among_right w (from_each (level s) 0 (q.capacity s + 2)) (from_each (grown s) 1 (q.capacity s) ++ flat_map (bit_wires q s) (from_each (λ j. j) 0 (q.width s)))
      (among_right w (from_each (grown s) 1 (q.capacity s)) (flat_map (bit_wires q s) (from_each (λ j. j) 0 (q.width s))) (to_flat (bit_wires q s) (q.width s) j w below among)))

  module _ (v k : ℕ) where
    latch_shell : (w : Wire) → (l : FlatLatch) → Among l (q.flat v).latches → Among w (latch_wires v l) → Among w (wires q)
    latch_shell w l i there =
        let below = (all_among (λ (l : FlatLatch). (l.input < (q.flat v).nets) × (l.out < (q.flat v).nets)) (q.flat v).latches l (con.rules v).below.latches i).1 in
        in_shell v w (con.shells v (omega (arith, below))) (among_left w (flat_map (latch_wires v) (q.flat v).latches) (flat_map (cover_wires q v) (q.flat v).covers) (among_flat {A = FlatLatch} {B = Wire} (latch_wires v) l w (q.flat v).latches i there))

    cover_shell : (w : Wire) → (c : FlatCover) → Among c (q.flat v).covers → Among w (cover_wires q v c) → Among w (wires q)
    cover_shell w c i there =
        let below = (all_among (λ (c : FlatCover). AllBelow c × (c.out < (q.flat v).nets)) (q.flat v).covers c (con.rules v).below.covers i).1 in
        in_shell v w (con.shells v (omega (arith, below))) (among_right w (flat_map (latch_wires v) (q.flat v).latches) (flat_map (cover_wires q v) (q.flat v).covers) (among_flat {A = FlatCover} {B = Wire} (cover_wires q v) c w (q.flat v).covers i there))
      where
        AllBelow : FlatCover → Type 0
        AllBelow c = AllByRecursion (λ k. k < (q.flat v).nets) c.ins

    pair_first : (c : FlatCover) (b : Bool) → b ≡ false → Among (now v c.out) (cond b [] (now v c.out ∷ later v c.out ∷ []))
    pair_first c false is = inl refl
    pair_first c true is = cc

    pair_second : (c : FlatCover) (b : Bool) → b ≡ false → Among (later v c.out) (cond b [] (now v c.out ∷ later v c.out ∷ []))
    pair_second c false is = inr (inl refl)
    pair_second c true is = cc

    cover_skips : (c : FlatCover) → c.out ≡ k → q.skips v k ≡ false → q.skips v c.out ≡ false
    cover_skips c is no_skip = ap (q.skips v) is ∙ no_skip

  known_in : (w : Wire) → IsKnown q w → is_outer w ≡ false → Among w (wires q)
  known_in (entry j) known inner = cc
  known_in (given j) known inner = in_outer (given j) (among_left (given j) (from_each given 0 q.inputs) outside (each_among given 0 q.inputs j (omega arith) (omega (arith, known))))
  known_in offer known inner = cc
  known_in block known inner = cc
  known_in (steady false) known inner = in_outside (steady false) (inl refl)
  known_in (steady true) known inner = in_outside (steady true) (inr (inl refl))
  known_in (may v i) known inner = in_actor v (may v i) known.0 (among_left (may v i) (from_each (may v) 0 (length (ends q v) + 1)) (fire v ∷ []) (each_among (may v) 0 (length (ends q v) + 1) i (omega arith) (omega (arith, known.1))))
  known_in (fire v) known inner = in_actor v (fire v) known (among_right (fire v) (from_each (may v) 0 (length (ends q v) + 1)) (fire v ∷ []) (inl refl))
  known_in (level s i) known inner = in_station s (level s i) known.0 (among_left (level s i) (from_each (level s) 0 (q.capacity s + 2)) (from_each (grown s) 1 (q.capacity s) ++ flat_map (bit_wires q s) (from_each (λ j. j) 0 (q.width s))) (each_among (level s) 0 (q.capacity s + 2) i (omega arith) (omega (arith, known.1))))
  known_in (grown s zero) known inner = absurd known
  known_in (grown s (suc i)) known inner = in_station s (grown s (suc i)) known.0 (among_right (grown s (suc i)) (from_each (level s) 0 (q.capacity s + 2)) (from_each (grown s) 1 (q.capacity s) ++ flat_map (bit_wires q s) (from_each (λ j. j) 0 (q.width s))) (among_left (grown s (suc i)) (from_each (grown s) 1 (q.capacity s)) (flat_map (bit_wires q s) (from_each (λ j. j) 0 (q.width s))) (each_among (grown s) 1 (q.capacity s) (suc i) (omega arith) (omega (arith, known.1)))))
  known_in (place s i j) known inner = in_bits s j (place s i j) known.0 known.2 (among_left (place s i j) (from_each (λ i. place s i j) 0 (q.capacity s + 1)) (from_each (λ i. moved s i j) 0 (q.capacity s)) (each_among (λ i. place s i j) 0 (q.capacity s + 1) i (omega arith) (omega (arith, known.1))))
  known_in (moved s i j) known inner = in_bits s j (moved s i j) known.0 known.2 (among_right (moved s i j) (from_each (λ i. place s i j) 0 (q.capacity s + 1)) (from_each (λ i. moved s i j) 0 (q.capacity s)) (each_among (λ i. moved s i j) 0 (q.capacity s) i (omega arith) (omega (arith, known.1))))
  known_in (now v k) (inl latch) inner = subst (λ (n : ℕ). Among (now v n) (wires q)) latch.2 (latch_shell v k (now v latch.0.out) latch.0 latch.1 (inl refl))
  known_in (now v k) (inr cover) inner = subst (λ (n : ℕ). Among (now v n) (wires q)) cover.2 (cover_shell v k (now v cover.0.out) cover.0 cover.1 (pair_first v k cover.0 (q.skips v cover.0.out) (cover_skips v k cover.0 cover.2 cover.3)))
  known_in (kept v k) latch inner = subst (λ (n : ℕ). Among (kept v n) (wires q)) latch.2 (latch_shell v k (kept v latch.0.out) latch.0 latch.1 (inr (inl refl)))
  known_in (later v k) cover inner = subst (λ (n : ℕ). Among (later v n) (wires q)) cover.2 (cover_shell v k (later v cover.0.out) cover.0 cover.1 (pair_second v k cover.0 (q.skips v cover.0.out) (cover_skips v k cover.0 cover.2 cover.3)))
  known_in (shown j) known inner = in_outside (shown j) (inr (inr (inr (inr (each_among shown 0 (length q.shows) j (omega arith) (omega (arith, known)))))))
  known_in valid known inner = in_outside valid (inr (inr (inl refl)))
  known_in stop known inner = in_outside stop (inr (inr (inr (inl refl))))

  -- no wire stands twice
  kind_is : (n : ℕ) (f : ℕ → List Wire) (m : ℕ) → ((s : ℕ) → s < m → (w : Wire) → Among w (f s) → kind w ≡ n) → (w : Wire) → Among w (flat_map f (from_each (λ s. s) 0 m)) → kind w ≡ n
  kind_is n f m each = in_flat {P = λ w. kind w ≡ n} f m each

  abbrev IsOf : ℕ → ℕ → Wire → Type 0
  IsOf n s w = (kind w ≡ n) × (owner w ≡ s)

  bits_of : (s j : ℕ) (w : Wire) → Among w (bit_wires q s j) → IsOf 1 s w × (bit w ≡ j)
  bits_of s j w among = either w (from_each (λ i. place s i j) 0 (q.capacity s + 1)) (from_each (λ i. moved s i j) 0 (q.capacity s)) among
      (λ i. let at = among_each (λ i. place s i j) 0 (q.capacity s + 1) w i in subst (λ (w : Wire). IsOf 1 s w × (bit w ≡ j)) (sym at.3) ((refl, refl), refl))
      (λ i. let at = among_each (λ i. moved s i j) 0 (q.capacity s) w i in subst (λ (w : Wire). IsOf 1 s w × (bit w ≡ j)) (sym at.3) ((refl, refl), refl))

  abbrev bits : ℕ → List Wire
  bits s = flat_map (bit_wires q s) (from_each (λ j. j) 0 (q.width s))

  each_bit : (s : ℕ) (w : Wire) → Among w (bits s) → (j : ℕ) × Among w (bit_wires q s j)
  each_bit s w among = let found = flat_among {A = ℕ} {B = Wire} (bit_wires q s) w (from_each (λ j. j) 0 (q.width s)) among in (found.0, found.2)

  station_of : (s : ℕ) (w : Wire) → Among w (station_wires q s) → IsOf 1 s w
  station_of s w among = either w (from_each (level s) 0 (q.capacity s + 2)) (from_each (grown s) 1 (q.capacity s) ++ bits s) among
      (λ i. let at = among_each (level s) 0 (q.capacity s + 2) w i in subst (IsOf 1 s) (sym at.3) (refl, refl))
      (λ i. either w (from_each (grown s) 1 (q.capacity s)) (bits s) i
      (λ i. let at = among_each (grown s) 1 (q.capacity s) w i in subst (IsOf 1 s) (sym at.3) (refl, refl))
      (λ i. let found = each_bit s w i in (bits_of s found.0 w found.1).0))

  actor_of : (v : ℕ) (w : Wire) → Among w (actor_wires q v) → IsOf 2 v w
  actor_of v w among = either w (from_each (may v) 0 (length (ends q v) + 1)) (fire v ∷ []) among
      (λ i. let at = among_each (may v) 0 (length (ends q v) + 1) w i in subst (IsOf 2 v) (sym at.3) (refl, refl))
      fire_of
    where
      fire_of : Among w (fire v ∷ []) → IsOf 2 v w
      fire_of (inl is) = subst (IsOf 2 v) (sym is) (refl, refl)
      fire_of (inr none) = absurd none

  abbrev IsNet : ℕ → ℕ → Wire → Type 0
  IsNet v k w = IsOf 3 v w × (bit w ≡ k)

  latch_of : (v : ℕ) (l : FlatLatch) (w : Wire) → Among w (latch_wires v l) → IsNet v l.out w
  latch_of v l w (inl is) = subst (IsNet v l.out) (sym is) ((refl, refl), refl)
  latch_of v l w (inr (inl is)) = subst (IsNet v l.out) (sym is) ((refl, refl), refl)
  latch_of v l w (inr (inr none)) = absurd none

  cover_of : (v : ℕ) (c : FlatCover) (w : Wire) → Among w (cover_wires q v c) → IsNet v c.out w
  cover_of v c w among = by (q.skips v c.out) among
    where
      by : (b : Bool) → Among w (cond b [] (now v c.out ∷ later v c.out ∷ [])) → IsNet v c.out w
      by true none = absurd none
      by false (inl is) = subst (IsNet v c.out) (sym is) ((refl, refl), refl)
      by false (inr (inl is)) = subst (IsNet v c.out) (sym is) ((refl, refl), refl)
      by false (inr (inr none)) = absurd none

  shell_of : (v : ℕ) (w : Wire) → Among w (shell_wires q v) → IsOf 3 v w
  shell_of v w among = either w (flat_map (latch_wires v) (q.flat v).latches) (flat_map (cover_wires q v) (q.flat v).covers) among
      (λ i. let found = flat_among {A = FlatLatch} {B = Wire} (latch_wires v) w (q.flat v).latches i in (latch_of v found.0 w found.2).0)
      (λ i. let found = flat_among {A = FlatCover} {B = Wire} (cover_wires q v) w (q.flat v).covers i in (cover_of v found.0 w found.2).0)

  -- a wire that tells another number than all of a list does not stand in it
  not_among : (tell : Wire → ℕ) (n : ℕ) (xs : List Wire) (w : Wire) → ((x : Wire) → Among x xs → tell x ≡ n) → (tell w ≡ n → ⊥) → Among w xs → ⊥
  not_among tell n xs w each other there = other (each w there)

  shown_part : (w : Wire) → Among w (from_each shown 0 (length q.shows)) → part w ≡ 2
  shown_part w there = let at = among_each shown 0 (length q.shows) w there in ap part at.3

  steady_apart : steady false ≡ steady true → ⊥
  steady_apart same = let e : false ≡ true = cc in cc

  once_outside : AreOnce outside
  once_outside = (first, (second, (third, (fourth, once_each shown 0 (length q.shows) (λ i j same. shown_same i j same)))))
    where
      shown_same : (i j : ℕ) → shown i ≡ shown j → i ≡ j
      shown_same i j same = cc

      fourth : Among stop (from_each shown 0 (length q.shows)) → ⊥
      fourth there = let e = shown_part stop there in omega arith

      third : Among valid (stop ∷ from_each shown 0 (length q.shows)) → ⊥
      third (inl is) = cc
      third (inr there) = let e = shown_part valid there in omega arith

      second : Among (steady true) (valid ∷ stop ∷ from_each shown 0 (length q.shows)) → ⊥
      second (inl is) = cc
      second (inr (inl is)) = cc
      second (inr (inr there)) = let e = shown_part (steady true) there in omega arith

      first : Among (steady false) (steady true ∷ valid ∷ stop ∷ from_each shown 0 (length q.shows)) → ⊥
      first (inl is) = steady_apart is
      first (inr (inl is)) = cc
      first (inr (inr (inl is))) = cc
      first (inr (inr (inr there))) = let e = shown_part (steady false) there in omega arith

  once_outer : AreOnce (outer_wires q)
  once_outer = once_append (from_each given 0 q.inputs) outside (once_each given 0 q.inputs (λ i j same. given_same i j same)) once_outside apart
    where
      given_same : (i j : ℕ) → given i ≡ given j → i ≡ j
      given_same i j same = cc

      given_part : (w : Wire) → Among w (from_each given 0 q.inputs) → part w ≡ 1
      given_part w there = let at = among_each given 0 q.inputs w there in ap part at.3

      apart : (w : Wire) → Among w (from_each given 0 q.inputs) → Among w outside → ⊥
      apart w there (inl is) = let e = given_part w there in let e' : part w ≡ 0 = ap part is in omega arith
      apart w there (inr (inl is)) = let e = given_part w there in let e' : part w ≡ 0 = ap part is in omega arith
      apart w there (inr (inr (inl is))) = let e = given_part w there in let e' : part w ≡ 0 = ap part is in omega arith
      apart w there (inr (inr (inr (inl is)))) = let e = given_part w there in let e' : part w ≡ 0 = ap part is in omega arith
      apart w there (inr (inr (inr (inr also)))) = let e = given_part w there in let e' = shown_part w also in omega arith

  once_bits : (s j : ℕ) → AreOnce (bit_wires q s j)
  once_bits s j =
      once_append (from_each (λ i. place s i j) 0 (q.capacity s + 1)) (from_each (λ i. moved s i j) 0 (q.capacity s)) (once_each (λ i. place s i j) 0 (q.capacity s + 1) place_same) (once_each (λ i. moved s i j) 0 (q.capacity s) moved_same)
      (λ w there also.
      let at = among_each (λ i. place s i j) 0 (q.capacity s + 1) w there in
      let at' = among_each (λ i. moved s i j) 0 (q.capacity s) w also in
      let e : part w ≡ 2 = ap part at.3 in
      let e' : part w ≡ 3 = ap part at'.3 in
      omega arith)
    where
      place_same : (i i' : ℕ) → place s i j ≡ place s i' j → i ≡ i'
      place_same i i' same = cc

      moved_same : (i i' : ℕ) → moved s i j ≡ moved s i' j → i ≡ i'
      moved_same i i' same = cc

  once_station : (s : ℕ) → AreOnce (station_wires q s)
  once_station s =
      once_append (from_each (level s) 0 (q.capacity s + 2)) (from_each (grown s) 1 (q.capacity s) ++ bits s) (once_each (level s) 0 (q.capacity s + 2) level_same)
      (once_append (from_each (grown s) 1 (q.capacity s)) (bits s) (once_each (grown s) 1 (q.capacity s) grown_same)
      (once_flat (bit_wires q s) (λ (j : ℕ). j) bit (from_each (λ j. j) 0 (q.width s)) (once_range 0 (q.width s)) (λ j i. once_bits s j) (λ j w i there. (bits_of s j w there).1))
      (λ w there also. let e = grown_part w there in let e' = bits_part w also in omega (arith, e')))
      (λ w there also. either w (from_each (grown s) 1 (q.capacity s)) (bits s) also
      (λ i. let e = level_part w there in let e' = grown_part w i in omega arith)
      (λ i. let e = level_part w there in let e' = bits_part w i in omega (arith, e')))
    where
      level_same : (i j : ℕ) → level s i ≡ level s j → i ≡ j
      level_same i j same = cc

      grown_same : (i j : ℕ) → grown s i ≡ grown s j → i ≡ j
      grown_same i j same = cc

      level_part : (w : Wire) → Among w (from_each (level s) 0 (q.capacity s + 2)) → part w ≡ 0
      level_part w there = let at = among_each (level s) 0 (q.capacity s + 2) w there in ap part at.3

      grown_part : (w : Wire) → Among w (from_each (grown s) 1 (q.capacity s)) → part w ≡ 1
      grown_part w there = let at = among_each (grown s) 1 (q.capacity s) w there in ap part at.3

      bits_part : (w : Wire) → Among w (bits s) → 2 ≤ part w
      bits_part w there =
          let found = each_bit s w there in
          either w (from_each (λ i. place s i found.0) 0 (q.capacity s + 1)) (from_each (λ i. moved s i found.0) 0 (q.capacity s)) found.1
          (λ i. let at = among_each (λ i. place s i found.0) 0 (q.capacity s + 1) w i in let e : part w ≡ 2 = ap part at.3 in omega arith)
          (λ i. let at = among_each (λ i. moved s i found.0) 0 (q.capacity s) w i in let e : part w ≡ 3 = ap part at.3 in omega arith)

  once_actor : (v : ℕ) → AreOnce (actor_wires q v)
  once_actor v =
      once_append (from_each (may v) 0 (length (ends q v) + 1)) (fire v ∷ []) (once_each (may v) 0 (length (ends q v) + 1) may_same) ((λ none. none), tt)
      (λ w there also. let at = among_each (may v) 0 (length (ends q v) + 1) w there in let e : part w ≡ 0 = ap part at.3 in apart w e also)
    where
      may_same : (i j : ℕ) → may v i ≡ may v j → i ≡ j
      may_same i j same = cc

      apart : (w : Wire) → part w ≡ 0 → Among w (fire v ∷ []) → ⊥
      apart w e (inl is) = let e' : part w ≡ 1 = ap part is in omega arith
      apart w e (inr none) = none

  -- latches and covers each have nets of their own
  module _ (v : ℕ) where
    abbrev f : Flat
    f = q.flat v

    latch_there : (ls : List FlatLatch) (k : ℕ) → Among k (map latch_out ls) → 1 ≤ length (flat_map (latch_at k) ls)
    latch_there [] k none = absurd none
    latch_there (l ∷ ls) k (inl is) = omega (arith, length-append (latch_at k l) (flat_map (latch_at k) ls), ap (λ (b : Bool). length {A = Driver ℕ} (if b then from_latch l.init l.input ∷ [] else [])) (eq-eqb l.out k (sym is)))
    latch_there (l ∷ ls) k (inr there) = omega (arith, length-append (latch_at k l) (flat_map (latch_at k) ls), latch_there ls k there)

    latches_once : (ls : List FlatLatch) → ((k : ℕ) → length (flat_map (latch_at k) ls) ≤ 1) → AreOnce (map latch_out ls)
    latches_once [] few = tt
    latches_once (l ∷ ls) few = (
      (λ there. omega (arith, few l.out, length-append (latch_at l.out l) (flat_map (latch_at l.out) ls), ap (λ (b : Bool). length {A = Driver ℕ} (if b then from_latch l.init l.input ∷ [] else [])) (eq-eqb l.out l.out refl), latch_there ls l.out there)),
      latches_once ls (λ k. omega (arith, few k, length-append (latch_at k l) (flat_map (latch_at k) ls))),
    )

    cover_there : (cs : List FlatCover) (k : ℕ) → Among k (map cover_out cs) → 1 ≤ length (flat_map (cover_at k) cs)
    cover_there [] k none = absurd none
    cover_there (c ∷ cs) k (inl is) = omega (arith, length-append (cover_at k c) (flat_map (cover_at k) cs), ap (λ (b : Bool). length {A = Driver ℕ} (if b then from_cover c.cover c.ins ∷ [] else [])) (eq-eqb c.out k (sym is)))
    cover_there (c ∷ cs) k (inr there) = omega (arith, length-append (cover_at k c) (flat_map (cover_at k) cs), cover_there cs k there)

    covers_once : (cs : List FlatCover) → ((k : ℕ) → length (flat_map (cover_at k) cs) ≤ 1) → AreOnce (map cover_out cs)
    covers_once [] few = tt
    covers_once (c ∷ cs) few = (
      (λ there. omega (arith, few c.out, length-append (cover_at c.out c) (flat_map (cover_at c.out) cs), ap (λ (b : Bool). length {A = Driver ℕ} (if b then from_cover c.cover c.ins ∷ [] else [])) (eq-eqb c.out c.out refl), cover_there cs c.out there)),
      covers_once cs (λ k. omega (arith, few k, length-append (cover_at k c) (flat_map (cover_at k) cs))),
    )

    few_latches : (k : ℕ) → length (flat_map (latch_at k) f.latches) ≤ 1
    unfolding flat_drivers
    few_latches k = omega (arith, (con.rules v).once k, length-append (inputs_at k 0 f.ins) (flat_map (latch_at k) f.latches ++ flat_map (cover_at k) f.covers), length-append (flat_map (latch_at k) f.latches) (flat_map (cover_at k) f.covers))

    few_covers : (k : ℕ) → length (flat_map (cover_at k) f.covers) ≤ 1
    unfolding flat_drivers
    few_covers k = omega (arith, (con.rules v).once k, length-append (inputs_at k 0 f.ins) (flat_map (latch_at k) f.latches ++ flat_map (cover_at k) f.covers), length-append (flat_map (latch_at k) f.latches) (flat_map (cover_at k) f.covers))

    once_latch : (l : FlatLatch) → AreOnce (latch_wires v l)
    once_latch l = (apart, ((λ none. none), tt))
      where
        apart : Among (now v l.out) (kept v l.out ∷ []) → ⊥
        apart (inl is) = cc
        apart (inr none) = none

    once_cover : (c : FlatCover) → AreOnce (cover_wires q v c)
    once_cover c = by (q.skips v c.out)
      where
        apart : Among (now v c.out) (later v c.out ∷ []) → ⊥
        apart (inl is) = cc
        apart (inr none) = none

        by : (b : Bool) → AreOnce (cond b [] (now v c.out ∷ later v c.out ∷ []))
        by true = tt
        by false = (apart, ((λ none. none), tt))

    once_shell : AreOnce (shell_wires q v)
    once_shell =
        once_append (flat_map (latch_wires v) f.latches) (flat_map (cover_wires q v) f.covers)
        (once_flat (latch_wires v) latch_out bit f.latches (latches_once f.latches few_latches) (λ l i. once_latch l) (λ l w i there. (latch_of v l w there).1))
        (once_flat (cover_wires q v) cover_out bit f.covers (covers_once f.covers few_covers) (λ c i. once_cover c) (λ c w i there. (cover_of v c w there).1))
        (λ w there also.
        let latch = flat_among {A = FlatLatch} {B = Wire} (latch_wires v) w f.latches there in
        let cover = flat_among {A = FlatCover} {B = Wire} (cover_wires q v) w f.covers also in
        no_latch_cover f (con.rules v) latch.0 latch.1 cover.0 cover.1 (sym (cover_of v cover.0 w cover.2).1 ∙ (latch_of v latch.0 w latch.2).1))

  outer_kind : (w : Wire) → Among w (outer_wires q) → kind w ≡ 0
  outer_kind w among = either w (from_each given 0 q.inputs) outside among
      (λ i. let at = among_each given 0 q.inputs w i in ap kind at.3)
      by
    where
      by : Among w outside → kind w ≡ 0
      by (inl is) = ap kind is
      by (inr (inl is)) = ap kind is
      by (inr (inr (inl is))) = ap kind is
      by (inr (inr (inr (inl is)))) = ap kind is
      by (inr (inr (inr (inr there)))) = let at = among_each shown 0 (length q.shows) w there in ap kind at.3

  stations_kind : (w : Wire) → Among w of_stations → kind w ≡ 1
  stations_kind = kind_is 1 (station_wires q) q.stations (λ s below w i. (station_of s w i).0)

  actors_kind : (w : Wire) → Among w of_actors → kind w ≡ 2
  actors_kind = kind_is 2 (actor_wires q) q.actors (λ v below w i. (actor_of v w i).0)

  shells_kind : (w : Wire) → Among w of_shells → kind w ≡ 3
  shells_kind = kind_is 3 (shell_wires q) q.nodes (λ v below w i. (shell_of v w i).0)

  all_once : AreOnce (wires q)
  all_once =
      once_append (outer_wires q) (of_stations ++ (of_actors ++ of_shells)) once_outer
      (once_append of_stations (of_actors ++ of_shells)
      (once_flat (station_wires q) (λ (s : ℕ). s) owner (from_each (λ s. s) 0 q.stations) (once_range 0 q.stations) (λ s i. once_station s) (λ s w i there. (station_of s w there).1))
      (once_append of_actors of_shells
      (once_flat (actor_wires q) (λ (s : ℕ). s) owner (from_each (λ v. v) 0 q.actors) (once_range 0 q.actors) (λ v i. once_actor v) (λ v w i there. (actor_of v w there).1))
      (once_flat (shell_wires q) (λ (s : ℕ). s) owner (from_each (λ v. v) 0 q.nodes) (once_range 0 q.nodes) (λ v i. once_shell v) (λ v w i there. (shell_of v w there).1))
      (λ w there also. let e = actors_kind w there in let e' = shells_kind w also in omega arith))
      (λ w there also. let e = stations_kind w there in either w of_actors of_shells also (λ i. let e' = actors_kind w i in omega arith) (λ i. let e' = shells_kind w i in omega arith)))
      (λ w there also. let e = outer_kind w there in either w of_stations (of_actors ++ of_shells) also (λ i. let e' = stations_kind w i in omega arith)
      (λ i. either w of_actors of_shells i (λ j. let e' = actors_kind w j in omega arith) (λ j. let e' = shells_kind w j in omega arith)))

  pub are_listed : AreListed q
  are_listed = record { each = λ w. (wire_in w, λ known. known_in w known.0 known.1); once = all_once }
