-- Sums of weights over the wires of a plan, where those of single wires have bounds.
use Rattle.std.proofs.Common.{◌≡◌, ℕ, zero, suc, ◌+◌, ◌*◌, ◌<◌, ◌≤◌, Bool, true, false, cond, List, [], ◌∷◌, ◌++◌, length, inl, inr, refl, sym, ◌∙◌, ap, mul-suc, arith}
use Rattle.std.specs.List.{flat_map, sum_by}
use Rattle.std.proofs.lemmas.List.Sums.{sum_by-cons, sum_by-append}
use Rattle.lid_base.specs.Lists.{Among}
use Rattle.lid_design.specs.declared.Flat.{Flat}
use Rattle.lid_design.specs.declared.FlatLatch.{FlatLatch}
use Rattle.lid_design.specs.declared.FlatCover.{FlatCover}
use Rattle.lid_base.specs.Each.{from_each}
use Rattle.lid_check_rules.specs.Buffers.{passes_on}
use Rattle.lid_emit_circuit.specs.Wires.{Wire, may, fire, level, grown, place, moved, now, kept, later}
use Rattle.lid_emit_circuit.specs.Plans.{CircuitPlan, ends}
use Rattle.lid_emit_circuit.specs.Lists.{outer_wires, bit_wires, station_wires, actor_wires, latch_wires, cover_wires, shell_wires, wires}
use Rattle.lid_check_laws.proofs.Totals.{total}
use Rattle.lid_emit_laws.proofs.Parts.{cover_size, latch_size, flat_size}

module _ (weight : Wire → ℕ) where
  abbrev pub weights : List Wire → ℕ
  weights ws = sum_by weight ws

  pub two_weights : (xs ys : List Wire) → weights (xs ++ ys) ≡ weights xs + weights ys
  two_weights xs ys = sum_by-append weight xs ys

  -- so many wires of one kind
  pub kind_weight : (most : ℕ) (wire : ℕ → Wire) → ((j : ℕ) → weight (wire j) ≤ most) → (k n : ℕ) → weights (from_each wire k n) ≤ most * n
  kind_weight most wire each k zero = omega arith
  kind_weight most wire each k (suc n) =
      let whole = sum_by-cons weight (wire k) (from_each wire (k + 1) n) in
      let here = each k in
      let later = kind_weight most wire each (k + 1) n in
      let product = mul-suc most n in
      omega arith

  -- the wires of so many nodes, actors or stations, by the sizes of these
  pub each_weight : (wires_of : ℕ → List Wire) (size : ℕ → ℕ) (spare most more k n : ℕ) → ((j : ℕ) → k ≤ j → j < k + n → weights (wires_of j) + spare ≤ most * size j + more) → weights (flat_map wires_of (from_each (λ j. j) k n)) + spare * n ≤ most * total size k n + more * n
  each_weight wires_of size spare most more k zero each = omega arith
  each_weight wires_of size spare most more k (suc n) each =
      let whole = two_weights (wires_of k) (flat_map wires_of (from_each (λ j. j) (k + 1) n)) in
      let here = each k (omega arith) (omega arith) in
      let later = each_weight wires_of size spare most more (k + 1) n (λ j low high. each j (omega arith) (omega arith)) in
      let a = mul-suc spare n in
      let b = mul-suc more n in
      omega arith

  module _ (q : CircuitPlan) where
    pub all_weights : weights (wires q) ≡ weights (outer_wires q) + weights (flat_map (station_wires q) (from_each (λ s. s) 0 q.stations)) + weights (flat_map (actor_wires q) (from_each (λ v. v) 0 q.actors)) + weights (flat_map (shell_wires q) (from_each (λ v. v) 0 q.nodes))
    all_weights =
        let stations = flat_map (station_wires q) (from_each (λ s. s) 0 q.stations) in
        let actors = flat_map (actor_wires q) (from_each (λ v. v) 0 q.actors) in
        let shells = flat_map (shell_wires q) (from_each (λ v. v) 0 q.nodes) in
        let a = two_weights (outer_wires q) (stations ++ (actors ++ shells)) in
        let b = two_weights stations (actors ++ shells) in
        let c = two_weights actors shells in
        omega arith

    pub actor_weight : (v each last : ℕ) → ((i : ℕ) → weight (may v i) ≤ each) → weight (fire v) ≤ last → weights (actor_wires q v) ≤ each * (length (ends q v) + 1) + last
    actor_weight v each last mays fires =
        let a = two_weights (from_each (may v) 0 (length (ends q v) + 1)) (fire v ∷ []) in
        let b = sum_by-cons weight (fire v) [] in
        let all = kind_weight each (may v) mays 0 (length (ends q v) + 1) in
        omega arith

    module _ (s a b c e : ℕ) (levels : (i : ℕ) → weight (level s i) ≤ a) (grows : (i : ℕ) → weight (grown s i) ≤ b) (places : (i j : ℕ) → weight (place s i j) ≤ c) (moves : (i j : ℕ) → j < q.width s → weight (moved s i j) ≤ e) where
      bit_weight : (j : ℕ) → j < q.width s → weights (bit_wires q s j) ≤ c * (q.capacity s + 1) + e * q.capacity s
      bit_weight j within =
          let both = two_weights (from_each (λ i. place s i j) 0 (q.capacity s + 1)) (from_each (λ i. moved s i j) 0 (q.capacity s)) in
          let first = kind_weight c (λ i. place s i j) (λ i. places i j) 0 (q.capacity s + 1) in
          let second = kind_weight e (λ i. moved s i j) (λ i. moves i j within) 0 (q.capacity s) in
          omega arith

      bits_weight : (k w : ℕ) → k + w ≤ q.width s → weights (flat_map (bit_wires q s) (from_each (λ j. j) k w)) ≤ (c * (q.capacity s + 1) + e * q.capacity s) * w
      bits_weight k zero inside = omega arith
      bits_weight k (suc w) inside =
          let both = two_weights (bit_wires q s k) (flat_map (bit_wires q s) (from_each (λ j. j) (k + 1) w)) in
          let here = bit_weight k (omega arith) in
          let later = bits_weight (k + 1) w (omega arith) in
          let product = mul-suc (c * (q.capacity s + 1) + e * q.capacity s) w in
          omega arith

      pub station_weight : weights (station_wires q s) ≤ a * (q.capacity s + 2) + b * q.capacity s + (c * (q.capacity s + 1) + e * q.capacity s) * q.width s
      station_weight =
          let bits = flat_map (bit_wires q s) (from_each (λ j. j) 0 (q.width s)) in
          let first = two_weights (from_each (level s) 0 (q.capacity s + 2)) (from_each (grown s) 1 (q.capacity s) ++ bits) in
          let second = two_weights (from_each (grown s) 1 (q.capacity s)) bits in
          let at_levels = kind_weight a (level s) levels 0 (q.capacity s + 2) in
          let at_grown = kind_weight b (grown s) grows 1 (q.capacity s) in
          let at_bits = bits_weight 0 (q.width s) (omega arith) in
          omega arith

    -- the wires of a shell, two for each latch, and two for each cover that does not pass on its input
    module _ (v most : ℕ) (skips : (c : FlatCover) → Among c (q.flat v).covers → q.skips v c.out ≡ passes_on c.cover)
        (latch : (l : FlatLatch) → Among l (q.flat v).latches → weight (now v l.out) + weight (kept v l.out) ≤ most)
        (cover : (c : FlatCover) → Among c (q.flat v).covers → weight (now v c.out) + weight (later v c.out) ≤ most * (1 + length c.ins + length c.cover.cubes)) where
      abbrev f : Flat
      f = q.flat v

      two_weigh : (x y : Wire) → weights (x ∷ y ∷ []) ≡ weight x + weight y
      two_weigh x y =
          let a = sum_by-cons weight x (y ∷ []) in
          let b = sum_by-cons weight y [] in
          omega arith

      latch_weight : (l : FlatLatch) → Among l f.latches → weights (latch_wires v l) ≤ most
      latch_weight l there = let two = two_weigh (now v l.out) (kept v l.out) in let few = latch l there in omega arith

      cover_weight : (c : FlatCover) → Among c f.covers → weights (cover_wires q v c) ≤ most * cover_size c
      cover_weight c there = by (q.skips v c.out) refl
        where
          by : (b : Bool) → q.skips v c.out ≡ b → weights (cond b [] (now v c.out ∷ later v c.out ∷ [])) ≤ most * cover_size c
          by true e = omega arith
          by false e =
              let size : cover_size c ≡ 1 + length c.ins + length c.cover.cubes = ap (λ (b : Bool). cond {A = ℕ} b 0 (1 + length c.ins + length c.cover.cubes)) (sym (skips c there) ∙ e) in
              let scaled : most * cover_size c ≡ most * (1 + length c.ins + length c.cover.cubes) = ap (λ (n : ℕ). most * n) size in
              let two = two_weigh (now v c.out) (later v c.out) in
              let few = cover c there in
              omega arith

      latches_weight : (ls : List FlatLatch) → ((l : FlatLatch) → Among l ls → Among l f.latches) → weights (flat_map (latch_wires v) ls) ≤ most * sum_by latch_size ls
      latches_weight [] inside = omega arith
      latches_weight (l ∷ ls) inside =
          let both = two_weights (latch_wires v l) (flat_map (latch_wires v) ls) in
          let size : sum_by latch_size (l ∷ ls) ≡ 1 + sum_by latch_size ls = sum_by-cons latch_size l ls in
          let scaled : most * sum_by latch_size (l ∷ ls) ≡ most * (1 + sum_by latch_size ls) = ap (λ (n : ℕ). most * n) size in
          let here = latch_weight l (inside l (inl refl)) in
          let rest = latches_weight ls (λ x i. inside x (inr i)) in
          omega arith

      covers_weight : (cs : List FlatCover) → ((c : FlatCover) → Among c cs → Among c f.covers) → weights (flat_map (cover_wires q v) cs) ≤ most * sum_by cover_size cs
      covers_weight [] inside = omega arith
      covers_weight (c ∷ cs) inside =
          let both = two_weights (cover_wires q v c) (flat_map (cover_wires q v) cs) in
          let size : sum_by cover_size (c ∷ cs) ≡ cover_size c + sum_by cover_size cs = sum_by-cons cover_size c cs in
          let scaled : most * sum_by cover_size (c ∷ cs) ≡ most * (cover_size c + sum_by cover_size cs) = ap (λ (n : ℕ). most * n) size in
          let here = cover_weight c (inside c (inl refl)) in
          let rest = covers_weight cs (λ x i. inside x (inr i)) in
          omega arith

      pub shell_weight : weights (shell_wires q v) ≤ most * flat_size f
      shell_weight =
          let both = two_weights (flat_map (latch_wires v) f.latches) (flat_map (cover_wires q v) f.covers) in
          let latches = latches_weight f.latches (λ l i. i) in
          let covers = covers_weight f.covers (λ c i. i) in
          omega arith
