-- Who fires: an actor whose ends all let it, and that is not held.
use Rattle.std.proofs.Common.{◌≡◌, ℕ, zero, suc, ◌+◌, ◌-◌, ◌<◌, ◌≤◌, ◌⊎◌, inl, inr, Bool, true, false, not, ◌&&◌, List, length, map, Some, None, slice_get, refl, sym, ◌∙◌, ap, subst, arith}
use Rattle.std.specs.Prelude.{Option, nat_lt}
use Rattle.std.specs.Option.{option_map_or}
use Rattle.std.proofs.lemmas.Bool.{cases_lt, lt-ltb, le-ltb, not-true, not-false, and_parts, and_cases}
use Rattle.std.proofs.lemmas.Option.{slice_get_within}
use Rattle.lid_base.specs.Lists.{Among}
use Rattle.lid_base.proofs.Lists.{among_append, map_among, get_among, among_left, among_right, among_map, among_get}
use Rattle.lid_graph.specs.Firings.{Counts, Hold, least_into}
use Rattle.lid_graph.proofs.Counting.{least_into_most}
use Rattle.lid_emit_circuit.specs.Wires.{ActorEnd, drains, fills}
use Rattle.lid_emit_circuit.specs.Plans.{CircuitPlan, ends}
use Rattle.lid_emit_circuit.specs.Network.{sink}
use Rattle.lid_emit_circuit.specs.Runs.{held_by, counts_up}
use Rattle.lid_emit_circuit.specs.Counts.{graph, fired, put_count, taken_count}
use Rattle.lid_emit_circuit.specs.Carried.{IsPlan, holds}
use Rattle.lid_emit_circuit.proofs.Counts.{least_among, least_above, allows, never_falls, stays, comes}
use Rattle.lid_emit_circuit.proofs.Edges.{forth, back, forth_there, back_there, each_edge}
use Rattle.lid_emit_circuit.proofs.Holding.{is_held, not_held, risen}

-- an end lets its actor fire
abbrev pub lets : CircuitPlan → Counts → ActorEnd → Bool
lets q counts (drains s) = holds (put_count q counts s) (taken_count q counts s) 1
lets q counts (fills s) = not (holds (put_count q counts s) (taken_count q counts s) (q.capacity s))

-- the first i ends do
abbrev pub first_let : CircuitPlan → Counts → ℕ → ℕ → Bool
first_let q counts v zero = true
first_let q counts v (suc i) = first_let q counts v i && option_map_or (lets q counts) (slice_get (ends q v) i) true

abbrev pub all_let : CircuitPlan → Counts → ℕ → Bool
all_let q counts v = first_let q counts v (length (ends q v))

module _ (q : CircuitPlan) (counts : Counts) (v : ℕ) where
  pub each_lets : (n : ℕ) → first_let q counts v n ≡ true → (i : ℕ) (e : ActorEnd) → i < n → slice_get (ends q v) i ≡ Some e → lets q counts e ≡ true
  each_lets zero h i e below here = absurd (omega arith)
  each_lets (suc n) h i e below here = by (cases_lt i n) (λ less. each_lets n (and_parts _ _ h).0 i e less here)
    where
      by : (i < n) ⊎ (n ≤ i) → (i < n → lets q counts e ≡ true) → lets q counts e ≡ true
      by (inl less) before = before less
      by (inr most) before =
          let same : n ≡ i = omega arith in
          let there : slice_get (ends q v) n ≡ Some e = ap (slice_get (ends q v)) same ∙ here in
          sym (ap (λ (o : Option ActorEnd). option_map_or (lets q counts) o true) there) ∙ (and_parts _ _ h).1

  pub record Refuses (n : ℕ) : Type 0 where
    pub place : ℕ
    pub end : ActorEnd
    pub there : slice_get (ends q v) place ≡ Some end
    pub refuses : lets q counts end ≡ false

  pub one_refuses : (n : ℕ) → first_let q counts v n ≡ false → Refuses n
  one_refuses zero h = cc
  one_refuses (suc n) h = by (and_cases _ _ h) (λ before. one_refuses n before)
    where
      at : (o : Option ActorEnd) → slice_get (ends q v) n ≡ o → option_map_or (lets q counts) o true ≡ false → Refuses (suc n)
      at (Some e) here is = record { place = n; end = e; there = here; refuses = is }
      at None here is = cc

      by : (first_let q counts v n ≡ false) ⊎ (option_map_or (lets q counts) (slice_get (ends q v) n) true ≡ false) → (first_let q counts v n ≡ false → Refuses n) → Refuses (suc n)
      by (inl before) earlier = let found = earlier before in record { place = found.place; end = found.end; there = found.there; refuses = found.refuses }
      by (inr here) earlier = at (slice_get (ends q v) n) refl here

module _ (q : CircuitPlan) (plan : IsPlan q) where
  -- the ends of an actor are those of the stations
  pub end_drains : (v s : ℕ) → Among {A = ActorEnd} (drains s) (ends q v) → Among s (q.ins v)
  end_drains v s there = by (among_append (drains s) (map drains (q.ins v)) (map fills (q.outs v)) there)
    where
      same_end : (r : ℕ) → Among r (q.ins v) → drains s ≡ drains r → Among s (q.ins v)
      same_end r here same = let e : s ≡ r = cc in subst (λ (x : ℕ). Among x (q.ins v)) (sym e) here

      by : Among {A = ActorEnd} (drains s) (map drains (q.ins v)) ⊎ Among {A = ActorEnd} (drains s) (map fills (q.outs v)) → Among s (q.ins v)
      by (inl here) = let found = map_among {A = ℕ} {B = ActorEnd} drains (drains s) (q.ins v) here in same_end found.0 found.1 found.2
      by (inr here) = let found = map_among {A = ℕ} {B = ActorEnd} fills (drains s) (q.outs v) here in absurd (let e : drains s ≡ fills found.0 = found.2 in cc)

  pub end_fills : (v s : ℕ) → Among {A = ActorEnd} (fills s) (ends q v) → Among s (q.outs v)
  end_fills v s there = by (among_append (fills s) (map drains (q.ins v)) (map fills (q.outs v)) there)
    where
      same_end : (r : ℕ) → Among r (q.outs v) → fills s ≡ fills r → Among s (q.outs v)
      same_end r here same = let e : s ≡ r = cc in subst (λ (x : ℕ). Among x (q.outs v)) (sym e) here

      by : Among {A = ActorEnd} (fills s) (map drains (q.ins v)) ⊎ Among {A = ActorEnd} (fills s) (map fills (q.outs v)) → Among s (q.outs v)
      by (inl here) = let found = map_among {A = ℕ} {B = ActorEnd} drains (fills s) (q.ins v) here in absurd (let e : fills s ≡ drains found.0 = found.2 in cc)
      by (inr here) = let found = map_among {A = ℕ} {B = ActorEnd} fills (fills s) (q.outs v) here in same_end found.0 found.1 found.2

  module _ (rows : List (List Bool)) where
    abbrev held : Hold
    held = held_by q.inputs (sink q) rows

    -- a station holds at least none, and at most its capacity
    pub ordered : (k s : ℕ) → s < q.stations → taken_count q (fired q rows k) s ≤ put_count q (fired q rows k) s
    ordered k s there = allows (graph q) held k (forth q s) (forth_there q s there)

    pub room : (k s : ℕ) → s < q.stations → put_count q (fired q rows k) s ≤ taken_count q (fired q rows k) s + q.capacity s
    room k s there =
        let edge : fired q rows k (q.filler s) ≤ fired q rows k (q.drainer s) + (q.capacity s - q.first s) = allows (graph q) held k (back q s) (back_there q s there) in
        omega (arith, plan.room s there, plan.few s)

    module _ (k v : ℕ) (actor : v < q.actors) where
      abbrev counts : Counts
      counts = fired q rows k

      end_at : (e : ActorEnd) → Among e (ends q v) → (i : ℕ) × (i < length (ends q v)) × (slice_get (ends q v) i ≡ Some e)
      end_at e there = let at = among_get (ends q v) e there in (at.0, slice_get_within (ends q v) at.0 e at.1, at.1)

      -- what all ends let
      lets_each : all_let q counts v ≡ true → (e : ActorEnd) → Among e (ends q v) → lets q counts e ≡ true
      lets_each h e there = let at = end_at e there in each_lets q counts v (length (ends q v)) h at.0 e at.1 at.2

      fires_once : held k v ≡ false → all_let q counts v ≡ true → fired q rows (suc k) v ≡ counts v + 1
      fires_once free all =
          let least : counts v + 1 ≤ least_into (graph q).edges counts v (counts v + 1) = least_above (graph q).edges counts v (counts v + 1) (counts v + 1) (omega arith) (each_edge q (λ e. e.to ≡ v → counts v + 1 ≤ counts e.from + e.tokens) along backward self) in
          omega (arith, comes (graph q) held k v free, least_into_most (graph q).edges counts v (counts v + 1))
        where
          along : (s : ℕ) → s < q.stations → q.drainer s ≡ v → counts v + 1 ≤ counts (q.filler s) + q.first s
          along s there is =
              let same : counts (q.drainer s) ≡ counts v = ap counts is in
              let here : Among {A = ActorEnd} (drains s) (ends q v) = among_left {A = ActorEnd} (drains s) (map drains (q.ins v)) (map fills (q.outs v)) (among_map {A = ℕ} {B = ActorEnd} drains s (q.ins v) (subst (λ (u : ℕ). Among s (q.ins u)) is (plan.in_there s there))) in
              omega (arith, is_held (put_count q counts s) (taken_count q counts s) 1 (lets_each all (drains s) here))

          backward : (s : ℕ) → s < q.stations → q.filler s ≡ v → counts v + 1 ≤ counts (q.drainer s) + (q.capacity s - q.first s)
          backward s there is =
              let same : counts (q.filler s) ≡ counts v = ap counts is in
              let here : Among {A = ActorEnd} (fills s) (ends q v) = among_right {A = ActorEnd} (fills s) (map drains (q.ins v)) (map fills (q.outs v)) (among_map {A = ℕ} {B = ActorEnd} fills s (q.outs v) (subst (λ (u : ℕ). Among s (q.outs u)) is (plan.out_there s there))) in
              omega (arith, not_held (put_count q counts s) (taken_count q counts s) (q.capacity s) (not-true _ (lets_each all (fills s) here)), plan.room s there, plan.few s)

          self : (u : ℕ) → u < q.actors → u ≡ v → counts v + 1 ≤ counts u + 1
          self u h is = let same : counts u ≡ counts v = ap counts is in omega arith

      kept_back : (e : ActorEnd) → Among e (ends q v) → lets q counts e ≡ false → least_into (graph q).edges counts v (counts v + 1) ≤ counts v
      kept_back (drains s) there refuses =
          let at = plan.is_in v s (end_drains v s there) in
          let same : counts (q.drainer s) ≡ counts v = ap counts at.1 in
          omega (arith, not_held (put_count q counts s) (taken_count q counts s) 1 refuses, least_among (graph q).edges counts v (counts v + 1) (forth q s) (forth_there q s at.0) at.1)
      kept_back (fills s) there refuses =
          let at = plan.is_out v s (end_fills v s there) in
          let same : counts (q.filler s) ≡ counts v = ap counts at.1 in
          omega (arith, is_held (put_count q counts s) (taken_count q counts s) (q.capacity s) (not-false _ refuses), least_among (graph q).edges counts v (counts v + 1) (back q s) (back_there q s at.0) at.1, plan.room s at.0, plan.few s)

      rests : held k v ≡ false → all_let q counts v ≡ false → fired q rows (suc k) v ≡ counts v
      rests free some =
          let found = one_refuses q counts v (length (ends q v)) some in
          omega (arith, comes (graph q) held k v free, kept_back found.end (get_among (ends q v) found.place found.end found.there) found.refuses, never_falls (graph q) held k v)

      -- an actor fires where it is not held and all its ends let it
      abbrev pub firing : Bool
      firing = not (held k v) && all_let q counts v

      pub goes : fired q rows (suc k) v ≡ risen firing (counts v)
      goes = by (held k v) (all_let q counts v) refl refl
        where
          by : (h a : Bool) → held k v ≡ h → all_let q counts v ≡ a → fired q rows (suc k) v ≡ risen (not h && a) (counts v)
          by true a is all = stays (graph q) held k v is
          by false true is all = fires_once is all
          by false false is all = rests is all

      pub rises_is : counts_up (fired q rows) v k ≡ firing
      rises_is = by (held k v) (all_let q counts v) refl refl
        where
          by : (h a : Bool) → held k v ≡ h → all_let q counts v ≡ a → nat_lt (counts v) (fired q rows (suc k) v) ≡ not h && a
          by true a is all = le-ltb (counts v) (fired q rows (suc k) v) (omega (arith, stays (graph q) held k v is))
          by false true is all = lt-ltb (counts v) (fired q rows (suc k) v) (omega (arith, fires_once is all))
          by false false is all = le-ltb (counts v) (fired q rows (suc k) v) (omega (arith, rests is all))
