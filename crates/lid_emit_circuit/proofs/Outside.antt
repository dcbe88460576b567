-- What a circuit shows its environment.
use Rattle.std.proofs.Common.{◌≡◌, ℕ, ◌+◌, ◌<◌, Bool, true, false, not, ◌&&◌, List, [], ◌∷◌, length, map, Some, None, slice_get, refl, sym, ◌∙◌, ap, subst, arith}
use Rattle.std.specs.Prelude.{Option, ◌↔◌}
use Rattle.std.specs.Option.{option_map_or}
use Rattle.std.specs.List.{AllByRecursion}
use Rattle.std.proofs.lemmas.Option.{slice_get_within}
use Rattle.lid_base.specs.Lists.{Among}
use Rattle.lid_base.proofs.Lists.{among_left, among_right, among_map, among_get, get_among}
use Rattle.lid_design.specs.Network.{Table, bit_of, IsStrict}
use Rattle.lid_emit_circuit.specs.Wires.{Wire, shown, valid, stop, ActorEnd, drains, fills}
use Rattle.lid_emit_circuit.specs.Gates.{both}
use Rattle.lid_emit_circuit.specs.Plans.{CircuitPlan, ends}
use Rattle.lid_emit_circuit.specs.Network.{sink, last_link, gate, emitted}
use Rattle.lid_emit_circuit.specs.Runs.{held_by, counts_up}
use Rattle.lid_emit_circuit.specs.Counts.{fired, put_count, taken_count}
use Rattle.lid_emit_circuit.specs.Carried.{IsPlan, Original, IsTaken, IsCarried, holds}
use Rattle.lid_emit_circuit.specs.Laws.{SourceIsStopped, SinkIsServed}
use Rattle.lid_emit_circuit.proofs.Values.{buffer_is, negation_is, both_is}
use Rattle.lid_emit_circuit.proofs.Holding.{is_held, not_held, holds_is}
use Rattle.lid_emit_circuit.proofs.Firing.{lets, all_let, each_lets, one_refuses, Refuses, end_drains, end_fills, room, rises_is}
use Rattle.lid_emit_circuit.proofs.Levels.{levels_show, last_is}
use Rattle.lid_emit_circuit.proofs.Tokens.{taken_is, both_show}

module _ (q : CircuitPlan) (plan : IsPlan q) (rows : List (List Bool)) (b : Table Wire) (strict : IsStrict (emitted q) rows b) (k : ℕ) (below : k < length rows) where
  abbrev put : ℕ → ℕ
  put s = put_count q (fired q rows k) s

  abbrev taken : ℕ → ℕ
  taken s = taken_count q (fired q rows k) s

  abbrev lets_all : ℕ → Bool
  lets_all v = all_let q (fired q rows k) v

  last : (v : ℕ) → v < q.actors → b k (last_link q v) ≡ lets_all v
  last v actor = last_is q plan rows b strict k below (levels_show q plan rows b strict k below) v actor

  pub stop_is : b k stop ≡ not (lets_all 0)
  unfolding emitted
  stop_is = (strict k stop below).0 ∙ negation_is (b k (last_link q 0)) ∙ ap not (last 0 (omega (arith, plan.source, plan.last)))

  pub valid_is : b k valid ≡ lets_all (sink q)
  unfolding emitted
  valid_is = (strict k valid below).0 ∙ buffer_is (b k (last_link q (sink q))) ∙ last (sink q) plan.last

  pub shown_is : (j : ℕ) (wire : Wire) → slice_get q.shows j ≡ Some wire → b k (shown j) ≡ b k valid && b k wire
  unfolding emitted
  shown_is j wire here = by (slice_get q.shows j) here (strict k (shown j) below)
    where
      by : (o : Option Wire) → o ≡ Some wire → AllByRecursion (λ s. b k (shown j) ≡ bit_of rows b k s) (option_map_or (λ wire. gate both (last_link q (sink q) ∷ wire ∷ [])) o []) → b k (shown j) ≡ b k valid && b k wire
      by None is given = absurd (cc)
      by (Some w) is given =
          let same : w ≡ wire = cc in
          given.0 ∙ both_is (b k (last_link q (sink q))) (b k w) ∙ ap (λ (x : Bool). x && b k w) (last (sink q) plan.last ∙ sym valid_is) ∙ ap (λ (x : Wire). b k valid && b k x) same

  end_at : (v : ℕ) (e : ActorEnd) → Among e (ends q v) → (i : ℕ) × (i < length (ends q v)) × (slice_get (ends q v) i ≡ Some e)
  end_at v e there = let at = among_get (ends q v) e there in (at.0, slice_get_within (ends q v) at.0 e at.1, at.1)

  lets_each : (v : ℕ) → lets_all v ≡ true → (e : ActorEnd) → Among e (ends q v) → lets q (fired q rows k) e ≡ true
  lets_each v h e there = let at = end_at v e there in each_lets q (fired q rows k) v (length (ends q v)) h at.0 e at.1 at.2

  full_is : (s : ℕ) → s < q.stations → holds (put s) (taken s) (q.capacity s) ≡ true → put s ≡ taken s + q.capacity s
  full_is s there h = omega (arith, is_held (put s) (taken s) (q.capacity s) h, room q plan rows k s there)

  none_in : (v s : ℕ) → q.ins v ≡ [] → Among s (q.ins v) → ⊥
  none_in v s none there = subst (λ (xs : List ℕ). Among s xs) none there

  stopped : lets_all 0 ≡ false → SourceIsStopped q rows k
  stopped h = by found.end (get_among (ends q 0) found.place found.end found.there) found.refuses
    where
      found : Refuses q (fired q rows k) 0 (length (ends q 0))
      found = one_refuses q (fired q rows k) 0 (length (ends q 0)) h

      by_full : (s : ℕ) → Among s (q.outs 0) → (x : Bool) → holds (put s) (taken s) (q.capacity s) ≡ x → not x ≡ false → SourceIsStopped q rows k
      by_full s there true is no_room = let at = plan.is_out 0 s there in record { station = s; there = at.0; filled = at.1; full = full_is s at.0 is }
      by_full s there false is no_room = absurd (cc)

      by : (e : ActorEnd) → Among e (ends q 0) → lets q (fired q rows k) e ≡ false → SourceIsStopped q rows k
      by (drains s) there refuses = absurd (none_in 0 s plan.source_in (end_drains q plan 0 s there))
      by (fills s) there refuses = by_full s (end_fills q plan 0 s there) (holds (put s) (taken s) (q.capacity s)) refl refuses

  pub tells_stop : b k stop ≡ true ↔ SourceIsStopped q rows k
  tells_stop = (there, back)
    where
      by_all : (x : Bool) → lets_all 0 ≡ x → not x ≡ true → lets_all 0 ≡ false
      by_all true is h = cc
      by_all false is h = is

      there : b k stop ≡ true → SourceIsStopped q rows k
      there h = stopped (by_all (lets_all 0) refl (sym stop_is ∙ h))

      refuses : (s : ℕ) → s < q.stations → q.filler s ≡ 0 → put s ≡ taken s + q.capacity s → (x : Bool) → lets_all 0 ≡ x → x ≡ false
      refuses s at filled full false is = refl
      refuses s at filled full true is =
          let here : Among {A = ActorEnd} (fills s) (ends q 0) = among_right {A = ActorEnd} (fills s) (map drains (q.ins 0)) (map fills (q.outs 0)) (among_map {A = ℕ} {B = ActorEnd} fills s (q.outs 0) (subst (λ (u : ℕ). Among s (q.outs u)) filled (plan.out_there s at))) in
          let room_left : not (holds (put s) (taken s) (q.capacity s)) ≡ true = lets_each 0 is (fills s) here in
          let none_left : not (holds (put s) (taken s) (q.capacity s)) ≡ false = ap not (holds_is (put s) (taken s) (q.capacity s) (omega (arith, full))) in
          sym room_left ∙ none_left

      back : SourceIsStopped q rows k → b k stop ≡ true
      back stops = stop_is ∙ ap not (refuses stops.station stops.there stops.filled stops.full (lets_all 0) refl)

  pub tells_rows : b k valid ≡ true ↔ SinkIsServed q rows k
  tells_rows = (there, back)
    where
      there : b k valid ≡ true → SinkIsServed q rows k
      there h s at drained =
          let here : Among {A = ActorEnd} (drains s) (ends q (sink q)) = among_left {A = ActorEnd} (drains s) (map drains (q.ins (sink q))) (map fills (q.outs (sink q))) (among_map {A = ℕ} {B = ActorEnd} drains s (q.ins (sink q)) (subst (λ (u : ℕ). Among s (q.ins u)) drained (plan.in_there s at))) in
          omega (arith, is_held (put s) (taken s) 1 (lets_each (sink q) (sym valid_is ∙ h) (drains s) here))

      none : SinkIsServed q rows k → (e : ActorEnd) → Among e (ends q (sink q)) → lets q (fired q rows k) e ≡ false → ⊥
      none served (drains s) here refuses =
          let at = plan.is_in (sink q) s (end_drains q plan (sink q) s here) in
          omega (arith, not_held (put s) (taken s) 1 refuses, served s at.0 at.1)
      none served (fills s) here refuses = none_out s (end_fills q plan (sink q) s here)
        where
          none_out : (s : ℕ) → Among s (q.outs (sink q)) → ⊥
          none_out s there = subst (λ (xs : List ℕ). Among s xs) plan.sink_out there

      by : (x : Bool) → lets_all (sink q) ≡ x → SinkIsServed q rows k → x ≡ true
      by true is served = refl
      by false is served =
          let found = one_refuses q (fired q rows k) (sink q) (length (ends q (sink q))) is in
          absurd (none served found.end (get_among (ends q (sink q)) found.place found.end found.there) found.refuses)

      back : SinkIsServed q rows k → b k valid ≡ true
      back served = valid_is ∙ by (lets_all (sink q)) refl served

  pub is_quiet : (j : ℕ) (wire : Wire) → slice_get q.shows j ≡ Some wire → b k valid ≡ false → b k (shown j) ≡ false
  is_quiet j wire here void = shown_is j wire here ∙ ap (λ (x : Bool). x && b k wire) void

  -- a sink that fires is served
  fires_served : counts_up (fired q rows) (sink q) k ≡ true → b k valid ≡ true
  fires_served rising = valid_is ∙ and_right (not (held_by q.inputs (sink q) rows k (sink q))) (lets_all (sink q)) (sym (rises_is q plan rows k (sink q) plan.last) ∙ rising)
    where
      and_right : (x y : Bool) → x && y ≡ true → y ≡ true
      and_right true y h = h
      and_right false y h = cc

  pub gives_row : (o : Original) (j : ℕ) (wire : Wire) (bits : ℕ → Bool) → IsCarried q rows o → slice_get q.shows j ≡ Some wire → IsTaken q o (sink q) wire bits
      → counts_up (fired q rows) (sink q) k ≡ true → fired q rows k (sink q) < o.rows → b k (shown j) ≡ bits (fired q rows k (sink q))
  gives_row o j wire bits carried here takes rising within =
      let both_hold = both_show q plan rows b strict o carried k below in
      shown_is j wire here
      ∙ ap (λ (x : Bool). x && b k wire) (fires_served rising)
      ∙ taken_is q plan rows b strict o carried k below both_hold.0 both_hold.1 (sink q) wire bits takes rising within
