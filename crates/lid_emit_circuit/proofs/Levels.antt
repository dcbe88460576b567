-- The levels of stations show what they hold, and the wires of actors who fires.
use Rattle.std.proofs.Common.{◌≡◌, ℕ, zero, suc, ◌+◌, ◌<◌, ◌≤◌, ◌==◌, ◌⊎◌, inl, inr, Bool, true, false, not, ◌&&◌, ◌||◌, cond, List, [], ◌∷◌, length, Some, None, slice_get, refl, sym, ◌∙◌, ap, subst, arith}
use Rattle.std.specs.Prelude.{Option, nat_lt}
use Rattle.std.specs.Option.{option_map_or}
use Rattle.std.specs.List.{AllByRecursion}
use Rattle.std.proofs.lemmas.Bool.{cases_lt, lt-ltb, le-ltb, eqb-true, eq-eqb}
use Rattle.lid_base.proofs.Lists.{get_among}
use Rattle.lid_design.specs.Network.{Driver, Table, bit_of, latch_bit, IsStrict}
use Rattle.lid_graph.specs.Firings.{Counts}
use Rattle.lid_emit_circuit.specs.Wires.{Wire, offer, block, may, fire, level, grown, ActorEnd, drains, fills}
use Rattle.lid_emit_circuit.specs.Gates.{constant, buffer, both, without, count, count_value}
use Rattle.lid_emit_circuit.specs.Plans.{CircuitPlan, ends}
use Rattle.lid_emit_circuit.specs.Network.{sink, last_link, link, gate, flop, emitted}
use Rattle.lid_emit_circuit.specs.Runs.{held_by, counts_up, row_bit}
use Rattle.lid_emit_circuit.specs.Counts.{graph, fired, put_count, taken_count}
use Rattle.lid_emit_circuit.specs.Carried.{IsPlan, holds, ShowsLevels}
use Rattle.lid_emit_circuit.proofs.Values.{constant_is, buffer_is, both_is, without_is, count_is}
use Rattle.lid_emit_circuit.proofs.Counts.{begins_at}
use Rattle.lid_emit_circuit.proofs.Holding.{holds_is, holds_not, risen, counted}
use Rattle.lid_emit_circuit.proofs.Firing.{lets, first_let, all_let, end_drains, end_fills, ordered, room, firing, goes, rises_is}

none_within : {A : Type 0} (xs : List A) (i : ℕ) → slice_get xs i ≡ None → i < length xs → ⊥
none_within [] i none h = omega arith
none_within (x ∷ xs) zero none h = let e : Some x ≡ None = none in cc
none_within (x ∷ xs) (suc i) none h = none_within xs i none (omega arith)

module _ (q : CircuitPlan) (plan : IsPlan q) (rows : List (List Bool)) (b : Table Wire) (strict : IsStrict (emitted q) rows b) where
  -- what drives a wire gives it its bit
  abbrev Gives : ℕ → Wire → List (Driver Wire) → Type 0
  Gives k w sources = AllByRecursion (λ s. b k w ≡ bit_of rows b k s) sources

  module _ (k : ℕ) (below : k < length rows) where
    abbrev counts : Counts
    counts = fired q rows k

    offer_is : b k offer ≡ row_bit rows k q.inputs
    unfolding emitted
    offer_is = (strict k offer below).0

    block_is : b k block ≡ row_bit rows k (q.inputs + 1)
    unfolding emitted
    block_is = (strict k block below).0

    module _ (shows : ShowsLevels q rows b k) where
      module _ (v : ℕ) (actor : v < q.actors) where
        -- along the ends of an actor
        end_is : (i : ℕ) (e : ActorEnd) → slice_get (ends q v) i ≡ Some e → (there : Bool) → there ≡ true
            → Gives k (may v (suc i)) (cond there (link q v i e) []) → b k (may v i) ≡ first_let q counts v i → b k (may v (suc i)) ≡ first_let q counts v i && lets q counts e
        end_is i (drains s) here false is given before = cc
        end_is i (drains s) here true is given before =
            let at = plan.is_in v s (end_drains q plan v s (get_among (ends q v) i (drains s) here)) in
            given.0 ∙ both_is (b k (may v i)) (b k (level s 1)) ∙ ap (λ (x : Bool). x && b k (level s 1)) before ∙ ap (λ (x : Bool). first_let q counts v i && x) (shows s 1 at.0 (omega (arith, plan.room s at.0)))
        end_is i (fills s) here false is given before = cc
        end_is i (fills s) here true is given before =
            let at = plan.is_out v s (end_fills q plan v s (get_among (ends q v) i (fills s) here)) in
            given.0 ∙ without_is (b k (may v i)) (b k (level s (q.capacity s))) ∙ ap (λ (x : Bool). x && not (b k (level s (q.capacity s)))) before ∙ ap (λ (x : Bool). first_let q counts v i && not x) (shows s (q.capacity s) at.0 (omega arith))

        next_is : (i : ℕ) (o : Option ActorEnd) → slice_get (ends q v) i ≡ o → i < length (ends q v)
            → Gives k (may v (suc i)) (cond (nat_lt v q.actors) (option_map_or (link q v i) o []) []) → b k (may v i) ≡ first_let q counts v i → b k (may v (suc i)) ≡ first_let q counts v i && option_map_or (lets q counts) o true
        next_is i None here within given before = absurd (none_within (ends q v) i here within)
        next_is i (Some e) here within given before = end_is i e here (nat_lt v q.actors) (lt-ltb v q.actors actor) given before

        may_is : (i : ℕ) → i ≤ length (ends q v) → b k (may v i) ≡ first_let q counts v i
        unfolding emitted
        may_is zero within = begins (nat_lt v q.actors) (lt-ltb v q.actors actor) (strict k (may v zero) below)
          where
            begins : (there : Bool) → there ≡ true → Gives k (may v zero) (cond there (gate (constant true) []) []) → b k (may v zero) ≡ true
            begins true is given = given.0 ∙ constant_is true
            begins false is given = cc
        may_is (suc i) within = next_is i (slice_get (ends q v) i) refl within (strict k (may v (suc i)) below) (may_is i (omega arith))

        pub last_is : b k (last_link q v) ≡ all_let q counts v
        last_is = may_is (length (ends q v)) (omega arith)

        by_role : (there first last : Bool) → there ≡ true → (first ≡ true → last ≡ true → ⊥)
            → Gives k (fire v) (cond there (cond first (gate both (last_link q v ∷ offer ∷ [])) (cond last (gate without (last_link q v ∷ block ∷ [])) (gate buffer (last_link q v ∷ [])))) [])
            → b k (fire v) ≡ not ((first && not (row_bit rows k q.inputs)) || (last && row_bit rows k (q.inputs + 1))) && all_let q counts v
        by_role false first last is apart given = cc
        by_role true true true is apart given = absurd (apart refl refl)
        by_role true true false is apart given = given.0 ∙ both_is (b k (last_link q v)) (b k offer) ∙ ap (λ (x : Bool). x && b k offer) last_is ∙ ap (λ (x : Bool). all_let q counts v && x) offer_is ∙ alone (all_let q counts v) (row_bit rows k q.inputs)
          where
            alone : (x y : Bool) → x && y ≡ not (not y || false) && x
            alone true true = refl
            alone true false = refl
            alone false true = refl
            alone false false = refl
        by_role true false true is apart given = given.0 ∙ without_is (b k (last_link q v)) (b k block) ∙ ap (λ (x : Bool). x && not (b k block)) last_is ∙ ap (λ (x : Bool). all_let q counts v && not x) block_is ∙ alone (all_let q counts v) (row_bit rows k (q.inputs + 1))
          where
            alone : (x y : Bool) → x && not y ≡ not y && x
            alone true true = refl
            alone true false = refl
            alone false true = refl
            alone false false = refl
        by_role true false false is apart given = given.0 ∙ buffer_is (b k (last_link q v)) ∙ last_is

        pub fire_is : b k (fire v) ≡ counts_up (fired q rows) v k
        unfolding emitted
        fire_is =
            by_role (nat_lt v q.actors) (v == 0) (v == sink q) (lt-ltb v q.actors actor) apart (strict k (fire v) below)
            ∙ sym (rises_is q plan rows k v actor)
          where
            apart : (v == 0) ≡ true → (v == sink q) ≡ true → ⊥
            apart first last = let e = eqb-true v 0 first in let e' = eqb-true v (sink q) last in omega (arith, plan.source)

  -- a level is the first or past the last, or a latch has it
  module _ (s : ℕ) (there : s < q.stations) where
    abbrev put : ℕ → ℕ
    put k = put_count q (fired q rows k) s

    abbrev taken : ℕ → ℕ
    taken k = taken_count q (fired q rows k) s

    lowest : (k : ℕ) → k < length rows → b k (level s zero) ≡ holds (put k) (taken k) zero
    unfolding emitted
    lowest k below = by (nat_lt s q.stations) (lt-ltb s q.stations there) (strict k (level s zero) below)
      where
        by : (in_range : Bool) → in_range ≡ true → Gives k (level s zero) (cond in_range (gate (constant true) []) []) → b k (level s zero) ≡ holds (put k) (taken k) zero
        by true is given = given.0 ∙ constant_is true ∙ sym (holds_is (put k) (taken k) zero (omega (arith, ordered q plan rows k s there)))
        by false is given = cc

    abbrev Sources : ℕ → Bool → Bool → Bool → List (Driver Wire)
    Sources i in_range kept past = cond in_range (cond kept (flop (not (nat_lt (q.first s) (suc i))) (grown s (suc i))) (cond past (gate (constant false) []) [])) []

    highest : (k i : ℕ) → k < length rows → i ≡ q.capacity s → b k (level s (suc i)) ≡ holds (put k) (taken k) (suc i)
    unfolding emitted
    highest k i below is = by (nat_lt s q.stations) (nat_lt i (q.capacity s)) (i == q.capacity s) (lt-ltb s q.stations there) (le-ltb i (q.capacity s) (omega arith)) (eq-eqb i (q.capacity s) is) (strict k (level s (suc i)) below)
      where
        by : (in_range kept past : Bool) → in_range ≡ true → kept ≡ false → past ≡ true → Gives k (level s (suc i)) (Sources i in_range kept past) → b k (level s (suc i)) ≡ holds (put k) (taken k) (suc i)
        by true false true x y z given = given.0 ∙ constant_is false ∙ sym (holds_not (put k) (taken k) (suc i) (omega (arith, room q plan rows k s there)))
        by false kept past x y z given = cc
        by true true past x y z given = cc
        by true false false x y z given = cc

    latched : (k i : ℕ) → k < length rows → i < q.capacity s → b k (level s (suc i)) ≡ latch_bit b (not (nat_lt (q.first s) (suc i))) (grown s (suc i)) k
    unfolding emitted
    latched k i below is = by (nat_lt s q.stations) (nat_lt i (q.capacity s)) (i == q.capacity s) (lt-ltb s q.stations there) (lt-ltb i (q.capacity s) is) (strict k (level s (suc i)) below)
      where
        by : (in_range kept past : Bool) → in_range ≡ true → kept ≡ true → Gives k (level s (suc i)) (Sources i in_range kept past) → b k (level s (suc i)) ≡ latch_bit b (not (nat_lt (q.first s) (suc i))) (grown s (suc i)) k
        by true true past x y given = given.0
        by false kept past x y given = cc
        by true false past x y given = cc

    -- and takes what the levels around it and the ends of the station tell
    grown_is : (k i : ℕ) → k < length rows → ShowsLevels q rows b k → i < q.capacity s → b k (grown s (suc i)) ≡ holds (put (suc k)) (taken (suc k)) (suc i)
    unfolding emitted
    grown_is k i below shows is = by (nat_lt s q.stations) (nat_lt i (q.capacity s)) (lt-ltb s q.stations there) (lt-ltb i (q.capacity s) is) (strict k (grown s (suc i)) below)
      where
        drained : b k (fire (q.drainer s)) ≡ firing q plan rows k (q.drainer s) (plan.drained s there)
        drained = fire_is k below shows (q.drainer s) (plan.drained s there) ∙ rises_is q plan rows k (q.drainer s) (plan.drained s there)

        filled : b k (fire (q.filler s)) ≡ firing q plan rows k (q.filler s) (plan.filled s there)
        filled = fire_is k below shows (q.filler s) (plan.filled s there) ∙ rises_is q plan rows k (q.filler s) (plan.filled s there)

        put_on : (d : Bool) → fired q rows (suc k) (q.filler s) ≡ risen d (fired q rows k (q.filler s)) → risen d (put k) ≡ put (suc k)
        put_on true e = omega (arith, e)
        put_on false e = omega (arith, e)

        value : count_value (b k (fire (q.drainer s))) (b k (fire (q.filler s))) (b k (level s i)) (b k (level s (suc i))) (b k (level s (suc (suc i)))) ≡ holds (put (suc k)) (taken (suc k)) (suc i)
        value =
            ap (λ (x : Bool). count_value x (b k (fire (q.filler s))) (b k (level s i)) (b k (level s (suc i))) (b k (level s (suc (suc i))))) drained
            ∙ ap (λ (x : Bool). count_value (firing q plan rows k (q.drainer s) (plan.drained s there)) x (b k (level s i)) (b k (level s (suc i))) (b k (level s (suc (suc i))))) filled
            ∙ ap (λ (x : Bool). count_value (firing q plan rows k (q.drainer s) (plan.drained s there)) (firing q plan rows k (q.filler s) (plan.filled s there)) x (b k (level s (suc i))) (b k (level s (suc (suc i))))) (shows s i there (omega arith))
            ∙ ap (λ (x : Bool). count_value (firing q plan rows k (q.drainer s) (plan.drained s there)) (firing q plan rows k (q.filler s) (plan.filled s there)) (holds (put k) (taken k) i) x (b k (level s (suc (suc i))))) (shows s (suc i) there (omega arith))
            ∙ ap (λ (x : Bool). count_value (firing q plan rows k (q.drainer s) (plan.drained s there)) (firing q plan rows k (q.filler s) (plan.filled s there)) (holds (put k) (taken k) i) (holds (put k) (taken k) (suc i)) x) (shows s (suc (suc i)) there (omega arith))
            ∙ counted (put k) (taken k) i (firing q plan rows k (q.drainer s) (plan.drained s there)) (firing q plan rows k (q.filler s) (plan.filled s there))
            ∙ ap (λ (n : ℕ). holds n (risen (firing q plan rows k (q.drainer s) (plan.drained s there)) (taken k)) (suc i)) (put_on (firing q plan rows k (q.filler s) (plan.filled s there)) (goes q plan rows k (q.filler s) (plan.filled s there)))
            ∙ ap (λ (n : ℕ). holds (put (suc k)) n (suc i)) (sym (goes q plan rows k (q.drainer s) (plan.drained s there)))

        by : (in_range within : Bool) → in_range ≡ true → within ≡ true → Gives k (grown s (suc i)) (cond in_range (cond within (gate count (fire (q.drainer s) ∷ fire (q.filler s) ∷ level s i ∷ level s (suc i) ∷ level s (suc (suc i)) ∷ [])) []) []) → b k (grown s (suc i)) ≡ holds (put (suc k)) (taken (suc k)) (suc i)
        by true true x y given = given.0 ∙ count_is (b k (fire (q.drainer s))) (b k (fire (q.filler s))) (b k (level s i)) (b k (level s (suc i))) (b k (level s (suc (suc i)))) ∙ value
        by false within x y given = cc
        by true false x y given = cc

    -- in the first row nothing was put or taken
    at_first : (i : ℕ) → not (nat_lt (q.first s) (suc i)) ≡ holds (put 0) (taken 0) (suc i)
    at_first i =
        let filled : fired q rows 0 (q.filler s) ≡ 0 = begins_at (graph q) (held_by q.inputs (sink q) rows) (q.filler s) in
        let drained : fired q rows 0 (q.drainer s) ≡ 0 = begins_at (graph q) (held_by q.inputs (sink q) rows) (q.drainer s) in
        let first : q.first s ≡ put 0 = omega arith in
        let next : suc i ≡ taken 0 + suc i = omega arith in
        ap (λ (n : ℕ). not (nat_lt n (suc i))) first ∙ ap (λ (n : ℕ). not (nat_lt (put 0) n)) next

    kept_level : (k i : ℕ) → k < length rows → ((j : ℕ) → suc j ≡ k → ShowsLevels q rows b j) → i < q.capacity s → b k (level s (suc i)) ≡ holds (put k) (taken k) (suc i)
    kept_level zero i below before is = latched zero i below is ∙ at_first i
    kept_level (suc k) i below before is = latched (suc k) i below is ∙ grown_is k i (omega arith) (before k refl) is

  level_shows : (k : ℕ) → k < length rows → ((j : ℕ) → suc j ≡ k → ShowsLevels q rows b j) → ShowsLevels q rows b k
  level_shows k below before s zero there most = lowest s there k below
  level_shows k below before s (suc i) there most = by (cases_lt i (q.capacity s))
    where
      by : (i < q.capacity s) ⊎ (q.capacity s ≤ i) → b k (level s (suc i)) ≡ holds (put_count q (fired q rows k) s) (taken_count q (fired q rows k) s) (suc i)
      by (inl less) = kept_level s there k i below before less
      by (inr past) = highest s there k i below (omega arith)

  pub levels_show : (k : ℕ) → k < length rows → ShowsLevels q rows b k
  levels_show zero below = level_shows zero below (λ j e. absurd (omega arith))
  levels_show (suc k) below = level_shows (suc k) below (λ j e. along j e (levels_show k (omega arith)))
    where
      along : (j : ℕ) → suc j ≡ suc k → ShowsLevels q rows b k → ShowsLevels q rows b j
      along j e shows = let same : k ≡ j = omega arith in subst (ShowsLevels q rows b) same shows

  pub wires_show : (k v : ℕ) → k < length rows → v < q.actors → b k (fire v) ≡ counts_up (fired q rows) v k
  wires_show k v below actor = fire_is k below (levels_show k below) v actor
