-- What holding costs.
use Rattle.std.proofs.Common.{◌≡◌, ℕ, zero, suc, ◌+◌, ◌-◌, ◌≤◌, Bool, true, false, cond, refl, sym, ◌∙◌, subst, true≢false, arith}
use Rattle.lid_graph.specs.declared.graph.Graph.{Graph}
use Rattle.lid_graph.specs.Firings.{Counts, Hold, no_hold, least_into, firings}
use Rattle.lid_graph_laws.specs.Free.{NamesHeld, held_below}
use Rattle.lid_graph_laws.specs.Laws.{HoldsDelay, HoldsDelayByTheirCycles}
use Rattle.lid_graph_laws.proofs.Rising.{least_into_rises, rises}

module _ (g : Graph) (cap : Counts) (held : Hold) where
  delays : (k v : ℕ) → firings g cap held k v ≤ firings g cap no_hold k v
  unfolding firings
  delays zero v = omega arith
  delays (suc k) v = by_hold (held k v) (delays k v) (rises g cap no_hold k v) (least_into_rises g.edges (firings g cap held k) (firings g cap no_hold k) v (cap v) (cap v) (omega arith) (delays k))
    where
      by_hold : (b : Bool) → firings g cap held k v ≤ firings g cap no_hold k v → firings g cap no_hold k v ≤ firings g cap no_hold (suc k) v → least_into g.edges (firings g cap held k) v (cap v) ≤ least_into g.edges (firings g cap no_hold k) v (cap v) → cond b (firings g cap held k v) (least_into g.edges (firings g cap held k) v (cap v)) ≤ firings g cap no_hold (suc k) v
      by_hold true before more now = omega arith
      by_hold false before more now = now

  module _ (holds : ℕ → Bool) (names : NamesHeld held holds) where
    few : (k : ℕ) → held_below holds k ≤ k
    unfolding held_below
    few zero = omega arith
    few (suc k) = by_hold (holds k) (few k)
      where
        by_hold : (b : Bool) → held_below holds k ≤ k → held_below holds k + cond b 1 0 ≤ suc k
        by_hold true less = omega arith
        by_hold false less = omega arith

    abbrev CatchesUp : ℕ → Type 0
    CatchesUp k = (v : ℕ) → firings g cap no_hold (k - held_below holds k) v ≤ firings g cap held k v

    catches_up_on : (k : ℕ) → CatchesUp k → CatchesUp (suc k)
    unfolding firings held_below
    catches_up_on k before v = by_cycle (holds k) refl
      where
        in_step : held k v ≡ false → firings g cap no_hold (suc (k - held_below holds k)) v ≤ firings g cap held (suc k) v
        in_step is = subst (λ (b : Bool). firings g cap no_hold (suc (k - held_below holds k)) v ≤ cond b (firings g cap held k v) (least_into g.edges (firings g cap held k) v (cap v))) (sym is)
            (least_into_rises g.edges (firings g cap no_hold (k - held_below holds k)) (firings g cap held k) v (cap v) (cap v) (omega arith) before)

        is_free : (b : Bool) → held k v ≡ b → holds k ≡ false → held k v ≡ false
        is_free true is quiet = absurd (true≢false (sym (names k v is) ∙ quiet))
        is_free false is quiet = is

        by_cycle : (b : Bool) → holds k ≡ b → firings g cap no_hold (suc k - (held_below holds k + cond b 1 0)) v ≤ firings g cap held (suc k) v
        by_cycle true is =
            let same : suc k - (held_below holds k + 1) ≡ k - held_below holds k = omega arith in
            subst (λ (n : ℕ). firings g cap no_hold n v ≤ firings g cap held (suc k) v) (sym same) (omega (arith, before v, rises g cap held k v))
        by_cycle false is =
            let same : suc k - (held_below holds k + 0) ≡ suc (k - held_below holds k) = omega (arith, few k) in
            subst (λ (n : ℕ). firings g cap no_hold n v ≤ firings g cap held (suc k) v) (sym same) (in_step (is_free (held k v) refl is))

    catches_up : (k : ℕ) → CatchesUp k
    unfolding firings held_below
    catches_up zero v = omega arith
    catches_up (suc k) v = catches_up_on k (λ u. catches_up k u) v

pub holds_delay : HoldsDelay
holds_delay g cap held k v = delays g cap held k v

pub holds_delay_by_their_cycles : HoldsDelayByTheirCycles
holds_delay_by_their_cycles g cap held holds k v names = catches_up g cap held holds names k v
