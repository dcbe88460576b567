-- Lives in which nobody is held: their counts are those without a hold, so that they end; and how the sink's
-- count moves.
use Rattle.std.proofs.Common.{◌≡◌, ℕ, zero, suc, ◌+◌, ◌-◌, ◌*◌, ◌^◌, ◌<◌, ◌≤◌, ◌⊎◌, inl, inr, false, List, Bool, length, refl, sym, ◌∙◌, subst, true≢false, arith}
use Rattle.std.proofs.lemmas.Nat.{mul-le}
use Rattle.std.proofs.lemmas.Bool.{cases_lt}
use Rattle.lid_graph.specs.declared.graph.Graph.{Graph}
use Rattle.lid_graph.specs.Firings.{Counts, no_hold, firings, IsFirstAtCap}
use Rattle.lid_graph.proofs.Counting.{firings_cap}
use Rattle.lid_graph_laws.specs.Free.{NamesHeld, held_below}
use Rattle.lid_graph_laws.proofs.Held.{holds_delay, holds_delay_by_their_cycles}
use Rattle.lid_graph_laws.proofs.Rising.{rises, rises_by_one}
use Rattle.lid_stations.specs.Placements.{links_of}
use Rattle.lid_stations.specs.Stations.{actor_count}
use Rattle.lid_stations.specs.Markings.{marking}
use Rattle.lid_stations.proofs.Spots.{few_actors}
use Rattle.lid_stations.proofs.Edges.{node_count}
use Rattle.lid_stations.proofs.Alive.{rateable}
use Rattle.lid_shell_laws.specs.Runs.{cap_of, IsWithinLag}
use Rattle.lid_shell_laws.proofs.Caps.{cap_of_sink}
use Rattle.lid_shell_laws.proofs.Ending.{ends, ends_within_lag}
use Rattle.lid_clock_laws.proofs.Had.{bound_had}
use Rattle.lid_clock.specs.Lives.{Life, IsLife, IsBelow, fired_after, sink}
use Rattle.lid_clock.specs.Clocks.{IsFreeLife, IsOver}

-- none of the first k cycles holds, where none does
none_held : (k : ℕ) → held_below (λ _. false) k ≡ 0
unfolding held_below
none_held zero = refl
none_held (suc k) = omega (arith, none_held k)

-- what has an end is before it where it has not ended
before : (k last count most : ℕ) → (last ≤ k → count ≡ most) → count < most → k < last
before k last count most late below = by_order (cases_lt k last)
  where
    by_order : (k < last) ⊎ (last ≤ k) → k < last
    by_order (inl less) = less
    by_order (inr past) = absurd (omega (arith, late past))

abbrev graph_of : Life → Graph
graph_of l = marking (links_of l.setup.system) l.setup.placement

abbrev caps_of : Life → Counts
caps_of l = cap_of (links_of l.setup.system) (length l.setup.input)

module _ (l : Life) (rules : IsLife l) where
  sink_cap : caps_of l (sink l) ≡ length l.setup.input
  sink_cap = cap_of_sink l.setup.system (length l.setup.input) rules.system.least

  -- the sink fires at most once for each row
  pub sinks_few : (k : ℕ) → fired_after l k (sink l) ≤ length l.setup.input
  sinks_few k = omega (arith, firings_cap (graph_of l) (caps_of l) l.hold k (sink l), sink_cap)

  -- its count does not fall
  pub sinks_on : (k : ℕ) → fired_after l k (sink l) ≤ fired_after l (suc k) (sink l)
  sinks_on k = rises (graph_of l) (caps_of l) l.hold k (sink l)

  -- and rises by at most one in a cycle
  pub sinks_by_one : (k : ℕ) → fired_after l (suc k) (sink l) ≤ fired_after l k (sink l) + 1
  sinks_by_one k =
      let least = rules.system.least in
      let there : sink l < (graph_of l).nodes = omega (arith, node_count l.setup.system l.setup.placement) in
      rises_by_one (graph_of l) (caps_of l) l.hold (rateable l.setup.system l.setup.placement rules.system rules.fits).paired k (sink l) there

module _ (l : Life) (rows : List (List Bool)) (free : IsFreeLife l rows) where
  -- its counts are those of a run in which nobody is held
  as_free : (k v : ℕ) → fired_after l k v ≡ firings (graph_of l) (caps_of l) no_hold k v
  as_free k v =
      let names : NamesHeld l.hold (λ _. false) = λ j u is. absurd (true≢false (sym is ∙ free.nobody j u)) in
      let all : k - held_below (λ _. false) k ≡ k = omega (arith, none_held k) in
      let least : firings (graph_of l) (caps_of l) no_hold k v ≤ fired_after l k v =
      subst (λ (n : ℕ). firings (graph_of l) (caps_of l) no_hold n v ≤ fired_after l k v) all
      (holds_delay_by_their_cycles (graph_of l) (caps_of l) l.hold (λ _. false) k v names)
      in
      omega (arith, holds_delay (graph_of l) (caps_of l) l.hold k v)

  -- a cycle that is needed is one of a cycle for each actor and each row
  pub before_end : (k : ℕ) → IsBelow l k → k < actor_count (links_of l.setup.system) l.setup.placement * length l.setup.input
  before_end k below =
      before k (actor_count (links_of l.setup.system) l.setup.placement * length l.setup.input) (fired_after l k (sink l)) (length l.setup.input)
      (λ late. as_free k (sink l) ∙ ends l.setup.system l.setup.placement free.rules.system free.rules.fits (length l.setup.input) k late)
      below

  -- so cycles can be counted
  pub few_cycles : (k : ℕ) → IsBelow l k → k + 1 < 2 ^ 64
  few_cycles k below =
      omega (
        arith,
        before_end k below,
        mul-le (actor_count (links_of l.setup.system) l.setup.placement) (length l.setup.input) 69634 1000000
            (few_actors l.setup.system l.setup.placement free.rules.system free.rules.fits) free.rules.few,
      )

  -- after the last of the cycles that are needed the run is over
  pub is_over : (k : ℕ) → ((j : ℕ) → j < k → IsBelow l j) → (IsBelow l k → ⊥) → IsOver l k
  is_over k needed ended = record { ends = first; within = within; bound = bound_had l.setup.system l.setup.placement free.rules.system free.rules.fits (length l.setup.input) k within }
    where
      at_cap : fired_after l k (sink l) ≡ caps_of l (sink l)
      at_cap = omega (arith, sinks_few l free.rules k, sink_cap l free.rules, ended)

      first_is : (j : ℕ) → firings (graph_of l) (caps_of l) no_hold j (sink l) ≡ caps_of l (sink l) → k ≤ j
      first_is j is = by_order (cases_lt j k)
        where
          by_order : (j < k) ⊎ (k ≤ j) → k ≤ j
          by_order (inl less) = absurd (omega (arith, needed j less, as_free j (sink l), is, sink_cap l free.rules))
          by_order (inr past) = past

      first : IsFirstAtCap (graph_of l) (caps_of l) no_hold (sink l) k
      first = record { reached = sym (as_free k (sink l)) ∙ at_cap; first = first_is }

      within : IsWithinLag (links_of l.setup.system) l.setup.placement (length l.setup.input) k
      within = ends_within_lag l.setup.system l.setup.placement free.rules.system free.rules.fits (length l.setup.input) k first
