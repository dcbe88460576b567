-- What stalls cost: a run that they hold ends no earlier than one in which nobody is held, and later by at most a
-- cycle for each that holds somebody.
use Rattle.std.proofs.Common.{◌≡◌, ◌⊎◌, inl, inr, ℕ, zero, suc, ◌+◌, ◌-◌, ◌*◌, ◌<◌, ◌≤◌, ◌==◌, ◌||◌, Bool, true, false, cond, List, length, slice_get, refl, sym, ◌∙◌, ap, subst, arith}
use Rattle.std.proofs.lemmas.Nat.{mul-le}
use Rattle.std.proofs.lemmas.Bool.{cases_lt, eq-eqb, eqb-true, or_left, or_right}
use Rattle.lid_graph.specs.declared.graph.Graph.{Graph}
use Rattle.lid_graph.specs.Firings.{Counts, no_hold, firings, IsFirstAtCap}
use Rattle.lid_graph.proofs.Counting.{firings_cap}
use Rattle.lid_graph_laws.specs.Free.{NamesHeld, held_below}
use Rattle.lid_graph_laws.proofs.Held.{holds_delay, holds_delay_by_their_cycles}
use Rattle.lid_graph_laws.proofs.Rising.{rises_on, first_at_cap}
use Rattle.lid_stations.specs.Placements.{links_of}
use Rattle.lid_stations.specs.Stations.{actor_count}
use Rattle.lid_stations.specs.Markings.{marking}
use Rattle.lid_stations.proofs.Spots.{few_actors}
use Rattle.lid_shell_laws.specs.Runs.{cap_of, IsWithinLag}
use Rattle.lid_shell_laws.proofs.Caps.{cap_of_sink}
use Rattle.lid_shell_laws.proofs.Ending.{ends, ends_within_lag}
use Rattle.lid_clock_laws.proofs.Had.{bound_had}
use Rattle.lid_clock.specs.Lives.{Life, IsLife, IsBelow, fired_after, sink}
use Rattle.lid_stall_text.specs.declared.stalls.Stall.{Stall}
use Rattle.lid_stall_text.specs.Holds.{holds_source, holds_sink, stalled_by, Ascend}
use Rattle.lid_stall.specs.Places.{due_of, next_place, Divides}
use Rattle.lid_stall.specs.Runs.{IsHeldBy, holds_one, stalled_after, IsOverBy}
use Rattle.lid_stall.proofs.Walking.{source_due, sink_due, divides_on, counted_moves}

abbrev graph_of : Life → Graph
graph_of l = marking (links_of l.setup.system) l.setup.placement

abbrev caps_of : Life → Counts
caps_of l = cap_of (links_of l.setup.system) (length l.setup.input)

-- how often the sink has fired after k cycles in which nobody is held
abbrev free_after : Life → ℕ → ℕ
free_after l k = firings (graph_of l) (caps_of l) no_hold k (sink l)

module _ (l : Life) (rules : IsLife l) (stalls : List Stall) (by : IsHeldBy l stalls) where
  -- the sink is not the source
  sink_last : (sink l == 0) ≡ false
  sink_last = by_test (sink l == 0) refl
    where
      by_test : (b : Bool) → (sink l == 0) ≡ b → (sink l == 0) ≡ false
      by_test true is = let first = eqb-true (sink l) 0 is in let least = rules.system.least in absurd (omega arith)
      by_test false is = is

  pub source_held : (k : ℕ) → l.hold k 0 ≡ holds_source stalls k
  source_held k = by k 0

  pub sink_held : (k : ℕ) → l.hold k (sink l) ≡ holds_sink stalls k
  sink_held k =
      by k (sink l)
      ∙ ap (λ (b : Bool). cond b (holds_source stalls k) (cond (sink l == sink l) (holds_sink stalls k) false)) sink_last
      ∙ ap (λ (b : Bool). cond b (holds_sink stalls k) false) (eq-eqb (sink l) (sink l) refl)

  one_held : (k : ℕ) → holds_one l k ≡ (holds_source stalls k || holds_sink stalls k)
  one_held k = ap (λ (b : Bool). b || l.hold k (sink l)) (source_held k) ∙ ap (λ (b : Bool). holds_source stalls k || b) (sink_held k)

  -- the cycles in which stalls hold somebody are those that hold somebody
  pub stalled_is : (k : ℕ) → stalled_after l k ≡ stalled_by stalls k
  unfolding held_below
  stalled_is zero = refl
  stalled_is (suc k) = ap (λ (b : Bool). stalled_after l k + cond b 1 0) (one_held k) ∙ ap (λ (n : ℕ). n + cond (holds_source stalls k || holds_sink stalls k) 1 0) (stalled_is k)

  -- nobody else is held
  names : NamesHeld l.hold (holds_one l)
  names k v is = by_source (v == 0) refl
    where
      by_sink : (b : Bool) → (v == sink l) ≡ b → cond b (holds_sink stalls k) false ≡ true → holds_one l k ≡ true
      by_sink true same held =
          or_right (l.hold k 0) (l.hold k (sink l)) (subst (λ (u : ℕ). l.hold k u ≡ true) (eqb-true v (sink l) same) is)
      by_sink false other held = absurd cc

      by_source : (b : Bool) → (v == 0) ≡ b → holds_one l k ≡ true
      by_source true same = or_left (l.hold k 0) (l.hold k (sink l)) (subst (λ (u : ℕ). l.hold k u ≡ true) (eqb-true v 0 same) is)
      by_source false other =
          let held : cond (v == sink l) (holds_sink stalls k) false ≡ true = sym (ap (λ (b : Bool). cond b (holds_source stalls k) (cond (v == sink l) (holds_sink stalls k) false)) other) ∙ sym (by k v) ∙ is in
          by_sink (v == sink l) refl held

  sink_cap : caps_of l (sink l) ≡ length l.setup.input
  sink_cap = cap_of_sink l.setup.system (length l.setup.input) rules.system.least

  sinks_few : (k : ℕ) → fired_after l k (sink l) ≤ length l.setup.input
  sinks_few k = omega (arith, firings_cap (graph_of l) (caps_of l) l.hold k (sink l), sink_cap)

  -- holding delays, by no more cycles than hold
  ahead : (k : ℕ) → fired_after l k (sink l) ≤ free_after l k
  ahead k = holds_delay (graph_of l) (caps_of l) l.hold k (sink l)

  behind : (k : ℕ) → free_after l (k - stalled_after l k) ≤ fired_after l k (sink l)
  behind k = holds_delay_by_their_cycles (graph_of l) (caps_of l) l.hold (holds_one l) k (sink l) names

  -- a cycle that is needed is one of a cycle for each actor and each row, and of those that hold somebody
  before_end : (k : ℕ) → IsBelow l k → k < actor_count (links_of l.setup.system) l.setup.placement * length l.setup.input + stalled_after l k
  before_end k below = by_order (cases_lt k (actor_count (links_of l.setup.system) l.setup.placement * length l.setup.input + stalled_after l k))
    where
      by_order : (k < actor_count (links_of l.setup.system) l.setup.placement * length l.setup.input + stalled_after l k) ⊎ (actor_count (links_of l.setup.system) l.setup.placement * length l.setup.input + stalled_after l k ≤ k) → k < actor_count (links_of l.setup.system) l.setup.placement * length l.setup.input + stalled_after l k
      by_order (inl less) = less
      by_order (inr past) =
          let all : free_after l (k - stalled_after l k) ≡ length l.setup.input = ends l.setup.system l.setup.placement rules.system rules.fits (length l.setup.input) (k - stalled_after l k) (omega arith) in
          absurd (omega (arith, all, behind k, below))

  -- so cycles can be counted
  pub few_cycles : (k : ℕ) → IsBelow l k → k < 69634000000 + stalled_after l k
  few_cycles k below =
      omega (
        arith,
        before_end k below,
        mul-le (actor_count (links_of l.setup.system) l.setup.placement) (length l.setup.input) 69634 1000000
            (few_actors l.setup.system l.setup.placement rules.system rules.fits) rules.few,
      )

  -- after the last of the cycles that are needed the run is over
  pub is_over : (k : ℕ) → ((j : ℕ) → j < k → IsBelow l j) → (IsBelow l k → ⊥) → IsOverBy l k
  unfolding held_below
  is_over k needed ended =
      record {
        all = all;
        cycles = cycles;
        ends = first;
        within = within;
        bound = bound_had l.setup.system l.setup.placement rules.system rules.fits (length l.setup.input) cycles within;
        least = first.first k (omega (arith, ahead k, firings_cap (graph_of l) (caps_of l) no_hold k (sink l), sink_cap, all));
        most = most k needed;
      }
    where
      all : fired_after l k (sink l) ≡ length l.setup.input
      all = omega (arith, sinks_few k, ended)

      found : (n : ℕ) × IsFirstAtCap (graph_of l) (caps_of l) no_hold (sink l) n × (n ≤ actor_count (links_of l.setup.system) l.setup.placement * length l.setup.input)
      found =
          first_at_cap (graph_of l) (caps_of l) no_hold (sink l) (actor_count (links_of l.setup.system) l.setup.placement * length l.setup.input)
          (ends l.setup.system l.setup.placement rules.system rules.fits (length l.setup.input) (actor_count (links_of l.setup.system) l.setup.placement * length l.setup.input) (omega arith) ∙ sym sink_cap)

      cycles : ℕ
      cycles = found.0

      first : IsFirstAtCap (graph_of l) (caps_of l) no_hold (sink l) cycles
      first = found.1

      within : IsWithinLag (links_of l.setup.system) l.setup.placement (length l.setup.input) cycles
      within = ends_within_lag l.setup.system l.setup.placement rules.system rules.fits (length l.setup.input) cycles first

      late : (j : ℕ) → cycles ≤ j → length l.setup.input ≤ free_after l j
      late j past =
          let same : (j - cycles) + cycles ≡ j = omega arith in
          let more : free_after l cycles ≤ free_after l j =
          subst (λ (n : ℕ). free_after l cycles ≤ free_after l n) same (rises_on (graph_of l) (caps_of l) no_hold cycles (j - cycles) (sink l)) in
          omega (arith, first.reached, sink_cap)

      most : (n : ℕ) → ((j : ℕ) → j < n → IsBelow l j) → n ≤ cycles + stalled_after l n
      most zero _ = omega arith
      most (suc j) below = by_order (cases_lt (j - stalled_after l j) cycles)
        where
          by_order : (j - stalled_after l j < cycles) ⊎ (cycles ≤ j - stalled_after l j) → suc j ≤ cycles + stalled_after l (suc j)
          by_order (inl less) = omega arith
          by_order (inr past) = absurd (omega (arith, late (j - stalled_after l j) past, behind j, below j (omega arith)))

-- before the first cycle no stall is past
pub begun : (stalls : List Stall) → Divides stalls 0 0
begun stalls = record { most = omega arith; before = λ i stall less is. absurd (omega arith); after = λ i stall least is. omega arith }

pub none_stalled : (l : Life) → 0 ≡ stalled_after l 0
unfolding held_below
none_stalled l = refl

-- how a cycle counts as stalled
pub counts_on : (l : Life) (rules : IsLife l) (stalls : List Stall) (by : IsHeldBy l stalls) (place k : ℕ) (ascends : Ascend stalls) (at : Divides stalls place k)
    → stalled_after l (suc k) ≡ stalled_after l k + cond ((due_of (slice_get stalls place) k).source || (due_of (slice_get stalls place) k).sink) 1 0
unfolding held_below
counts_on l rules stalls by place k ascends at =
    ap (λ (b : Bool). stalled_after l k + cond b 1 0)
    (one_held l rules stalls by k ∙ ap (λ (b : Bool). b || holds_sink stalls k) (source_due stalls place k ascends at)
    ∙ ap (λ (b : Bool). (due_of (slice_get stalls place) k).source || b) (sink_due stalls place k ascends at))

-- stalls hold somebody in no more cycles than there are stalls
record HasPassed (l : Life) (stalls : List Stall) (k : ℕ) : Type 0 where
  place : ℕ
  at : Divides stalls place k
  few : stalled_after l k ≤ place

module _ (l : Life) (rules : IsLife l) (stalls : List Stall) (by : IsHeldBy l stalls) (ascends : Ascend stalls) where
  passed : (k : ℕ) → HasPassed l stalls k
  unfolding held_below
  passed zero = record { place = 0; at = begun stalls; few = omega arith }
  passed (suc k) = on (passed k)
    where
      on : HasPassed l stalls k → HasPassed l stalls (suc k)
      on has = record {
        place = next_place (slice_get stalls has.place) has.place k;
        at = divides_on stalls has.place k ascends has.at;
        few = omega (arith, has.few, counts_on l rules stalls by has.place k ascends has.at, counted_moves (slice_get stalls has.place) has.place k);
      }

  pub few_stalled : (k : ℕ) → stalled_after l k ≤ length stalls
  few_stalled k = let has = passed k in omega (arith, has.few, has.at.most)

  -- so the run ends
  pub ends_at : (k : ℕ) → actor_count (links_of l.setup.system) l.setup.placement * length l.setup.input + length stalls ≤ k → fired_after l k (sink l) ≡ length l.setup.input
  ends_at k late = omega (arith, over, sinks_few l rules stalls by k)
    where
      over : length l.setup.input ≤ fired_after l k (sink l)
      over = by_order (cases_lt (fired_after l k (sink l)) (length l.setup.input))
        where
          by_order : (fired_after l k (sink l) < length l.setup.input) ⊎ (length l.setup.input ≤ fired_after l k (sink l)) → length l.setup.input ≤ fired_after l k (sink l)
          by_order (inl below) = absurd (omega (arith, before_end l rules stalls by k below, few_stalled k))
          by_order (inr past) = past
