-- How often the sink has fired, and when a run ends.
use Rattle.std.proofs.Common.{◌≡◌, ℕ, zero, suc, ◌+◌, ◌-◌, ◌*◌, ◌<◌, ◌≤◌, ◌==◌, Option, ◌++◌, ◌⊎◌, inl, inr, Bool, true, false, cond, List, length, refl, sym, ◌∙◌, ap, subst, le-ltb, arith}
use Rattle.std.proofs.lemmas.Bool.Decides.{eqb_tells}
use Rattle.lid_graph.specs.declared.graph.Graph.{Graph}
use Rattle.lid_graph.specs.Firings.{Counts, IsFirstAtCap}
use Rattle.lid_graph.proofs.Counting.{firings_cap}
use Rattle.lid_graph_laws.proofs.Rising.{rises, rises_by_one}
use Rattle.lid_system.specs.declared.System.{System}
use Rattle.lid_stations.specs.declared.placement.Placement.{Placement}
use Rattle.lid_stations.specs.Placements.{links_of}
use Rattle.lid_stations.specs.Stations.{actor_count}
use Rattle.lid_stations.specs.Markings.{marking}
use Rattle.lid_stations.proofs.Edges.{node_count}
use Rattle.lid_stations.proofs.Alive.{rateable}
use Rattle.lid_shell_laws.specs.Runs.{cap_of, IsWithinLag}
use Rattle.lid_clock_laws.proofs.Had.{bound_had}
use Rattle.lid_clock.specs.Lives.{Life, IsLife, fired_after, sink, IsBelow}
use Rattle.lid_top_clock.specs.RunTexts.{IsRunText, end_text, first_outputs}
use Rattle.lid_texts.specs.RowsText.{rows_text}
use Rattle.lid_stall_text.specs.declared.stalls.Stall.{Stall}
use Rattle.lid_stall_text.specs.Holds.{listed, hold_of, stalled_of, Ascend}
use Rattle.lid_stall.specs.Runs.{stalled_after, IsOverBy}
use Rattle.lid_stall.proofs.Delays.{stalled_is, ends_at, is_over}
use Rattle.lid_top_clock.proofs.Stalling.{held_by, stalled_listed}

-- where a count comes to a number, it does so first
pub record IsFirstAt (f : ℕ → ℕ) (n k : ℕ) : Type 0 where
  pub at : f k ≡ n
  pub first : (j : ℕ) → f j ≡ n → k ≤ j

abbrev Found : (ℕ → ℕ) → ℕ → Type 0
Found f n = (k : ℕ) × IsFirstAt f n k

-- a number that is at least k, and not k
beyond : (f : ℕ → ℕ) (n k j : ℕ) → (f k ≡ n → ⊥) → f j ≡ n → k ≤ j → k + 1 ≤ j
beyond f n k j not at least = by (eqb_tells j k)
  where
    by : ((j == k ≡ true) × (j ≡ k)) ⊎ ((j == k ≡ false) × (j ≡ k → ⊥)) → k + 1 ≤ j
    by (inl same) = absurd (not (subst (λ (i : ℕ). f i ≡ n) same.1 at))
    by (inr other) = let differs = other.1 in omega (arith, differs)

search_on : (f : ℕ → ℕ) (n top d k : ℕ) → k + d ≡ top → f top ≡ n → ((j : ℕ) → f j ≡ n → k ≤ j) → Found f n
search_on f n top zero k sum is none = (k, record { at = subst (λ (j : ℕ). f j ≡ n) (let e : top ≡ k = omega arith in e) is; first = none })
search_on f n top (suc d) k sum is none =
    by (eqb_tells (f k) n) (λ not. search_on f n top d (k + 1) (omega arith) is (λ j at. beyond f n k j not at (none j at)))
  where
    by : ((f k == n ≡ true) × (f k ≡ n)) ⊎ ((f k == n ≡ false) × (f k ≡ n → ⊥)) → ((f k ≡ n → ⊥) → Found f n) → Found f n
    by (inl here) on = (k, record { at = here.1; first = none })
    by (inr not_here) on = on not_here.1

first_at : (f : ℕ → ℕ) (n top : ℕ) → f top ≡ n → (k : ℕ) × IsFirstAt f n k
first_at f n top is = search_on f n top top 0 (omega arith) is (λ j at. omega arith)

module _ (l : Life) (rules : IsLife l) where
  abbrev s : System
  s = l.setup.system

  abbrev p : Placement
  p = l.setup.placement

  abbrev g : Graph
  g = marking (links_of s) p

  abbrev rows : ℕ
  rows = length l.setup.input

  abbrev cap : Counts
  cap = cap_of (links_of s) rows

  sink_there : sink l < actor_count (links_of s) p
  sink_there = let least = rules.system.least in omega arith

  pub sink_cap : cap (sink l) ≡ rows
  sink_cap = ap (λ (b : Bool). cond b (rows - 1) rows) (le-ltb (sink l + 1) (length s.nodes) (let least = rules.system.least in omega arith))

  pub sink_within : (k : ℕ) → fired_after l k (sink l) ≤ rows
  sink_within k = omega (arith, firings_cap g cap l.hold k (sink l), sink_cap)

  pub sink_rises : (k : ℕ) → fired_after l k (sink l) ≤ fired_after l (suc k) (sink l)
  sink_rises k = rises g cap l.hold k (sink l)

  pub sink_rests : (k : ℕ) → (fired_after l (suc k) (sink l) ≡ fired_after l k (sink l) + 1 → ⊥) → fired_after l (suc k) (sink l) ≡ fired_after l k (sink l)
  sink_rests k not =
      let most = rises_by_one g cap l.hold (rateable s p rules.system rules.fits).paired k (sink l) (omega (arith, node_count s p, sink_there)) in
      let least = sink_rises k in
      omega (arith, not)

  module _ (stalls : Option (List Stall)) (held : l.hold ≡ hold_of stalls (sink l)) (ascends : Ascend (listed stalls)) where
    -- a run has ended after a cycle for each actor and each row, and one for each stall
    abbrev last : ℕ
    last = actor_count (links_of s) p * rows + length (listed stalls)

    ends_last : fired_after l last (sink l) ≡ rows
    ends_last = ends_at l rules (listed stalls) (held_by l stalls held) ascends last (omega arith)

    -- the cycles that hold somebody
    pub stalled : (k : ℕ) → stalled_after l k ≡ stalled_of stalls k
    stalled k = stalled_is l rules (listed stalls) (held_by l stalls held) k ∙ stalled_listed stalls k

    -- where the sink has first fired for each row, this is the text
    module _ (columns : List (List ℕ)) (trace : Option ℕ) where
      pub text_at : (k : ℕ) → IsFirstAt (λ j. fired_after l j (sink l)) rows k → IsRunText l columns stalls trace (rows_text columns (first_outputs l rows) ++ end_text l stalls trace k)
      text_at k f = record { cycles = k; ends = first; within = within; bound = bound_had l.setup.system p rules.system rules.fits (length l.setup.input) (k - stalled_of stalls k) within; written = refl }
        where
          first : IsFirstAtCap g cap l.hold (sink l) k
          first = record { reached = f.at ∙ sym sink_cap; first = λ j is. f.first j (is ∙ sink_cap) }

          needed : (j : ℕ) → j < k → IsBelow l j
          needed j less = by (eqb_tells (fired_after l j (sink l)) rows)
            where
              by : ((fired_after l j (sink l) == rows ≡ true) × (fired_after l j (sink l) ≡ rows)) ⊎ ((fired_after l j (sink l) == rows ≡ false) × (fired_after l j (sink l) ≡ rows → ⊥)) → IsBelow l j
              by (inl same) = absurd (omega (arith, f.first j same.1))
              by (inr other) = let differs = other.1 in omega (arith, differs, sink_within j)

          over : IsOverBy l k
          over = is_over l rules (listed stalls) (held_by l stalls held) k needed (λ below. absurd (let at = f.at in omega arith))

          within : IsWithinLag (links_of l.setup.system) l.setup.placement (length l.setup.input) (k - stalled_of stalls k)
          within n d lag ratio is_lag = omega (arith, over.within n d lag ratio is_lag, over.most, stalled k)

      pub some_text : (k : ℕ) × IsRunText l columns stalls trace (rows_text columns (first_outputs l rows) ++ end_text l stalls trace k)
      some_text = let found = first_at (λ j. fired_after l j (sink l)) rows last ends_last in (found.0, text_at found.0 found.1)
