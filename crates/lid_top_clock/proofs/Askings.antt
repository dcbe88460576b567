-- How many rows a run asks for.
use Rattle.std.proofs.Common.{◌≡◌, ◌⊎◌, ℕ, zero, suc, ◌+◌, ◌-◌, ◌<◌, ◌≤◌, min, Bool, List, length, Option, inl, inr, refl, sym, ◌∙◌, ap, subst, arith}
use Rattle.lid_base_io.proofs.Fetches.{below_or_not}
use Rattle.lid_graph.specs.Firings.{Hold, IsFirstAtCap, firings}
use Rattle.lid_graph_laws.proofs.Rising.{rises, rises_by_one}
use Rattle.lid_system.specs.declared.System.{System}
use Rattle.lid_stations.specs.declared.placement.Placement.{Placement}
use Rattle.lid_stations.specs.Placements.{links_of}
use Rattle.lid_stations.specs.Stations.{actor_count}
use Rattle.lid_stations.specs.Markings.{marking}
use Rattle.lid_stations.proofs.Edges.{node_count}
use Rattle.lid_stations.proofs.Alive.{rateable}
use Rattle.lid_shell_laws.specs.Runs.{cap_of, fired_in}
use Rattle.lid_clock.specs.Lives.{Life, IsLife, NeedsRow, fired_after, sink}
use Rattle.lid_top_script.specs.Clocked.{AsksFor}
use Rattle.lid_top_clock.specs.Runnings.{ClockRun, LifeBegins}
use Rattle.lid_texts_feed.specs.declared.feed.RowFeed.{RowFeed}
use Rattle.lid_top_clock.specs.declared.steps.Running.{Running}
use Rattle.lid_top_clock.specs.Stepping.{rows_asked, IsFed, HasStarted}
use Rattle.lid_top_clock.proofs.Ends.{IsFirstAt, sink_cap}

module _ (l : Life) (rules : IsLife l) where
  abbrev rows : ℕ
  rows = length l.setup.input

  abbrev fired : ℕ → ℕ
  fired k = fired_after l k 0

  -- nobody has fired before the first cycle
  pub none_fired : (v : ℕ) → fired_after l 0 v ≡ 0
  unfolding firings
  none_fired v = refl

  source_rises : (k : ℕ) → fired k ≤ fired (suc k)
  source_rises k = rises (marking (links_of l.setup.system) l.setup.placement) (cap_of (links_of l.setup.system) rows) l.hold k 0

  source_rises_by_one : (k : ℕ) → fired (suc k) ≤ fired k + 1
  source_rises_by_one k =
      rises_by_one (marking (links_of l.setup.system) l.setup.placement) (cap_of (links_of l.setup.system) rows) l.hold (rateable l.setup.system l.setup.placement rules.system rules.fits).paired k 0
      (let there : 0 < actor_count (links_of l.setup.system) l.setup.placement = (let least = rules.system.least in omega arith) in omega (arith, node_count l.setup.system l.setup.placement, there))

  -- before each cycle as many rows are given as are asked for
  pub asked_next : (k before after : ℕ) → before ≡ rows_asked l k → (NeedsRow l k after → ⊥) → (after ≡ before) ⊎ (NeedsRow l k before × (after ≡ before + 1)) → after ≡ rows_asked l (suc k)
  asked_next k before after is not (inr (needs, more)) = let goes = needs.goes_on in let lacks = needs.lacks in omega (arith, goes, lacks, more)
  asked_next zero before after is not (inl same) = by (below_or_not 1 rows)
    where
      by : (1 < rows) ⊎ (rows ≤ 1) → after ≡ min rows (fired 0 + 2)
      by (inl many) = absurd (not (record { goes_on = omega (arith, many, none_fired 0); lacks = omega (arith, many, is, same, none_fired 0) }))
      by (inr few) = omega (arith, few, is, same, none_fired 0)
  asked_next (suc k) before after is not (inl same) = by (below_or_not (fired (suc k) + 1) rows) (below_or_not (fired k) (fired (suc k)))
    where
      by : (fired (suc k) + 1 < rows) ⊎ (rows ≤ fired (suc k) + 1) → (fired k < fired (suc k)) ⊎ (fired (suc k) ≤ fired k) → after ≡ min rows (fired (suc k) + 2)
      by (inl goes) (inl rose) = absurd (not (record { goes_on = goes; lacks = omega (arith, goes, rose, is, same, source_rises_by_one k) }))
      by (inl goes) (inr rests) = omega (arith, goes, rests, is, same, source_rises k)
      by (inr over) rose = omega (arith, over, is, same, source_rises k, source_rises_by_one k)

  -- a run that has ended with this cycle
  asked_at : (k given : ℕ) → IsFirstAt (λ j. fired_after l j (sink l)) rows k → given ≡ rows_asked l k → given ≡ min rows (fired_after l (k - 1) 0 + 2)
  asked_at zero given end is = let at = end.at in omega (arith, at, is, none_fired (sink l))
  asked_at (suc k) given end is = is ∙ ap (λ (j : ℕ). min rows (fired_after l j 0 + 2)) (let e : k ≡ suc k - 1 = omega arith in e)

pub asks_for : (r : ClockRun) (given : List (List Bool)) (l : Life) (k : ℕ) → LifeBegins r given l → IsFirstAt (λ j. fired_after l j (sink l)) (length l.setup.input) k → length given ≡ rows_asked l k
    → AsksFor (links_of r.system) r.placement r.rows r.stalls (length given)
asks_for r given l k b end is =
    let s = l.setup.system in
    let p = l.setup.placement in
    let n = length l.setup.input in
    let first : IsFirstAtCap (marking (links_of s) p) (cap_of (links_of s) n) l.hold (sink l) k = record { reached = end.at ∙ sym (sink_cap l b.of.rules); first = λ j at. end.first j (at ∙ sink_cap l b.of.rules) } in
    let own : AsksFor (links_of s) p n r.stalls (length given) = record {
      cycles = k;
      ends = subst (λ (h : Hold). IsFirstAtCap (marking (links_of s) p) (cap_of (links_of s) n) h (sink l) k) b.of.held first;
      asked_is = asked_at l b.of.rules k (length given) end is ∙ ap (λ (h : Hold). min n (fired_in (links_of s) p n h (k - 1) 0 + 2)) b.of.held;
    } in
    subst (λ (m : ℕ). AsksFor (links_of r.system) r.placement m r.stalls (length given)) b.many
    (subst (λ (q : Placement). AsksFor (links_of r.system) q n r.stalls (length given)) b.of.stations
    (subst (λ (t : System). AsksFor (links_of t) p n r.stalls (length given)) b.of.of own))

-- a run that has begun was given its first row
pub started : (r : ClockRun) (held : Option (List ℕ)) (run : Running) (feed : RowFeed) → r.held ≡ held → run.made ≡ 0 → (h : HasStarted r run feed) → IsFed r held run feed h.given
started r held run feed told none h = record {
  told = told;
  running = h.running;
  feeds = h.feeds;
  asked = λ l b. subst (λ (k : ℕ). length h.given ≡ rows_asked l k) (sym none) (h.one ∙ ap (λ (n : ℕ). min 1 n) (sym b.many));
}
