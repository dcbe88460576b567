-- The cells of a trace: how many there are, and that each is one of a dump.
use Rattle.std.proofs.Common.{◌≡◌, ℕ, zero, suc, ◌+◌, ◌-◌, ◌*◌, ◌^◌, ◌<◌, ◌≤◌, ◌==◌, max, nat_lt, if◌then◌else◌, Bool, true, false, List, [], ◌∷◌, ◌++◌, length, length-append, refl, sym, ◌∙◌, ap, subst, true≢false, append-nil, add-one, arith}
use Rattle.std.specs.List.{flat_map, AllByRecursion}
use Rattle.std.proofs.lemmas.Grind.{flat_map-append}
use Rattle.std.proofs.lemmas.Nat.{mul-le}
use Rattle.lid_base.specs.declared.runs.Shown.{Shown}
use Rattle.lid_design.specs.Network.{Table}
use Rattle.lid_base.specs.Each.{from_each}
use Rattle.lid_texts_runs.specs.declared.trace.Trace.{Trace}
use Rattle.lid_system.specs.declared.System.{System}
use Rattle.lid_system.specs.declared.Channel.{Channel}
use Rattle.lid_system.specs.Systems.{Point, IsChannel, IsWellFormed}
use Rattle.lid_system.specs.Streams.{token_at}
use Rattle.lid_system.proofs.Streaming.{small_token}
use Rattle.lid_stations.specs.declared.placement.Placement.{Placement}
use Rattle.lid_stations.specs.Placements.{links_of, station_count}
use Rattle.lid_stations.specs.Stations.{spot_at, no_channel, capacity}
use Rattle.lid_shell_laws.specs.Runs.{token_of, in_count, out_count}
use Rattle.lid_shell_laws.specs.Views.{shown_as}
use Rattle.lid_vcd_form.specs.Writable.{IsCell, IsWritable}
use Rattle.lid_clock.specs.Lives.{Life, IsLife, fired_after, shown_after}
use Rattle.lid_top_held.specs.Traces.{life_cells, cells_before, IsTraceOf}
use Rattle.lid_base.proofs.Each.{each_length, each_one_more, all_each}
use Rattle.lid_base.proofs.Alls.{all_weaker, all_or, all_flat}

-- the cells of one more cycle
pub cells_one_more : (l : Life) (k : ℕ) → cells_before l (k + 1) ≡ cells_before l k ++ life_cells l k
cells_one_more l k =
    ap (flat_map (life_cells l)) (each_one_more (λ j. j) k)
    ∙ flat_map-append (life_cells l) (from_each (λ j. j) 0 k) (k ∷ [])
    ∙ ap (λ (xs : List Shown). cells_before l k ++ xs) (append-nil (life_cells l k))

-- each cycle has a cell for each station
cells_long : (l : Life) (k : ℕ) → length (cells_before l k) ≡ station_count l.setup.placement.relays * k
cells_long l zero = (let none : station_count l.setup.placement.relays * 0 ≡ 0 = omega arith in sym none)
cells_long l (suc k) =
    let n = station_count l.setup.placement.relays in
    let more : n * suc k ≡ n * k + n = mul_suc n k in
    ap (λ (j : ℕ). length (cells_before l j)) (sym (add-one k))
    ∙ ap length (cells_one_more l k)
    ∙ length-append (cells_before l k) (life_cells l k)
    ∙ (let before = cells_long l k in let here : length (life_cells l k) ≡ n = each_length _ 0 n in omega arith)
  where
    mul_suc : (a b : ℕ) → a * suc b ≡ a * b + a
    mul_suc a b = grind (arith)

-- what a station shows is a cell, where its token is small
cell_is : (cap put taken : ℕ) (token : ℕ → ℕ) → token taken < 2 ^ 31 → IsCell (shown_as cap put taken token)
cell_is cap put taken token small = by_valid (nat_lt taken put)
  where
    none_small : 0 < 2 ^ 31
    none_small = omega arith

    by_valid : (valid : Bool) → IsCell (record { valid = valid; stop = put - taken == cap; token = if valid then token taken else 0 })
    by_valid true = record { small = small; void = λ e. absurd (true≢false e) }
    by_valid false = record { small = none_small; void = λ e. refl }

module _ (s : System) (well : IsWellFormed s) (b : Table Point) where
  abbrev IsSmall : Channel → Type 0
  IsSmall ch = (t : ℕ) → token_at s b ch t < 2 ^ 31

  tokens_small : (p : Placement) (station i : ℕ) → token_of s p b station i < 2 ^ 31
  tokens_small p station i =
      let few : 0 ≤ 31 = omega arith in
      all_or IsSmall s.channels (spot_at p.relays station).channel no_channel
      (all_weaker (IsChannel s) IsSmall s.channels (λ ch is t. small_token s b t ch is.few) well.each_channel)
      (λ t. small_token s b t no_channel few) i

module _ (l : Life) (rules : IsLife l) where
  shown_is : (k station : ℕ) → IsCell (shown_after l k station)
  shown_is k station =
      let at = links_of l.setup.system in
      let fired = fired_after l k in
      cell_is (capacity l.setup.placement station) (in_count at l.setup.placement (length l.setup.input) fired station) (out_count at l.setup.placement fired station) (token_of l.setup.system l.setup.placement l.setup.table station)
      (tokens_small l.setup.system rules.system l.setup.table l.setup.placement station (out_count at l.setup.placement fired station))

  cells_are : (k : ℕ) → AllByRecursion IsCell (cells_before l k)
  cells_are k = all_flat IsCell (life_cells l) (from_each (λ j. j) 0 k) (λ j among. all_each IsCell (shown_after l j) 0 (station_count l.setup.placement.relays) (shown_is j))

  few_cells : (n c most : ℕ) → c ≤ most → most ≤ 1048576 → n * most ≤ 1048576 → max n 1 * c ≤ 1048576
  few_cells n c most short few cells = omega (arith, mul-le (max n 1) c (max n 1) most (omega arith) short, by_count n cells)
    where
      by_count : (n : ℕ) → n * most ≤ 1048576 → max n 1 * most ≤ 1048576
      by_count zero cells = let one : max 0 1 ≡ 1 = refl in omega (arith, few)
      by_count (suc n) cells = let same : max (suc n) 1 ≡ suc n = omega arith in subst (λ (m : ℕ). m * most ≤ 1048576) (sym same) cells

  -- the trace of a life is one that is written
  pub writable : (most : ℕ) (t : Trace) → IsTraceOf l most t → most ≤ 1048576 → station_count l.setup.placement.relays * most ≤ 1048576 → IsWritable t
  writable most t is few cells = record {
    whole = ap length is.shown ∙ cells_long l t.cycles ∙ ap (λ (n : ℕ). n * t.cycles) (sym is.all);
    few = few_cells t.stations t.cycles most is.few few (subst (λ (n : ℕ). n * most ≤ 1048576) (sym is.all) cells);
    stations = subst (λ (n : ℕ). n ≤ 65536) (sym is.all) rules.fits.rules.most;
    cells = subst (AllByRecursion IsCell) (sym is.shown) (cells_are t.cycles);
  }
