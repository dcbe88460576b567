-- A run from cycle to cycle.
use Rattle.std.proofs.Common.{◌≡◌, ◌↔◌, ℕ, suc, ◌+◌, ◌*◌, ◌^◌, ◌<◌, ◌≤◌, ◌==◌, ◌⊎◌, inl, inr, Bool, true, false, min, List, [], ◌∷◌, ◌++◌, length, length-append, Option, Some, Result, Ok, Err, OnOk, slice_get, refl, sym, ◌∙◌, ap, subst, add-one, arith}
use Rattle.std.specs.Option.{is_some}
use Rattle.std.proofs.lemmas.Bool.Decides.{eqb_tells}
use Rattle.lid_system.specs.declared.System.{System}
use Rattle.lid_system.specs.Systems.{IsWellFormed}
use Rattle.lid_stations.specs.declared.placement.Placement.{Placement}
use Rattle.lid_stations.specs.Placements.{station_count, Fits}
use Rattle.lid_clock.specs.Lives.{Life, NeedsRow, IsBelow, sink}
use Rattle.lid_stall_text.specs.declared.stalls.Stall.{Stall}
use Rattle.lid_stall_text.specs.Holds.{Ascend, listed, hold_of}
use Rattle.lid_top_clock.specs.declared.course.Course.{Course}
use Rattle.lid_top_clock.specs.Courses.{RanBy}
use Rattle.lid_texts_feed.specs.declared.feed.RowFeed.{RowFeed}
use Rattle.lid_texts_feed.specs.Fetching.{GivesRow}
use Rattle.lid_top_clock.specs.declared.steps.Running.{Running}
use Rattle.lid_top_clock.specs.RunTexts.{cells_after, cycles_traced}
use Rattle.lid_top_clock.specs.Runnings.{ClockRun, source_columns, AreGiven, LifeBegins}
use Rattle.lid_top_clock.specs.Stepping.{MeetsRunRules, HasBegun, FeedGives, IsAtLife, IsRunning, HasNotEnded, IsFedOn}
use Rattle.lid_top_clock.proofs.Living.{some_life, begins_before, next_row_is, more_given}
use Rattle.lid_top_clock.proofs.Outputs.{cells_long, cells_traced, cells_none}

-- a fact along a number of cycles and one of rows
pub along : (P : ℕ → ℕ → Type 0) (k k' g g' : ℕ) → k ≡ k' → g ≡ g' → P k g → P k' g'
along P k k' g g' ks gs fact = subst (λ (n : ℕ). P n g') ks (subst (λ (n : ℕ). P k n) gs fact)

-- a further row
one_longer : (given : List (List Bool)) (row : List Bool) → length (given ++ row ∷ []) ≡ length given + 1
one_longer given row = length-append given (row ∷ [])

module _ (r : ClockRun) (run : Running) (given : List (List Bool)) (at : IsRunning r run given) where
  pub the_life : (l : Life) × LifeBegins r given l
  the_life = some_life r at.rules given at.rows

  -- a run of the stream of this life
  pub the_ran : (l : Life) × (k : ℕ) × (g : ℕ) × RanBy l k g run.stream × LifeBegins r given l
  the_ran = (the_life.0, run.made, length given, (at.lives the_life.0 the_life.1).ran, the_life.1)

  -- the same of a stream that is equal
  pub ran_on : (s : Course) → s ≡ run.stream → RanBy the_life.0 run.made (length given) s
  ran_on s same = subst (RanBy the_life.0 run.made (length given)) (sym same) (at.lives the_life.0 the_life.1).ran

  -- where the run goes on, a cycle more can be counted
  pub few_more : (s : Course) (made : Bool) (n : ℕ) → s ≡ run.stream → n ≡ run.made → HasNotEnded r run given → ((l : Life) (k g : ℕ) → RanBy l k g s → (made ≡ true) ↔ IsBelow l k) → ((l : Life) (k g : ℕ) → RanBy l k g s → made ≡ true → k + 1 < 2 ^ 64) → n + 1 < 2 ^ 64
  few_more s made n same is goes tells counts =
      let l = the_life.0 in
      let ran = ran_on s same in
      subst (λ (k : ℕ). k + 1 < 2 ^ 64) (sym is) (counts l run.made (length given) ran ((tells l run.made (length given) ran).1 (goes l the_life.1)))

  -- where a row is needed, not all were given
  pub below_all : ((l : Life) (k g : ℕ) → RanBy l k g run.stream → NeedsRow l k g) → length given < r.rows
  below_all needs =
      let b = the_life.1 in
      let n = needs the_life.0 run.made (length given) (at.lives the_life.0 b).ran in
      let on = n.goes_on in
      let is = n.lacks in
      let many = b.many in
      omega arith

  -- a further row was given
  module _ (new : Running) (feed : RowFeed) (row : List Bool)
      (needs : (l : Life) (k g : ℕ) → RanBy l k g run.stream → NeedsRow l k g)
      (gave : GivesRow r.held (source_columns r.system) (length r.columns) feed given row)
      (gives : (l : Life) (k g : ℕ) → RanBy l k g run.stream → slice_get l.setup.input g ≡ Some row → RanBy l k (g + 1) new.stream)
      (made : new.made ≡ run.made) (count : new.given ≡ run.given + 1) (trace : new.trace ≡ run.trace) (told : new.told ≡ run.told) (stations : new.stations ≡ run.stations) (cells : new.cells ≡ run.cells) where
    is_at : (l : Life) → LifeBegins r (given ++ row ∷ []) l → IsAtLife r (length (given ++ row ∷ [])) new l
    is_at l b =
        let before = at.lives l (begins_before r given row l b) in
        record {
          ran = along (λ k g. RanBy l k g new.stream) run.made new.made (length given + 1) (length (given ++ row ∷ [])) (sym made) (sym (one_longer given row))
              (gives l run.made (length given) before.ran (next_row_is r given row l b));
          cells = ap (λ cs. cs.items) cells ∙ before.cells ∙ ap (λ (k : ℕ). cells_after l (cycles_traced r.trace k)) (sym made);
          busy = λ k h. before.busy k (let e = made in omega arith);
        }

    pub fed_on : IsFedOn r given new feed
    fed_on = record {
      given = given ++ row ∷ [];
      running = record {
        rules = at.rules;
        rows = more_given r given row at.rows (below_all needs) gave.wide gave.first;
        count = count ∙ ap (λ (n : ℕ). n + 1) at.count ∙ sym (one_longer given row);
        trace = trace ∙ at.trace;
        told = told ∙ at.told;
        stations = stations ∙ at.stations;
        lives = is_at;
      };
      feeds = gave.gives;
      further = λ l b. begins_before r given row l b;
      ready = λ l b n.
          let needed = needs l run.made (length given) (at.lives l (begins_before r given row l b)).ran in
          let again = subst (λ (k : ℕ). NeedsRow l k (length (given ++ row ∷ []))) made n in
          let was = needed.lacks in
          let is = again.lacks in
          let more = one_longer given row in
          omega arith;
      once = λ l b.
          let before = begins_before r given row l b in
          inr (subst (λ (k : ℕ). NeedsRow l k (length given)) (sym made) (needs l run.made (length given) (at.lives l before).ran), one_longer given row);
    }

  -- no row is needed
  pub fed_already : (feed : RowFeed) → FeedGives r feed given → ((l : Life) (k g : ℕ) → RanBy l k g run.stream → NeedsRow l k g → ⊥) → IsFedOn r given run feed
  fed_already feed feeds none = record {
    given = given;
    running = at;
    feeds = feeds;
    further = λ l b. b;
    ready = λ l b. none l run.made (length given) (at.lives l b).ran;
    once = λ l b. inl refl;
  }

  -- a cycle was made
  pub stepped : (new : Running) → HasNotEnded r run given
      → ((l : Life) → LifeBegins r given l → new.cells.items ≡ cells_after l (cycles_traced r.trace (run.made + 1)))
      → ((l : Life) (k g : ℕ) → RanBy l k g run.stream → IsBelow l k → RanBy l (suc k) g new.stream)
      → new.made ≡ run.made + 1 → new.given ≡ run.given → new.trace ≡ run.trace → new.told ≡ run.told → new.stations ≡ run.stations → IsRunning r new given
  stepped new goes shown ran made count trace told stations = record {
    rules = at.rules;
    rows = at.rows;
    count = count ∙ at.count;
    trace = trace ∙ at.trace;
    told = told ∙ at.told;
    stations = stations ∙ at.stations;
    lives = λ l b. record {
      ran = subst (λ (k : ℕ). RanBy l k (length given) new.stream) (sym (add-one run.made) ∙ sym made) (ran l run.made (length given) (at.lives l b).ran (goes l b));
      cells = shown l b ∙ ap (λ (k : ℕ). cells_after l (cycles_traced r.trace k)) (sym made);
      busy = λ k h. busy_on l b k (let e = made in omega arith);
    };
  }
    where
      busy_on : (l : Life) → LifeBegins r given l → (k : ℕ) → k < run.made + 1 → IsBelow l k
      busy_on l b k h = by (eqb_tells k run.made)
        where
          by : ((k == run.made ≡ true) × (k ≡ run.made)) ⊎ ((k == run.made ≡ false) × (k ≡ run.made → ⊥)) → IsBelow l k
          by (inl same) = subst (λ (j : ℕ). IsBelow l j) (sym same.1) (goes l b)
          by (inr other) = (at.lives l b).busy k (let differs = other.1 in omega (arith, differs))

  -- the trace of a run
  module _ (most : ℕ) (is : run.trace ≡ Some most) where
    trace_is : r.trace ≡ Some most
    trace_is = sym at.trace ∙ is

    stations_are : (l : Life) → LifeBegins r given l → run.stations ≡ station_count l.setup.placement.relays
    stations_are l b = at.stations ∙ ap (λ p. station_count p.relays) (sym b.of.stations)

    cells_are : (l : Life) → LifeBegins r given l → run.cells.items ≡ cells_after l (min run.made most)
    cells_are l b = cells_traced l r.trace most run.made run.cells.items trace_is (at.lives l b).cells

    pub trace_long : length run.cells.items ≡ run.stations * min run.made most
    trace_long =
        let l = the_life.0 in
        let b = the_life.1 in
        ap length (cells_are l b) ∙ cells_long l (min run.made most) ∙ ap (λ (n : ℕ). n * min run.made most) (sym (stations_are l b))

-- a run that has begun
pub begun : (r : ClockRun) (s : System) (p : Placement) (rows : ℕ) (trace : Option ℕ) (stalls : Option (List Stall)) → r.system ≡ s → r.placement ≡ p → r.rows ≡ rows → r.trace ≡ trace → r.stalls ≡ stalls
    → MeetsRunRules r → (given : List (List Bool)) → AreGiven r given → (run : Running) (first : Option (List Bool)) → HasBegun s p rows first trace stalls run
    → length given ≡ min 1 rows → ((l : Life) → LifeBegins r given l → slice_get l.setup.input 0 ≡ first) → IsRunning r run given
begun r s p rows trace stalls system stations many most same sound given are run first h long begins = record {
  rules = sound;
  rows = are;
  count = h.given ∙ sym long;
  trace = h.trace ∙ sym most;
  told = h.told ∙ ap is_some (sym same);
  stations = h.stations ∙ ap (λ p. station_count p.relays) (sym stations);
  lives = λ l b. record {
    ran = along (λ k g. RanBy l k g run.stream) 0 run.made (min 1 rows) (length given) (sym h.made) (sym long)
        (h.ran l (record { rules = b.of.rules; of = b.of.of ∙ system; stations = b.of.stations ∙ stations; many = b.many ∙ many; begins = begins l b })
        (b.of.held ∙ ap (λ (xs : Option (List Stall)). hold_of xs (sink l)) same));
    cells = h.cells ∙ sym (cells_none l r.trace) ∙ ap (λ (k : ℕ). cells_after l (cycles_traced r.trace k)) (sym h.made);
    busy = λ k below. absurd (let none = h.made in omega arith);
  };
}

-- the rules of a run
pub sound_of : (r : ClockRun) (s : System) (p : Placement) (rows : ℕ) → r.system ≡ s → r.placement ≡ p → r.rows ≡ rows → IsWellFormed s → Fits s p → rows ≤ 1000000 → Ascend (listed r.stalls) → MeetsRunRules r
sound_of r s p rows system stations many well fits few ascend = record {
  system = subst IsWellFormed (sym system) well;
  fits = subst (λ q. Fits r.system q) (sym stations) (subst (λ t. Fits t p) (sym system) fits);
  few = subst (λ (n : ℕ). n ≤ 1000000) (sym many) few;
  ascend = ascend;
}

-- what holds of a result for each value
pub on_ok_each : {A E X : Type 0} → (P : X → Type 0) (result : Result A E) → ((x : X) → OnOk result (P x)) → OnOk result ((x : X) → P x)
on_ok_each P (Ok a) each = each
on_ok_each P (Err e) each = tt
