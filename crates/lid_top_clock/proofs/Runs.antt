-- The run that a file feeds is a run of the script that reads the file again.
use Rattle.std.proofs.Common.{◌≡◌, ℕ, ◌≤◌, Bool, List, [], append-nil, length, Option, None, IsSome, Result, Ok, Err, inl, inr, refl, sym, ◌∙◌, ap, subst, arith}
use Rattle.std.specs.Borrow.{Bor}
use Rattle.std.specs.Option.{option_map_or}
use Rattle.std.specs.List.{AllByRecursion}
use Rattle.lid_base.specs.declared.outside.Fetch.{Fetch}
use Rattle.lid_base.specs.Outside.{Rose}
use Rattle.lid_base_io.specs.Calls.{IsFetching}
use Rattle.lid_design.specs.declared.Design.{Design}
use Rattle.lid_design.specs.Network.{Table, IsStrict}
use Rattle.lid_design.specs.Walks.{HasTable}
use Rattle.lid_design.specs.Columns.{Column, drivers, root_inputs, root_outputs}
use Rattle.lid_system.specs.declared.System.{System}
use Rattle.lid_system.specs.Systems.{IsWellFormed}
use Rattle.lid_system.proofs.Points.{first_node}
use Rattle.lid_net_law.specs.Agreement.{IsSystemOf}
use Rattle.lid_stations.specs.declared.placement.Placement.{Placement}
use Rattle.lid_stations.specs.Placements.{links_of, Fits}
use Rattle.lid_clock.specs.Lives.{Life}
use Rattle.lid_shell_laws.specs.Setups.{IsInputRow}
use Rattle.lid_stall_text.specs.declared.stalls.Stall.{Stall}
use Rattle.lid_texts.specs.declared.rows.VecFault.TheVariants.{Changed}
use Rattle.lid_top_refusals.specs.declared.refusal.Refusal.TheVariants.{Rows}
use Rattle.lid_top_refusals.specs.Refusals.{refusal_line}
use Rattle.lid_texts_feed.specs.declared.fault.FeedFault.TheVariants as feed
use Rattle.lid_texts_feed.specs.Feeds.{IsText, AreFetchesFor, AreFirstFetchesFor}
use Rattle.lid_top_clock.specs.declared.fault.RunFault.{RunFault}
use Rattle.lid_top_clock.specs.declared.fault.RunFault.TheVariants as run
use Rattle.lid_top_clock.specs.Runnings.{ClockRun, run_of, columns_of, source_columns, AreGiven, LifeBegins, WritesPart, HasRun, HasStopped, IsRunCause}
use Rattle.lid_top_clock.specs.RunTexts.{IsRunText}
use Rattle.lid_top_clock.specs.Refetching.{StopsBy, StillFor, HasFetched, RunFetches}
use Rattle.lid_top_script.specs.declared.fault.Stop.{Stop}
use Rattle.lid_top_script.specs.declared.fault.Stop.TheVariants.{Refused, Read, Memory, Denied}
use Rattle.lid_top_script.specs.declared.fault.JobEnd.{JobEnd}
use Rattle.lid_top_script.specs.declared.fault.JobEnd.TheVariants.{Stopped, Unwritten}
use Rattle.lid_top_script.specs.Outputs.{clocked}
use Rattle.lid_top_script.specs.Clocked.{AsksFor}
use Rattle.lid_top_script.specs.Scripts.{refuses, Rereading, Script, rows_limit, vec_reading, reread_rows, rerun_script, EndsIn, ReachesFetch}
use Rattle.lid_top_script.specs.Fetches.{Halt, at_end, at_fetch, at_write, between, HaltsInAgain, IsRefetching, IsRefetchingPart, GoesBy}
use Rattle.lid_top_script.specs.FetchSteps.{halt_of}
use Rattle.lid_top_script.specs.Causes.{Got, Declines, IsJobEnd, IsRefusedJob, stop_of_rows}
use Rattle.lid_top_script.specs.Statuses.{HasText, Writes, WritesPrefix}
use Rattle.lid_top_script.specs.Early.{RunsEarly, GoesToOutput, halt_by, StillBy, FetchesEarly}
use Rattle.lid_top_script.specs.Wrapped.{Wrapping}
use Rattle.lid_top_script.proofs.Readings.{vec_declines}
use Rattle.lid_top_script.proofs.Going.{part_of_changed, still_any}
use Rattle.lid_top_clock.specs.declared.asked.Asked.{Asked}
use Rattle.lid_top_clock.specs.Clocking.{after_trace}
use Rattle.lid_top_clock.specs.Stops.{end_of_run}
use Rattle.lid_top_clock.proofs.Lifetimes.{life, lives, clock_text}
use Rattle.lid_top_clock.proofs.Rest.{Rest, rest, Falls, is_changed, never_told, falls_refused, falls_few, untold_refused}
use Rattle.lid_base.proofs.Alls.{all_weaker}

-- the source has the columns of the design's inputs
pub source_named : (d : Design) (s : System) → IsSystemOf d s → IsWellFormed s → source_columns s ≡ root_inputs d
source_named d s of well =
    let first = first_node s well in
    ap (λ o. option_map_or columns_of o []) first.1 ∙ of.source 0 first.0 first.1

along : {A B : Type 0} {a c : A} {b d : B} (P : A → B → Type 0) → a ≡ c → b ≡ d → P a b → P c d
along {c = c} {b = b} P first second h = subst (P c) second (subst (λ x. P x b) first h)

module _ (held : List ℕ → Option (List ℕ)) (d : Design) (s : System) (p : Placement) (file : Bor (List ℕ)) (stalls : Option (List Stall)) (trace : Option ℕ) (count : ℕ) (rows : List (List Bool))
    (of : IsSystemOf d s) (well : IsWellFormed s) (fits : Fits s p) (few : count ≤ 1000000) (has : HasTable (drivers d)) (got : Got held file.now rows_limit (vec_reading d) rows) (many : count ≡ length rows) where
  abbrev vec : List ℕ
  vec = file.now

  abbrev r : ClockRun
  r = record { system = s; placement = p; columns = root_outputs d; rows = count; trace = trace; stalls = stalls; held = held vec }

  abbrev script : Script
  script = rerun_script d (links_of s) p vec stalls trace rows

  abbrev Asks : ℕ → Type 0
  Asks = AsksFor (links_of s) p (length rows) stalls

  abbrev again_rows : Rereading
  again_rows = reread_rows d vec Asks rows

  module _ (given : List (List Bool)) (are : AreGiven r given) where
    abbrev Wide : List Bool → Type 0
    Wide row = length row ≡ length (root_inputs d)

    wide : AllByRecursion Wide given
    wide =
        let first = first_node s well in
        all_weaker (IsInputRow s) Wide given (λ row is. is first.0 first.1 ∙ ap length (of.source 0 first.0 first.1)) are.wide

    second : Rest held again_rows given
    second = rest held d vec rows Asks got (source_columns s) (source_named d s of well) given (let most = are.few in omega (arith, many, most)) wide are.first

    table : (b : Table Column) × IsStrict (drivers d) second.input b
    table = has second.input

    abbrev alive : Life
    alive = life d s p of well second.input table.0 table.1 stalls

    begins : LifeBegins r given alive
    begins = record {
      of = lives d s p of well second.input table.0 table.1 stalls fits (let same = second.is.many in omega (arith, same, many, few)) second.is.wide;
      many = second.is.many ∙ sym many;
      first = second.first;
    }

    has_text : (text : List ℕ) → IsRunText alive (root_outputs d) stalls trace text → HasText held script text
    unfolding rerun_script
    has_text text is = record {
      output = clocked d (links_of s) p second.input stalls trace;
      ends = inl (second.input, second.is, refl);
      text_of = clock_text d s p of well second.input table.0 table.1 stalls trace text is;
    }

    part_written : {O : Type 0} (written : O → Option (List ℕ)) (pieces : O → Option (List (List ℕ))) (old new : O) → ((l : Life) → LifeBegins r given l → WritesPart r l written pieces old new) → WritesPrefix held script written pieces old new
    part_written written pieces old new told =
        let part = told alive begins in
        record { text = part.text; has = has_text part.text part.is; appended = part.appended; came = part.came }

  all_written : {O : Type 0} (written : O → Option (List ℕ)) (pieces : O → Option (List (List ℕ))) (old new : O) → HasRun r written pieces old new → Writes held script written pieces old new
  all_written written pieces old new ran =
      let whole = ran.told (alive ran.rows ran.given) (begins ran.rows ran.given) in
      record { text = whole.text; has = has_text ran.rows ran.given whole.text whole.is; appended = whole.appended; came = whole.came }

  reached : ReachesFetch held script vec
  unfolding rerun_script
  reached = inl refl

  changed : (line : List ℕ) → Falls held d vec rows line → EndsIn held script (refuses line)
  unfolding rerun_script
  changed line falls = inr (line, is_changed held d vec rows Asks got line falls, refl)

  module _ {O : Type 0} (written : O → Option (List ℕ)) (pieces : O → Option (List (List ℕ))) (writes : O → ℕ) (before after : List ℕ → ℕ) (out out_after : O) where
    abbrev Runs : Result (Unit {0}) JobEnd → Type 0
    Runs result = RunsEarly held script before after written pieces writes out out_after result

    abbrev Failed : Type 0
    Failed = Rose (writes out) (writes out_after) × WritesPrefix held script written pieces out out_after

    -- of such columns, over a file of such a name
    abbrev Ran : List (List ℕ) → List ℕ → Type 0
    Ran columns name = HasRun (run_of s p columns count trace stalls (held name)) written pieces out out_after

    abbrev Stops : RunFault → List (List ℕ) → List ℕ → Type 0
    Stops fault columns name = HasStopped (run_of s p columns count trace stalls (held name)) written pieces out out_after (Rose (before name) (after name)) (Rose (writes out) (writes out_after)) fault

    pub runs_whole : {columns : List (List ℕ)} {name : List ℕ} → columns ≡ root_outputs d → name ≡ vec → Ran columns name → Runs (Ok tt)
    runs_whole same named ran = record {
      done = all_written written pieces out out_after (along Ran same named ran);
      fails = tt;
      left = tt;
      unwritten = tt;
    }

    module _ (part : WritesPrefix held script written pieces out out_after) where
      ended : (end : JobEnd) → IsJobEnd held script before after Failed end → (IsRefusedJob end → IsSome (held vec) → ⊥) → Runs (Err end)
      ended end is never = record {
        done = tt;
        fails = is;
        left = λ stopped. inr part;
        unwritten = λ refused tells. absurd (never refused (tells vec reached));
      }

      -- the text refuses
      declined : (bytes : List ℕ) (stop : Stop) → IsText (held vec) bytes → Declines (vec_reading d bytes) stop → Runs (Err (Stopped stop))
      declined bytes (Refused refusal) text reads =
          let falls = falls_refused held d vec rows Asks got bytes (refusal_line refusal) text reads in
          ended (Stopped (Refused refusal)) (changed (refusal_line refusal) falls) (λ refused told. never_told held d vec rows Asks got (refusal_line refusal) falls told)
      declined bytes (Read name) text reads = absurd reads
      declined bytes Memory text reads = ended (Stopped Memory) tt (λ refused told. refused)
      declined bytes Denied text reads = absurd reads

      by_cause : (given : List (List Bool)) (fault : RunFault) → IsRunCause r given (Rose (before vec) (after vec)) (Rose (writes out) (writes out_after)) fault → Runs (Err (end_of_run file count fault))
      by_cause given (run.Feed feed.Read) cause = ended (Stopped (Read file)) (reached, cause.0) (λ refused told. refused)
      by_cause given (run.Feed feed.Memory) cause = ended (Stopped Memory) tt (λ refused told. refused)
      by_cause given (run.Feed (feed.Refused fault)) cause =
          let refused = cause.1 in
          declined refused.bytes (stop_of_rows fault) refused.fetched
          (vec_declines d refused.bytes (source_columns s) (length (root_outputs d)) fault (source_named d s of well) refl (inr refused.refuses))
      by_cause given (run.Few found) cause =
          let stop = Refused (Rows (Changed count found)) in
          let line = refusal_line (Rows (Changed count found)) in
          let falls : Falls held d vec rows line = falls_few held d vec rows Asks got (source_columns s) (source_named d s of well) count found given many cause.0 cause.1 cause.2 in
          ended (Stopped stop) (changed line falls) (λ refused told. never_told held d vec rows Asks got line falls told)
      by_cause given run.Memory cause = ended (Stopped Memory) tt (λ refused told. refused)
      by_cause given run.Write cause = ended Unwritten (cause, part) (λ refused told. refused)

    in_part : (fault : RunFault) → Stops fault (root_outputs d) vec → Runs (Err (end_of_run file count fault))
    in_part fault stopped =
        by_cause (part_written stopped.rows stopped.given written pieces out out_after stopped.told) stopped.rows fault stopped.cause

    pub runs_in_part : {columns : List (List ℕ)} {name : List ℕ} {end : JobEnd} (fault : RunFault) → end ≡ end_of_run file count fault → columns ≡ root_outputs d → name ≡ vec → Stops fault columns name → Runs (Err end)
    runs_in_part fault is same named stopped = subst (λ end. Runs (Err end)) (sym is) (in_part fault (along (Stops fault) same named stopped))

  -- the fetches of the second reading
  module _ (whole : Bool) (first now : Option (List Fetch)) where
    some_again : (calls : List Fetch) → AreFirstFetchesFor whole (held vec) (source_columns s) (length (root_outputs d)) count vec calls → IsRefetchingPart whole (held vec) again_rows calls
    some_again calls part =
        let own : AreFirstFetchesFor whole (held vec) (root_inputs d) (length (root_outputs d)) (length rows) vec calls =
        subst (λ (n : ℕ). AreFirstFetchesFor whole (held vec) (root_inputs d) (length (root_outputs d)) n vec calls) many
        (subst (λ (names : List (List ℕ)). AreFirstFetchesFor whole (held vec) names (length (root_outputs d)) count vec calls) (source_named d s of well) part) in
        record { part = own.part; exact = own.exact }

    all_again : (h : HasFetched whole r vec first now) → IsRefetching whole (held vec) again_rows h.came.0
    all_again h =
        let own : AreFetchesFor whole (held vec) (root_inputs d) (length (root_outputs d)) (length h.rows) vec h.came.0 =
        subst (λ (names : List (List ℕ)). AreFetchesFor whole (held vec) names (length (root_outputs d)) (length h.rows) vec h.came.0) (source_named d s of well) h.came.2 in
        record {
          asked = length h.rows;
          asks = subst (λ (n : ℕ). AsksFor (links_of s) p n stalls (length h.rows)) many (h.asks (alive h.rows h.given) (begins h.rows h.given));
          part = own.part;
          exact = own.exact;
        }

    goes_whole : (h : HasFetched whole r vec first now) → GoesToOutput whole held script h.came.0
    unfolding rerun_script
    goes_whole h =
        let again = second h.rows h.given in
        (clocked d (links_of s) p again.input stalls trace, inr (inl (again.input, h.came.0, [], sym (append-nil h.came.0), again.is, all_again h, (refl, inl refl))))

    -- the second text is not the first
    module _ (calls : List Fetch) (all : IsFetching whole (held vec) vec rows_limit calls) where
      goes_changed : (line : List ℕ) → Falls held d vec rows line → GoesBy whole held script calls (at_end (refuses line))
      unfolding rerun_script
      goes_changed line falls = inr (inr (line, is_changed held d vec rows Asks got line falls, all, refl))

      goes_untold : held vec ≡ None → GoesBy whole held script calls between
      unfolding rerun_script
      goes_untold untold = inl (tt, part_of_changed whole (held vec) again_rows calls untold all)

      goes_refused : (bytes : List ℕ) (stop : Stop) → IsText (held vec) bytes → held vec ≡ None → Declines (vec_reading d bytes) stop → GoesBy whole held script calls (halt_of stop)
      goes_refused bytes (Refused refusal) text untold reads = goes_changed (refusal_line refusal) (falls_refused held d vec rows Asks got bytes (refusal_line refusal) text reads)
      goes_refused bytes (Read name) text untold reads = absurd reads
      goes_refused bytes Memory text untold reads = goes_untold untold
      goes_refused bytes Denied text untold reads = absurd reads

    goes_part : (calls : List Fetch) (halt : Halt) → HaltsInAgain halt vec → AreFirstFetchesFor whole (held vec) (source_columns s) (length (root_outputs d)) count vec calls → GoesBy whole held script calls halt
    unfolding rerun_script
    goes_part calls halt halts part = inl (halts, some_again calls part)

    goes_stopped : (reads writes : Type 0) (given : List (List Bool)) (fault : RunFault) (calls : List Fetch) → IsRunCause r given reads writes fault → StopsBy whole r vec fault calls → GoesBy whole held script calls (halt_by (end_of_run file count fault))
    goes_stopped reads writes given (run.Feed feed.Read) calls cause part = goes_part calls (at_fetch vec) refl part
    goes_stopped reads writes given (run.Feed feed.Memory) calls cause part = goes_part calls between tt part
    goes_stopped reads writes given (run.Feed (feed.Refused fault)) calls cause all =
        let refused = cause.1 in
        goes_refused calls all refused.bytes (stop_of_rows fault) refused.fetched (untold_refused held d vec rows Asks got (source_columns s) (source_named d s of well) fault refused)
        (vec_declines d refused.bytes (source_columns s) (length (root_outputs d)) fault (source_named d s of well) refl (inr refused.refuses))
    goes_stopped reads writes given (run.Few found) calls cause all =
        goes_changed calls all (refusal_line (Rows (Changed count found))) (falls_few held d vec rows Asks got (source_columns s) (source_named d s of well) count found given many cause.0 cause.1 cause.2)
    goes_stopped reads writes given run.Memory calls cause part = goes_part calls between tt part
    goes_stopped reads writes given run.Write calls cause part = goes_part calls at_write tt part

    module _ (before after : List ℕ → ℕ) where
      -- of such columns, over a file of such a name
      abbrev RunBy : List (List ℕ) → List ℕ → ClockRun
      RunBy columns name = run_of s p columns count trace stalls (held name)

      abbrev Fetches : Result (Unit {0}) RunFault → List (List ℕ) → List ℕ → Type 0
      Fetches result columns name = RunFetches whole (RunBy columns name) name first now before after result

      pub fetched_whole : {columns : List (List ℕ)} {name : List ℕ} → columns ≡ root_outputs d → name ≡ vec → Fetches (Ok tt) columns name → FetchesEarly whole held script first now before after (Ok tt)
      fetched_whole same named f =
          let own : Fetches (Ok tt) (root_outputs d) vec = along (Fetches (Ok tt)) same named f in
          record { done = (own.done.came.0, own.done.came.1, goes_whole own.done); begun = tt; still = own.still; still_by = tt }

      still_so : (fault : RunFault) → StillFor fault before after → StillBy (end_of_run file count fault) before after
      still_so (run.Feed feed.Read) still = tt
      still_so (run.Feed feed.Memory) still = still
      still_so (run.Feed (feed.Refused fault)) still = still_any (stop_of_rows fault) before after still
      still_so (run.Few found) still = still
      still_so run.Memory still = still
      still_so run.Write still = still

      pub fetched_in_part : (reads writes : Type 0) {columns : List (List ℕ)} {name : List ℕ} {end : JobEnd} (given : List (List Bool)) (fault : RunFault) → end ≡ end_of_run file count fault → columns ≡ root_outputs d → name ≡ vec
          → IsRunCause (RunBy columns name) given reads writes fault → Fetches (Err fault) columns name → FetchesEarly whole held script first now before after (Err end)
      fetched_in_part reads writes given fault is same named cause f =
          let own : Fetches (Err fault) (root_outputs d) vec = along (Fetches (Err fault)) same named f in
          let why : IsRunCause r given reads writes fault = along (λ columns name. IsRunCause (RunBy columns name) given reads writes fault) same named cause in
          subst (λ end. FetchesEarly whole held script first now before after (Err end)) (sym is) (record {
            done = tt;
            begun = (own.begun.0, own.begun.1, goes_stopped reads writes given fault own.begun.0 why own.begun.2);
            still = tt;
            still_by = still_so fault own.still_for;
          })

-- what is said of the fields of a design with its stations is said of it
pub fetched_outside : {whole : Bool} {held : List ℕ → Option (List ℕ)} {old new : Option (List Fetch)} {before after : List ℕ → ℕ} {result : Result (Unit {0}) JobEnd} {fields w : Wrapping} (a : Asked) (stalls : Option (List Stall)) (rows : List (List Bool)) → fields ≡ w
    → FetchesEarly whole held (after_trace a fields stalls rows) old new before after result → FetchesEarly whole held (after_trace a w stalls rows) old new before after result
fetched_outside {whole = whole} {held = held} {old = old} {new = new} {before = before} {after = after} {result = result} a stalls rows same f =
    subst (λ (u : Wrapping). FetchesEarly whole held (after_trace a u stalls rows) old new before after result) same f

pub runs_outside : {O : Type 0} {held : List ℕ → Option (List ℕ)} {before after : List ℕ → ℕ} {written : O → Option (List ℕ)} {pieces : O → Option (List (List ℕ))} {writes : O → ℕ} {out out_after : O} {result : Result (Unit {0}) JobEnd} {fields w : Wrapping} (a : Asked) (stalls : Option (List Stall)) (rows : List (List Bool)) → fields ≡ w
    → RunsEarly held (after_trace a fields stalls rows) before after written pieces writes out out_after result → RunsEarly held (after_trace a w stalls rows) before after written pieces writes out out_after result
runs_outside {held = held} {before = before} {after = after} {written = written} {pieces = pieces} {writes = writes} {out = out} {out_after = out_after} {result = result} a stalls rows same ran =
    subst (λ (u : Wrapping). RunsEarly held (after_trace a u stalls rows) before after written pieces writes out out_after result) same ran
