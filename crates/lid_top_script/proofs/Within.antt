-- A script that ends as another one may, and reaches the files that the other one reaches: what the run of
-- the other one shows, it shows.
use Rattle.std.proofs.Common.{◌≡◌, ℕ, ◌≤◌, true, List, Option, Some, None, Result, Err, IfOk, IfErr, inl, inr, refl, sym, ◌∙◌, subst, arith}
use Rattle.std.specs.declared.alloc.Global.{Global}
use Rattle.std.specs.declared.vec.Vec.{Vec}
use Rattle.lid_base.proofs.Results.{if_ok, on_ok, if_err}
use Rattle.lid_design.specs.declared.Design.{Design}
use Rattle.lid_stations.specs.declared.placement.Placement.{Placement}
use Rattle.lid_stations.specs.Placements.{Links, links_of}
use Rattle.lid_stall_text.specs.declared.stalls.Stall.{Stall}
use Rattle.lid_top_refusals.specs.Refusals.{refusal_line}
use Rattle.lid_top_script.specs.declared.fault.Stop.{Stop}
use Rattle.lid_top_script.specs.declared.fault.Stop.TheVariants.{Refused, Read, Memory, Denied}
use Rattle.lid_top_script.specs.declared.fault.JobEnd.{JobEnd}
use Rattle.lid_top_script.specs.declared.fault.JobEnd.TheVariants.{Stopped, Unwritten}
use Rattle.lid_top_script.specs.Outputs.{Output, IsTextOf}
use Rattle.lid_top_script.specs.Scripts.{Ending, refuses, denies, gives, Script, decide, end as ended, Reading, good, read_then, read_step, net_limit, net_reading, check_step, net_step, system_step, wrapped_step, IsChecked, IsUnchecked, HasChannels, IsOverfull, links, text_limit, stations_read, placement_step, stalls_read, stalls_step, EndsIn, ReachesFetch}
use Rattle.lid_top_script.specs.Wrapped.{Graphing, Building, Wrapping, graphing_of}
use Rattle.lid_top_script.specs.Causes.{Got, GotChannels, GotSystem, GotPlacement, GotWrapped, GotStalls, IsCause, IsJobEnd, IsWant}
use Rattle.lid_top_script.specs.Statuses.{HasText, Writes, WritesPrefix, TellsAll, Leaves}
use Rattle.lid_top_script.specs.Early.{RunsEarly}
use Rattle.lid_top_script.specs.Whole.{RunsWhole, RunsAnywhere}
use Rattle.lid_top_script.proofs.Composition.{rose_later, want_anywhere}
use Rattle.lid_top_script.proofs.Channels.{built_channels}

pub record Within (held : List ℕ → Option (List ℕ)) (inner outer : Script) : Type 0 where
  pub ends : (ending : Ending) → EndsIn held inner ending → EndsIn held outer ending
  pub reaches : (file : List ℕ) → ReachesFetch held inner file → ReachesFetch held outer file

pub within_same : {held : List ℕ → Option (List ℕ)} {script : Script} → Within held script script
within_same = record { ends = λ ending e. e; reaches = λ file r. r }

-- a file was fetched and read
pub within_read : {A : Type 0} (held : List ℕ → Option (List ℕ)) (name : List ℕ) (limit : ℕ) (read : List ℕ → Reading A) (next : A → Script) (a : A) → Got held name limit read a → Within held (next a) (read_step name limit read next)
within_read held name limit read next a g = record {
  ends = λ ending e. (g.bytes, g.fetched, subst (λ r. EndsIn held (read_then r next) ending) (sym g.stands) e);
  reaches = λ file r. inr (g.bytes, g.fetched, subst (λ r. ReachesFetch held (read_then r next) file) (sym g.stands) r);
}

-- a reading decided the step
pub within_step : {A : Type 0} (held : List ℕ → Option (List ℕ)) (reading : Reading A) (next : A → Script) (a : A) → reading ≡ good a → Within held (next a) (read_then reading next)
within_step held reading next a is = record {
  ends = λ ending e. subst (λ r. EndsIn held (read_then r next) ending) (sym is) e;
  reaches = λ file e. subst (λ r. ReachesFetch held (read_then r next) file) (sym is) e;
}

-- a value met the first relation
pub within_decided : {A : Type 0} (held : List ℕ → Option (List ℕ)) (Good : A → Type 0) (Bad : List ℕ → Type 0) (next : A → Script) (a : A) → Good a → Within held (next a) (decide Good Bad next)
within_decided held Good Bad next a g = record {
  ends = λ ending e. inl (a, g, e);
  reaches = λ file r. (a, g, r);
}

-- a design was checked
pub within_checked : (held : List ℕ → Option (List ℕ)) (root : Option (List ℕ)) (d : Design) (next : Design → Script) (checked : Design) → IsChecked root d checked → Within held (next checked) (check_step root d next)
within_checked held root d = within_decided held (IsChecked root d) (IsUnchecked root d)

-- a step in a step
pub within_both : (held : List ℕ → Option (List ℕ)) (inner between outer : Script) → Within held inner between → Within held between outer → Within held inner outer
within_both held inner between outer v w = record {
  ends = λ ending e. w.ends ending (v.ends ending e);
  reaches = λ file r. w.reaches file (v.reaches file r);
}

-- a netlist was fetched, read and checked, and its channels found
pub within_found : (held : List ℕ → Option (List ℕ)) (net : List ℕ) (root : Option (List ℕ)) (next : Design → Links → Script) (g : Graphing) → GotChannels held net root g → Within held (next g.design (links g.design g.channels)) (system_step net root next)
within_found held net root next g h =
    let on = next g.design (links g.design g.channels) in
    let found : Design → Script = λ checked. net_step checked (λ channels. next checked (links checked channels)) in
    let checked_on : Design → Script = λ d. check_step root d found in
    within_both held on (checked_on h.design) (system_step net root next)
    (within_both held on (found g.design) (checked_on h.design)
    (within_decided held (HasChannels g.design) (IsOverfull g.design) (λ channels. next g.design (links g.design channels)) g.channels h.finds.has)
    (within_checked held root h.design found g.design h.finds.is_checked))
    (within_read held net net_limit net_reading checked_on h.design h.got)

-- and its system built
pub within_built : (held : List ℕ → Option (List ℕ)) (net : List ℕ) (root : Option (List ℕ)) (next : Design → Links → Script) (b : Building) → GotSystem held net root b → Within held (next b.design (links_of b.system)) (system_step net root next)
within_built held net root next b g =
    subst (λ (l : Links). Within held (next b.design l) (system_step net root next)) (sym g.builds.links_are)
    (within_found held net root next (graphing_of b) (built_channels b g))

-- the placement of the job is known
pub within_placed : (held : List ℕ → Option (List ℕ)) (l : Links) (next : Placement → Script) (stations : Option (List ℕ)) (p : Placement) → GotPlacement held l stations p → Within held (next p) (placement_step l stations next)
within_placed held l next None p g = record {
  ends = λ ending e. subst (λ x. EndsIn held (next x) ending) g e;
  reaches = λ file r. subst (λ x. ReachesFetch held (next x) file) g r;
}
within_placed held l next (Some stations) p g = within_read held stations text_limit (stations_read l) next p g

-- a netlist was fetched, read and checked, its system built, and the placement of the job is known
pub within_wrapped : (held : List ℕ → Option (List ℕ)) (net : List ℕ) (stations root : Option (List ℕ)) (next : Design → Links → Placement → Script) (w : Wrapping) → GotWrapped held net stations root w
    → Within held (next w.design (links_of w.system) w.placement) (wrapped_step net stations root next)
within_wrapped held net stations root next w g =
    let l = links_of w.system in
    let on : Design → Links → Script = λ d l. placement_step l stations (next d l) in
    within_both held (next w.design l w.placement) (on w.design l) (wrapped_step net stations root next)
    (within_placed held l (next w.design l) stations w.placement g.placed)
    (within_built held net root on (record { design = w.design; system = w.system }) g.built)

-- the stalls of the job are known
pub within_stalled : (held : List ℕ → Option (List ℕ)) (next : Option (List Stall) → Script) (stalls : Option (List ℕ)) (read : Option (List Stall)) → GotStalls held stalls read → Within held (next read) (stalls_step stalls next)
within_stalled held next None read g = record {
  ends = λ ending e. subst (λ x. EndsIn held (next x) ending) g e;
  reaches = λ file r. subst (λ x. ReachesFetch held (next x) file) g r;
}
within_stalled held next (Some stalls) None g = absurd g
within_stalled held next (Some stalls) (Some read) g = within_read held stalls text_limit stalls_read (λ list. next (Some list)) read g

module _ (held : List ℕ → Option (List ℕ)) (inner outer : Script) (w : Within held inner outer) where
  pub has_text : (text : List ℕ) → HasText held inner text → HasText held outer text
  has_text text h = record { output = h.output; ends = w.ends (gives h.output) h.ends; text_of = h.text_of }

  pub same_cause : (before mid after : List ℕ → ℕ) (stop : Stop) → ((q : List ℕ) → before q ≤ mid q) → IsCause held inner mid after stop → IsCause held outer before after stop
  same_cause before mid after (Refused refusal) grows c = w.ends (refuses (refusal_line refusal)) c
  same_cause before mid after (Read file) grows c = (w.reaches file.now c.0, rose_later (before file.now) (mid file.now) (after file.now) (grows file.now) c.1)
  same_cause before mid after Memory grows c = tt
  same_cause before mid after Denied grows c = w.ends denies c

  same_end : {Failed Fails : Type 0} (before mid after : List ℕ → ℕ) (end : JobEnd) → ((q : List ℕ) → before q ≤ mid q) → (Failed → Fails) → IsJobEnd held inner mid after Failed end → IsJobEnd held outer before after Fails end
  same_end before mid after (Stopped stop) grows f e = same_cause before mid after stop grows e
  same_end before mid after Unwritten grows f e = f e

  all_told : TellsAll held outer → TellsAll held inner
  all_told tells file r = tells file (w.reaches file r)

  module _ {O : Type 0} (written : O → Option (List ℕ)) (pieces : O → Option (List (List ℕ))) (writes : O → ℕ) where
    all_written : (old new : O) → Writes held inner written pieces old new → Writes held outer written pieces old new
    all_written old new h = record { text = h.text; has = has_text h.text h.has; appended = h.appended; came = h.came }

    part_written : (old new : O) → WritesPrefix held inner written pieces old new → WritesPrefix held outer written pieces old new
    part_written old new h = record { text = h.text; has = has_text h.text h.has; appended = h.appended; came = h.came }

    leaves : (old new : O) → Leaves true held inner written pieces old new → Leaves true held outer written pieces old new
    leaves old new (inl same) = inl same
    leaves old new (inr part) = inr (part_written old new part)

    -- the run of the inner script, after counts have grown
    runs_on : (before mid after : List ℕ → ℕ) (out out_after : O) (result : Result (Unit {0}) JobEnd) → ((q : List ℕ) → before q ≤ mid q)
        → RunsEarly held inner mid after written pieces writes out out_after result → RunsEarly held outer before after written pieces writes out out_after result
    runs_on before mid after out out_after result grows r = record {
      done = on_ok result (λ h. all_written out out_after h) r.done;
      fails = if_err result (λ end h. same_end before mid after end grows (λ failed. (failed.0, part_written out out_after failed.1)) h) r.fails;
      left = if_err result (λ end h stopped. leaves out out_after (h stopped)) r.left;
      unwritten = if_err result (λ end h refused tells. h refused (all_told tells)) r.unwritten;
    }

-- a run that writes while it runs, over the shelf that a step has left
pub runs_within : {held now : List ℕ → Option (List ℕ)} {inner outer : Script} {O : Type 0} {before mid after : List ℕ → ℕ} {written : O → Option (List ℕ)} {pieces : O → Option (List (List ℕ))} {writes : O → ℕ} {out out_after : O} {result : Result (Unit {0}) JobEnd} → Within held inner outer → now ≡ held
    → ((q : List ℕ) → before q ≤ mid q) → RunsEarly now inner mid after written pieces writes out out_after result → RunsEarly held outer before after written pieces writes out out_after result
runs_within {held = held} {inner = inner} {outer = outer} {before = before} {mid = mid} {after = after} {written = written} {pieces = pieces} {writes = writes} {out = out} {out_after = out_after} {result = result} w same grows r =
    runs_on held inner outer w written pieces writes before mid after out out_after result grows (subst (λ (h : List ℕ → Option (List ℕ)). RunsEarly h inner mid after written pieces writes out out_after result) same r)

-- a whole run of the inner script, over the shelf that a step has left
pub whole_within : {held now later : List ℕ → Option (List ℕ)} {inner outer : Script} {before mid after : List ℕ → ℕ} {result : Result (Vec ℕ Global) Stop} → Within held inner outer → now ≡ held
    → ((q : List ℕ) → before q ≤ mid q) → RunsWhole now later inner mid after result → RunsWhole held later outer before after result
whole_within {held = held} {inner = inner} {outer = outer} {before = before} {mid = mid} {after = after} {result = result} w same grows r = record {
  ok = if_ok result (λ text has. has_text held inner outer w text.items (subst (λ (v : List ℕ → Option (List ℕ)). HasText v inner text.items) same has)) r.ok;
  err = if_err result (λ stop cause. same_cause held inner outer w before mid after stop grows (subst (λ (v : List ℕ → Option (List ℕ)). IsCause v inner mid after stop) same cause)) r.err;
  kept = r.kept ∙ same;
  grows = λ q. let first = grows q in let then = r.grows q in omega (arith, first, then);
}

-- a run that stops at a step
pub whole_stopped : {held now : List ℕ → Option (List ℕ)} {script : Script} {before after : List ℕ → ℕ} {stop : Stop} → IsCause held script before after stop → now ≡ held
    → ((q : List ℕ) → before q ≤ after q) → RunsWhole held now script before after (Err stop)
whole_stopped cause same grows = record { ok = tt; err = cause; kept = same; grows = grows }

-- a run without a shelf
pub whole_anywhere : {held now : List ℕ → Option (List ℕ)} {inner outer : Script} {before after : List ℕ → ℕ} {result : Result (Vec ℕ Global) Stop} → Within held inner outer
    → RunsAnywhere inner result → now ≡ held → ((q : List ℕ) → before q ≤ after q) → RunsWhole held now outer before after result
whole_anywhere {held = held} {inner = inner} {outer = outer} {before = before} {after = after} {result = result} w r same grows = record {
  ok = if_ok result (λ text has. has_text held inner outer w text.items (has held)) r.ok;
  err = if_err result (λ stop cause. same_cause held inner outer w before after after stop grows (cause held after after)) r.err;
  kept = same;
  grows = grows;
}

-- a run whose last call wants nothing but memory
pub whole_given : {held now : List ℕ → Option (List ℕ)} {output : Output} {outer : Script} {before after : List ℕ → ℕ} {result : Result (Vec ℕ Global) Stop} → Within held (ended (gives output)) outer
    → IfOk result (λ text. IsTextOf output text.items) → IfErr result IsWant → now ≡ held → ((q : List ℕ) → before q ≤ after q) → RunsWhole held now outer before after result
whole_given {held = held} {output = output} {outer = outer} {before = before} {after = after} {result = result} w given wants same grows = record {
  ok = if_ok result (λ text is. has_text held (ended (gives output)) outer w text.items (record { output = output; ends = refl; text_of = is })) given;
  err = if_err result (want_anywhere held outer before after) wants;
  kept = same;
  grows = grows;
}

-- without a shelf too: a run of the inner script, and the end of a script, which wants nothing but memory
pub anywhere_within : {inner outer : Script} {result : Result (Vec ℕ Global) Stop} → ((held : List ℕ → Option (List ℕ)) → Within held inner outer) → RunsAnywhere inner result → RunsAnywhere outer result
anywhere_within {inner = inner} {outer = outer} {result = result} w r = record {
  ok = if_ok result (λ text has held. has_text held inner outer (w held) text.items (has held)) r.ok;
  err = if_err result (λ stop cause held before after. same_cause held inner outer (w held) before before after stop (λ q. omega arith) (cause held before after)) r.err;
}

pub anywhere_given : {output : Output} {result : Result (Vec ℕ Global) Stop} → IfOk result (λ text. IsTextOf output text.items) → IfErr result IsWant → RunsAnywhere (ended (gives output)) result
anywhere_given {output = output} {result = result} given wants = record {
  ok = if_ok result (λ text is held. record { output = output; ends = refl; text_of = is }) given;
  err = if_err result (λ stop want held before after. want_anywhere held (ended (gives output)) before after stop want) wants;
}

-- the run stops before anything is written
pub runs_stopped : {O : Type 0} {held : List ℕ → Option (List ℕ)} {script : Script} {before after : List ℕ → ℕ} {written : O → Option (List ℕ)} {pieces : O → Option (List (List ℕ))} {writes : O → ℕ} {out : O} {stop : Stop}
    → IsCause held script before after stop → RunsEarly held script before after written pieces writes out out (Err (Stopped stop))
runs_stopped cause = record {
  done = tt;
  fails = cause;
  left = λ stopped. inl refl;
  unwritten = λ refused tells. refl;
}
