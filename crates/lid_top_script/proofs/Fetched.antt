-- The fetches of a run: those of the steps that lead into a script, and then those of that script.
use Rattle.std.proofs.Common.{◌≡◌, ℕ, ◌≤◌, Bool, List, [], ◌++◌, Option, Result, Ok, Err, IfOk, IfErr, OnOk, inl, inr, refl, sym, ◌∙◌, subst, arith}
use Rattle.std.specs.declared.alloc.Global.{Global}
use Rattle.std.specs.declared.vec.Vec.{Vec}
use Rattle.lid_base.proofs.Results.{if_ok, on_ok, if_err}
use Rattle.lid_base.specs.declared.outside.Fetch.{Fetch}
use Rattle.lid_base_io.specs.Calls.{CameAs}
use Rattle.lid_base_io.proofs.Came.{none_came, both_came}
use Rattle.lid_design.specs.declared.Design.{Design}
use Rattle.lid_stations.specs.declared.placement.Placement.{Placement}
use Rattle.lid_stations.specs.Placements.{Links, links_of}
use Rattle.lid_stall_text.specs.declared.stalls.Stall.{Stall}
use Rattle.lid_top_script.specs.declared.fault.Stop.{Stop}
use Rattle.lid_top_script.specs.Outputs.{Output, IsTextOf}
use Rattle.lid_top_script.specs.Scripts.{gives, Script, end as ended, Reading, good, read_then, read_step, net_limit, check_step, system_step, wrapped_step, stalls_step, IsChecked, links}
use Rattle.lid_top_script.specs.Wrapped.{Graphing, Building, Wrapping, graphing_of}
use Rattle.lid_top_script.specs.Causes.{Got, GotChannels, GotSystem, GotWrapped, GotStalls, FailsCheck, Misses, MissesSystem, MissesWrapped, MissesStations, IsCause, IsWant}
use Rattle.lid_top_script.specs.Fetches.{at_end, GoesBy}
use Rattle.lid_top_script.specs.FetchSteps.{halt_of, StepsBy, FetchesFile, FetchesNamed, NamedCalls, NamedPart, FetchesWrapped, FetchesNothing}
use Rattle.lid_top_script.specs.Whole.{RunsAnywhere, FetchesWhole, RunsBy}
use Rattle.lid_top_script.proofs.Composition.{cause_here, cause_unchecked}
use Rattle.lid_top_script.proofs.Channels.{built_channels}
use Rattle.lid_top_script.proofs.Placements.{cause_unbuilt, cause_unwrapped}
use Rattle.lid_top_script.proofs.Within.{Within, within_same, within_read, within_step, within_checked, within_found, within_wrapped, within_stalled, whole_within, whole_stopped, whole_given, whole_anywhere}
use Rattle.lid_top_script.proofs.Going.{for_any, still_any, still_later, Leads, goes_last, leads_same, leads_read, leads_checked, leads_found, leads_wrapped, leads_stalled, leads_step, goes_wanting, goes_unchecked, goes_here, goes_unbuilt, goes_unwrapped, goes_for_cause, goes_nothing}

-- calls that came after others
pub came_then : {A : Type 0} {P Q R : List A → Type 0} (old mid new : Option (List A)) → CameAs old mid P → CameAs mid new Q → ((first rest : List A) → P first → Q rest → R (first ++ rest)) → CameAs old new R
came_then old mid new (first, a, p) (rest, b, q) both = (first ++ rest, both_came old mid new first rest a b, both first rest p q)

ok_given : {A E : Type 0} {P : Type 0} (r : Result A E) → P → OnOk r P
ok_given (Ok a) p = p
ok_given (Err e) p = tt

err_given : {A E : Type 0} {P : E → Type 0} (r : Result A E) → ((e : E) → P e) → IfErr r P
err_given (Ok a) p = tt
err_given (Err e) p = p e

-- counts that are still have not fallen
pub still_grows : (before after : List ℕ → ℕ) → ((q : List ℕ) → after q ≡ before q) → (q : List ℕ) → before q ≤ after q
still_grows before after still q = let same = still q in omega (arith, same)

-- a file was fetched, and what came then fetched nothing
pub file_then : {A B : Type 0} {whole : Bool} {held : Option (List ℕ)} {name : List ℕ} {limit : ℕ} {old new : Option (List Fetch)} {before after : List ℕ → ℕ} {a : A} (r : Result B Stop)
    → FetchesFile {A = A} whole held name limit old new before after (Ok a) → FetchesFile whole held name limit old new before after r
file_then (Ok b) f = record { done = f.done; begun = tt; still = f.still; still_at = tt }
file_then {whole = whole} {held = held} {name = name} {limit = limit} {before = before} {after = after} (Err stop) f = record {
  done = tt;
  begun = (f.done.0, f.done.1, for_any stop whole held name limit f.done.0 f.done.2);
  still = tt;
  still_at = still_any stop before after f.still;
}

-- the netlist is not had
pub wraps_not : {A B : Type 0} {whole : Bool} {held : List ℕ → Option (List ℕ)} {net : List ℕ} {stations root : Option (List ℕ)} {old new : Option (List Fetch)} {before after : List ℕ → ℕ} {stop : Stop}
    → MissesSystem held net root before after stop → FetchesFile {A = A} whole (held net) net net_limit old new before after (Err stop) → FetchesWrapped {A = B} whole held net stations root old new before after (Err stop)
wraps_not m f = record { done = tt; begun = (f.begun.0, f.begun.1, inl (m, f.begun.2)); still = tt; still_at = f.still_at }

-- the netlist and then the stations are had
pub wraps : {A B C : Type 0} {whole : Bool} {held now : List ℕ → Option (List ℕ)} {net : List ℕ} {stations root : Option (List ℕ)} {old mid new : Option (List Fetch)} {before between after : List ℕ → ℕ} {a : A} {b : B} {c : C}
    → FetchesFile {A = A} whole (held net) net net_limit old mid before between (Ok a) → now ≡ held → FetchesNamed {A = B} whole now stations mid new between after (Ok b) → FetchesWrapped {A = C} whole held net stations root old new before after (Ok c)
wraps {whole = whole} {stations = stations} {old = old} {mid = mid} {new = new} f same s = record {
  done = came_then old mid new f.done s.done (λ first rest p q. record {
    first = first;
    rest = rest;
    are = refl;
    of_net = p;
    of_stations = subst (λ (h : List ℕ → Option (List ℕ)). NamedCalls whole h stations rest) same q;
  });
  begun = tt;
  still = λ q. s.still q ∙ f.still q;
  still_at = tt;
}

-- the netlist is had, and no stations
pub wraps_in_part : {A B C : Type 0} {whole : Bool} {held now : List ℕ → Option (List ℕ)} {net : List ℕ} {stations root : Option (List ℕ)} {old mid new : Option (List Fetch)} {before between after : List ℕ → ℕ} {a : A} {stop : Stop}
    → FetchesFile {A = A} whole (held net) net net_limit old mid before between (Ok a) → now ≡ held → MissesStations held net stations root before after stop
    → FetchesNamed {A = B} whole now stations mid new between after (Err stop) → FetchesWrapped {A = C} whole held net stations root old new before after (Err stop)
wraps_in_part {whole = whole} {stations = stations} {old = old} {mid = mid} {new = new} {before = before} {between = between} {after = after} {stop = stop} f same m s = record {
  done = tt;
  begun = came_then old mid new f.done s.begun (λ first rest p q. inr (record {
    misses = m;
    first = first;
    rest = rest;
    are = refl;
    of_net = p;
    of_stations = subst (λ (h : List ℕ → Option (List ℕ)). NamedPart whole h stations stop rest) same q;
  }));
  still = tt;
  still_at = still_later stop before between after f.still s.still_at;
}

-- a step was made that leads into a script: so the files, the calls told and the counts were before it and after it
pub record Made (whole : Bool) (held now : List ℕ → Option (List ℕ)) (old new : Option (List Fetch)) (before after : List ℕ → ℕ) (inner outer : Script) : Type 0 where
  pub within : Within held inner outer
  pub leads : CameAs old new (λ first. Leads whole held first inner outer)
  pub same : now ≡ held
  pub still : (q : List ℕ) → after q ≡ before q

module _ {whole : Bool} {held now : List ℕ → Option (List ℕ)} {old new : Option (List Fetch)} {before after : List ℕ → ℕ} where
  -- a file was fetched and read
  pub made_read : {A B : Type 0} {b : B} {name : List ℕ} {limit : ℕ} {read : List ℕ → Reading A} (next : A → Script) (a : A) → Got held name limit read a
      → FetchesFile {A = B} whole (held name) name limit old new before after (Ok b) → now ≡ held → Made whole held now old new before after (next a) (read_step name limit read next)
  made_read {name = name} {limit = limit} {read = read} next a g f same = record {
    within = within_read held name limit read next a g;
    leads = (f.done.0, f.done.1, leads_read whole held name limit read next a f.done.0 g f.done.2);
    same = same;
    still = f.still;
  }

  -- a netlist was fetched, read and checked, and its channels found
  pub made_found : {B : Type 0} {x : B} {net : List ℕ} {root : Option (List ℕ)} (next : Design → Links → Script) (g : Graphing) → GotChannels held net root g
      → FetchesFile {A = B} whole (held net) net net_limit old new before after (Ok x) → now ≡ held → Made whole held now old new before after (next g.design (links g.design g.channels)) (system_step net root next)
  made_found {net = net} {root = root} next g h f same = record {
    within = within_found held net root next g h;
    leads = (f.done.0, f.done.1, leads_found whole held net root next g f.done.0 h f.done.2);
    same = same;
    still = f.still;
  }

  -- and its system built
  pub made_built : {B : Type 0} {x : B} {net : List ℕ} {root : Option (List ℕ)} (next : Design → Links → Script) (b : Building) → GotSystem held net root b
      → FetchesFile {A = B} whole (held net) net net_limit old new before after (Ok x) → now ≡ held → Made whole held now old new before after (next b.design (links_of b.system)) (system_step net root next)
  made_built {net = net} {root = root} next b g f same =
      subst (λ (l : Links). Made whole held now old new before after (next b.design l) (system_step net root next)) (sym g.builds.links_are)
      (made_found next (graphing_of b) (built_channels b g) f same)

  -- and the placement of the job is known
  pub made_wrapped : {B : Type 0} {x : B} {net : List ℕ} {stations root : Option (List ℕ)} (next : Design → Links → Placement → Script) (w : Wrapping) → GotWrapped held net stations root w
      → FetchesWrapped {A = B} whole held net stations root old new before after (Ok x) → now ≡ held → Made whole held now old new before after (next w.design (links_of w.system) w.placement) (wrapped_step net stations root next)
  made_wrapped {net = net} {stations = stations} {root = root} next w g f same = record {
    within = within_wrapped held net stations root next w g;
    leads = (f.done.0, f.done.1, leads_wrapped whole held net stations root next w f.done.0 g f.done.2);
    same = same;
    still = f.still;
  }

  -- the stalls of the job are known
  pub made_stalled : {B : Type 0} {x : B} (stalls : Option (List ℕ)) (next : Option (List Stall) → Script) (read : Option (List Stall)) → GotStalls held stalls read
      → FetchesNamed {A = B} whole held stalls old new before after (Ok x) → now ≡ held → Made whole held now old new before after (next read) (stalls_step stalls next)
  made_stalled stalls next read g f same = record {
    within = within_stalled held next stalls read g;
    leads = (f.done.0, f.done.1, leads_stalled whole held next stalls read f.done.0 g f.done.2);
    same = same;
    still = f.still;
  }

module _ {whole : Bool} {held : List ℕ → Option (List ℕ)} {old : Option (List Fetch)} {before : List ℕ → ℕ} where
  made_here : {inner outer : Script} → Within held inner outer → Leads whole held [] inner outer → Made whole held held old old before before inner outer
  made_here w l = record { within = w; leads = ([], none_came old, l); same = refl; still = λ q. refl }

  -- no step
  pub made_same : {script : Script} → Made whole held held old old before before script script
  made_same {script = script} = made_here within_same (leads_same whole held script)

  -- a design was checked
  pub made_checked : {root : Option (List ℕ)} {d : Design} {next : Design → Script} {checked : Design} → IsChecked root d checked → Made whole held held old old before before (next checked) (check_step root d next)
  made_checked {root = root} {d = d} {next = next} {checked = checked} is = made_here (within_checked held root d next checked is) (leads_checked whole held root d next checked is)

  -- a reading decided the step
  pub made_step : {A : Type 0} (reading : Reading A) (next : A → Script) {a : A} → reading ≡ good a → Made whole held held old old before before (next a) (read_then reading next)
  made_step reading next {a = a} is = made_here (within_step held reading next a is) (leads_step whole held reading next a is)

-- a run of the inner script, over the shelf that a step has left
pub by_within : {whole : Bool} {held now later : List ℕ → Option (List ℕ)} {inner outer : Script} {old mid new : Option (List Fetch)} {before between after : List ℕ → ℕ} {result : Result (Vec ℕ Global) Stop}
    → Made whole held now old mid before between inner outer → RunsBy whole now later inner mid new between after result → RunsBy whole held later outer old new before after result
by_within {whole = whole} {held = held} {now = now} {later = later} {inner = inner} {outer = outer} {old = old} {mid = mid} {new = new} {before = before} {between = between} {after = after} {result = result} m run =
    let f : FetchesWhole whole held inner mid new between after result = subst (λ (h : List ℕ → Option (List ℕ)). FetchesWhole whole h inner mid new between after result) m.same run.fetched in
    record {
      ran = whole_within m.within m.same (still_grows before between m.still) run.ran;
      fetched = record {
        done = if_ok result (λ text came. came_then old mid new m.leads came (λ first rest w h. record { output = h.output; goes = w.goes rest (at_end (gives h.output)) h.goes; text_of = h.text_of })) f.done;
        begun = if_err result (λ stop came. came_then old mid new m.leads came (λ first rest w g. w.goes rest (halt_of stop) g)) f.begun;
        still = on_ok result (λ s q. s q ∙ m.still q) f.still;
        still_at = if_err result (λ stop s. still_later stop before between after m.still s) f.still_at;
      };
    }

module _ {whole : Bool} {held now : List ℕ → Option (List ℕ)} {old new : Option (List Fetch)} {before after : List ℕ → ℕ} {result : Result (Vec ℕ Global) Stop} where
  -- a run whose last call wants nothing but memory
  pub by_given : {output : Output} {outer : Script} → Made whole held now old new before after (ended (gives output)) outer → IfOk result (λ text. IsTextOf output text.items) → IfErr result IsWant → RunsBy whole held now outer old new before after result
  by_given {output = output} {outer = outer} m given wants =
      let first = m.leads.0 in
      let last = goes_last whole held first (ended (gives output)) outer in
      record {
        ran = whole_given m.within given wants m.same (still_grows before after m.still);
        fetched = record {
          done = if_ok result (λ text is. (first, m.leads.1, record { output = output; goes = last (at_end (gives output)) m.leads.2 (refl, inl refl); text_of = is })) given;
          begun = if_err result (λ stop want. (first, m.leads.1, last (halt_of stop) m.leads.2 (goes_wanting whole held (ended (gives output)) stop want))) wants;
          still = ok_given result m.still;
          still_at = err_given result (λ stop. still_any stop before after m.still);
        };
      }

  -- a run without a shelf
  pub by_anywhere : {inner outer : Script} → Made whole held now old new before after inner outer → FetchesNothing inner → RunsAnywhere inner result → RunsBy whole held now outer old new before after result
  by_anywhere {inner = inner} {outer = outer} m n r =
      let first = m.leads.0 in
      let last = goes_last whole held first inner outer in
      record {
        ran = whole_anywhere m.within r m.same (still_grows before after m.still);
        fetched = record {
          done = if_ok result (λ text has. let h = has held in (first, m.leads.1, record { output = h.output; goes = last (at_end (gives h.output)) m.leads.2 (goes_nothing whole held inner (gives h.output) n h.ends); text_of = h.text_of })) r.ok;
          begun = if_err result (λ stop cause. (first, m.leads.1, last (halt_of stop) m.leads.2 (goes_for_cause whole held inner before after stop n (cause held before after)))) r.err;
          still = ok_given result m.still;
          still_at = err_given result (λ stop. still_any stop before after m.still);
        };
      }

-- a run that stops at a step
module _ {whole : Bool} {held now : List ℕ → Option (List ℕ)} {old new : Option (List Fetch)} {before after : List ℕ → ℕ} {stop : Stop} where
  by_stopped : {A : Type 0} {script : Script} {All : A → List Fetch → Type 0} {Part : Stop → List Fetch → Type 0} → IsCause held script before after stop → ((calls : List Fetch) → Part stop calls → GoesBy whole held script calls (halt_of stop))
      → StepsBy {A = A} All Part old new before after (Err stop) → now ≡ held → ((q : List ℕ) → before q ≤ after q) → RunsBy whole held now script old new before after (Err stop)
  by_stopped cause goes f same grows = record {
    ran = whole_stopped cause same grows;
    fetched = record {
      done = tt;
      begun = (f.begun.0, f.begun.1, goes f.begun.0 f.begun.2);
      still = tt;
      still_at = f.still_at;
    };
  }

  -- a file is not read
  pub stopped_here : {A B : Type 0} {name : List ℕ} {limit : ℕ} (read : List ℕ → Reading A) (next : A → Script) → Misses held name limit read before after stop
      → FetchesFile {A = B} whole (held name) name limit old new before after (Err stop) → now ≡ held → ((q : List ℕ) → before q ≤ after q) → RunsBy whole held now (read_step name limit read next) old new before after (Err stop)
  stopped_here {name = name} {limit = limit} read next m f same grows =
      by_stopped (cause_here held name limit read next before after stop m) (λ calls p. goes_here whole held name limit read next before after stop calls m p) f same grows

  -- there is no system
  pub stopped_unbuilt : {B : Type 0} {net : List ℕ} (root : Option (List ℕ)) (next : Design → Links → Script) → MissesSystem held net root before after stop
      → FetchesFile {A = B} whole (held net) net net_limit old new before after (Err stop) → now ≡ held → ((q : List ℕ) → before q ≤ after q) → RunsBy whole held now (system_step net root next) old new before after (Err stop)
  stopped_unbuilt {net = net} root next m f same grows =
      by_stopped (cause_unbuilt held net root next before after stop m) (λ calls p. goes_unbuilt whole held net root next before after stop calls m p) f same grows

  -- the netlist or the stations are not had
  pub stopped_unwrapped : {B : Type 0} {net : List ℕ} {stations root : Option (List ℕ)} (next : Design → Links → Placement → Script) → MissesWrapped held net stations root before after stop
      → FetchesWrapped {A = B} whole held net stations root old new before after (Err stop) → now ≡ held → ((q : List ℕ) → before q ≤ after q) → RunsBy whole held now (wrapped_step net stations root next) old new before after (Err stop)
  stopped_unwrapped {net = net} {stations = stations} {root = root} next m f same grows =
      by_stopped (cause_unwrapped held net stations root next before after stop m) (λ calls p. goes_unwrapped whole held net stations root next before after stop calls p) f same grows

-- a design is not accepted
pub stopped_unchecked : {whole : Bool} {held : List ℕ → Option (List ℕ)} {old : Option (List Fetch)} {before : List ℕ → ℕ} {stop : Stop} {root : Option (List ℕ)} {d : Design} {next : Design → Script} → FailsCheck root d stop
    → RunsBy whole held held (check_step root d next) old old before before (Err stop)
stopped_unchecked {whole = whole} {held = held} {old = old} {before = before} {stop = stop} {root = root} {d = d} {next = next} fails = record {
  ran = whole_stopped (cause_unchecked held root d next before before stop fails) refl (λ q. omega arith);
  fetched = record {
    done = tt;
    begun = ([], none_came old, goes_unchecked whole held root d next stop fails);
    still = tt;
    still_at = still_any stop before before (λ q. refl);
  };
}
