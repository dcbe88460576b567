-- By which fetches a script goes on after a step, and where it halts.
use Rattle.std.proofs.Common.{◌≡◌, ◌⊎◌, ℕ, Bool, List, [], ◌++◌, length, take, Option, Some, None, IfSome, inl, inr, refl, sym, ◌∙◌, ap, subst, append_assoc, append-nil, arith}
use Rattle.std.proofs.lemmas.List.{take_all}
use Rattle.lid_base.specs.declared.outside.Fetch.{Fetch}
use Rattle.lid_base_io.specs.Calls.{fetches_of, IsFetching, IsFetchingPart}
use Rattle.lid_design.specs.declared.Design.{Design}
use Rattle.lid_stations.specs.declared.placement.Placement.{Placement}
use Rattle.lid_stations.specs.Placements.{Links, links_of, no_relays}
use Rattle.lid_stall_text.specs.declared.stalls.Stall.{Stall}
use Rattle.lid_top_refusals.specs.Refusals.{refusal_line}
use Rattle.lid_top_script.specs.declared.fault.Stop.{Stop}
use Rattle.lid_top_script.specs.declared.fault.Stop.TheVariants.{Refused, Read, Memory, Denied}
use Rattle.lid_top_script.specs.Scripts.{Ending, refuses, denies, Rereading, Script, fetch, again, decide, end as ended, Reading, good, read_then, read_step, net_limit, net_reading, check_step, net_step, system_step, wrapped_step, IsChecked, IsUnchecked, HasChannels, IsOverfull, links, text_limit, stations_read, placement_step, stalls_read, stalls_step, EndsIn, ReachesFetch}
use Rattle.lid_top_script.specs.Wrapped.{Graphing, Building, Wrapping, graphing_of}
use Rattle.lid_top_script.specs.Causes.{Got, GotChannels, GotSystem, GotPlacement, GotWrapped, GotStalls, Refuses, Declines, HasTooMany, FailsCheck, Misses, MissesSystem, MissesPlacement, MissesStalls, IsCause, IsWant}
use Rattle.lid_top_script.specs.Fetches.{Halt, at_end, between, refetches_of, IsRefetchingPart, GoesBy}
use Rattle.lid_top_script.specs.FetchSteps.{halt_of, StillAt, FetchesFor, NamedCalls, NamedPart, WrappedCalls, MissesWrappedBy, FetchesNothing}
use Rattle.lid_top_script.proofs.Channels.{built_channels}

-- no fetches are some first ones of a file
none_of : (whole : Bool) (held : Option (List ℕ)) (name : List ℕ) (limit : ℕ) → IsFetchingPart whole held name limit []
none_of whole held name limit = record {
  named = record { places = []; rise = tt; are = refl };
  exact = λ _. by held;
}
  where
    by : (file : Option (List ℕ)) → IfSome file (λ bytes. (k : ℕ) × ([] ≡ take k (fetches_of name limit (length bytes))))
    by None = tt
    by (Some bytes) = (0, refl)

-- all fetches of a file are some first ones
part_of_all : (whole : Bool) (held : Option (List ℕ)) (name : List ℕ) (limit : ℕ) (calls : List Fetch) → IsFetching whole held name limit calls → IsFetchingPart whole held name limit calls
part_of_all whole held name limit calls f = record {
  named = f.named;
  exact = λ w. by held (f.exact w);
}
  where
    by : (file : Option (List ℕ)) → IfSome file (λ bytes. calls ≡ fetches_of name limit (length bytes)) → IfSome file (λ bytes. (k : ℕ) × (calls ≡ take k (fetches_of name limit (length bytes))))
    by None h = tt
    by (Some bytes) h =
        let all = fetches_of name limit (length bytes) in
        (length all, h ∙ sym (take_all (length all) all (omega arith)))

-- no fetches are some first ones of a second reading
none_again : (whole : Bool) (held : Option (List ℕ)) (second : Rereading) → IsRefetchingPart whole held second []
none_again whole held second = record { part = none_of whole held second.name second.limit; exact = λ _. by held }
  where
    by : (file : Option (List ℕ)) → IfSome file (λ bytes. (k : ℕ) × ([] ≡ take k (refetches_of second (length second.rows) bytes)))
    by None = tt
    by (Some bytes) = (0, refl)

-- of a file that is not told all fetches are some first ones
pub part_of_changed : (whole : Bool) (held : Option (List ℕ)) (second : Rereading) (calls : List Fetch) → held ≡ None → IsFetching whole held second.name second.limit calls → IsRefetchingPart whole held second calls
part_of_changed whole held second calls untold f = record {
  part = part_of_all whole held second.name second.limit calls f;
  exact = λ _. subst (λ (file : Option (List ℕ)). IfSome file (λ bytes. (k : ℕ) × (calls ≡ take k (refetches_of second (length second.rows) bytes)))) (sym untold) tt;
}

-- all fetches of a file are those that are made whatever the reason
pub for_any : (stop : Stop) (whole : Bool) (held : Option (List ℕ)) (name : List ℕ) (limit : ℕ) (calls : List Fetch) → IsFetching whole held name limit calls → FetchesFor stop whole held name limit calls
for_any (Refused refusal) whole held name limit calls f = f
for_any (Read file) whole held name limit calls f = part_of_all whole held name limit calls f
for_any Memory whole held name limit calls f = part_of_all whole held name limit calls f
for_any Denied whole held name limit calls f = f

-- counts that are as they were may stop for any reason
pub still_any : (stop : Stop) (before after : List ℕ → ℕ) → ((q : List ℕ) → after q ≡ before q) → StillAt stop before after
still_any (Refused refusal) before after s = s
still_any (Read file) before after s = tt
still_any Memory before after s = s
still_any Denied before after s = s

-- and so where they were the same before that
pub still_later : (stop : Stop) (before mid after : List ℕ → ℕ) → ((q : List ℕ) → mid q ≡ before q) → StillAt stop mid after → StillAt stop before after
still_later (Refused refusal) before mid after s t = λ q. t q ∙ s q
still_later (Read file) before mid after s t = tt
still_later Memory before mid after s t = λ q. t q ∙ s q
still_later Denied before mid after s t = λ q. t q ∙ s q

module _ (whole : Bool) (held : List ℕ → Option (List ℕ)) where
  -- after these fetches of the outer script the inner one is left
  pub record Leads (first : List Fetch) (inner outer : Script) : Type 0 where
    pub goes : (rest : List Fetch) (halt : Halt) → GoesBy whole held inner rest halt → GoesBy whole held outer (first ++ rest) halt

  -- the inner script halts without a fetch
  pub goes_last : (first : List Fetch) (inner outer : Script) (halt : Halt) → Leads first inner outer → GoesBy whole held inner [] halt → GoesBy whole held outer first halt
  goes_last first inner outer halt w g = subst (λ (calls : List Fetch). GoesBy whole held outer calls halt) (append-nil first) (w.goes [] halt g)

  pub leads_same : (script : Script) → Leads [] script script
  leads_same script = record { goes = λ rest halt g. g }

  -- a file was fetched and read
  pub leads_read : {A : Type 0} (name : List ℕ) (limit : ℕ) (read : List ℕ → Reading A) (next : A → Script) (a : A) (first : List Fetch) → Got held name limit read a → IsFetching whole (held name) name limit first → Leads first (next a) (read_step name limit read next)
  leads_read name limit read next a first g f = record {
    goes = λ rest halt goes. inr (g.bytes, first, rest, refl, g.fetched, f, subst (λ r. GoesBy whole held (read_then r next) rest halt) (sym g.stands) goes);
  }

  -- a value met the first relation
  leads_decided : {A : Type 0} (Good : A → Type 0) (Bad : List ℕ → Type 0) (next : A → Script) (a : A) → Good a → Leads [] (next a) (decide Good Bad next)
  leads_decided Good Bad next a g = record { goes = λ rest halt goes. inr (inl (a, g, goes)) }

  -- a step in a step
  leads_both : (first second : List Fetch) (inner mid outer : Script) → Leads first mid outer → Leads second inner mid → Leads (first ++ second) inner outer
  leads_both first second inner mid outer w v = record {
    goes = λ rest halt goes. subst (λ (calls : List Fetch). GoesBy whole held outer calls halt) (sym (append_assoc first second rest)) (w.goes (second ++ rest) halt (v.goes rest halt goes));
  }

  -- a step without a fetch after another
  leads_then : (first : List Fetch) (inner mid outer : Script) → Leads first mid outer → Leads [] inner mid → Leads first inner outer
  leads_then first inner mid outer w v = record { goes = λ rest halt goes. w.goes rest halt (v.goes rest halt goes) }

  -- a design was checked
  pub leads_checked : (root : Option (List ℕ)) (d : Design) (next : Design → Script) (checked : Design) → IsChecked root d checked → Leads [] (next checked) (check_step root d next)
  leads_checked root d = leads_decided (IsChecked root d) (IsUnchecked root d)

  -- a netlist was fetched, read and checked, and its channels found
  pub leads_found : (net : List ℕ) (root : Option (List ℕ)) (next : Design → Links → Script) (g : Graphing) (first : List Fetch) → GotChannels held net root g → IsFetching whole (held net) net net_limit first
      → Leads first (next g.design (links g.design g.channels)) (system_step net root next)
  leads_found net root next g first h f =
      let on = next g.design (links g.design g.channels) in
      let found : Design → Script = λ checked. net_step checked (λ channels. next checked (links checked channels)) in
      let checked_on : Design → Script = λ d. check_step root d found in
      leads_then first on (found g.design) (system_step net root next)
      (leads_then first (found g.design) (checked_on h.design) (system_step net root next)
      (leads_read net net_limit net_reading checked_on h.design first h.got f)
      (leads_checked root h.design found g.design h.finds.is_checked))
      (leads_decided (HasChannels g.design) (IsOverfull g.design) (λ channels. next g.design (links g.design channels)) g.channels h.finds.has)

  -- and its system built
  pub leads_built : (net : List ℕ) (root : Option (List ℕ)) (next : Design → Links → Script) (b : Building) (first : List Fetch) → GotSystem held net root b → IsFetching whole (held net) net net_limit first
      → Leads first (next b.design (links_of b.system)) (system_step net root next)
  leads_built net root next b first g f =
      subst (λ (l : Links). Leads first (next b.design l) (system_step net root next)) (sym g.builds.links_are)
      (leads_found net root next (graphing_of b) first (built_channels b g) f)

  -- the placement of the job is known
  leads_placed : (l : Links) (next : Placement → Script) (stations : Option (List ℕ)) (p : Placement) (first : List Fetch) → GotPlacement held l stations p → NamedCalls whole held stations first → Leads first (next p) (placement_step l stations next)
  leads_placed l next None p first g none = record {
    goes = λ rest halt goes.
        subst (λ (calls : List Fetch). GoesBy whole held (next (no_relays l)) (calls ++ rest) halt) (sym none)
        (subst (λ (x : Placement). GoesBy whole held (next x) rest halt) g goes);
  }
  leads_placed l next (Some stations) p first g f = leads_read stations text_limit (stations_read l) next p first g f

  -- the stalls of the job are known
  pub leads_stalled : (next : Option (List Stall) → Script) (stalls : Option (List ℕ)) (read : Option (List Stall)) (first : List Fetch) → GotStalls held stalls read → NamedCalls whole held stalls first → Leads first (next read) (stalls_step stalls next)
  leads_stalled next None read first g none = record {
    goes = λ rest halt goes.
        subst (λ (calls : List Fetch). GoesBy whole held (next None) (calls ++ rest) halt) (sym none)
        (subst (λ (x : Option (List Stall)). GoesBy whole held (next x) rest halt) g goes);
  }
  leads_stalled next (Some stalls) None first g f = absurd g
  leads_stalled next (Some stalls) (Some read) first g f = leads_read stalls text_limit stalls_read (λ list. next (Some list)) read first g f

  -- a reading decided the step
  pub leads_step : {A : Type 0} (reading : Reading A) (next : A → Script) (a : A) → reading ≡ good a → Leads [] (next a) (read_then reading next)
  leads_step reading next a is = record { goes = λ rest halt goes. subst (λ r. GoesBy whole held (read_then r next) rest halt) (sym is) goes }

  -- a netlist was fetched, read and checked, its system built, and the placement of the job is known
  pub leads_wrapped : (net : List ℕ) (stations root : Option (List ℕ)) (next : Design → Links → Placement → Script) (w : Wrapping) (calls : List Fetch) → GotWrapped held net stations root w → WrappedCalls whole held net stations calls
      → Leads calls (next w.design (links_of w.system) w.placement) (wrapped_step net stations root next)
  leads_wrapped net stations root next w calls g f =
      let l = links_of w.system in
      let on : Design → Links → Script = λ d l. placement_step l stations (next d l) in
      subst (λ (cs : List Fetch). Leads cs (next w.design l w.placement) (wrapped_step net stations root next)) (sym f.are)
      (leads_both f.first f.rest (next w.design l w.placement) (on w.design l) (wrapped_step net stations root next)
      (leads_built net root on (record { design = w.design; system = w.system }) f.first g.built f.of_net)
      (leads_placed l (next w.design l) stations w.placement f.rest g.placed f.of_stations))

  -- memory may be wanting before any step
  goes_between : (script : Script) → GoesBy whole held script [] between
  goes_between (fetch name limit next) = inl (tt, none_of whole (held name) name limit)
  goes_between (again second next) = inl (tt, none_again whole (held second.name) second)
  goes_between (decide {A} Good Bad next) = inl (refl, refl)
  goes_between (ended last) = (refl, inr refl)

  pub goes_wanting : (script : Script) (stop : Stop) → IsWant stop → GoesBy whole held script [] (halt_of stop)
  goes_wanting script (Refused refusal) w = absurd w
  goes_wanting script (Read file) w = absurd w
  goes_wanting script Memory w = goes_between script
  goes_wanting script Denied w = absurd w

  -- a script that comes to its end comes up to it
  pub goes_short : (script : Script) (calls : List Fetch) (ending : Ending) → GoesBy whole held script calls (at_end ending) → GoesBy whole held script calls between
  goes_short (fetch name limit next) calls ending (inl here) = absurd here.0
  goes_short (fetch name limit next) calls ending (inr (bytes, first, rest, are, fetched, all, goes)) = inr (bytes, first, rest, are, fetched, all, goes_short (next bytes) rest ending goes)
  goes_short (again second next) calls ending (inl here) = absurd here.0
  goes_short (again second next) calls ending (inr (inl (rows, first, rest, are, reread, some, goes))) = inr (inl (rows, first, rest, are, reread, some, goes_short (next rows) rest ending goes))
  goes_short (again second next) calls ending (inr (inr (line, changed, all, is))) = inl (tt, part_of_changed whole (held second.name) second calls changed.untold all)
  goes_short (decide {A} Good Bad next) calls ending (inl here) = inl (here.0, refl)
  goes_short (decide {A} Good Bad next) calls ending (inr (inl (a, g, goes))) = inr (inl (a, g, goes_short (next a) calls ending goes))
  goes_short (decide {A} Good Bad next) calls ending (inr (inr (line, b, none, is))) = inl (none, refl)
  goes_short (ended last) calls ending here = (here.0, inr refl)

  -- a step without a fetch refuses
  goes_undecided : {A : Type 0} (Good : A → Type 0) (Bad : List ℕ → Type 0) (next : A → Script) (stop : Stop) → Refuses Bad stop → GoesBy whole held (decide Good Bad next) [] (halt_of stop)
  goes_undecided Good Bad next (Refused refusal) b = inr (inr (refusal_line refusal, b, refl, refl))
  goes_undecided Good Bad next (Read file) b = absurd b
  goes_undecided Good Bad next Memory b = inl (refl, refl)
  goes_undecided Good Bad next Denied b = absurd b

  pub goes_unchecked : (root : Option (List ℕ)) (d : Design) (next : Design → Script) (stop : Stop) → FailsCheck root d stop → GoesBy whole held (check_step root d next) [] (halt_of stop)
  goes_unchecked root d = goes_undecided (IsChecked root d) (IsUnchecked root d)

  -- a file is not read
  pub goes_here : {A : Type 0} (name : List ℕ) (limit : ℕ) (read : List ℕ → Reading A) (next : A → Script) (before after : List ℕ → ℕ) (stop : Stop) (calls : List Fetch) → Misses held name limit read before after stop
      → FetchesFor stop whole (held name) name limit calls → GoesBy whole held (read_step name limit read next) calls (halt_of stop)
  goes_here name limit read next before after (Refused refusal) calls m f =
      inr (m.bytes, calls, [], sym (append-nil calls), m.fetched, f, subst (λ r. GoesBy whole held (read_then r next) [] (at_end (refuses (refusal_line refusal)))) (sym m.refused) (refl, inl refl))
  goes_here name limit read next before after (Read file) calls m f = inl (sym m.0, f)
  goes_here name limit read next before after Memory calls m f = inl (tt, f)
  goes_here name limit read next before after Denied calls m f = absurd m

  -- there is no system
  module _ (net : List ℕ) (root : Option (List ℕ)) (next : Design → Links → Script) where
    abbrev built : Design → Script
    built checked = net_step checked (λ channels. next checked (links checked channels))

    abbrev checked_on : Design → Script
    checked_on d = check_step root d built

    pub goes_unbuilt : (before after : List ℕ → ℕ) (stop : Stop) (calls : List Fetch) → MissesSystem held net root before after stop → FetchesFor stop whole (held net) net net_limit calls → GoesBy whole held (system_step net root next) calls (halt_of stop)
    goes_unbuilt before after (Refused refusal) calls (inl m) f = goes_here net net_limit net_reading checked_on before after (Refused refusal) calls m f
    goes_unbuilt before after (Refused refusal) calls (inr r) f =
        goes_last calls (checked_on r.design) (system_step net root next) (halt_of (Refused refusal))
        (leads_read net net_limit net_reading checked_on r.design calls r.got f)
        (by_reason r.refused)
      where
        by_reason : IsUnchecked root r.design (refusal_line refusal) ⊎ HasTooMany root r.design (refusal_line refusal) → GoesBy whole held (checked_on r.design) [] (halt_of (Refused refusal))
        by_reason (inl u) = goes_unchecked root r.design built (Refused refusal) u
        by_reason (inr t) =
            let w = leads_checked root r.design built t.checked t.is_checked in
            w.goes [] (halt_of (Refused refusal))
            (goes_undecided (HasChannels t.checked) (IsOverfull t.checked) (λ channels. next t.checked (links t.checked channels)) (Refused refusal) t.refused)
    goes_unbuilt before after (Read file) calls m f = goes_here net net_limit net_reading checked_on before after (Read file) calls m f
    goes_unbuilt before after Memory calls m f = goes_here net net_limit net_reading checked_on before after Memory calls m f
    goes_unbuilt before after Denied calls m f = absurd m

  -- there is no placement
  goes_unplaced : (l : Links) (next : Placement → Script) (stations : Option (List ℕ)) (before after : List ℕ → ℕ) (stop : Stop) (calls : List Fetch) → MissesPlacement held l stations before after stop → NamedPart whole held stations stop calls
      → GoesBy whole held (placement_step l stations next) calls (halt_of stop)
  goes_unplaced l next None before after stop calls m none =
      subst (λ (cs : List Fetch). GoesBy whole held (next (no_relays l)) cs (halt_of stop)) (sym none) (goes_wanting (next (no_relays l)) stop m)
  goes_unplaced l next (Some stations) before after stop calls m f = goes_here stations text_limit (stations_read l) next before after stop calls m f

  -- the stalls are not had
  pub goes_unstalled : (next : Option (List Stall) → Script) (stalls : Option (List ℕ)) (before after : List ℕ → ℕ) (stop : Stop) (calls : List Fetch) → MissesStalls held stalls before after stop → NamedPart whole held stalls stop calls
      → GoesBy whole held (stalls_step stalls next) calls (halt_of stop)
  goes_unstalled next None before after stop calls m none = absurd m
  goes_unstalled next (Some stalls) before after stop calls m f = goes_here stalls text_limit stalls_read (λ read. next (Some read)) before after stop calls m f

  -- a reading refuses
  pub goes_declined : {A : Type 0} (reading : Reading A) (next : A → Script) (stop : Stop) → Declines reading stop → GoesBy whole held (read_then reading next) [] (halt_of stop)
  goes_declined reading next (Refused refusal) d = subst (λ r. GoesBy whole held (read_then r next) [] (at_end (refuses (refusal_line refusal)))) (sym d) (refl, inl refl)
  goes_declined reading next (Read file) d = absurd d
  goes_declined reading next Memory d = goes_between (read_then reading next)
  goes_declined reading next Denied d = absurd d

  -- the netlist or the stations are not had
  pub goes_unwrapped : (net : List ℕ) (stations root : Option (List ℕ)) (next : Design → Links → Placement → Script) (before after : List ℕ → ℕ) (stop : Stop) (calls : List Fetch)
      → MissesWrappedBy whole held net stations root before after stop calls → GoesBy whole held (wrapped_step net stations root next) calls (halt_of stop)
  goes_unwrapped net stations root next before after stop calls (inl (m, f)) = goes_unbuilt net root (λ d l. placement_step l stations (next d l)) before after stop calls m f
  goes_unwrapped net stations root next before after stop calls (inr r) =
      let d = r.misses.building.design in
      let l = links_of r.misses.building.system in
      let on : Design → Links → Script = λ d l. placement_step l stations (next d l) in
      let w = leads_built net root on r.misses.building r.first r.misses.built r.of_net in
      subst (λ (cs : List Fetch). GoesBy whole held (wrapped_step net stations root next) cs (halt_of stop)) (sym r.are)
      (w.goes r.rest (halt_of stop) (goes_unplaced l (next d l) stations before after stop r.rest r.misses.misses r.of_stations))

  -- a script without a fetch goes by none to where it ends
  pub goes_nothing : (script : Script) (ending : Ending) → FetchesNothing script → EndsIn held script ending → GoesBy whole held script [] (at_end ending)
  goes_nothing (fetch name limit next) ending n e = absurd n
  goes_nothing (again second next) ending n e = absurd n
  goes_nothing (decide {A} Good Bad next) ending n (inl (a, g, e)) = inr (inl (a, g, goes_nothing (next a) ending (n a) e))
  goes_nothing (decide {A} Good Bad next) ending n (inr (line, b, is)) = inr (inr (line, b, refl, ap at_end (sym is)))
  goes_nothing (ended last) ending n is = (refl, inl (ap at_end (sym is)))

  reaches_nothing : (script : Script) (file : List ℕ) → FetchesNothing script → ReachesFetch held script file → ⊥
  reaches_nothing (fetch name limit next) file n r = n
  reaches_nothing (again second next) file n r = n
  reaches_nothing (decide {A} Good Bad next) file n (a, g, r) = reaches_nothing (next a) file (n a) r
  reaches_nothing (ended last) file n r = r

  pub goes_for_cause : (script : Script) (before after : List ℕ → ℕ) (stop : Stop) → FetchesNothing script → IsCause held script before after stop → GoesBy whole held script [] (halt_of stop)
  goes_for_cause script before after (Refused refusal) n c = goes_nothing script (refuses (refusal_line refusal)) n c
  goes_for_cause script before after (Read file) n c = absurd (reaches_nothing script file.now n c.0)
  goes_for_cause script before after Memory n c = goes_between script
  goes_for_cause script before after Denied n c = goes_nothing script denies n c

-- a reading that decides a step fetches nothing
pub then_nothing : {A : Type 0} (reading : Reading A) (next : A → Script) → ((a : A) → FetchesNothing (next a)) → FetchesNothing (read_then reading next)
then_nothing (good a) next n = n a
then_nothing _ next n = tt
