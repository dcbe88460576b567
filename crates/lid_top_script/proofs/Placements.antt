-- What the answers of the readers of placements and certificates say, and where the steps that read them
-- fail.
use Rattle.std.proofs.Common.{◌≡◌, ℕ, ◌≤◌, List, Option, Some, None, Result, Ok, Err, ◌⊎◌, inl, inr, sym, ◌∙◌, ap, subst, arith}
use Rattle.lid_design.specs.declared.Design.{Design}
use Rattle.lid_cert.specs.declared.cert.Cert.{Cert}
use Rattle.lid_cert_text.specs.Texts.{cert_of, cert_fault}
use Rattle.lid_cert_text.specs.declared.fault.CertFault.{CertFault}
use Rattle.lid_cert_text.specs.declared.fault.CertFault.TheVariants as cert
use Rattle.lid_stations.specs.declared.placement.Placement.{Placement}
use Rattle.lid_stations.specs.Placements.{Links, links_of, no_relays}
use Rattle.lid_stations_text.specs.declared.fault.PlaceFault.{PlaceFault}
use Rattle.lid_stations_text.specs.declared.fault.PlaceFault.TheVariants as place
use Rattle.lid_stations_text.specs.Readings.{stations_reading, wires_reading}
use Rattle.lid_top_refusals.specs.Faults.{stations_line, cert_line}
use Rattle.lid_top_refusals.specs.Refusals.{refusal_line}
use Rattle.lid_top_script.specs.declared.fault.Stop.{Stop}
use Rattle.lid_top_script.specs.declared.fault.Stop.TheVariants.{Refused, Read, Memory, Denied}
use Rattle.lid_top_script.specs.Scripts.{refuses, Script, Reading, good, bad, net_limit, net_reading, text_limit, links, placement_read, stations_read, wires_read, cert_unless, cert_read, check_step, net_step, system_step, placement_step, wrapped_step, IsUnchecked, HasChannels, IsOverfull}
use Rattle.lid_top_script.specs.Wrapped.{Building}
use Rattle.lid_top_script.specs.Causes.{Declines, HasTooMany, stop_of_place, stop_of_cert, GotSystem, MissesSystem, MissesPlacement, MissesStations, MissesWrapped, IsCause}
use Rattle.lid_top_script.proofs.Composition.{rose_later, cause_here, cause_unchecked, cause_undecided, want_anywhere}
use Rattle.lid_top_script.proofs.Within.{within_read, within_checked, within_built, same_cause}

-- a fault of a placement is told exactly, but for want of memory
place_declined : {A : Type 0} (reading : Reading A) (e : PlaceFault) → reading ≡ bad (stations_line e) → Declines reading (stop_of_place e)
place_declined reading place.Memory h = tt
place_declined reading _ h = h

-- what a reader of placements answers is what its reading gives
placement_declines : (r : Result Placement PlaceFault) (e : PlaceFault) → (e ≡ place.Memory) ⊎ (r ≡ Err e) → Declines (placement_read r) (stop_of_place e)
placement_declines r e (inl m) = subst (λ f. Declines (placement_read r) (stop_of_place f)) (sym m) tt
placement_declines r e (inr h) = place_declined (placement_read r) e (ap placement_read h)

pub stations_good : (l : Links) (bytes : List ℕ) (p : Placement) → stations_reading l bytes ≡ Ok p → stations_read l bytes ≡ good p
unfolding stations_read
stations_good l bytes p h = ap placement_read h

pub stations_declines : (l : Links) (bytes : List ℕ) (e : PlaceFault) → (e ≡ place.Memory) ⊎ (stations_reading l bytes ≡ Err e) → Declines (stations_read l bytes) (stop_of_place e)
unfolding stations_read
stations_declines l bytes e h = placement_declines (stations_reading l bytes) e h

pub wires_good : (reach : ℕ) (l : Links) (bytes : List ℕ) (p : Placement) → wires_reading reach l bytes ≡ Ok p → wires_read reach l bytes ≡ good p
unfolding wires_read
wires_good reach l bytes p h = ap placement_read h

pub wires_declines : (reach : ℕ) (l : Links) (bytes : List ℕ) (e : PlaceFault) → (e ≡ place.Memory) ⊎ (wires_reading reach l bytes ≡ Err e) → Declines (wires_read reach l bytes) (stop_of_place e)
unfolding wires_read
wires_declines reach l bytes e h = placement_declines (wires_reading reach l bytes) e h

cert_declined : {A : Type 0} (reading : Reading A) (e : CertFault) → reading ≡ bad (cert_line e) → Declines reading (stop_of_cert e)
cert_declined reading cert.Memory h = tt
cert_declined reading _ h = h

pub cert_good : (bytes : List ℕ) (c : Cert) → (cert_fault bytes ≡ None) × (c ≡ cert_of bytes) → cert_read bytes ≡ good c
unfolding cert_read
cert_good bytes c h = ap (λ f. cert_unless f (cert_of bytes)) h.0 ∙ ap good (sym h.1)

pub cert_declines : (bytes : List ℕ) (e : CertFault) → (e ≡ cert.Memory) ⊎ (cert_fault bytes ≡ Some e) → Declines (cert_read bytes) (stop_of_cert e)
unfolding cert_read
cert_declines bytes e (inl m) = subst (λ f. Declines (cert_unless (cert_fault bytes) (cert_of bytes)) (stop_of_cert f)) (sym m) tt
cert_declines bytes e (inr h) = cert_declined (cert_unless (cert_fault bytes) (cert_of bytes)) e (ap (λ f. cert_unless f (cert_of bytes)) h)

-- a netlist is fetched, read and checked, and its system built
module _ (held : List ℕ → Option (List ℕ)) (net : List ℕ) (root : Option (List ℕ)) (next : Design → Links → Script) where
  abbrev built : Design → Script
  built checked = net_step checked (λ channels. next checked (links checked channels))

  abbrev checked_on : Design → Script
  checked_on d = check_step root d built

  pub cause_unbuilt : (before after : List ℕ → ℕ) (stop : Stop) → MissesSystem held net root before after stop → IsCause held (system_step net root next) before after stop
  cause_unbuilt before after (Refused refusal) (inl m) = cause_here held net net_limit net_reading checked_on before after (Refused refusal) m
  cause_unbuilt before after (Refused refusal) (inr r) =
      let w = within_read held net net_limit net_reading checked_on r.design r.got in
      w.ends (refuses (refusal_line refusal)) (by_reason r.refused)
    where
      by_reason : IsUnchecked root r.design (refusal_line refusal) ⊎ HasTooMany root r.design (refusal_line refusal) → IsCause held (checked_on r.design) before after (Refused refusal)
      by_reason (inl u) = cause_unchecked held root r.design built before after (Refused refusal) u
      by_reason (inr t) =
          let w = within_checked held root r.design built t.checked t.is_checked in
          w.ends (refuses (refusal_line refusal)) (cause_undecided held (HasChannels t.checked) (IsOverfull t.checked) (λ channels. next t.checked (links t.checked channels)) before after (Refused refusal) t.refused)
  cause_unbuilt before after (Read file) m = cause_here held net net_limit net_reading checked_on before after (Read file) m
  cause_unbuilt before after Memory m = tt
  cause_unbuilt before after Denied m = absurd m

-- the placement of a job is read, or is the one without relay stations
module _ (held : List ℕ → Option (List ℕ)) (l : Links) (next : Placement → Script) where
  pub cause_unplaced : (stations : Option (List ℕ)) (before after : List ℕ → ℕ) (stop : Stop) → MissesPlacement held l stations before after stop → IsCause held (placement_step l stations next) before after stop
  cause_unplaced None before after stop m = want_anywhere held (next (no_relays l)) before after stop m
  cause_unplaced (Some stations) before after stop m = cause_here held stations text_limit (stations_read l) next before after stop m

-- a placement is missed too where counts are looked at from earlier on
unplaced_later : (held : List ℕ → Option (List ℕ)) (l : Links) (stations : Option (List ℕ)) (before mid after : List ℕ → ℕ) (stop : Stop) → ((q : List ℕ) → before q ≤ mid q) → MissesPlacement held l stations mid after stop
    → MissesPlacement held l stations before after stop
unplaced_later held l None before mid after stop grows m = m
unplaced_later held l (Some stations) before mid after (Refused refusal) grows m = m
unplaced_later held l (Some stations) before mid after (Read file) grows m = (m.0, rose_later (before stations) (mid stations) (after stations) (grows stations) m.1)
unplaced_later held l (Some stations) before mid after Memory grows m = m
unplaced_later held l (Some stations) before mid after Denied grows m = m

-- a netlist is fetched, read and checked, its system built, and the placement of the job is read, or is the one without
-- relay stations
module _ (held : List ℕ → Option (List ℕ)) (net : List ℕ) (stations root : Option (List ℕ)) where
  -- the placement is missed over the shelf that the reading of the netlist has left
  pub misses_stations : {now : List ℕ → Option (List ℕ)} {before mid after : List ℕ → ℕ} {stop : Stop} (b : Building) → GotSystem held net root b → now ≡ held → ((q : List ℕ) → before q ≤ mid q)
      → MissesPlacement now (links_of b.system) stations mid after stop → MissesStations held net stations root before after stop
  misses_stations {before = before} {mid = mid} {after = after} {stop = stop} b g same grows m = record {
    building = b;
    built = g;
    misses = unplaced_later held (links_of b.system) stations before mid after stop grows (subst (λ (h : List ℕ → Option (List ℕ)). MissesPlacement h (links_of b.system) stations mid after stop) same m);
  }

  pub cause_unwrapped : (next : Design → Links → Placement → Script) (before after : List ℕ → ℕ) (stop : Stop) → MissesWrapped held net stations root before after stop → IsCause held (wrapped_step net stations root next) before after stop
  cause_unwrapped next before after stop (inl m) = cause_unbuilt held net root (λ d l. placement_step l stations (next d l)) before after stop m
  cause_unwrapped next before after stop (inr r) =
      let d = r.building.design in
      let l = links_of r.building.system in
      let on : Design → Links → Script = λ d l. placement_step l stations (next d l) in
      same_cause held (on d l) (system_step net root on) (within_built held net root on r.building r.built) before before after stop (λ q. omega arith) (cause_unplaced held l (next d l) stations before after stop r.misses)
