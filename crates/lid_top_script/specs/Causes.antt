-- Why a run does not end with its whole output: the cause that a value of the program tells.
use Rattle.std.specs.Prelude.{◌≡◌, ◌⊎◌, ℕ, List, Option, Some, None, Result, Ok, Err}
use Rattle.lid_base.specs.Outside.{Rose}
use Rattle.lid_top_refusals.specs.declared.refusal.Refusal.TheVariants.{Blif, Check, Net, Rows, Stations, Cert, Stalls, Schedule, Vcd, Gen, Emit}
use Rattle.lid_top_script.specs.declared.fault.Stop.{Stop}
use Rattle.lid_top_script.specs.declared.fault.Stop.TheVariants.{Refused, Read, Memory, Denied}
use Rattle.lid_top_script.specs.declared.fault.JobEnd.{JobEnd}
use Rattle.lid_top_script.specs.declared.fault.JobEnd.TheVariants.{Stopped, Unwritten}
use Rattle.lid_blif.specs.declared.fault.BlifFault.{BlifFault}
use Rattle.lid_blif.specs.declared.fault.BlifFault.TheVariants as blif
use Rattle.lid_texts.specs.declared.rows.VecFault.{VecFault}
use Rattle.lid_texts.specs.declared.rows.VecFault.TheVariants as rows
use Rattle.lid_design.specs.declared.Design.{Design}
use Rattle.lid_stations.specs.declared.placement.Placement.{Placement}
use Rattle.lid_stations.specs.Placements.{Links, links_of, no_relays}
use Rattle.lid_check_rules.specs.declared.fault.CheckFault.{CheckFault}
use Rattle.lid_check_rules.specs.declared.fault.CheckFault.TheVariants as check
use Rattle.lid_net_channels.specs.declared.fault.NetFault.{NetFault}
use Rattle.lid_net_channels.specs.declared.fault.NetFault.TheVariants as net
use Rattle.lid_stations_text.specs.declared.fault.PlaceFault.{PlaceFault}
use Rattle.lid_stations_text.specs.declared.fault.PlaceFault.TheVariants as place
use Rattle.lid_cert_text.specs.declared.fault.CertFault.{CertFault}
use Rattle.lid_cert_text.specs.declared.fault.CertFault.TheVariants as cert
use Rattle.lid_texts_runs.specs.declared.schedule.SchedFault.{SchedFault}
use Rattle.lid_texts_runs.specs.declared.schedule.SchedFault.TheVariants as schedule
use Rattle.lid_stall_text.specs.declared.stalls.Stall.{Stall}
use Rattle.lid_stall_text.specs.declared.stalls.StallFault.{StallFault}
use Rattle.lid_stall_text.specs.declared.stalls.StallFault.TheVariants as stalls
use Rattle.lid_vcd.specs.declared.reader.VcdFault.{VcdFault}
use Rattle.lid_vcd.specs.declared.reader.VcdFault.TheVariants as vcd
use Rattle.lid_emit_meaning.specs.declared.fault.EmitFault.{EmitFault}
use Rattle.lid_emit_meaning.specs.declared.fault.EmitFault.TheVariants as emit
use Rattle.lid_gen.specs.declared.fault.GenFault.{GenFault}
use Rattle.lid_gen.specs.declared.fault.GenFault.TheVariants as gen
use Rattle.lid_top_refusals.specs.Faults.{read_line, write_line, memory_line, denied_line}
use Rattle.lid_top_refusals.specs.Refusals.{refusal_line}
use Rattle.lid_top_script.specs.Wrapped.{Graphing, Building, Wrapping}
use Rattle.lid_top_script.specs.Scripts.{refuses, denies, Script, Reading, good, bad, net_limit, net_reading, text_limit, stations_read, stalls_read, links, IsFetched, IsChecked, IsUnchecked, HasChannels, IsOverfull, EndsIn, ReachesFetch}

-- a fault that is want of memory is no refusal
abbrev pub stop_of_blif : BlifFault → Stop
stop_of_blif blif.Memory = Memory
stop_of_blif fault = Refused (Blif fault)

abbrev pub stop_of_rows : VecFault → Stop
stop_of_rows rows.Memory = Memory
stop_of_rows fault = Refused (Rows fault)

abbrev pub stop_of_check : CheckFault → Stop
stop_of_check check.Memory = Memory
stop_of_check fault = Refused (Check fault)

abbrev pub stop_of_net : NetFault → Stop
stop_of_net net.Memory = Memory
stop_of_net fault = Refused (Net fault)

abbrev pub stop_of_place : PlaceFault → Stop
stop_of_place place.Memory = Memory
stop_of_place fault = Refused (Stations fault)

abbrev pub stop_of_cert : CertFault → Stop
stop_of_cert cert.Memory = Memory
stop_of_cert fault = Refused (Cert fault)

abbrev pub stop_of_schedule : SchedFault → Stop
stop_of_schedule schedule.Memory = Memory
stop_of_schedule fault = Refused (Schedule fault)

abbrev pub stop_of_stalls : StallFault → Stop
stop_of_stalls stalls.Memory = Memory
stop_of_stalls fault = Refused (Stalls fault)

abbrev pub stop_of_dump : VcdFault → Stop
stop_of_dump vcd.Memory = Memory
stop_of_dump fault = Refused (Vcd fault)

abbrev pub stop_of_gen : GenFault → Stop
stop_of_gen gen.Memory = Memory
stop_of_gen fault = Refused (Gen fault)

abbrev pub stop_of_emit : EmitFault → Stop
stop_of_emit emit.Memory = Memory
stop_of_emit fault = Refused (Emit fault)

-- only memory was wanting
abbrev pub IsWant : Stop → Type 0
IsWant (Refused refusal) = ⊥
IsWant (Read file) = ⊥
IsWant Memory = Unit {0}
IsWant Denied = ⊥

-- a step without a fetch refuses: its line is one of these
abbrev pub Refuses : (List ℕ → Type 0) → Stop → Type 0
Refuses Bad (Refused refusal) = Bad (refusal_line refusal)
Refuses Bad (Read file) = ⊥
Refuses Bad Memory = Unit {0}
Refuses Bad Denied = ⊥

-- why a reading gives nothing
abbrev pub Declines : {A : Type 0} → Reading A → Stop → Type 0
Declines reading = Refuses (λ line. reading ≡ bad line)

-- why a design is not accepted
abbrev pub FailsCheck : Option (List ℕ) → Design → Stop → Type 0
FailsCheck root d = Refuses (IsUnchecked root d)

-- why a design has no system
abbrev pub FailsNet : Design → Stop → Type 0
FailsNet d = Refuses (IsOverfull d)

-- why a file is not fetched
abbrev pub MissesFile : List ℕ → (List ℕ → ℕ) → (List ℕ → ℕ) → Stop → Type 0
MissesFile name before after (Refused refusal) = ⊥
MissesFile name before after (Read file) = (file.now ≡ name) × Rose (before name) (after name)
MissesFile name before after Memory = Unit {0}
MissesFile name before after Denied = ⊥

-- the file that is read, and what it stands for
pub record Got {A : Type 0} (held : List ℕ → Option (List ℕ)) (name : List ℕ) (limit : ℕ) (read : List ℕ → Reading A) (a : A) : Type 0 where
  pub bytes : List ℕ
  pub fetched : IsFetched held name limit bytes
  pub stands : read bytes ≡ good a

-- the reading of the file refuses
pub record RefusesFile {A : Type 0} (held : List ℕ → Option (List ℕ)) (name : List ℕ) (limit : ℕ) (read : List ℕ → Reading A) (line : List ℕ) : Type 0 where
  pub bytes : List ℕ
  pub fetched : IsFetched held name limit bytes
  pub refused : read bytes ≡ bad line

-- why a file is not read
abbrev pub Misses : {A : Type 0} → (List ℕ → Option (List ℕ)) → List ℕ → ℕ → (List ℕ → Reading A) → (List ℕ → ℕ) → (List ℕ → ℕ) → Stop → Type 0
Misses held name limit read before after (Refused refusal) = RefusesFile held name limit read (refusal_line refusal)
Misses held name limit read before after (Read file) = (file.now ≡ name) × Rose (before name) (after name)
Misses held name limit read before after Memory = Unit {0}
Misses held name limit read before after Denied = ⊥

-- the channels of a design that is accepted
pub record FindsChannels (root : Option (List ℕ)) (d : Design) (g : Graphing) : Type 0 where
  pub is_checked : IsChecked root d g.design
  pub has : HasChannels g.design g.channels

-- the system of a design that is accepted
pub record BuildsSystem (root : Option (List ℕ)) (d : Design) (b : Building) : Type 0 where
  pub is_checked : IsChecked root d b.design
  pub has : HasChannels b.design b.system.channels
  pub links_are : links_of b.system ≡ links b.design b.system.channels

-- a design that is accepted has too many channels
pub record HasTooMany (root : Option (List ℕ)) (d : Design) (line : List ℕ) : Type 0 where
  pub checked : Design
  pub is_checked : IsChecked root d checked
  pub refused : IsOverfull checked line

-- why a design has no channels, and no system: it is not accepted, or has too many channels
abbrev pub FailsSystem : Option (List ℕ) → Design → Stop → Type 0
FailsSystem root d = Refuses (λ line. IsUnchecked root d line ⊎ HasTooMany root d line)

-- the channels of a netlist that is fetched and read
pub record GotChannels (held : List ℕ → Option (List ℕ)) (net : List ℕ) (root : Option (List ℕ)) (g : Graphing) : Type 0 where
  pub design : Design
  pub got : Got held net net_limit net_reading design
  pub finds : FindsChannels root design g

-- the system of a netlist that is fetched and read
pub record GotSystem (held : List ℕ → Option (List ℕ)) (net : List ℕ) (root : Option (List ℕ)) (b : Building) : Type 0 where
  pub design : Design
  pub got : Got held net net_limit net_reading design
  pub builds : BuildsSystem root design b

-- a netlist that is read has no channels, and no system
pub record RefusesSystem (held : List ℕ → Option (List ℕ)) (net : List ℕ) (root : Option (List ℕ)) (line : List ℕ) : Type 0 where
  pub design : Design
  pub got : Got held net net_limit net_reading design
  pub refused : IsUnchecked root design line ⊎ HasTooMany root design line

-- why there are no channels, and no system: the netlist is not read, or has none
abbrev pub MissesSystem : (List ℕ → Option (List ℕ)) → List ℕ → Option (List ℕ) → (List ℕ → ℕ) → (List ℕ → ℕ) → Stop → Type 0
MissesSystem held net root before after (Refused refusal) = RefusesFile held net net_limit net_reading (refusal_line refusal) ⊎ RefusesSystem held net root (refusal_line refusal)
MissesSystem held net root before after (Read file) = (file.now ≡ net) × Rose (before net) (after net)
MissesSystem held net root before after Memory = Unit {0}
MissesSystem held net root before after Denied = ⊥

-- the placement of a job
abbrev pub GotPlacement : (List ℕ → Option (List ℕ)) → Links → Option (List ℕ) → Placement → Type 0
GotPlacement held l None p = p ≡ no_relays l
GotPlacement held l (Some stations) p = Got held stations text_limit (stations_read l) p

-- why there is no placement
abbrev pub MissesPlacement : (List ℕ → Option (List ℕ)) → Links → Option (List ℕ) → (List ℕ → ℕ) → (List ℕ → ℕ) → Stop → Type 0
MissesPlacement held l None before after stop = IsWant stop
MissesPlacement held l (Some stations) before after stop = Misses held stations text_limit (stations_read l) before after stop

-- the design of a netlist that is fetched and read, with its system and the placement of the job
pub record GotWrapped (held : List ℕ → Option (List ℕ)) (net : List ℕ) (stations root : Option (List ℕ)) (w : Wrapping) : Type 0 where
  pub built : GotSystem held net root (record { design = w.design; system = w.system })
  pub placed : GotPlacement held (links_of w.system) stations w.placement

-- the system is had, and no placement
pub record MissesStations (held : List ℕ → Option (List ℕ)) (net : List ℕ) (stations root : Option (List ℕ)) (before after : List ℕ → ℕ) (stop : Stop) : Type 0 where
  pub building : Building
  pub built : GotSystem held net root building
  pub misses : MissesPlacement held (links_of building.system) stations before after stop

-- why they are not had
abbrev pub MissesWrapped : (List ℕ → Option (List ℕ)) → List ℕ → Option (List ℕ) → Option (List ℕ) → (List ℕ → ℕ) → (List ℕ → ℕ) → Stop → Type 0
MissesWrapped held net stations root before after stop = MissesSystem held net root before after stop ⊎ MissesStations held net stations root before after stop

-- the stalls of a job, of whose file the bytes are known
abbrev pub GotStalls : (List ℕ → Option (List ℕ)) → Option (List ℕ) → Option (List Stall) → Type 0
GotStalls held None read = read ≡ None
GotStalls held (Some stalls) None = ⊥
GotStalls held (Some stalls) (Some read) = Got held stalls text_limit stalls_read read

-- why they are not had
abbrev pub MissesStalls : (List ℕ → Option (List ℕ)) → Option (List ℕ) → (List ℕ → ℕ) → (List ℕ → ℕ) → Stop → Type 0
MissesStalls held None before after stop = ⊥
MissesStalls held (Some stalls) before after stop = Misses held stalls text_limit stalls_read before after stop

-- why a script comes to no output
abbrev pub IsCause : (List ℕ → Option (List ℕ)) → Script → (List ℕ → ℕ) → (List ℕ → ℕ) → Stop → Type 0
IsCause held script before after (Refused refusal) = EndsIn held script (refuses (refusal_line refusal))
IsCause held script before after (Read file) = ReachesFetch held script file.now × Rose (before file.now) (after file.now)
IsCause held script before after Memory = Unit {0}
IsCause held script before after Denied = EndsIn held script denies

-- why a job does not end with its whole output, where Failed is what a write that failed shows
abbrev pub IsJobEnd : (List ℕ → Option (List ℕ)) → Script → (List ℕ → ℕ) → (List ℕ → ℕ) → Type 0 → JobEnd → Type 0
IsJobEnd held script before after Failed (Stopped stop) = IsCause held script before after stop
IsJobEnd held script before after Failed Unwritten = Failed

-- no write failed
abbrev pub IsStoppedJob : JobEnd → Type 0
IsStoppedJob (Stopped stop) = Unit {0}
IsStoppedJob Unwritten = ⊥

-- a reading, a check or a limit refused
abbrev pub IsRefusedJob : JobEnd → Type 0
IsRefusedJob (Stopped (Refused refusal)) = Unit {0}
IsRefusedJob end = ⊥

-- the status of a stop
abbrev pub stop_status : Stop → ℕ
stop_status (Refused refusal) = 1
stop_status (Read file) = 3
stop_status Memory = 5
stop_status Denied = 6

-- the line of a stop
abbrev pub stop_line : Stop → List ℕ
stop_line (Refused refusal) = refusal_line refusal
stop_line (Read file) = read_line file.now
stop_line Memory = memory_line
stop_line Denied = denied_line

-- the status of an end
abbrev pub end_status : JobEnd → ℕ
end_status (Stopped stop) = stop_status stop
end_status Unwritten = 4

-- the status of a job by its result
abbrev pub job_status : Result (Unit {0}) JobEnd → ℕ
job_status (Ok done) = 0
job_status (Err end) = end_status end

-- the line of an end
abbrev pub end_line : JobEnd → List ℕ
end_line (Stopped stop) = stop_line stop
end_line Unwritten = write_line
