-- The steps of a job, and how they end.
use Rattle.std.specs.Prelude.{◌≡◌, ◌↔◌, ℕ, true, false, ◌+◌, ◌*◌, ◌<◌, ◌≤◌, min, nat_lt, if◌then◌else◌, Bool, List, length, take, Option, Some, None, IfSome, Result, Ok, Err, ◌⊎◌}
use Rattle.std.specs.List.{AllByRecursion}
use Rattle.lid_base.specs.Lines.{logical_lines}
use Rattle.lid_base.specs.declared.which.Which.TheVariants.{TraceCells}
use Rattle.lid_design.specs.declared.Design.{Design}
use Rattle.lid_design.specs.Columns.{root_inputs, root_outputs}
use Rattle.lid_blif.specs.declared.fault.BlifFault.{BlifFault}
use Rattle.lid_blif.specs.Designs.{design_of}
use Rattle.lid_blif.specs.Faults.{blif_fault}
use Rattle.lid_check_rules.specs.declared.fault.CheckFault.{CheckFault}
use Rattle.lid_check.specs.Acceptance.{with_root, IsAccepted, IsRefused}
use Rattle.lid_system.specs.declared.Channel.{Channel}
use Rattle.lid_net_channels.specs.declared.fault.NetFault.TheVariants.{TooManyChannels}
use Rattle.lid_net.specs.Graphs.{IsGraphOf}
use Rattle.lid_design.specs.Loops.{pearls}
use Rattle.lid_graph.specs.declared.graph.Graph.{Graph}
use Rattle.lid_cert.specs.declared.cert.Cert.{Cert}
use Rattle.lid_cert.specs.Certificates.{Certifies}
use Rattle.lid_cert_text.specs.Texts.{cert_of, cert_fault}
use Rattle.lid_cert_text.specs.declared.fault.CertFault.{CertFault}
use Rattle.lid_stations.specs.declared.placement.Placement.{Placement}
use Rattle.lid_stations.specs.Placements.{Links, no_relays, station_count}
use Rattle.lid_stations.specs.Stations.{actor_count}
use Rattle.lid_stations.specs.Markings.{marking}
use Rattle.lid_stations_text.specs.declared.fault.PlaceFault.{PlaceFault}
use Rattle.lid_stations_text.specs.Readings.{stations_reading, wires_reading}
use Rattle.lid_texts_runs.specs.declared.trace.TraceFault.TheVariants as trace
use Rattle.lid_texts_runs.specs.declared.schedule.SchedFault.{SchedFault}
use Rattle.lid_texts_runs.specs.Schedules.{schedule_reading}
use Rattle.lid_stall_text.specs.declared.stalls.Stall.{Stall}
use Rattle.lid_stall_text.specs.declared.stalls.StallFault.{StallFault}
use Rattle.lid_stall_text.specs.Stalls.{stalls_reading}
use Rattle.lid_texts.specs.declared.rows.Rows.{Rows}
use Rattle.lid_texts.specs.declared.rows.VecFault.{VecFault}
use Rattle.lid_texts.specs.declared.rows.VecFault.TheVariants.{Changed}
use Rattle.lid_texts.specs.Rows.{rows_reading}
use Rattle.lid_texts.specs.Scans.{ended_rows}
use Rattle.lid_texts_runs.specs.declared.trace.Trace.{Trace}
use Rattle.lid_vcd.specs.declared.reader.VcdFault.{VcdFault}
use Rattle.lid_vcd.specs.Reading.{wave_reading}
use Rattle.lid_emit_meaning.specs.declared.fault.EmitFault.{EmitFault}
use Rattle.lid_emit_meaning.specs.Emitted.{emit_fault}
use Rattle.lid_gen.specs.declared.fault.GenFault.{GenFault}
use Rattle.lid_gen.specs.Designs.{size_fault}
use Rattle.lid_top_words.specs.declared.job.Job.{Job}
use Rattle.lid_top_words.specs.declared.job.Job.TheVariants.{Check, Clock, Emit, Free, Gen, Place, Rate, Size, Slack, Strict, Unwave, Verify, Walk, Wave}
use Rattle.lid_top_refusals.specs.Faults.{blif_line, rows_line, check_line, net_line, stations_line, cert_line, trace_line, stalls_line, schedule_line, vcd_line, gen_line, emit_line}
use Rattle.lid_top_script.specs.Clocked.{AsksFor}
use Rattle.lid_top_script.specs.Outputs.{Output, report, strict_output, placed, throughput, sized, slacks, verdict, clocked, walked, freed, waved, unwaved, emitted, design_of_seed, run_of_seed}

-- what a reading makes of a value
pub data Reading (A : Type 0) : Type 0 where
  good : A → Reading A
  bad : List ℕ → Reading A  -- the line on `err`

-- a second reading of the rows of a file
pub record Rereading : Type 1 where
  pub name : List ℕ
  pub limit : ℕ
  pub width : ℕ
  pub read : List ℕ → Reading (List (List Bool))
  -- how many rows have ended in some first bytes
  pub ended : List ℕ → ℕ
  -- what the first reading gave
  pub rows : List (List Bool)
  -- so many of these are asked for
  pub Asks : ℕ → Type 0

-- how a job ends, where all is fetched and memory is there
pub data Ending : Type 0 where
  refuses : List ℕ → Ending  -- with this line on `err`
  denies : Ending  -- the certificate is none of the graph
  gives : Output → Ending

-- the steps of a job
pub data Script : Type 1 where
  -- a file is fetched, up to one byte more than its limit
  fetch : List ℕ → ℕ → (List ℕ → Script) → Script
  -- a file whose rows were read is read a second time, row by row
  again : Rereading → (List (List Bool) → Script) → Script
  -- any value that meets the first, or any line that meets the second
  decide : {A : Type 0} → (A → Type 0) → (List ℕ → Type 0) → (A → Script) → Script
  end : Ending → Script

-- a reading decides the step
abbrev pub read_then : {A : Type 0} → Reading A → (A → Script) → Script
read_then (good a) next = next a
read_then (bad line) next = end (refuses line)

-- fetches a file and reads it
abbrev pub read_step : {A : Type 0} → List ℕ → ℕ → (List ℕ → Reading A) → (A → Script) → Script
read_step name limit read next = fetch name limit (λ bytes. read_then (read bytes) next)

abbrev pub net_limit : ℕ
net_limit = 16777216

abbrev pub rows_limit : ℕ
rows_limit = 67108864

abbrev pub unless_faulty : {A : Type 0} → Option BlifFault → A → Reading A
unless_faulty None a = good a
unless_faulty (Some fault) a = bad (blif_line fault)

-- the design that a BLIF text stands for
unfoldable pub net_reading : List ℕ → Reading Design
net_reading bytes = unless_faulty (blif_fault bytes) (design_of (logical_lines bytes))

abbrev pub bits_read : Result Rows VecFault → Reading (List (List Bool))
bits_read (Ok rows) = good rows.bits
bits_read (Err fault) = bad (rows_line fault)

-- the rows for the inputs of a design
unfoldable pub vec_reading : Design → List ℕ → Reading (List (List Bool))
vec_reading d bytes = bits_read (rows_reading (root_inputs d) (length (root_outputs d)) bytes)

-- at most 1,000,000 rows for the inputs of a design, each as wide as these
pub record AreInputRows (d : Design) (rows : List (List Bool)) : Type 0 where
  pub wide : AllByRecursion (λ row. length row ≡ length (root_inputs d)) rows
  pub few : length rows ≤ 1000000

-- `strict` of an accepted design: the rows are fetched and read
unfoldable pub rows_script : Design → List ℕ → Script
rows_script d vec = read_step vec rows_limit (vec_reading d) (λ rows. end (gives (strict_output d rows)))

-- what a fetch of a whole file may give: at most one byte more than the limit, and where the file's
-- bytes are told, these
pub record IsFetched (held : List ℕ → Option (List ℕ)) (name : List ℕ) (limit : ℕ) (bytes : List ℕ) : Type 0 where
  pub short : length bytes ≤ limit + 1
  pub told : IfSome (held name) (λ file. bytes ≡ take (limit + 1) file)

-- what a second reading may give: as many rows as the first, each as wide, and where the file's bytes
-- are told, the same rows
pub record IsReread (held : List ℕ → Option (List ℕ)) (again : Rereading) (rows : List (List Bool)) : Type 0 where
  pub many : length rows ≡ length again.rows
  pub wide : AllByRecursion (λ row. length row ≡ again.width) rows
  pub told : IfSome (held again.name) (λ file. rows ≡ again.rows)

-- the second text refuses, or has fewer rows than the first
abbrev pub HasFewerRows : Reading (List (List Bool)) → List (List Bool) → List ℕ → Type 0
HasFewerRows (bad refusal) rows line = line ≡ refusal
HasFewerRows (good found) rows line = (length found < length rows) × (line ≡ rows_line (Changed (length rows) (length found)))

-- a file whose bytes are not told had another text when it was read a second time
pub record IsChanged (held : List ℕ → Option (List ℕ)) (again : Rereading) (line : List ℕ) : Type 0 where
  pub untold : held again.name ≡ None
  pub bytes : List ℕ
  pub short : length bytes ≤ again.limit + 1
  pub falls : HasFewerRows (again.read bytes) again.rows line

-- the design with its root is accepted
pub record IsChecked (root : Option (List ℕ)) (d checked : Design) : Type 0 where
  pub rooted : with_root d root ≡ Some checked
  pub accepted : IsAccepted checked

-- the design is refused, and told so
pub record IsUnchecked (root : Option (List ℕ)) (d : Design) (line : List ℕ) : Type 0 where
  pub fault : CheckFault
  pub refused : IsRefused (with_root d root) fault
  pub told : line ≡ check_line fault

-- a design is checked, with the root that was chosen by name, if one was
abbrev pub check_step : Option (List ℕ) → Design → (Design → Script) → Script
check_step root d next = decide (IsChecked root d) (IsUnchecked root d) next

-- the channels of a design, which are not too many
pub record HasChannels (d : Design) (channels : List Channel) : Type 0 where
  pub graph : IsGraphOf d channels
  pub few : length channels ≤ 16384

-- the channels of a design are too many, and told so
pub record IsOverfull (d : Design) (line : List ℕ) : Type 0 where
  pub channels : List Channel
  pub graph : IsGraphOf d channels
  pub many : 16384 < length channels
  pub told : line ≡ net_line (TooManyChannels (length channels))

-- the channels of an accepted design are found, where they are not too many
abbrev pub net_step : Design → (List Channel → Script) → Script
net_step d next = decide (HasChannels d) (IsOverfull d) next

-- what a placement sees of the system of a design with these channels: the source, the shells and the sink
abbrev pub links : Design → List Channel → Links
links d channels = record { nodes = length (pearls d) + 2; channels = channels }

-- the netlist is fetched, read and checked, and its channels are found
abbrev pub system_step : List ℕ → Option (List ℕ) → (Design → Links → Script) → Script
system_step net root next = read_step net net_limit net_reading (λ d. check_step root d (λ checked. net_step checked (λ channels. next checked (links checked channels))))

-- `check` of a design and its channels: they are told
unfoldable pub report_script : Design → Links → Script
report_script d l = end (gives (report d l.channels))

-- `check`: the netlist is read and checked, and its channels are found
unfoldable pub check_script : List ℕ → Option (List ℕ) → Script
check_script net root = system_step net root report_script

-- `strict` of a design: it is checked first
unfoldable pub checked_script : Design → List ℕ → Option (List ℕ) → Script
checked_script d vec root = check_step root d (λ checked. rows_script checked vec)

-- `strict`: the netlist is fetched, read and checked, and then the rows are fetched and read
unfoldable pub strict_script : List ℕ → List ℕ → Option (List ℕ) → Script
strict_script net vec root = read_step net net_limit net_reading (λ d. checked_script d vec root)

-- the greatest size of a text of stations or wires, or of a certificate
abbrev pub text_limit : ℕ
text_limit = 16777216

abbrev pub placement_read : Result Placement PlaceFault → Reading Placement
placement_read (Ok p) = good p
placement_read (Err fault) = bad (stations_line fault)

-- the placement that a text of stations stands for
unfoldable pub stations_read : Links → List ℕ → Reading Placement
stations_read l bytes = placement_read (stations_reading l bytes)

-- the placement that a text of wires stands for, where a relay station stands after each length of so much
unfoldable pub wires_read : ℕ → Links → List ℕ → Reading Placement
wires_read reach l bytes = placement_read (wires_reading reach l bytes)

-- the placement of a job: that of the file of stations, where one is named, and the one without relay
-- stations otherwise
abbrev pub placement_step : Links → Option (List ℕ) → (Placement → Script) → Script
placement_step l None next = next (no_relays l)
placement_step l (Some stations) next = read_step stations text_limit (stations_read l) next

-- most commands begin so: the netlist is read and checked, and its system built, then the stations are read
abbrev pub wrapped_step : List ℕ → Option (List ℕ) → Option (List ℕ) → (Design → Links → Placement → Script) → Script
wrapped_step net stations root next = system_step net root (λ d l. placement_step l stations (next d l))

abbrev pub cert_unless : Option CertFault → Cert → Reading Cert
cert_unless None cert = good cert
cert_unless (Some fault) cert = bad (cert_line fault)

-- the certificate that a text stands for
unfoldable pub cert_read : List ℕ → Reading Cert
cert_read bytes = cert_unless (cert_fault bytes) (cert_of bytes)

-- `place` of a system: the wires are fetched and read
unfoldable pub wires_script : Links → List ℕ → ℕ → Script
wires_script l wires reach = read_step wires text_limit (wires_read reach l) (λ p. end (gives (placed l p)))

-- what is told of a system with such a placement
unfoldable pub told_script : (Links → Placement → Output) → Links → Placement → Script
told_script output l p = end (gives (output l p))

-- how `verify` ends, by whether the certificate is one of the graph
abbrev pub judged_script : Links → Cert → Bool → Script
judged_script l cert true = end (gives (verdict l cert))
judged_script l cert false = end denies

-- this says whether the certificate is one of the graph
abbrev pub IsVerdictOn : Graph → Cert → Bool → Type 0
IsVerdictOn g cert holds = (holds ≡ true) ↔ Certifies g cert

-- no certificate that reads is refused
abbrev pub NoLine : List ℕ → Type 0
NoLine line = ⊥

-- `verify` of a certificate: it is judged
unfoldable pub judging_script : Links → Placement → Cert → Script
judging_script l p cert = decide (IsVerdictOn (marking l p) cert) NoLine (judged_script l cert)

-- `verify` of a system with such a placement: the certificate is fetched and read
unfoldable pub cert_script : Links → Placement → List ℕ → Script
cert_script l p cert = read_step cert text_limit cert_read (judging_script l p)

-- `place`: the netlist is read and its system built, then the wires are read
unfoldable pub place_script : List ℕ → List ℕ → ℕ → Option (List ℕ) → Script
place_script net wires reach root = system_step net root (λ d l. wires_script l wires reach)

-- `rate`, `size` and `slack`: the netlist is read and its system built, then the stations are read
unfoldable pub telling_script : (Links → Placement → Output) → List ℕ → Option (List ℕ) → Option (List ℕ) → Script
telling_script output net stations root = wrapped_step net stations root (λ d. told_script output)

-- `verify`: as `rate`, and then the certificate is read and judged
unfoldable pub verify_script : List ℕ → List ℕ → Option (List ℕ) → Option (List ℕ) → Script
verify_script net cert stations root = wrapped_step net stations root (λ d l p. cert_script l p cert)

-- whether a trace of so many cells is refused: a limit is told as at most 2^64 - 1
abbrev pub cells_read : ℕ → Reading (Unit {0})
cells_read cells = if nat_lt 1048576 cells then bad (trace_line (trace.Limit TraceCells (min cells 18446744073709551615))) else good tt

-- the cells of a trace are judged by the cycles that it is asked for, where it is, whatever the run has
unfoldable pub trace_read : Placement → Option ℕ → Reading (Unit {0})
trace_read p None = good tt
trace_read p (Some cycles) = cells_read (station_count p.relays * cycles)

-- how many rows for the inputs of a design have ended in some first bytes
abbrev pub rows_ended : Design → List ℕ → ℕ
rows_ended d bytes = length (ended_rows (root_inputs d) (length (root_outputs d)) bytes)

-- the rows of a design, which were read, are to be read a second time, up to those that are asked for
abbrev pub reread_rows : Design → List ℕ → (ℕ → Type 0) → List (List Bool) → Rereading
reread_rows d vec Asks rows = record { name = vec; limit = rows_limit; width = length (root_inputs d); read = vec_reading d; ended = rows_ended d; rows = rows; Asks = Asks }

abbrev pub stalls_good : Result (List Stall) StallFault → Reading (List Stall)
stalls_good (Ok stalls) = good stalls
stalls_good (Err fault) = bad (stalls_line fault)

-- the stalls that a text stands for
unfoldable pub stalls_read : List ℕ → Reading (List Stall)
stalls_read bytes = stalls_good (stalls_reading bytes)

-- the stalls of a job: those of the file of stalls, where one is named
abbrev pub stalls_step : Option (List ℕ) → (Option (List Stall) → Script) → Script
stalls_step None next = next None
stalls_step (Some stalls) next = read_step stalls text_limit stalls_read (λ read. next (Some read))

-- `clock` of a system with such a placement and such stalls whose rows were read: they are read a second time as it
-- runs
unfoldable pub rerun_script : Design → Links → Placement → List ℕ → Option (List Stall) → Option ℕ → List (List Bool) → Script
rerun_script d l p vec stalls trace rows = again (reread_rows d vec (AsksFor l p (length rows) stalls) rows) (λ reread. end (gives (clocked d l p reread stalls trace)))

-- the trace is judged, and then it runs
unfoldable pub traced_script : Design → Links → Placement → List ℕ → Option (List Stall) → Option ℕ → List (List Bool) → Script
traced_script d l p vec stalls trace rows = read_then (trace_read p trace) (λ _. rerun_script d l p vec stalls trace rows)

-- `clock` of a system with such a placement and such stalls: the rows are fetched and read
unfoldable pub vec_script : Design → Links → Placement → List ℕ → Option (List Stall) → Option ℕ → Script
vec_script d l p vec stalls trace = read_step vec rows_limit (vec_reading d) (traced_script d l p vec stalls trace)

-- `clock` of a system with such a placement: the stalls are read
unfoldable pub stalled_script : Design → Links → Placement → List ℕ → Option (List ℕ) → Option ℕ → Script
stalled_script d l p vec stalls trace = stalls_step stalls (λ read. vec_script d l p vec read trace)

-- `clock`: the netlist is read and checked, and its system built, then the stations are read, then the stalls, then
-- the rows, and the trace is judged
unfoldable pub clock_script : List ℕ → List ℕ → Option (List ℕ) → Option (List ℕ) → Option ℕ → Option (List ℕ) → Script
clock_script net vec stations stalls trace root = wrapped_step net stations root (λ d l p. stalled_script d l p vec stalls trace)

abbrev pub schedule_good : Result (List ℕ) SchedFault → Reading (List ℕ)
schedule_good (Ok schedule) = good schedule
schedule_good (Err fault) = bad (schedule_line fault)

-- the schedule that a text stands for, for so many actors
unfoldable pub schedule_read : ℕ → List ℕ → Reading (List ℕ)
schedule_read actors bytes = schedule_good (schedule_reading actors bytes)

-- `walk` of a system with such a placement for these rows: the schedule is fetched and read
unfoldable pub schedule_script : Design → Links → Placement → List ℕ → List (List Bool) → Script
schedule_script d l p schedule rows = read_step schedule text_limit (schedule_read (actor_count l p)) (λ actors. end (gives (walked d l p rows actors)))

-- a run that holds its rows: the netlist is read and checked, and its system built, then the stations are read, and
-- then the rows
abbrev pub rows_step : Design → List ℕ → (List (List Bool) → Script) → Script
rows_step d vec next = read_step vec rows_limit (vec_reading d) next

abbrev pub held_step : List ℕ → List ℕ → Option (List ℕ) → Option (List ℕ) → (Design → Links → Placement → List (List Bool) → Script) → Script
held_step net vec stations root next = wrapped_step net stations root (λ d l p. rows_step d vec (next d l p))

-- `walk`: the schedule is read after the rows
unfoldable pub walk_script : List ℕ → List ℕ → List ℕ → Option (List ℕ) → Option (List ℕ) → Script
walk_script net vec schedule stations root = held_step net vec stations root (λ d l p rows. schedule_script d l p schedule rows)

-- `free` of a system with such a placement for these rows
unfoldable pub freeing_script : Design → Links → Placement → ℕ → ℕ → Bool → List (List Bool) → Script
freeing_script d l p workers rounds tally rows = end (gives (freed d l p rows workers rounds tally))

-- `free`: the run, once the rows are read
unfoldable pub free_script : List ℕ → List ℕ → Option (List ℕ) → ℕ → ℕ → Bool → Option (List ℕ) → Script
free_script net vec stations workers rounds tally root = held_step net vec stations root (λ d l p rows. freeing_script d l p workers rounds tally rows)

-- `wave` of a system with such a placement whose rows were read: the trace is judged
unfoldable pub waving_script : Design → Links → Placement → ℕ → List (List Bool) → Script
waving_script d l p cycles rows = read_then (trace_read p (Some cycles)) (λ _. end (gives (waved d l p rows cycles)))

-- `wave`: the steps of `clock`, with the rows held
unfoldable pub wave_script : List ℕ → List ℕ → Option (List ℕ) → ℕ → Option (List ℕ) → Script
wave_script net vec stations cycles root = held_step net vec stations root (λ d l p rows. waving_script d l p cycles rows)

abbrev pub dump_good : Result Trace VcdFault → Reading Trace
dump_good (Ok trace) = good trace
dump_good (Err fault) = bad (vcd_line fault)

-- the trace that a dump stands for
unfoldable pub dump_read : List ℕ → Reading Trace
dump_read bytes = dump_good (wave_reading bytes)

-- the greatest size of a value change dump
abbrev pub dump_limit : ℕ
dump_limit = 67108864

-- `unwave`: the dump is fetched and read
unfoldable pub unwave_script : List ℕ → Script
unwave_script file = read_step file dump_limit dump_read (λ trace. end (gives (unwaved trace)))

abbrev pub emit_good : Option EmitFault → Reading (Unit {0})
emit_good None = good tt
emit_good (Some fault) = bad (emit_line fault)

-- whether the wrapped design is emitted: its names and its size are judged
unfoldable pub emit_read : Design → Links → Placement → Reading (Unit {0})
emit_read d l p = emit_good (emit_fault d l p)

-- `emit` of a system with such a placement
unfoldable pub wrapping_script : Design → Links → Placement → Script
wrapping_script d l p = read_then (emit_read d l p) (λ _. end (gives (emitted d l p)))

-- `emit`: the netlist is read and checked, and its system built, then the stations are read
unfoldable pub emit_script : List ℕ → Option (List ℕ) → Option (List ℕ) → Script
emit_script net stations root = wrapped_step net stations root wrapping_script

abbrev pub size_good : Option GenFault → Reading (Unit {0})
size_good None = good tt
size_good (Some fault) = bad (gen_line fault)

-- whether so many shells may be generated
unfoldable pub size_read : ℕ → Reading (Unit {0})
size_read shells = size_good (size_fault shells)

-- the output of `gen`, by whether a run is asked for
abbrev pub generating : ℕ → ℕ → Option ℕ → Output
generating seed shells None = design_of_seed seed shells
generating seed shells (Some rows) = run_of_seed seed shells rows

-- `gen`: the size is judged, and then it runs
unfoldable pub gen_script : ℕ → ℕ → Option ℕ → Script
gen_script seed shells run = read_then (size_read shells) (λ _. end (gives (generating seed shells run)))

-- the steps of a job
abbrev pub script_of : Job → Script
script_of (Check net root) = check_script net root
script_of (Clock net vec stations stalls workers trace root) = clock_script net vec stations stalls trace root
script_of (Place net wires reach root) = place_script net wires reach root
script_of (Rate net stations root) = telling_script throughput net stations root
script_of (Size net stations root) = telling_script sized net stations root
script_of (Slack net stations root) = telling_script slacks net stations root
script_of (Strict net vec root) = strict_script net vec root
script_of (Verify net cert stations root) = verify_script net cert stations root
script_of (Walk net vec schedule stations root) = walk_script net vec schedule stations root
script_of (Free net vec stations workers rounds tally root) = free_script net vec stations workers rounds tally root
script_of (Wave net vec stations trace root) = wave_script net vec stations trace root
script_of (Unwave file) = unwave_script file
script_of (Emit net stations root) = emit_script net stations root
script_of (Gen seed shells run) = gen_script seed shells run

-- the script ends so for some bytes of its files, those told where they are told
abbrev pub EndsIn : (List ℕ → Option (List ℕ)) → Script → Ending → Type 0
EndsIn held (fetch name limit next) ending = (bytes : List ℕ) × IsFetched held name limit bytes × EndsIn held (next bytes) ending
EndsIn held (again second next) ending =
    ((rows : List (List Bool)) × IsReread held second rows × EndsIn held (next rows) ending)
    ⊎ ((line : List ℕ) × IsChanged held second line × (refuses line ≡ ending))
EndsIn held (decide {A} Good Bad next) ending =
    ((a : A) × Good a × EndsIn held (next a) ending)
    ⊎ ((line : List ℕ) × Bad line × (refuses line ≡ ending))
EndsIn held (end last) ending = last ≡ ending

-- the script comes to a fetch of this file for some bytes of the files before it
abbrev pub ReachesFetch : (List ℕ → Option (List ℕ)) → Script → List ℕ → Type 0
ReachesFetch held (fetch name limit next) file = (name ≡ file) ⊎ ((bytes : List ℕ) × IsFetched held name limit bytes × ReachesFetch held (next bytes) file)
ReachesFetch held (again second next) file = (second.name ≡ file) ⊎ ((rows : List (List Bool)) × IsReread held second rows × ReachesFetch held (next rows) file)
ReachesFetch held (decide {A} Good Bad next) file = (a : A) × Good a × ReachesFetch held (next a) file
ReachesFetch held (end last) file = ⊥
