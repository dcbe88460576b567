-- The line on `err` for each cause of a status that is not 0.
use Rattle.std.specs.Prelude.{ℕ, Bool, true, false, List, [], ◌∷◌, codes}
use Rattle.std.specs.Fmt.{decimal}
use Rattle.lid_base.specs.declared.which.Which.{Which}
use Rattle.lid_base.specs.declared.which.Which.TheVariants.{FileBytes, Models, CoverRows, RootInsts, Depth, Cells, Nets, Rows, OutBits, Words, TraceCells}
use Rattle.lid_base.specs.declared.line.TextFault.{TextFault}
use Rattle.lid_base.specs.declared.line.TextFault.TheVariants as text
use Rattle.lid_blif.specs.declared.fault.BlifFault.{BlifFault}
use Rattle.lid_blif.specs.declared.fault.BlifFault.TheVariants as blif
use Rattle.lid_texts.specs.declared.rows.VecFault.{VecFault}
use Rattle.lid_texts.specs.declared.rows.VecFault.TheVariants as rows
use Rattle.lid_check_rules.specs.declared.fault.CheckFault.{CheckFault}
use Rattle.lid_check_rules.specs.declared.fault.CheckFault.TheVariants as check
use Rattle.lid_net_channels.specs.declared.fault.NetFault.{NetFault}
use Rattle.lid_net_channels.specs.declared.fault.NetFault.TheVariants as net
use Rattle.lid_stations_text.specs.declared.fault.PlaceFault.{PlaceFault}
use Rattle.lid_stations_text.specs.declared.fault.PlaceFault.TheVariants as place
use Rattle.lid_cert_text.specs.declared.fault.CertFault.{CertFault}
use Rattle.lid_cert_text.specs.declared.fault.CertFault.TheVariants as cert
use Rattle.lid_texts_runs.specs.declared.trace.TraceFault.{TraceFault}
use Rattle.lid_texts_runs.specs.declared.trace.TraceFault.TheVariants as trace
use Rattle.lid_texts_runs.specs.declared.schedule.SchedFault.{SchedFault}
use Rattle.lid_texts_runs.specs.declared.schedule.SchedFault.TheVariants as schedule
use Rattle.lid_stall_text.specs.declared.stalls.StallFault.{StallFault}
use Rattle.lid_stall_text.specs.declared.stalls.StallFault.TheVariants as stalls
use Rattle.lid_vcd.specs.declared.reader.VcdFault.{VcdFault}
use Rattle.lid_vcd.specs.declared.reader.VcdFault.TheVariants as vcd
use Rattle.lid_emit_meaning.specs.declared.fault.EmitFault.{EmitFault}
use Rattle.lid_emit_meaning.specs.declared.fault.EmitFault.TheVariants as emit
use Rattle.lid_gen.specs.declared.fault.GenFault.{GenFault}
use Rattle.lid_gen.specs.declared.fault.GenFault.TheVariants as gen
use Rattle.lid_base_io.specs.Telling.{fault_line, path_text}

abbrev pub which_word : Which → List ℕ
which_word FileBytes = codes "FileBytes"
which_word Models = codes "Models"
which_word CoverRows = codes "CoverRows"
which_word RootInsts = codes "RootInsts"
which_word Depth = codes "Depth"
which_word Cells = codes "Cells"
which_word Nets = codes "Nets"
which_word Rows = codes "Rows"
which_word OutBits = codes "OutBits"
which_word Words = codes "Words"
which_word TraceCells = codes "TraceCells"

-- the words for a refusal at a line
abbrev pub at_line : List ℕ → ℕ → List (List ℕ)
at_line name line = name ∷ decimal line ∷ []

-- the words for a limit that is exceeded
abbrev pub over_limit : Which → ℕ → List (List ℕ)
over_limit which count = codes "Limit" ∷ which_word which ∷ decimal count ∷ []

-- want of memory is no refusal: it has a line of its own
abbrev pub text_words : TextFault → List (List ℕ)
text_words (text.BadByte line) = at_line (codes "BadByte") line
text_words (text.NameTooLong line) = at_line (codes "NameTooLong") line
text_words text.Memory = []

-- the variant and its fields; a fault of the text is told by its inner name
abbrev pub blif_words : BlifFault → List (List ℕ)
blif_words (blif.Text fault) = text_words fault
blif_words (blif.NoModel line) = at_line (codes "NoModel") line
blif_words (blif.Unsupported line) = at_line (codes "Unsupported") line
blif_words (blif.Arity line) = at_line (codes "Arity") line
blif_words (blif.RowOutside line) = at_line (codes "RowOutside") line
blif_words (blif.RowShape line) = at_line (codes "RowShape") line
blif_words (blif.MixedRows line) = at_line (codes "MixedRows") line
blif_words (blif.LatchType line) = at_line (codes "LatchType") line
blif_words (blif.LatchInit line) = at_line (codes "LatchInit") line
blif_words (blif.BindShape line) = at_line (codes "BindShape") line
blif_words (blif.DuplicateModel line) = at_line (codes "DuplicateModel") line
blif_words (blif.TooManyInputs line) = at_line (codes "TooManyInputs") line
blif_words (blif.Limit which count) = over_limit which count
blif_words blif.Memory = []

abbrev pub rows_words : VecFault → List (List ℕ)
rows_words rows.Header = codes "Header" ∷ []
rows_words (rows.Width line) = at_line (codes "Width") line
rows_words (rows.Char line) = at_line (codes "Char") line
rows_words (rows.Limit which count) = over_limit which count
rows_words (rows.Changed count found) = codes "Changed" ∷ decimal count ∷ decimal found ∷ []
rows_words rows.Memory = []

-- the words for a refusal at an instance
abbrev pub at_inst : List ℕ → List ℕ → ℕ → List ℕ → List (List ℕ)
at_inst name model inst other = name ∷ model ∷ decimal inst ∷ other ∷ []

-- the words for a refusal with two names
abbrev pub with_names : List ℕ → List ℕ → List ℕ → List (List ℕ)
with_names name first second = name ∷ first ∷ second ∷ []

-- whether a refusal of acceptance is one at an instance
abbrev pub is_at_inst : CheckFault → Bool
is_at_inst (check.UnknownModel model inst name) = true
is_at_inst (check.UnknownFormal model inst formal) = true
is_at_inst (check.FormalTwice model inst formal) = true
is_at_inst (check.Unbound model inst formal) = true
is_at_inst _ = false

abbrev pub check_words : CheckFault → List (List ℕ)
check_words check.NoRoot = codes "NoRoot" ∷ []
check_words (check.DuplicateName model name) = with_names (codes "DuplicateName") model name
check_words (check.UnknownModel model inst name) = at_inst (codes "UnknownModel") model inst name
check_words (check.Recursive model) = codes "Recursive" ∷ model ∷ []
check_words (check.UnknownFormal model inst formal) = at_inst (codes "UnknownFormal") model inst formal
check_words (check.FormalTwice model inst formal) = at_inst (codes "FormalTwice") model inst formal
check_words (check.Unbound model inst formal) = at_inst (codes "Unbound") model inst formal
check_words (check.TwoDrivers model name) = with_names (codes "TwoDrivers") model name
check_words (check.Undriven model name) = with_names (codes "Undriven") model name
check_words (check.ClockUse model name) = with_names (codes "ClockUse") model name
check_words (check.TwoClocks first second) = with_names (codes "TwoClocks") first second
check_words (check.MixedEdges model name) = with_names (codes "MixedEdges") model name
check_words (check.RootLogic name) = codes "RootLogic" ∷ name ∷ []
check_words (check.Limit which count) = over_limit which count
check_words (check.CombLoop path name) = codes "CombLoop" ∷ path_text path ∷ name ∷ []
check_words (check.OutputFromInput model output input) = codes "OutputFromInput" ∷ model ∷ output ∷ input ∷ []
check_words check.Memory = []

abbrev pub net_words : NetFault → List (List ℕ)
net_words (net.TooManyChannels count) = codes "TooManyChannels" ∷ decimal count ∷ []
net_words net.Memory = []

abbrev pub place_words : PlaceFault → List (List ℕ)
place_words (place.Word line) = at_line (codes "Word") line
place_words (place.NoChannel line) = at_line (codes "NoChannel") line
place_words (place.Twice line) = at_line (codes "Twice") line
place_words (place.TooMany line) = at_line (codes "TooMany") line
place_words (place.TotalLimit count) = codes "TotalLimit" ∷ decimal count ∷ []
place_words (place.ZeroLength line) = at_line (codes "ZeroLength") line
place_words (place.Limit which count) = over_limit which count
place_words (place.Capacity line) = at_line (codes "Capacity") line
place_words place.Memory = []

abbrev pub cert_words : CertFault → List (List ℕ)
cert_words (cert.Word line) = at_line (codes "Word") line
cert_words (cert.Limit which count) = over_limit which count
cert_words cert.Memory = []

abbrev pub schedule_words : SchedFault → List (List ℕ)
schedule_words (schedule.Word line) = at_line (codes "Word") line
schedule_words (schedule.NoActor line) = at_line (codes "NoActor") line
schedule_words (schedule.Limit which count) = over_limit which count
schedule_words schedule.Memory = []

abbrev pub stalls_words : StallFault → List (List ℕ)
stalls_words (stalls.Limit which count) = over_limit which count
stalls_words (stalls.Word line) = at_line (codes "Word") line
stalls_words (stalls.Order line) = at_line (codes "Order") line
stalls_words stalls.Memory = []

abbrev pub vcd_words : VcdFault → List (List ℕ)
vcd_words (vcd.Word line) = at_line (codes "Word") line
vcd_words (vcd.Limit which count) = over_limit which count
vcd_words vcd.Memory = []

abbrev pub gen_words : GenFault → List (List ℕ)
gen_words (gen.Size shells) = codes "Size" ∷ decimal shells ∷ []
gen_words gen.Memory = []

abbrev pub emit_words : EmitFault → List (List ℕ)
emit_words (emit.NameTaken name) = codes "NameTaken" ∷ name ∷ []
emit_words (emit.TooBig count) = codes "TooBig" ∷ decimal count ∷ []
emit_words emit.Memory = []

abbrev pub trace_words : TraceFault → List (List ℕ)
trace_words (trace.Limit which count) = over_limit which count

-- status 1: the stage, the variant and its fields
abbrev pub blif_line : BlifFault → List ℕ
blif_line fault = fault_line (codes "blif" ∷ blif_words fault)

abbrev pub rows_line : VecFault → List ℕ
rows_line fault = fault_line (codes "rows" ∷ rows_words fault)

abbrev pub check_line : CheckFault → List ℕ
check_line fault = fault_line (codes "check" ∷ check_words fault)

abbrev pub net_line : NetFault → List ℕ
net_line fault = fault_line (codes "net" ∷ net_words fault)

-- a text of stations or of wires
abbrev pub stations_line : PlaceFault → List ℕ
stations_line fault = fault_line (codes "stations" ∷ place_words fault)

abbrev pub cert_line : CertFault → List ℕ
cert_line fault = fault_line (codes "cert" ∷ cert_words fault)

abbrev pub trace_line : TraceFault → List ℕ
trace_line fault = fault_line (codes "trace" ∷ trace_words fault)

abbrev pub schedule_line : SchedFault → List ℕ
schedule_line fault = fault_line (codes "schedule" ∷ schedule_words fault)

abbrev pub stalls_line : StallFault → List ℕ
stalls_line fault = fault_line (codes "stalls" ∷ stalls_words fault)

abbrev pub vcd_line : VcdFault → List ℕ
vcd_line fault = fault_line (codes "vcd" ∷ vcd_words fault)

abbrev pub gen_line : GenFault → List ℕ
gen_line fault = fault_line (codes "gen" ∷ gen_words fault)

abbrev pub emit_line : EmitFault → List ℕ
emit_line fault = fault_line (codes "emit" ∷ emit_words fault)

-- status 2
abbrev pub usage_line : List ℕ
usage_line = fault_line (codes "usage" ∷ [])

-- status 3, with the name of the file
abbrev pub read_line : List ℕ → List ℕ
read_line file = fault_line (codes "read" ∷ file ∷ [])

-- status 4
abbrev pub write_line : List ℕ
write_line = fault_line (codes "write" ∷ [])

-- status 5
abbrev pub memory_line : List ℕ
memory_line = fault_line (codes "memory" ∷ [])

-- status 6
abbrev pub denied_line : List ℕ
denied_line = fault_line (codes "not" ∷ codes "a" ∷ codes "certificate" ∷ [])
