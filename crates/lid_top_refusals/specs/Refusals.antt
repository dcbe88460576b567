-- The line of each refusal.
use Rattle.std.specs.Prelude.{ℕ, List}
use Rattle.lid_top_refusals.specs.declared.refusal.Refusal.{Refusal}
use Rattle.lid_top_refusals.specs.declared.refusal.Refusal.TheVariants.{Blif, Check, Net, Rows, Stations, Cert, Trace, Stalls, Schedule, Vcd, Gen, Emit}
use Rattle.lid_top_refusals.specs.Faults.{blif_line, rows_line, check_line, net_line, stations_line, cert_line, trace_line, stalls_line, schedule_line, vcd_line, gen_line, emit_line}

abbrev pub refusal_line : Refusal → List ℕ
refusal_line (Blif fault) = blif_line fault
refusal_line (Check fault) = check_line fault
refusal_line (Net fault) = net_line fault
refusal_line (Rows fault) = rows_line fault
refusal_line (Stations fault) = stations_line fault
refusal_line (Cert fault) = cert_line fault
refusal_line (Trace fault) = trace_line fault
refusal_line (Stalls fault) = stalls_line fault
refusal_line (Schedule fault) = schedule_line fault
refusal_line (Vcd fault) = vcd_line fault
refusal_line (Gen fault) = gen_line fault
refusal_line (Emit fault) = emit_line fault
