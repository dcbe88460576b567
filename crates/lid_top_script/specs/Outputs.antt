-- The text that a command writes, as a relation of the values that it reads.
use Rattle.std.specs.Prelude.{◌≡◌, ℕ, ◌-◌, Bool, List, [], length, map, slice_get, Option}
use Rattle.std.specs.Option.{option_map_or}
use Rattle.lid_design.specs.declared.Design.{Design}
use Rattle.lid_design.specs.Columns.{root_inputs, root_outputs, IsStrictOutput}
use Rattle.lid_design.specs.Loops.{pearls}
use Rattle.lid_design.specs.Elaboration.{count_latches, count_defaulted}
use Rattle.lid_system.specs.declared.Channel.{Channel}
use Rattle.lid_texts.specs.RowsText.{rows_text}
use Rattle.lid_texts_runs.specs.declared.report.Report.{Report}
use Rattle.lid_cert.specs.declared.cert.Cert.{Cert}
use Rattle.lid_rate_text.specs.Throughput.{IsRateText, verdict_text}
use Rattle.lid_stations.specs.declared.placement.Placement.{Placement}
use Rattle.lid_stations.specs.Placements.{Links}
use Rattle.lid_stations.specs.Markings.{marking}
use Rattle.lid_stations_text.specs.Written.{stations_text}
use Rattle.lid_texts_runs.specs.declared.report.ChannelLine.{ChannelLine}
use Rattle.lid_texts_runs.specs.Runs.{report_text, trace_text}
use Rattle.lid_texts_runs.specs.declared.trace.Trace.{Trace}
use Rattle.lid_blifout.specs.Canonical.{canonical_text}
use Rattle.lid_gen.specs.Designs.{generated}
use Rattle.lid_stall_text.specs.declared.stalls.Stall.{Stall}
use Rattle.lid_size_text.specs.Sizes.{IsSizeText}
use Rattle.lid_size_text.specs.Slacks.{IsSlackText}
use Rattle.lid_top_script.specs.Clocked.{IsClockText}
use Rattle.lid_top_script.specs.Walked.{IsWalkText}
use Rattle.lid_top_script.specs.Waved.{IsWaveText}
use Rattle.lid_top_script.specs.Freed.{IsFreeText}
use Rattle.lid_top_script.specs.Emitting.{IsEmitText}
use Rattle.lid_top_script.specs.Generated.{IsSummaryText}

-- what a command tells
pub data Output : Type 0 where
  report : Design → List Channel → Output  -- the counts of a design, and the channels of its system
  strict_output : Design → List (List Bool) → Output  -- the strict outputs of a design for rows
  placed : Links → Placement → Output  -- the relay stations of a placement
  throughput : Links → Placement → Output  -- the throughput of a placement
  sized : Links → Placement → Output  -- the first capacities with which the relay stations of a placement cost no throughput that they need not
  slacks : Links → Placement → Output  -- the slack of each channel
  verdict : Links → Cert → Output  -- what a certificate shows
  clocked : Design → Links → Placement → List (List Bool) → Option (List Stall) → Option ℕ → Output  -- the clocked run for rows, under stalls where they are given, with its trace where one is asked for
  walked : Design → Links → Placement → List (List Bool) → List ℕ → Output  -- the walk along a schedule for rows
  freed : Design → Links → Placement → List (List Bool) → ℕ → ℕ → Bool → Output  -- the free run for rows, by so many workers of so many rounds, with its tallies where they are asked for
  waved : Design → Links → Placement → List (List Bool) → ℕ → Output  -- the trace of the clocked run for rows, of so many cycles, as a dump
  unwaved : Trace → Output  -- the trace that a dump shows
  emitted : Design → Links → Placement → Output  -- the wrapped design as a netlist
  design_of_seed : ℕ → ℕ → Output  -- the design of a seed with so many shells
  run_of_seed : ℕ → ℕ → ℕ → Output  -- what its clocked run of so many rows shows

-- `strict` writes the strict output rows. There is a strict table, and every one gives these bits
pub record IsStrictText (d : Design) (rows : List (List Bool)) (text : List ℕ) : Type 0 where
  pub outs : List (List Bool)
  pub strict : IsStrictOutput d rows outs
  pub written : text ≡ rows_text (root_outputs d) outs

-- what is told of a channel: the nodes that it joins, its piece, and how many ports it carries
abbrev pub channel_line : Channel → ChannelLine
channel_line c = record { from = c.from; to = c.to; piece = c.piece; ports = length c.ports }

-- the name of the root
abbrev pub root_name : Design → List ℕ
root_name d = option_map_or (λ m. m.name) (slice_get d.models d.root) []

-- what is told of a design with these channels
abbrev pub report_of : Design → List Channel → Report
report_of d channels = record {
  root = root_name d;
  shells = length (pearls d);
  inputs = length (root_inputs d);
  outputs = length (root_outputs d);
  latches = count_latches d;
  defaulted = count_defaulted d;
  channels = map channel_line channels;
}

-- the texts of an output
abbrev pub IsTextOf : Output → List ℕ → Type 0
IsTextOf (report d channels) text = text ≡ report_text (report_of d channels)
IsTextOf (strict_output d rows) text = IsStrictText d rows text
IsTextOf (placed l p) text = text ≡ stations_text l p
IsTextOf (throughput l p) text = IsRateText (marking l p) text
IsTextOf (sized l p) text = IsSizeText l p text
IsTextOf (slacks l p) text = IsSlackText l p text
IsTextOf (verdict l cert) text = text ≡ verdict_text cert (l.nodes - 1)
IsTextOf (clocked d l p rows stalls trace) text = IsClockText d l p rows stalls trace text
IsTextOf (walked d l p rows schedule) text = IsWalkText d l p rows schedule text
IsTextOf (freed d l p rows workers rounds tally) text = IsFreeText d l p rows workers rounds tally text
IsTextOf (waved d l p rows most) text = IsWaveText d l p rows most text
IsTextOf (unwaved trace) text = text ≡ trace_text trace
IsTextOf (emitted d l p) text = IsEmitText d l p text
IsTextOf (design_of_seed seed shells) text = text ≡ canonical_text (generated seed shells)
IsTextOf (run_of_seed seed shells rows) text = IsSummaryText seed shells rows text
