-- What `gen` writes: the generated design, or what the clocked run of its system shows.
use Rattle.std.specs.Prelude.{◌≡◌, ℕ, ◌+◌, Bool, if◌then◌else◌, List, [], ◌∷◌, ◌++◌, length, replicate, codes}
use Rattle.std.specs.List.{sum_by}
use Rattle.std.specs.Fmt.{decimal}
use Rattle.lid_design.specs.Columns.{IsStrictOutput}
use Rattle.lid_design.specs.Loops.{pearls}
use Rattle.lid_graph.specs.Firings.{no_hold, IsFirstAtCap}
use Rattle.lid_graph.specs.Ratios.{IsRatio}
use Rattle.lid_base_lines.specs.Texts.{Words, lines_text}
use Rattle.lid_net.specs.Graphs.{IsGraphOf}
use Rattle.lid_system.specs.declared.Channel.{Channel}
use Rattle.lid_stations.specs.declared.placement.Placement.{Placement}
use Rattle.lid_stations.specs.Placements.{Links, station_count}
use Rattle.lid_stations.specs.Markings.{marking}
use Rattle.lid_shell_laws.specs.Runs.{cap_of, sink_of}
use Rattle.lid_gen.specs.Designs.{generated}
use Rattle.lid_gen.specs.Runs.{generated_rows, generated_relays}

-- what a placement sees of the system of a generated design with these channels
abbrev pub generated_links : ℕ → ℕ → List Channel → Links
generated_links seed shells channels = record { nodes = length (pearls (generated seed shells)) + 2; channels = channels }

-- how many bits of rows are 1
abbrev pub ones_of : List (List Bool) → ℕ
ones_of rows = sum_by (λ row. sum_by (λ bit. if bit then 1 else 0) row) rows

-- what a run of a generated design shows
pub record Summary : Type 0 where
  pub shells : ℕ
  pub channels : ℕ
  pub stations : ℕ
  pub rows : ℕ
  pub ones : ℕ
  pub cycles : ℕ
  pub p : ℕ
  pub q : ℕ

abbrev pub number_words : List ℕ → ℕ → Words
number_words word number = word ∷ decimal number ∷ []

unfoldable pub summary_text : Summary → List ℕ
summary_text x = lines_text (
    number_words (codes "shells") x.shells
    ∷ number_words (codes "channels") x.channels
    ∷ number_words (codes "stations") x.stations
    ∷ number_words (codes "rows") x.rows
    ∷ number_words (codes "ones") x.ones
    ∷ number_words (codes "cycles") x.cycles
    ∷ (codes "ratio" ∷ (decimal x.p ++ 47 ∷ decimal x.q) ∷ [])
    ∷ [])

-- the placement of a generated run: relay stations as they were drawn, each of capacity 2
abbrev pub generated_placement : ℕ → ℕ → ℕ → ℕ → Placement
generated_placement seed shells rows channels = record {
  relays = generated_relays seed shells rows channels;
  caps = replicate (station_count (generated_relays seed shells rows channels)) 2;
}

-- `gen` with a run of so many rows: the counts of the design and of its system, the 1 bits of the strict output rows,
-- the cycles of the clocked run, and the ratio of the sink's component
pub record IsSummary (seed shells rows : ℕ) (x : Summary) : Type 0 where
  pub channels : List Channel
  pub graph : IsGraphOf (generated seed shells) channels
  pub outs : List (List Bool)
  pub are_outs : IsStrictOutput (generated seed shells) (generated_rows seed shells rows).bits outs
  pub shells_are : x.shells ≡ shells
  pub channels_are : x.channels ≡ length channels
  pub stations_are : x.stations ≡ station_count (generated_placement seed shells rows (length channels)).relays
  pub rows_are : x.rows ≡ rows
  pub ones_are : x.ones ≡ ones_of outs
  pub ends :
      IsFirstAtCap (marking (generated_links seed shells channels) (generated_placement seed shells rows (length channels)))
      (cap_of (generated_links seed shells channels) rows) no_hold (sink_of (generated_links seed shells channels)) x.cycles
  pub ratio : IsRatio (marking (generated_links seed shells channels) (generated_placement seed shells rows (length channels))) (sink_of (generated_links seed shells channels)) x.p x.q

pub record IsSummaryText (seed shells rows : ℕ) (text : List ℕ) : Type 0 where
  pub summary : Summary
  pub is : IsSummary seed shells rows summary
  pub written : text ≡ summary_text summary
