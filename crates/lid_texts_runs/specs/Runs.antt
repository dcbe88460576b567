-- What runs are told by: cycles and firings, traces, answers, tallies, and reports on a system.
use Rattle.std.specs.Prelude.{ℕ, zero, suc, ◌+◌, ◌==◌, Bool, true, false, if◌then◌else◌, List, [], ◌∷◌, ◌++◌, length, map, take, drop, codes}
use Rattle.std.specs.Fmt.{decimal}
use Rattle.std.specs.List.{flat_map, enumerate_from}
use Rattle.lid_base.specs.declared.runs.Shown.{Shown}
use Rattle.lid_base.specs.declared.runs.Answer.{Answer}
use Rattle.lid_base.specs.declared.runs.Answer.TheVariants.{Token, Void, Room, Stop, Took, Put, Fired, Done}
use Rattle.lid_base.specs.declared.runs.Tally.{Tally}
use Rattle.lid_base_lines.specs.Texts.{Words, line_text}
use Rattle.lid_texts_runs.specs.Pieces.{node_name, hex_word}
use Rattle.lid_texts_runs.specs.declared.report.Report.{Report}
use Rattle.lid_texts_runs.specs.declared.report.ChannelLine.{ChannelLine}
use Rattle.lid_texts_runs.specs.declared.trace.Trace.{Trace}

-- how often a node fired
abbrev pub fired_words : ℕ → ℕ × ℕ → Words
fired_words count p = codes "fired" ∷ node_name count p.0 ∷ decimal p.1 ∷ []

-- the lines of some firing counts, from those of node i on
abbrev pub fired_text : ℕ → ℕ → List ℕ → List ℕ
fired_text count i fired = flat_map (λ p. line_text (fired_words count p)) (enumerate_from i fired)

-- how many cycles a run made, and how often each node fired
unfoldable pub cycles_text : ℕ → List ℕ → List ℕ
cycles_text cycles fired = line_text (codes "cycles" ∷ decimal cycles ∷ []) ++ fired_text (length fired) 0 fired

-- whether this step ended a firing
abbrev pub fired_word : Bool → Words
fired_word true = codes "fired" ∷ []
fired_word false = []

abbrev pub answer_words : Answer → Words
answer_words (Token station token) = codes "token" ∷ decimal station ∷ decimal token ∷ []
answer_words (Void station word) = codes "void" ∷ decimal station ∷ hex_word word ∷ []
answer_words (Room station) = codes "room" ∷ decimal station ∷ []
answer_words (Stop station word) = codes "stop" ∷ decimal station ∷ hex_word word ∷ []
answer_words (Took station token fired) = codes "take" ∷ decimal station ∷ decimal token ∷ fired_word fired
answer_words (Put station token fired) = codes "put" ∷ decimal station ∷ decimal token ∷ fired_word fired
answer_words Fired = codes "fired" ∷ []
answer_words Done = codes "done" ∷ []

-- what an actor answered to a step
unfoldable pub answer_text : ℕ → Answer → List ℕ
answer_text actor answer = line_text (decimal actor ∷ answer_words answer)

abbrev pub tally_words : ℕ × Tally → Words
tally_words p =
    codes "worker" ∷ decimal p.0 ∷ codes "turns" ∷ decimal p.1.turns ∷ codes "fired" ∷ decimal p.1.fired ∷ codes "voids" ∷ decimal p.1.voids
    ∷ codes "stops" ∷ decimal p.1.stops ∷ codes "dones" ∷ decimal p.1.dones ∷ []

-- the lines of some tallies, from that of worker i on
abbrev pub workers_text : ℕ → List Tally → List ℕ
workers_text i tallies = flat_map (λ p. line_text (tally_words p)) (enumerate_from i tallies)

-- the tallies of the workers, and the sweeps that ended the run with their firings
unfoldable pub tallies_text : List Tally → ℕ → ℕ → List ℕ
tallies_text tallies finish finish_fired =
    workers_text 0 tallies ++ line_text (codes "finish" ∷ decimal finish ∷ codes "fired" ∷ decimal finish_fired ∷ [])

-- a channel of a system with so many nodes
abbrev pub channel_words : ℕ → ChannelLine → Words
channel_words count c = codes "channel" ∷ node_name count c.from ∷ node_name count c.to ∷ decimal c.piece ∷ codes "ports" ∷ decimal c.ports ∷ []

abbrev pub channels_text : ℕ → List ChannelLine → List ℕ
channels_text count channels = flat_map (λ c. line_text (channel_words count c)) channels

abbrev pub count_line : List ℕ → ℕ → List ℕ
count_line name n = line_text (name ∷ decimal n ∷ [])

-- the counts of a report
abbrev pub counts_text : Report → List ℕ
counts_text r =
    count_line (codes "shells") r.shells ++ count_line (codes "inputs") r.inputs ++ count_line (codes "outputs") r.outputs
    ++ count_line (codes "latches") r.latches ++ count_line (codes "defaulted") r.defaulted ++ count_line (codes "channels") (length r.channels)

-- a source and a sink stand beside the shells
unfoldable pub report_text : Report → List ℕ
report_text r = line_text (codes "root" ∷ r.root ∷ []) ++ counts_text r ++ channels_text (r.shells + 2) r.channels

-- what a station showed in a cycle: a point where it was not valid, else its token, and `!` behind
-- that where it was full
abbrev pub cell_word : Shown → List ℕ
cell_word cell = if cell.valid then decimal cell.token ++ (if cell.stop then codes "!" else []) else codes "."

-- what the stations showed in a cycle, in order
abbrev pub cycle_words : ℕ → List Shown → Words
cycle_words stations cells = if stations == 0 then codes "-" ∷ [] else map cell_word cells

-- the cycles from the k-th on, where so many are left
abbrev pub cycles_from : ℕ → ℕ → List Shown → List ℕ
cycles_from stations zero cells = []
cycles_from stations (suc n) cells = line_text (cycle_words stations (take stations cells)) ++ cycles_from stations n (drop stations cells)

-- how many stations and cycles there are, and a line for each cycle
unfoldable pub trace_text : Trace → List ℕ
trace_text t = line_text (codes "trace" ∷ decimal t.stations ∷ decimal t.cycles ∷ []) ++ cycles_from t.stations t.cycles t.cells
