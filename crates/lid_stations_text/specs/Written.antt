-- Placements as texts of stations: how they are written, line by line.
use Rattle.std.specs.Prelude.{ℕ, suc, ◌==◌, Bool, if◌then◌else◌, List, [], ◌∷◌, take, drop, map, codes}
use Rattle.std.specs.Fmt.{decimal}
use Rattle.std.specs.List.{list_all}
use Rattle.lid_base_lines.specs.Texts.{Words, lines_text}
use Rattle.lid_texts_runs.specs.Pieces.{node_name}
use Rattle.lid_stations.specs.Placements.{Links}
use Rattle.lid_system.specs.declared.Channel.{Channel}
use Rattle.lid_stations.specs.declared.placement.Placement.{Placement}

-- whether each station has capacity 2
abbrev pub are_all_two : List ℕ → Bool
are_all_two caps = list_all (λ c. c == 2) caps

-- the capacities in a line; none where all are 2
abbrev pub caps_words : Bool → List ℕ → Words
caps_words two caps = if two then [] else map decimal caps

-- the line of a channel with so many relay stations and such capacities
abbrev pub channel_words : ℕ → Bool → Channel → ℕ → List ℕ → Words
channel_words count two c relays caps =
    node_name count c.from ∷ node_name count c.to ∷ decimal c.piece ∷ decimal relays ∷ caps_words two caps

-- a line for each channel in order, each with the capacities of its own stations
abbrev pub channel_lines : ℕ → Bool → List Channel → List ℕ → List ℕ → List Words
channel_lines count two [] relays caps = []
channel_lines count two (c ∷ cs) [] caps = []
channel_lines count two (c ∷ cs) (k ∷ ks) caps =
    channel_words count two c k (take (suc k) caps) ∷ channel_lines count two cs ks (drop (suc k) caps)

-- `lid-stations 1` where each capacity is 2, and `lid-stations 2` otherwise
abbrev pub version_words : Bool → Words
version_words two = codes "lid-stations" ∷ (if two then codes "1" else codes "2") ∷ []

-- a placement as a text of stations
unfoldable pub stations_text : Links → Placement → List ℕ
stations_text l p = lines_text (version_words (are_all_two p.caps) ∷ channel_lines l.nodes (are_all_two p.caps) l.channels p.relays p.caps)
