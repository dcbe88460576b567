-- What is told of the slack of channels.
use Rattle.std.specs.Prelude.{◌≡◌, ◌⊎◌, ℕ, ◌+◌, ◌<◌, List, [], ◌∷◌, ◌++◌, length, slice_index_or, Option, Some, None, codes}
use Rattle.std.specs.Fmt.{decimal}
use Rattle.lid_graph.specs.Ratios.{IsRatio}
use Rattle.lid_base_lines.specs.Texts.{Words, lines_text}
use Rattle.lid_slack_longer.specs.Longer.{longer_marking, producer, room}
use Rattle.lid_rate_ratio.specs.declared.lowest_terms.Ratio.{Ratio}
use Rattle.lid_texts_runs.specs.Pieces.{node_name}
use Rattle.lid_slack.specs.Slack.{IsSlack}
use Rattle.lid_stations.specs.declared.placement.Placement.{Placement}
use Rattle.lid_stations.specs.Placements.{Links}
use Rattle.lid_stations.specs.Stations.{channel_at}
use Rattle.lid_size_text.specs.Sizes.{ratio_word}

-- channel c: the nodes that it joins, and its piece, with blanks between
abbrev pub channel_name : Links → ℕ → List ℕ
channel_name l c =
    node_name l.nodes (channel_at l c).from ++ 32 ∷ node_name l.nodes (channel_at l c).to ++ 32 ∷ decimal (channel_at l c).piece

-- the line of channel c with so much slack, and what comes next
abbrev pub slack_words : Links → ℕ → ℕ → List ℕ → Words
slack_words l c added next = codes "slack" ∷ channel_name l c ∷ decimal added ∷ codes "next" ∷ next ∷ []

-- what comes next: a line where there is no room for more, else the ratio of the channel's component with one more
abbrev pub IsNextWord : Links → Placement → ℕ → ℕ → List ℕ → Type 0
IsNextWord l p c added word =
    ((added ≡ room p c) × (word ≡ codes "-"))
    ⊎ ((a : ℕ) × (b : ℕ) × (added < room p c) × IsRatio (longer_marking l p c (added + 1)) (producer l c) a b × (word ≡ ratio_word a b))

-- the word of the ratio with one more, where there is room for it
abbrev pub next_ratio_word : Option Ratio → List ℕ
next_ratio_word None = codes "-"
next_ratio_word (Some ratio) = ratio_word ratio.p ratio.q

-- how the slack of channel c is told
pub record IsSlackLine (l : Links) (p : Placement) (c : ℕ) (words : Words) : Type 0 where
  pub added : ℕ
  pub slack : IsSlack l p c added
  pub next : List ℕ
  pub is_next : IsNextWord l p c added next
  pub are : words ≡ slack_words l c added next

-- the first lines, one for each channel in order
pub record AreSlackLines (l : Links) (p : Placement) (count : ℕ) (text : List ℕ) : Type 0 where
  pub lines : List Words
  pub many : length lines ≡ count
  pub each : (c : ℕ) → c < count → IsSlackLine l p c (slice_index_or lines c [])
  pub written : text ≡ lines_text lines

-- a line for each channel
abbrev pub IsSlackText : Links → Placement → List ℕ → Type 0
IsSlackText l p text = AreSlackLines l p (length l.channels) text
