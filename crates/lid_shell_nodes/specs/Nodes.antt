-- The channels of a node, and the tokens that it takes from them and puts into them.
use Rattle.std.specs.Prelude.{ℕ, ◌==◌, List, map, filter}
use Rattle.lid_design.specs.Network.{Table}
use Rattle.lid_system.specs.declared.System.{System}
use Rattle.lid_system.specs.declared.Channel.{Channel}
use Rattle.lid_system.specs.Systems.{Point}
use Rattle.lid_system.specs.Streams.{token_at}

-- the channels that lead to node v, in order
abbrev pub channels_to : List Channel → ℕ → List Channel
channels_to channels v = filter (λ c. c.to == v) channels

-- the channels that come from node v, in order
abbrev pub channels_from : List Channel → ℕ → List Channel
channels_from channels v = filter (λ c. c.from == v) channels

-- the tokens of row t on the channels that lead to node v
abbrev pub tokens_to : System → Table Point → ℕ → ℕ → List ℕ
tokens_to s b v t = map (λ c. token_at s b c t) (channels_to s.channels v)

-- the tokens of row t on the channels that come from node v
abbrev pub tokens_from : System → Table Point → ℕ → ℕ → List ℕ
tokens_from s b v t = map (λ c. token_at s b c t) (channels_from s.channels v)
