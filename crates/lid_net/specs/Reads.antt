-- What nodes read, by numbers.
use Rattle.std.specs.Prelude.{◌≡◌, ◌+◌, ℕ, List, [], ◌∷◌, ◌++◌, flat_map, Option, Some, None}
use Rattle.lid_net_channels.specs.declared.reads.Read.{Read}
use Rattle.lid_net.specs.declared.origin.Origin.{Origin}
use Rattle.lid_net.specs.declared.origin.Origin.TheVariants.{Const, Port}
use Rattle.lid_net.specs.Steps.{origin_at}

abbrev pub read_of : ℕ → ℕ → ℕ → Read
read_of from to port = record { from = from; to = to; port = port }

abbrev pub origin_read : ℕ → Option Origin → List Read
origin_read to None = []
origin_read to (Some (Const bit)) = []
origin_read to (Some (Port node place)) = read_of node to place ∷ []

-- what a node reads by an input
abbrev pub read_at : List (Option Origin) → ℕ → ℕ → List Read
read_at origins to k = origin_read to (origin_at origins k)

-- what nodes read by their inputs, the first of which has this number
abbrev pub all_reads : List (Option Origin) → ℕ → List (List ℕ) → List Read
all_reads origins to [] = []
all_reads origins to (ins ∷ more) = flat_map (read_at origins to) ins ++ all_reads origins (to + 1) more
