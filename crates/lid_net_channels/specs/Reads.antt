-- Reads in order.
use Rattle.std.specs.Prelude.{◌≡◌, ◌<◌, ◌⊎◌, ℕ, List, [], ◌∷◌, ⊤}
use Rattle.std.specs.List.{AllByRecursion}
use Rattle.lid_net_channels.specs.declared.reads.Read.{Read}

-- by the node that is read, then by the one that reads, then by the port
abbrev pub IsReadBefore : Read → Read → Type 0
IsReadBefore a b =
    (a.from < b.from)
    ⊎ ((a.from ≡ b.from) × ((a.to < b.to) ⊎ ((a.to ≡ b.to) × (a.port < b.port))))

-- each stands before all later ones, so each stands once
abbrev pub AreAscending : List Read → Type 0
AreAscending [] = ⊤
AreAscending (r ∷ rs) = AllByRecursion (IsReadBefore r) rs × AreAscending rs
