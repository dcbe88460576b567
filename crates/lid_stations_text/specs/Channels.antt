-- For the search: channels by their ends, which are in order.
use Rattle.std.specs.Prelude.{◌≡◌, ℕ, ◌<◌, ◌==◌, nat_lt, Bool, ◌&&◌, ◌||◌, List, Some, slice_get}
use Rattle.lid_system.specs.declared.Channel.{Channel}
use Rattle.lid_system.specs.Systems.{Precedes}
use Rattle.lid_stations_text.specs.declared.channels.Ends.{Ends}

-- whether a channel stands before those with these ends
abbrev pub comes_before : Ends → Channel → Bool
comes_before e c = nat_lt c.from e.from || ((c.from == e.from) && (nat_lt c.to e.to || ((c.to == e.to) && nat_lt c.piece e.piece)))

-- whether a channel has these ends
abbrev pub is_between : Ends → Channel → Bool
is_between e c = (e.from == c.from) && ((e.to == c.to) && (e.piece == c.piece))

-- each stands before all later ones
abbrev pub AreInOrder : List Channel → Type 0
AreInOrder channels = (i j : ℕ) (c d : Channel) → i < j → slice_get channels i ≡ Some c → slice_get channels j ≡ Some d → Precedes c d
