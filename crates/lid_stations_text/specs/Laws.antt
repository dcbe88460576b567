-- What is known of printed placements.
use Rattle.std.specs.Prelude.{◌≡◌, ◌^◌, ◌<◌, Ok}
use Rattle.std.specs.List.{All}
use Rattle.lid_system.specs.declared.System.{System}
use Rattle.lid_system.specs.Systems.{IsWellFormed}
use Rattle.lid_stations.specs.declared.placement.Placement.{Placement}
use Rattle.lid_stations.specs.Placements.{links_of, Fits}
use Rattle.lid_stations_text.specs.Readings.{stations_reading}
use Rattle.lid_stations_text.specs.Written.{stations_text}

-- the text of a placement that fits a system, whose channels have pieces below 2^64, is read as the placement
abbrev pub PrintedStationsAreReadBack : Type 0
PrintedStationsAreReadBack =
    (s : System) (p : Placement)
    → IsWellFormed s
    → All (λ c. c.piece < 2 ^ 64) s.channels
    → Fits s p
    → stations_reading (links_of s) (stations_text (links_of s) p) ≡ Ok p
