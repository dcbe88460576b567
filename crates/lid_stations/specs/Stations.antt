-- Where stations stand, which actors fill and drain them, and with how many tokens they start. Stations are
-- numbered by channel, then by place. Actors are the nodes, and then the movers in the order of the
-- stations that they drain.
use Rattle.std.specs.Prelude.{◌≡◌, ℕ, zero, suc, ◌+◌, ◌<◌, ◌≤◌, ◌==◌, if◌then◌else◌, List, [], ◌∷◌, ◌++◌, length, take, slice_index_or}
use Rattle.std.specs.List.{sum_by}
use Rattle.lid_base.specs.Each.{from_each}
use Rattle.lid_system.specs.declared.System.{System}
use Rattle.lid_system.specs.declared.Channel.{Channel}
use Rattle.lid_system.specs.Systems.{IsWellFormed}
use Rattle.lid_stations.specs.declared.placement.Placement.{Placement}
use Rattle.lid_stations.specs.Placements.{Links, links_of, Fits}

-- where a station stands: its channel, and its place among the stations there, of which the first stands at
-- the producer
pub record Spot : Type 0 where
  pub channel : ℕ
  pub place : ℕ

-- the spots of a channel with so many relay stations
abbrev pub spots_on : ℕ → ℕ → List Spot
spots_on c relays = from_each (λ i. record { channel = c; place = i }) 0 (suc relays)

-- the spots of channels from c on, with so many relay stations each
abbrev pub spots_from : ℕ → List ℕ → List Spot
spots_from c [] = []
spots_from c (k ∷ ks) = spots_on c k ++ spots_from (suc c) ks

-- the spot of a station
abbrev pub spot_at : List ℕ → ℕ → Spot
spot_at relays station = slice_index_or (spots_from 0 relays) station (record { channel = 0; place = 0 })

-- all relay stations
abbrev pub relay_count : List ℕ → ℕ
relay_count relays = sum_by (λ k. k) relays

-- how many actors there are
abbrev pub actor_count : Links → Placement → ℕ
actor_count l p = l.nodes + relay_count p.relays

-- the mover that drains the station at a place of channel c, where that is not the last one there
abbrev pub mover : Links → Placement → ℕ → ℕ → ℕ
mover l p c place = l.nodes + (relay_count (take c p.relays) + place)

-- what stands past the last channel
abbrev pub no_channel : Channel
no_channel = record { from = 0; to = 0; piece = 0; ports = [] }

abbrev pub channel_at : Links → ℕ → Channel
channel_at l c = slice_index_or l.channels c no_channel

-- the actor that fills the station at a place of channel c: the producer fills the first, and a mover each
-- other
abbrev pub fills : Links → Placement → ℕ → ℕ → ℕ
fills l p c zero = (channel_at l c).from
fills l p c (suc place) = mover l p c place

-- the actor that drains the station at a place of channel c: the consumer drains the last, and a mover each
-- other
abbrev pub drains : Links → Placement → ℕ → ℕ → ℕ
drains l p c place = if place == slice_index_or p.relays c 0 then (channel_at l c).to else mover l p c place

-- channel c has a station at this place, and `start` is the first mover there
pub record IsPlace (s : System) (p : Placement) (c place start : ℕ) : Type 0 where
  pub system : IsWellFormed s
  pub fits : Fits s p
  pub there : c < length p.relays
  pub within : place ≤ slice_index_or p.relays c 0
  pub first : start ≡ mover (links_of s) p c 0

-- the first station of a channel starts with the token of its first row
abbrev pub starts : ℕ → ℕ
starts zero = 1
starts (suc place) = 0

-- the actor that fills a station, by its number
abbrev pub filler : Links → Placement → ℕ → ℕ
filler l p station = fills l p (spot_at p.relays station).channel (spot_at p.relays station).place

-- the actor that drains a station
abbrev pub drainer : Links → Placement → ℕ → ℕ
drainer l p station = drains l p (spot_at p.relays station).channel (spot_at p.relays station).place

-- the tokens that a station starts with
abbrev pub start_count : Placement → ℕ → ℕ
start_count p station = starts (spot_at p.relays station).place

-- the capacity of a station
abbrev pub capacity : Placement → ℕ → ℕ
capacity p station = slice_index_or p.caps station 2
