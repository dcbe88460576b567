-- A station that is made is the plan's.
use Rattle.std.proofs.Common.{◌≡◌, ℕ, zero, suc, ◌==◌, false, length, cond, refl, sym, ◌∙◌, ap}
use Rattle.std.specs.Prelude.{slice_index_or}
use Rattle.lid_system.specs.declared.System.{System}
use Rattle.lid_system.specs.declared.Channel.{Channel}
use Rattle.lid_stations.specs.declared.placement.Placement.{Placement}
use Rattle.lid_stations.specs.Placements.{links_of}
use Rattle.lid_stations.specs.Stations.{Spot, spot_at, channel_at, starts, capacity}
use Rattle.lid_emit_system.specs.Nets.{NetWires}
use Rattle.lid_emit_system.specs.Wrapping.{channel_of, put_wire, circuit_plan}
use Rattle.lid_emit_cells.specs.declared.station.Station.{Station}
use Rattle.lid_emit_cells.specs.Matches.{IsStationOf}
use Rattle.lid_emit_layout.specs.declared.sites.Site.{Site}
use Rattle.lid_emit_layout.specs.Sites.{IsSite}
use Rattle.lid_emit_layout.specs.Bits.{put_on, AreBits}

put_is : (s : System) (p : Placement) (n : NetWires) (station i j : ℕ) → put_wire s p n station i j ≡ put_on s n (channel_of s p station) station i j
put_is s p n station zero j = refl
put_is s p n station (suc i) j = refl

module _ (s : System) (p : Placement) (n : NetWires) (site : Site) (c : Channel) (is : IsSite s p site) (on : c ≡ channel_at (links_of s) site.channel) where
  channel_is : channel_of s p site.station ≡ c
  channel_is = ap (λ (spot : Spot). channel_at (links_of s) spot.channel) is.stands.spot ∙ sym on

  first_is : (circuit_plan s p n).first site.station ≡ cond (site.filler == 0) 0 (starts site.place)
  first_is =
      ap (λ (v : ℕ). cond (v == 0) 0 (starts (spot_at p.relays site.station).place)) is.filled
      ∙ ap (λ (spot : Spot). cond (site.filler == 0) 0 (starts spot.place)) is.stands.spot

  pub station_is : (x : Station) → x.filler ≡ site.filler → x.drainer ≡ site.drainer → x.capacity ≡ capacity p site.station → x.first ≡ cond (site.filler == 0) 0 (starts site.place) → AreBits s n c site x.bits → IsStationOf (circuit_plan s p n) site.station x
  station_is x filled drained cap first bits = record {
    there = is.there;
    filler = is.filled ∙ sym filled;
    drainer = is.drained ∙ sym drained;
    capacity = sym cap;
    first = first_is ∙ sym first;
    width = ap (λ (d : Channel). length d.ports) channel_is ∙ bits.width;
    bits = λ j bit at. let b = bits.each j bit at in (
      ap (λ (v : ℕ). slice_index_or (n.begins v) (slice_index_or (channel_of s p site.station).ports j 0) false) is.filled
          ∙ ap (λ (d : Channel). slice_index_or (n.begins site.filler) (slice_index_or d.ports j 0) false) channel_is
          ∙ b.begins,
      put_is s p n site.station (spot_at p.relays site.station).place j
          ∙ ap (λ (d : Channel). put_on s n d site.station (spot_at p.relays site.station).place j) channel_is
          ∙ ap (λ (spot : Spot). put_on s n c site.station spot.place j) is.stands.spot
          ∙ b.put,
    );
  }
