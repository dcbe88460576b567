-- What sizing answers.
use Rattle.std.specs.Prelude.{◌≡◌, ℕ, ◌*◌, ◌<◌, List, length, ⊤}
use Rattle.lid_graph.specs.declared.graph.Graph.{Graph}
use Rattle.lid_graph.specs.Walks.{walk_tokens}
use Rattle.lid_cert.specs.declared.cert.Cert.{Cert}
use Rattle.lid_cert.specs.Certificates.{Certifies, least_node, part_at}
use Rattle.lid_system.specs.declared.System.{System}
use Rattle.lid_stations.specs.declared.placement.Placement.{Placement}
use Rattle.lid_stations.specs.Placements.{Links, station_count, Fits}
use Rattle.lid_size_laws.specs.Capacities.{IsForwardRatio, HasForwardRatio}
use Rattle.lid_size.specs.declared.sizing.SizeEnd.{SizeEnd}
use Rattle.lid_size.specs.declared.sizing.SizeEnd.TheVariants.{Reached, Short}
use Rattle.lid_rate_ratio.specs.declared.lowest_terms.Ratio.{Ratio}
use Rattle.lid_size.specs.Comparing.{want_of}
use Rattle.lid_size.specs.Sizing.{sized, greatest, AreCapacities, Reaches, IsFirst}

-- the same relay stations, with the first capacities that reach
pub record IsReachedPlacement (l : Links) (relays : List ℕ) (p : Placement) : Type 0 where
  pub relays_are : p.relays ≡ relays
  pub caps : IsFirst (Reaches l relays) (station_count relays) p.caps

-- the part of a certificate whose component is the first with a ratio below its forward ratio; its closed walk
-- shows that
pub record IsFirstBelow (g : Graph) (n : ℕ) (cert : Cert) (part have_p have_q want_p want_q : ℕ) : Type 0 where
  pub within : part < length cert.parts
  pub earlier : (i : ℕ) → i < part → HasForwardRatio g n (least_node (part_at cert.parts i))
  pub have_p_is : have_p ≡ (part_at cert.parts part).p
  pub have_q_is : have_q ≡ (part_at cert.parts part).q
  pub want : IsForwardRatio g n (least_node (part_at cert.parts part)) want_p want_q
  pub below : have_p * want_q < want_p * have_q
  pub shown : want_q * walk_tokens g (part_at cert.parts part).cycle < want_p * length (part_at cert.parts part).cycle

-- no capacities reach, and a certificate of the marking with 16 everywhere shows it
pub record FallsShort (l : Links) (relays : List ℕ) (part have_p have_q want_p want_q : ℕ) (cert : Cert) : Type 0 where
  pub none : (caps : List ℕ) → AreCapacities (station_count relays) caps → Reaches l relays caps → ⊥
  pub certifies : Certifies (sized l relays (greatest relays)) cert
  pub below : IsFirstBelow (sized l relays (greatest relays)) (station_count relays) cert part have_p have_q want_p want_q

-- what is answered for a system with so many relay stations on each channel
abbrev pub Sizes : Links → List ℕ → SizeEnd → Type 0
Sizes l relays (Reached p) = IsReachedPlacement l relays p
Sizes l relays (Short part have_p have_q want_p want_q cert) = FallsShort l relays part have_p have_q want_p want_q cert

-- the answer with this part of the certificate
abbrev pub short_end : List Ratio → ℕ → Cert → SizeEnd
short_end wants low cert =
    Short low (part_at cert.parts low).p (part_at cert.parts low).q (want_of wants (part_at cert.parts low)).p (want_of wants (part_at cert.parts low)).q cert

-- a placement that is answered fits the system
abbrev pub FitsIfReached : System → SizeEnd → Type 0
FitsIfReached s (Reached p) = Fits s p
FitsIfReached s (Short part have_p have_q want_p want_q cert) = ⊤
