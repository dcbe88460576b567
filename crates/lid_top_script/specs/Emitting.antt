-- What `emit` writes.
use Rattle.std.specs.Prelude.{◌≡◌, ℕ, List}
use Rattle.lid_design.specs.declared.Design.{Design}
use Rattle.lid_blifout.specs.Canonical.{canonical_text}
use Rattle.lid_stations.specs.declared.placement.Placement.{Placement}
use Rattle.lid_stations.specs.Placements.{Links}
use Rattle.lid_emit_meaning.specs.Emitted.{IsEmitted}

-- `emit` writes the canonical text of a design that wraps the design with such a placement
pub record IsEmitText (d : Design) (l : Links) (p : Placement) (text : List ℕ) : Type 0 where
  pub design : Design
  pub wraps : IsEmitted d l p design
  pub written : text ≡ canonical_text design
