-- For the check of certificates with many parts: which part owns each transition.
use Rattle.std.specs.Prelude.{◌≡◌, ℕ, ◌+◌, ◌<◌, ◌≤◌, true, List, [], ◌∷◌, length, map, slice_index_or, slice_set, Option, Some, None, is_some}
use Rattle.std.specs.List.{All}
use Rattle.std.specs.Option.{MatchOption}
use Rattle.lid_graph.specs.declared.graph.Edge.{Edge}
use Rattle.lid_graph.specs.declared.graph.Graph.{Graph}
use Rattle.lid_cert.specs.declared.cert.Part.{Part}
use Rattle.lid_cert.specs.Certificates.{ascends, least_node, IsEdgeMet, IsPartInside, part_at}

-- the number of the part that owns a transition
abbrev pub owner_of : List (Option ℕ) → ℕ → Option ℕ
owner_of owners v = slice_index_or owners v None

-- transitions that no part owned get the same owner, one after the other
abbrev pub Claims : ℕ → List (Option ℕ) → List ℕ → List (Option ℕ) → Type 0
Claims number before [] after = after ≡ before
Claims number before (v ∷ vs) after =
    (v < length before) × (owner_of before v ≡ None) × Claims number (slice_set before v (Some number)) vs after

-- each part, numbered from `number` on, claims its transitions
abbrev pub Owns : ℕ → List (Option ℕ) → List Part → List (Option ℕ) → Type 0
Owns number before [] after = after ≡ before
Owns number before (part ∷ parts) after =
    (between : List (Option ℕ)) × Claims number before part.nodes between × Owns (number + 1) between parts after

-- the part that owns where an edge begins meets the rule for the edge; where none owns it, none owns the
-- end
abbrev pub IsEdgeOwned : List Part → List (Option ℕ) → Edge → Type 0
IsEdgeOwned parts owners e =
    MatchOption (owner_of owners e.from) (owner_of owners e.to ≡ None) (λ number. IsEdgeMet (part_at parts number) e)

-- the rules for all parts, where each transition has its owner
pub record AreOwned (g : Graph) (parts : List Part) (owners : List (Option ℕ)) : Type 0 where
  pub some : 1 ≤ length parts
  pub inside : All (IsPartInside g) parts
  pub ascending : ascends (map least_node parts) ≡ true
  pub owned : All (λ o. is_some o ≡ true) owners
  pub edges : All (IsEdgeOwned parts owners) g.edges
