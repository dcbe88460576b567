-- A set of names.
use Rattle.std.specs.Prelude.{◌≡◌, ℕ, List, bytes_eq}
use Rattle.std.specs.List.{list_any}
use Rattle.std.specs.Borrow.{Bor}
use Rattle.std.specs.HashSet.{HashSet, contains_by}
use Rattle.std.specs.declared.hash.FoldHasher.{FoldHasher}
use Rattle.std.specs.declared.hash.BuildHasherDefault.{BuildHasherDefault}

-- the set holds just these names
abbrev pub HoldsNames : HashSet (Bor (List ℕ)) (BuildHasherDefault FoldHasher) → List (List ℕ) → Type 0
HoldsNames names held = (name : List ℕ) → contains_by (λ k. bytes_eq name k.now) names ≡ list_any (λ other. bytes_eq other name) held
