-- The tokens at the places of a station.
use Rattle.std.specs.Prelude.{◌≡◌, ℕ, length, List}
use Rattle.lid_clock.specs.declared.places.Kept.{Kept}
use Rattle.lid_clock.specs.declared.places.Kept.TheVariants.{Two, More}

abbrev pub kept_tokens : Kept → List ℕ
kept_tokens (Two tokens) = tokens
kept_tokens (More tokens) = tokens.items

-- two tokens are two
abbrev pub IsKept : Kept → Type 0
IsKept (Two tokens) = length tokens ≡ 2
IsKept (More tokens) = Unit {0}
