-- Prefixes of names.
use Rattle.std.specs.Prelude.{◌≡◌, ◌⊎◌, ℕ, ◌+◌, ◌≤◌, ◌<◌, ◌&&◌, ◌==◌, Bool, true, false, List, [], ◌∷◌, ◌++◌, length, count_by}
use Rattle.std.specs.List.{AllByRecursion}

-- letters a and b alone, from 1 to 15 of them
pub record IsShortPrefix (prefix : List ℕ) : Type 0 where
  pub letters : AllByRecursion (λ b. (b ≡ 97) ⊎ (b ≡ 98)) prefix
  pub some : 0 < length prefix
  pub few : length prefix ≤ 15

-- serves the body: whether a name begins with a prefix
abbrev pub begins_with : List ℕ → List ℕ → Bool
begins_with [] name = true
begins_with (b ∷ prefix) [] = false
begins_with (b ∷ prefix) (c ∷ name) = (b == c) && begins_with prefix name

-- serves the body: how many names begin with a prefix
abbrev pub count_with : List ℕ → List (List ℕ) → ℕ
count_with prefix names = count_by (begins_with prefix) names

-- serves the body: a prefix with a letter more, which at most half of the names keep
pub record IsLonger (prefix longer : List ℕ) (names : List (List ℕ)) : Type 0 where
  pub last : ℕ
  pub letter : (last ≡ 97) ⊎ (last ≡ 98)
  pub is : longer ≡ prefix ++ last ∷ []
  pub half : count_with longer names + count_with longer names ≤ count_with prefix names
