-- Items of lists, and lists that grow.
use Rattle.std.specs.Prelude.{◌≡◌, ◌⊎◌, ⊤, ℕ, List, [], ◌∷◌, ◌++◌, length, take}

-- x is one of the list
abbrev pub Among : {A : Type 0} → A → List A → Type 0
Among x [] = ⊥
Among x (y ∷ ys) = (x ≡ y) ⊎ Among x ys

-- no item stands twice
abbrev pub AreOnce : {A : Type 0} → List A → Type 0
AreOnce [] = ⊤
AreOnce (x ∷ xs) = (¬ Among x xs) × AreOnce xs

-- items were appended to the first list
abbrev pub Extends : {A : Type 0} → List A → List A → Type 0
Extends {A} xs ys = (more : List A) × (ys ≡ xs ++ more)

-- some first items of the third list were appended to the first
abbrev pub ExtendsByPart : {A : Type 0} → List A → List A → List A → Type 0
ExtendsByPart xs ys more = (k : ℕ) × (ys ≡ xs ++ take k more)

-- the second list begins with the first
pub record Keeps (old new : List ℕ) : Type 0 where
  pub kept : take (length old) new ≡ old
