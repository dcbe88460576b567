-- Values that may be none.
use Rattle.std.proofs.Common.{◌≡◌, true, false, Option, Some, None, refl, sym, ◌∙◌}
use Rattle.std.specs.Prelude.{is_some, option_map}

pub same_some : {A : Type 0} (o : Option A) (a b : A) → o ≡ Some a → o ≡ Some b → a ≡ b
same_some o a b h g = let e : Some a ≡ Some b = sym h ∙ g in cc

pub none_of : {A : Type 0} (o : Option A) → is_some o ≡ false → o ≡ None
none_of None h = refl
none_of (Some a) h = absurd (let e : true ≡ false = h in cc)

pub some_of : {A : Type 0} (o : Option A) → is_some o ≡ true → (a : A) × (o ≡ Some a)
some_of None h = absurd (let e : false ≡ true = h in cc)
some_of (Some a) h = (a, refl)

pub map_some : {A B : Type 0} (f : A → B) (o : Option A) (b : B) → option_map f o ≡ Some b → (a : A) × (o ≡ Some a) × (f a ≡ b)
map_some f None b h = absurd (let e : None ≡ Some b = h in cc)
map_some f (Some a) b h = (a, refl, (let e : Some (f a) ≡ Some b = h in cc))
