-- Numbers that count on over the parts of a list, and lists that are made from numbers.
use Rattle.std.proofs.Common.{◌≡◌, ℕ, zero, suc, ◌+◌, ◌-◌, ◌<◌, ◌≤◌, ◌⊎◌, inl, inr, List, [], ◌∷◌, ◌++◌, length, take, get_or, flat_map, refl, sym, ◌∙◌, ap, append_assoc, append-nil, arith}
use Rattle.std.specs.List.{sum_by}
use Rattle.std.proofs.lemmas.Bool.{cases_lt}
use Rattle.std.proofs.lemmas.Grind.{flat_map-append}
use Rattle.std.proofs.lemmas.List.Sums.{sum_by-cons}
use Rattle.lid_base.specs.Each.{from_each}
use Rattle.lid_base.proofs.Sums.{sum_part}
use Rattle.lid_base.proofs.Each.{each_append}

-- where parts hold f of each item, number n is the i-th of part c
pub record IsInPart (f : ℕ → ℕ) (xs : List ℕ) (n c i : ℕ) : Type 0 where
  pub below : c < length xs
  pub within : i < f (get_or xs c 0)
  pub number : n ≡ sum_by f (take c xs) + i

pub record HasPart (f : ℕ → ℕ) (xs : List ℕ) (n : ℕ) : Type 0 where
  pub part : ℕ
  pub place : ℕ
  pub is : IsInPart f xs n part place

-- each number below the sum is in a part
pub part_of : (f : ℕ → ℕ) (xs : List ℕ) (n : ℕ) → n < sum_by f xs → HasPart f xs n
part_of f [] n h = absurd (omega arith)
part_of f (x ∷ xs) n h = by_first (cases_lt n (f x)) (λ less. part_of f xs (n - f x) less)
  where
    later : f x ≤ n → HasPart f xs (n - f x) → HasPart f (x ∷ xs) n
    later more p = record {
      part = suc p.part;
      place = p.place;
      is = record {
        below = (let b = p.is.below in omega arith);
        within = p.is.within;
        number = (let e = p.is.number in let s = sum_by-cons f x (take p.part xs) in omega arith);
      };
    }

    by_first : (n < f x) ⊎ (f x ≤ n) → (n - f x < sum_by f xs → HasPart f xs (n - f x)) → HasPart f (x ∷ xs) n
    by_first (inl less) rest = record { part = 0; place = n; is = record { below = omega arith; within = less; number = omega arith } }
    by_first (inr more) rest = later more (rest (let s = sum_by-cons f x xs in omega arith))

-- and in one alone
pub one_part : (f : ℕ → ℕ) (xs : List ℕ) (n c i d j : ℕ) → IsInPart f xs n c i → IsInPart f xs n d j → (c ≡ d) × (i ≡ j)
one_part f xs n c i d j p q = by_order (cases_lt c d) (cases_lt d c)
  where
    level : c ≡ d → (c ≡ d) × (i ≡ j)
    level e = (e, (let same : sum_by f (take c xs) ≡ sum_by f (take d xs) = ap (λ (k : ℕ). sum_by f (take k xs)) e in let a = p.number in let b = q.number in omega arith))

    by_order : (c < d) ⊎ (d ≤ c) → (d < c) ⊎ (c ≤ d) → (c ≡ d) × (i ≡ j)
    by_order (inl less) other = absurd (omega (arith, sum_part f xs c d less (let b = q.below in omega arith), p.number, p.within, q.number))
    by_order (inr more) (inl less) = absurd (omega (arith, sum_part f xs d c less (let b = p.below in omega arith), q.number, q.within, p.number))
    by_order (inr more) (inr less) = level (omega arith)

-- what is appended for further numbers
pub grown : {A : Type 0} (f : ℕ → List A) (old es news : List A) (k m n : ℕ) → es ≡ old ++ flat_map f (from_each (λ j. j) k m) → news ≡ es ++ flat_map f (from_each (λ j. j) (k + m) n) → news ≡ old ++ flat_map f (from_each (λ j. j) k (m + n))
grown {A} f old es news k m n was is =
    is
    ∙ ap (λ (xs : List A). xs ++ flat_map f (from_each (λ j. j) (k + m) n)) was
    ∙ append_assoc old (flat_map f (from_each (λ j. j) k m)) (flat_map f (from_each (λ j. j) (k + m) n))
    ∙ ap (λ (xs : List A). old ++ xs) (sym (flat_map-append f (from_each (λ j. j) k m) (from_each (λ j. j) (k + m) n)) ∙ ap (flat_map f) (sym (each_append (λ j. j) k m n)))

pub grown_one : {A : Type 0} (f : ℕ → List A) (old es news : List A) (k m : ℕ) → es ≡ old ++ flat_map f (from_each (λ j. j) k m) → news ≡ es ++ f (k + m) → news ≡ old ++ flat_map f (from_each (λ j. j) k (m + 1))
grown_one {A} f old es news k m was is = grown f old es news k m 1 was (is ∙ ap (λ (xs : List A). es ++ xs) (sym (append-nil (f (k + m)))))

-- a list of two items for each number
pub two_each : {A : Type 0} (f g : ℕ → A) (k n i : ℕ) (d : A) → i < n → get_or (flat_map (λ j. f j ∷ g j ∷ []) (from_each (λ j. j) k n)) (i + i) d ≡ f (k + i)
two_each f g k zero i d h = absurd (omega arith)
two_each f g k (suc n) zero d h = (let e : k ≡ k + 0 = omega arith in ap f e)
two_each {A} f g k (suc n) (suc i) d h =
    (let e : suc i + suc i ≡ suc (suc (i + i)) = omega arith in ap (λ (j : ℕ). get_or (flat_map (λ j. f j ∷ g j ∷ []) (from_each (λ j. j) k (suc n))) j d) e)
    ∙ two_each f g (k + 1) n i d (omega arith)
    ∙ (let e : (k + 1) + i ≡ k + suc i = omega arith in ap f e)

pub two_each_next : {A : Type 0} (f g : ℕ → A) (k n i : ℕ) (d : A) → i < n → get_or (flat_map (λ j. f j ∷ g j ∷ []) (from_each (λ j. j) k n)) (suc (i + i)) d ≡ g (k + i)
two_each_next f g k zero i d h = absurd (omega arith)
two_each_next f g k (suc n) zero d h = (let e : k ≡ k + 0 = omega arith in ap g e)
two_each_next {A} f g k (suc n) (suc i) d h =
    (let e : suc (suc i + suc i) ≡ suc (suc (suc (i + i))) = omega arith in ap (λ (j : ℕ). get_or (flat_map (λ j. f j ∷ g j ∷ []) (from_each (λ j. j) k (suc n))) j d) e)
    ∙ two_each_next f g (k + 1) n i d (omega arith)
    ∙ (let e : (k + 1) + i ≡ k + suc i = omega arith in ap g e)

pub two_each_length : {A : Type 0} (f g : ℕ → A) (k n : ℕ) → length (flat_map (λ j. f j ∷ g j ∷ []) (from_each (λ j. j) k n)) ≡ n + n
two_each_length f g k zero = refl
two_each_length f g k (suc n) = let l = two_each_length f g (k + 1) n in omega arith

-- the half of a number
pub record HasHalf (k : ℕ) : Type 0 where
  pub half : ℕ
  pub is : (k ≡ half + half) ⊎ (k ≡ suc (half + half))

pub half_of : (k : ℕ) → HasHalf k
half_of zero = record { half = 0; is = inl (omega arith) }
half_of (suc k) = next (half_of k)
  where
    by_case : (h : ℕ) → (k ≡ h + h) ⊎ (k ≡ suc (h + h)) → HasHalf (suc k)
    by_case h (inl e) = record { half = h; is = inr (omega arith) }
    by_case h (inr e) = record { half = suc h; is = inl (omega arith) }

    next : HasHalf k → HasHalf (suc k)
    next p = by_case p.half p.is
