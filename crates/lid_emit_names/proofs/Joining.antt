-- Numbers that are joined by `_` can be told from the text.
use Rattle.std.proofs.Common.{◌≡◌, ℕ, ◌^◌, ◌<◌, List, [], ◌∷◌, ◌++◌, length, refl, ◌∙◌, ap, arith}
use Rattle.std.specs.Fmt.{decimal}
use Rattle.std.specs.List.{AllByRecursion}
use Rattle.std.proofs.lemmas.Fmt.{decimal_injective, decimal_is_IsNumeral}
use Rattle.std.specs.Str.Parse.{AllDigits}
use Rattle.std.proofs.lemmas.Str.Parse.{digit_from_value}
use Rattle.lid_emit_names.specs.Spelling.{digits_joined}

-- digits up to a mark that is none
split_mark : (xs ys rest others : List ℕ) → AllByRecursion (λ (b : ℕ). (b ≡ 95) → ⊥) xs → AllByRecursion (λ (b : ℕ). (b ≡ 95) → ⊥) ys → xs ++ 95 ∷ rest ≡ ys ++ 95 ∷ others → (xs ≡ ys) × (rest ≡ others)
split_mark [] [] rest others left right same = (refl, let e : 95 ∷ rest ≡ 95 ∷ others = same in cc)
split_mark [] (y ∷ ys) rest others left right same = absurd (right.0 (let e : 95 ∷ rest ≡ y ∷ (ys ++ 95 ∷ others) = same in cc))
split_mark (x ∷ xs) [] rest others left right same = absurd (left.0 (let e : x ∷ (xs ++ 95 ∷ rest) ≡ 95 ∷ others = same in cc))
split_mark (x ∷ xs) (y ∷ ys) rest others left right same =
    let e : x ∷ (xs ++ 95 ∷ rest) ≡ y ∷ (ys ++ 95 ∷ others) = same in
    let head : x ≡ y = cc in
    let later = split_mark xs ys rest others left.1 right.1 cc in
    let tail : xs ≡ ys = later.0 in
    (cc, later.1)

no_marks : (n : ℕ) → n < 2 ^ 64 → AllByRecursion (λ (b : ℕ). (b ≡ 95) → ⊥) (decimal n)
no_marks n small = by (decimal n) (decimal_is_IsNumeral n small).0.1
  where
    by : (ds : List ℕ) → AllDigits 10 ds → AllByRecursion (λ (b : ℕ). (b ≡ 95) → ⊥) ds
    by [] all = tt
    by (c ∷ cs) all = ((λ is. omega (arith, digit_from_value c all.0, is)), by cs all.1)

-- lists of numbers of one length are told by their texts
pub joined_same : (ns ms : List ℕ) → length ns ≡ length ms → AllByRecursion (λ n. n < 2 ^ 64) ns → AllByRecursion (λ n. n < 2 ^ 64) ms → digits_joined ns ≡ digits_joined ms → ns ≡ ms
joined_same [] [] long small also same = refl
joined_same [] (m ∷ ms) long small also same = absurd (omega arith)
joined_same (n ∷ ns) [] long small also same = absurd (omega arith)
joined_same (n ∷ []) (m ∷ []) long small also same = ap (λ (x : ℕ). x ∷ []) (decimal_injective n m small.0 also.0 same)
joined_same (n ∷ []) (m ∷ k ∷ ms) long small also same = absurd (omega arith)
joined_same (n ∷ k ∷ ns) (m ∷ []) long small also same = absurd (omega arith)
joined_same (n ∷ k ∷ ns) (m ∷ l ∷ ms) long small also same =
    let parts = split_mark (decimal n) (decimal m) (digits_joined (k ∷ ns)) (digits_joined (l ∷ ms)) (no_marks n small.0) (no_marks m also.0) same in
    let head : n ≡ m = decimal_injective n m small.0 also.0 parts.0 in
    let tail : k ∷ ns ≡ l ∷ ms = joined_same (k ∷ ns) (l ∷ ms) (omega (arith, long)) small.1 also.1 parts.1 in
    ap (λ (x : ℕ). x ∷ k ∷ ns) head ∙ ap (λ (xs : List ℕ). m ∷ xs) tail
