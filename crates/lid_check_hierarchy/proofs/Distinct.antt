-- Names are distinct exactly where as many are left of them as there are.
use Rattle.std.proofs.Common.{◌≡◌, ◌↔◌, ℕ, suc, ◌≤◌, ◌==◌, Bool, true, false, not, cond, IsTrue, List, [], ◌∷◌, length, filter, refl, sym, ◌∙◌, ap, arith}
use Rattle.std.specs.List.{AllByRecursion, IsDistinct}
use Rattle.std.specs.Str.{bytes_eq}
use Rattle.std.proofs.lemmas.Bool.{eqb-true, eq-eqb}
use Rattle.lid_check_names.specs.Names.{firsts}
use Rattle.lid_check_hierarchy.proofs.Numbers.{bytes_eq_comm, firsts_distinct}
use Rattle.lid_check_names.proofs.Lists.{differs}
use Rattle.lid_base.proofs.Lists.{filter_le}

firsts_short : (xs : List (List ℕ)) → length (firsts xs) ≤ length xs
firsts_short [] = omega arith
firsts_short (x ∷ xs) =
    let a = filter_le (differs x) (firsts xs) in
    let b = firsts_short xs in
    omega arith

all_kept : (p : List ℕ → Bool) (xs : List (List ℕ)) → length (filter p xs) ≡ length xs → AllByRecursion (λ y. p y ≡ true) xs
all_kept p [] same = tt
all_kept p (x ∷ xs) same = by (p x) refl same (filter_le p xs) (all_kept p xs)
  where
    by : (b : Bool) → p x ≡ b → length (cond b (x ∷ filter p xs) (filter p xs)) ≡ suc (length xs) → length (filter p xs) ≤ length xs → (length (filter p xs) ≡ length xs → AllByRecursion (λ y. p y ≡ true) xs) → AllByRecursion (λ y. p y ≡ true) (x ∷ xs)
    by true e same short rest = (e, rest (omega arith))
    by false e same short rest = absurd (omega arith)

all_differ : (x : List ℕ) (xs : List (List ℕ)) → AllByRecursion (λ y. differs x y ≡ true) xs → AllByRecursion (λ y. bytes_eq x y ≡ false) xs
all_differ x [] all = tt
all_differ x (y ∷ ys) all = (bytes_eq_comm x y ∙ flipped (bytes_eq y x) all.0, all_differ x ys all.1)
  where
    flipped : (b : Bool) → not b ≡ true → b ≡ false
    flipped true e = cc
    flipped false e = refl

distinct_from_length : (xs : List (List ℕ)) → length (firsts xs) ≡ length xs → IsDistinct bytes_eq xs
unfolding IsDistinct
distinct_from_length [] same = tt
distinct_from_length (x ∷ xs) same =
    let short = filter_le (differs x) (firsts xs) in
    let fewer = firsts_short xs in
    let rest : IsDistinct bytes_eq xs = distinct_from_length xs (omega arith) in
    let whole : firsts xs ≡ xs = firsts_distinct xs rest in
    let kept : length (filter (differs x) xs) ≡ length xs = ap (λ (ys : List (List ℕ)). length (filter (differs x) ys)) (sym whole) ∙ let e = same in omega arith in
    (all_differ x xs (all_kept (differs x) xs kept), rest)

pub distinct_by_length : (names xs : List (List ℕ)) (count : ℕ) → names ≡ firsts xs → count ≡ length names → (many : ℕ) → many ≡ length xs → IsTrue (count == many) ↔ IsDistinct bytes_eq xs
distinct_by_length names xs count whole counted many long = (
  (λ same. distinct_from_length xs (sym (counted ∙ ap length whole) ∙ eqb-true count many same ∙ long)),
  (λ distinct. eq-eqb count many (counted ∙ ap length (whole ∙ firsts_distinct xs distinct) ∙ sym long)),
)
