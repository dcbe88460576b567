-- The nets below a number.
use Rattle.std.proofs.Common.{◌≡◌, ℕ, ◌<◌, ◌≤◌, List, length, sym, ◌∙◌, ap, subst, arith}
use Rattle.std.specs.List.{AllByRecursion}
use Rattle.lid_base.specs.Each.{from_each}
use Rattle.lid_base.proofs.Each.{each_length, all_each_below}

pub so_many : (nets : List ℕ) (n : ℕ) → nets ≡ from_each (λ k. k) 0 n → n ≡ length nets
so_many nets n is = sym (ap (λ (ks : List ℕ). length ks) is ∙ each_length (λ (k : ℕ). k) 0 n)

pub all_below : (nets : List ℕ) (n most : ℕ) → nets ≡ from_each (λ k. k) 0 n → n ≤ most → AllByRecursion (λ k. k < most) nets
all_below nets n most is few =
    subst (AllByRecursion (λ (k : ℕ). k < most)) (sym is) (all_each_below (λ (k : ℕ). k < most) (λ (k : ℕ). k) 0 n (λ j less. omega (arith, less, few)))
