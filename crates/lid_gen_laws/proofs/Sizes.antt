-- The sizes of generated designs.
use Rattle.std.proofs.Common.{◌≡◌, ◌⊎◌, ℕ, ◌<◌, ◌≤◌, ◌==◌, ◌||◌, Bool, true, false, cond, Some, None, inl, inr, sym, ◌∙◌, ap, arith}
use Rattle.std.proofs.lemmas.Bool.{cases_lt, lt-ltb}
use Rattle.lid_gen.specs.declared.fault.GenFault.TheVariants.{Size}
use Rattle.lid_gen.specs.Designs.{size_fault}

pub some : (n : ℕ) → size_fault n ≡ None → 0 < n
some n fine = by (cases_lt 0 n)
  where
    by : (0 < n) ⊎ (n ≤ 0) → 0 < n
    by (inl more) = more
    by (inr none) =
        let zero : 0 ≡ n = omega (arith, none) in
        absurd (let e : Some (Size 0) ≡ None = ap size_fault zero ∙ fine in cc)

pub few : (n : ℕ) → size_fault n ≡ None → n ≤ 2000
few n fine = by (cases_lt 2000 n)
  where
    not_none : (b : Bool) → cond (b || true) (Some (Size n)) None ≡ None → ⊥
    not_none true e = absurd (let f : Some (Size n) ≡ None = e in cc)
    not_none false e = absurd (let f : Some (Size n) ≡ None = e in cc)

    by : (2000 < n) ⊎ (n ≤ 2000) → n ≤ 2000
    by (inl more) = absurd (not_none (n == 0) (ap (λ (b : Bool). cond ((n == 0) || b) (Some (Size n)) None) (sym (lt-ltb 2000 n more)) ∙ fine))
    by (inr less) = less
