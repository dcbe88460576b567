-- What follows where each closed walk has a token.
use Rattle.std.proofs.Common.{◌≡◌, ℕ, zero, suc, ◌*◌, ◌<◌, ◌≤◌, ◌⊎◌, inl, inr, length, ap, arith}
use Rattle.std.specs.List.{All}
use Rattle.std.proofs.lemmas.Bool.{cases_lt}
use Rattle.lid_graph.specs.declared.graph.Graph.{Graph}
use Rattle.lid_graph.specs.Walks.{WalksHaveTokens, walk_tokens}
use Rattle.lid_cert.specs.declared.cert.Part.{Part}
use Rattle.lid_cert.specs.declared.cert.Cert.{Cert}
use Rattle.lid_cert.specs.Certificates.{IsPart, Certifies}

positive_part : (g : Graph) (part : Part) → WalksHaveTokens g → IsPart g part → 1 ≤ part.p
positive_part g part tokens meets = by_order (tokens part.cycle meets.inside.walk) meets.inside.positive (cases_lt 0 part.p)
  where
    by_order : 0 < walk_tokens g part.cycle → 1 ≤ part.q → (0 < part.p) ⊎ (part.p ≤ 0) → 1 ≤ part.p
    by_order some positive (inl h) = omega arith
    by_order some positive (inr h) =
        let none : part.p ≡ 0 = omega arith in
        let ratio : walk_tokens g part.cycle * part.q ≡ part.p * length part.cycle = meets.inside.ratio in
        let zero_times : part.p * length part.cycle ≡ 0 * length part.cycle = ap (λ (n : ℕ). n * length part.cycle) none in
        absurd (product (walk_tokens g part.cycle) part.q some positive (omega arith))
      where
        product : (a b : ℕ) → 0 < a → 1 ≤ b → a * b ≡ 0 → ⊥
        product zero b some positive e = omega arith
        product (suc a) b some positive e = omega arith

-- then no ratio is 0
pub positive : (g : Graph) (cert : Cert) → WalksHaveTokens g → Certifies g cert → All (λ part. 1 ≤ part.p) cert.parts
positive g cert tokens certifies k d h = positive_part g _ tokens (certifies.parts k d h)
