-- One image more.
use Rattle.std.proofs.Common.{◌≡◌, ℕ, ◌+◌, ◌<◌, ◌≤◌, ◌==◌, ◌⊎◌, inl, inr, true, List, [], ◌∷◌, ◌++◌, length, get_or, position, Some, None, sym, ◌∙◌, ap, subst, arith}
use Rattle.std.specs.List.{Contains}
use Rattle.std.proofs.lemmas.Bool.{cases_lt, eqb-true}
use Rattle.std.proofs.lemmas.List.{get_or_append_left, get_or_default}
use Rattle.std.proofs.lemmas.List.Quantifiers.{position-Some}
use Rattle.std.proofs.Math.Seq.{get_or-append_seam}
use Rattle.lid_graph.specs.declared.graph.Edge.{Edge}
use Rattle.lid_graph.specs.declared.graph.Graph.{Graph}
use Rattle.lid_graph.specs.Walks.{no_edge}
use Rattle.lid_cert.specs.Certificates.{ascends}
use Rattle.lid_cert.proofs.Ascending.{place_found}
use Rattle.lid_rate.specs.Pieces.{IsImage}

pub found_here : (xs : List ℕ) (v i : ℕ) → Some i ≡ position (λ n. n == v) xs → get_or xs i 0 ≡ v
found_here xs v i is = eqb-true (get_or xs i 0) v (position-Some (λ n. n == v) xs i 0 (sym is)).1

pub listed_is_found : (xs : List ℕ) (v : ℕ) → ascends xs ≡ true → Contains xs v → None ≡ position (λ n. n == v) xs → ⊥
listed_is_found xs v up at none =
    let found : position (λ n. n == v) xs ≡ Some at.0 = place_found xs v at.0 up at.1 (get_or_default xs at.0 0 v at.1 ∙ at.2) in
    cc

-- the images of one edge more
pub images_more : (g : Graph) (nodes edges : List ℕ) (n : ℕ) (all new : List Edge) (e : Edge) → length all ≡ n → ((i : ℕ) → i < n → IsImage g nodes (get_or edges i 0) (get_or all i no_edge)) → IsImage g nodes (get_or edges n 0) e → new ≡ all ++ e ∷ [] → (i : ℕ) → i < n + 1 → IsImage g nodes (get_or edges i 0) (get_or new i no_edge)
images_more g nodes edges n all new e long before here is i h = subst (λ (l : List Edge). IsImage g nodes (get_or edges i 0) (get_or l i no_edge)) (sym is) (by_order (cases_lt i n))
  where
    by_order : (i < n) ⊎ (n ≤ i) → IsImage g nodes (get_or edges i 0) (get_or (all ++ e ∷ []) i no_edge)
    by_order (inl early) = subst (IsImage g nodes (get_or edges i 0)) (sym (get_or_append_left all (e ∷ []) no_edge i (omega arith))) (before i early)
    by_order (inr late) =
        let last : i ≡ length all = omega arith in
        let at : get_or (all ++ e ∷ []) i no_edge ≡ e = ap (λ (k : ℕ). get_or (all ++ e ∷ []) k no_edge) last ∙ get_or-append_seam all e [] no_edge in
        subst (λ (k : ℕ). IsImage g nodes (get_or edges k 0) (get_or (all ++ e ∷ []) i no_edge)) (let same : n ≡ i = omega arith in same) (subst (IsImage g nodes (get_or edges n 0)) (sym at) here)
