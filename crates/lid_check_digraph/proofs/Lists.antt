-- Numbers among a list, its fronts, and marks.
use Rattle.std.proofs.Common.{◌≡◌, ℕ, zero, suc, ◌+◌, ◌<◌, ◌≢◌, inl, inr, Bool, true, false, List, [], ◌∷◌, length, get_or, set, take, refl, sym, subst, arith}
use Rattle.std.proofs.lemmas.List.{get_or-set_same, get_or-set_other, get_or_default}
use Rattle.std.proofs.lemmas.List.Sums.{sum_by-cons}
use Rattle.lid_base.specs.Lists.{Among}
use Rattle.lid_base.proofs.Lists.{among_at}
use Rattle.lid_check_digraph.specs.Graphs.{reads_at, IsGraph, flag}
use Rattle.lid_check_digraph.specs.PartialOrders.{AreBelow, marked, count_true}

pub index_among : (b : ℕ) (xs : List ℕ) → Among b xs → (i : ℕ) × (i < length xs) × (get_or xs i 0 ≡ b)
index_among b [] h = absurd h
index_among b (x ∷ xs) (inl e) = (0, omega arith, sym e)
index_among b (x ∷ xs) (inr h) = let at = index_among b xs h in (suc at.0, omega arith, at.2)

pub among_take : (xs : List ℕ) (i j : ℕ) → i < j → i < length xs → Among (get_or xs i 0) (take j xs)
among_take [] i j h l = absurd (omega arith)
among_take (x ∷ xs) i zero h l = absurd (omega arith)
among_take (x ∷ xs) zero (suc j) h l = inl refl
among_take (x ∷ xs) (suc i) (suc j) h l = inr (among_take xs i j (omega arith) (omega arith))

pub index_take : (b j : ℕ) (xs : List ℕ) → Among b (take j xs) → (i : ℕ) × (i < j) × (i < length xs) × (get_or xs i 0 ≡ b)
index_take b zero xs h = absurd h
index_take b (suc j) [] h = absurd h
index_take b (suc j) (x ∷ xs) (inl e) = (0, omega arith, omega arith, sym e)
index_take b (suc j) (x ∷ xs) (inr h) = let at = index_take b j xs h in (suc at.0, omega arith, omega arith, at.3)

pub flag_here : (flags : List Bool) (k : ℕ) (v : Bool) → k < length flags → flag (set flags k v) k ≡ v
flag_here flags k v h = get_or-set_same flags k v false h

pub flag_there : (flags : List Bool) (k c : ℕ) (v : Bool) → c ≢ k → flag (set flags k v) c ≡ flag flags c
flag_there flags k c v h = get_or-set_other flags k c v false h

-- a marked number is one of the numbers
pub flag_within : (flags : List Bool) (k : ℕ) → flag flags k ≡ true → k < length flags
flag_within [] k e = cc
flag_within (f ∷ flags) zero e = omega arith
flag_within (f ∷ flags) (suc k) e = let h = flag_within flags k e in omega arith

-- some number is marked, where marks are counted
pub some_marked : (flags : List Bool) → 0 < marked flags → (k : ℕ) × (flag flags k ≡ true)
some_marked [] h = absurd (omega arith)
some_marked (true ∷ flags) h = (0, refl)
some_marked (false ∷ flags) h =
    let more : marked (false ∷ flags) ≡ count_true false + marked flags = sum_by-cons count_true false flags in
    let at = some_marked flags (omega arith) in
    (suc at.0, at.1)

-- none is, where none is counted
pub none_marked : (flags : List Bool) (k : ℕ) → marked flags ≡ 0 → flag flags k ≡ false
none_marked [] k h = refl
none_marked (true ∷ flags) k h = let more : marked (true ∷ flags) ≡ count_true true + marked flags = sum_by-cons count_true true flags in absurd (omega arith)
none_marked (false ∷ flags) zero h = refl
none_marked (false ∷ flags) (suc k) h =
    let more : marked (false ∷ flags) ≡ count_true false + marked flags = sum_by-cons count_true false flags in
    none_marked flags k (omega arith)

-- what a number reads are numbers of the graph
pub row_below : (g : List (List ℕ)) → IsGraph g → (k : ℕ) → AreBelow (length g) (reads_at g k)
row_below g graph k i d h = subst (λ (x : ℕ). x < length g) (get_or_default (reads_at g k) i 0 d h) (graph.within k (get_or (reads_at g k) i 0) (among_at (reads_at g k) i 0 h))
