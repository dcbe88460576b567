-- Capacities that are chosen one after the other are the first that reach.
use Rattle.std.proofs.Common.{◌≡◌, ℕ, zero, suc, ◌+◌, ◌-◌, ◌<◌, ◌≤◌, ◌≢◌, ◌⊎◌, inl, inr, List, [], ◌∷◌, ◌++◌, length, take, get_or, replicate, sym, ◌∙◌, ap, subst, append-nil, arith}
use Rattle.std.specs.List.{All}
use Rattle.std.proofs.lemmas.Bool.{cases_lt, cases_eq}
use Rattle.std.proofs.lemmas.List.{length-append, length-replicate, length-take-le, get_or_append_left, get_or-append-add, get_or-replicate, get_or-take, get_or_past, get_or_default}
use Rattle.std.proofs.lemmas.List.Elements.{All-cons, All-append, All-replicate, All-get_or}
use Rattle.std.proofs.Math.Seq.{get_or-append_seam}
use Rattle.lid_stations.specs.Placements.{IsCapacity}
use Rattle.lid_size.specs.Sizing.{AreCapacities, IsBefore, IsFirst}
use Rattle.lid_size.specs.Choices.{followed, AreChosen}

-- the first place where a list comes before another
pub record Differs (xs ys : List ℕ) : Type 0 where
  pub place : ℕ
  pub within : place < length xs
  pub inside : place < length ys
  pub same : (i : ℕ) → i < place → get_or xs i 2 ≡ get_or ys i 2
  pub less : get_or xs place 2 < get_or ys place 2

first_place : (xs ys : List ℕ) → IsBefore xs ys → Differs xs ys
first_place [] ys before = absurd before
first_place (x ∷ xs) [] before = absurd before
first_place (x ∷ xs) (y ∷ ys) (inl less) = record { place = 0; within = omega arith; inside = omega arith; same = λ i h. absurd (omega arith); less = less }
first_place (x ∷ xs) (y ∷ ys) (inr later) =
    let at = first_place xs ys later.1 in
    record { place = suc at.place; within = (let w = at.within in omega arith); inside = (let w = at.inside in omega arith); same = same at; less = at.less }
  where
    same : (at : Differs xs ys) (i : ℕ) → i < suc at.place → get_or (x ∷ xs) i 2 ≡ get_or (y ∷ ys) i 2
    same at zero h = later.0
    same at (suc i) h = at.same i (omega arith)

module _ (n : ℕ) (done : List ℕ) (c : ℕ) (few : length done < n) where
  followed_long : length (followed n done c) ≡ n
  followed_long = omega (arith, length-append done (c ∷ replicate (n - (length done + 1)) 16), length-replicate {A = ℕ} (n - (length done + 1)) 16)

  pub followed_capacities : All IsCapacity done → IsCapacity c → AreCapacities n (followed n done c)
  followed_capacities range next = record {
    count = followed_long;
    range = All-append IsCapacity done (c ∷ replicate (n - (length done + 1)) 16) range (All-cons IsCapacity c (replicate (n - (length done + 1)) 16) next (All-replicate IsCapacity (n - (length done + 1)) 16 (omega arith, omega arith)));
  }

  pub followed_early : (i : ℕ) → i < length done → get_or (followed n done c) i 2 ≡ get_or done i 2
  followed_early i h = get_or_append_left done (c ∷ replicate (n - (length done + 1)) 16) 2 i h

  pub followed_here : get_or (followed n done c) (length done) 2 ≡ c
  followed_here = get_or-append_seam done c (replicate (n - (length done + 1)) 16) 2

  pub followed_late : (i : ℕ) → length done < i → i < n → get_or (followed n done c) i 2 ≡ 16
  followed_late i h low =
      let e : i ≡ length done + suc (i - (length done + 1)) = omega arith in
      ap (λ (m : ℕ). get_or (followed n done c) m 2) e
      ∙ (get_or-append-add done (c ∷ replicate (n - (length done + 1)) 16) (suc (i - (length done + 1))) 2
      ∙ get_or-replicate (n - (length done + 1)) (i - (length done + 1)) 16 2 (omega arith))

-- all capacities are at most 16
most_capacities : (n : ℕ) (xs : List ℕ) → AreCapacities n xs → (i : ℕ) → get_or xs i 2 ≤ 16
most_capacities n xs are i = by_order (cases_lt i (length xs))
  where
    by_order : (i < length xs) ⊎ (length xs ≤ i) → get_or xs i 2 ≤ 16
    by_order (inl h) = (All-get_or IsCapacity xs i 2 h are.range).1
    by_order (inr h) = let past = get_or_past xs i 2 h in omega arith

-- a list that agrees with some capacities and is at most c after them has none greater than they followed by c
pub below_followed : (n : ℕ) (xs done : List ℕ) (c : ℕ) → length done < n → AreCapacities n xs → ((i : ℕ) → i < length done → get_or xs i 2 ≡ get_or done i 2) → get_or xs (length done) 2 ≤ c → (i : ℕ) → get_or xs i 2 ≤ get_or (followed n done c) i 2
below_followed n xs done c few are same less i = by_place (cases_lt i (length done)) (cases_eq i (length done)) (cases_lt i n)
  where
    by_place : (i < length done) ⊎ (length done ≤ i) → (i ≡ length done) ⊎ (i ≢ length done) → (i < n) ⊎ (n ≤ i) → get_or xs i 2 ≤ get_or (followed n done c) i 2
    by_place (inl early) here low = let a = same i early in let b = followed_early n done c few i early in omega arith
    by_place (inr late) (inl is) low =
        let a = followed_here n done c few in
        let b : get_or xs i 2 ≡ get_or xs (length done) 2 = ap (λ (m : ℕ). get_or xs m 2) is in
        let d : get_or (followed n done c) i 2 ≡ get_or (followed n done c) (length done) 2 = ap (λ (m : ℕ). get_or (followed n done c) m 2) is in
        omega arith
    by_place (inr late) (inr other) (inl low) = let a = followed_late n done c few i (omega arith) low in let b = most_capacities n xs are i in omega arith
    by_place (inr late) (inr other) (inr past) = let a = get_or_past xs i 2 (let l = are.count in omega arith) in let b = get_or_past (followed n done c) i 2 (let l = followed_long n done c few in omega arith) in omega arith

module _ (P : List ℕ → Type 0) (n : ℕ) where
  -- what holds for some capacities holds for greater ones
  abbrev pub IsUpward : Type 0
  IsUpward = (xs ys : List ℕ) → ((i : ℕ) → get_or xs i 2 ≤ get_or ys i 2) → P xs → P ys

  -- 16 for all that are left is 16 for the next and for all after it
  pub chosen_greatest : (done : List ℕ) → length done < n → AreChosen P n done → P (followed n done 16)
  chosen_greatest done few so =
      let e : n - length done ≡ suc (n - (length done + 1)) = omega arith in
      subst (λ (m : ℕ). P (done ++ replicate m 16)) e so.holds

  module _ (up : (xs ys : List ℕ) → ((i : ℕ) → get_or xs i 2 ≤ get_or ys i 2) → P xs → P ys) where
    pub chosen_first : (caps : List ℕ) → length caps ≡ n → AreChosen P n caps → IsFirst P n caps
    chosen_first caps long so = record {
      are_capacities = record { count = long; range = so.range };
      holds = subst P (append-nil caps) (subst (λ (m : ℕ). P (caps ++ replicate m 16)) (let e : n - length caps ≡ 0 = omega arith in e) so.holds);
      first = λ others are holds before. later others are holds (first_place others caps before);
    }
      where
        later : (others : List ℕ) → AreCapacities n others → P others → Differs others caps → ⊥
        later others are holds at =
            let s = at.place in
            let count = are.count in
            let inside = at.inside in
            let less = at.less in
            let low = (All-get_or IsCapacity others at.place 2 at.within are.range).0 in
            let value : get_or caps at.place 0 ≡ get_or caps at.place 2 = get_or_default caps at.place 0 2 at.inside in
            let long_take : length (take at.place caps) ≡ at.place = length-take-le at.place caps (omega arith) in
            so.tight at.place at.inside (omega arith) (up others (followed n (take at.place caps) (get_or caps at.place 0 - 1)) (below_followed n others (take at.place caps) (get_or caps at.place 0 - 1) (omega arith) are (λ i h. same i (omega arith)) bound) holds)
          where
            same : (i : ℕ) → i < at.place → get_or others i 2 ≡ get_or (take at.place caps) i 2
            same i h = at.same i h ∙ sym (get_or-take at.place caps i 2 h)

            bound : get_or others (length (take at.place caps)) 2 ≤ get_or caps at.place 0 - 1
            bound =
                let long_take : length (take at.place caps) ≡ at.place = length-take-le at.place caps (let w = at.inside in omega arith) in
                let value : get_or caps at.place 0 ≡ get_or caps at.place 2 = get_or_default caps at.place 0 2 at.inside in
                let less = at.less in
                let is : get_or others (length (take at.place caps)) 2 ≡ get_or others at.place 2 = ap (λ (m : ℕ). get_or others m 2) long_take in
                omega arith
