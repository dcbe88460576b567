-- All parts, from the least label on.
use Rattle.std.proofs.Common.{◌≡◌, ℕ, zero, suc, ◌+◌, ◌<◌, ◌≤◌, ◌≢◌, ◌==◌, ◌⊎◌, inl, inr, Bool, true, false, cond, nat_lt, List, [], ◌∷◌, ◌++◌, length, get_or, map, position, is_some, refl, sym, ◌∙◌, ap, subst, arith, add-one}
use Rattle.std.specs.List.{All, count_by, sum_by}
use Rattle.std.proofs.lemmas.Bool.{cases_eq, cases_lt, eq-eqb, eqb-true, ne_eqb, lt-ltb, le-ltb}
use Rattle.std.proofs.lemmas.List.{map-append, length-append, get_or_append_left, get_or_default}
use Rattle.std.proofs.Math.Seq.{get_or-append_seam}
use Rattle.std.proofs.lemmas.List.Sums.{sum_by-append, sum_by-cons, count_by-le-length}
use Rattle.lid_graph.specs.declared.graph.Graph.{Graph}
use Rattle.lid_cert.specs.declared.cert.Part.{Part}
use Rattle.lid_cert.specs.declared.cert.Cert.{Cert}
use Rattle.lid_cert.specs.Certificates.{has_node, least_node, parts_with, ascends, Certifies, IsInRange}
use Rattle.lid_cert.proofs.Ascending.{rises_pair}
use Rattle.lid_cert.proofs.Consequences.{ratio_is_shown}
use Rattle.lid_graph.specs.Rateable.{IsRateable}
use Rattle.lid_rate.specs.Rates.{numbers_where, AreLabels, is_labelled, IsPartOf, IsShort, is_own, AreParts}
use Rattle.lid_rate.specs.Exact.{IsExactPart}
use Rattle.lid_rate.proofs.NumbersWhere.{Stands, those_only, those_all, those_ascends, those_has}
use Rattle.lid_rate.proofs.Components.{same_label}

abbrev bit : Bool → ℕ
bit b = cond b 1 0

count_end : (p : Part → Bool) (xs : List Part) (x : Part) → count_by p (xs ++ x ∷ []) ≡ count_by p xs + bit (p x)
count_end p xs x =
    let sums : count_by p (xs ++ x ∷ []) ≡ count_by p xs + (0 + bit (p x)) = sum_by-append (λ (y : Part). bit (p y)) xs (x ∷ []) in
    omega arith

count_yes : (p : Part → Bool) (xs : List Part) (x : Part) → p x ≡ true → count_by p (xs ++ x ∷ []) ≡ count_by p xs + 1
count_yes p xs x e = count_end p xs x ∙ ap (λ (b : Bool). count_by p xs + bit b) e

count_no : (p : Part → Bool) (xs : List Part) (x : Part) → p x ≡ false → count_by p (xs ++ x ∷ []) ≡ count_by p xs
count_no p xs x e = let a : count_by p (xs ++ x ∷ []) ≡ count_by p xs + 0 = count_end p xs x ∙ ap (λ (b : Bool). count_by p xs + bit b) e in omega arith

all_end : (P : Part → Type 0) (xs : List Part) (x : Part) → All P xs → P x → All P (xs ++ x ∷ [])
all_end P xs x each here k d h = by_order (cases_lt k (length xs))
  where
    by_order : (k < length xs) ⊎ (length xs ≤ k) → P (get_or (xs ++ x ∷ []) k d)
    by_order (inl early) = subst P (sym (get_or_append_left xs (x ∷ []) d k early)) (each k d early)
    by_order (inr late) =
        let long : length (xs ++ x ∷ []) ≡ length xs + 1 = length-append xs (x ∷ []) in
        let is : k ≡ length xs = omega arith in
        subst P (sym (ap (λ (n : ℕ). get_or (xs ++ x ∷ []) n d) is ∙ get_or-append_seam xs x [] d)) here

-- how many of the numbers below n pass a test
abbrev passing : (ℕ → ℕ) → ℕ → ℕ
passing f zero = 0
passing f (suc n) = passing f n + f n

length_where : (p : ℕ → Bool) (n : ℕ) → length (numbers_where p n) ≡ passing (λ i. bit (p i)) n
length_where p zero = refl
length_where p (suc n) = by_test (length_where p n) (p n)
  where
    by_test : length (numbers_where p n) ≡ passing (λ i. bit (p i)) n → (b : Bool) → length (cond b (numbers_where p n ++ n ∷ []) (numbers_where p n)) ≡ passing (λ i. bit (p i)) n + bit b
    by_test before true = let long : length (numbers_where p n ++ n ∷ []) ≡ length (numbers_where p n) + 1 = length-append (numbers_where p n) (n ∷ []) in omega arith
    by_test before false = omega arith

passing_first : (f : ℕ → ℕ) (n : ℕ) → passing f (suc n) ≡ f 0 + passing (λ i. f (suc i)) n
passing_first f zero = omega arith
passing_first f (suc n) = let before = passing_first f n in omega arith

passing_items : (f : ℕ → ℕ) (xs : List ℕ) → passing (λ i. f (get_or xs i 0)) (length xs) ≡ sum_by f xs
passing_items f [] = refl
passing_items f (x ∷ xs) =
    let first : passing (λ i. f (get_or (x ∷ xs) i 0)) (suc (length xs)) ≡ f x + passing (λ i. f (get_or xs i 0)) (length xs) = passing_first (λ i. f (get_or (x ∷ xs) i 0)) (length xs) in
    let rest = passing_items f xs in
    let sums = sum_by-cons f x xs in
    omega arith

labelled_count : (least : List ℕ) (r : ℕ) → length (numbers_where (is_labelled least r) (length least)) ≡ count_by (λ l. l == r) least
labelled_count least r = length_where (is_labelled least r) (length least) ∙ passing_items (λ l. bit (l == r)) least

bits_next : (x v : ℕ) → bit (nat_lt x v) + bit (x == v) ≤ bit (nat_lt x (v + 1))
bits_next x v = by_order (cases_lt x v) (cases_eq x v)
  where
    by_order : (x < v) ⊎ (v ≤ x) → (x ≡ v) ⊎ (x ≢ v) → bit (nat_lt x v) + bit (x == v) ≤ bit (nat_lt x (v + 1))
    by_order (inl less) e = rw (lt-ltb x v less, ne_eqb x v (λ is. omega arith), lt-ltb x (v + 1) (omega arith)) (omega arith)
    by_order (inr more) (inl is) = rw (le-ltb x v more, eq-eqb x v is, lt-ltb x (v + 1) (omega arith)) (omega arith)
    by_order (inr more) (inr other) = rw (le-ltb x v more, ne_eqb x v other) (omega arith)

below_next : (xs : List ℕ) (v : ℕ) → count_by (λ l. nat_lt l v) xs + count_by (λ l. l == v) xs ≤ count_by (λ l. nat_lt l (v + 1)) xs
below_next [] v = omega arith
below_next (x ∷ xs) v =
    let rest = below_next xs v in
    let here = bits_next x v in
    let a : count_by (λ l. nat_lt l v) (x ∷ xs) ≡ bit (nat_lt x v) + count_by (λ l. nat_lt l v) xs = sum_by-cons (λ l. bit (nat_lt l v)) x xs in
    let b : count_by (λ l. l == v) (x ∷ xs) ≡ bit (x == v) + count_by (λ l. l == v) xs = sum_by-cons (λ l. bit (l == v)) x xs in
    let c : count_by (λ l. nat_lt l (v + 1)) (x ∷ xs) ≡ bit (nat_lt x (v + 1)) + count_by (λ l. nat_lt l (v + 1)) xs = sum_by-cons (λ l. bit (nat_lt l (v + 1))) x xs in
    omega arith

module _ (g : Graph) (ok : IsRateable g) (least : List ℕ) (labels : AreLabels g least) where
  least_le : (v : ℕ) → v < g.nodes → get_or least v 0 ≤ v
  least_le v h = (labels.labels v h).least v ([], refl)

  least_own : (v : ℕ) → v < g.nodes → get_or least (get_or least v 0) 0 ≡ get_or least v 0
  least_own v h = sym (same_label g ok least labels v (get_or least v 0) h (let l = least_le v h in omega arith) (labels.labels v h).joined)

  head_is : (r : ℕ) (part : Part) → r < g.nodes → get_or least r 0 ≡ r → IsPartOf g least r part → least_node part ≡ r
  head_is r part h own of = ap (λ (l : List ℕ). get_or l 0 0) of.nodes_are ∙ by_place at.place at.within at.is
    where
      xs : List ℕ
      xs = numbers_where (is_labelled least r) (length least)

      at : Stands (numbers_where (is_labelled least r) (length least)) r
      at = those_all (is_labelled least r) (length least) r (let c = labels.count in omega arith) (eq-eqb (get_or least r 0) r own)

      by_place : (j : ℕ) → j < length (numbers_where (is_labelled least r) (length least)) → get_or (numbers_where (is_labelled least r) (length least)) j 0 ≡ r → get_or (numbers_where (is_labelled least r) (length least)) 0 0 ≡ r
      by_place zero l is = is
      by_place (suc j) l is =
          let less : get_or (numbers_where (is_labelled least r) (length least)) 0 0 < get_or (numbers_where (is_labelled least r) (length least)) (suc j) 0 = rises_pair (numbers_where (is_labelled least r) (length least)) 0 0 (suc j) (those_ascends (is_labelled least r) (length least)) (omega arith) l in
          let only = those_only (is_labelled least r) (length least) 0 (omega arith) in
          let count = labels.count in
          let label : get_or least (get_or (numbers_where (is_labelled least r) (length least)) 0 0) 0 ≡ r = eqb-true (get_or least (get_or (numbers_where (is_labelled least r) (length least)) 0 0) 0) r only.1 in
          let low = least_le (get_or (numbers_where (is_labelled least r) (length least)) 0 0) (omega (arith, only.0)) in
          absurd (omega arith)

  pub parts_start : AreParts g least 0 []
  parts_start = record {
    heads = refl;
    sized = omega arith;
    each = λ k d h. absurd (omega arith);
    counted = λ w h l. absurd (omega arith);
    uncounted = λ w h l. refl;
  }

  pub parts_push : (v : ℕ) (parts : List Part) (part : Part) → v < g.nodes → get_or least v 0 ≡ v → IsPartOf g least v part → AreParts g least v parts → AreParts g least (v + 1) (parts ++ part ∷ [])
  parts_push v parts part h own of so = record {
    heads = heads;
    sized = sized;
    each = all_end (λ (x : Part). IsPartOf g least (least_node x) x) parts part so.each (subst (λ (n : ℕ). IsPartOf g least n part) (sym head) of);
    counted = λ w l low. counted w l low (cases_eq (get_or least w 0) v);
    uncounted = λ w l high. (let no_here = not_here w l (λ e. omega arith) in let none = so.uncounted w l (omega arith) in count_no (λ x. has_node x w) parts part no_here ∙ none);
  }
    where
      sized : sum_by (λ x. length x.nodes) (parts ++ part ∷ []) ≤ count_by (λ l. nat_lt l (v + 1)) least
      sized =
          let sums : sum_by (λ (x : Part). length x.nodes) (parts ++ part ∷ []) ≡ sum_by (λ (x : Part). length x.nodes) parts + (0 + length part.nodes) = sum_by-append (λ (x : Part). length x.nodes) parts (part ∷ []) in
          let here : length part.nodes ≡ count_by (λ l. l == v) least = ap length of.nodes_are ∙ labelled_count least v in
          let before = so.sized in
          let all = below_next least v in
          omega arith

      head : least_node part ≡ v
      head = head_is v part h own of

      heads : map least_node (parts ++ part ∷ []) ≡ numbers_where (is_own least) (v + 1)
      heads =
          let pass : is_own least v ≡ true = eq-eqb (get_or least v 0) v own in
          let more : numbers_where (is_own least) (v + 1) ≡ numbers_where (is_own least) v ++ v ∷ [] = ap (numbers_where (is_own least)) (add-one v) ∙ ap (λ (b : Bool). cond b (numbers_where (is_own least) v ++ v ∷ []) (numbers_where (is_own least) v)) pass in
          map-append least_node parts (part ∷ []) ∙ (ap (λ (l : List ℕ). l ++ least_node part ∷ []) so.heads ∙ (ap (λ (n : ℕ). numbers_where (is_own least) v ++ n ∷ []) head ∙ sym more))

      has_here : (w : ℕ) → w < g.nodes → has_node part w ≡ is_labelled least v w
      has_here w l = ap (λ (xs : List ℕ). is_some (position (λ n. n == w) xs)) of.nodes_are ∙ those_has (is_labelled least v) (length least) w (let c = labels.count in omega arith)

      not_here : (w : ℕ) → w < g.nodes → get_or least w 0 ≢ v → has_node part w ≡ false
      not_here w l other = has_here w l ∙ ne_eqb (get_or least w 0) v other

      counted : (w : ℕ) → w < g.nodes → get_or least w 0 < v + 1 → (get_or least w 0 ≡ v) ⊎ (get_or least w 0 ≢ v) → count_by (λ part. has_node part w) (parts ++ part ∷ []) ≡ 1
      counted w l low (inl is) =
          let none : count_by (λ x. has_node x w) parts ≡ 0 = so.uncounted w l (omega arith) in
          let one : count_by (λ x. has_node x w) (parts ++ part ∷ []) ≡ count_by (λ x. has_node x w) parts + 1 = count_yes (λ x. has_node x w) parts part (has_here w l ∙ eq-eqb (get_or least w 0) v is) in
          omega arith
      counted w l low (inr other) = count_no (λ x. has_node x w) parts part (not_here w l other) ∙ so.counted w l (omega arith)

  pub parts_skip : (v : ℕ) (parts : List Part) → get_or least v 0 ≢ v → AreParts g least v parts → AreParts g least (v + 1) parts
  parts_skip v parts other so = record {
    heads = so.heads ∙ sym same;
    sized = (let before = so.sized in let all = below_next least v in omega arith);
    each = so.each;
    counted = λ w l low. so.counted w l (let no_one = none w l in omega arith);
    uncounted = λ w l high. so.uncounted w l (omega arith);
  }
    where
      none : (w : ℕ) → w < g.nodes → get_or least w 0 ≢ v
      none w l is = other (subst (λ (n : ℕ). get_or least n 0 ≡ n) is (least_own w l))

      same : numbers_where (is_own least) (v + 1) ≡ numbers_where (is_own least) v
      same = ap (numbers_where (is_own least)) (add-one v) ∙ ap (λ (b : Bool). cond b (numbers_where (is_own least) v ++ v ∷ []) (numbers_where (is_own least) v)) (ne_eqb (get_or least v 0) v other)

  module _ (cert : Cert) (so : AreParts g least g.nodes cert.parts) where
    once : (v : ℕ) → v < g.nodes → parts_with cert v ≡ 1
    once v h = so.counted v h (let l = least_le v h in omega arith)

    pub certifies : Certifies g cert
    certifies = record {
      some = (let first : count_by (λ part. has_node part 0) cert.parts ≡ 1 = once 0 (let s = ok.some in omega arith) in let most = count_by-le-length (λ part. has_node part 0) cert.parts in omega arith);
      parts = λ k d h. (so.each k d h).meets;
      once = once;
      ascending = ap ascends so.heads ∙ those_ascends (is_own least) g.nodes;
    }

    pub exact : All (IsExactPart g) cert.parts
    exact k d h = record {
      ratio = λ v e. ratio_is_shown g cert (get_or cert.parts k d) v (record { paired = ok.paired; certifies = certifies; stands = (k, h, get_or_default cert.parts k (get_or cert.parts k d) d h); inside = e });
      lag = (so.each k d h).lags;
      once = (so.each k d h).once;
      in_range = (so.each k d h).in_range;
    }

    pub in_range : IsInRange cert
    in_range = λ k d h. (so.each k d h).in_range

    pub short : IsShort g cert
    short = record {
      walks = λ k d h. (so.each k d h).short;
      nodes = (let a = so.sized in let b = count_by-le-length (λ l. nat_lt l g.nodes) least in let c = labels.count in omega arith);
    }
