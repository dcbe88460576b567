-- The law of strict tables: where no walk has n edges, a network that drives no column twice has a
-- strict table, and one whose reads are driven has at most one.
use Rattle.std.proofs.Common.{◌≡◌, ℕ, zero, suc, ◌<◌, ◌≤◌, inl, Bool, false, List, [], ◌∷◌, length, map, get_or, refl, sym, ◌∙◌, ap, arith}
use Rattle.std.specs.List.{AllByRecursion}
use Rattle.lid_base.specs.Lists.{Among}
use Rattle.lid_base.proofs.Lists.{among_left, among_right, all_among, some_item, map_same}
use Rattle.lid_cover.specs.Cover.{cover_value}
use Rattle.lid_design.specs.Network.{Driver, from_input, from_latch, from_cover, from_connection, Table, latch_bit, bit_of, IsStrict}
use Rattle.lid_design.specs.Walks.{read_before, HasNoWalk, WalksEnd, IsDriven, IsDrivenOnce, AreReadsDriven, HasTable, HasOneTable}
use Rattle.lid_design.specs.Feeds.{read_now, Feeds, EdgesLead}

-- what a driver gives, from the input row, the latch bits and the bits of the same row
abbrev pub bit_by : {C : Type 0} → List Bool → (Bool → C → Bool) → (C → Bool) → Driver C → Bool
bit_by row latch now (from_input j) = get_or row j false
bit_by row latch now (from_latch first input) = latch first input
bit_by row latch now (from_cover cover inputs) = cover_value cover (map now inputs)
bit_by row latch now (from_connection c) = now c

-- what the first driver gives
abbrev pub first_by : {C : Type 0} → (Driver C → Bool) → List (Driver C) → Bool
first_by bit [] = false
first_by bit (s ∷ ss) = bit s

-- what the latches give in a row, from the rows before
abbrev pub latch_by : {C : Type 0} → Table C → ℕ → Bool → C → Bool
latch_by b zero first input = first
latch_by b (suc t) first input = b t input

bit_by_agree : {C : Type 0} (row : List Bool) (latch : Bool → C → Bool) (f g : C → Bool) (s : Driver C) → ((a : C) → Among a (read_now s) → f a ≡ g a) → bit_by row latch f s ≡ bit_by row latch g s
bit_by_agree row latch f g (from_input j) agree = refl
bit_by_agree row latch f g (from_latch first input) agree = refl
bit_by_agree row latch f g (from_cover cover inputs) agree = ap (cover_value cover) (map_same f g inputs agree)
bit_by_agree row latch f g (from_connection c) agree = agree c (inl refl)

first_by_agree : {C : Type 0} (f g : Driver C → Bool) (ss : List (Driver C)) → ((s : Driver C) → Among s ss → f s ≡ g s) → first_by f ss ≡ first_by g ss
first_by_agree f g [] agree = refl
first_by_agree f g (s ∷ ss) agree = agree s (inl refl)

-- a bit that the first of at most one driver gives is that of each
all_from_first : {C : Type 0} (v : Bool) (bit : Driver C → Bool) (ss : List (Driver C)) → length ss ≤ 1 → v ≡ first_by bit ss → AllByRecursion (λ s. v ≡ bit s) ss
all_from_first v bit [] once e = tt
all_from_first v bit (s ∷ []) once e = (e, tt)
all_from_first v bit (s ∷ r ∷ ss) once e = absurd (omega arith)

-- two tables give a driver's bit alike where they agree on what it reads
bit_of_agree : {C : Type 0} (rows : List (List Bool)) (b b' : Table C) (t : ℕ) (s : Driver C) → ((a : C) → Among a (read_now s) → b t a ≡ b' t a) → ((first : Bool) (a : C) → Among a (read_before s) → latch_bit b first a t ≡ latch_bit b' first a t) → bit_of rows b t s ≡ bit_of rows b' t s
bit_of_agree rows b b' t (from_input j) now before = refl
bit_of_agree rows b b' t (from_latch first input) now before = before first input (inl refl)
bit_of_agree rows b b' t (from_cover cover inputs) now before = ap (cover_value cover) (map_same (b t) (b' t) inputs now)
bit_of_agree rows b b' t (from_connection c) now before = now c (inl refl)

module _ {C : Type 0} (drivers : C → List (Driver C)) where
  -- a row after so many steps
  abbrev pub settled : List Bool → (Bool → C → Bool) → ℕ → C → Bool
  settled row latch zero c = false
  settled row latch (suc k) c = first_by (bit_by row latch (settled row latch k)) (drivers c)

  -- the table that takes n steps in each row
  abbrev pub table_of : ℕ → List (List Bool) → Table C
  table_of n rows zero c = settled (get_or rows zero []) (λ first input. first) n c
  table_of n rows (suc t) c = settled (get_or rows (suc t) []) (λ first input. table_of n rows t input) n c

  -- where no walk of k edges ends, the bit is settled after k steps
  settled_stays : (row : List Bool) (latch : Bool → C → Bool) (k : ℕ) (c : C) → HasNoWalk drivers k c → settled row latch k c ≡ settled row latch (suc k) c
  settled_stays row latch zero c none = absurd (none c refl)
  settled_stays row latch (suc k) c none =
      first_by_agree
      (bit_by row latch (settled row latch k))
      (bit_by row latch (settled row latch (suc k)))
      (drivers c)
      (λ s i. bit_by_agree row latch (settled row latch k) (settled row latch (suc k)) s (λ a j. settled_stays row latch k a (λ z w. none z (a, w, (s, i, j)))))

  bit_of_table : (n : ℕ) (rows : List (List Bool)) (t : ℕ) (s : Driver C) → bit_by (get_or rows t []) (latch_by (table_of n rows) t) (table_of n rows t) s ≡ bit_of rows (table_of n rows) t s
  bit_of_table n rows t (from_input j) = refl
  bit_of_table n rows zero (from_latch first input) = refl
  bit_of_table n rows (suc t) (from_latch first input) = refl
  bit_of_table n rows t (from_cover cover inputs) = refl
  bit_of_table n rows t (from_connection c) = refl

  table_of_settled : (n : ℕ) (rows : List (List Bool)) (t : ℕ) (c : C) → table_of n rows t c ≡ settled (get_or rows t []) (latch_by (table_of n rows) t) n c
  table_of_settled n rows zero c = refl
  table_of_settled n rows (suc t) c = refl

  -- a network that drives no column twice has a strict table
  pub has_table : (n : ℕ) → WalksEnd drivers n → IsDrivenOnce drivers → HasTable drivers
  has_table n ends once rows = (table_of n rows, λ t c h. all_from_first _ _ (drivers c) (once c) (gives t c))
    where
      gives : (t : ℕ) (c : C) → table_of n rows t c ≡ first_by (bit_of rows (table_of n rows) t) (drivers c)
      gives t c =
          table_of_settled n rows t c
          ∙ settled_stays (get_or rows t []) (latch_by (table_of n rows) t) n c (ends c)
          ∙ first_by_agree
          (bit_by (get_or rows t []) (latch_by (table_of n rows) t) (settled (get_or rows t []) (latch_by (table_of n rows) t) n))
          (bit_of rows (table_of n rows) t)
          (drivers c)
          (λ s i. bit_by_agree (get_or rows t []) (latch_by (table_of n rows) t) (settled (get_or rows t []) (latch_by (table_of n rows) t) n) (table_of n rows t) s (λ a j. sym (table_of_settled n rows t a)) ∙ bit_of_table n rows t s)

  -- where two strict tables agree on what latches read, they agree in the row
  row_agrees : (rows : List (List Bool)) (b b' : Table C) → IsStrict drivers rows b → IsStrict drivers rows b' → AreReadsDriven drivers → (t : ℕ) → t < length rows → ((first : Bool) (a : C) → IsDriven drivers a → latch_bit b first a t ≡ latch_bit b' first a t) → (k : ℕ) (c : C) → HasNoWalk drivers k c → IsDriven drivers c → b t c ≡ b' t c
  row_agrees rows b b' strict strict' driven t h before zero c none is_driven = absurd (none c refl)
  row_agrees rows b b' strict strict' driven t h before (suc k) c none is_driven =
      let one = some_item (drivers c) is_driven in
      let left = all_among (λ s. b t c ≡ bit_of rows b t s) (drivers c) one.0 (strict t c h) one.1 in
      let right = all_among (λ s. b' t c ≡ bit_of rows b' t s) (drivers c) one.0 (strict' t c h) one.1 in
      left
      ∙ bit_of_agree rows b b' t one.0
      (λ a j. row_agrees rows b b' strict strict' driven t h before k a (λ z w. none z (a, w, (one.0, one.1, j))) (driven c one.0 a one.1 (among_left a (read_now one.0) (read_before one.0) j)))
      (λ first a j. before first a (driven c one.0 a one.1 (among_right a (read_now one.0) (read_before one.0) j)))
      ∙ sym right

  -- a network whose reads are driven has at most one strict table on its driven columns
  pub has_one_table : (n : ℕ) → WalksEnd drivers n → AreReadsDriven drivers → HasOneTable drivers
  has_one_table n ends driven rows b b' strict strict' = agree
    where
      agree : (t : ℕ) (c : C) → t < length rows → IsDriven drivers c → b t c ≡ b' t c
      agree zero c h = row_agrees rows b b' strict strict' driven zero h (λ first a d. refl) n c (ends c)
      agree (suc t) c h = row_agrees rows b b' strict strict' driven (suc t) h (λ first a d. agree t a (omega arith) d) n c (ends c)

  -- a rank that rises along each edge
  abbrev pub IsRank : (C → ℕ) → Type 0
  IsRank rank = (a c : C) → Feeds drivers a c → rank a < rank c

  walk_within_rank : (rank : C → ℕ) → IsRank rank → (n : ℕ) (a c : C) → EdgesLead drivers n a c → n ≤ rank c
  walk_within_rank rank rises zero a c w = omega arith
  walk_within_rank rank rises (suc n) a c w =
      let shorter : n ≤ rank w.0 = walk_within_rank rank rises n a w.0 w.1 in
      let edge : rank w.0 < rank c = rises w.0 c w.2 in
      omega arith

  -- where ranks below n rise along each edge, no walk has n edges
  pub walks_end : (rank : C → ℕ) (n : ℕ) → ((c : C) → rank c < n) → IsRank rank → WalksEnd drivers n
  walks_end rank n below rises c a w =
      let within : n ≤ rank c = walk_within_rank rank rises n a c w in
      let limit : rank c < n = below c in
      absurd (omega arith)
