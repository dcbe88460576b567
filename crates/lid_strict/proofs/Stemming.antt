-- Stems along an order: what holds of a number where it holds of all that it reads, holds of each number.
use Rattle.std.proofs.Common.{◌≡◌, ◌≢◌, ◌<◌, ◌+◌, ℕ, zero, suc, Bool, List, [], ◌∷◌, ◌++◌, length, map, take, set, get_or, append_assoc, append-nil, inl, inr, refl, sym, ◌∙◌, ap, subst, arith}
use Rattle.std.specs.Prelude.{slice_index, ⊤}
use Rattle.std.proofs.Math.Seq.{take-append_seam, get_or-append_seam}
use Rattle.std.proofs.lemmas.List.{length-append, take_more, get_or-set_same, get_or-set_other}
use Rattle.lid_base.specs.Lists.{Among}
use Rattle.lid_base.proofs.Lists.{among_right, among_push, map_same, map_twice}
use Rattle.lid_design.specs.Network.{Driver, from_input, from_latch, from_cover, from_connection}
use Rattle.lid_design.specs.Feeds.{read_now}
use Rattle.lid_check_digraph.specs.Graphs.{reads_at, IsOrder}
use Rattle.lid_check_digraph.proofs.Lists.{index_take, among_take}
use Rattle.lid_strict.specs.Networks.{driver_at, reads_of}
use Rattle.lid_strict.specs.Stems.{stem_at, stem_by, AreStems}

pub reads_here : (network : List (Driver ℕ)) (k : ℕ) → reads_at (reads_of network) k ≡ read_now (driver_at network k)
reads_here [] k = refl
reads_here (s ∷ network) zero = refl
reads_here (s ∷ network) (suc k) = reads_here network k

-- all but connections are their own stems
abbrev pub IsOwn : Driver ℕ → Type 0
IsOwn (from_input j) = ⊤
IsOwn (from_latch first input) = ⊤
IsOwn (from_cover cover inputs) = ⊤
IsOwn (from_connection other) = ⊥

-- where stems have the bits of their numbers
pub map_stems : (f : ℕ → Bool) (stems ks : List ℕ) → ((a : ℕ) → Among a ks → f (stem_at stems a) ≡ f a) → map f (map (stem_at stems) ks) ≡ map f ks
map_stems f stems ks same = map_twice f (stem_at stems) ks ∙ map_same (λ a. f (stem_at stems a)) f ks same

module _ (network : List (Driver ℕ)) (order : List ℕ) (ordered : IsOrder (reads_of network) order) where
  pub there : (done more : List ℕ) (k : ℕ) → done ++ k ∷ more ≡ order → Among k order
  there done more k e = subst (Among k) e (among_right k done (k ∷ more) (inl refl))

  pub one_more : (done more : List ℕ) (k : ℕ) → done ++ k ∷ more ≡ order → (done ++ k ∷ []) ++ more ≡ order
  one_more done more k e = append_assoc done (k ∷ []) more ∙ e

  -- a number reads what stands before it
  pub before : (done more : List ℕ) (k : ℕ) → done ++ k ∷ more ≡ order → (a : ℕ) → Among a (read_now (driver_at network k)) → Among a done
  before done more k e a read =
      let long : length order ≡ length done + length (k ∷ more) = ap length (sym e) ∙ length-append done (k ∷ more) in
      let h : length done < length order = omega arith in
      let at : slice_index order (length done) ≡ k = ap (λ (xs : List ℕ). get_or xs (length done) 0) (sym e) ∙ get_or-append_seam done k more 0 in
      let reads = subst (Among a) (sym (reads_here network k)) read in
      let took = ordered.earlier (length done) a h (subst (λ (x : ℕ). Among a (reads_at (reads_of network) x)) (sym at) reads) in
      subst (Among a) (ap (take (length done)) (sym e) ∙ take-append_seam done (k ∷ more)) took

  module _ (P : ℕ → Type 0) (step : (k : ℕ) → Among k order → ((a : ℕ) → Among a (read_now (driver_at network k)) → P a) → P k) where
    along_past : (more done : List ℕ) → done ++ more ≡ order → ((a : ℕ) → Among a done → P a) → (k : ℕ) → Among k order → P k
    along_past [] done e all k among = all k (subst (Among k) (sym e ∙ append-nil done) among)
    along_past (x ∷ more) done e all k among = along_past more (done ++ x ∷ []) (one_more done more x e) next k among
      where
        here : P x
        here = step x (there done more x e) (λ b read. all b (before done more x e b read))

        next : (a : ℕ) → Among a (done ++ x ∷ []) → P a
        next a pushed = elim (among_push a x done pushed) [
          | inl earlier ↦ all a earlier
          | inr same ↦ subst P (sym same) here
        ]

    -- what holds of a number where it holds of all that it reads
    pub along : (k : ℕ) → Among k order → P k
    along = along_past order [] refl (λ a none. absurd none)

  -- one more stem is written
  module _ (i : ℕ) (h : i < length order) (stems : List ℕ) (v : ℕ) where
    abbrev number : ℕ
    number = slice_index order i

    other_number : (a : ℕ) → Among a (take i order) → a ≢ number
    other_number a among same = ordered.once i h (subst (λ (x : ℕ). Among x (take i order)) same among)

    keeps : (a : ℕ) → Among a (take i order) → stem_at (set stems number v) a ≡ stem_at stems a
    keeps a among = get_or-set_other stems number a v 0 (other_number a among)

    keeps_by : (k : ℕ) (s : Driver ℕ) → ((a : ℕ) → Among a (read_now s) → Among a (take i order)) → stem_by (set stems number v) k s ≡ stem_by stems k s
    keeps_by k (from_input j) reads = refl
    keeps_by k (from_latch first input) reads = refl
    keeps_by k (from_cover cover inputs) reads = refl
    keeps_by k (from_connection other) reads = keeps other (reads other (inl refl))

    -- what an earlier number reads stands earlier
    reads_earlier : (k : ℕ) → Among k (take i order) → (a : ℕ) → Among a (read_now (driver_at network k)) → Among a (take i order)
    reads_earlier k among a read =
        let at = index_take k i order among in
        let reads = subst (λ (x : ℕ). Among a (reads_at (reads_of network) x)) (sym at.3) (subst (Among a) (sym (reads_here network k)) read) in
        let seen = index_take a at.0 order (ordered.earlier at.0 a at.2 reads) in
        let less : seen.0 < i = (let first = seen.1 in let second = at.1 in omega arith) in
        subst (λ (x : ℕ). Among x (take i order)) seen.3 (among_take order seen.0 i less seen.2)

    reads_now : (a : ℕ) → Among a (read_now (driver_at network number)) → Among a (take i order)
    reads_now a read = ordered.earlier i a h (subst (Among a) (sym (reads_here network number)) read)

    pub stems_next : number < length stems → v ≡ stem_by stems number (driver_at network number) → AreStems network (take i order) stems → AreStems network (take (i + 1) order) (set stems number v)
    stems_next room is so_far k among = elim (among_push k number (take i order) (subst (Among k) (take_more order i 0 h) among)) [
      | inl earlier ↦ keeps k earlier ∙ so_far k earlier ∙ sym (keeps_by k (driver_at network k) (reads_earlier k earlier))
      | inr same ↦ subst (λ (x : ℕ). stem_at (set stems number v) x ≡ stem_by (set stems number v) x (driver_at network x)) (sym same) now
    ]
      where
        now : stem_at (set stems number v) number ≡ stem_by (set stems number v) number (driver_at network number)
        now = get_or-set_same stems number v 0 room ∙ is ∙ sym (keeps_by number (driver_at network number) reads_now)

  module _ (stems : List ℕ) (are : AreStems network order stems) where
    pub stem_is : (k : ℕ) → Among k order → (s : Driver ℕ) → driver_at network k ≡ s → stem_at stems k ≡ stem_by stems k s
    stem_is k among s is = are k among ∙ ap (stem_by stems k) is

    -- what holds of each number that is its own stem, and passes connections, holds of each number with its stem
    module _ (Q : ℕ → ℕ → Type 0) (own : (k : ℕ) → Among k order → (s : Driver ℕ) → driver_at network k ≡ s → IsOwn s → Q k k) (passed : (k other s : ℕ) → Among k order → driver_at network k ≡ from_connection other → Q other s → Q k s) where
      by_driver : (k : ℕ) → Among k order → (s : Driver ℕ) → driver_at network k ≡ s → ((a : ℕ) → Among a (read_now s) → Q a (stem_at stems a)) → Q k (stem_by stems k s)
      by_driver k among (from_input j) is reads = own k among (from_input j) is tt
      by_driver k among (from_latch first input) is reads = own k among (from_latch first input) is tt
      by_driver k among (from_cover cover inputs) is reads = own k among (from_cover cover inputs) is tt
      by_driver k among (from_connection other) is reads = passed k other (stem_at stems other) among is (reads other (inl refl))

      pub by_stems : (k : ℕ) → Among k order → Q k (stem_at stems k)
      by_stems = along (λ k. Q k (stem_at stems k)) (λ k among reads. subst (Q k) (sym (are k among)) (by_driver k among (driver_at network k) refl reads))
