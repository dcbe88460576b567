-- Registers are flat parts.
use Rattle.std.proofs.Common.{◌≡◌, ◌⊎◌, ℕ, zero, suc, ◌+◌, ◌<◌, ◌≤◌, ◌==◌, Bool, true, false, cond, List, [], ◌∷◌, ◌++◌, length, inl, inr, refl, sym, ◌∙◌, ap, subst, arith}
use Rattle.std.specs.List.{AllByRecursion}
use Rattle.std.proofs.Math.Nat.{eq-or-lt_of_le}
use Rattle.std.proofs.lemmas.Bool.{eqb-true, eq-eqb, cases_order}
use Rattle.std.proofs.lemmas.List.{length-append}
use Rattle.lid_base.specs.Lists.{Among}
use Rattle.lid_base.proofs.Lists.{among_left, among_right, all_among}
use Rattle.lid_cover.specs.declared.Cover.{Cover}
use Rattle.lid_cover.specs.Cover.{IsCover}
use Rattle.lid_design.specs.declared.Flat.{Flat}
use Rattle.lid_design.specs.declared.FlatLatch.{FlatLatch}
use Rattle.lid_design.specs.declared.FlatCover.{FlatCover}
use Rattle.lid_design.specs.Network.{Driver, from_input, from_latch, from_cover}
use Rattle.lid_design.specs.Walks.{IsDrivenOnce}
use Rattle.lid_design.specs.Feeds.{read_now, EdgesLead}
use Rattle.lid_design.specs.Flat.{inputs_at, flat_drivers, IsFlat}
use Rattle.lid_design.proofs.Parts.{latch_drives}
use Rattle.lid_pearl.proofs.Marking.{same_driver}
use Rattle.lid_system_tests.specs.Registers.{nets_from, register}
use Rattle.lid_base.proofs.Alls.{all_from_among}

pub nets_more : (k n : ℕ) → nets_from k (n + 1) ≡ nets_from k n ++ (k + n) ∷ []
nets_more k zero = ap (λ (m : ℕ). m ∷ []) (omega arith)
nets_more k (suc n) =
    let next : suc n + 1 ≡ suc (n + 1) = omega arith in
    let place : (k + 1) + n ≡ k + suc n = omega arith in
    ap (nets_from k) next ∙ ap (λ (ns : List ℕ). k ∷ ns) (nets_more (k + 1) n ∙ ap (λ (m : ℕ). nets_from (k + 1) n ++ m ∷ []) place)

among_nets : (k n x : ℕ) → k ≤ x → x < k + n → Among x (nets_from k n)
among_nets k zero x low high = absurd (omega arith)
among_nets k (suc n) x low high = by (eq-or-lt_of_le low) (λ less. among_nets (k + 1) n x (omega arith) (omega arith))
  where
    by : (k ≡ x) ⊎ (k < x) → (k < x → Among x (nets_from (k + 1) n)) → (x ≡ k) ⊎ Among x (nets_from (k + 1) n)
    by (inl same) next = inl (sym same)
    by (inr less) next = inr (next less)

nets_below : (k n x : ℕ) → Among x (nets_from k n) → x < k + n
nets_below k zero x among = absurd among
nets_below k (suc n) x (inl same) = (let e : x ≡ k = same in omega arith)
nets_below k (suc n) x (inr later) = (let h = nets_below (k + 1) n x later in omega arith)

abbrev one_if : Bool → Driver ℕ → List (Driver ℕ)
one_if b s = cond b (s ∷ []) []

-- no input has a number outside theirs, and each of theirs is one input
no_input : (k j p n : ℕ) → (k < p) ⊎ (p + n ≤ k) → length (inputs_at k j (nets_from p n)) ≡ 0
no_input k j p zero out = refl
no_input k j p (suc n) out = by (p == k) refl out (λ o. no_input k (j + 1) (p + 1) n o)
  where
    further : (k < p) ⊎ (p + suc n ≤ k) → (k < p + 1) ⊎ ((p + 1) + n ≤ k)
    further (inl low) = inl (omega arith)
    further (inr high) = inr (omega arith)

    clash : (k < p) ⊎ (p + suc n ≤ k) → p ≡ k → ⊥
    clash (inl low) e = omega arith
    clash (inr high) e = omega arith

    by : (b : Bool) → (p == k) ≡ b → (k < p) ⊎ (p + suc n ≤ k) → ((k < p + 1) ⊎ ((p + 1) + n ≤ k) → length (inputs_at k (j + 1) (nets_from (p + 1) n)) ≡ 0) → length (one_if b (from_input j) ++ inputs_at k (j + 1) (nets_from (p + 1) n)) ≡ 0
    by true e out next = absurd (clash out (eqb-true p k e))
    by false e out next = next (further out)

one_input : (k j p n : ℕ) → p ≤ k → k < p + n → length (inputs_at k j (nets_from p n)) ≡ 1
one_input k j p zero low high = absurd (omega arith)
one_input k j p (suc n) low high = by (p == k) refl (λ low. one_input k (j + 1) (p + 1) n low (omega arith))
  where
    by : (b : Bool) → (p == k) ≡ b → (p + 1 ≤ k → length (inputs_at k (j + 1) (nets_from (p + 1) n)) ≡ 1) → length (one_if b (from_input j) ++ inputs_at k (j + 1) (nets_from (p + 1) n)) ≡ 1
    by true e next = (let same = eqb-true p k e in let none = no_input k (j + 1) (p + 1) n (inl (omega arith)) in ap suc none)
    by false e next = next (elim (eq-or-lt_of_le low) [ inl same ↦ absurd (let f : (p == k) ≡ true = eq-eqb p k same in let g : true ≡ false = sym f ∙ e in cc) | inr less ↦ omega arith ])

eqb_no : (a b : ℕ) → (a ≡ b → ⊥) → (a == b) ≡ false
eqb_no a b differ = by (a == b) refl
  where
    by : (c : Bool) → (a == b) ≡ c → c ≡ false
    by true e = absurd (differ (eqb-true a b e))
    by false e = refl

module _ (n : ℕ) (init : Bool) (reads : List ℕ) (cover : Cover) (outs : List ℕ) where
  abbrev part : Flat
  part = register n init reads cover outs

  abbrev latch_there : Driver ℕ
  latch_there = from_latch init (n + 1)

  abbrev cover_there : Driver ℕ
  cover_there = from_cover cover reads

  -- the register, of parts that equal its own
  pub register_of_parts : (ins outs' : List ℕ) (latches : List FlatLatch) (covers : List FlatCover) → ins ≡ part.ins → outs' ≡ outs → latches ≡ part.latches → covers ≡ part.covers → record { nets = n + 2; ins = ins; outs = outs'; latches = latches; covers = covers } ≡ part
  register_of_parts ins outs' latches covers a b c d =
      ap (λ (ins : List ℕ). record { nets = n + 2; ins = ins; outs = outs'; latches = latches; covers = covers }) a
      ∙ ap (λ (outs : List ℕ). record { nets = n + 2; ins = part.ins; outs = outs; latches = latches; covers = covers }) b
      ∙ ap (λ (latches : List FlatLatch). record { nets = n + 2; ins = part.ins; outs = outs; latches = latches; covers = covers }) c
      ∙ ap (λ (covers : List FlatCover). record { nets = n + 2; ins = part.ins; outs = outs; latches = part.latches; covers = covers }) d

  one_driver : (k : ℕ) → (k < n + 2 → length (flat_drivers part k) ≡ 1) × (n + 2 ≤ k → length (flat_drivers part k) ≡ 0)
  unfolding flat_drivers
  one_driver k = by (cases_order k n)
    where
      lengths : (a b : Bool) → length (inputs_at k 0 (nets_from 0 n) ++ ((one_if a latch_there ++ []) ++ (one_if b cover_there ++ []))) ≡ length (inputs_at k 0 (nets_from 0 n)) + (length (one_if a latch_there ++ []) + length (one_if b cover_there ++ []))
      lengths a b =
          let one = length-append (inputs_at k 0 (nets_from 0 n)) ((one_if a latch_there ++ []) ++ (one_if b cover_there ++ [])) in
          let two = length-append (one_if a latch_there ++ []) (one_if b cover_there ++ []) in
          omega arith

      counts : (a b : Bool) → (n == k) ≡ a → (n + 1 == k) ≡ b → length (inputs_at k 0 (nets_from 0 n) ++ ((one_if (n == k) latch_there ++ []) ++ (one_if (n + 1 == k) cover_there ++ []))) ≡ length (inputs_at k 0 (nets_from 0 n)) + (length (one_if a latch_there ++ []) + length (one_if b cover_there ++ []))
      counts a b e e' =
          lengths (n == k) (n + 1 == k)
          ∙ ap (λ (a : Bool). length (inputs_at k 0 (nets_from 0 n)) + (length (one_if a latch_there ++ []) + length (one_if (n + 1 == k) cover_there ++ []))) e
          ∙ ap (λ (b : Bool). length (inputs_at k 0 (nets_from 0 n)) + (length (one_if a latch_there ++ []) + length (one_if b cover_there ++ []))) e'

      above : n < k → (k ≡ n + 1) ⊎ (n + 1 < k) → (k < n + 2 → length (flat_drivers part k) ≡ 1) × (n + 2 ≤ k → length (flat_drivers part k) ≡ 0)
      above h (inl same) =
          let none = no_input k 0 0 n (inr (omega arith)) in
          let all = counts false true (eqb_no n k (λ e. omega arith)) (eq-eqb (n + 1) k (sym same)) in
          ((λ low. omega arith), (λ high. absurd (omega arith)))
      above h (inr high) =
          let none = no_input k 0 0 n (inr (omega arith)) in
          let all = counts false false (eqb_no n k (λ e. omega arith)) (eqb_no (n + 1) k (λ e. omega arith)) in
          ((λ low. absurd (omega arith)), (λ high'. omega arith))

      by : (k ≡ n) ⊎ ((k < n) ⊎ (n < k)) → (k < n + 2 → length (flat_drivers part k) ≡ 1) × (n + 2 ≤ k → length (flat_drivers part k) ≡ 0)
      by (inl same) =
          let none = no_input k 0 0 n (inr (omega arith)) in
          let all = counts true false (eq-eqb n k (sym same)) (eqb_no (n + 1) k (λ e. omega arith)) in
          ((λ low. omega arith), (λ high. absurd (omega arith)))
      by (inr (inl low)) =
          let one = one_input k 0 0 n (omega arith) (omega arith) in
          let all = counts false false (eqb_no n k (λ e. omega arith)) (eqb_no (n + 1) k (λ e. omega arith)) in
          ((λ low'. omega arith), (λ high. absurd (omega arith)))
      by (inr (inr high)) = above high (next_case high)
        where
          next_case : n < k → (k ≡ n + 1) ⊎ (n + 1 < k)
          next_case high = elim (eq-or-lt_of_le {n = n + 1} {m = k} (omega arith)) [ inl same ↦ inl (sym same) | inr more ↦ inr more ]

  module _ (small : AllByRecursion (λ k. k < n + 1) reads) (rules : IsCover cover) (wide : cover.inputs ≡ length reads) (given : AllByRecursion (λ k. k ≡ n) outs) where
    once : IsDrivenOnce (flat_drivers part)
    once k = elim (cases_order k (n + 1)) [
      | inl same ↦ (let one = (one_driver k).0 (omega arith) in omega arith)
      | inr more ↦ by more
    ]
      where
        by : (k < n + 1) ⊎ (n + 1 < k) → length (flat_drivers part k) ≤ 1
        by (inl low) = (let one = (one_driver k).0 (omega arith) in omega arith)
        by (inr high) = (let none = (one_driver k).1 (omega arith) in omega arith)

    only_latch : (a b : ℕ) → b ≡ n → (s : Driver ℕ) → Among s (flat_drivers part b) → Among a (read_now s) → ⊥
    only_latch a b same s among read =
        let there : Among latch_there (flat_drivers part b) = subst (λ (k : ℕ). Among latch_there (flat_drivers part k)) (sym same) (latch_drives part (record { input = n + 1; out = n; init = init }) (inl refl)) in
        subst (λ (s : Driver ℕ). Among a (read_now s)) (same_driver (flat_drivers part b) s latch_there (once b) among there) read

    apart : (m input output : ℕ) → Among input (nets_from 0 n) → Among output outs → EdgesLead (flat_drivers part) m input output → ⊥
    apart zero input output here there w =
        let low = nets_below 0 n input here in
        let out : output ≡ n = all_among (λ k. k ≡ n) outs output given there in
        let same : input ≡ output = w in
        omega arith
    apart (suc m) input output here there w = only_latch w.0 output (all_among (λ k. k ≡ n) outs output given there) w.2.0 w.2.1 w.2.2

    pub register_is_flat : IsFlat part
    register_is_flat = record {
      below = record {
        ins = all_from_among (λ k. k < n + 2) (nets_from 0 n) (λ k among. (let low = nets_below 0 n k among in omega arith));
        outs = all_from_among (λ k. k < n + 2) outs (λ k among. (let out : k ≡ n = all_among (λ k. k ≡ n) outs k given among in omega arith));
        latches = ((omega arith, omega arith), tt);
        covers = ((all_from_among (λ k. k < n + 2) reads (λ k among. (let low : k < n + 1 = all_among (λ k. k < n + 1) reads k small among in omega arith)), omega arith), tt);
      };
      once = once;
      driven = λ k h. (let one = (one_driver k).0 h in omega arith);
      earlier = (all_from_among (λ k. Among k (nets_from 0 n ++ n ∷ [])) reads (λ k among. known k (all_among (λ k. k < n + 1) reads k small among)), tt);
      apart = apart;
      covers = ((rules, wide), tt);
    }
      where
        known : (k : ℕ) → k < n + 1 → Among k (nets_from 0 n ++ n ∷ [])
        known k low = elim (cases_order k n) [
          | inl same ↦ among_right k (nets_from 0 n) (n ∷ []) (inl same)
          | inr more ↦ elim more [ inl less ↦ among_left k (nets_from 0 n) (n ∷ []) (among_nets 0 n k (omega arith) (omega arith)) | inr high ↦ absurd (omega arith) ]
        ]

pub length_nets : (k n : ℕ) → length (nets_from k n) ≡ n
length_nets k zero = refl
length_nets k (suc n) = ap suc (length_nets (k + 1) n)
