-- A run goes through stalls whose cycles ascend: the stall at its place says who is held.
use Rattle.std.proofs.Common.{◌≡◌, ◌⊎◌, inl, inr, ℕ, suc, ◌+◌, ◌<◌, ◌≤◌, ◌==◌, ◌&&◌, ◌||◌, Bool, true, false, cond, List, length, get_or, Option, Some, None, slice_get, refl, sym, ◌∙◌, ap, subst, true≢false, arith}
use Rattle.std.specs.List.{list_any}
use Rattle.std.proofs.lemmas.Bool.{cases_eq, cases_lt, eq-eqb, eqb-true}
use Rattle.std.proofs.lemmas.List.Folds.{list_any_at, list_any_none}
use Rattle.std.proofs.lemmas.Option.{slice_get_cases, slice_get-get_or, slice_get_within}
use Rattle.lid_stall_text.specs.declared.stalls.Stall.{Stall}
use Rattle.lid_stall_text.specs.Holds.{holds_source, holds_sink, Ascend}
use Rattle.lid_stall.specs.Places.{nobody, due_of, next_place, Divides}

-- a stall of another cycle does not count
other_cycle : (b : Bool) (m n : ℕ) → (m ≡ n → ⊥) → ((m == n) && b) ≡ false
other_cycle b m n other = by (m == n) refl
  where
    by : (e : Bool) → (m == n) ≡ e → (e && b) ≡ false
    by true is = absurd (other (eqb-true m n is))
    by false is = refl

module _ (stalls : List Stall) (place k : ℕ) (ascends : Ascend stalls) (at : Divides stalls place k) where
  -- stalls after the place are of later cycles
  later : (i : ℕ) (due stall : Stall) → place < i → slice_get stalls place ≡ Some due → slice_get stalls i ≡ Some stall → k < stall.cycle
  later i due stall past here is =
      let more = ascends place i due stall past here is in
      let least = at.after place due (omega arith) here in
      omega arith

  module _ (who : Stall → Bool) where
    abbrev says : Stall → Bool
    says stall = (stall.cycle == k) && who stall

    -- what the stall at the place says
    abbrev said : Option Stall → Bool
    said None = false
    said (Some stall) = says stall

    none_says : ((i : ℕ) (stall : Stall) → slice_get stalls i ≡ Some stall → says stall ≡ false) → list_any says stalls ≡ false
    none_says each = list_any_none says stalls (λ i d within. each i (get_or stalls i d) (slice_get-get_or stalls i d within))

    before_says : (i : ℕ) (stall : Stall) → i < place → slice_get stalls i ≡ Some stall → says stall ≡ false
    before_says i stall less is = let past = at.before i stall less is in other_cycle (who stall) stall.cycle k (λ same. absurd (omega arith))

    after_says : (i : ℕ) (due stall : Stall) → place < i → slice_get stalls place ≡ Some due → slice_get stalls i ≡ Some stall → says stall ≡ false
    after_says i due stall past here is = let more = later i due stall past here is in other_cycle (who stall) stall.cycle k (λ same. absurd (omega arith))

    -- no stall but that at the place says something
    only_says : (due : Stall) → slice_get stalls place ≡ Some due → says due ≡ false → list_any says stalls ≡ false
    only_says due here quiet = none_says (λ i stall is. by_place i stall is (cases_lt i place) (cases_lt place i))
      where
        by_place : (i : ℕ) (stall : Stall) → slice_get stalls i ≡ Some stall → (i < place) ⊎ (place ≤ i) → (place < i) ⊎ (i ≤ place) → says stall ≡ false
        by_place i stall is (inl less) _ = before_says i stall less is
        by_place i stall is (inr _) (inl past) = after_says i due stall past here is
        by_place i stall is (inr least) (inr most) =
            let same : i ≡ place = omega arith in
            let both : Some stall ≡ Some due = sym is ∙ ap (slice_get stalls) same ∙ here in
            let one : due ≡ stall = cc in
            subst (λ (x : Stall). says x ≡ false) one quiet

    pub says_at : list_any says stalls ≡ said (slice_get stalls place)
    says_at = by_place (slice_get_cases stalls place).1
      where
        by_due : (due : Stall) → place < length stalls → slice_get stalls place ≡ Some due → get_or stalls place due ≡ due → (b : Bool) → says due ≡ b → list_any says stalls ≡ says due
        by_due due within here is true e = list_any_at says stalls place due within (ap says is ∙ e) ∙ sym e
        by_due due within here is false e = only_says due here e ∙ sym e

        by_place : ((due : Stall) × (place < length stalls) × (slice_get stalls place ≡ Some due) × (get_or stalls place due ≡ due)) ⊎ ((length stalls ≤ place) × (slice_get stalls place ≡ None)) → list_any says stalls ≡ said (slice_get stalls place)
        by_place (inl found) = by_due found.0 found.1 found.2 found.3 (says found.0) refl ∙ ap said (sym found.2)
        by_place (inr past) =
            none_says (λ i stall is. let within = slice_get_within stalls i stall is in before_says i stall (omega (arith, past.0)) is)
            ∙ ap said (sym past.1)

  -- so it says who is held
  due_says : (who : Stall → Bool) → who (nobody k) ≡ false → (due : Option Stall) → said who due ≡ who (due_of due k)
  due_says who none None = sym none
  due_says who none (Some stall) = by (stall.cycle == k)
    where
      by : (b : Bool) → (b && who stall) ≡ who (cond b stall (nobody k))
      by true = refl
      by false = sym none

  pub source_due : holds_source stalls k ≡ (due_of (slice_get stalls place) k).source
  source_due = says_at (λ stall. stall.source) ∙ due_says (λ stall. stall.source) refl (slice_get stalls place)

  pub sink_due : holds_sink stalls k ≡ (due_of (slice_get stalls place) k).sink
  sink_due = says_at (λ stall. stall.sink) ∙ due_says (λ stall. stall.sink) refl (slice_get stalls place)

  -- and the next place divides the stalls at the next cycle
  still : ((due : Stall) → slice_get stalls place ≡ Some due → due.cycle ≡ k → ⊥) → Divides stalls place (suc k)
  still none = record {
    most = at.most;
    before = λ i stall less is. let past = at.before i stall less is in omega arith;
    after = λ i stall least is. by_place i stall is (cases_lt place i) least;
  }
    where
      by_place : (i : ℕ) (stall : Stall) → slice_get stalls i ≡ Some stall → (place < i) ⊎ (i ≤ place) → place ≤ i → suc k ≤ stall.cycle
      by_place i stall is (inr most) least =
          let same : i ≡ place = omega arith in
          let due = at.after i stall least is in
          let here : slice_get stalls place ≡ Some stall = ap (slice_get stalls) (sym same) ∙ is in
          by_cycle here due (cases_eq stall.cycle k)
        where
          by_cycle : slice_get stalls place ≡ Some stall → k ≤ stall.cycle → (stall.cycle ≡ k) ⊎ (stall.cycle ≡ k → ⊥) → suc k ≤ stall.cycle
          by_cycle here due (inl same) = absurd (none stall here same)
          by_cycle here due (inr other) = omega (arith, other)
      by_place i stall is (inl past) least = by_first (slice_get_cases stalls place).1
        where
          by_first : ((due : Stall) × (place < length stalls) × (slice_get stalls place ≡ Some due) × (get_or stalls place due ≡ due)) ⊎ ((length stalls ≤ place) × (slice_get stalls place ≡ None)) → suc k ≤ stall.cycle
          by_first (inl found) = let more = later i found.0 stall past found.2 is in omega arith
          by_first (inr none) = let within = slice_get_within stalls i stall is in absurd (omega (arith, none.0))

  moved : (due : Stall) → slice_get stalls place ≡ Some due → due.cycle ≡ k → Divides stalls (place + 1) (suc k)
  moved due here same = record {
    most = let within = slice_get_within stalls place due here in omega arith;
    before = λ i stall less is. by_place i stall is (cases_lt i place) less;
    after = λ i stall least is. let more = later i due stall (omega arith) here is in omega arith;
  }
    where
      by_place : (i : ℕ) (stall : Stall) → slice_get stalls i ≡ Some stall → (i < place) ⊎ (place ≤ i) → i < place + 1 → stall.cycle < suc k
      by_place i stall is (inl less) _ = let past = at.before i stall less is in omega arith
      by_place i stall is (inr least) most =
          let at_place : i ≡ place = omega arith in
          let both : Some stall ≡ Some due = sym is ∙ ap (slice_get stalls) at_place ∙ here in
          let one : stall ≡ due = cc in
          let cycle : stall.cycle ≡ k = ap (λ (x : Stall). x.cycle) one ∙ same in
          omega arith

  pub divides_on : Divides stalls (next_place (slice_get stalls place) place k) (suc k)
  divides_on = by_due (slice_get stalls place) refl
    where
      by_cycle : (due : Stall) → slice_get stalls place ≡ Some due → (b : Bool) → (due.cycle == k) ≡ b → Divides stalls (cond b (place + 1) place) (suc k)
      by_cycle due here true e = moved due here (eqb-true due.cycle k e)
      by_cycle due here false e = still other_than
        where
          other_than : (other : Stall) → slice_get stalls place ≡ Some other → other.cycle ≡ k → ⊥
          other_than other there same =
              let both : Some due ≡ Some other = sym here ∙ there in
              let one : due ≡ other = cc in
              true≢false (sym (eq-eqb due.cycle k (ap (λ (x : Stall). x.cycle) one ∙ same)) ∙ e)

      by_due : (due : Option Stall) → slice_get stalls place ≡ due → Divides stalls (next_place due place k) (suc k)
      by_due None here = still (λ due there same. let both : None ≡ Some due = sym here ∙ there in absurd cc)
      by_due (Some due) here = by_cycle due here (due.cycle == k) refl

-- a cycle counts as stalled only where the place moves on
pub counted_moves : (due : Option Stall) (place k : ℕ) → place + cond ((due_of due k).source || (due_of due k).sink) 1 0 ≤ next_place due place k
counted_moves None place k = omega arith
counted_moves (Some stall) place k = by (stall.cycle == k)
  where
    by_one : (b : Bool) → place + cond b 1 0 ≤ place + 1
    by_one true = omega arith
    by_one false = omega arith

    by : (b : Bool) → place + cond ((cond b stall (nobody k)).source || (cond b stall (nobody k)).sink) 1 0 ≤ cond b (place + 1) place
    by true = by_one (stall.source || stall.sink)
    by false = omega arith
