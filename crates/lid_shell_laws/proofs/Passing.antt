-- Lists of stations by who drains or fills them: a mover drains one station and fills the next.
use Rattle.std.proofs.Common.{◌≡◌, ℕ, zero, suc, ◌+◌, ◌<◌, ◌≤◌, ◌⊎◌, inl, inr, ◌==◌, Bool, true, false, cond, List, [], ◌∷◌, ◌++◌, length, filter, true≢false, refl, sym, ◌∙◌, ap, arith}
use Rattle.std.proofs.lemmas.Bool.{cases_eq, eqb-true, eq-eqb}
use Rattle.std.proofs.lemmas.List.Elements.{filter-append}
use Rattle.lid_base.specs.Each.{from_each}
use Rattle.lid_system.specs.declared.System.{System}
use Rattle.lid_system.specs.Systems.{IsWellFormed}
use Rattle.lid_system.specs.Streams.{token_at}
use Rattle.lid_stations.specs.declared.placement.Placement.{Placement}
use Rattle.lid_stations.specs.Placements.{links_of, station_count, Fits}
use Rattle.lid_stations.specs.Stations.{channel_at, actor_count, filler, drainer}
use Rattle.lid_stations.specs.Laws.{CarriesOn}
use Rattle.lid_stations.proofs.Movers.{carries}
use Rattle.lid_shell_laws.specs.Laws.{MovesOn}
use Rattle.lid_base.proofs.Each.{each_append}

-- where a test fails at each of so many numbers, none is left
pub none_pass : (f : ℕ → Bool) (first n : ℕ) → ((j : ℕ) → first ≤ j → j < first + n → f j ≡ false) → filter f (from_each (λ j. j) first n) ≡ []
none_pass f first zero fail = refl
none_pass f first (suc n) fail =
    ap (λ (b : Bool). let rest = filter f (from_each (λ j. j) (first + 1) n) in cond b (first ∷ rest) rest) (fail first (omega arith) (omega arith))
    ∙ none_pass f (first + 1) n (λ j least most. fail j (omega arith) (omega arith))

-- where it passes at one alone, that is left
pub one_passes : (f : ℕ → Bool) (first n i : ℕ) → first ≤ i → i < first + n → f i ≡ true → ((j : ℕ) → first ≤ j → j < first + n → f j ≡ true → j ≡ i) → filter f (from_each (λ j. j) first n) ≡ i ∷ []
one_passes f first zero i least most pass one = absurd (omega arith)
one_passes f first (suc n) i least most pass one = by_head (f first) refl (cases_eq first i) (λ above below. one_passes f (first + 1) n i above below pass (λ j more less passes. one j (omega arith) (omega arith) passes))
  where
    rest : List ℕ
    rest = filter f (from_each (λ j. j) (first + 1) n)

    no_more : first ≡ i → (j : ℕ) → first + 1 ≤ j → j < (first + 1) + n → (b : Bool) → f j ≡ b → b ≡ false
    no_more same j above below true is = absurd (let e = one j (omega arith) (omega arith) is in omega arith)
    no_more same j above below false is = refl

    by_head : (b : Bool) → f first ≡ b → (first ≡ i) ⊎ (first ≡ i → ⊥) → (first + 1 ≤ i → i < (first + 1) + n → rest ≡ i ∷ []) → cond b (first ∷ rest) rest ≡ i ∷ []
    by_head true is (inl same) later = ap (λ (xs : List ℕ). first ∷ xs) (none_pass f (first + 1) n (λ j above below. no_more same j above below (f j) refl)) ∙ ap (λ (j : ℕ). j ∷ []) same
    by_head true is (inr other) later = absurd (other (one first (omega arith) (omega arith) is))
    by_head false is (inl same) later = absurd (true≢false (sym pass ∙ ap f (sym same) ∙ is))
    by_head false is (inr other) later = later (omega (arith, other)) (omega arith)

-- of so many numbers and one more, at most the last passes
pub last_alone : (f : ℕ → Bool) (first n : ℕ) → ((j : ℕ) → first ≤ j → j < first + n → f j ≡ false) → filter f (from_each (λ j. j) first (n + 1)) ≡ cond (f (first + n)) ((first + n) ∷ []) []
last_alone f first n fail =
    ap (filter f) (each_append (λ j. j) first n 1)
    ∙ filter-append f (from_each (λ j. j) first n) ((first + n) ∷ [])
    ∙ ap (λ (xs : List ℕ). xs ++ filter f ((first + n) ∷ [])) (none_pass f first n fail)

-- or at most the first
pub first_alone : (f : ℕ → Bool) (first n : ℕ) → ((j : ℕ) → first + 1 ≤ j → j < (first + 1) + n → f j ≡ false) → filter f (from_each (λ j. j) first (n + 1)) ≡ cond (f first) (first ∷ []) []
first_alone f first n fail =
    (let e : n + 1 ≡ suc n = omega arith in ap (λ (m : ℕ). filter f (from_each (λ j. j) first m)) e)
    ∙ ap (λ (xs : List ℕ). cond (f first) (first ∷ xs) xs) (none_pass f (first + 1) n fail)

pub moves_on : (s : System) (p : Placement) (mover station : ℕ) → CarriesOn s p mover station → MovesOn s p mover station
moves_on s p mover station on = record {
  drained = one_passes (λ n. drainer (links_of s) p n == mover) 0 (station_count p.relays) station (omega arith) (omega (arith, on.next)) (eq-eqb _ _ on.drained)
      (λ j above below passes. on.drains_one j (omega arith) (eqb-true _ _ passes));
  filled = one_passes (λ n. filler (links_of s) p n == mover) 0 (station_count p.relays) (station + 1) (omega arith) (omega (arith, on.next)) (eq-eqb _ _ on.filled)
      (λ j above below passes. on.fills_one j (omega arith) (eqb-true _ _ passes));
  tokens = λ b i. ap (λ (c : ℕ). token_at s b (channel_at (links_of s) c) i) on.channel;
}

pub movers_move_on : (s : System) (p : Placement) (mover : ℕ) → IsWellFormed s → Fits s p → length s.nodes ≤ mover → mover < actor_count (links_of s) p → (station : ℕ) × MovesOn s p mover station
movers_move_on s p mover well fits past below = from (carries s p well fits mover past below)
  where
    from : (station : ℕ) × CarriesOn s p mover station → (station : ℕ) × MovesOn s p mover station
    from found = (found.0, moves_on s p mover found.0 found.1)
