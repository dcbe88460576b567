-- A token that is written into the free place of a station.
use Rattle.std.proofs.Common.{◌≡◌, ◌≢◌, ℕ, ◌+◌, ◌-◌, ◌<◌, ◌≤◌, ◌⊎◌, inl, inr, Bool, cond, List, length, get_or, set, sym, ◌∙◌, ap, subst, arith, lt-ltb, le-ltb, length-set, get_or-set_same, get_or-set_other}
use Rattle.std.specs.Prelude.{Some, slice_get}
use Rattle.std.proofs.lemmas.Bool.{cases_lt}
use Rattle.std.proofs.lemmas.Option.{same_Some}
use Rattle.lid_clock_flat.specs.declared.station.FlatStation.{FlatStation}
use Rattle.lid_clock_flat.specs.Rings.{around, place_at, token_on, RingsAreApart}
use mathlib.Core.Logic.{dite}
use native.Mathlib.Decide.{ℕ_discrete}

-- what a place becomes
pub wrapped_cases : (place cap : ℕ) → ((place < cap) × (around place cap ≡ place)) ⊎ ((cap ≤ place) × (around place cap ≡ place - cap))
wrapped_cases place cap = elim (cases_lt place cap) [
  | inl low ↦ inl (low, ap (λ (b : Bool). cond b place (place - cap)) (lt-ltb place cap low))
  | inr high ↦ inr (high, ap (λ (b : Bool). cond b place (place - cap)) (le-ltb place cap high))
]

-- the places of a station are its own
pub own_place : (x : FlatStation) (i : ℕ) → i ≤ x.cap → (x.base ≤ place_at x i) × (place_at x i < x.base + x.cap)
own_place x i most =
    let headed : x.head < x.cap = x.headed in
    elim (wrapped_cases (x.head + i) x.cap) [
      | inl h ↦ (let is : around (x.head + i) x.cap ≡ x.head + i = h.1 in let low : x.head + i < x.cap = h.0 in (omega arith, omega arith))
      | inr h ↦ (let is : around (x.head + i) x.cap ≡ x.head + i - x.cap = h.1 in let high : x.cap ≤ x.head + i = h.0 in (omega arith, omega arith))
    ]

-- two of them differ
pub other_place : (x : FlatStation) (i j : ℕ) → i < j → j < x.cap → place_at x i ≢ place_at x j
other_place x i j less most same =
    let headed : x.head < x.cap = x.headed in
    let both : around (x.head + i) x.cap ≡ around (x.head + j) x.cap = omega (arith, same) in
    elim (wrapped_cases (x.head + i) x.cap) [
      | inl h ↦ elim (wrapped_cases (x.head + j) x.cap) [
        | inl e ↦ omega (arith, h.0, h.1, e.0, e.1)
        | inr e ↦ omega (arith, h.0, h.1, e.0, e.1)
      ]
      | inr h ↦ elim (wrapped_cases (x.head + j) x.cap) [
        | inl e ↦ omega (arith, h.0, h.1, e.0, e.1)
        | inr e ↦ omega (arith, h.0, h.1, e.0, e.1)
      ]
    ]

-- once the oldest token is gone, each place is the one before
pub next_place : (x new : FlatStation) (i : ℕ) → new.base ≡ x.base → new.cap ≡ x.cap → new.head ≡ around (x.head + 1) x.cap → i + 1 ≤ x.cap → place_at new i ≡ place_at x (i + 1)
next_place x new i base cap head most =
    let headed : x.head < x.cap = x.headed in
    let now : around (new.head + i) new.cap ≡ around (around (x.head + 1) x.cap + i) x.cap = ap (λ (n : ℕ). around (n + i) new.cap) head ∙ ap (around (around (x.head + 1) x.cap + i)) cap in
    elim (wrapped_cases (x.head + 1) x.cap) [
      | inl h ↦ elim (wrapped_cases (around (x.head + 1) x.cap + i) x.cap) [
        | inl e ↦ elim (wrapped_cases (x.head + (i + 1)) x.cap) [
          | inl f ↦ omega (arith, now, base, h.0, h.1, e.0, e.1, f.0, f.1)
          | inr f ↦ omega (arith, now, base, h.0, h.1, e.0, e.1, f.0, f.1)
        ]
        | inr e ↦ elim (wrapped_cases (x.head + (i + 1)) x.cap) [
          | inl f ↦ omega (arith, now, base, h.0, h.1, e.0, e.1, f.0, f.1)
          | inr f ↦ omega (arith, now, base, h.0, h.1, e.0, e.1, f.0, f.1)
        ]
      ]
      | inr h ↦ elim (wrapped_cases (around (x.head + 1) x.cap + i) x.cap) [
        | inl e ↦ elim (wrapped_cases (x.head + (i + 1)) x.cap) [
          | inl f ↦ omega (arith, now, base, h.0, h.1, e.0, e.1, f.0, f.1)
          | inr f ↦ omega (arith, now, base, h.0, h.1, e.0, e.1, f.0, f.1)
        ]
        | inr e ↦ elim (wrapped_cases (x.head + (i + 1)) x.cap) [
          | inl f ↦ omega (arith, now, base, h.0, h.1, e.0, e.1, f.0, f.1)
          | inr f ↦ omega (arith, now, base, h.0, h.1, e.0, e.1, f.0, f.1)
        ]
      ]
    ]

-- places of two stations differ
apart_places : (all : List FlatStation) (places : List ℕ) (s t i j : ℕ) (y x : FlatStation) → RingsAreApart all places → slice_get all s ≡ Some y → slice_get all t ≡ Some x → s ≢ t → i ≤ y.cap → j ≤ x.cap → place_at y i ≢ place_at x j
apart_places all places s t i j y x apart here there other low high same =
    let own = own_place y i low in
    let its = own_place x j high in
    elim (cases_lt s t) [
      | inl before ↦ omega (arith, own.0, own.1, its.0, its.1, apart.apart s t y x here there before, same)
      | inr after ↦ omega (arith, own.0, own.1, its.0, its.1, apart.apart t s x y there here (omega (arith, after, other)), same)
    ]

module _ (all : List FlatStation) (places news : List ℕ) (t token : ℕ) (x : FlatStation) (apart : RingsAreApart all places) (at : slice_get all t ≡ Some x) (room : x.held < x.cap) (is : news ≡ set places (place_at x x.held) token) where
  -- it stands there
  pub written : token_on news x x.held ≡ token
  written =
      let own = own_place x x.held (omega arith) in
      ap (λ (xs : List ℕ). token_on xs x x.held) is
      ∙ get_or-set_same places (place_at x x.held) token 0 (omega (arith, own.1, apart.there t x at))

  elsewhere : (place : ℕ) → place ≢ place_at x x.held → get_or news place 0 ≡ get_or places place 0
  elsewhere place other = ap (λ (xs : List ℕ). get_or xs place 0) is ∙ get_or-set_other places (place_at x x.held) place token 0 other

  -- all tokens that stations hold are as they were
  pub kept : (s i : ℕ) (y : FlatStation) → slice_get all s ≡ Some y → i < y.held → token_on news y i ≡ token_on places y i
  kept s i y here held =
      let most : y.held ≤ y.cap = y.within in
      dite (ℕ_discrete s t)
      (λ same.
      let one : y ≡ x = same_Some y x (sym here ∙ ap (slice_get all) same ∙ at) in
      subst (λ (z : FlatStation). i < z.held → token_on news z i ≡ token_on places z i) (sym one)
      (λ less. elsewhere (place_at x i) (other_place x i x.held less room)) held)
      (λ other. elsewhere (place_at y i) (apart_places all places s t i x.held y x apart here at other (omega arith) (omega arith)))

  -- and so are the free places of others
  pub free_kept : (s : ℕ) (y : FlatStation) → slice_get all s ≡ Some y → s ≢ t → token_on news y y.held ≡ token_on places y y.held
  free_kept s y here other =
      let most : y.held ≤ y.cap = y.within in
      elsewhere (place_at y y.held) (apart_places all places s t y.held x.held y x apart here at other most (omega arith))

  -- as many places as there were
  pub as_many : length news ≡ length places
  as_many = ap length is ∙ length-set places (place_at x x.held) token

-- stations stay apart over as many places
pub apart_over : (all : List FlatStation) (places news : List ℕ) → RingsAreApart all places → length news ≡ length places → RingsAreApart all news
apart_over all places news apart many = record {
  there = λ s x at. omega (arith, apart.there s x at, many);
  apart = apart.apart;
}
