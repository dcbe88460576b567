-- What the numbers that a board and a hand keep are good for.
use Rattle.std.proofs.Common.{◌≡◌, ℕ, zero, suc, ◌+◌, ◌*◌, ◌/◌, ◌%◌, ◌^◌, ◌<◌, List, [], ◌∷◌, length, get_or, refl, sym, ◌∙◌, ap, arith}
use Rattle.std.specs.Prelude.{Option, Some, None, option_map}
use Rattle.std.proofs.lemmas.Option.{get_or_from_slice_get, slice_get_read}
use Rattle.atomic_table.specs.Seated.{TableId}
use Rattle.lid_board.specs.Owners.{IsOwned}
use Rattle.lid_board.specs.Relation.{capacity_of, word_count}
use Rattle.lid_board.specs.Ties.{IsTied, IsLaidTable}
use Rattle.lid_board.specs.Views.{EndTable, at, held, changed}
use Rattle.lid_board.specs.declared.view.EndFacts.{EndFacts}
use Rattle.lid_board.proofs.Frames.{apart, at_changed, at-other}
use mathlib.Core.Logic.{dite}
use native.Mathlib.Decide.{ℕ_discrete}

-- what is there is within the list
pub option_within : {A : Type 0} (xs : List (Option A)) (i : ℕ) (x : A) → get_or xs i None ≡ Some x → i < length xs
option_within [] i x e = absurd (cc)
option_within (y ∷ ys) zero x e = omega arith
option_within (y ∷ ys) (suc i) x e = let l = option_within ys i x e in omega arith

-- the number that a hand keeps of an end that it owns
pub number_there : (numbers : List (Option ℕ)) (ends : EndTable) (end : ℕ) → IsTied numbers ends → IsOwned ends end → get_or numbers end None ≡ Some (held ends end).passed
number_there numbers ends end tied owned = tied end ∙ ap (option_map (λ (h : EndFacts). h.passed)) owned

-- a hand's end is one of a station of its board
pub station_within : (numbers : List (Option ℕ)) (ends : EndTable) (end station stations : ℕ) → IsTied numbers ends → length numbers ≡ 2 * stations → end / 2 ≡ station → IsOwned ends end → station < stations
station_within numbers ends end station stations tied room side owned =
    let inside = option_within numbers end (held ends end).passed (number_there numbers ends end tied owned) in
    omega arith

-- an element that was read, by whatever default
pub read : (xs : List ℕ) (i r : ℕ) → i < length xs → r ≡ get_or xs i r → get_or xs i 0 ≡ r
read xs i r inside is = get_or_from_slice_get xs i r 0 (slice_get_read xs (length xs) i r refl inside is)

-- the word of an end's next token is one of the table
pub spot_within : (plan : EndTable) (caps firsts : List ℕ) (table : TableId) (station first cap passed : ℕ) → IsLaidTable plan caps firsts table → station < length caps
    → first ≡ get_or firsts station first → cap ≡ get_or caps station cap → (first + passed % cap / 2 < table.words) × (first + passed % cap / 2 < 2 ^ 64)
spot_within plan caps firsts table station first cap passed laid there first_is cap_is =
    let many = laid.many in
    let few = laid.few in
    let f : get_or firsts station 0 ≡ first = read firsts station first (omega arith) first_is in
    let c : get_or caps station 0 ≡ cap = read caps station cap there cap_is in
    let size = laid.sizes station there in
    let two = laid.two station there in
    let most = laid.most station there in
    let start = laid.starts station there in
    let low = laid.low station there in
    let words = laid.words in
    let gap = apart plan station (length caps) there in
    let below : passed % cap < cap = omega arith in
    let wide : word_count (capacity_of plan station) ≡ word_count cap = ap word_count (sym size ∙ c) in
    (omega arith, omega arith)

-- a change at an end that keeps the number
pub tied_same : (numbers : List (Option ℕ)) (ends : EndTable) (end : ℕ) (h g : EndFacts) → IsTied numbers ends → at ends end ≡ Some h → g.passed ≡ h.passed → IsTied numbers (changed ends end g)
tied_same numbers ends end h g tied is same k =
    dite (ℕ_discrete k end)
    (λ hit.
    tied k ∙ ap (λ (n : ℕ). option_map (λ (y : EndFacts). y.passed) (at ends n)) hit ∙ ap (option_map (λ (y : EndFacts). y.passed)) is
    ∙ ap (λ (n : ℕ). Some n) (sym same)
    ∙ sym (ap (λ (n : ℕ). option_map (λ (y : EndFacts). y.passed) (at (changed ends end g) n)) hit ∙ ap (option_map (λ (y : EndFacts). y.passed)) (at_changed ends end h g is)))
    (λ miss. tied k ∙ sym (ap (option_map (λ (y : EndFacts). y.passed)) (at-other ends end k g miss)))
