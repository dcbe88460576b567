-- Which streams a hand at its board stands for, and which tokens it may put.
use Rattle.std.proofs.Common.{◌≡◌, ℕ, zero, suc, ◌/◌, ◌<◌, ◌≤◌, List, [], ◌∷◌, length, get_or, refl, sym, ◌∙◌, ap, arith}
use Rattle.std.specs.Prelude.{Option, Some, None, option_map, slice_get}
use Rattle.std.proofs.lemmas.Option.{same_Some}
use Rattle.lid_station.specs.Boards.{Facts, fill}
use Rattle.lid_board.specs.Owners.{IsOf, ends_of, start_ends}
use Rattle.lid_board.specs.Relation.{stream_of}
use Rattle.lid_board.specs.Views.{EndTable, at, facts, facts_at}
use Rattle.lid_board.specs.declared.board.Board.{Board}
use Rattle.lid_board.specs.declared.hand.Hand.{Hand}
use Rattle.lid_board.specs.declared.view.EndFacts.{EndFacts}

-- whether these are the streams of a board, for each of its stations
abbrev pub AreStreamsOf : EndTable → (ℕ → List ℕ) → Type 0
AreStreamsOf plan streams = (station : ℕ) → fill station < length plan → stream_of plan station ≡ streams station

-- whether a token is the next of the board's stream at the filled end of a station
abbrev pub Admits : EndTable → EndTable → ℕ → ℕ → Type 0
Admits plan ends station token =
    (f : Facts) → facts_at ends (fill station) ≡ Some f → slice_get (stream_of plan station) f.passed ≡ Some token

option_there : {A : Type 0} (xs : List (Option A)) (i : ℕ) (x : A) → get_or xs i None ≡ Some x → i < length xs
option_there [] i x e = absurd (cc)
option_there (y ∷ ys) zero x e = omega arith
option_there (y ∷ ys) (suc i) x e = let l = option_there ys i x e in omega arith

passed_there : (o : Option EndFacts) (f : Facts) → option_map facts o ≡ Some f → (n : ℕ) × (option_map (λ (h : EndFacts). h.passed) o ≡ Some n)
passed_there None f e = absurd (cc)
passed_there (Some h) f e = (h.passed, refl)

-- an end of a hand is one of its board
pub served_within : (board : Board) (hand : Hand) (end : ℕ) (f : Facts) → IsOf hand board → facts_at (ends_of hand) end ≡ Some f → end < length (start_ends board)
served_within board hand end f of served =
    let number = passed_there (at (ends_of hand) end) f served in
    let inside = option_there hand.ends.items end number.0 (hand.tied end ∙ number.1) in
    let room = of.room in
    let ends = board.laid.ends in
    omega arith

-- the next token of the stream of a board's station is admitted
pub attended_next : (board : Board) (hand : Hand) (of : IsOf hand board) (streams : ℕ → List ℕ) (station token : ℕ) (f : Facts)
    → AreStreamsOf (start_ends board) streams → facts_at (ends_of hand) (fill station) ≡ Some f → slice_get (streams station) f.passed ≡ Some token → Admits (start_ends board) (ends_of hand) station token
attended_next board hand of streams station token f stands served next g at_g =
    let same : g ≡ f = same_Some g f (sym at_g ∙ served) in
    ap (λ (y : Facts). slice_get (stream_of (start_ends board) station) y.passed) same
    ∙ ap (λ (s : List ℕ). slice_get s f.passed) (stands station (served_within board hand (fill station) f of served))
    ∙ next

-- what is told of an end is told of what is there
told_there : (o : Option EndFacts) (f : Facts) → option_map facts o ≡ Some f → (h : EndFacts) × (o ≡ Some h) × (h.passed ≡ f.passed)
told_there None f e = absurd (cc)
told_there (Some h) f e = (h, refl, ap (λ (g : Facts). g.passed) (same_Some (facts h) f e))

-- no end of a hand was passed by more tokens than its board's stream has
pub attended_within : (board : Board) (hand : Hand) (of : IsOf hand board) (streams : ℕ → List ℕ) (station end : ℕ) (f : Facts)
    → end / 2 ≡ station → AreStreamsOf (start_ends board) streams → facts_at (ends_of hand) end ≡ Some f → f.passed ≤ length (streams station)
attended_within board hand of streams station end f side stands served =
    let there = told_there (at (ends_of hand) end) f served in
    let within : there.0.passed ≤ length (stream_of (start_ends board) (end / 2)) = of.within end there.0 there.1 in
    let here : length (stream_of (start_ends board) (end / 2)) ≡ length (stream_of (start_ends board) station) = ap (λ (i : ℕ). length (stream_of (start_ends board) i)) side in
    let inside = served_within board hand end f of served in
    let even = board.laid.ends in
    let long : length (stream_of (start_ends board) station) ≡ length (streams station) = ap (λ (s : List ℕ). length s) (stands station (omega arith)) in
    let passed = there.2 in
    omega arith
