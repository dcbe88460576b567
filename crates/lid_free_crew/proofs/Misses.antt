-- Where a look missed, and how many more misses are counted there.
use Rattle.std.proofs.Common.{◌≡◌, ℕ, ◌+◌, ◌*◌, ◌<◌, ◌==◌, Bool, true, false, cond, List, refl, sym, ◌∙◌, ap, arith, eq-eqb, ne_eqb}
use Rattle.std.specs.Prelude.{Option, Some, None, option_map, if◌then◌else◌}
use Rattle.std.specs.Option.{unwrap_or}
use Rattle.std.specs.List.{sum_by}
use Rattle.std.proofs.lemmas.Option.{same_Some}
use Rattle.lid_station.specs.Boards.{Facts, Ends}
use Rattle.lid_board.specs.Owners.{IsOf, ends_of}
use Rattle.lid_board.specs.Standing.{served_within}
use Rattle.lid_board.specs.Views.{at, facts}
use Rattle.lid_board.specs.declared.board.Board.{Board}
use Rattle.lid_board.specs.declared.hand.Hand.{Hand}
use Rattle.lid_board.specs.declared.view.EndFacts.{EndFacts}
use Rattle.lid_shell.specs.Steps.{Moves, misses_after}
use Rattle.lid_free_crew.specs.Posts.{known, stations_of}
use Rattle.lid_free_crew.specs.Tallies.{sum_below, misses_in, misses_at}
use Rattle.lid_free_crew.proofs.Sums.{sums_add, belows_add}

-- one more at the end at which a look missed
abbrev pub missed_one : Option ℕ → ℕ → ℕ
missed_one None k = 0
missed_one (Some e) k = cond (k == e) 1 0

pub missed_here : (e k : ℕ) → k ≡ e → missed_one (Some e) k ≡ 1
missed_here e k is = ap (λ (b : Bool). cond b 1 0) (eq-eqb k e is)

pub missed_else : (e k : ℕ) → (k ≡ e → ⊥) → missed_one (Some e) k ≡ 0
missed_else e k other = ap (λ (b : Bool). cond b 1 0) (ne_eqb k e other)

-- misses are counted at all ends that are known
abbrev pub AreCounted : Ends → Type 0
AreCounted ends = (end : ℕ) (f : Facts) → ends end ≡ Some f → (n : ℕ) × (f.misses ≡ Some n)

-- what is told of an end is told of what is held there
pub held_there : (o : Option EndFacts) (f : Facts) → option_map facts o ≡ Some f → (h : EndFacts) × (o ≡ Some h) × (facts h ≡ f)
held_there None f e = absurd (cc)
held_there (Some h) f e = (h, refl, same_Some (facts h) f e)

-- as a hand counts them
pub hand_counts : (hand : Hand) → AreCounted (known hand)
hand_counts hand end f e =
    let (h, at_h, is) = held_there (at (ends_of hand) end) f e in
    (h.misses, ap (λ (g : Facts). g.misses) (sym is))

-- an end of a hand is one of the stations of its board
pub hand_inside : (board : Board) (hand : Hand) → IsOf hand board → (end : ℕ) (f : Facts) → known hand end ≡ Some f → end < 2 * stations_of board
hand_inside board hand of end f e = let within = served_within board hand end f of e in let ends = board.laid.ends in omega arith

one_more : (b : Bool) (n : ℕ) → unwrap_or (if b then option_map (λ (k : ℕ). k + 1) (Some n) else Some n) 0 ≡ n + cond b 1 0
one_more true n = refl
one_more false n = omega arith

after_is : (missed : Option ℕ) (k n : ℕ) → unwrap_or (misses_after missed k (Some n)) 0 ≡ n + missed_one missed k
after_is None k n = omega arith
after_is (Some e) k n = one_more (k == e) n

module _ (ins outs : List ℕ) (missed : Option ℕ) (before now : Ends) (counts : AreCounted before) (moves : Moves ins outs missed before now)
    (missed_there : (e : ℕ) → missed ≡ Some e → (f : Facts) × (before e ≡ Some f)) where
  none_missed : (o : Option ℕ) (k : ℕ) → missed ≡ o → before k ≡ None → missed_one o k ≡ 0
  none_missed None k is none = refl
  none_missed (Some e) k is none =
      missed_else e k (λ same.
      let served = missed_there e is in
      absurd (let gone : Some served.0 ≡ None = sym served.1 ∙ ap before (sym same) ∙ none in cc))

  by_end : (k : ℕ) (o : Option Facts) → before k ≡ o → misses_in (now k) ≡ misses_in o + missed_one missed k
  by_end k None is =
      ap misses_in (moves.none k is) ∙ (let none = none_missed missed k refl is in omega (arith, none))
  by_end k (Some f) is =
      let (g, at_g, stays) = moves.some k f is in
      let (n, counted) = counts k f is in
      ap misses_in at_g
      ∙ ap (λ (o : Option ℕ). unwrap_or o 0) (stays.misses ∙ ap (misses_after missed k) counted)
      ∙ after_is missed k n
      ∙ ap (λ (o : Option ℕ). unwrap_or o 0 + missed_one missed k) (sym counted)

  pub misses_more : (k : ℕ) → misses_at now k ≡ misses_at before k + missed_one missed k
  misses_more k = by_end k (before k) refl ∙ refl

  -- at one end each of stations of a list
  pub sums_more : (end : ℕ → ℕ) (stations : List ℕ) → sum_by (λ s. misses_at now (end s)) stations ≡ sum_by (λ s. misses_at before (end s)) stations + sum_by (λ s. missed_one missed (end s)) stations
  sums_more end stations = sums_add (λ s. misses_at before (end s)) (λ s. misses_at now (end s)) (λ s. missed_one missed (end s)) stations (λ s. misses_more (end s))

  -- at that of all stations
  pub belows_more : (end : ℕ → ℕ) (n : ℕ) → sum_below (λ s. misses_at now (end s)) n ≡ sum_below (λ s. misses_at before (end s)) n + sum_below (λ s. missed_one missed (end s)) n
  belows_more end n = belows_add (λ s. misses_at before (end s)) (λ s. misses_at now (end s)) (λ s. missed_one missed (end s)) n (λ s. misses_more (end s))
