-- The hands of the last workers were joined to one.
use Rattle.std.proofs.Common.{◌≡◌, ℕ, zero, suc, ◌+◌, ◌-◌, ◌<◌, ◌≤◌, nat_lt, inl, inr, Bool, cond, List, [], ◌∷◌, ◌++◌, length, map, set, refl, sym, ◌∙◌, ap, arith, lt-ltb, le-ltb, length-append, length-set}
use Rattle.std.specs.Prelude.{Option, Some, None, option_map, slice_get}
use Rattle.std.proofs.lemmas.Bool.{cases_lt, cases_eq}
use Rattle.std.proofs.lemmas.Option.{same_Some, slice_get_within}
use Rattle.lid_base.specs.declared.runs.Tally.{Tally}
use Rattle.lid_board.specs.Owners.{ends_of}
use Rattle.lid_board.specs.Parting.{or_else, unseen}
use Rattle.lid_board.specs.Views.{at}
use Rattle.lid_board.specs.declared.hand.Hand.{Hand}
use Rattle.lid_board.specs.declared.view.EndFacts.{EndFacts}
use Rattle.lid_free_crew.specs.declared.worker.Worker.{Worker}
use Rattle.lid_free_crew.specs.Shares.{holder}
use Rattle.lid_free_crew.specs.Crews.{AreShared, HasNone, HasJoined}
use Rattle.lid_free_crew.proofs.Lists.{set_at, mapped}
use Rattle.lid_base.proofs.Places.{get_last, set_there}

pub record AreJoinedFrom (all left : List Worker) (keeper : Hand) (tallies : List Tally) : Type 0 where
  pub few : length left ≤ length all
  pub first : (i : ℕ) → i < length left → slice_get left i ≡ slice_get all i
  pub joined :
      (owners : List ℕ) → AreShared (length all) owners all
      → (end : ℕ) (w : Worker) → slice_get all (holder (length all) owners end) ≡ Some w
      → at (ends_of keeper) end ≡ cond (nat_lt (holder (length all) owners end) (length left)) None (option_map unseen (at (ends_of w.hand) end))
  pub long : length tallies ≡ length all
  pub noted : (i : ℕ) (w : Worker) → length left ≤ i → slice_get all i ≡ Some w → slice_get tallies i ≡ Some w.tally

pub none_joined : (all : List Worker) (keeper : Hand) (tallies : List Tally) → HasNone keeper → length tallies ≡ length all → AreJoinedFrom all all keeper tallies
none_joined all keeper tallies none long = record {
  few = omega arith;
  first = λ i within. refl;
  joined = λ owners shared end w at_w.
      none end ∙ sym (ap (λ (b : Bool). cond b None (option_map unseen (at (ends_of w.hand) end))) (lt-ltb (holder (length all) owners end) (length all) (slice_get_within all (holder (length all) owners end) w at_w)));
  long = long;
  noted = λ i w past at_w. absurd (let within = slice_get_within all i w at_w in omega arith);
}

or_none : {A : Type 0} (o : Option A) → or_else o None ≡ o
or_none None = refl
or_none (Some x) = refl

snoc_first : {X : Type 0} (xs : List X) (y : X) (i : ℕ) → i < length xs → slice_get (xs ++ y ∷ []) i ≡ slice_get xs i
snoc_first [] y i within = absurd (omega (arith, within))
snoc_first (x ∷ xs) y zero within = refl
snoc_first (x ∷ xs) y (suc i) within = snoc_first xs y i (omega (arith, within))

-- the hand of one worker more
module _ (all left next : List Worker) (w : Worker) (keeper then_ : Hand) (tallies : List Tally)
    (so : AreJoinedFrom all left keeper tallies) (popped : left ≡ next ++ w ∷ [])
    (join : (end : ℕ) → at (ends_of then_) end ≡ or_else (at (ends_of keeper) end) (option_map unseen (at (ends_of w.hand) end))) where
  long : length left ≡ length next + 1
  long = ap length popped ∙ length-append next (w ∷ [])

  at_last : slice_get all (length next) ≡ Some w
  at_last = sym (so.first (length next) (omega (arith, long))) ∙ ap (λ (l : List Worker). slice_get l (length next)) popped ∙ get_last next w

  joined_then : (owners : List ℕ) → AreShared (length all) owners all
      → (end : ℕ) (u : Worker) → slice_get all (holder (length all) owners end) ≡ Some u
      → at (ends_of then_) end ≡ cond (nat_lt (holder (length all) owners end) (length next)) None (option_map unseen (at (ends_of u.hand) end))
  joined_then owners shared end u at_u =
      let h = holder (length all) owners end in
      let was = so.joined owners shared end u at_u in
      elim (cases_lt h (length next)) [
        | inl low ↦
            (let none : at (ends_of keeper) end ≡ None = was ∙ ap (λ (b : Bool). cond b None (option_map unseen (at (ends_of u.hand) end))) (lt-ltb h (length left) (omega (arith, low, long))) in
            let not_mine : at (ends_of w.hand) end ≡ None = shared (length next) end w at_last (λ e. omega (arith, e, low)) in
            join end ∙ ap (λ (o : Option EndFacts). or_else o (option_map unseen (at (ends_of w.hand) end))) none ∙ ap (option_map unseen) not_mine
            ∙ sym (ap (λ (b : Bool). cond b None (option_map unseen (at (ends_of u.hand) end))) (lt-ltb h (length next) low)))
        | inr high ↦
            elim (cases_eq h (length next)) [
              | inl same ↦
                  (let none : at (ends_of keeper) end ≡ None = was ∙ ap (λ (b : Bool). cond b None (option_map unseen (at (ends_of u.hand) end))) (lt-ltb h (length left) (omega (arith, same, long))) in
                  let is_w : w ≡ u = same_Some w u (sym at_last ∙ ap (slice_get all) (sym same) ∙ at_u) in
                  join end ∙ ap (λ (o : Option EndFacts). or_else o (option_map unseen (at (ends_of w.hand) end))) none
                  ∙ ap (λ (x : Worker). option_map unseen (at (ends_of x.hand) end)) is_w
                  ∙ sym (ap (λ (b : Bool). cond b None (option_map unseen (at (ends_of u.hand) end))) (le-ltb h (length next) high)))
              | inr other ↦
                  (let there : at (ends_of keeper) end ≡ option_map unseen (at (ends_of u.hand) end) = was ∙ ap (λ (b : Bool). cond b None (option_map unseen (at (ends_of u.hand) end))) (le-ltb h (length left) (omega (arith, high, other, long))) in
                  let not_mine : at (ends_of w.hand) end ≡ None = shared (length next) end w at_last other in
                  join end ∙ ap (λ (o : Option EndFacts). or_else (at (ends_of keeper) end) (option_map unseen o)) not_mine ∙ or_none (at (ends_of keeper) end) ∙ there
                  ∙ sym (ap (λ (b : Bool). cond b None (option_map unseen (at (ends_of u.hand) end))) (le-ltb h (length next) high)))
            ]
      ]

  pub joined_more : AreJoinedFrom all next then_ (set tallies (length next) w.tally)
  joined_more = record {
    few = let f = so.few in omega (arith, f, long);
    first = λ i within. sym (snoc_first next w i within) ∙ ap (λ (l : List Worker). slice_get l i) (sym popped) ∙ so.first i (omega (arith, within, long));
    joined = joined_then;
    long = length-set tallies (length next) w.tally ∙ so.long;
    noted = λ i u past at_u.
        elim (cases_eq i (length next)) [
          | inl same ↦
              (let is_w : w ≡ u = same_Some w u (sym at_last ∙ ap (slice_get all) (sym same) ∙ at_u) in
              let few = so.few in
              ap (slice_get (set tallies (length next) w.tally)) same ∙ set_at tallies (length next) w.tally (omega (arith, few, long, so.long)) ∙ ap (λ (x : Worker). Some x.tally) is_w)
          | inr other ↦ set_there tallies (length next) i w.tally other ∙ so.noted i u (omega (arith, past, other, long)) at_u
        ];
  }

-- all were joined
module _ (all left : List Worker) (keeper : Hand) (tallies : List Tally) (so : AreJoinedFrom all left keeper tallies) (none : length left ≡ 0) where
  pub all_joined : (owners : List ℕ) → AreShared (length all) owners all → HasJoined (length all) owners all keeper
  all_joined owners shared end w at_w =
      so.joined owners shared end w at_w
      ∙ ap (λ (b : Bool). cond b None (option_map unseen (at (ends_of w.hand) end))) (le-ltb (holder (length all) owners end) (length left) (omega (arith, none)))

  pub all_noted : tallies ≡ map (λ w. w.tally) all
  all_noted = mapped (λ (w : Worker). w.tally) all tallies so.long (λ i w at_w. so.noted i w (omega (arith, none)) at_w)
