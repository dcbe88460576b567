-- Turns one after another: how many each actor has made, and what was counted.
use Rattle.std.proofs.Common.{◌≡◌, ℕ, zero, suc, ◌+◌, ◌-◌, ◌*◌, ◌<◌, ◌≤◌, ◌==◌, nat_lt, inl, inr, Bool, true, false, cond, List, [], ◌∷◌, length, set, refl, sym, ◌∙◌, ap, subst, arith, length-set, eq-eqb, lt-ltb, le-ltb}
use Rattle.std.specs.Prelude.{Some, slice_get}
use Rattle.std.specs.List.{sum_by}
use Rattle.std.proofs.lemmas.List.Sums.{sum_by-cons, sum_by-set}
use Rattle.std.proofs.lemmas.Option.{same_Some, slice_get_within, get_or_from_slice_get}
use Rattle.std.proofs.lemmas.Bool.{eqb-true, cases_lt}
use Rattle.std.proofs.Math.Nat.{mul-add}
use mathlib.Core.Logic.{dite}
use native.Mathlib.Decide.{ℕ_discrete}
use Rattle.lid_base.specs.declared.runs.Tally.{Tally}
use Rattle.lid_station.specs.Boards.{Ends, fill, drain}
use Rattle.lid_board.specs.declared.board.Board.{Board}
use Rattle.lid_walk_machine.specs.Plans.{ins_of, outs_of}
use Rattle.lid_walk_machine.specs.Setups.{plan}
use Rattle.lid_shell_laws.specs.Setups.{Setup}
use Rattle.lid_walk_machine.specs.Machine.{Progress}
use Rattle.lid_shell.specs.declared.actor.Actor.{Actor}
use Rattle.lid_shell.specs.Boards.{Agrees}
use Rattle.lid_shell.specs.Steps.{IsOwn}
use Rattle.lid_shell.specs.declared.turn.TurnEnd.{TurnEnd}
use Rattle.lid_shell.specs.declared.turn.TurnEnd.TheVariants.{Done}
use Rattle.lid_free_crew.specs.Posts.{resting, IsEndOf, AreApart, KeepsEnds}
use Rattle.lid_free_crew.specs.Tallies.{AddsUp, counted, fired_one, done_one, misses_in, misses_at, misses_of, fired_by, done_among, firings_of_done}
use Rattle.lid_free_crew.specs.Turns.{HasMadeTurns}
use Rattle.lid_free_crew.specs.Order.{at_cap, EndsTurn}
use Rattle.lid_free_crew.specs.Rounds.{done_turns, Made}
use Rattle.lid_free_crew.proofs.Making.{one_of_four, is_at_cap}
use Rattle.lid_base.proofs.Places.{set_here, set_there, item_at}

-- sums of the same parts
sums_same : {X : Type 0} (f g : X → ℕ) (xs : List X) → ((i : ℕ) (x : X) → slice_get xs i ≡ Some x → f x ≡ g x) → sum_by f xs ≡ sum_by g xs
sums_same f g [] same = refl
sums_same f g (x ∷ xs) same =
    omega (arith, sum_by-cons f x xs, sum_by-cons g x xs, same 0 x refl, sums_same f g xs (λ i y at. same (suc i) y at))

-- its own ends stay as they are
abbrev pub OwnStay : Actor → Ends → Ends → Type 0
OwnStay d before now = (e : ℕ) → IsEndOf d e → now e ≡ before e

-- so it agrees with them as before
pub agrees_kept : (m : Setup) (v : ℕ) (q : Progress) (d : Actor) (before now : Ends) → d.desk.ins.items ≡ ins_of (plan m) v → d.desk.outs.items ≡ outs_of (plan m) v → OwnStay d before now → Agrees m v q before → Agrees m v q now
agrees_kept m v q d before now ins outs stay agrees = record {
  drains = λ i station h.
      let was = agrees.drains i station h in
      (was.0, stay (drain station) (station, i, inl (subst (λ (l : List ℕ). slice_get l i ≡ Some station) (sym ins) h, refl)) ∙ was.1, was.2);
  fills = λ j station h.
      let was = agrees.fills j station h in
      (was.0, stay (fill station) (station, j, inr (subst (λ (l : List ℕ). slice_get l j ≡ Some station) (sym outs) h, refl)) ∙ was.1, was.2);
}

misses_kept : (d : Actor) (before now : Ends) → OwnStay d before now → misses_of now d ≡ misses_of before d
misses_kept d before now stay =
    let drained = sums_same (λ s. misses_at now (drain s)) (λ s. misses_at before (drain s)) d.desk.ins.items
    (λ i s at. ap misses_in (stay (drain s) (s, i, inl (at, refl)))) in
    let filled = sums_same (λ s. misses_at now (fill s)) (λ s. misses_at before (fill s)) d.desk.outs.items
    (λ j s at. ap misses_in (stay (fill s) (s, j, inr (at, refl)))) in
    omega (arith, drained, filled)

-- an actor that made no turn
gone_none : (board : Board) (ends : Ends) (a : Actor) → HasMadeTurns board 0 ends a ends a
gone_none board ends a = record {
  drains = refl;
  fills = refl;
  capped = refl;
  grows = omega arith;
  often = omega arith;
  agrees = λ m v w. w;
  below = λ low. omega arith;
  most = omega arith;
}

-- one more
gone_more : (board : Board) (n : ℕ) (first before now : Ends) (c a b : Actor) → HasMadeTurns board n first c before a → HasMadeTurns board 1 before a now b → HasMadeTurns board (n + 1) first c now b
gone_more board n first before now c a b so one =
    let grows = one.grows in
    let capped = one.capped in
    record {
      drains = one.drains ∙ so.drains;
      fills = one.fills ∙ so.fills;
      capped = one.capped ∙ so.capped;
      grows = omega (arith, one.grows, so.grows);
      often = omega (arith, one.often, so.often);
      agrees = λ m v w. one.agrees m v (so.agrees m v w);
      below = λ low. omega (arith, one.below low, so.below (omega (arith, low, grows, capped)));
      most = omega (arith, one.most, so.most);
    }

-- another made one
gone_stays : (board : Board) (n : ℕ) (first before now : Ends) (c d : Actor) → HasMadeTurns board n first c before d → OwnStay d before now → HasMadeTurns board n first c now d
gone_stays board n first before now c d so stay =
    let same = misses_kept d before now stay in
    record {
      drains = so.drains;
      fills = so.fills;
      capped = so.capped;
      grows = so.grows;
      often = so.often;
      agrees = λ m v w.
          let then_ = so.agrees m v w in
          record {
            actor = then_.actor;
            agrees = agrees_kept m v (resting d) d before now then_.actor.at.drains then_.actor.at.fills stay then_.agrees;
            streams = then_.streams;
          };
      below = λ low. omega (arith, so.below low, same);
      most = omega (arith, so.most, same);
    }

-- the turns of actors at their caps
done_as : (turns next : ℕ → ℕ) (actors : List Actor) → ((i : ℕ) → i < length actors → turns i ≡ next i) → done_turns turns actors ≡ done_turns next actors
done_as turns next [] same = refl
done_as turns next (a ∷ actors) same =
    let later = done_as (λ i. turns (i + 1)) (λ i. next (i + 1)) actors (λ i within. same (i + 1) (omega (arith, within))) in
    let here = ap (λ (n : ℕ). cond (a.desk.fired == a.desk.cap) n 0) (same 0 (omega arith)) in
    omega (arith, later, here)

-- one turn of an actor that had fired g times, from f0 times on, where it has fired f times after it
one_done : (was is : Bool) (n d f0 g f : ℕ) → (was ≡ true → is ≡ true) → (was ≡ true → f ≡ g) → d ≤ cond was 1 0 → f ≤ f0 + (n + 1)
    → cond was n 0 + d + cond is (f - f0) 0 ≤ cond is (n + 1) 0 + cond was (g - f0) 0
one_done true true n d f0 g f stays rests late few = omega (arith, late, ap (λ (x : ℕ). x - f0) (rests refl))
one_done true false n d f0 g f stays rests late few = absurd (let e = stays refl in cc)
one_done false true n d f0 g f stays rests late few = omega (arith, late, few)
one_done false false n d f0 g f stays rests late few = omega (arith, late)

-- what a turn of actor a, which becomes b, needs to be counted well, where it was c at first
record IsCounted (c a b : Actor) (n d : ℕ) : Type 0 where
  stays : a.desk.fired ≡ a.desk.cap → b.desk.fired ≡ b.desk.cap
  rests : a.desk.fired ≡ a.desk.cap → b.desk.fired ≡ a.desk.fired
  late : d ≤ at_cap a
  few : b.desk.fired ≤ c.desk.fired + (n + 1)

done_head : (c a b : Actor) (n d : ℕ) → IsCounted c a b n d
    → cond (a.desk.fired == a.desk.cap) n 0 + d + cond (b.desk.fired == b.desk.cap) (b.desk.fired - c.desk.fired) 0
    ≤ cond (b.desk.fired == b.desk.cap) (n + 1) 0 + cond (a.desk.fired == a.desk.cap) (a.desk.fired - c.desk.fired) 0
done_head c a b n d counted =
    one_done (a.desk.fired == a.desk.cap) (b.desk.fired == b.desk.cap) n d c.desk.fired a.desk.fired b.desk.fired
    (λ is. eq-eqb b.desk.fired b.desk.cap (counted.stays (eqb-true a.desk.fired a.desk.cap is)))
    (λ is. counted.rests (eqb-true a.desk.fired a.desk.cap is))
    counted.late counted.few

done_more : (turns next : ℕ → ℕ) (firsts olds : List Actor) (k d : ℕ) (c a b : Actor) → slice_get firsts k ≡ Some c → slice_get olds k ≡ Some a
    → next k ≡ turns k + 1 → ((i : ℕ) → (i ≡ k → ⊥) → next i ≡ turns i)
    → IsCounted c a b (turns k) d
    → done_turns turns olds + d + firings_of_done firsts (set olds k b) ≤ done_turns next (set olds k b) + firings_of_done firsts olds
done_more turns next [] olds k d c a b at_c at here other counted = absurd (cc)
done_more turns next (y ∷ firsts) [] k d c a b at_c at here other counted = absurd (cc)
done_more turns next (y ∷ firsts) (x ∷ olds) zero d c a b at_c at here other counted =
    let later = done_as (λ i. turns (i + 1)) (λ i. next (i + 1)) olds (λ i within. sym (other (i + 1) (λ e. omega (arith, e)))) in
    let head = done_head c a b (turns 0) d counted in
    let is_a = same_Some x a at in
    let is_c = same_Some y c at_c in
    let same = ap (λ (z : Actor). cond (z.desk.fired == z.desk.cap) (turns 0) 0) is_a in
    let old = ap (λ (z : Actor). cond (z.desk.fired == z.desk.cap) (z.desk.fired - y.desk.fired) 0) is_a
    ∙ ap (λ (z : Actor). cond (a.desk.fired == a.desk.cap) (a.desk.fired - z.desk.fired) 0) is_c in
    let new = ap (λ (z : Actor). cond (b.desk.fired == b.desk.cap) (b.desk.fired - z.desk.fired) 0) is_c in
    let first = ap (λ (n : ℕ). cond (b.desk.fired == b.desk.cap) n 0) here in
    omega (arith, later, head, same, old, new, first)
done_more turns next (y ∷ firsts) (x ∷ olds) (suc k) d c a b at_c at here other counted =
    let s : k + 1 ≡ suc k = omega arith in
    let here_ = ap next s ∙ here ∙ ap (λ (n : ℕ). turns n + 1) (sym s) in
    let counted_ = subst (λ (n : ℕ). IsCounted c a b (turns n) d) (sym s) counted in
    let later = done_more (λ i. turns (i + 1)) (λ i. next (i + 1)) firsts olds k d c a b at_c at here_ (λ i not_k. other (i + 1) (λ e. not_k (omega (arith, e)))) counted_ in
    let first = ap (λ (n : ℕ). cond (x.desk.fired == x.desk.cap) n 0) (other 0 (λ e. omega (arith, e))) in
    omega (arith, later, first)

none_since : (b : Bool) (n : ℕ) → cond b (n - n) 0 ≡ 0
none_since true n = omega arith
none_since false n = refl

-- since now nobody has fired
none_fired_since : (actors : List Actor) → firings_of_done actors actors ≡ 0
none_fired_since [] = refl
none_fired_since (a ∷ actors) = omega (arith, none_since (a.desk.fired == a.desk.cap) a.desk.fired, none_fired_since actors)

-- where nobody had fired before
pub fired_since_none : (olds news : List Actor) → length news ≡ length olds → fired_by olds ≡ 0
    → firings_of_done olds news ≡ sum_by (λ b. cond (b.desk.fired == b.desk.cap) b.desk.fired 0) news
fired_since_none [] [] long none = refl
fired_since_none [] (b ∷ news) long none = absurd (omega (arith, long))
fired_since_none (a ∷ olds) [] long none = absurd (omega (arith, long))
fired_since_none (a ∷ olds) (b ∷ news) long none =
    let whole = sum_by-cons (λ (x : Actor). x.desk.fired) a olds in
    let later = fired_since_none olds news (omega (arith, long)) (omega (arith, whole, none)) in
    let zero_first : a.desk.fired ≡ 0 = omega (arith, whole, none) in
    let all : b.desk.fired - a.desk.fired ≡ b.desk.fired = omega (arith, zero_first) in
    let here = ap (λ (n : ℕ). cond (b.desk.fired == b.desk.cap) n 0) all in
    omega (arith, later, here, sum_by-cons (λ (x : Actor). cond (x.desk.fired == x.desk.cap) x.desk.fired 0) b news)

-- as many for each
each_done : (b : Bool) (n d : ℕ) → cond b n 0 + n * d ≡ n * (cond b 1 0 + d)
each_done true n d = let e = mul-add n 1 d in omega (arith, e)
each_done false n d = let e : 0 + d ≡ d = omega arith in omega (arith, ap (λ (k : ℕ). n * k) e)

pub done_each : (n : ℕ) (actors : List Actor) → done_turns (λ _. n) actors ≡ n * done_among actors
done_each n [] = omega arith
done_each n (a ∷ actors) =
    let later = done_each n actors in
    let parts = sum_by-cons at_cap a actors in
    let whole = each_done (a.desk.fired == a.desk.cap) n (done_among actors) in
    omega (arith, later, whole, ap (λ (k : ℕ). n * k) parts)

-- no turn was made yet
pub none_made : (board : Board) (ends : Ends) (actors : List Actor) (tally : Tally) → AddsUp tally → Made board (λ _. 0) 0 ends actors tally ends actors tally
none_made board ends actors tally adds = record {
  many = refl;
  each = λ i a b at_a at_b. subst (λ (x : Actor). HasMadeTurns board 0 ends a ends x) (same_Some a b (sym at_a ∙ at_b)) (gone_none board ends a);
  keeps = record { none = λ e none. none; some = λ e f served. (f, served, record { cap = refl; start = refl }) };
  others = λ e no_end. refl;
  turns_are = omega arith;
  fired_are = refl;
  voids_are = refl;
  stops_are = refl;
  adds_up = adds;
  dones_most = let none = none_fired_since actors in omega (arith, none);
}

-- the same numbers of turns
pub made_as : (board : Board) (turns next : ℕ → ℕ) (total count : ℕ) (first : Ends) (firsts : List Actor) (none : Tally) (now : Ends) (news : List Actor) (is : Tally)
    → ((i : ℕ) → i < length news → turns i ≡ next i) → total ≡ count → Made board turns total first firsts none now news is → Made board next count first firsts none now news is
made_as board turns next total count first firsts none now news is same all made = record {
  many = made.many;
  each = λ i a b at_a at_b. subst (λ (n : ℕ). HasMadeTurns board n first a now b) (same i (slice_get_within news i b at_b)) (made.each i a b at_a at_b);
  keeps = made.keeps;
  others = made.others;
  turns_are = made.turns_are ∙ ap (λ (n : ℕ). none.turns + n) all;
  fired_are = made.fired_are;
  voids_are = made.voids_are;
  stops_are = made.stops_are;
  adds_up = made.adds_up;
  dones_most = let e = done_as turns next news same in let most = made.dones_most in omega (arith, e, most);
}

keeps_more : (first before now : Ends) → KeepsEnds first before → KeepsEnds before now → KeepsEnds first now
keeps_more first before now so one = record {
  none = λ e none. one.none e (so.none e none);
  some = λ e f served.
      let (g, at_g, kept) = so.some e f served in
      let (h, at_h, too) = one.some e g at_g in
      (h, at_h, record { cap = too.cap ∙ kept.cap; start = too.start ∙ kept.start });
}

-- tallies that are one count the same
pub record AreAlike (s t : Tally) : Type 0 where
  pub turns : s.turns ≡ t.turns
  pub fired : s.fired ≡ t.fired
  pub voids : s.voids ≡ t.voids
  pub stops : s.stops ≡ t.stops
  pub dones : s.dones ≡ t.dones

pub alike : (s t : Tally) → s ≡ t → AreAlike s t
alike s t same = record {
  turns = ap (λ (x : Tally). x.turns) same;
  fired = ap (λ (x : Tally). x.fired) same;
  voids = ap (λ (x : Tally). x.voids) same;
  stops = ap (λ (x : Tally). x.stops) same;
  dones = ap (λ (x : Tally). x.dones) same;
}

-- actor k makes a turn
module _ (board : Board) (turns next : ℕ → ℕ) (total : ℕ) (first : Ends) (firsts : List Actor) (none : Tally) (before : Ends) (olds : List Actor) (was : Tally) (now : Ends) (is : Tally)
    (k : ℕ) (a b : Actor) (made : Made board turns total first firsts none before olds was) (apart : AreApart olds)
    (at_k : slice_get olds k ≡ Some a) (end : TurnEnd) (turn : EndsTurn board end before a was now b is)
    (here : next k ≡ turns k + 1) (other : (i : ℕ) → (i ≡ k → ⊥) → next i ≡ turns i) where
  -- the ends of another stay
  pub others_stay : (i : ℕ) (d : Actor) → (i ≡ k → ⊥) → slice_get olds i ≡ Some d → OwnStay d before now
  others_stay i d not_k at_d e own = turn.others e (λ mine. not_k (apart i k e d a at_d at_k own mine))

  each_then : (i : ℕ) (c d : Actor) → slice_get firsts i ≡ Some c → slice_get (set olds k b) i ≡ Some d → HasMadeTurns board (next i) first c now d
  each_then i c d at_c at_d =
      dite (ℕ_discrete i k)
      (λ same.
      let at_first : slice_get firsts k ≡ Some c = subst (λ (n : ℕ). slice_get firsts n ≡ Some c) same at_c in
      let is_b : b ≡ d = set_here olds k b d (subst (λ (n : ℕ). slice_get (set olds k b) n ≡ Some d) same at_d) in
      let more = gone_more board (turns k) first before now c a b (made.each k c a at_first at_k) turn.gone in
      let as_next : HasMadeTurns board (next k) first c now b = subst (λ (n : ℕ). HasMadeTurns board n first c now b) (sym here) more in
      subst (λ (n : ℕ). HasMadeTurns board (next n) first c now d) (sym same) (subst (λ (x : Actor). HasMadeTurns board (next k) first c now x) is_b as_next))
      (λ not_k.
      let at_old : slice_get olds i ≡ Some d = sym (set_there olds k i b not_k) ∙ at_d in
      let stays = gone_stays board (turns i) first before now c d (made.each i c d at_c at_old) (others_stay i d not_k at_old) in
      subst (λ (n : ℕ). HasMadeTurns board n first c now d) (sym (other i not_k)) stays)

  within : k < length olds
  within = slice_get_within olds k a at_k

  others_then : (e : ℕ) → ((i : ℕ) (c : Actor) → slice_get firsts i ≡ Some c → IsEndOf c e → ⊥) → now e ≡ first e
  others_then e no_end =
      let many = made.many in
      let (c, at_c) = item_at firsts k (omega (arith, within, many)) in
      let so = made.each k c a at_c at_k in
      turn.others e (λ own. no_end k c at_c (subst (λ (l : List ℕ). IsOwn c.desk.ins.items l e) so.fills (subst (λ (l : List ℕ). IsOwn l a.desk.outs.items e) so.drains own)))
      ∙ made.others e no_end

  fired_then : is.fired + fired_by firsts ≡ none.fired + fired_by (set olds k b)
  fired_then =
      let counts = ap (λ (t : Tally). t.fired) turn.counts in
      let whole = sum_by-set (λ (x : Actor). x.desk.fired) olds k b a within in
      let mine = ap (λ (x : Actor). x.desk.fired) (get_or_from_slice_get olds k a a at_k) in
      let so = made.fired_are in
      let fires = turn.fires in
      omega (arith, counts, whole, mine, so, fires)

  stays_at_cap : a.desk.fired ≡ a.desk.cap → b.desk.fired ≡ b.desk.cap
  stays_at_cap at =
      let none = ap fired_one (turn.done.1 at) in
      let fires = turn.fires in
      let capped = turn.gone.capped in
      omega (arith, fires, capped, at, none)

  -- only at its cap it ends as done
  done_before : (e : TurnEnd) → end ≡ e → done_one e ≤ at_cap a
  done_before Done e = let one = is_at_cap a (turn.done.0 e) in omega (arith, one)
  done_before _ e = omega arith

  rests_at_cap : a.desk.fired ≡ a.desk.cap → b.desk.fired ≡ a.desk.fired
  rests_at_cap at =
      let none = ap fired_one (turn.done.1 at) in
      let fires = turn.fires in
      omega (arith, fires, none)

  dones_then : done_turns turns olds + done_one end + firings_of_done firsts (set olds k b) ≤ done_turns next (set olds k b) + firings_of_done firsts olds
  dones_then =
      let many = made.many in
      let (c, at_c) = item_at firsts k (omega (arith, within, many)) in
      let more = gone_more board (turns k) first before now c a b (made.each k c a at_c at_k) turn.gone in
      done_more turns next firsts olds k (done_one end) c a b at_c at_k here other
      (record { stays = stays_at_cap; rests = rests_at_cap; late = done_before end refl; few = more.often })

  pub one_made : Made board next (total + 1) first firsts none now (set olds k b) is
  one_made =
      let so = alike is _ turn.counts in
      let four = one_of_four end in
      record {
        many = length-set olds k b ∙ made.many;
        each = each_then;
        keeps = keeps_more first before now made.keeps turn.keeps;
        others = others_then;
        turns_are = omega (arith, so.turns, made.turns_are);
        fired_are = fired_then;
        voids_are = omega (arith, so.voids, made.voids_are, turn.voids);
        stops_are = omega (arith, so.stops, made.stops_are, turn.stops);
        adds_up = omega (arith, so.turns, so.fired, so.voids, so.stops, so.dones, four, made.adds_up);
        dones_most = omega (arith, so.dones, made.dones_most, dones_then);
      }

-- a round, of which the first k turns are made
abbrev pub upto : (ℕ → ℕ) → ℕ → ℕ → ℕ
upto turns k i = turns i + cond (nat_lt i k) 1 0

pub upto_none : (turns : ℕ → ℕ) (i : ℕ) → turns i ≡ upto turns 0 i
upto_none turns i = let none = ap {B = ℕ} (λ (b : Bool). cond b 1 0) (le-ltb i 0 (omega arith)) in omega (arith, none)

pub upto_here : (turns : ℕ → ℕ) (k : ℕ) → upto turns (k + 1) k ≡ upto turns k k + 1
upto_here turns k =
    let one = ap {B = ℕ} (λ (b : Bool). cond b 1 0) (lt-ltb k (k + 1) (omega arith)) in
    let none = ap {B = ℕ} (λ (b : Bool). cond b 1 0) (le-ltb k k (omega arith)) in
    omega (arith, one, none)

pub upto_other : (turns : ℕ → ℕ) (k i : ℕ) → (i ≡ k → ⊥) → upto turns (k + 1) i ≡ upto turns k i
upto_other turns k i other =
    elim (cases_lt i k) [
      | inl low ↦ ap (λ (b : Bool). turns i + cond b 1 0) (lt-ltb i (k + 1) (omega (arith, low)) ∙ sym (lt-ltb i k low))
      | inr high ↦ ap (λ (b : Bool). turns i + cond b 1 0) (le-ltb i (k + 1) (omega (arith, high, other)) ∙ sym (le-ltb i k high))
    ]

pub upto_all : (turns : ℕ → ℕ) (k i : ℕ) → i < k → upto turns k i ≡ turns i + 1
upto_all turns k i low = ap (λ (b : Bool). turns i + cond b 1 0) (lt-ltb i k low)
