-- A round of which the first turns are made.
use Rattle.std.proofs.Common.{◌≡◌, ℕ, ◌+◌, ◌<◌, ◌≤◌, List, length, set, take, refl, sym, ◌∙◌, ap, subst, arith}
use Rattle.std.specs.Prelude.{Some, slice_get}
use Rattle.std.proofs.lemmas.List.{take_all}
use Rattle.std.proofs.lemmas.Option.{slice_get_within}
use Rattle.lid_base.specs.declared.runs.Tally.{Tally}
use Rattle.lid_station.specs.Boards.{Ends}
use Rattle.lid_board.specs.declared.board.Board.{Board}
use Rattle.lid_walk_machine.specs.Setups.{plan}
use Rattle.lid_shell_laws.specs.Setups.{Setup}
use Rattle.lid_walk_machine.specs.Machine.{Progress}
use Rattle.lid_shell.specs.declared.actor.Actor.{Actor}
use Rattle.lid_shell.specs.Steps.{Works, IsOwn}
use Rattle.lid_board.specs.Owners.{start_ends}
use Rattle.lid_board.specs.Standing.{AreStreamsOf}
use Rattle.lid_free_crew.specs.Posts.{resting, AgreesAt, IsAtWork, IsEndOf, AreApart}
use Rattle.lid_free_crew.specs.Tallies.{AddsUp}
use Rattle.lid_free_crew.specs.Alone.{TurnsSoFar, turned, round_of}
use Rattle.lid_free_crew.specs.Order.{EndsTurn, MakesTurn}
use Rattle.lid_free_crew.specs.Rounds.{Made, IsWorkerRun, GoesRound}
use Rattle.lid_free_crew.proofs.Rounding.{none_made, made_as, one_made, others_stay, upto, upto_none, upto_here, upto_other, upto_all}
use Rattle.lid_free_crew.proofs.Running.{round_more, runs_then}
use Rattle.lid_base.proofs.Places.{item_at}

-- whatever was made before, the first k actors have made one turn more
pub record IsPartway (board : Board) (k : ℕ) (before : Ends) (olds : List Actor) (was : Tally) (now : Ends) (news : List Actor) (is : Tally) : Type 0 where
  pub made :
      (turns : ℕ → ℕ) (total : ℕ) (first : Ends) (firsts : List Actor) (none : Tally)
      → Made board turns total first firsts none before olds was
      → Made board (upto turns k) (total + k) first firsts none now news is
  pub runs :
      (m : Setup) (numbers : List ℕ) (r : TurnsSoFar)
      → IsWorkerRun m numbers r board before olds was → IsWorkerRun m numbers (round_of (plan m) (take k numbers) r) board now news is

nothing_run : (board : Board) (ends : Ends) (actors : List Actor) (tally : Tally) (m : Setup) (numbers : List ℕ) (r : TurnsSoFar) → IsWorkerRun m numbers r board ends actors tally → IsWorkerRun m numbers (round_of (plan m) (take 0 numbers) r) board ends actors tally
unfolding round_of
nothing_run board ends actors tally m numbers r run = run

pub none_partway : (board : Board) (ends : Ends) (actors : List Actor) (tally : Tally) → IsPartway board 0 ends actors tally ends actors tally
none_partway board ends actors tally = record {
  made = λ turns total first firsts none made.
      made_as board turns (upto turns 0) total (total + 0) first firsts none ends actors tally (λ i within. upto_none turns i) (omega arith) made;
  runs = λ m numbers r run. nothing_run board ends actors tally m numbers r run;
}

-- after some turns, whatever they are, actors are at work as before
pub still_at_work : (board : Board) (turns : ℕ → ℕ) (total : ℕ) (first : Ends) (firsts : List Actor) (none : Tally) (now : Ends) (news : List Actor) (is : Tally)
    → Made board turns total first firsts none now news is
    → ((i : ℕ) (a : Actor) → slice_get firsts i ≡ Some a → IsAtWork board first a)
    → (i : ℕ) (b : Actor) → slice_get news i ≡ Some b → IsAtWork board now b
still_at_work board turns total first firsts none now news is made at_work i b at_b =
    let within = slice_get_within news i b at_b in
    let (a, at_a) = item_at firsts i (omega (arith, within, made.many)) in
    let (m, v, fired, w) = at_work i a at_a in
    let same : fired ≡ a.desk.fired = sym w.actor.at.fired_is in
    let so : AgreesAt m v board first a = subst (λ (n : ℕ). Works m v (record { fired = n; position = 0 }) a first (AreStreamsOf (start_ends board))) same w in
    (m, v, b.desk.fired, (made.each i a b at_a at_b).agrees m v so)

pub still_apart : (board : Board) (turns : ℕ → ℕ) (total : ℕ) (first : Ends) (firsts : List Actor) (none : Tally) (now : Ends) (news : List Actor) (is : Tally)
    → Made board turns total first firsts none now news is → AreApart firsts → AreApart news
still_apart board turns total first firsts none now news is made apart i j e a b at_a at_b own_a own_b =
    let within_a = slice_get_within news i a at_a in
    let within_b = slice_get_within news j b at_b in
    let (c, at_c) = item_at firsts i (omega (arith, within_a, made.many)) in
    let (d, at_d) = item_at firsts j (omega (arith, within_b, made.many)) in
    let so = made.each i c a at_c at_a in
    let too = made.each j d b at_d at_b in
    apart i j e c d at_c at_d (as_before c a so.drains so.fills own_a) (as_before d b too.drains too.fills own_b)
  where
    as_before : (c a : Actor) → a.desk.ins.items ≡ c.desk.ins.items → a.desk.outs.items ≡ c.desk.outs.items → IsEndOf a e → IsEndOf c e
    as_before c a drains fills own = subst (λ (l : List ℕ). IsOwn c.desk.ins.items l e) fills (subst (λ (l : List ℕ). IsOwn l a.desk.outs.items e) drains own)

-- what was made of the round itself
pub entry_made : (board : Board) (k : ℕ) (before : Ends) (olds : List Actor) (was : Tally) (now : Ends) (news : List Actor) (is : Tally)
    → AddsUp was → IsPartway board k before olds was now news is → Made board (upto (λ _. 0) k) (0 + k) before olds was now news is
entry_made board k before olds was now news is adds partway = partway.made (λ _. 0) 0 before olds was (none_made board before olds was adds)

-- actor k makes its turn
module _ (board : Board) (k : ℕ) (before : Ends) (olds : List Actor) (was : Tally) (mid : Ends) (mids : List Actor) (then_ : Tally) (now : Ends) (is : Tally) (a b : Actor)
    (adds : AddsUp was) (apart : AreApart olds) (partway : IsPartway board k before olds was mid mids then_)
    (at_k : slice_get mids k ≡ Some a) (turn : MakesTurn board mid a then_ now b is) where
  entry : Made board (upto (λ _. 0) k) (0 + k) before olds was mid mids then_
  entry = entry_made board k before olds was mid mids then_ adds partway

  mids_apart : AreApart mids
  mids_apart = still_apart board (upto (λ _. 0) k) (0 + k) before olds was mid mids then_ entry apart

  pub one_further : IsPartway board (k + 1) before olds was now (set mids k b) is
  one_further = record {
    made = λ turns total first firsts none made.
        let all : (total + k) + 1 ≡ total + (k + 1) = omega arith in
        made_as board (upto turns (k + 1)) (upto turns (k + 1)) ((total + k) + 1) (total + (k + 1)) first firsts none now (set mids k b) is (λ i within. refl) all
        (one_made board (upto turns k) (upto turns (k + 1)) (total + k) first firsts none mid mids then_ now is k a b
        (partway.made turns total first firsts none made) mids_apart at_k turn.0 turn.1 (upto_here turns k) (upto_other turns k));
    runs = λ m numbers r run. runs_on m numbers r run;
  }
    where
      runs_on : (m : Setup) (numbers : List ℕ) (r : TurnsSoFar) → IsWorkerRun m numbers r board before olds was → IsWorkerRun m numbers (round_of (plan m) (take (k + 1) numbers) r) board now (set mids k b) is
      runs_on m numbers r run =
          let so = partway.runs m numbers r run in
          let within = slice_get_within mids k a at_k in
          let (v, at_v) = item_at numbers k (omega (arith, within, so.alone.many)) in
          subst (λ (x : TurnsSoFar). IsWorkerRun m numbers x board now (set mids k b) is) (sym (round_more (plan m) numbers k v r at_v))
          (runs_then m numbers (round_of (plan m) (take k numbers) r) board mid now mids then_ is k v a b turn.0 so at_v at_k
          (λ i d not_k at_d. others_stay board (upto (λ _. 0) k) (upto (λ _. 0) (k + 1)) (0 + k) before olds was mid mids then_ now is k a b entry mids_apart at_k turn.0 turn.1 (upto_here (λ _. 0) k) (upto_other (λ _. 0) k) i d not_k at_d)
          turn.1)

-- all have made theirs
pub whole_round : (board : Board) (k : ℕ) (before : Ends) (olds : List Actor) (was : Tally) (now : Ends) (news : List Actor) (is : Tally)
    → AddsUp was → IsPartway board k before olds was now news is → k ≡ length olds → GoesRound board before olds was now news is
whole_round board k before olds was now news is adds partway all = record {
  made = λ turns total first firsts none made.
      made_as board (upto turns k) (λ i. turns i + 1) (total + k) (total + length olds) first firsts none now news is
      (λ i within. upto_all turns k i (omega (arith, within, all, long))) (ap (λ (n : ℕ). total + n) all) (partway.made turns total first firsts none made);
  runs = λ m numbers r run.
      let many = run.alone.many in
      subst (λ (l : List ℕ). IsWorkerRun m numbers (round_of (plan m) l r) board now news is) (take_all k numbers (omega (arith, all, many))) (partway.runs m numbers r run);
}
  where
    long : length news ≡ length olds
    long = (partway.made (λ _. 0) 0 before olds was (none_made board before olds was adds)).many
