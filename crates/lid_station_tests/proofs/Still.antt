-- What is known of a hand once code over any stations gives it back.
use Rattle.std.proofs.Common.{◌≡◌, ℕ, ◌*◌, ◌^◌, ◌<◌, List, [], length, get_or, replicate, refl, sym, ◌∙◌, ap, subst, arith}
use Rattle.std.specs.Prelude.{Option, Some, None, option_map, slice_get}
use Rattle.std.specs.List.{All}
use Rattle.std.proofs.lemmas.List.{get_or-replicate, length-replicate}
use Rattle.std.proofs.lemmas.List.Elements.{All-replicate}
use Rattle.std.proofs.lemmas.Option.{same_Some, slice_get_within, get_or_from_slice_get}
use mathlib.Core.Logic.{dite}
use native.Mathlib.Decide.{ℕ_discrete}
use Rattle.lid_station.specs.Boards.{Facts, Changes}
use Rattle.lid_station.proofs.Boards.{changed_here, changed_else}
use Rattle.lid_board.specs.Lending.{IsBack}
use Rattle.lid_board.specs.Owners.{IsOf, IsOwned, ends_of, identity_of}
use Rattle.lid_board.specs.Standing.{AreStreamsOf}
use Rattle.lid_board.specs.Starts.{AreStreamsFor}
use Rattle.lid_board.specs.Views.{EndTable, at, facts, facts_at, held, held_of}
use Rattle.lid_board.proofs.Lent.{come_back}
use Rattle.lid_board.specs.declared.board.Board.{Board}
use Rattle.lid_board.specs.declared.hand.Hand.{Hand}
use Rattle.lid_board.specs.declared.view.EndFacts.{EndFacts}

facts_there : (o : Option EndFacts) (n : ℕ) → option_map (λ (h : EndFacts). h.passed) o ≡ Some n → (f : Facts) × (option_map facts o ≡ Some f) × (f.passed ≡ n)
facts_there None n e = absurd (cc)
facts_there (Some h) n e = (facts h, refl, same_Some h.passed n e)

-- an end of which a number is told is served
pub served_here : (ends : EndTable) (end n : ℕ) (o : Option ℕ) → o ≡ option_map (λ (h : EndFacts). h.passed) (at ends end) → o ≡ Some n → (f : Facts) × (facts_at ends end ≡ Some f) × (f.passed ≡ n)
served_here ends end n o told some_n = facts_there (at ends end) n (sym told ∙ some_n)

-- one stream for each station
pub begins_same : (n token : ℕ) (stream : List ℕ) → slice_get stream 0 ≡ Some token → length stream < 2 ^ 64 → All (λ t. t < 2 ^ 31) stream → AreStreamsFor (replicate n (Some token)) (replicate n stream)
begins_same n token stream next short small = record {
  many = length-replicate n stream ∙ sym (length-replicate n (Some token));
  short = All-replicate (λ (s : List ℕ). length s < 2 ^ 64) n stream short;
  small = All-replicate (λ (s : List ℕ). All (λ t. t < 2 ^ 31) s) n stream small;
  first = λ station t at_t.
      let inside = slice_get_within (replicate n (Some token)) station (Some t) at_t in
      let long = length-replicate {A = Option ℕ} n (Some token) in
      let there : station < n = omega arith in
      let t_is : token ≡ t = same_Some token t (sym (get_or-replicate n station (Some token) None there) ∙ get_or_from_slice_get (replicate n (Some token)) station (Some t) None at_t) in
      ap (λ (s : List ℕ). slice_get s 0) (get_or-replicate n station stream [] there) ∙ next ∙ ap (λ (k : ℕ). Some k) t_is;
}

pub stands_same : (plan : EndTable) (n : ℕ) (stream : List ℕ) → length plan ≡ 2 * n → AreStreamsOf plan (λ station. get_or (replicate n stream) station []) → AreStreamsOf plan (λ _. stream)
stands_same plan n stream many stands station inside = stands station inside ∙ get_or-replicate n station stream [] (omega arith)

-- the hand that was lent is the one that comes back
pub still_back : (old new back : Hand) (before after : Board) (a b : ℕ) → identity_of a new after ≡ identity_of b old before → (b ≡ a → back ≡ new) → IsOf old before → IsOf new after → IsOf back before
still_back old new back before after a b e is of_old of_new =
    let made : IsBack b a old new before = come_back b a old new before after e of_old of_new in
    subst (λ (h : Hand). IsOf h before) (sym (is (sym made.same))) made.of

-- an end of which something is known is owned
owned_there : (o : Option EndFacts) (f : Facts) → option_map facts o ≡ Some f → o ≡ Some (held_of o)
owned_there None f e = absurd (cc)
owned_there (Some h) f e = refl

-- a change at one end leaves a hand the ends that it owns
pub owned_kept : (old new : EndTable) (end k : ℕ) (step : Facts → Facts) → Changes (facts_at old) end step (facts_at new) → IsOwned old k → IsOwned new k
owned_kept old new end k step changes owned =
    let known : facts_at old k ≡ Some (facts (held old k)) = ap (option_map facts) owned in
    dite (ℕ_discrete k end)
    (λ hit. owned_there (at new k) (step (facts (held old k))) (changed_here (facts_at old) (facts_at new) k step (facts (held old k)) (subst (λ (n : ℕ). Changes (facts_at old) n step (facts_at new)) (sym hit) changes) known))
    (λ miss. owned_there (at new k) (facts (held old k)) (changed_else (facts_at old) (facts_at new) end k step changes miss ∙ known))

-- what is owned at the hand that comes back
pub owned_back : (old new back : Hand) (before after : Board) (a b k : ℕ) → identity_of a new after ≡ identity_of b old before → (b ≡ a → back ≡ new) → IsOf old before → IsOf new after → IsOwned (ends_of new) k → IsOwned (ends_of back) k
owned_back old new back before after a b k e is of_old of_new owned =
    let made : IsBack b a old new before = come_back b a old new before after e of_old of_new in
    subst (λ (h : Hand). IsOwned (ends_of h) k) (sym (is (sym made.same))) owned
