-- What a step tells the hand that makes it.
use Rattle.std.specs.Prelude.{◌≡◌, ℕ, ◌+◌, ◌-◌, ◌^◌, ◌<◌, ◌≤◌, true, List, ◌∷◌, take, Some, slice_get}
use Rattle.lid_station.specs.Boards.{fill, drain, HasFullBits}
use Rattle.lid_station.specs.Words.{word, word_number}
use Rattle.lid_board.specs.Halves.{word_half}
use Rattle.lid_board.specs.Relation.{AreWithin, stream_of, capacity_of}
use Rattle.lid_board.specs.Views.{EndTable, at, IsEarly, held_seen, missing, passing, changed}
use Rattle.lid_board.specs.declared.view.EndFacts.{EndFacts}
use Rattle.lid_board.specs.declared.view.HandView.{HandView}

-- a hand that had made these steps made one more, at an end, and this is so of what it knows then at its ends
pub record HasStepped (end : ℕ) (steps : List ℕ) (new : HandView) (Told : EndTable → Type 0) : Type 0 where
  pub ends : Told new.ends
  pub noted : new.steps ≡ end ∷ steps

-- an end is of the station of the plan, the hand's ends stay early, and within their streams
pub record IsOfPlan (plan : EndTable) (station : ℕ) (h : EndFacts) (new : EndTable) : Type 0 where
  pub stream : h.stream ≡ stream_of plan station
  pub cap : h.cap ≡ capacity_of plan station
  pub early : IsEarly new
  pub within : AreWithin plan new

-- a load by the drainer found nothing
pub record FoundVoid (old : EndTable) (station : ℕ) (d : EndFacts) (found : ℕ) (new : EndTable) : Type 0 where
  pub now : new ≡ changed old (drain station) (missing d)
  pub nothing : found ≡ 0
  pub started : d.start ≤ d.passed
  pub unseen : d.mark ≡ true → ⊥

-- a word shows the next token of a drained end
pub record ShowsNext (d : EndFacts) (half : ℕ) : Type 0 where
  pub least : 2147483648 ≤ half
  pub most : half < 4294967296
  pub next : slice_get d.stream d.passed ≡ Some (half - 2147483648)

-- a load by the drainer
pub record LooksIn (plan old : EndTable) (station place : ℕ) (d : EndFacts) (found : ℕ) (new : EndTable) : Type 0 where
  pub right : IsOfPlan plan station d new
  pub void : word_half place found ≡ 0 → FoundVoid old station d found new
  pub token : (word_half place found ≡ 0 → ⊥) → (new ≡ changed old (drain station) (held_seen d)) × ShowsNext d (word_half place found)
  pub exact :
      (f : EndFacts) → at old (fill station) ≡ Some f
      → (word_half place found ≡ 0 → f.passed ≡ d.passed) × (f.passed ≡ d.passed → word_half place found ≡ 0)

-- a load by the filler found no room
pub record FoundStop (old : EndTable) (station : ℕ) (f : EndFacts) (found : ℕ) (new : EndTable) : Type 0 where
  pub now : new ≡ changed old (fill station) (missing f)
  pub unseen : f.mark ≡ true → ⊥
  pub filled : f.cap ≤ f.passed
  pub full : found ≡ word f.cap (take f.passed f.stream) (take (f.passed - f.cap) f.stream) (word_number f.cap f.passed)
  pub bits : HasFullBits f.cap (word_number f.cap f.passed) found

-- a load by the filler
pub record LooksOut (plan old : EndTable) (station place : ℕ) (f : EndFacts) (found : ℕ) (new : EndTable) : Type 0 where
  pub right : IsOfPlan plan station f new
  pub room : word_half place found ≡ 0 → new ≡ changed old (fill station) (held_seen f)
  pub stop : (word_half place found ≡ 0 → ⊥) → FoundStop old station f found new
  pub exact :
      (d : EndFacts) → at old (drain station) ≡ Some d
      → ((word_half place found ≡ 0 → ⊥) → f.passed ≡ d.passed + f.cap) × (f.passed ≡ d.passed + f.cap → word_half place found ≡ 0 → ⊥)

-- a `fetch_and` by the drainer
pub record TakesToken (plan old : EndTable) (station place : ℕ) (d : EndFacts) (found : ℕ) (new : EndTable) : Type 0 where
  pub right : IsOfPlan plan station d new
  pub now : new ≡ changed old (drain station) (passing d)
  pub token : ShowsNext d (word_half place found)
  pub counted : d.passed + 1 < 2 ^ 64

-- a `fetch_or` by the filler
pub record Puts (plan old : EndTable) (station : ℕ) (f : EndFacts) (new : EndTable) : Type 0 where
  pub right : IsOfPlan plan station f new
  pub now : new ≡ changed old (fill station) (passing f)
  pub counted : f.passed + 1 < 2 ^ 64
