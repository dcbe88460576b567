-- What a load finds in the word of the next token of an end.
use Rattle.std.proofs.Common.{◌≡◌, ℕ, ◌+◌, ◌-◌, ◌*◌, ◌/◌, ◌%◌, ◌<◌, ◌≤◌, List, length, get_or, take, set, sym, ◌∙◌, ap, subst, arith}
use Rattle.std.specs.Prelude.{bit_and, bit_or, Some, slice_get}
use Rattle.std.proofs.lemmas.List.{set-get_or, length-take-le}
use Rattle.std.proofs.lemmas.List.Elements.{All-get_or, All-take}
use Rattle.std.proofs.lemmas.Option.{slice_get-get_or, slice_get_within, get_or_from_slice_get}
use Rattle.lid_station.specs.Words.{half_of, word, word_number}
use Rattle.lid_station.proofs.Words.{word_nothing, word_full_even, word_full_odd}
use Rattle.lid_board.specs.Halves.{word_half, others, filling}
use Rattle.lid_board.specs.Relation.{Kept}
use Rattle.lid_station.specs.Boards.{HasFullBits}
use Rattle.lid_board.specs.Told.{ShowsNext}
use Rattle.lid_board.specs.Views.{passing}
use Rattle.lid_board.specs.declared.view.EndFacts.{EndFacts}
use Rattle.lid_board.proofs.Halving.{shown_word, token-there, room-there, full_there}
use Rattle.lid_board.proofs.Stations.{place_within, kept_taken, kept_put}

module _ (words : List ℕ) (first : ℕ) (f d : EndFacts) where
  -- the word that has a place of the station
  word-at : (passed place : ℕ) → Kept words first f d → place ≡ passed % f.cap → get_or words (first + place / 2) 0 ≡ word f.cap (take f.passed f.stream) (take d.passed f.stream) (place / 2)
  word-at passed place k is = k.shows (place / 2) (let w = place_within f.cap passed k.fixed.two in let e : place / 2 ≡ passed % f.cap / 2 = ap (λ (n : ℕ). n / 2) is in omega arith)

  half-at : (passed place : ℕ) → Kept words first f d → place ≡ passed % f.cap → word_half place (get_or words (first + place / 2) 0) ≡ half_of f.cap (take f.passed f.stream) (take d.passed f.stream) (passed % f.cap)
  half-at passed place k is =
      ap (word_half place) (word-at passed place k is)
      ∙ shown_word f.cap f.stream f.passed d.passed place k.ordered k.within k.fixed.small
      ∙ ap (half_of f.cap (take f.passed f.stream) (take d.passed f.stream)) is

  -- a station that holds nothing has the word 0 there
  pub reads_void : (place : ℕ) → Kept words first f d → place ≡ d.passed % f.cap → f.passed ≤ d.passed → get_or words (first + place / 2) 0 ≡ 0
  reads_void place k is none =
      let same : f.passed ≡ d.passed = (let o = k.ordered in omega arith) in
      word-at d.passed place k is
      ∙ word_nothing f.cap (take f.passed f.stream) (take d.passed f.stream) (place / 2) (let e : length (take f.passed f.stream) ≡ length (take d.passed f.stream) = ap (λ (n : ℕ). length (take n f.stream)) same in omega arith)

  -- else the place shows the next token
  pub reads_token : (place : ℕ) → Kept words first f d → place ≡ d.passed % f.cap → d.passed < f.passed → ShowsNext d (word_half place (get_or words (first + place / 2) 0))
  reads_token place k is some =
      let shows = half-at d.passed place k is ∙ token-there f.cap f.stream f.passed d.passed some k.within k.room in
      let inside : d.passed < length f.stream = (let w = k.within in omega arith) in
      let small : get_or f.stream d.passed 0 < 2147483648 = All-get_or (λ (t : ℕ). t < 2147483648) f.stream d.passed 0 inside k.fixed.small in
      record {
        least = omega arith;
        most = omega arith;
        next =
            ap (λ (s : List ℕ). slice_get s d.passed) k.fixed.stream
            ∙ slice_get-get_or f.stream d.passed 0 inside
            ∙ ap (λ (t : ℕ). Some t) (omega arith);
      }

  -- a station with room shows 0 in the place of the next token that is put
  pub reads_room : (place : ℕ) → Kept words first f d → place ≡ f.passed % f.cap → f.passed < d.passed + f.cap → word_half place (get_or words (first + place / 2) 0) ≡ 0
  reads_room place k is some = half-at f.passed place k is ∙ room-there f.cap f.stream f.passed d.passed k.ordered k.within some

  -- a full one does not
  pub reads_full : (place : ℕ) → Kept words first f d → place ≡ f.passed % f.cap → d.passed + f.cap ≤ f.passed → 2147483648 ≤ word_half place (get_or words (first + place / 2) 0)
  reads_full place k is full =
      let shows = half-at f.passed place k is in
      let two = k.fixed.two in
      let same : f.passed ≡ d.passed + f.cap = (let o = k.room in omega arith) in
      let least = full_there f.cap f.stream f.passed d.passed same k.within (omega arith) in
      omega arith

  -- and the word is that of a full station
  pub reads_stop : (place : ℕ) → Kept words first f d → place ≡ f.passed % f.cap → d.passed + f.cap ≤ f.passed
      → get_or words (first + place / 2) 0 ≡ word f.cap (take f.passed f.stream) (take (f.passed - f.cap) f.stream) (word_number f.cap f.passed)
  reads_stop place k is full =
      let left : d.passed ≡ f.passed - f.cap = (let o = k.room in omega arith) in
      word-at f.passed place k is
      ∙ ap (λ (n : ℕ). word f.cap (take f.passed f.stream) (take n f.stream) (place / 2)) left
      ∙ ap (λ (n : ℕ). word f.cap (take f.passed f.stream) (take (f.passed - f.cap) f.stream) (n / 2)) is

  -- each of its places has the full bit
  pub reads_bits : (place : ℕ) → Kept words first f d → place ≡ f.passed % f.cap → d.passed + f.cap ≤ f.passed → HasFullBits f.cap (word_number f.cap f.passed) (get_or words (first + place / 2) 0)
  reads_bits place k is full =
      let e = word-at f.passed place k is in
      let two = k.fixed.two in
      let number : place / 2 ≡ word_number f.cap f.passed = ap (λ (n : ℕ). n / 2) is in
      let small = All-take (λ (t : ℕ). t < 2147483648) f.passed f.stream k.fixed.small in
      let within = k.within in
      let room = k.room in
      let put : length (take f.passed f.stream) ≡ f.passed = length-take-le f.passed f.stream within in
      let taken : length (take d.passed f.stream) ≡ d.passed = length-take-le d.passed f.stream (let o = k.ordered in omega arith) in
      let long : length (take f.passed f.stream) ≡ length (take d.passed f.stream) + f.cap = omega arith in
      let inside : 2 * (place / 2) < f.cap = omega arith in
      record {
        even = ap (λ (n : ℕ). n / 2147483648 % 2) e ∙ word_full_even f.cap (take f.passed f.stream) (take d.passed f.stream) (place / 2) small long inside;
        odd = λ there. ap (λ (n : ℕ). n / 9223372036854775808 % 2) e ∙ word_full_odd f.cap (take f.passed f.stream) (take d.passed f.stream) (place / 2) small long (omega arith);
      }

  -- a load changes no word
  pub kept_load : (spot : ℕ) (e g : EndFacts) → Kept words first e g → Kept (set words spot (get_or words spot 0)) first e g
  kept_load spot e g k = subst (λ (ws : List ℕ). Kept ws first e g) (sym (set-get_or words spot 0)) k

  pub kept_taken_at : (place : ℕ) → Kept words first f d → place ≡ d.passed % f.cap → d.passed < f.passed → first + place / 2 < length words
      → Kept (set words (first + place / 2) (bit_and (get_or words (first + place / 2) 0) (others place))) first f (passing d)
  kept_taken_at place k is some inside =
      let spot : first + d.passed % f.cap / 2 < length words = (let e : place / 2 ≡ d.passed % f.cap / 2 = ap (λ (n : ℕ). n / 2) is in omega arith) in
      subst (λ (p : ℕ). Kept (set words (first + p / 2) (bit_and (get_or words (first + p / 2) 0) (others p))) first f (passing d)) (sym is)
      (kept_taken words first f d k some spot)

  pub kept_put_at : (place token : ℕ) → Kept words first f d → place ≡ f.passed % f.cap → f.passed < d.passed + f.cap → slice_get f.stream f.passed ≡ Some token → first + place / 2 < length words
      → Kept (set words (first + place / 2) (bit_or (get_or words (first + place / 2) 0) (filling place token))) first (passing f) d
  kept_put_at place token k is some next inside =
      let within : f.passed < length f.stream = slice_get_within f.stream f.passed token next in
      let spot : first + f.passed % f.cap / 2 < length words = (let e : place / 2 ≡ f.passed % f.cap / 2 = ap (λ (n : ℕ). n / 2) is in omega arith) in
      subst (λ (t : ℕ). Kept (set words (first + place / 2) (bit_or (get_or words (first + place / 2) 0) (filling place t))) first (passing f) d) (get_or_from_slice_get f.stream f.passed token 0 next)
      (subst (λ (p : ℕ). Kept (set words (first + p / 2) (bit_or (get_or words (first + p / 2) 0) (filling p (get_or f.stream f.passed 0)))) first (passing f) d) (sym is)
      (kept_put words first f d k some within spot))
