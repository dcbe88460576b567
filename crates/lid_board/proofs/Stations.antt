-- One station through each kind of step.
use Rattle.std.proofs.Common.{◌≡◌, ℕ, ◌+◌, ◌/◌, ◌%◌, ◌<◌, ◌≤◌, Bool, true, false, List, length, get_or, take, set, sym, ◌∙◌, ap, arith, get_or-set_same, get_or-set_other}
use Rattle.std.specs.Prelude.{bit_and, bit_or}
use Rattle.lid_station.specs.Words.{word}
use Rattle.lid_board.specs.Halves.{others, filling}
use Rattle.lid_board.specs.Relation.{Kept, word_count}
use Rattle.lid_board.specs.Views.{held_seen, missing, passing}
use Rattle.lid_board.specs.declared.view.EndFacts.{EndFacts}
use Rattle.lid_board.proofs.Halving.{taken_here, taken_else, put_here, put_else}
use mathlib.Core.Logic.{dite}
use native.Mathlib.Decide.{ℕ_discrete}

-- a station through any step: as many tokens have passed its ends as are told, and what was seen and
-- missed there is told; the stream, the capacity and the start count stay
kept_step : (words new : List ℕ) (first : ℕ) (f d : EndFacts) (put taken : ℕ) (room token : Bool) (stops voids : ℕ) → Kept words first f d
    → put ≤ length f.stream → taken ≤ put → put ≤ taken + f.cap → f.start ≤ put
    → ((number : ℕ) → number < word_count f.cap → get_or new (first + number) 0 ≡ word f.cap (take put f.stream) (take taken f.stream) number)
    → (token ≡ true → taken < put) → (room ≡ true → put < taken + f.cap)
    → (taken < d.start → voids ≡ 0) → (put < f.cap → stops ≡ 0)
    → Kept new first (record f { passed = put; mark = room; misses = stops }) (record d { passed = taken; mark = token; misses = voids })
kept_step words new first f d put taken room token stops voids k within ordered roomy started shows token_seen room_seen token_early room_early = record {
  fixed = k.fixed;
  within = within;
  ordered = ordered;
  room = roomy;
  started = started;
  shows = shows;
  token_seen = token_seen;
  room_seen = room_seen;
  token_early = token_early;
  room_early = room_early;
}

-- a station at whose ends other things are seen and missed
kept_as : (words : List ℕ) (first : ℕ) (f d : EndFacts) (room token : Bool) (stops voids : ℕ) → Kept words first f d
    → (token ≡ true → d.passed < f.passed) → (room ≡ true → f.passed < d.passed + f.cap)
    → (d.passed < d.start → voids ≡ 0) → (f.passed < f.cap → stops ≡ 0)
    → Kept words first (record f { mark = room; misses = stops }) (record d { mark = token; misses = voids })
kept_as words first f d room token stops voids k token_seen room_seen token_early room_early =
    kept_step words words first f d f.passed d.passed room token stops voids k k.within k.ordered k.room k.started k.shows token_seen room_seen token_early room_early

pub kept_token : (words : List ℕ) (first : ℕ) (f d : EndFacts) → Kept words first f d → d.passed < f.passed → Kept words first f (held_seen d)
kept_token words first f d k some = kept_as words first f d f.mark true f.misses d.misses k (λ _. some) k.room_seen k.token_early k.room_early

pub kept_void : (words : List ℕ) (first : ℕ) (f d : EndFacts) → Kept words first f d → f.passed ≤ d.passed → Kept words first f (missing d)
kept_void words first f d k none =
    kept_as words first f d f.mark d.mark f.misses (d.misses + 1) k k.token_seen k.room_seen
    (λ early. (let more = k.started in let same = k.fixed.start in absurd (omega arith))) k.room_early

pub kept_room : (words : List ℕ) (first : ℕ) (f d : EndFacts) → Kept words first f d → f.passed < d.passed + f.cap → Kept words first (held_seen f) d
kept_room words first f d k some = kept_as words first f d true d.mark f.misses d.misses k k.token_seen (λ _. some) k.token_early k.room_early

pub kept_stop : (words : List ℕ) (first : ℕ) (f d : EndFacts) → Kept words first f d → d.passed + f.cap ≤ f.passed → Kept words first (missing f) d
kept_stop words first f d k full =
    kept_as words first f d f.mark d.mark (f.misses + 1) d.misses k k.token_seen k.room_seen k.token_early (λ early. absurd (omega arith))

-- a hand lets go of what it has seen
pub kept_unseen_in : (words : List ℕ) (first : ℕ) (f d : EndFacts) → Kept words first f d → Kept words first f (record d { mark = false })
kept_unseen_in words first f d k = kept_as words first f d f.mark false f.misses d.misses k (λ e. absurd (cc)) k.room_seen k.token_early k.room_early

pub kept_unseen_out : (words : List ℕ) (first : ℕ) (f d : EndFacts) → Kept words first f d → Kept words first (record f { mark = false }) d
kept_unseen_out words first f d k = kept_as words first f d false d.mark f.misses d.misses k k.token_seen (λ e. absurd (cc)) k.token_early k.room_early

-- a place's word is one of the station's
pub place_within : (cap passed : ℕ) → 2 ≤ cap → passed % cap / 2 < word_count cap
place_within cap passed two = let below : passed % cap < cap = omega arith in omega arith

pub kept_taken : (words : List ℕ) (first : ℕ) (f d : EndFacts) → Kept words first f d → d.passed < f.passed → first + d.passed % f.cap / 2 < length words
    → Kept (set words (first + d.passed % f.cap / 2) (bit_and (get_or words (first + d.passed % f.cap / 2) 0) (others (d.passed % f.cap)))) first f (passing d)
kept_taken words first f d k some inside =
    let ordered = k.ordered in
    let room = k.room in
    kept_step words _ first f d f.passed (d.passed + 1) f.mark false f.misses d.misses k k.within (omega arith) (omega arith) k.started shows (λ e. absurd (cc))
    (λ e. let held_seen = k.room_seen e in omega arith)
    (λ early. k.token_early (omega arith))
    k.room_early
  where
    shows : (number : ℕ) → number < word_count f.cap → get_or (set words (first + d.passed % f.cap / 2) (bit_and (get_or words (first + d.passed % f.cap / 2) 0) (others (d.passed % f.cap)))) (first + number) 0 ≡ word f.cap (take f.passed f.stream) (take (d.passed + 1) f.stream) number
    shows number below =
        let spot = first + d.passed % f.cap / 2 in
        let put = bit_and (get_or words spot 0) (others (d.passed % f.cap)) in
        dite (ℕ_discrete number (d.passed % f.cap / 2))
        (λ same.
        ap (λ (n : ℕ). get_or (set words spot put) (first + n) 0) same
        ∙ get_or-set_same words spot put 0 inside
        ∙ ap (λ (n : ℕ). bit_and n (others (d.passed % f.cap))) (k.shows (d.passed % f.cap / 2) (place_within f.cap d.passed k.fixed.two))
        ∙ taken_here f.cap f.stream f.passed d.passed some k.within k.room k.fixed.small
        ∙ ap (λ (n : ℕ). word f.cap (take f.passed f.stream) (take (d.passed + 1) f.stream) n) (sym same))
        (λ other.
        get_or-set_other words spot (first + number) put 0 (λ e. other (omega arith))
        ∙ k.shows number below
        ∙ sym (taken_else f.cap f.stream f.passed d.passed number some k.within other))

pub kept_put : (words : List ℕ) (first : ℕ) (f d : EndFacts) → Kept words first f d → f.passed < d.passed + f.cap → f.passed < length f.stream → first + f.passed % f.cap / 2 < length words
    → Kept (set words (first + f.passed % f.cap / 2) (bit_or (get_or words (first + f.passed % f.cap / 2) 0) (filling (f.passed % f.cap) (get_or f.stream f.passed 0)))) first (passing f) d
kept_put words first f d k some more inside =
    let ordered = k.ordered in
    let started = k.started in
    kept_step words _ first f d (f.passed + 1) d.passed false d.mark f.misses d.misses k (omega arith) (omega arith) (omega arith) (omega arith) shows
    (λ e. let held_seen = k.token_seen e in omega arith)
    (λ e. absurd (cc))
    k.token_early
    (λ early. k.room_early (omega arith))
  where
    shows : (number : ℕ) → number < word_count f.cap → get_or (set words (first + f.passed % f.cap / 2) (bit_or (get_or words (first + f.passed % f.cap / 2) 0) (filling (f.passed % f.cap) (get_or f.stream f.passed 0)))) (first + number) 0 ≡ word f.cap (take (f.passed + 1) f.stream) (take d.passed f.stream) number
    shows number below =
        let spot = first + f.passed % f.cap / 2 in
        let put = bit_or (get_or words spot 0) (filling (f.passed % f.cap) (get_or f.stream f.passed 0)) in
        dite (ℕ_discrete number (f.passed % f.cap / 2))
        (λ same.
        ap (λ (n : ℕ). get_or (set words spot put) (first + n) 0) same
        ∙ get_or-set_same words spot put 0 inside
        ∙ ap (λ (n : ℕ). bit_or n (filling (f.passed % f.cap) (get_or f.stream f.passed 0))) (k.shows (f.passed % f.cap / 2) (place_within f.cap f.passed k.fixed.two))
        ∙ put_here f.cap f.stream f.passed d.passed k.ordered more some k.fixed.small
        ∙ ap (λ (n : ℕ). word f.cap (take (f.passed + 1) f.stream) (take d.passed f.stream) n) (sym same))
        (λ other.
        get_or-set_other words spot (first + number) put 0 (λ e. other (omega arith))
        ∙ k.shows number below
        ∙ sym (put_else f.cap f.stream f.passed d.passed number k.ordered more other))

-- a station whose words did not change
pub kept_frame : (words others : List ℕ) (first : ℕ) (f d : EndFacts) → Kept words first f d → ((number : ℕ) → number < word_count f.cap → get_or others (first + number) 0 ≡ get_or words (first + number) 0) → Kept others first f d
kept_frame words others first f d k same =
    kept_step words others first f d f.passed d.passed f.mark d.mark f.misses d.misses k k.within k.ordered k.room k.started (λ number below. same number below ∙ k.shows number below) k.token_seen k.room_seen k.token_early k.room_early
