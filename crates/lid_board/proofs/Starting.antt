-- A board at its start.
use Rattle.std.proofs.Common.{◌≡◌, ℕ, zero, suc, ◌+◌, ◌-◌, ◌*◌, ◌/◌, ◌%◌, ◌^◌, ◌<◌, ◌≤◌, List, [], ◌∷◌, ◌++◌, length, get_or, take, refl, sym, ◌∙◌, ap, subst, arith, length-append}
use Rattle.std.specs.Prelude.{Option, Some, None, option_map, slice_get, bit_or}
use Rattle.std.specs.List.{All}
use Rattle.std.proofs.lemmas.List.{get_or_append_left, get_or-append_right, get_or_past}
use Rattle.std.proofs.lemmas.List.Elements.{All-get_or}
use Rattle.std.proofs.lemmas.List.Sums.{sum_by-cons}
use Rattle.std.proofs.lemmas.Option.{same_Some, slice_get_within, get_or_from_slice_get, slice_get-get_or}
use Rattle.atomic_table.specs.Seated.{TableId}
use Rattle.lid_station.specs.Boards.{fill, drain}
use Rattle.lid_station.specs.Starts.{start_count}
use Rattle.lid_station.specs.Words.{word}
use Rattle.lid_station.proofs.Words.{word_nothing}
use Rattle.lid_board.specs.Halves.{filling}
use Rattle.lid_board.specs.Relation.{AreWithin, Kept, Related, word_count, first_word, capacity_of, stream_of}
use Rattle.lid_board.specs.Starts.{starts_from, first_ends, start_fill, start_drain, start_word, first_of, AreStreamsFor, AreLaid, AreFirsts, AreNumbers, HasLaidWords}
use Rattle.lid_board.specs.Ties.{IsTied, IsLaidTable}
use Rattle.lid_board.specs.Views.{EndTable, at, has, held, held_of, one_of, IsEarly}
use Rattle.lid_board.specs.declared.view.EndFacts.{EndFacts}
use Rattle.lid_board.specs.declared.view.HandView.{HandView}
use Rattle.lid_board.proofs.Halving.{put_here, put_else}
use mathlib.Core.Option.{some, some-injective, some-ne-none}
use mathlib.Core.Logic.{dite}
use native.Mathlib.Decide.{dec_le, ℕ_discrete}
use lib.ListN.{get_elem?}

first_of_apart : (caps : List ℕ) (one two : ℕ) → one < two → first_of caps one + word_count (get_or caps one 0) ≤ first_of caps two
first_of_apart caps one zero less = absurd (omega arith)
first_of_apart caps one (suc two) less =
    dite (ℕ_discrete one two)
    (λ last. let e : first_of caps one + word_count (get_or caps one 0) ≡ first_of caps two + word_count (get_or caps two 0) = ap (λ (n : ℕ). first_of caps n + word_count (get_or caps n 0)) last in omega arith)
    (λ earlier. let h = first_of_apart caps one two (omega arith) in omega arith)

first_of_some : (caps : List ℕ) (station : ℕ) → 1 ≤ first_of caps station
first_of_some caps zero = omega arith
first_of_some caps (suc station) = let h = first_of_some caps station in omega arith

first_of_next : (caps : List ℕ) (station : ℕ) → first_of caps (station + 1) ≡ first_of caps station + word_count (get_or caps station 0)
first_of_next caps station = let e : station + 1 ≡ suc station = omega arith in ap (first_of caps) e

-- the words of one station more
pub are_laid_more : (firsts : List (Option ℕ)) (caps words now : List ℕ) (stations : ℕ) → ((s : ℕ) → s < stations + 1 → 2 ≤ get_or caps s 0) → AreLaid firsts caps words stations
    → (n cap : ℕ) → n ≡ start_word (get_or firsts stations None) → cap ≡ get_or caps stations 0 → HasLaidWords words n (word_count cap) now → AreLaid firsts caps now (stations + 1)
are_laid_more firsts caps words now stations two a n cap n_is cap_is h =
    let wide : word_count cap ≡ word_count (get_or caps stations 0) = ap word_count cap_is in
    let long = a.long in
    let longer = h.long in
    let next = first_of_next caps stations in
    let some = first_of_some caps stations in
    record {
      long = omega arith;
      free = h.before 0 (omega arith) ∙ a.free;
      first = λ station there.
          dite (ℕ_discrete station stations)
          (λ last.
          ap (λ (n : ℕ). get_or now n 0) (ap (first_of caps) last ∙ sym long) ∙ h.first ∙ n_is ∙ ap (λ (n : ℕ). start_word (get_or firsts n None)) (sym last))
          (λ earlier.
          let gap = first_of_apart caps station stations (omega arith) in
          let much = two station there in
          h.before (first_of caps station) (omega arith) ∙ a.first station (omega arith));
      rest = λ station number there inside.
          dite (ℕ_discrete station stations)
          (λ last.
          let same : first_of caps station ≡ first_of caps stations = ap (first_of caps) last in
          h.rest (first_of caps station + (number + 1)) (omega arith))
          (λ earlier.
          let gap = first_of_apart caps station stations (omega arith) in
          h.before (first_of caps station + (number + 1)) (omega arith) ∙ a.rest station number (omega arith) inside);
    }

-- the number of the first word of one station more
pub are_firsts_more : (caps numbers : List ℕ) (stations first : ℕ) → AreFirsts caps numbers stations → first ≡ first_of caps stations → AreFirsts caps (numbers ++ first ∷ []) (stations + 1)
are_firsts_more caps numbers stations first a is =
    let many = a.many in
    let more = length-append numbers (first ∷ []) in
    record {
      many = omega arith;
      each = λ station there.
          dite (ℕ_discrete station stations)
          (λ last.
          get_or-append_right numbers (first ∷ []) (length numbers) station 0 refl (omega arith)
          ∙ ap (λ (k : ℕ). get_or (first ∷ []) k 0) (let e : station - length numbers ≡ 0 = omega arith in e)
          ∙ is ∙ ap (first_of caps) (sym last))
          (λ earlier. get_or_append_left numbers (first ∷ []) 0 station (omega arith) ∙ a.each station (omega arith));
    }

only : (v u : HandView) (j : ℕ) → get_elem? (v ∷ []) j ≡ some u → v ≡ u
only v u zero e = some-injective v u e
only v u (suc j) e = absurd (some-ne-none u (sym e))

-- what is known at the ends at the start
module _ (firsts : List (Option ℕ)) (caps : List ℕ) (streams : List (List ℕ)) where
  starts_from_long : (station count : ℕ) → length (starts_from firsts caps streams station count) ≡ 2 * count
  starts_from_long station zero = refl
  starts_from_long station (suc count) = let h = starts_from_long (suc station) count in omega arith

  starts_from_fill : (station count k : ℕ) → k < count → at (starts_from firsts caps streams station count) (2 * k) ≡ Some (start_fill firsts caps streams (station + k))
  starts_from_fill station zero k there = absurd (omega arith)
  starts_from_fill station (suc count) zero there = ap (λ (n : ℕ). Some (start_fill firsts caps streams n)) (let e : station ≡ station + 0 = omega arith in e)
  starts_from_fill station (suc count) (suc k) there =
      ap (at (starts_from firsts caps streams station (suc count))) (let e : 2 * suc k ≡ suc (suc (2 * k)) = omega arith in e)
      ∙ starts_from_fill (suc station) count k (omega arith)
      ∙ ap (λ (n : ℕ). Some (start_fill firsts caps streams n)) (let e : suc station + k ≡ station + suc k = omega arith in e)

  starts_from_drain : (station count k : ℕ) → k < count → at (starts_from firsts caps streams station count) (2 * k + 1) ≡ Some (start_drain firsts caps streams (station + k))
  starts_from_drain station zero k there = absurd (omega arith)
  starts_from_drain station (suc count) zero there = ap (λ (n : ℕ). Some (start_drain firsts caps streams n)) (let e : station ≡ station + 0 = omega arith in e)
  starts_from_drain station (suc count) (suc k) there =
      ap (at (starts_from firsts caps streams station (suc count))) (let e : 2 * suc k + 1 ≡ suc (suc (2 * k + 1)) = omega arith in e)
      ∙ starts_from_drain (suc station) count k (omega arith)
      ∙ ap (λ (n : ℕ). Some (start_drain firsts caps streams n)) (let e : suc station + k ≡ station + suc k = omega arith in e)

  module _ (plan : EndTable) (is : plan ≡ first_ends firsts caps streams) where
    pub plan_long : length plan ≡ 2 * length firsts
    plan_long = ap (λ (p : EndTable). length p) is ∙ starts_from_long 0 (length firsts)

    pub plan_fill : (station : ℕ) → station < length firsts → at plan (fill station) ≡ Some (start_fill firsts caps streams station)
    plan_fill station there =
        ap (λ (p : EndTable). at p (fill station)) is ∙ starts_from_fill 0 (length firsts) station there
        ∙ ap (λ (n : ℕ). Some (start_fill firsts caps streams n)) (let e : 0 + station ≡ station = omega arith in e)

    pub plan_drain : (station : ℕ) → station < length firsts → at plan (drain station) ≡ Some (start_drain firsts caps streams station)
    plan_drain station there =
        ap (λ (p : EndTable). at p (drain station)) is ∙ starts_from_drain 0 (length firsts) station there
        ∙ ap (λ (n : ℕ). Some (start_drain firsts caps streams n)) (let e : 0 + station ≡ station = omega arith in e)

    plan_cap : (station : ℕ) → station < length firsts → capacity_of plan station ≡ get_or caps station 0
    plan_cap station there = ap (λ (o : Option EndFacts). (held_of o).cap) (plan_fill station there)

    pub plan_stream : (station : ℕ) → station < length firsts → stream_of plan station ≡ get_or streams station []
    plan_stream station there = ap (λ (o : Option EndFacts). (held_of o).stream) (plan_fill station there)

    plan_first : (station : ℕ) → station ≤ length firsts → first_word plan station ≡ first_of caps station
    plan_first zero le = refl
    plan_first (suc station) le =
        ap (λ (n : ℕ). n + word_count (capacity_of plan station)) (plan_first station (omega arith))
        ∙ ap (λ (n : ℕ). first_of caps station + word_count n) (plan_cap station (omega arith))

    low_first : ((s : ℕ) → s < length firsts → get_or caps s 0 ≤ 16) → (station : ℕ) → station ≤ length firsts → first_of caps station ≤ 1 + 8 * station
    low_first most zero le = omega arith
    low_first most (suc station) le = let h = low_first most station (omega arith) in let m = most station (omega arith) in omega arith

    -- the board keeps what the plan says
    pub plan_laid : (firsts_kept : List ℕ) (table : TableId) (words : List ℕ) → length firsts < 2 ^ 32 → length caps ≡ length firsts → All (λ cap. 2 ≤ cap) caps → All (λ cap. cap ≤ 16) caps
        → AreFirsts caps firsts_kept (length firsts) → AreLaid firsts caps words (length firsts) → table.words ≡ length words → table.slots ≡ 0 → IsLaidTable plan caps firsts_kept table
    plan_laid firsts_kept table words few same two most numbers laid many slots =
        let long = plan_long in
        let count = numbers.many in
        record {
          ends = omega arith;
          few = omega arith;
          many = omega arith;
          sizes = λ station there. sym (plan_cap station (omega arith));
          two = λ station there. All-get_or (λ (cap : ℕ). 2 ≤ cap) caps station 0 there two;
          most = λ station there. All-get_or (λ (cap : ℕ). cap ≤ 16) caps station 0 there most;
          starts = λ station there. numbers.each station (omega arith) ∙ sym (plan_first station (omega arith));
          low = λ station there.
              let h = numbers.each station (omega arith) in
              let l = low_first (λ s inside. All-get_or (λ (cap : ℕ). cap ≤ 16) caps s 0 (omega arith) most) station (omega arith) in
              omega arith;
          words = many ∙ laid.long ∙ sym (plan_first (length firsts) (omega arith)) ∙ ap (first_word plan) (sym same);
          slots = slots;
        }

    -- the hand's numbers are those of its ends
    pub plan_tied : (numbers : List (Option ℕ)) → AreNumbers firsts numbers (length firsts) → IsTied numbers plan
    plan_tied numbers a end =
        let long = a.long in
        let ends = plan_long in
        let passed : Option EndFacts → Option ℕ = option_map (λ (h : EndFacts). h.passed) in
        dite (dec_le (2 * length firsts) end)
        (λ past. get_or_past numbers end None (omega arith) ∙ sym (ap passed (get_or_past plan end None (omega arith))))
        (λ inside.
        dite (ℕ_discrete (end % 2) 0)
        (λ even.
        let number : end ≡ 2 * (end / 2) = omega arith in
        ap (λ (n : ℕ). get_or numbers n None) number ∙ a.fills (end / 2) (omega arith)
        ∙ sym (ap (λ (n : ℕ). passed (at plan n)) number ∙ ap passed (plan_fill (end / 2) (omega arith))))
        (λ odd.
        let number : end ≡ 2 * (end / 2) + 1 = omega arith in
        ap (λ (n : ℕ). get_or numbers n None) number ∙ a.drains (end / 2) (omega arith)
        ∙ sym (ap (λ (n : ℕ). passed (at plan n)) number ∙ ap passed (plan_drain (end / 2) (omega arith)))))

    start-count : (first : Option ℕ) (stream : List ℕ) → ((token : ℕ) → first ≡ Some token → slice_get stream 0 ≡ Some token) → start_count first ≤ length stream
    start-count None stream begins = omega arith
    start-count (Some token) stream begins = let h = slice_get_within stream 0 token (begins token refl) in omega arith

    count_one : (first : Option ℕ) → start_count first ≤ 1
    count_one None = omega arith
    count_one (Some token) = omega arith

    -- the words of a station at its start
    start_shows : (first : Option ℕ) (cap : ℕ) (stream words : List ℕ) (spot : ℕ) → 2 ≤ cap → All (λ token. token < 2 ^ 31) stream → ((token : ℕ) → first ≡ Some token → slice_get stream 0 ≡ Some token)
        → get_or words spot 0 ≡ start_word first → ((number : ℕ) → number + 1 < word_count cap → get_or words (spot + (number + 1)) 0 ≡ 0)
        → (number : ℕ) → number < word_count cap → get_or words (spot + number) 0 ≡ word cap (take (start_count first) stream) (take 0 stream) number
    start_shows None cap stream words spot two small begins here others number inside =
        dite (ℕ_discrete number 0)
        (λ none. ap (λ (n : ℕ). get_or words n 0) (let e : spot + number ≡ spot = omega arith in e) ∙ here ∙ sym (word_nothing cap (take 0 stream) (take 0 stream) number (omega arith)))
        (λ more. ap (λ (n : ℕ). get_or words n 0) (let e : spot + number ≡ spot + ((number - 1) + 1) = omega arith in e) ∙ others (number - 1) (omega arith) ∙ sym (word_nothing cap (take 0 stream) (take 0 stream) number (omega arith)))
    start_shows (Some token) cap stream words spot two small begins here others number inside =
        let next = begins token refl in
        let within = slice_get_within stream 0 token next in
        let place : 0 % cap ≡ 0 = omega arith in
        let nothing = word_nothing cap (take 0 stream) (take 0 stream) in
        dite (ℕ_discrete number 0)
        (λ none.
        let full = put_here cap stream 0 0 (omega arith) within (omega arith) small in
        let full_0 : bit_or (word cap (take 0 stream) (take 0 stream) (0 / 2)) (filling 0 (get_or stream 0 0)) ≡ word cap (take (0 + 1) stream) (take 0 stream) (0 / 2) =
        subst (λ (p : ℕ). bit_or (word cap (take 0 stream) (take 0 stream) (p / 2)) (filling p (get_or stream 0 0)) ≡ word cap (take (0 + 1) stream) (take 0 stream) (p / 2)) place full in
        ap (λ (n : ℕ). get_or words n 0) (let e : spot + number ≡ spot = omega arith in e) ∙ here
        ∙ ap (λ (t : ℕ). 2147483648 + t) (sym (get_or_from_slice_get stream 0 token 0 next))
        ∙ sym (ap (λ (n : ℕ). bit_or n (filling 0 (get_or stream 0 0))) (nothing 0 (omega arith)))
        ∙ full_0
        ∙ ap (λ (n : ℕ). word cap (take 1 stream) (take 0 stream) n) (sym none))
        (λ more.
        ap (λ (n : ℕ). get_or words n 0) (let e : spot + number ≡ spot + ((number - 1) + 1) = omega arith in e) ∙ others (number - 1) (omega arith)
        ∙ sym (put_else cap stream 0 0 number (omega arith) within (λ e. more (e ∙ ap (λ (p : ℕ). p / 2) place)) ∙ nothing number (omega arith)))

    -- a start token is the first of its stream
    start_begins : AreStreamsFor firsts streams → (station : ℕ) → station < length firsts → (token : ℕ) → get_or firsts station None ≡ Some token → slice_get (get_or streams station []) 0 ≡ Some token
    start_begins b station there token e = b.first station token (slice_get-get_or firsts station None there ∙ ap (λ (o : Option ℕ). Some o) e)

    start_kept : (words : List ℕ) (station : ℕ) → station < length firsts → AreStreamsFor firsts streams → length caps ≡ length firsts → All (λ cap. 2 ≤ cap) caps → All (λ cap. cap ≤ 16) caps → AreLaid firsts caps words (length firsts)
        → Kept words (first_word plan station) (start_fill firsts caps streams station) (start_drain firsts caps streams station)
    start_kept words station there begins same two most laid =
        let first = get_or firsts station None in
        let cap = get_or caps station 0 in
        let stream = get_or streams station [] in
        let many = begins.many in
        let cap_two : 2 ≤ cap = All-get_or (λ (c : ℕ). 2 ≤ c) caps station 0 (omega arith) two in
        let stream_small : All (λ token. token < 2 ^ 31) stream = All-get_or (λ (s : List ℕ). All (λ token. token < 2 ^ 31) s) streams station [] (omega arith) begins.small in
        let begin = start_begins begins station there in
        let le = start-count first stream begin in
        let one = count_one first in
        let spot = plan_first station (omega arith) in
        record {
          fixed =
              record {
                stream = refl;
                cap = refl;
                start = refl;
                two = cap_two;
                few = All-get_or (λ (c : ℕ). c ≤ 16) caps station 0 (omega arith) most;
                small = stream_small;
                short = All-get_or (λ (s : List ℕ). length s < 2 ^ 64) streams station [] (omega arith) begins.short;
              };
          within = le;
          ordered = omega arith;
          room = omega arith;
          started = omega arith;
          shows = λ number inside.
              ap (λ (n : ℕ). get_or words (n + number) 0) spot
              ∙ start_shows first cap stream words (first_of caps station) cap_two stream_small begin (laid.first station there) (λ k below. laid.rest station k there below) number inside;
          token_seen = λ e. absurd (cc);
          room_seen = λ e. absurd (cc);
          token_early = λ e. refl;
          room_early = λ e. refl;
        }

    -- the board is related to the plan at its start
    pub start_related : {S : Type 0} (words : List ℕ) (homes : List (mathlib.Core.Option.Option S)) (v : HandView) → v.ends ≡ plan → AreStreamsFor firsts streams → length caps ≡ length firsts → All (λ cap. 2 ≤ cap) caps → All (λ cap. cap ≤ 16) caps → AreLaid firsts caps words (length firsts)
        → Related plan (record { words = words; homes = homes; views = v ∷ [] })
    start_related words homes v ends begins same two most laid =
        let long = plan_long in
        let view : (end : ℕ) → has end v ≡ one_of (at plan end) = λ end. ap (λ (p : EndTable). one_of (at p end)) ends in
        record {
          truth = held plan;
          stations = length firsts;
          ends = long;
          words = laid.long ∙ sym (plan_first (length firsts) (omega arith));
          no_station = laid.free;
          one = λ end inside.
              let sum = sum_by-cons (has end) v [] in
              let is = view end in
              dite (ℕ_discrete (end % 2) 0)
              (λ even.
              let number : end ≡ 2 * (end / 2) = omega arith in
              let there : one_of (at plan end) ≡ 1 = ap (λ (n : ℕ). one_of (at plan n)) number ∙ ap one_of (plan_fill (end / 2) (omega arith)) in
              omega arith)
              (λ odd.
              let number : end ≡ 2 * (end / 2) + 1 = omega arith in
              let there : one_of (at plan end) ≡ 1 = ap (λ (n : ℕ). one_of (at plan n)) number ∙ ap one_of (plan_drain (end / 2) (omega arith)) in
              omega arith);
          none = λ end past.
              let sum = sum_by-cons (has end) v [] in
              let is = view end in
              let away : one_of (at plan end) ≡ 0 = ap one_of (get_or_past plan end None past) in
              omega arith;
          agree = λ j u end h here e.
              let u_is : v ≡ u = only v u j here in
              let known : at plan end ≡ Some h = ap (λ (p : EndTable). at p end) (sym ends ∙ ap (λ (y : HandView). y.ends) u_is) ∙ e in
              sym (ap held_of known);
          planned = λ end inside. record { stream = refl; start = refl; cap = refl };
          kept = λ station there.
              subst (λ (y : EndFacts). Kept words (first_word plan station) y (held plan (drain station))) (sym (ap held_of (plan_fill station there)))
              (subst (λ (y : EndFacts). Kept words (first_word plan station) (start_fill firsts caps streams station) y) (sym (ap held_of (plan_drain station there)))
              (start_kept words station there begins same two most laid));
        }

    -- no look has missed
    pub plan_early : IsEarly plan
    plan_early end h here early =
        let long = plan_long in
        dite (dec_le (2 * length firsts) end)
        (λ past. let none : None ≡ Some h = sym (get_or_past plan end None (omega arith)) ∙ here in absurd (cc))
        (λ inside.
        dite (ℕ_discrete (end % 2) 0)
        (λ even.
        let number : end ≡ 2 * (end / 2) = omega arith in
        let is : start_fill firsts caps streams (end / 2) ≡ h = same_Some _ h (sym (plan_fill (end / 2) (omega arith)) ∙ ap (at plan) (sym number) ∙ here) in
        sym (ap (λ (y : EndFacts). y.misses) is))
        (λ odd.
        let number : end ≡ 2 * (end / 2) + 1 = omega arith in
        let is : start_drain firsts caps streams (end / 2) ≡ h = same_Some _ h (sym (plan_drain (end / 2) (omega arith)) ∙ ap (at plan) (sym number) ∙ here) in
        sym (ap (λ (y : EndFacts). y.misses) is)))

    -- no more tokens have passed than the streams have
    pub plan_within : AreStreamsFor firsts streams → AreWithin plan plan
    plan_within begins end h here =
        let long = plan_long in
        dite (dec_le (2 * length firsts) end)
        (λ past. let none : None ≡ Some h = sym (get_or_past plan end None (omega arith)) ∙ here in absurd (cc))
        (λ inside.
        let stream : length (stream_of plan (end / 2)) ≡ length (get_or streams (end / 2) []) = ap (λ (s : List ℕ). length s) (plan_stream (end / 2) (omega arith)) in
        dite (ℕ_discrete (end % 2) 0)
        (λ even.
        let number : end ≡ 2 * (end / 2) = omega arith in
        let is : start_fill firsts caps streams (end / 2) ≡ h = same_Some _ h (sym (plan_fill (end / 2) (omega arith)) ∙ ap (at plan) (sym number) ∙ here) in
        let passed : start_count (get_or firsts (end / 2) None) ≡ h.passed = ap (λ (y : EndFacts). y.passed) is in
        let le = start-count (get_or firsts (end / 2) None) (get_or streams (end / 2) []) (start_begins begins (end / 2) (omega arith)) in
        omega arith)
        (λ odd.
        let number : end ≡ 2 * (end / 2) + 1 = omega arith in
        let is : start_drain firsts caps streams (end / 2) ≡ h = same_Some _ h (sym (plan_drain (end / 2) (omega arith)) ∙ ap (at plan) (sym number) ∙ here) in
        let passed : 0 ≡ h.passed = ap (λ (y : EndFacts). y.passed) is in
        omega arith))
