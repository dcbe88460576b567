-- Plain stations: what their ends tell of them, and for which streams they stand after a step.
use Rattle.std.proofs.Common.{◌≡◌, ℕ, zero, suc, ◌+◌, ◌-◌, ◌*◌, ◌/◌, ◌%◌, ◌^◌, ◌<◌, ◌≤◌, ◌==◌, cond, true, false, List, [], ◌∷◌, length, get_or, take, set, refl, sym, ◌∙◌, ap, subst, arith, nat_lt, lt_of_not-le, lt-ltb, le-ltb, length-set, eq-eqb, ne_eqb}
use Rattle.std.specs.Prelude.{Option, Some, option_map, slice_get}
use Rattle.std.proofs.lemmas.Option.{slice_get_within, same_Some, get_or_from_slice_get, slice_get-get_or, slice_get_read}
use Rattle.std.proofs.lemmas.List.Elements.{All-get_or}
use Rattle.std.proofs.lemmas.List.{length-take-le, get_or-take, get_or-set_same, get_or-set_other}
use Rattle.lid_station.specs.declared.pair.Pair.{Pair}
use Rattle.lid_station.specs.Boards.{Changes, Facts, IsServed, drain, fill, looked_out, HasFullBits}
use Rattle.lid_station.specs.Plain.{end_facts, plain_ends, HoldsTokensOf, PlainStands, PlainAdmits}
use Rattle.lid_station.specs.PlainLaws.{at_drain, at_fill, ends_even, ends_odd, mapped}
use Rattle.lid_station.specs.Words.{half, half_of, word}
use Rattle.lid_station.specs.declared.looks.OutLook.{OutLook}
use Rattle.lid_station.proofs.Boards.{changed_at, looked_out_passed}
use Rattle.lid_station.proofs.Words.{one_turn, reach, half_token, half_past, low_bit, high_bit}
use mathlib.Core.Logic.{dite}
use native.Mathlib.Decide.{dec_le, ℕ_discrete}

-- the station that was read is the one that its fill end is of
pub here_fill : (pairs : List Pair) (station : ℕ) (p : Pair) (f : Facts) → p ≡ get_or pairs station p → plain_ends pairs (fill station) ≡ Some f → (slice_get pairs station ≡ Some p) × (f ≡ end_facts true p)
here_fill pairs station p f is at =
    let there = at_fill pairs station f at in
    let same : there.0 ≡ p = sym (is ∙ get_or_from_slice_get pairs station there.0 p there.1) in
    (there.1 ∙ ap (λ (q : Pair). Some q) same, there.2 ∙ ap (end_facts true) same)

-- the station that was read is the one that its drain end is of
pub here_drain : (pairs : List Pair) (station : ℕ) (p : Pair) (f : Facts) → p ≡ get_or pairs station p → plain_ends pairs (drain station) ≡ Some f → (slice_get pairs station ≡ Some p) × (f ≡ end_facts false p)
here_drain pairs station p f is at =
    let there = at_drain pairs station f at in
    let same : there.0 ≡ p = sym (is ∙ get_or_from_slice_get pairs station there.0 p there.1) in
    (there.1 ∙ ap (λ (q : Pair). Some q) same, there.2 ∙ ap (end_facts false) same)

-- the element that was written, where there is one
set_at : (pairs : List Pair) (i : ℕ) (q p : Pair) → slice_get pairs i ≡ Some p → slice_get (set pairs i q) i ≡ Some q
set_at [] i q p e = absurd (cc)
set_at (x ∷ xs) zero q p e = refl
set_at (x ∷ xs) (suc i) q p e = set_at xs i q p e

-- the element that was written
pub set_here : (pairs : List Pair) (i : ℕ) (q p : Pair) → slice_get (set pairs i q) i ≡ Some p → q ≡ p
set_here [] i q p e = absurd (cc)
set_here (x ∷ xs) zero q p e = same_Some q p e
set_here (x ∷ xs) (suc i) q p e = set_here xs i q p e

-- the elements that were not written
pub set_there : (pairs : List Pair) (i j : ℕ) (q : Pair) → (j ≡ i → ⊥) → slice_get (set pairs i q) j ≡ slice_get pairs j
set_there [] i j q other = refl
set_there (x ∷ xs) zero zero q other = absurd (other refl)
set_there (x ∷ xs) zero (suc j) q other = refl
set_there (x ∷ xs) (suc i) zero q other = refl
set_there (x ∷ xs) (suc i) (suc j) q other = set_there xs i j q (λ e. other (ap suc e))

-- a step at a station's drained end
pub changes_drain : (pairs : List Pair) (station : ℕ) (p q : Pair) (step : Facts → Facts) → slice_get pairs station ≡ Some p → end_facts false q ≡ step (end_facts false p) → end_facts true q ≡ end_facts true p → Changes (plain_ends pairs) (drain station) step (plain_ends (set pairs station q))
changes_drain pairs station p q step at here there k =
    dite (ℕ_discrete k (drain station))
    (λ same. rw (eq-eqb k (drain station) same)
    (ends_odd (set pairs station q) k station same
    ∙ ap (option_map (end_facts false)) (set_at pairs station q p at)
    ∙ ap (λ (f : Facts). Some f) here
    ∙ ap (λ (o : Option Pair). option_map step (option_map (end_facts false) o)) (sym at)
    ∙ ap (option_map step) (sym (ends_odd pairs k station same))))
    (λ other. rw (ne_eqb k (drain station) other)
    (dite (ℕ_discrete (k / 2) station)
    (λ beside.
    let even : k ≡ 2 * station = omega arith in
    ends_even (set pairs station q) k station even
    ∙ ap (option_map (end_facts true)) (set_at pairs station q p at)
    ∙ ap (λ (f : Facts). Some f) there
    ∙ ap (option_map (end_facts true)) (sym at)
    ∙ sym (ends_even pairs k station even))
    (λ apart. ap (option_map (end_facts (k % 2 == 0))) (set_there pairs station (k / 2) q apart))))

-- one station changed and still stands for its stream
pub stands_set : (pairs : List Pair) (station : ℕ) (q : Pair) (streams : ℕ → List ℕ) → PlainStands pairs streams → HoldsTokensOf q (streams station) → PlainStands (set pairs station q) streams
stands_set pairs station q streams stands holds i p at =
    dite (ℕ_discrete i station)
    (λ same.
    let here : slice_get (set pairs station q) station ≡ Some p = ap (λ (k : ℕ). slice_get (set pairs station q) k) (sym same) ∙ at in
    let is : q ≡ p = set_here pairs station q p here in
    let here_holds : HoldsTokensOf p (streams station) = subst (λ (r : Pair). HoldsTokensOf r (streams station)) is holds in
    subst (λ (k : ℕ). HoldsTokensOf p (streams k)) (sym same) here_holds)
    (λ other. stands i p (sym (set_there pairs station i q other) ∙ at))

-- the token in the place of the number taken is the stream's next
pub next_token : (p : Pair) (stream : List ℕ) (place token : ℕ) → HoldsTokensOf p stream → p.taken < p.put → place ≡ p.taken % length p.places.items → token ≡ get_or p.places.items place token → slice_get stream p.taken ≡ Some token
next_token p stream place token holds some is read =
    let filled : p.put ≤ length stream = holds.filled in
    let two : 2 ≤ length p.places.items = p.two in
    let within : place < length p.places.items = omega arith in
    let there : get_or p.places.items place 0 ≡ token = get_or_from_slice_get p.places.items place token 0 (slice_get_read p.places.items (length p.places.items) place token refl within read) in
    slice_get-get_or stream p.taken 0 (omega arith)
    ∙ ap (λ (t : ℕ). Some t) (sym (holds.held p.taken (omega arith) some) ∙ ap (λ (k : ℕ). get_or p.places.items k 0) (sym is) ∙ there)

-- the tokens that are held after a put
held_more_at : (places stream : List ℕ) (taken put token : ℕ) → taken ≤ put → put < taken + length places → 0 < length places
    → slice_get stream put ≡ Some token
    → ((i : ℕ) → taken ≤ i → i < put → get_or places (i % length places) 0 ≡ get_or stream i 0)
    → (i : ℕ) → taken ≤ i → i < put + 1 → get_or (set places (put % length places) token) (i % length (set places (put % length places) token)) 0 ≡ get_or stream i 0
held_more_at places stream taken put token ordered room some next held i from to =
    let size : length (set places (put % length places) token) ≡ length places = length-set places (put % length places) token in
    let spot : put % length places < length places = omega arith in
    ap (λ (n : ℕ). get_or (set places (put % length places) token) (i % n) 0) size
    ∙ dite (ℕ_discrete i put)
    (λ last.
    ap (λ (k : ℕ). get_or (set places (put % length places) token) (k % length places) 0) last
    ∙ get_or-set_same places (put % length places) token 0 spot
    ∙ sym (get_or_from_slice_get stream put token 0 next)
    ∙ ap (λ (k : ℕ). get_or stream k 0) (sym last))
    (λ earlier.
    get_or-set_other places (put % length places) (i % length places) token 0
    (λ same. earlier (one_turn i put (length places) (omega arith) (omega arith) same))
    ∙ held i from (omega arith))

-- a station whose places hold what another's stream has
holds_from : (p q : Pair) (stream places : List ℕ) → HoldsTokensOf p stream → q.places.items ≡ places → q.put ≤ length stream
    → ((i : ℕ) → q.taken ≤ i → i < q.put → get_or places (i % length places) 0 ≡ get_or stream i 0) → HoldsTokensOf q stream
holds_from p q stream places holds is filled held =
    record {
      short = holds.short;
      small = holds.small;
      filled = filled;
      held = λ i from to. ap (λ (items : List ℕ). get_or items (i % length items) 0) is ∙ held i from to;
    }

-- a station from which a token was taken
pub holds_less : (p q : Pair) (stream : List ℕ) → HoldsTokensOf p stream → q.places.items ≡ p.places.items → q.put ≡ p.put → q.taken ≡ p.taken + 1 → HoldsTokensOf q stream
holds_less p q stream holds places put taken =
    let filled : p.put ≤ length stream = holds.filled in
    holds_from p q stream p.places.items holds places (omega arith) (λ i from to. holds.held i (omega arith) (omega arith))

-- a station in whose next place the stream's next token was put
pub holds_more : (p q : Pair) (stream : List ℕ) (place token : ℕ) → HoldsTokensOf p stream → p.put < p.taken + length p.places.items → place ≡ p.put % length p.places.items
    → slice_get stream p.put ≡ Some token → q.places.items ≡ set p.places.items place token → q.put ≡ p.put + 1 → q.taken ≡ p.taken → HoldsTokensOf q stream
holds_more p q stream place token holds room is next places put taken =
    let two : 2 ≤ length p.places.items = p.two in
    let written : q.places.items ≡ set p.places.items (p.put % length p.places.items) token = places ∙ ap (λ (k : ℕ). set p.places.items k token) is in
    let within : p.put < length stream = slice_get_within stream p.put token next in
    holds_from p q stream (set p.places.items (p.put % length p.places.items) token) holds written (omega arith)
    (λ i from to. held_more_at p.places.items stream p.taken p.put token p.ordered room (omega arith) next holds.held i (omega arith) (omega arith))

-- what a full station shows of a place is what the place shows in its word
pub shown_half : (p : Pair) (stream : List ℕ) (place : ℕ) → HoldsTokensOf p stream → p.put ≡ p.taken + length p.places.items
    → cond (nat_lt place (length p.places.items)) (2147483648 + get_or p.places.items place 0) 0
    ≡ half_of (length p.places.items) (take p.put stream) (take (p.put - length p.places.items) stream) place
shown_half p stream place holds full =
    let cap : ℕ = length p.places.items in
    let some : 2 ≤ cap = p.two in
    let filled : p.put ≤ length stream = holds.filled in
    let long : length (take p.put stream) ≡ p.put = length-take-le p.put stream filled in
    let short : length (take (p.put - cap) stream) ≡ p.put - cap = length-take-le (p.put - cap) stream (omega arith) in
    let first : length (take (p.put - cap) stream) ≡ p.taken = short ∙ omega arith in
    let count : length (take p.put stream) - length (take (p.put - cap) stream) ≡ cap = omega arith in
    let plain : half_of cap (take p.put stream) (take (p.put - cap) stream) place ≡ half cap (take p.put stream) p.taken cap place =
    ap (λ (k : ℕ). half cap (take p.put stream) k (length (take p.put stream) - length (take (p.put - cap) stream)) place) first
    ∙ ap (λ (n : ℕ). half cap (take p.put stream) p.taken n place) count in
    dite (dec_le cap place)
    (λ past. rw (le-ltb place cap past) (sym (plain ∙ half_past cap (take p.put stream) p.taken cap place (omega arith) past)))
    (λ inside.
    let within : place < cap = lt_of_not-le inside in
    let at = reach p.taken cap place within in
    let i : ℕ = at.0 in
    let before : i < p.put = omega arith in
    let token : get_or p.places.items place 0 ≡ get_or (take p.put stream) i 0 =
    ap (λ (k : ℕ). get_or p.places.items k 0) (sym at.3) ∙ holds.held i at.1 before ∙ sym (get_or-take p.put stream i 0 before) in
    rw (lt-ltb place cap within)
    (ap (λ (t : ℕ). 2147483648 + t) token ∙ sym (plain ∙ half_token cap (take p.put stream) p.taken cap place i (omega arith) at.1 at.2 at.3)))

-- the word that a full station tells
pub told_word : (p : Pair) (stream : List ℕ) (number even odd low high : ℕ) → HoldsTokensOf p stream → p.put ≡ p.taken + length p.places.items
    → even ≡ 2 * number → odd ≡ 2 * number + 1
    → low ≡ cond (nat_lt even (length p.places.items)) (2147483648 + get_or p.places.items even 0) 0
    → high ≡ cond (nat_lt odd (length p.places.items)) (2147483648 + get_or p.places.items odd 0) 0
    → low + 4294967296 * high ≡ word (length p.places.items) (take p.put stream) (take (p.put - length p.places.items) stream) number
unfolding word
told_word p stream number even odd low high holds full is_even is_odd is_low is_high =
    let below = is_low ∙ shown_half p stream even holds full ∙ ap (λ (k : ℕ). half_of (length p.places.items) (take p.put stream) (take (p.put - length p.places.items) stream) k) is_even in
    let above = is_high ∙ shown_half p stream odd holds full ∙ ap (λ (k : ℕ). half_of (length p.places.items) (take p.put stream) (take (p.put - length p.places.items) stream) k) is_odd in
    ap (λ (x : ℕ). x + 4294967296 * high) below ∙ ap (λ (y : ℕ). half_of (length p.places.items) (take p.put stream) (take (p.put - length p.places.items) stream) (2 * number) + 4294967296 * y) above

-- what a place shows that is there
shown_there : (p : Pair) (place shown : ℕ) → place < length p.places.items → shown ≡ cond (nat_lt place (length p.places.items)) (2147483648 + get_or p.places.items place 0) 0 → (2147483648 ≤ shown) × (shown < 4294967296)
shown_there p place shown within is =
    let small : get_or p.places.items place 0 < 2 ^ 31 = All-get_or (λ (token : ℕ). token < 2 ^ 31) p.places.items place 0 within p.small in
    let here : shown ≡ 2147483648 + get_or p.places.items place 0 = is ∙ rw (lt-ltb place (length p.places.items) within) refl in
    (omega arith, omega arith)

-- the word that is told has the full bits of its places
pub told_bits : (p : Pair) (number even odd low high : ℕ) → number ≡ (p.put % length p.places.items) / 2
    → even ≡ 2 * number → odd ≡ 2 * number + 1
    → low ≡ cond (nat_lt even (length p.places.items)) (2147483648 + get_or p.places.items even 0) 0
    → high ≡ cond (nat_lt odd (length p.places.items)) (2147483648 + get_or p.places.items odd 0) 0
    → HasFullBits (length p.places.items) number (low + 4294967296 * high)
told_bits p number even odd low high is is_even is_odd is_low is_high =
    let two : 2 ≤ length p.places.items = p.two in
    let below : p.put % length p.places.items < length p.places.items = omega arith in
    let lower = shown_there p even low (omega arith) is_low in
    record {
      even = low_bit low high lower.0 lower.1;
      odd = λ within.
          let upper = shown_there p odd high (omega arith) is_high in
          high_bit low high lower.1 upper.0 upper.1;
    }

-- each number below how many there are is that of a station
pub station_there : (pairs : List Pair) (station : ℕ) → station < length pairs → (p : Pair) × (slice_get pairs station ≡ Some p)
station_there [] station within = absurd (omega arith)
station_there (x ∷ xs) zero within = (x, refl)
station_there (x ∷ xs) (suc station) within = station_there xs station (omega arith)

-- plain stations serve each filled end
pub serves_fill : (pairs : List Pair) (station : ℕ) → station < length pairs → IsServed (plain_ends pairs) (fill station)
serves_fill pairs station within =
    let there = station_there pairs station within in
    (end_facts true there.0, ends_even pairs (fill station) station refl ∙ ap (option_map (end_facts true)) there.1)

-- plain stations serve each drained end
pub serves_drain : (pairs : List Pair) (station : ℕ) → station < length pairs → IsServed (plain_ends pairs) (drain station)
serves_drain pairs station within =
    let there = station_there pairs station within in
    (end_facts false there.0, ends_odd pairs (drain station) station refl ∙ ap (option_map (end_facts false)) there.1)

-- a token is admitted after a look where it was before
pub admits_looked : (old new : List Pair) (station token : ℕ) (x : OutLook) → PlainAdmits old station token → Changes (plain_ends old) (fill station) (looked_out x) (plain_ends new) → PlainAdmits new station token
admits_looked old new station token x before changes =
    record {
      small = before.small;
      counted = λ p at.
          let now : plain_ends new (fill station) ≡ Some (end_facts true p) = ends_even new (fill station) station refl ∙ ap (option_map (end_facts true)) at in
          let earlier = mapped (looked_out x) (plain_ends old (fill station)) (end_facts true p) (sym (changed_at (plain_ends old) (plain_ends new) (fill station) (looked_out x) changes) ∙ now) in
          let was = at_fill old station earlier.0 earlier.1 in
          let put : p.put ≡ was.0.put = ap (λ (f : Facts). f.passed) earlier.2 ∙ looked_out_passed x earlier.0 ∙ ap (λ (f : Facts). f.passed) was.2 in
          let room : was.0.put + 1 < 2 ^ 64 = before.counted was.0 was.1 in
          omega arith;
    }
