-- What the looks, takes and puts of an actor tell, and whether a look finds what it looks for.
use Rattle.std.proofs.Common.{◌≡◌, ℕ, ◌+◌, ◌-◌, ◌<◌, ◌≤◌, ◌==◌, not, true, false, length, take, sym, ◌∙◌, ap, subst, arith, eq-eqb}
use Rattle.std.specs.Prelude.{Some, slice_get}
use Rattle.std.proofs.lemmas.Bool.{ne_eqb}
use Rattle.std.proofs.lemmas.Option.{get_or_from_slice_get}
use Rattle.lid_stations.specs.Placements.{links_of}
use Rattle.lid_shell_laws.proofs.Ends.{filled_is}
use Rattle.lid_station.specs.Boards.{Facts, Ends, fill, drain}
use Rattle.lid_station.specs.Words.{word, word_number}
use Rattle.lid_walk_machine.specs.Plans.{ins_of, outs_of, cap, start_of, room_of, stream}
use Rattle.lid_walk_machine.specs.Setups.{plan}
use Rattle.lid_shell_laws.specs.Setups.{Setup, IsSetup}
use Rattle.lid_walk_machine.specs.Machine.{Progress, State, takes_from, puts_from, in_at, out_at, in_count, out_count, void_word, stop_word}
use Rattle.lid_shell.specs.Boards.{Agrees, ServesBoth}
use Rattle.lid_shell.specs.Inside.{ActorsGoByRules}
use Rattle.lid_walk_machine.proofs.Counts.{early}
use Rattle.lid_shell.proofs.Streams.{stream_token, stream_at, put_within, room_some}

-- a station that is drained is the one at its place
pub at_in : (m : Setup) (v i station : ℕ) → slice_get (ins_of (plan m) v) i ≡ Some station → in_at (plan m) v i ≡ station
at_in m v i station at = get_or_from_slice_get (ins_of (plan m) v) i station 0 at

pub at_out : (m : Setup) (v j station : ℕ) → slice_get (outs_of (plan m) v) j ≡ Some station → out_at (plan m) v j ≡ station
at_out m v j station at = get_or_from_slice_get (outs_of (plan m) v) j station 0 at

-- how many tokens passed where the take, or the put, is not done
pub passed_in : (m : Setup) (v : ℕ) (q : Progress) (i station : ℕ) (ends : Ends) (f : Facts) → Agrees m v q ends → q.position ≤ takes_from (length (ins_of (plan m) v)) (length (outs_of (plan m) v)) + i → slice_get (ins_of (plan m) v) i ≡ Some station
    → ends (drain station) ≡ Some f → f.passed ≡ q.fired
passed_in m v q i station ends f agrees before at there =
    let had = agrees.drains i station at in
    let same : had.0 ≡ f = (let both : Some had.0 ≡ Some f = sym had.1 ∙ there in cc) in
    ap (λ (x : Facts). x.passed) (sym same) ∙ had.2.passed ∙ early (takes_from (length (ins_of (plan m) v)) (length (outs_of (plan m) v)) + i) q.fired q.position before

pub passed_out : (m : Setup) (v : ℕ) (q : Progress) (j station : ℕ) (ends : Ends) (f : Facts) → Agrees m v q ends → q.position ≤ puts_from (length (ins_of (plan m) v)) (length (outs_of (plan m) v)) + j → slice_get (outs_of (plan m) v) j ≡ Some station
    → ends (fill station) ≡ Some f → f.passed ≡ start_of (plan m) station + q.fired
passed_out m v q j station ends f agrees before at there =
    let had = agrees.fills j station at in
    let same : had.0 ≡ f = (let both : Some had.0 ≡ Some f = sym had.1 ∙ there in cc) in
    ap (λ (x : Facts). x.passed) (sym same) ∙ had.2.passed ∙ ap (λ (n : ℕ). start_of (plan m) station + n) (early (puts_from (length (ins_of (plan m) v)) (length (outs_of (plan m) v)) + j) q.fired q.position before)

-- the token that is found, and taken
pub token_in : (m : Setup) (v : ℕ) (q : Progress) (i station x : ℕ) (ends : Ends) → Agrees m v q ends → q.position ≤ takes_from (length (ins_of (plan m) v)) (length (outs_of (plan m) v)) + i → slice_get (ins_of (plan m) v) i ≡ Some station
    → ((f : Facts) → ends (drain station) ≡ Some f → slice_get (stream (plan m) station) f.passed ≡ Some x) → x ≡ (plan m).token (in_at (plan m) v i) q.fired
token_in m v q i station x ends agrees before at found =
    let had = agrees.drains i station at in
    let passed = passed_in m v q i station ends had.0 agrees before at had.1 in
    stream_token m station q.fired x (subst (λ (n : ℕ). slice_get (stream (plan m) station) n ≡ Some x) passed (found had.0 had.1))
    ∙ ap (λ (s : ℕ). (plan m).token s q.fired) (sym (at_in m v i station at))

-- the token that is put is the next one of the stream
pub put_next : (r : ActorsGoByRules) (m : Setup) (v : ℕ) (q : Progress) (j station x : ℕ) (ends : Ends) (f : Facts) → IsSetup m → Agrees m v q ends → q.position ≡ puts_from (length (ins_of (plan m) v)) (length (outs_of (plan m) v)) + j
    → slice_get (outs_of (plan m) v) j ≡ Some station → q.fired < cap (plan m) v → x ≡ (plan m).token station (start_of (plan m) station + q.fired) → ends (fill station) ≡ Some f → slice_get (stream (plan m) station) f.passed ≡ Some x
put_next r m v q j station x ends f setup agrees here at below is there =
    let passed = passed_out m v q j station ends f agrees (omega arith) at there in
    ap (slice_get (stream (plan m) station)) passed
    ∙ stream_at m station (start_of (plan m) station + q.fired) (put_within r m v j station q.fired setup below at)
    ∙ ap (λ (y : ℕ). Some y) (sym is)

-- the word of an empty station, and of a full one
pub word_in : (m : Setup) (v : ℕ) (q : Progress) (i station told : ℕ) (ends : Ends) → Agrees m v q ends → q.position ≤ takes_from (length (ins_of (plan m) v)) (length (outs_of (plan m) v)) + i → slice_get (ins_of (plan m) v) i ≡ Some station
    → ((f : Facts) → ends (drain station) ≡ Some f → told ≡ word f.cap (take f.passed (stream (plan m) station)) (take f.passed (stream (plan m) station)) (word_number f.cap f.passed)) → told ≡ void_word (plan m) (in_at (plan m) v i) q.fired
word_in m v q i station told ends agrees before at found =
    let had = agrees.drains i station at in
    let passed = passed_in m v q i station ends had.0 agrees before at had.1 in
    found had.0 had.1
    ∙ ap (λ (n : ℕ). word had.0.cap (take n (stream (plan m) station)) (take n (stream (plan m) station)) (word_number had.0.cap n)) passed
    ∙ ap (λ (n : ℕ). word n (take q.fired (stream (plan m) station)) (take q.fired (stream (plan m) station)) (word_number n q.fired)) had.2.capacity
    ∙ ap (λ (s : ℕ). void_word (plan m) s q.fired) (sym (at_in m v i station at))

pub word_out : (m : Setup) (v : ℕ) (q : Progress) (j station told : ℕ) (ends : Ends) → Agrees m v q ends → q.position ≤ puts_from (length (ins_of (plan m) v)) (length (outs_of (plan m) v)) + j → slice_get (outs_of (plan m) v) j ≡ Some station
    → ((f : Facts) → ends (fill station) ≡ Some f → told ≡ word f.cap (take f.passed (stream (plan m) station)) (take (f.passed - f.cap) (stream (plan m) station)) (word_number f.cap f.passed)) → told ≡ stop_word (plan m) (out_at (plan m) v j) (start_of (plan m) (out_at (plan m) v j) + q.fired)
word_out m v q j station told ends agrees before at found =
    let had = agrees.fills j station at in
    let passed = passed_out m v q j station ends had.0 agrees before at had.1 in
    let put : ℕ = start_of (plan m) station + q.fired in
    found had.0 had.1
    ∙ ap (λ (n : ℕ). word had.0.cap (take n (stream (plan m) station)) (take (n - had.0.cap) (stream (plan m) station)) (word_number had.0.cap n)) passed
    ∙ ap (λ (n : ℕ). word n (take put (stream (plan m) station)) (take (put - n) (stream (plan m) station)) (word_number n put)) had.2.capacity
    ∙ ap (λ (s : ℕ). stop_word (plan m) s (start_of (plan m) s + q.fired)) (sym (at_out m v j station at))

-- a token is found where the counts differ
pub finds_token : (m : Setup) (v i station : ℕ) (st : State) (ends : Ends) → ServesBoth m st ends station → slice_get (ins_of (plan m) v) i ≡ Some station
    → ((f d : Facts) → ends (fill station) ≡ Some f → ends (drain station) ≡ Some d → f.passed ≡ d.passed → ⊥)
    → true ≡ not (in_count (plan m) st (in_at (plan m) v i) == out_count (plan m) st (in_at (plan m) v i))
finds_token m v i station st ends serves at differ =
    let apart : (in_count (plan m) st station ≡ out_count (plan m) st station → ⊥) = λ e. differ serves.filled.0 serves.drained.0 serves.filled.1 serves.drained.1 (serves.filled.2 ∙ e ∙ sym serves.drained.2) in
    ap not (sym (ne_eqb (in_count (plan m) st station) (out_count (plan m) st station) apart))
    ∙ ap (λ (s : ℕ). not (in_count (plan m) st s == out_count (plan m) st s)) (sym (at_in m v i station at))

pub finds_no_token : (m : Setup) (v i station : ℕ) (st : State) (ends : Ends) → ServesBoth m st ends station → slice_get (ins_of (plan m) v) i ≡ Some station
    → ((f d : Facts) → ends (fill station) ≡ Some f → ends (drain station) ≡ Some d → f.passed ≡ d.passed)
    → false ≡ not (in_count (plan m) st (in_at (plan m) v i) == out_count (plan m) st (in_at (plan m) v i))
finds_no_token m v i station st ends serves at same =
    let alike : in_count (plan m) st station ≡ out_count (plan m) st station = sym serves.filled.2 ∙ same serves.filled.0 serves.drained.0 serves.filled.1 serves.drained.1 ∙ serves.drained.2 in
    ap not (sym (eq-eqb (in_count (plan m) st station) (out_count (plan m) st station) alike))
    ∙ ap (λ (s : ℕ). not (in_count (plan m) st s == out_count (plan m) st s)) (sym (at_in m v i station at))

-- the capacity that a board tells is that of the station
cap_is : (m : Setup) (v : ℕ) (q : Progress) (j station : ℕ) (ends : Ends) (f : Facts) → Agrees m v q ends → slice_get (outs_of (plan m) v) j ≡ Some station → ends (fill station) ≡ Some f → f.cap ≡ room_of (plan m) station
cap_is m v q j station ends f agrees at there =
    let had = agrees.fills j station at in
    let same : had.0 ≡ f = (let both : Some had.0 ≡ Some f = sym had.1 ∙ there in cc) in
    ap (λ (x : Facts). x.cap) (sym same) ∙ had.2.capacity

-- room is found where the station holds less than its capacity
pub finds_room : (m : Setup) (v j station : ℕ) (q : Progress) (st : State) (ends : Ends) → IsSetup m → Agrees m v q ends → ServesBoth m st ends station → slice_get (outs_of (plan m) v) j ≡ Some station
    → ((f d : Facts) → ends (fill station) ≡ Some f → ends (drain station) ≡ Some d → f.passed ≡ d.passed + f.cap → ⊥)
    → true ≡ not (in_count (plan m) st (out_at (plan m) v j) - out_count (plan m) st (out_at (plan m) v j) == room_of (plan m) (out_at (plan m) v j))
finds_room m v j station q st ends setup agrees serves at differ =
    let there = (filled_is (links_of m.system) m.placement v j station at).0 in
    let some : 2 ≤ room_of (plan m) station = room_some m station setup there in
    let cap = cap_is m v q j station ends serves.filled.0 agrees at serves.filled.1 in
    let put = serves.filled.2 in
    let taken = serves.drained.2 in
    let apart : (in_count (plan m) st station - out_count (plan m) st station ≡ room_of (plan m) station → ⊥) = λ e. differ serves.filled.0 serves.drained.0 serves.filled.1 serves.drained.1 (omega arith) in
    ap not (sym (ne_eqb (in_count (plan m) st station - out_count (plan m) st station) (room_of (plan m) station) apart))
    ∙ ap (λ (s : ℕ). not (in_count (plan m) st s - out_count (plan m) st s == room_of (plan m) s)) (sym (at_out m v j station at))

pub finds_no_room : (m : Setup) (v j station : ℕ) (q : Progress) (st : State) (ends : Ends) → Agrees m v q ends → ServesBoth m st ends station → slice_get (outs_of (plan m) v) j ≡ Some station
    → ((f d : Facts) → ends (fill station) ≡ Some f → ends (drain station) ≡ Some d → f.passed ≡ d.passed + f.cap)
    → false ≡ not (in_count (plan m) st (out_at (plan m) v j) - out_count (plan m) st (out_at (plan m) v j) == room_of (plan m) (out_at (plan m) v j))
finds_no_room m v j station q st ends agrees serves at full =
    let cap = cap_is m v q j station ends serves.filled.0 agrees at serves.filled.1 in
    let put = serves.filled.2 in
    let taken = serves.drained.2 in
    let holds = full serves.filled.0 serves.drained.0 serves.filled.1 serves.drained.1 in
    let alike : in_count (plan m) st station - out_count (plan m) st station ≡ room_of (plan m) station = omega arith in
    ap not (sym (eq-eqb (in_count (plan m) st station - out_count (plan m) st station) (room_of (plan m) station) alike))
    ∙ ap (λ (s : ℕ). not (in_count (plan m) st s - out_count (plan m) st s == room_of (plan m) s)) (sym (at_out m v j station at))
