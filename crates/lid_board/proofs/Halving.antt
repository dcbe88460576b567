-- What the words of a station show after a token was taken or put.
use Rattle.std.proofs.Common.{◌≡◌, ℕ, Bool, zero, suc, ◌+◌, ◌-◌, ◌*◌, ◌/◌, ◌%◌, ◌^◌, ◌<◌, ◌≤◌, ◌==◌, cond, true, false, List, length, get_or, take, refl, sym, ◌∙◌, ap, arith, eq-eqb, ne_eqb, lit≤}
use Rattle.std.specs.Prelude.{bit_and, bit_or}
use Rattle.std.specs.List.{All}
use Rattle.std.proofs.lemmas.List.{length-take-le, get_or-take}
use Rattle.std.proofs.lemmas.Nat.{and_mask, or_comm, or_shifted}
use Rattle.std.proofs.lemmas.List.Elements.{All-get_or}
use Rattle.std.proofs.lemmas.Nat.Bits.{and_high_mask}
use Rattle.lid_station.specs.Words.{half, half_of, word}
use Rattle.lid_station.proofs.Words.{half_small, half_empty, half_token, half_free, half_full, one_turn}
use Rattle.lid_board.specs.Halves.{word_half, others, filling}
use mathlib.Core.Logic.{dite}
use native.Mathlib.Decide.{ℕ_discrete}

-- a place shows the same of any list that has the same tokens there
half_take : (cap : ℕ) (tokens : List ℕ) (many first count place : ℕ) → first + count ≤ many → half cap (take many tokens) first count place ≡ half cap tokens first count place
unfolding half
half_take cap tokens many first zero place le = refl
half_take cap tokens many first (suc count) place le =
    ap (λ (t : ℕ). cond ((first + count) % cap == place) (2147483648 + t) (half cap (take many tokens) first count place)) (get_or-take many tokens (first + count) 0 (omega arith))
    ∙ ap (λ (h : ℕ). cond ((first + count) % cap == place) (2147483648 + get_or tokens (first + count) 0) h) (half_take cap tokens many first count place (omega arith))

-- what a place shows where so many tokens of a stream were put and taken
pub canon : (cap : ℕ) (stream : List ℕ) (put taken place : ℕ) → taken ≤ put → put ≤ length stream → half_of cap (take put stream) (take taken stream) place ≡ half cap stream taken (put - taken) place
canon cap stream put taken place ordered within =
    ap (λ (n : ℕ). half cap (take put stream) n (length (take put stream) - n) place) (length-take-le taken stream (omega arith))
    ∙ ap (λ (n : ℕ). half cap (take put stream) taken (n - taken) place) (length-take-le put stream within)
    ∙ half_take cap stream put taken (put - taken) place (omega arith)

-- the first token leaves the other places as they are
peel : (cap : ℕ) (tokens : List ℕ) (first count place : ℕ) → (first % cap ≡ place → ⊥) → half cap tokens first (suc count) place ≡ half cap tokens (suc first) count place
unfolding half
peel cap tokens first zero place other =
    let same : first + 0 ≡ first = omega arith in
    ap (λ (b : Bool). cond b (2147483648 + get_or tokens (first + 0) 0) 0) (ne_eqb ((first + 0) % cap) place (λ e. other (ap (λ (n : ℕ). n % cap) (sym same) ∙ e)))
peel cap tokens first (suc count) place other =
    ap (λ (h : ℕ). cond ((first + suc count) % cap == place) (2147483648 + get_or tokens (first + suc count) 0) h) (peel cap tokens first count place other)
    ∙ (let e : first + suc count ≡ suc first + count = omega arith in ap (λ (n : ℕ). cond (n % cap == place) (2147483648 + get_or tokens n 0) (half cap tokens (suc first) count place)) e)

-- another place shows the same after a token was taken
taken_other : (cap : ℕ) (stream : List ℕ) (put taken place : ℕ) → taken < put → put ≤ length stream → (taken % cap ≡ place → ⊥)
    → half_of cap (take put stream) (take (taken + 1) stream) place ≡ half_of cap (take put stream) (take taken stream) place
taken_other cap stream put taken place some within other =
    let more : put - taken ≡ suc (put - (taken + 1)) = omega arith in
    canon cap stream put (taken + 1) place (omega arith) within
    ∙ ap (λ (n : ℕ). half cap stream n (put - (taken + 1)) place) (let e : taken + 1 ≡ suc taken = omega arith in e)
    ∙ sym (peel cap stream taken (put - (taken + 1)) place other)
    ∙ ap (λ (n : ℕ). half cap stream taken n place) (sym more)
    ∙ sym (canon cap stream put taken place (omega arith) within)

-- the place of the token that was taken shows 0
taken_there : (cap : ℕ) (stream : List ℕ) (put taken : ℕ) → taken < put → put ≤ length stream → put ≤ taken + cap
    → half_of cap (take put stream) (take (taken + 1) stream) (taken % cap) ≡ 0
taken_there cap stream put taken some within room =
    canon cap stream put (taken + 1) (taken % cap) (omega arith) within
    ∙ half_empty cap stream (taken + 1) (put - (taken + 1)) (taken % cap)
    (λ i from to same. let equal : taken ≡ i = one_turn taken i cap (omega arith) (omega arith) (sym same) in omega arith)

-- another place shows the same after a token was put
put_other : (cap : ℕ) (stream : List ℕ) (put taken place : ℕ) → taken ≤ put → put < length stream → (put % cap ≡ place → ⊥)
    → half_of cap (take (put + 1) stream) (take taken stream) place ≡ half_of cap (take put stream) (take taken stream) place
unfolding half
put_other cap stream put taken place ordered within other =
    let more : put + 1 - taken ≡ suc (put - taken) = omega arith in
    let same : taken + (put - taken) ≡ put = omega arith in
    let differs : ((taken + (put - taken)) % cap == place) ≡ false = ne_eqb ((taken + (put - taken)) % cap) place (λ e. other (ap (λ (n : ℕ). n % cap) (sym same) ∙ e)) in
    canon cap stream (put + 1) taken place (omega arith) (omega arith)
    ∙ ap (λ (n : ℕ). half cap stream taken n place) more
    ∙ ap (λ (b : Bool). cond b (2147483648 + get_or stream (taken + (put - taken)) 0) (half cap stream taken (put - taken) place)) differs
    ∙ sym (canon cap stream put taken place ordered (omega arith))

-- the place of the token that was put shows it
put_there : (cap : ℕ) (stream : List ℕ) (put taken : ℕ) → taken ≤ put → put < length stream
    → half_of cap (take (put + 1) stream) (take taken stream) (put % cap) ≡ 2147483648 + get_or stream put 0
unfolding half
put_there cap stream put taken ordered within =
    let more : put + 1 - taken ≡ suc (put - taken) = omega arith in
    let same : taken + (put - taken) ≡ put = omega arith in
    let here : ((taken + (put - taken)) % cap == put % cap) ≡ true = eq-eqb ((taken + (put - taken)) % cap) (put % cap) (ap (λ (n : ℕ). n % cap) same) in
    canon cap stream (put + 1) taken (put % cap) (omega arith) (omega arith)
    ∙ ap (λ (n : ℕ). half cap stream taken n (put % cap)) more
    ∙ ap (λ (b : Bool). cond b (2147483648 + get_or stream (taken + (put - taken)) 0) (half cap stream taken (put - taken) (put % cap))) here
    ∙ ap (λ (n : ℕ). 2147483648 + get_or stream n 0) same

-- what a place shows has 32 bits
pub small_half : (cap : ℕ) (stream : List ℕ) (put taken place : ℕ) → taken ≤ put → put ≤ length stream → All (λ token. token < 2147483648) stream
    → half_of cap (take put stream) (take taken stream) place < 4294967296
small_half cap stream put taken place ordered within small =
    let is = canon cap stream put taken place ordered within in
    let fits = half_small cap stream taken (put - taken) place small in
    omega arith

even_shown : (place low high : ℕ) → place % 2 ≡ 0 → low < 4294967296 → word_half place (low + 4294967296 * high) ≡ low
even_shown place low high even fits =
    ap (λ (b : Bool). cond b ((low + 4294967296 * high) % 4294967296) ((low + 4294967296 * high) / 4294967296)) (eq-eqb (place % 2) 0 even) ∙ omega arith

odd_shown : (place low high : ℕ) → place % 2 ≡ 1 → low < 4294967296 → word_half place (low + 4294967296 * high) ≡ high
odd_shown place low high odd fits =
    ap (λ (b : Bool). cond b ((low + 4294967296 * high) % 4294967296) ((low + 4294967296 * high) / 4294967296)) (ne_eqb (place % 2) 0 (λ e. omega arith)) ∙ omega arith

even_cleared : (place low high : ℕ) → place % 2 ≡ 0 → low < 4294967296 → high < 4294967296 → bit_and (low + 4294967296 * high) (others place) ≡ 0 + 4294967296 * high
even_cleared place low high even fits tops =
    ap (λ (b : Bool). bit_and (low + 4294967296 * high) (cond b 18446744069414584320 4294967295)) (eq-eqb (place % 2) 0 even)
    ∙ and_high_mask 64 32 (lit≤ tt) (low + 4294967296 * high) (let most : low + 4294967296 * high < 18446744073709551616 = omega arith in most)
    ∙ omega arith

odd_cleared : (place low high : ℕ) → place % 2 ≡ 1 → low < 4294967296 → bit_and (low + 4294967296 * high) (others place) ≡ low + 4294967296 * 0
odd_cleared place low high odd fits =
    ap (λ (b : Bool). bit_and (low + 4294967296 * high) (cond b 18446744069414584320 4294967295)) (ne_eqb (place % 2) 0 (λ e. omega arith))
    ∙ and_mask (low + 4294967296 * high) 32
    ∙ omega arith

even_filled : (place high token : ℕ) → place % 2 ≡ 0 → token < 2147483648 → bit_or (0 + 4294967296 * high) (filling place token) ≡ 2147483648 + token + 4294967296 * high
even_filled place high token even fits =
    ap (λ (b : Bool). bit_or (0 + 4294967296 * high) (cond b (2147483648 + token) (4294967296 * (2147483648 + token)))) (eq-eqb (place % 2) 0 even)
    ∙ ap (λ (n : ℕ). bit_or n (2147483648 + token)) (let e : 0 + 4294967296 * high ≡ high * 2 ^ 32 = omega arith in e)
    ∙ or_shifted high 32 (2147483648 + token) (omega arith)
    ∙ omega arith

odd_filled : (place low token : ℕ) → place % 2 ≡ 1 → low < 4294967296 → bit_or (low + 4294967296 * 0) (filling place token) ≡ low + 4294967296 * (2147483648 + token)
odd_filled place low token odd fits =
    ap (λ (b : Bool). bit_or (low + 4294967296 * 0) (cond b (2147483648 + token) (4294967296 * (2147483648 + token)))) (ne_eqb (place % 2) 0 (λ e. omega arith))
    ∙ or_comm (low + 4294967296 * 0) (4294967296 * (2147483648 + token))
    ∙ ap (λ (n : ℕ). bit_or n (low + 4294967296 * 0)) (let e : 4294967296 * (2147483648 + token) ≡ (2147483648 + token) * 2 ^ 32 = omega arith in e)
    ∙ or_shifted (2147483648 + token) 32 (low + 4294967296 * 0) (omega arith)
    ∙ omega arith

-- a word has the half of each of its places
pub shown_word : (cap : ℕ) (stream : List ℕ) (put taken place : ℕ) → taken ≤ put → put ≤ length stream → All (λ token. token < 2147483648) stream
    → word_half place (word cap (take put stream) (take taken stream) (place / 2)) ≡ half_of cap (take put stream) (take taken stream) place
unfolding word
shown_word cap stream put taken place ordered within small =
    let low = half_of cap (take put stream) (take taken stream) (2 * (place / 2)) in
    let high = half_of cap (take put stream) (take taken stream) (2 * (place / 2) + 1) in
    let fits = small_half cap stream put taken (2 * (place / 2)) ordered within small in
    dite (ℕ_discrete (place % 2) 0)
    (λ even. even_shown place low high even fits ∙ ap (λ (n : ℕ). half_of cap (take put stream) (take taken stream) n) (omega arith))
    (λ odd. odd_shown place low high (omega arith) fits ∙ ap (λ (n : ℕ). half_of cap (take put stream) (take taken stream) n) (omega arith))

-- a word from which a token was taken, by its bits
pub taken_here : (cap : ℕ) (stream : List ℕ) (put taken : ℕ) → taken < put → put ≤ length stream → put ≤ taken + cap → All (λ token. token < 2147483648) stream
    → bit_and (word cap (take put stream) (take taken stream) (taken % cap / 2)) (others (taken % cap)) ≡ word cap (take put stream) (take (taken + 1) stream) (taken % cap / 2)
unfolding word
taken_here cap stream put taken some within room small =
    let place = taken % cap in
    let low = half_of cap (take put stream) (take taken stream) (2 * (place / 2)) in
    let high = half_of cap (take put stream) (take taken stream) (2 * (place / 2) + 1) in
    let fits = small_half cap stream put taken (2 * (place / 2)) (omega arith) within small in
    let tops = small_half cap stream put taken (2 * (place / 2) + 1) (omega arith) within small in
    let gone = taken_there cap stream put taken some within room in
    dite (ℕ_discrete (place % 2) 0)
    (λ even.
    let here : place ≡ 2 * (place / 2) = omega arith in
    let other = taken_other cap stream put taken (2 * (place / 2) + 1) some within (λ e. omega arith) in
    even_cleared place low high even fits tops
    ∙ ap (λ (n : ℕ). 0 + 4294967296 * n) (sym other)
    ∙ ap (λ (n : ℕ). n + 4294967296 * half_of cap (take put stream) (take (taken + 1) stream) (2 * (place / 2) + 1)) (sym gone ∙ ap (λ (n : ℕ). half_of cap (take put stream) (take (taken + 1) stream) n) here))
    (λ odd.
    let here : place ≡ 2 * (place / 2) + 1 = omega arith in
    let other = taken_other cap stream put taken (2 * (place / 2)) some within (λ e. omega arith) in
    odd_cleared place low high (omega arith) fits
    ∙ ap (λ (n : ℕ). n + 4294967296 * 0) (sym other)
    ∙ ap (λ (n : ℕ). half_of cap (take put stream) (take (taken + 1) stream) (2 * (place / 2)) + 4294967296 * n) (sym gone ∙ ap (λ (n : ℕ). half_of cap (take put stream) (take (taken + 1) stream) n) here))

-- another word of the station
pub taken_else : (cap : ℕ) (stream : List ℕ) (put taken number : ℕ) → taken < put → put ≤ length stream → (number ≡ taken % cap / 2 → ⊥)
    → word cap (take put stream) (take (taken + 1) stream) number ≡ word cap (take put stream) (take taken stream) number
unfolding word
taken_else cap stream put taken number some within other =
    let low = taken_other cap stream put taken (2 * number) some within (λ e. other (omega arith)) in
    let high = taken_other cap stream put taken (2 * number + 1) some within (λ e. other (omega arith)) in
    ap (λ (n : ℕ). n + 4294967296 * half_of cap (take put stream) (take (taken + 1) stream) (2 * number + 1)) low
    ∙ ap (λ (n : ℕ). half_of cap (take put stream) (take taken stream) (2 * number) + 4294967296 * n) high

-- a word into which a token was put, by its bits
pub put_here : (cap : ℕ) (stream : List ℕ) (put taken : ℕ) → taken ≤ put → put < length stream → put < taken + cap → All (λ token. token < 2147483648) stream
    → bit_or (word cap (take put stream) (take taken stream) (put % cap / 2)) (filling (put % cap) (get_or stream put 0)) ≡ word cap (take (put + 1) stream) (take taken stream) (put % cap / 2)
unfolding word
put_here cap stream put taken ordered within room small =
    let place = put % cap in
    let token = get_or stream put 0 in
    let fits : token < 2147483648 = All-get_or (λ (t : ℕ). t < 2147483648) stream put 0 within small in
    let low = half_of cap (take put stream) (take taken stream) (2 * (place / 2)) in
    let high = half_of cap (take put stream) (take taken stream) (2 * (place / 2) + 1) in
    let below = small_half cap stream put taken (2 * (place / 2)) ordered (omega arith) small in
    let free : half_of cap (take put stream) (take taken stream) place ≡ 0 = canon cap stream put taken place ordered (omega arith) ∙ half_free cap stream taken (put - taken) put (omega arith) (omega arith) in
    let there = put_there cap stream put taken ordered within in
    dite (ℕ_discrete (place % 2) 0)
    (λ even.
    let here : place ≡ 2 * (place / 2) = omega arith in
    let other = put_other cap stream put taken (2 * (place / 2) + 1) ordered within (λ e. omega arith) in
    let none : low ≡ 0 = ap (λ (n : ℕ). half_of cap (take put stream) (take taken stream) n) (sym here) ∙ free in
    ap (λ (n : ℕ). bit_or (n + 4294967296 * high) (filling place token)) none
    ∙ even_filled place high token even fits
    ∙ ap (λ (n : ℕ). 2147483648 + token + 4294967296 * n) (sym other)
    ∙ ap (λ (n : ℕ). n + 4294967296 * half_of cap (take (put + 1) stream) (take taken stream) (2 * (place / 2) + 1)) (sym there ∙ ap (λ (n : ℕ). half_of cap (take (put + 1) stream) (take taken stream) n) here))
    (λ odd.
    let here : place ≡ 2 * (place / 2) + 1 = omega arith in
    let other = put_other cap stream put taken (2 * (place / 2)) ordered within (λ e. omega arith) in
    let none : high ≡ 0 = ap (λ (n : ℕ). half_of cap (take put stream) (take taken stream) n) (sym here) ∙ free in
    ap (λ (n : ℕ). bit_or (low + 4294967296 * n) (filling place token)) none
    ∙ odd_filled place low token (omega arith) below
    ∙ ap (λ (n : ℕ). n + 4294967296 * (2147483648 + token)) (sym other)
    ∙ ap (λ (n : ℕ). half_of cap (take (put + 1) stream) (take taken stream) (2 * (place / 2)) + 4294967296 * n) (sym there ∙ ap (λ (n : ℕ). half_of cap (take (put + 1) stream) (take taken stream) n) here))

-- another word of the station
pub put_else : (cap : ℕ) (stream : List ℕ) (put taken number : ℕ) → taken ≤ put → put < length stream → (number ≡ put % cap / 2 → ⊥)
    → word cap (take (put + 1) stream) (take taken stream) number ≡ word cap (take put stream) (take taken stream) number
unfolding word
put_else cap stream put taken number ordered within other =
    let low = put_other cap stream put taken (2 * number) ordered within (λ e. other (omega arith)) in
    let high = put_other cap stream put taken (2 * number + 1) ordered within (λ e. other (omega arith)) in
    ap (λ (n : ℕ). n + 4294967296 * half_of cap (take (put + 1) stream) (take taken stream) (2 * number + 1)) low
    ∙ ap (λ (n : ℕ). half_of cap (take put stream) (take taken stream) (2 * number) + 4294967296 * n) high

-- the place of the next token to be taken shows it, where there is one, and else 0
pub token-there : (cap : ℕ) (stream : List ℕ) (put taken : ℕ) → taken < put → put ≤ length stream → put ≤ taken + cap
    → half_of cap (take put stream) (take taken stream) (taken % cap) ≡ 2147483648 + get_or stream taken 0
token-there cap stream put taken some within room =
    canon cap stream put taken (taken % cap) (omega arith) within
    ∙ half_token cap stream taken (put - taken) (taken % cap) taken (omega arith) (omega arith) (omega arith) refl

-- the place of the next token to be put is free where there is room
pub room-there : (cap : ℕ) (stream : List ℕ) (put taken : ℕ) → taken ≤ put → put ≤ length stream → put < taken + cap
    → half_of cap (take put stream) (take taken stream) (put % cap) ≡ 0
room-there cap stream put taken ordered within room =
    canon cap stream put taken (put % cap) ordered within ∙ half_free cap stream taken (put - taken) put (omega arith) (omega arith)

-- and else has the full bit
pub full_there : (cap : ℕ) (stream : List ℕ) (put taken : ℕ) → put ≡ taken + cap → put ≤ length stream → 0 < cap
    → 2147483648 ≤ half_of cap (take put stream) (take taken stream) (put % cap)
full_there cap stream put taken full within some =
    let same : put - taken ≡ cap = omega arith in
    let is : half_of cap (take put stream) (take taken stream) (put % cap) ≡ half cap stream taken cap (put % cap) = canon cap stream put taken (put % cap) (omega arith) within ∙ ap (λ (n : ℕ). half cap stream taken n (put % cap)) same in
    let place : put % cap < cap = omega arith in
    let least = half_full cap stream taken (put % cap) place in
    omega arith

-- the place of a token that is held shows it
pub held_there : (cap : ℕ) (stream : List ℕ) (put taken i : ℕ) → taken ≤ i → i < put → put ≤ length stream → put ≤ taken + cap
    → half_of cap (take put stream) (take taken stream) (i % cap) ≡ 2147483648 + get_or stream i 0
held_there cap stream put taken i from to within room =
    canon cap stream put taken (i % cap) (omega arith) within
    ∙ half_token cap stream taken (put - taken) (i % cap) i (omega arith) from (omega arith) refl
