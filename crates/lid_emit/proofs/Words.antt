-- The names of wires are words.
use Rattle.std.proofs.Common.{◌≡◌, ◌⊎◌, ℕ, ◌+◌, ◌*◌, ◌^◌, ◌<◌, ◌≤◌, ◌==◌, ◌&&◌, true, false, List, [], ◌∷◌, ◌++◌, length, inl, inr, refl, arith, length-append}
use Rattle.std.specs.Prelude.{not, nat_le, codes, slice_index_or}
use Rattle.std.specs.Fmt.{decimal}
use Rattle.std.specs.List.{AllByRecursion}
use Rattle.std.specs.Str.Parse.{AllDigits}
use Rattle.std.proofs.lemmas.Bool.{le-leb, ne_eqb, and_from, not_from_false}
use Rattle.std.proofs.lemmas.Fmt.{decimal_is_IsNumeral}
use Rattle.std.proofs.lemmas.Str.Parse.{digit_from_value}
use Rattle.lid_base.specs.Lines.{is_hash}
use Rattle.lid_base.proofs.Lists.{all_among, all_append, among_at}
use Rattle.lid_base_lines.specs.Spelled.{is_word_byte, IsSpelled}
use Rattle.lid_base_lines.proofs.Numbers.{spelled_word, spelled_number, no_mark}
use Rattle.lid_emit_circuit.specs.Wires.{Wire, entry, given, offer, block, steady, may, fire, level, grown, place, moved, now, kept, later, shown, valid, stop}
use Rattle.lid_emit_circuit.specs.Plans.{CircuitPlan}
use Rattle.lid_emit_circuit.specs.Known.{IsKnown}
use Rattle.lid_emit_names.specs.Spelling.{digits_joined, bit_number, inner_name, name_of, AreSmall}
use Rattle.lid_emit_cells.specs.Shown.{design_ports}
use Rattle.lid_emit_laws.specs.Shortness.{AreShort}
use Rattle.lid_emit.specs.Prefixes.{IsShortPrefix}
use Rattle.lid_base.proofs.Alls.{all_weaker}

-- letters, digits and what stands between them
record IsPlain (b : ℕ) : Type 0 where
  low : 48 ≤ b
  high : b ≤ 122
  other : (b ≡ 92) → ⊥

plain_byte : (b : ℕ) → IsPlain b → is_word_byte b ≡ true
plain_byte b is =
    let low : 33 ≤ b = omega (arith, is.low) in
    let high : b ≤ 126 = omega (arith, is.high) in
    let hash : is_hash b ≡ false = ne_eqb b 35 (λ e. absurd (omega (arith, is.low, e))) in
    and_from (nat_le 33 b && nat_le b 126) (not (is_hash b)) (and_from (nat_le 33 b) (nat_le b 126) (le-leb 33 b low) (le-leb b 126 high)) (not_from_false (is_hash b) hash)

plain_word : (longest : ℕ) (word : List ℕ) → 0 < length word → length word ≤ longest → AllByRecursion IsPlain word → IsSpelled longest word
plain_word longest word some short plain = record {
  some = some;
  short = short;
  bytes = all_weaker IsPlain (λ b. is_word_byte b ≡ true) word plain_byte plain;
  unmarked = no_mark word (all_weaker IsPlain (λ b. (b == 92) ≡ false) word (λ b is. ne_eqb b 92 (λ e. absurd (is.other e))) plain);
}

plain_digits : (ds : List ℕ) → AllDigits 10 ds → AllByRecursion IsPlain ds
plain_digits [] all = tt
plain_digits (d ∷ ds) all =
    let digit = digit_from_value d all.0 in
    (record { low = omega (arith, digit); high = omega (arith, digit); other = λ e. omega (arith, digit, e) }, plain_digits ds all.1)

plain_number : (n : ℕ) → n < 2 ^ 64 → AllByRecursion IsPlain (decimal n)
plain_number n small = plain_digits (decimal n) (decimal_is_IsNumeral n small).0.1

plain_joined : (ns : List ℕ) → AllByRecursion (λ n. n < 2 ^ 64) ns → AllByRecursion IsPlain (digits_joined ns)
plain_joined [] small = tt
plain_joined (n ∷ []) small = plain_number n small.0
plain_joined (n ∷ m ∷ ns) small =
    all_append IsPlain (decimal n) (95 ∷ digits_joined (m ∷ ns)) (plain_number n small.0)
    (record { low = omega arith; high = omega arith; other = λ e. omega (arith, e) }, plain_joined (m ∷ ns) small.1)

-- numbers have at most 20 digits each, and a byte stands between two
joined_short : (n : ℕ) (ns : List ℕ) → AllByRecursion (λ n. n < 2 ^ 64) (n ∷ ns) → 1 + length (digits_joined (n ∷ ns)) ≤ 21 * length (n ∷ ns)
joined_short n [] small = let one = spelled_number 20 n small.0 (omega arith) in omega (arith, one.short)
joined_short n (m ∷ ns) small =
    let one = spelled_number 20 n small.0 (omega arith) in
    let rest = joined_short m ns small.1 in
    let both = length-append (decimal n) (95 ∷ digits_joined (m ∷ ns)) in
    omega (arith, one.short, rest, both)

joined_long : (ns : List ℕ) → AllByRecursion (λ n. n < 2 ^ 64) ns → length (digits_joined ns) ≤ 21 * length ns
joined_long [] small = omega arith
joined_long (n ∷ ns) small = let short = joined_short n ns small in omega (arith, short)

plain_prefix : (prefix : List ℕ) → AllByRecursion (λ b. (b ≡ 97) ⊎ (b ≡ 98)) prefix → AllByRecursion IsPlain prefix
plain_prefix [] letters = tt
plain_prefix (b ∷ bs) letters = (by letters.0, plain_prefix bs letters.1)
  where
    by : (b ≡ 97) ⊎ (b ≡ 98) → IsPlain b
    by (inl is) = record { low = omega (arith, is); high = omega (arith, is); other = λ e. omega (arith, is, e) }
    by (inr is) = record { low = omega (arith, is); high = omega (arith, is); other = λ e. omega (arith, is, e) }

inner_word : (prefix : List ℕ) (letter : ℕ) (ns : List ℕ) → IsShortPrefix prefix → 97 ≤ letter → letter ≤ 122 → length ns ≤ 3 → AllByRecursion (λ n. n < 2 ^ 64) ns → IsSpelled 1024 (inner_name prefix letter ns)
inner_word prefix letter ns short low high few small =
    let long = joined_long ns small in
    let both = length-append prefix (letter ∷ digits_joined ns) in
    plain_word 1024 (prefix ++ letter ∷ digits_joined ns) (omega (arith, both)) (omega (arith, both, long, few, short.few))
    (all_append IsPlain prefix (letter ∷ digits_joined ns) (plain_prefix prefix short.letters) (record { low = omega arith; high = omega arith; other = λ e. omega (arith, low, e) }, plain_joined ns small))

pub two_inputs : AllByRecursion (IsSpelled 1024) (codes "li_in_valid" ∷ codes "li_out_stop" ∷ [])
two_inputs = (spelled_word 1024 (codes "li_in_valid") refl refl refl refl, (spelled_word 1024 (codes "li_out_stop") refl refl refl refl, tt))

pub two_outputs : AllByRecursion (IsSpelled 1024) (codes "li_out_valid" ∷ codes "li_in_stop" ∷ [])
two_outputs = (spelled_word 1024 (codes "li_out_valid") refl refl refl refl, (spelled_word 1024 (codes "li_in_stop") refl refl refl refl, tt))

module _ (q : CircuitPlan) (inputs outputs : List (List ℕ)) (prefix : List ℕ) (in_words : AllByRecursion (IsSpelled 1024) inputs) (out_words : AllByRecursion (IsSpelled 1024) outputs) (short : IsShortPrefix prefix) (as_inputs : q.inputs ≡ length inputs) (as_outputs : length q.shows ≡ length outputs) (small : AreSmall q) where
  port_word : (names : List (List ℕ)) (j : ℕ) → AllByRecursion (IsSpelled 1024) names → j < length names → IsSpelled 1024 (slice_index_or names j [])
  port_word names j words below = all_among (IsSpelled 1024) names (slice_index_or names j []) words (among_at names j [] below)

  -- each wire of the plan has a word as its name
  pub wire_word : (w : Wire) → IsKnown q w → IsSpelled 1024 (name_of (design_ports inputs outputs) prefix w)
  wire_word (entry j) known = port_word inputs j in_words (omega (arith, known, as_inputs))
  wire_word offer known = two_inputs.0
  wire_word block known = two_inputs.1.0
  wire_word (shown j) known = port_word outputs j out_words (omega (arith, known, as_outputs))
  wire_word valid known = two_outputs.0
  wire_word stop known = two_outputs.1.0
  wire_word (given j) known = inner_word prefix 100 (j ∷ []) short (omega arith) (omega arith) (omega arith) (small (given j) known)
  wire_word (steady bit) known = inner_word prefix 99 (bit_number bit ∷ []) short (omega arith) (omega arith) (omega arith) (small (steady bit) known)
  wire_word (may v i) known = inner_word prefix 109 (v ∷ i ∷ []) short (omega arith) (omega arith) (omega arith) (small (may v i) known)
  wire_word (fire v) known = inner_word prefix 102 (v ∷ []) short (omega arith) (omega arith) (omega arith) (small (fire v) known)
  wire_word (level s i) known = inner_word prefix 108 (s ∷ i ∷ []) short (omega arith) (omega arith) (omega arith) (small (level s i) known)
  wire_word (grown s i) known = inner_word prefix 103 (s ∷ i ∷ []) short (omega arith) (omega arith) (omega arith) (small (grown s i) known)
  wire_word (place s i j) known = inner_word prefix 112 (s ∷ i ∷ j ∷ []) short (omega arith) (omega arith) (omega arith) (small (place s i j) known)
  wire_word (moved s i j) known = inner_word prefix 113 (s ∷ i ∷ j ∷ []) short (omega arith) (omega arith) (omega arith) (small (moved s i j) known)
  wire_word (now v k) known = inner_word prefix 110 (v ∷ k ∷ []) short (omega arith) (omega arith) (omega arith) (small (now v k) known)
  wire_word (kept v k) known = inner_word prefix 107 (v ∷ k ∷ []) short (omega arith) (omega arith) (omega arith) (small (kept v k) known)
  wire_word (later v k) known = inner_word prefix 97 (v ∷ k ∷ []) short (omega arith) (omega arith) (omega arith) (small (later v k) known)

  inner_short : (letter n : ℕ) (ns : List ℕ) → AllByRecursion (λ n. n < 2 ^ 64) (n ∷ ns) → 1 + length (inner_name prefix letter (n ∷ ns)) ≤ 16 + 21 * length (n ∷ ns)
  inner_short letter n ns few =
      let both = length-append prefix (letter ∷ digits_joined (n ∷ ns)) in
      let digits = joined_short n ns few in
      omega (arith, both, digits, short.few)

  -- and its name is short
  pub wire_short : AreShort q (name_of (design_ports inputs outputs) prefix)
  wire_short (entry j) known = omega arith
  wire_short offer known = omega arith
  wire_short block known = omega arith
  wire_short (shown j) known = omega arith
  wire_short valid known = omega arith
  wire_short stop known = omega arith
  wire_short (given j) known = inner_short 100 (j) ([]) (small (given j) known)
  wire_short (steady bit) known = inner_short 99 (bit_number bit) ([]) (small (steady bit) known)
  wire_short (may v i) known = inner_short 109 (v) (i ∷ []) (small (may v i) known)
  wire_short (fire v) known = inner_short 102 (v) ([]) (small (fire v) known)
  wire_short (level s i) known = inner_short 108 (s) (i ∷ []) (small (level s i) known)
  wire_short (grown s i) known = inner_short 103 (s) (i ∷ []) (small (grown s i) known)
  wire_short (place s i j) known = inner_short 112 (s) (i ∷ j ∷ []) (small (place s i j) known)
  wire_short (moved s i j) known = inner_short 113 (s) (i ∷ j ∷ []) (small (moved s i j) known)
  wire_short (now v k) known = inner_short 110 (v) (k ∷ []) (small (now v k) known)
  wire_short (kept v k) known = inner_short 107 (v) (k ∷ []) (small (kept v k) known)
  wire_short (later v k) known = inner_short 97 (v) (k ∷ []) (small (later v k) known)
