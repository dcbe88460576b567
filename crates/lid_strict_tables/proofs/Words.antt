-- What rows and covers are worth at the numbers of one word, and tables of words.
use Rattle.std.proofs.Common.{◌≡◌, ℕ, zero, suc, ◌+◌, ◌-◌, ◌*◌, ◌/◌, ◌%◌, ◌^◌, ◌<◌, ◌≤◌, ◌==◌, Bool, true, false, not, ◌&&◌, ◌||◌, bit_and, bit_or, bit_xor, List, [], ◌∷◌, ◌++◌, length, take, drop, get_or, refl, sym, ◌∙◌, ap, subst, arith}
use Rattle.std.specs.List.{list_any, AllByRecursion}
use Rattle.std.proofs.Math.Nat.{div-one, mod-eq_of_lt}
use Rattle.std.proofs.lemmas.List.{take_all, length-append, get_or_append_left, get_or-append-add}
use Rattle.std.proofs.lemmas.Nat.{pow-add}
use Rattle.lid_base.specs.Each.{from_each}
use Rattle.lid_base.proofs.Each.{each_at, each_length}
use Rattle.lid_cover.specs.declared.Cover.{Cover}
use Rattle.lid_cover.specs.declared.Cube.{Cube}
use Rattle.lid_cover.specs.Cover.{same_bit, lowest_bit, fits, agrees, cover_value, IsCube, IsCover}
use Rattle.lid_cover.specs.Masks.{packed}
use Rattle.lid_cover.proofs.Masking.{met_fits}
use Rattle.lid_strict_engine.specs.declared.program.ProgramStep.{ProgramStep}
use Rattle.lid_strict_engine.specs.Truth.{is_set, unpacked, value_at}
use Rattle.lid_strict_engine.specs.Programs.{cover_with, step_cover}
use Rattle.lid_strict_engine.proofs.Tabling.{length_unpacked, packed_unpacked, unpacked_packed}
use Rattle.lid_strict_tables.specs.Wide.{agrees_at, word_of, IsWideTable, IsTabled, IsTableOf}
use Rattle.lid_strict_tables.proofs.Masks.{halved, and_assoc, set_each, set_or, each_small, same_words}

-- bits of a number from its lowest on, by those of its parts
unpacked_rest : (m n i : ℕ) → unpacked (m + n) i ≡ unpacked m i ++ unpacked n (i / 2 ^ m)
unpacked_rest zero n i =
    let e : 0 + n ≡ n = omega arith in
    ap (λ (k : ℕ). unpacked k i) e ∙ ap (unpacked n) (sym (div-one i))
unpacked_rest (suc m) n i =
    let e : suc m + n ≡ suc (m + n) = omega arith in
    ap (λ (k : ℕ). unpacked k i) e
    ∙ ap (λ (bits : List Bool). lowest_bit i ∷ bits) (unpacked_rest m n (i / 2))
    ∙ ap (λ (k : ℕ). unpacked (suc m) i ++ unpacked n k) (halved i m)

unpacked_low : (n i : ℕ) → unpacked n (i % 2 ^ n) ≡ unpacked n i
unpacked_low n i =
    let long = length_unpacked n i in
    ap (unpacked n) (sym (packed_unpacked n i))
    ∙ unpacked_packed n (unpacked n i) (omega arith)
    ∙ take_all n (unpacked n i) (omega arith)

-- the inputs at a number of a word
unpacked_at : (inputs high i : ℕ) → 6 ≤ inputs → i < 64 → unpacked inputs (64 * high + i) ≡ unpacked 6 i ++ unpacked (inputs - 6) high
unpacked_at inputs high i many h =
    let e : inputs ≡ 6 + (inputs - 6) = omega arith in
    let low : (64 * high + i) % 64 ≡ i % 64 = omega arith in
    let rest : (64 * high + i) / 64 ≡ high = omega arith in
    ap (λ (n : ℕ). unpacked n (64 * high + i)) e
    ∙ unpacked_rest 6 (inputs - 6) (64 * high + i)
    ∙ ap (λ (bits : List Bool). bits ++ unpacked (inputs - 6) ((64 * high + i) / 64)) (sym (unpacked_low 6 (64 * high + i)) ∙ ap (unpacked 6) low ∙ unpacked_low 6 i)
    ∙ ap (λ (n : ℕ). unpacked 6 i ++ unpacked (inputs - 6) n) rest

-- what a row asks of the first bits, and of the others
abbrev bit_fits : ℕ → ℕ → Bool → Bool
bit_fits care value bit = not (lowest_bit care) || same_bit (lowest_bit value) bit

fits_parts : (care value : ℕ) (xs ys : List Bool) → fits care value (xs ++ ys) ≡ (fits care value xs && fits (care / 2 ^ length xs) (value / 2 ^ length xs) ys)
fits_parts care value [] ys =
    ap (λ (n : ℕ). fits n value ys) (sym (div-one care)) ∙ ap (λ (n : ℕ). fits (care / 2 ^ 0) n ys) (sym (div-one value))
fits_parts care value (x ∷ xs) ys =
    let first = bit_fits care value x in
    let rest = fits (care / 2) (value / 2) xs in
    ap (λ (b : Bool). first && b) (fits_parts (care / 2) (value / 2) xs ys)
    ∙ and_assoc first rest (fits (care / 2 / 2 ^ length xs) (value / 2 / 2 ^ length xs) ys)
    ∙ ap (λ (n : ℕ). (first && rest) && fits n (value / 2 / 2 ^ length xs) ys) (halved care (length xs))
    ∙ ap (λ (n : ℕ). (first && rest) && fits (care / 2 ^ suc (length xs)) n ys) (halved value (length xs))

high_care : (inputs care : ℕ) → 6 ≤ inputs → care < 2 ^ inputs → care / 64 < 2 ^ (inputs - 6)
high_care inputs care many less =
    let e : inputs ≡ (inputs - 6) + 6 = omega arith in
    let parts : 2 ^ inputs ≡ 2 ^ (inputs - 6) * 64 = ap (λ (n : ℕ). 2 ^ n) e ∙ pow-add 2 (inputs - 6) 6 in
    omega arith

row_parts : (inputs high i : ℕ) (cube : Cube) → 6 ≤ inputs → high < 2 ^ (inputs - 6) → i < 64 → IsCube inputs cube → agrees_at high i cube ≡ agrees (unpacked inputs (64 * high + i)) cube
row_parts inputs high i cube many room h rules =
    let others = unpacked (inputs - 6) high in
    let long = length_unpacked (inputs - 6) high in
    let care : cube.care / 64 < 2 ^ length others = subst (λ (n : ℕ). cube.care / 64 < 2 ^ n) (sym long) (high_care inputs cube.care many rules.in_range) in
    let same : packed others ≡ high = packed_unpacked (inputs - 6) high ∙ mod-eq_of_lt room in
    let met = ap (λ (n : ℕ). bit_and (bit_xor n (cube.value / 64)) (cube.care / 64) == 0) (sym same) ∙ met_fits others (cube.care / 64) (cube.value / 64) care in
    ap (λ (b : Bool). agrees (unpacked 6 i) cube && b) met
    ∙ sym (fits_parts cube.care cube.value (unpacked 6 i) others)
    ∙ ap (λ (bits : List Bool). agrees bits cube) (sym (unpacked_at inputs high i many h))

pub rows_parts : (inputs high i : ℕ) (cubes : List Cube) → 6 ≤ inputs → high < 2 ^ (inputs - 6) → i < 64 → AllByRecursion (IsCube inputs) cubes
    → list_any (agrees_at high i) cubes ≡ list_any (agrees (unpacked inputs (64 * high + i))) cubes
rows_parts inputs high i [] many room h rules = refl
rows_parts inputs high i (cube ∷ cubes) many room h rules =
    ap (λ (b : Bool). b || list_any (agrees_at high i) cubes) (row_parts inputs high i cube many room h rules.0)
    ∙ ap (λ (b : Bool). agrees (unpacked inputs (64 * high + i)) cube || b) (rows_parts inputs high i cubes many room h rules.1)

-- what is found at a word, with the value of its rows, is the value of the cover
pub value_found : (inputs high i : ℕ) (on : Bool) (cubes : List Cube) (found : Bool) → 6 ≤ inputs → high < 2 ^ (inputs - 6) → i < 64 → IsCover (cover_with inputs on cubes) → found ≡ list_any (agrees_at high i) cubes
    → same_bit on found ≡ value_at (cover_with inputs on cubes) (64 * high + i)
unfolding cover_value
value_found inputs high i on cubes found many room h rules is = ap (same_bit on) (is ∙ rows_parts inputs high i cubes many room h rules.cubes)

pub word_is : (inputs high word : ℕ) (on : Bool) (cubes : List Cube) → 6 ≤ inputs → high < 2 ^ (inputs - 6) → IsCover (cover_with inputs on cubes) → word < 18446744073709551616
    → ((i : ℕ) → i < 64 → is_set word i ≡ same_bit on (list_any (agrees_at high i) cubes)) → word ≡ word_of (cover_with inputs on cubes) high
unfolding word_of
word_is inputs high word on cubes many room rules small bits =
    let v = value_at (cover_with inputs on cubes) in
    same_words word (word_of (cover_with inputs on cubes) high) small (each_small v (64 * high))
    (λ i h. bits i h ∙ value_found inputs high i on cubes (list_any (agrees_at high i) cubes) many room h rules refl ∙ sym (set_each v (64 * high) i h))

-- one more row
or_assoc : (a b c : Bool) → ((a || b) || c) ≡ (a || (b || c))
or_assoc true b c = refl
or_assoc false b c = refl

abbrev pub no_cube : Cube
no_cube = record { care = 0; value = 0 }

any_next : (p : Cube → Bool) (cubes : List Cube) (k : ℕ) → k < length cubes → list_any p (drop k cubes) ≡ (p (get_or cubes k no_cube) || list_any p (drop (k + 1) cubes))
any_next p [] k h = absurd (omega arith)
any_next p (c ∷ cubes) zero h = refl
any_next p (c ∷ cubes) (suc k) h =
    let e : suc k + 1 ≡ suc (k + 1) = omega arith in
    any_next p cubes k (omega arith) ∙ ap (λ (n : ℕ). p (get_or cubes k no_cube) || list_any p (drop n (c ∷ cubes))) (sym e)

pub found_next : (p : Cube → Bool) (cubes : List Cube) (k found more i : ℕ) → k < length cubes → is_set more i ≡ p (get_or cubes k no_cube)
    → (is_set found i || list_any p (drop k cubes)) ≡ list_any p cubes → (is_set (bit_or found more) i || list_any p (drop (k + 1) cubes)) ≡ list_any p cubes
found_next p cubes k found more i h is before =
    let rest = list_any p (drop (k + 1) cubes) in
    ap (λ (b : Bool). b || rest) (set_or found more i)
    ∙ or_assoc (is_set found i) (is_set more i) rest
    ∙ ap (λ (b : Bool). is_set found i || (b || rest)) is
    ∙ ap (λ (b : Bool). is_set found i || b) (sym (any_next p cubes k h))
    ∙ before

-- words that were appended are a table
pub table_appended : (cover : Cover) (old : List ℕ) → 6 ≤ cover.inputs → IsWideTable (old ++ from_each (word_of cover) 0 (2 ^ (cover.inputs - 6))) (length old) cover
unfolding word_of
table_appended cover old many = record {
  room =
      (let long = length-append old own in let count = each_length (word_of cover) 0 (2 ^ (cover.inputs - 6)) in omega arith);
  bits = λ i h.
      let high : i / 64 < 2 ^ (cover.inputs - 6) = high_care cover.inputs i many h in
      let word : get_or (old ++ own) (length old + i / 64) 0 ≡ word_of cover (i / 64) =
      get_or-append-add old own (i / 64) 0 ∙ each_at (word_of cover) 0 (2 ^ (cover.inputs - 6)) (i / 64) 0 high ∙ ap (word_of cover) (let e : 0 + i / 64 ≡ i / 64 = omega arith in e) in
      let place : 64 * (i / 64) + i % 64 ≡ i = omega arith in
      ap (λ (n : ℕ). is_set n (i % 64)) word ∙ set_each (value_at cover) (64 * (i / 64)) (i % 64) (omega arith) ∙ ap (value_at cover) place;
}
  where
    own : List ℕ
    own = from_each (word_of cover) 0 (2 ^ (cover.inputs - 6))

-- a table stays where more words are appended
pub table_kept : (words more : List ℕ) (first : ℕ) (cover : Cover) → 6 ≤ cover.inputs → IsWideTable words first cover → IsWideTable (words ++ more) first cover
table_kept words more first cover many is = record {
  room = (let long = length-append words more in let room = is.room in omega arith);
  bits = λ i h.
      let high : i / 64 < 2 ^ (cover.inputs - 6) = high_care cover.inputs i many h in
      let room = is.room in
      ap (λ (n : ℕ). is_set n (i % 64)) (get_or_append_left words more 0 (first + i / 64) (omega arith)) ∙ is.bits i h;
}

pub table_of_kept : (words more : List ℕ) (cubes : List Cube) (step : ProgramStep) (table : ℕ) → IsTableOf words cubes step table → IsTableOf (words ++ more) cubes step table
table_of_kept words more cubes step table is = record {
  small = is.small;
  wide = λ tabled. (let many = tabled.many in table_kept words more table (step_cover cubes step) (omega arith) (is.wide tabled));
}
