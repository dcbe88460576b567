-- The words of a written dump are words of a text.
use Rattle.std.proofs.Common.{◌≡◌, ℕ, zero, suc, ◌+◌, ◌/◌, ◌%◌, ◌^◌, ◌<◌, ◌≤◌, ◌==◌, ◌||◌, Bool, true, false, cond, List, [], ◌∷◌, ◌++◌, take, drop, refl, arith}
use Rattle.std.specs.Prelude.{nat_lt, codes}
use Rattle.std.specs.Fmt.{decimal}
use Rattle.std.specs.List.{AllByRecursion}
use Rattle.std.proofs.lemmas.Bool.{ne_eqb, or_from}
use Rattle.std.proofs.lemmas.Fmt.{decimal_by_steps}
use Rattle.lid_base.specs.declared.runs.Shown.{Shown}
use Rattle.lid_base.specs.Lines.{is_newline, is_separator}
use Rattle.lid_base.proofs.Lists.{all_append}
use Rattle.lid_vcd_form.specs.Words.{separates}
use Rattle.lid_vcd_form.specs.Ids.{id_of, width_of, ending_of, is_token, binary, binary_by}
use Rattle.lid_vcd_form.specs.Text.{declaration, declarations, timescale_words, scope_words, upscope_words, definitions_words, time_words, head_lines, bit_words, token_words, shown_lines, bit_change, token_change, cell_changes, changes, any_differs, cycle_lines, later_lines, body_lines}
use Rattle.lid_vcd.proofs.WrittenWords.{IsWord, IsLine}

-- bytes from 33 on separate no words
plain_byte : (b : ℕ) → 33 ≤ b → separates b ≡ false
plain_byte b h =
    or_from (is_newline b) (is_separator b) (ne_eqb b 10 (λ e. absurd (omega arith)))
    (or_from (b == 32) ((b == 9) || (b == 13)) (ne_eqb b 32 (λ e. absurd (omega arith))) (or_from (b == 9) (b == 13) (ne_eqb b 9 (λ e. absurd (omega arith))) (ne_eqb b 13 (λ e. absurd (omega arith)))))

abbrev ArePlain : List ℕ → Type 0
ArePlain bytes = AllByRecursion (λ b. separates b ≡ false) bytes

plain_append : (xs ys : List ℕ) → ArePlain xs → ArePlain ys → ArePlain (xs ++ ys)
plain_append xs ys a b = all_append (λ b. separates b ≡ false) xs ys a b

plain_decimal : (n : ℕ) → n < 2 ^ 64 → ArePlain (decimal n)
plain_decimal n h = decimal_by_steps (λ m ds. ArePlain ds) (λ m small. (plain_byte (48 + m) (omega arith), tt)) (λ m ds large front. plain_append ds ((48 + m % 10) ∷ []) front (plain_byte (48 + m % 10) (omega arith), tt)) n h

-- an ID
pub id_word : (n : ℕ) → IsWord (id_of n)
unfolding id_of
id_word n = by (nat_lt n 94) (nat_lt n 8836)
  where
    one : (b : ℕ) → separates (33 + b) ≡ false
    one b = plain_byte (33 + b) (omega arith)

    by : (x y : Bool) → IsWord (cond x ((33 + n) ∷ []) (cond y ((33 + n % 94) ∷ (33 + n / 94) ∷ []) ((33 + n % 94) ∷ (33 + n / 94 % 94) ∷ (33 + n / 8836 % 94) ∷ [])))
    by true y = record { some = omega arith; bytes = (one n, tt) }
    by false true = record { some = omega arith; bytes = (one (n % 94), (one (n / 94), tt)) }
    by false false = record { some = omega arith; bytes = (one (n % 94), (one (n / 94 % 94), (one (n / 8836 % 94), tt))) }

plain_binary : (k n : ℕ) → ArePlain (binary_by k n)
plain_binary zero n = tt
plain_binary (suc k) n = by (nat_lt n 2) (plain_binary k (n / 2))
  where
    by : (b : Bool) → ArePlain (binary_by k (n / 2)) → ArePlain (cond b ((48 + n) ∷ []) (binary_by k (n / 2) ++ (48 + n % 2) ∷ []))
    by true front = (plain_byte (48 + n) (omega arith), tt)
    by false front = plain_append (binary_by k (n / 2)) ((48 + n % 2) ∷ []) front (plain_byte (48 + n % 2) (omega arith), tt)

-- a character before others
marked : (b : ℕ) (rest : List ℕ) → separates b ≡ false → ArePlain rest → IsWord (b ∷ rest)
marked b rest h all = record { some = omega arith; bytes = (h, all) }

ending_plain : (n : ℕ) → ArePlain (ending_of n)
ending_plain n = by (n % 3 == 0) (n % 3 == 1)
  where
    by : (x y : Bool) → ArePlain (cond x (codes "_valid") (cond y (codes "_stop") (codes "_token")))
    by true y = (refl, (refl, (refl, (refl, (refl, (refl, tt))))))
    by false true = (refl, (refl, (refl, (refl, (refl, tt)))))
    by false false = (refl, (refl, (refl, (refl, (refl, (refl, tt))))))

pub width_word : (n : ℕ) → IsWord (width_of n)
width_word n = by (is_token n)
  where
    by : (b : Bool) → IsWord (cond b (codes "31") (codes "1"))
    by true = record { some = omega arith; bytes = (refl, (refl, tt)) }
    by false = record { some = omega arith; bytes = (refl, tt) }

pub name_word : (n : ℕ) → n < 2 ^ 64 → IsWord (codes "s" ++ decimal (n / 3) ++ ending_of n)
name_word n small = marked 115 (decimal (n / 3) ++ ending_of n) refl (plain_append (decimal (n / 3)) (ending_of n) (plain_decimal (n / 3) (omega arith)) (ending_plain n))

pub var_word : IsWord (codes "$var")
var_word = record { some = omega arith; bytes = (refl, (refl, (refl, (refl, tt)))) }

pub wire_word : IsWord (codes "wire")
wire_word = record { some = omega arith; bytes = (refl, (refl, (refl, (refl, tt)))) }

pub end_word : IsWord (codes "$end")
end_word = record { some = omega arith; bytes = (refl, (refl, (refl, (refl, tt)))) }

declaration_line : (n : ℕ) → n < 2 ^ 64 → IsLine (declaration n)
unfolding declaration
declaration_line n small = record { some = omega arith; words = (var_word, (wire_word, (width_word n, (id_word n, (name_word n small, (end_word, tt)))))) }

declaration_lines : (n left : ℕ) → n + left < 2 ^ 64 → AllByRecursion IsLine (declarations n left)
declaration_lines n zero small = tt
declaration_lines n (suc left) small = (declaration_line n (omega arith), declaration_lines (n + 1) left (omega arith))

pub timescale_word : IsWord (codes "$timescale")
timescale_word = record { some = omega arith; bytes = (refl, (refl, (refl, (refl, (refl, (refl, (refl, (refl, (refl, (refl, tt)))))))))) }

pub scope_word : IsWord (codes "$scope")
scope_word = record { some = omega arith; bytes = (refl, (refl, (refl, (refl, (refl, (refl, tt)))))) }

pub module_word : IsWord (codes "module")
module_word = record { some = omega arith; bytes = (refl, (refl, (refl, (refl, (refl, (refl, tt)))))) }

pub lid_word : IsWord (codes "lid")
lid_word = record { some = omega arith; bytes = (refl, (refl, (refl, tt))) }

pub upscope_word : IsWord (codes "$upscope")
upscope_word = record { some = omega arith; bytes = (refl, (refl, (refl, (refl, (refl, (refl, (refl, (refl, tt)))))))) }

pub definitions_word : IsWord (codes "$enddefinitions")
definitions_word = record { some = omega arith; bytes = (refl, (refl, (refl, (refl, (refl, (refl, (refl, (refl, (refl, (refl, (refl, (refl, (refl, (refl, (refl, tt))))))))))))))) }

pub first_time_word : IsWord (codes "#0")
first_time_word = record { some = omega arith; bytes = (refl, (refl, tt)) }

timescale_line : IsLine timescale_words
timescale_line = record { some = omega arith; words = (timescale_word, (record { some = omega arith; bytes = (refl, tt) }, (record { some = omega arith; bytes = (refl, (refl, tt)) }, (end_word, tt)))) }

scope_line : IsLine scope_words
scope_line = record { some = omega arith; words = (scope_word, (module_word, (lid_word, (end_word, tt)))) }

upscope_line : IsLine upscope_words
upscope_line = record { some = omega arith; words = (upscope_word, (end_word, tt)) }

definitions_line : IsLine definitions_words
definitions_line = record { some = omega arith; words = (definitions_word, (end_word, tt)) }

pub head_sound : (variables : ℕ) → variables < 2 ^ 64 → AllByRecursion IsLine (head_lines variables)
unfolding head_lines
head_sound variables small =
    (timescale_line, (scope_line, all_append IsLine (declarations 0 variables) (upscope_words ∷ definitions_words ∷ []) (declaration_lines 0 variables (omega arith)) (upscope_line, (definitions_line, tt))))

pub time_word : (k : ℕ) → k < 2 ^ 64 → IsWord (35 ∷ decimal k)
time_word k small = marked 35 (decimal k) refl (plain_decimal k small)

time_line : (k : ℕ) → k < 2 ^ 64 → IsLine (time_words k)
time_line k small = record { some = omega arith; words = (time_word k small, tt) }

bit_line : (n : ℕ) (bit : Bool) → IsLine (bit_words n bit)
bit_line n true = record { some = omega arith; words = (marked 49 (id_of n) refl (id_word n).bytes, tt) }
bit_line n false = record { some = omega arith; words = (marked 48 (id_of n) refl (id_word n).bytes, tt) }

token_line : (n token : ℕ) → IsLine (token_words n token)
unfolding binary
token_line n token = record { some = omega arith; words = (marked 98 (binary_by 31 token) refl (plain_binary 31 token), (id_word n, tt)) }

all_sound : (n : ℕ) (cells : List Shown) → AllByRecursion IsLine (shown_lines n cells)
all_sound n [] = tt
all_sound n (cell ∷ cells) = (bit_line n cell.valid, (bit_line (n + 1) cell.stop, (token_line (n + 2) cell.token, all_sound (n + 3) cells)))

bit_change_sound : (n : ℕ) (a b : Bool) → AllByRecursion IsLine (bit_change n a b)
bit_change_sound n true true = tt
bit_change_sound n false false = tt
bit_change_sound n true false = (bit_line n false, tt)
bit_change_sound n false true = (bit_line n true, tt)

token_change_sound : (n old new : ℕ) → AllByRecursion IsLine (token_change n old new)
token_change_sound n old new = by (old == new)
  where
    by : (b : Bool) → AllByRecursion IsLine (cond b [] (token_words n new ∷ []))
    by true = tt
    by false = (token_line n new, tt)

changes_sound : (n : ℕ) (olds news : List Shown) → AllByRecursion IsLine (changes n olds news)
changes_sound n [] news = tt
changes_sound n (old ∷ olds) [] = tt
changes_sound n (old ∷ olds) (new ∷ news) =
    all_append IsLine (cell_changes n old new) (changes (n + 3) olds news)
    (all_append IsLine (bit_change n old.valid new.valid ++ bit_change (n + 1) old.stop new.stop) (token_change (n + 2) old.token new.token)
    (all_append IsLine (bit_change n old.valid new.valid) (bit_change (n + 1) old.stop new.stop) (bit_change_sound n old.valid new.valid) (bit_change_sound (n + 1) old.stop new.stop)) (token_change_sound (n + 2) old.token new.token))
    (changes_sound (n + 3) olds news)

cycle_sound : (k : ℕ) (olds news : List Shown) → k < 2 ^ 64 → AllByRecursion IsLine (cycle_lines k olds news)
cycle_sound k olds news small = by (any_differs olds news)
  where
    by : (b : Bool) → AllByRecursion IsLine (cond b (time_words k ∷ changes 0 olds news) [])
    by true = (time_line k small, changes_sound 0 olds news)
    by false = tt

later_sound : (stations k left : ℕ) (before cells : List Shown) → k + left < 2 ^ 64 → AllByRecursion IsLine (later_lines stations k left before cells)
later_sound stations k zero before cells small = (time_line k (omega arith), tt)
later_sound stations k (suc left) before cells small =
    all_append IsLine (cycle_lines k before (take stations cells)) (later_lines stations (k + 1) left (take stations cells) (drop stations cells)) (cycle_sound k before (take stations cells) (omega arith))
    (later_sound stations (k + 1) left (take stations cells) (drop stations cells) (omega arith))

pub body_sound : (stations cycles : ℕ) (cells : List Shown) → cycles < 2 ^ 64 → AllByRecursion IsLine (body_lines stations cycles cells)
body_sound stations zero cells small = (time_line 0 (omega arith), tt)
body_sound stations (suc left) cells small =
    (time_line 0 (omega arith), all_append IsLine (shown_lines 0 (take stations cells)) (later_lines stations 1 left (take stations cells) (drop stations cells)) (all_sound 0 (take stations cells)) (later_sound stations 1 left (take stations cells) (drop stations cells) (omega arith)))
