-- A written dump is within the limit of bytes.
use Rattle.std.proofs.Common.{◌≡◌, ℕ, zero, suc, ◌+◌, ◌*◌, ◌/◌, ◌%◌, ◌<◌, ◌≤◌, ◌==◌, Bool, true, false, cond, List, [], ◌∷◌, ◌++◌, length, take, drop, ap, ◌∙◌, length-append, append_assoc, arith}
use Rattle.std.specs.Prelude.{max, nat_lt, codes, Ok, Err}
use Rattle.std.specs.Fmt.{decimal}
use Rattle.std.specs.List.{join_with_byte}
use Rattle.std.proofs.lemmas.Bool.{cond-false}
use Rattle.std.proofs.lemmas.Fmt.{length-decimal-le}
use Rattle.lid_base.specs.declared.runs.Shown.{Shown}
use Rattle.lid_base.specs.declared.which.Which.TheVariants.{FileBytes, TraceCells}
use Rattle.lid_base_lines.specs.Texts.{Words, line_text, lines_text}
use Rattle.lid_base_lines.proofs.Pieces.{lines_text_append}
use Rattle.lid_texts_runs.specs.declared.trace.Trace.{Trace}
use Rattle.lid_vcd_form.specs.Ids.{id_of, width_of, ending_of, is_token, binary, binary_by}
use Rattle.lid_vcd_form.specs.Shows.{wave_of}
use Rattle.lid_vcd_form.specs.Text.{declaration, declarations, timescale_words, scope_words, upscope_words, definitions_words, time_words, head_lines, bit_words, token_words, cell_lines, shown_lines, bit_change, token_change, cell_changes, changes, any_differs, cycle_lines, later_lines, body_lines, wave_text}
use Rattle.lid_vcd_form.specs.Writable.{IsWritable}
use Rattle.lid_vcd.specs.declared.reader.VcdFault.TheVariants.{Limit}
use Rattle.lid_vcd.specs.Reading.{cell_count, judged, wave_reading}
use Rattle.lid_vcd.proofs.CyclesRead.{first_row}
use Rattle.lid_vcd.proofs.WavesRead.{wave_written}

-- a word with what separates it from the next
abbrev size : Words → ℕ
size [] = 0
size (word ∷ words) = length word + 1 + size words

line_size : (word : List ℕ) (words : Words) → length (line_text (word ∷ words)) ≡ size (word ∷ words)
unfolding line_text
line_size word [] = length-append word (10 ∷ []) ∙ omega arith
line_size word (next ∷ words) =
    let rest = join_with_byte 32 (next ∷ words) in
    let first = line_size next words in
    ap (λ (xs : List ℕ). length xs) (append_assoc word (32 ∷ rest) (10 ∷ [])) ∙ length-append word (32 ∷ (rest ++ 10 ∷ [])) ∙ omega arith

abbrev bytes_of : List Words → ℕ
bytes_of lines = length (lines_text lines)

two_parts : (xs ys : List Words) → bytes_of (xs ++ ys) ≡ bytes_of xs + bytes_of ys
two_parts xs ys = ap (λ (bytes : List ℕ). length bytes) (lines_text_append xs ys) ∙ length-append (lines_text xs) (lines_text ys)

one_first : (line : Words) (lines : List Words) → bytes_of (line ∷ lines) ≡ length (line_text line) + bytes_of lines
one_first line lines = length-append (line_text line) (lines_text lines)

id_size : (n : ℕ) → length (id_of n) ≤ 3
unfolding id_of
id_size n = by (nat_lt n 94) (nat_lt n 8836)
  where
    by : (x y : Bool) → length (cond x ((33 + n) ∷ []) (cond y ((33 + n % 94) ∷ (33 + n / 94) ∷ []) ((33 + n % 94) ∷ (33 + n / 94 % 94) ∷ (33 + n / 8836 % 94) ∷ []))) ≤ 3
    by true y = omega arith
    by false true = omega arith
    by false false = omega arith

binary_size : (k n : ℕ) → length (binary_by k n) ≤ k
binary_size zero n = omega arith
binary_size (suc k) n = by (nat_lt n 2) (binary_size k (n / 2))
  where
    by : (b : Bool) → length (binary_by k (n / 2)) ≤ k → length (cond b ((48 + n) ∷ []) (binary_by k (n / 2) ++ (48 + n % 2) ∷ [])) ≤ suc k
    by true few = omega arith
    by false few = let sum = length-append (binary_by k (n / 2)) ((48 + n % 2) ∷ []) in omega arith

width_size : (n : ℕ) → length (width_of n) ≤ 2
width_size n = by (is_token n)
  where
    by : (b : Bool) → length (cond b (codes "31") (codes "1")) ≤ 2
    by true = omega arith
    by false = omega arith

ending_size : (n : ℕ) → length (ending_of n) ≤ 6
ending_size n = by (n % 3 == 0) (n % 3 == 1)
  where
    by : (x y : Bool) → length (cond x (codes "_valid") (cond y (codes "_stop") (codes "_token"))) ≤ 6
    by true y = omega arith
    by false true = omega arith
    by false false = omega arith

declaration_size : (n : ℕ) → n < 196608 → length (line_text (declaration n)) ≤ 35
unfolding declaration
declaration_size n small =
    let stem : List ℕ = 115 ∷ decimal (n / 3) in
    let sum = length-append stem (ending_of n) in
    let digits : length (decimal (n / 3)) ≤ 5 = length-decimal-le 5 (n / 3) (omega arith) (omega arith) (omega arith) in
    let width = width_size n in
    let id = id_size n in
    let ending = ending_size n in
    let line = line_size (codes "$var") (codes "wire" ∷ width_of n ∷ id_of n ∷ (codes "s" ++ decimal (n / 3) ++ ending_of n) ∷ codes "$end" ∷ []) in
    omega arith

declarations_size : (n left : ℕ) → n + left ≤ 196608 → bytes_of (declarations n left) ≤ 35 * left
declarations_size n zero few = omega arith
declarations_size n (suc left) few =
    let first = declaration_size n (omega arith) in
    let rest = declarations_size (n + 1) left (omega arith) in
    let sum = one_first (declaration n) (declarations (n + 1) left) in
    omega arith

time_size : (k : ℕ) → k < 10000000 → length (line_text (time_words k)) ≤ 9
time_size k small =
    let digits : length (decimal k) ≤ 7 = length-decimal-le 7 k (omega arith) (omega arith) (omega arith) in
    let line = line_size (35 ∷ decimal k) [] in
    omega arith

bit_size : (n : ℕ) (bit : Bool) → length (line_text (bit_words n bit)) ≤ 5
bit_size n bit =
    let id = id_size n in
    let line = line_size (cond bit 49 48 ∷ id_of n) [] in
    omega arith

token_size : (n token : ℕ) → length (line_text (token_words n token)) ≤ 37
unfolding binary
token_size n token =
    let id = id_size n in
    let bits = binary_size 31 token in
    let line = line_size (98 ∷ binary_by 31 token) (id_of n ∷ []) in
    omega arith

cell_size : (n : ℕ) (cell : Shown) → bytes_of (cell_lines n cell) ≤ 47
cell_size n cell =
    let a = bit_size n cell.valid in
    let b = bit_size (n + 1) cell.stop in
    let c = token_size (n + 2) cell.token in
    let first = one_first (bit_words n cell.valid) (bit_words (n + 1) cell.stop ∷ token_words (n + 2) cell.token ∷ []) in
    let second = one_first (bit_words (n + 1) cell.stop) (token_words (n + 2) cell.token ∷ []) in
    let third = one_first (token_words (n + 2) cell.token) [] in
    omega arith

all_size : (n : ℕ) (cells : List Shown) → bytes_of (shown_lines n cells) ≤ 47 * length cells
all_size n [] = omega arith
all_size n (cell ∷ cells) =
    let first = cell_size n cell in
    let rest = all_size (n + 3) cells in
    let sum = two_parts (cell_lines n cell) (shown_lines (n + 3) cells) in
    omega arith

bit_change_size : (n : ℕ) (a b : Bool) → bytes_of (bit_change n a b) ≤ 5
bit_change_size n true true = omega arith
bit_change_size n false false = omega arith
bit_change_size n true false = let line = bit_size n false in let sum = one_first (bit_words n false) [] in omega arith
bit_change_size n false true = let line = bit_size n true in let sum = one_first (bit_words n true) [] in omega arith

token_change_size : (n old new : ℕ) → bytes_of (token_change n old new) ≤ 37
token_change_size n old new = by (old == new)
  where
    by : (b : Bool) → bytes_of (cond b [] (token_words n new ∷ [])) ≤ 37
    by true = omega arith
    by false = let line = token_size n new in let sum = one_first (token_words n new) [] in omega arith

changes_size : (n : ℕ) (olds news : List Shown) → bytes_of (changes n olds news) ≤ 47 * length news
changes_size n [] news = omega arith
changes_size n (old ∷ olds) [] = omega arith
changes_size n (old ∷ olds) (new ∷ news) =
    let a = bit_change_size n old.valid new.valid in
    let b = bit_change_size (n + 1) old.stop new.stop in
    let c = token_change_size (n + 2) old.token new.token in
    let bits = two_parts (bit_change n old.valid new.valid) (bit_change (n + 1) old.stop new.stop) in
    let cell = two_parts (bit_change n old.valid new.valid ++ bit_change (n + 1) old.stop new.stop) (token_change (n + 2) old.token new.token) in
    let rest = changes_size (n + 3) olds news in
    let sum = two_parts (cell_changes n old new) (changes (n + 3) olds news) in
    omega arith

cycle_size : (k : ℕ) (olds news : List Shown) → k < 10000000 → bytes_of (cycle_lines k olds news) ≤ 9 + 47 * length news
cycle_size k olds news small = by (any_differs olds news)
  where
    by : (b : Bool) → bytes_of (cond b (time_words k ∷ changes 0 olds news) []) ≤ 9 + 47 * length news
    by true = let time = time_size k small in let rest = changes_size 0 olds news in let sum = one_first (time_words k) (changes 0 olds news) in omega arith
    by false = omega arith

later_size : (stations k left : ℕ) (before cells : List Shown) → length cells ≡ stations * left → k + left < 10000000 → bytes_of (later_lines stations k left before cells) ≤ 9 * (left + 1) + 47 * length cells
later_size stations k zero before cells long small = let time = time_size k (omega arith) in let sum = one_first (time_words k) [] in omega arith
later_size stations k (suc left) before cells long small =
    let row = take stations cells in
    let after = drop stations cells in
    let (across, longer) = first_row stations left cells long in
    let first = cycle_size k before row (omega arith) in
    let rest = later_size stations (k + 1) left row after (omega arith) (omega arith) in
    let sum = two_parts (cycle_lines k before row) (later_lines stations (k + 1) left row after) in
    omega arith

body_size : (stations cycles : ℕ) (cells : List Shown) → length cells ≡ stations * cycles → cycles ≤ 1048576 → bytes_of (body_lines stations cycles cells) ≤ 9 * (cycles + 1) + 47 * length cells
body_size stations zero cells long few = let time = time_size 0 (omega arith) in let sum = one_first (time_words 0) [] in omega arith
body_size stations (suc left) cells long few =
    let row = take stations cells in
    let after = drop stations cells in
    let (across, longer) = first_row stations left cells long in
    let time = time_size 0 (omega arith) in
    let all = all_size 0 row in
    let rest = later_size stations 1 left row after (omega arith) (omega arith) in
    let parts = two_parts (shown_lines 0 row) (later_lines stations 1 left row after) in
    let sum = one_first (time_words 0) (shown_lines 0 row ++ later_lines stations 1 left row after) in
    omega arith

opening_size : bytes_of (timescale_words ∷ scope_words ∷ []) ≤ 100
unfolding line_text
opening_size = omega arith

closing_size : bytes_of (upscope_words ∷ definitions_words ∷ []) ≤ 100
unfolding line_text
closing_size = omega arith

head_size : (variables : ℕ) → variables ≤ 196608 → bytes_of (head_lines variables) ≤ 35 * variables + 200
unfolding head_lines
head_size variables few =
    let first = opening_size in
    let mid = declarations_size 0 variables (omega arith) in
    let last = closing_size in
    let back = two_parts (declarations 0 variables) (upscope_words ∷ definitions_words ∷ []) in
    let sum = two_parts (timescale_words ∷ scope_words ∷ []) (declarations 0 variables ++ upscope_words ∷ definitions_words ∷ []) in
    omega arith

few_cells : (stations cycles : ℕ) → max stations 1 * cycles ≤ 1048576 → stations * cycles ≤ 1048576
few_cells stations cycles few = grind arith

few_cycles : (stations cycles : ℕ) → max stations 1 * cycles ≤ 1048576 → cycles ≤ 1048576
few_cycles stations cycles few = grind arith

text_size : (t : Trace) → IsWritable t → length (wave_text t) ≤ 67108864
unfolding wave_text
text_size t so =
    let v = 3 * t.stations in
    let stations = so.stations in
    let cycles = few_cycles t.stations t.cycles so.few in
    let cells = few_cells t.stations t.cycles so.few in
    let whole = so.whole in
    let head = head_size v (omega arith) in
    let body = body_size t.stations t.cycles t.cells whole cycles in
    let sum = two_parts (head_lines v) (body_lines t.stations t.cycles t.cells) in
    omega arith

-- the dump that is written of a trace is read as this trace
pub written_is_read : (t : Trace) → IsWritable t → wave_reading (wave_text t) ≡ Ok t
unfolding wave_reading
written_is_read t so =
    let bytes = text_size t so in
    let over : nat_lt 67108864 (length (wave_text t)) ≡ false = search (arith) in
    let few : nat_lt 1048576 (cell_count t.stations t.cycles) ≡ false = (let h = so.few in search (arith)) in
    cond-false (nat_lt 67108864 (length (wave_text t))) (Err (Limit FileBytes (length (wave_text t)))) (judged (wave_of (wave_text t))) over
    ∙ ap judged (wave_written t so)
    ∙ cond-false (nat_lt 1048576 (cell_count t.stations t.cycles)) (Err (Limit TraceCells (cell_count t.stations t.cycles))) (Ok t) few
