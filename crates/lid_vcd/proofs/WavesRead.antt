-- The text that is written of a trace shows this trace.
use Rattle.std.proofs.Common.{◌≡◌, ℕ, zero, suc, ◌+◌, ◌-◌, ◌*◌, ◌/◌, ◌%◌, ◌≤◌, ◌==◌, true, List, [], ◌∷◌, ◌++◌, length, take, drop, map, refl, sym, ap, ◌∙◌, subst, append-nil, replicate, arith}
use Rattle.std.specs.Prelude.{max, Some, Ok, codes}
use Rattle.std.specs.List.{AllByRecursion}
use Rattle.std.proofs.lemmas.Bool.{eq-eqb}
use Rattle.std.proofs.lemmas.Fmt.{decimal_digit}
use Rattle.std.proofs.lemmas.List.{take-append-drop}
use Rattle.lid_base.specs.declared.runs.Shown.{Shown}
use Rattle.lid_base.proofs.Lists.{all_append}
use Rattle.lid_base_lines.specs.Texts.{Words}
use Rattle.lid_texts_runs.specs.declared.trace.Trace.{Trace}
use Rattle.lid_vcd_form.specs.declared.form.Section.TheVariants.{Body}
use Rattle.lid_vcd_form.specs.declared.form.Next.TheVariants.{Before, Time}
use Rattle.lid_vcd_form.specs.Words.{placed_words}
use Rattle.lid_vcd_form.specs.Form.{new_place, start, step, read_words, begins}
use Rattle.lid_vcd_form.specs.Shows.{shown_stations, cycles_of, cells_on, trace_at, trace_of, wave_of}
use Rattle.lid_vcd_form.specs.Text.{time_words, head_lines, shown_lines, later_lines, body_lines, wave_text}
use Rattle.lid_vcd_form.specs.Writable.{IsCell, IsWritable}
use Rattle.lid_vcd.proofs.WrittenWords.{on_line, placed_lines, IsLine, lines_read}
use Rattle.lid_vcd.proofs.WordsSound.{head_sound, body_sound}
use Rattle.lid_vcd.proofs.Going.{Goes, then_goes, one_word, run_goes}
use Rattle.lid_vcd.proofs.HeadRead.{placed_append, head_read}
use Rattle.lid_vcd.proofs.BodyRead.{at_time}
use Rattle.lid_vcd.proofs.CellsRead.{values_of, values_shown}
use Rattle.lid_vcd.proofs.CyclesRead.{all_goes, Ends, first_row, later_goes}
use Rattle.lid_base.proofs.Alls.{all_take, all_drop}

pub first_time : (variables : ℕ) → step (new_place variables (Before Body)) (codes "#0") ≡ Some (new_place variables (Time 0))
unfolding step begins
first_time variables = refl

-- the body begins
begun : (line variables : ℕ) (values : List ℕ) → Goes (new_place variables (Before Body)) values (map (on_line line) (time_words 0)) (new_place variables (Time 0)) values []
begun line variables values =
    subst (λ (digits : List ℕ). Goes (new_place variables (Before Body)) values ((line, 35 ∷ digits) ∷ []) (new_place variables (Time 0)) values []) (sym (decimal_digit 0 (omega arith)))
    (one_word line (new_place variables (Before Body)) (new_place variables (Time 0)) values (codes "#0") (first_time variables))

abbrev zeros : ℕ → List ℕ
zeros n = replicate n 0

length_zeros : (n : ℕ) → length (zeros n) ≡ n
length_zeros zero = refl
length_zeros (suc n) = let e = length_zeros n in omega arith

body_goes : (line stations cycles : ℕ) (cells : List Shown) → length cells ≡ stations * cycles → stations ≤ 65536 → cycles ≤ 1048576 → AllByRecursion IsCell cells →
    Ends (3 * stations) (Before Body) (replicate (3 * stations) 0) (placed_lines line (body_lines stations cycles cells)) cycles cells
body_goes line stations zero [] long few most all = record {
  after = replicate (3 * stations) 0;
  goes = begun line (3 * stations) (replicate (3 * stations) 0);
}
body_goes line stations zero (cell ∷ cells) long few most all = absurd (omega arith)
body_goes line stations (suc left) cells long few most all =
    let v = 3 * stations in
    let row = take stations cells in
    let rest = drop stations cells in
    let (across, longer) = first_row stations left cells long in
    let many = length_zeros v in
    let set = all_goes (line + 1) v 0 (Time 0) [] (replicate v 0) 0 row refl (omega arith) (at_time v 0) (omega arith) (omega arith) (omega arith) (all_take IsCell stations cells all) in
    let n = line + 1 + length (shown_lines 0 row) in
    let over = later_goes n stations v 0 1 left set.to row rest set.here (omega arith) (omega arith) across longer (omega arith) (omega arith) (all_take IsCell stations cells all) (all_drop IsCell stations cells all) in
    let none : List Shown = [] in
    let first : cycles_of (1 - 0) (values_of row) ++ rest ≡ cells = ap (λ (cs : List Shown). cs ++ rest) (append-nil (shown_stations (values_of row)) ∙ values_shown row (all_take IsCell stations cells all)) ∙ take-append-drop stations cells in
    let sum : 1 + left ≡ suc left = omega arith in
    let later : Goes (new_place v (Time 0)) (replicate v 0) (placed_lines (line + 1) (shown_lines 0 row ++ later_lines stations 1 left row rest)) (new_place v (Time (1 + left))) over.after (cycles_of (1 - 0) (values_of row) ++ rest) =
    subst (λ (ws : List (ℕ × List ℕ)). Goes (new_place v (Time 0)) (replicate v 0) ws (new_place v (Time (1 + left))) over.after (cycles_of (1 - 0) (values_of row) ++ rest)) (sym (placed_append (line + 1) (shown_lines 0 row) (later_lines stations 1 left row rest)))
    (then_goes (new_place v (Time 0)) (new_place v set.to) (new_place v (Time (1 + left))) (replicate v 0) (values_of row) over.after (placed_lines (line + 1) (shown_lines 0 row)) (placed_lines n (later_lines stations 1 left row rest)) none (cycles_of (1 - 0) (values_of row) ++ rest) set.goes over.goes) in
    record {
      after = over.after;
      goes = subst (λ (t : ℕ). Goes (new_place v (Before Body)) (replicate v 0) (placed_lines line (body_lines stations (suc left) cells)) (new_place v (Time t)) over.after cells) sum
          (subst (λ (cs : List Shown). Goes (new_place v (Before Body)) (replicate v 0) (placed_lines line (body_lines stations (suc left) cells)) (new_place v (Time (1 + left))) over.after cs) first
          (then_goes (new_place v (Before Body)) (new_place v (Time 0)) (new_place v (Time (1 + left))) (replicate v 0) (replicate v 0) over.after (map (on_line line) (time_words 0)) (placed_lines (line + 1) (shown_lines 0 row ++ later_lines stations 1 left row rest)) none (cycles_of (1 - 0) (values_of row) ++ rest)
          (begun line v (replicate v 0)) later));
    }

-- a trace has no more cycles than cells may stand in it
few_cycles : (stations cycles : ℕ) → max stations 1 * cycles ≤ 1048576 → cycles ≤ 1048576
few_cycles stations cycles few = grind arith

abbrev lines_of : Trace → List Words
lines_of t = head_lines (3 * t.stations) ++ body_lines t.stations t.cycles t.cells

trace_goes : (t : Trace) → IsWritable t → Ends (3 * t.stations) (Before Body) (replicate (3 * t.stations) 0) (placed_lines (1 + length (head_lines (3 * t.stations))) (body_lines t.stations t.cycles t.cells)) t.cycles t.cells
trace_goes t so = body_goes (1 + length (head_lines (3 * t.stations))) t.stations t.cycles t.cells so.whole so.stations (few_cycles t.stations t.cycles so.few) so.cells

all_goes_on : (t : Trace) → IsWritable t → (after : List ℕ) × Goes start (replicate (3 * t.stations) 0) (placed_lines 1 (lines_of t)) (new_place (3 * t.stations) (Time t.cycles)) after t.cells
all_goes_on t so =
    let v = 3 * t.stations in
    let most = so.stations in
    let thrice : (v % 3 == 0) ≡ true = eq-eqb (v % 3) 0 (omega arith) in
    let body = trace_goes t so in
    let none : List Shown = [] in (
      body.after,
      subst (λ (ws : List (ℕ × List ℕ)). Goes start (replicate v 0) ws (new_place v (Time t.cycles)) body.after t.cells) (sym (placed_append 1 (head_lines v) (body_lines t.stations t.cycles t.cells)))
          (then_goes start (new_place v (Before Body)) (new_place v (Time t.cycles)) (replicate v 0) (replicate v 0) body.after (placed_lines 1 (head_lines v)) (placed_lines (1 + length (head_lines v)) (body_lines t.stations t.cycles t.cells)) none t.cells
          (head_read 1 v (replicate v 0) (omega arith) thrice) body.goes),
    )

words_read : (t : Trace) → IsWritable t → placed_words (wave_text t) ≡ placed_lines 1 (lines_of t)
unfolding wave_text
words_read t so =
    let most = so.stations in
    let few = few_cycles t.stations t.cycles so.few in
    lines_read (lines_of t) (all_append IsLine (head_lines (3 * t.stations)) (body_lines t.stations t.cycles t.cells) (head_sound (3 * t.stations) (omega arith)) (body_sound t.stations t.cycles t.cells (omega arith)))

-- the trace at the end
trace_made : (t : Trace) (words : List (ℕ × List ℕ)) → cells_on start (replicate (3 * t.stations) 0) words ≡ t.cells → trace_at words (new_place (3 * t.stations) (Time t.cycles)) ≡ t
trace_made t words e =
    let stations : 3 * t.stations / 3 ≡ t.stations = omega arith in
    let first : trace_at words (new_place (3 * t.stations) (Time t.cycles)) ≡ record t { cells = cells_on start (replicate (3 * t.stations) 0) words } = ap (λ (s : ℕ). record t { stations = s; cells = cells_on start (replicate (3 * t.stations) 0) words }) stations in
    first ∙ ap (λ (cs : List Shown). record t { cells = cs }) e

pub wave_written : (t : Trace) → IsWritable t → wave_of (wave_text t) ≡ Ok t
unfolding wave_of
wave_written t so =
    let words = placed_lines 1 (lines_of t) in
    let v = 3 * t.stations in
    let end = new_place v (Time t.cycles) in
    let all = all_goes_on t so in
    let ran : read_words 0 start words ≡ Ok end = run_goes 0 start end words all.1.leads refl in
    let cells : cells_on start (replicate v 0) words ≡ t.cells = ap (cells_on start (replicate v 0)) (sym (append-nil words)) ∙ all.1.shows [] ∙ append-nil t.cells in
    ap (λ (ws : List (ℕ × List ℕ)). trace_of ws (read_words 0 start ws)) (words_read t so) ∙ ap (trace_of words) ran ∙ ap Ok (trace_made t words cells)
