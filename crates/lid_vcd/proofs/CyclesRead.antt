-- The body of a written dump, cycle after cycle.
use Rattle.std.proofs.Common.{◌≡◌, ℕ, zero, suc, ◌+◌, ◌-◌, ◌*◌, ◌<◌, ◌≤◌, ◌==◌, ◌||◌, Bool, true, false, not, cond, List, [], ◌∷◌, ◌++◌, length, take, drop, map, refl, sym, ap, ◌∙◌, subst, length-append, append_assoc, append-nil, arith}
use Rattle.std.specs.List.{AllByRecursion}
use Rattle.std.proofs.lemmas.Bool.{eqb-true, or_parts}
use Rattle.std.proofs.lemmas.List.{length-take-le, length-drop, take-append-drop}
use Rattle.lid_base.specs.declared.runs.Shown.{Shown}
use Rattle.lid_base.proofs.Lists.{not_false}
use Rattle.lid_base_lines.specs.Texts.{Words}
use Rattle.lid_vcd_form.specs.declared.form.Next.{Next}
use Rattle.lid_vcd_form.specs.declared.form.Next.TheVariants.{Time}
use Rattle.lid_vcd_form.specs.Form.{new_place}
use Rattle.lid_vcd_form.specs.Shows.{shown_stations, cycles_of}
use Rattle.lid_vcd_form.specs.Text.{time_words, cell_lines, shown_lines, cell_changes, changes, bit_differs, differs, any_differs, later_lines}
use Rattle.lid_vcd_form.specs.Writable.{IsCell}
use Rattle.lid_vcd.proofs.WrittenWords.{on_line, placed_lines}
use Rattle.lid_vcd.proofs.Going.{Goes, then_goes}
use Rattle.lid_vcd.proofs.HeadRead.{placed_append}
use Rattle.lid_vcd.proofs.BodyRead.{AtTime, at_time, bit_value, time_read}
use Rattle.lid_vcd.proofs.CellsRead.{values_of, values_shown, GoesAt, stays, at_then, cell_goes, cell_changed}
use native.Mathlib.Nat.{mul-suc}
use Rattle.lid_base.proofs.Alls.{all_take, all_drop}

-- the front of the values is done
shifted : (variables at : ℕ) (next : Next) (done front xs ys : List ℕ) (words : List (ℕ × List ℕ)) → GoesAt variables at next ((done ++ front) ++ xs) words ((done ++ front) ++ ys) → GoesAt variables at next (done ++ (front ++ xs)) words (done ++ (front ++ ys))
shifted variables at next done front xs ys words so =
    subst (λ (after : List ℕ). GoesAt variables at next (done ++ (front ++ xs)) words after) (append_assoc done front ys)
    (subst (λ (before : List ℕ). GoesAt variables at next before words ((done ++ front) ++ ys)) (append_assoc done front xs) so)

abbrev three_of : Shown → List ℕ
three_of cell = bit_value cell.valid ∷ bit_value cell.stop ∷ cell.token ∷ []

done_more : (done : List ℕ) (cell : Shown) (k : ℕ) → length done ≡ 3 * k → length (done ++ three_of cell) ≡ 3 * suc k
done_more done cell k e = let sum = length-append done (three_of cell) in omega arith

-- all variables are set
pub all_goes : (line variables at : ℕ) (next : Next) (done olds : List ℕ) (k : ℕ) (cells : List Shown) → length done ≡ 3 * k → length olds ≡ 3 * length cells → AtTime variables at next → at < 4294967295 → 3 * k + 3 * length cells ≤ variables → variables ≤ 196608 →
    AllByRecursion IsCell cells → GoesAt variables at next (done ++ olds) (placed_lines line (shown_lines (3 * k) cells)) (done ++ values_of cells)
all_goes line variables at next done [] k [] e long here early below few all = stays variables at next (done ++ []) here
all_goes line variables at next done (x ∷ olds) k [] e long here early below few all = absurd (omega arith)
all_goes line variables at next done [] k (cell ∷ cells) e long here early below few all = absurd (omega arith)
all_goes line variables at next done (x ∷ []) k (cell ∷ cells) e long here early below few all = absurd (omega arith)
all_goes line variables at next done (x ∷ y ∷ []) k (cell ∷ cells) e long here early below few all = absurd (omega arith)
all_goes line variables at next done (x ∷ y ∷ z ∷ rest) k (cell ∷ cells) e long here early below few all =
    let number : 3 * suc k ≡ 3 * k + 3 = omega arith in
    at_then line variables at next (done ++ x ∷ y ∷ z ∷ rest) (done ++ (three_of cell ++ rest)) (done ++ (three_of cell ++ values_of cells)) (cell_lines (3 * k) cell) (shown_lines (3 * k + 3) cells)
    (cell_goes line variables at next done rest x y z k cell e here early (omega arith) few all.0)
    (λ to h m. subst (λ (n : ℕ). GoesAt variables at to (done ++ (three_of cell ++ rest)) (placed_lines m (shown_lines n cells)) (done ++ (three_of cell ++ values_of cells))) number
    (shifted variables at to done (three_of cell) rest (values_of cells) (placed_lines m (shown_lines (3 * suc k) cells))
    (all_goes m variables at to (done ++ three_of cell) rest (suc k) cells (done_more done cell k e) (omega arith) h early (omega arith) few all.1)))

-- the variables that changed are set
pub changes_go : (line variables at : ℕ) (next : Next) (done : List ℕ) (k : ℕ) (olds cells : List Shown) → length done ≡ 3 * k → length olds ≡ length cells → AtTime variables at next → at < 4294967295 → 3 * k + 3 * length cells ≤ variables → variables ≤ 196608 →
    AllByRecursion IsCell cells → GoesAt variables at next (done ++ values_of olds) (placed_lines line (changes (3 * k) olds cells)) (done ++ values_of cells)
changes_go line variables at next done k [] [] e long here early below few all = stays variables at next (done ++ []) here
changes_go line variables at next done k (old ∷ olds) [] e long here early below few all = absurd (omega arith)
changes_go line variables at next done k [] (cell ∷ cells) e long here early below few all = absurd (omega arith)
changes_go line variables at next done k (old ∷ olds) (cell ∷ cells) e long here early below few all =
    let number : 3 * suc k ≡ 3 * k + 3 = omega arith in
    at_then line variables at next (done ++ (three_of old ++ values_of olds)) (done ++ (three_of cell ++ values_of olds)) (done ++ (three_of cell ++ values_of cells)) (cell_changes (3 * k) old cell) (changes (3 * k + 3) olds cells)
    (cell_changed line variables at next done (values_of olds) k old cell e here early (omega arith) few all.0)
    (λ to h m. subst (λ (n : ℕ). GoesAt variables at to (done ++ (three_of cell ++ values_of olds)) (placed_lines m (changes n olds cells)) (done ++ (three_of cell ++ values_of cells))) number
    (shifted variables at to done (three_of cell) (values_of olds) (values_of cells) (placed_lines m (changes (3 * suc k) olds cells))
    (changes_go m variables at to (done ++ three_of cell) (suc k) olds cells (done_more done cell k e) (omega arith) h early (omega arith) few all.1)))

-- where nothing differs all is the same
same_bit : (a b : Bool) → bit_differs a b ≡ false → a ≡ b
same_bit true true h = refl
same_bit false false h = refl
same_bit true false h = absurd (let e : true ≡ false = h in cc)
same_bit false true h = absurd (let e : true ≡ false = h in cc)

same_cell : (old new : Shown) → differs old new ≡ false → old ≡ new
same_cell old new h =
    let first = or_parts (bit_differs old.valid new.valid) (bit_differs old.stop new.stop || not (old.token == new.token)) h in
    let second = or_parts (bit_differs old.stop new.stop) (not (old.token == new.token)) first.1 in
    let valid = same_bit old.valid new.valid first.0 in
    let stop = same_bit old.stop new.stop second.0 in
    let token = eqb-true old.token new.token (not_false (old.token == new.token) second.1) in
    made valid stop token
  where
    made : old.valid ≡ new.valid → old.stop ≡ new.stop → old.token ≡ new.token → old ≡ new
    made a b c =
        let first : old ≡ record old { valid = new.valid } = ap (λ (v : Bool). record old { valid = v }) a in
        let second : record old { valid = new.valid } ≡ record new { token = old.token } = ap (λ (s : Bool). record old { valid = new.valid; stop = s }) b in
        let third : record new { token = old.token } ≡ new = ap (λ (t : ℕ). record new { token = t }) c in
        first ∙ second ∙ third

same_cells : (olds news : List Shown) → length olds ≡ length news → any_differs olds news ≡ false → news ≡ olds
same_cells [] [] e h = refl
same_cells (old ∷ olds) [] e h = absurd (omega arith)
same_cells [] (new ∷ news) e h = absurd (omega arith)
same_cells (old ∷ olds) (new ∷ news) e h =
    let parts = or_parts (differs old new) (any_differs olds news) h in
    ap (λ (c : Shown). c ∷ news) (sym (same_cell old new parts.0)) ∙ ap (λ (cs : List Shown). old ∷ cs) (same_cells olds news (omega arith) parts.1)

cycles_more : (n : ℕ) (values : List ℕ) → cycles_of (suc n) values ≡ cycles_of n values ++ shown_stations values
cycles_more zero values = append-nil (shown_stations values)
cycles_more (suc n) values = ap (λ (cells : List Shown). shown_stations values ++ cells) (cycles_more n values) ∙ sym (append_assoc (shown_stations values) (cycles_of n values) (shown_stations values))

-- the rest of a body: it ends at a time, and these cells are shown
pub record Ends (variables : ℕ) (next : Next) (values : List ℕ) (words : List (ℕ × List ℕ)) (last : ℕ) (cells : List Shown) : Type 0 where
  pub after : List ℕ
  pub goes : Goes (new_place variables next) values words (new_place variables (Time last)) after cells

-- one cycle, at the next time
abbrev after_one : ℕ → List Shown → List Shown → List Shown
after_one k row rest = cycles_of (k + 1 - k) (values_of row) ++ rest

one_more : (k : ℕ) (row rest : List Shown) → AllByRecursion IsCell row → after_one k row rest ≡ row ++ rest
one_more k row rest all =
    let one : k + 1 - k ≡ 1 = omega arith in
    ap (λ (n : ℕ). cycles_of n (values_of row) ++ rest) one ∙ ap (λ (cells : List Shown). cells ++ rest) (append-nil (shown_stations (values_of row)) ∙ values_shown row all)

-- a cycle in which something changed
changed : (line variables at k last : ℕ) (next : Next) (before row rest : List Shown) (lines : List Words) → AtTime variables at next → at < k → k < 4294967295 → length before ≡ length row → 3 * length row ≤ variables → variables ≤ 196608 → AllByRecursion IsCell row →
    ((to : Next) (n : ℕ) → AtTime variables k to → Ends variables to (values_of row) (placed_lines n lines) last (after_one k row rest)) →
    Ends variables next (values_of before) (placed_lines line ((time_words k ∷ changes 0 before row) ++ lines)) last (cycles_of (k - at) (values_of before) ++ (row ++ rest))
changed line variables at k last next before row rest lines here after early long below few all more =
    let v = values_of before in
    let w = values_of row in
    let set = changes_go (line + 1) variables k (Time k) [] 0 before row refl long (at_time variables k) early (omega arith) few all in
    let over = more set.to (line + 1 + length (changes 0 before row)) set.here in
    let none : List Shown = [] in
    let later : Goes (new_place variables (Time k)) v (placed_lines (line + 1) (changes 0 before row ++ lines)) (new_place variables (Time last)) over.after (after_one k row rest) =
    subst (λ (ws : List (ℕ × List ℕ)). Goes (new_place variables (Time k)) v ws (new_place variables (Time last)) over.after (after_one k row rest)) (sym (placed_append (line + 1) (changes 0 before row) lines))
    (then_goes (new_place variables (Time k)) (new_place variables set.to) (new_place variables (Time last)) v w over.after (placed_lines (line + 1) (changes 0 before row)) (placed_lines (line + 1 + length (changes 0 before row)) lines) none (after_one k row rest) set.goes over.goes) in
    record {
      after = over.after;
      goes = subst (λ (cells : List Shown). Goes (new_place variables next) v (placed_lines line ((time_words k ∷ changes 0 before row) ++ lines)) (new_place variables (Time last)) over.after (cycles_of (k - at) v ++ cells)) (one_more k row rest all)
          (then_goes (new_place variables next) (new_place variables (Time k)) (new_place variables (Time last)) v v over.after (map (on_line line) (time_words k)) (placed_lines (line + 1) (changes 0 before row ++ lines)) (cycles_of (k - at) v) (after_one k row rest)
          (time_read line variables at k next v here after (omega arith)) later);
    }

-- a cycle in which nothing changed
unchanged : (variables at k last : ℕ) (next : Next) (before row rest : List Shown) (words : List (ℕ × List ℕ)) → at < k → row ≡ before → AllByRecursion IsCell before →
    Ends variables next (values_of before) words last (cycles_of (k + 1 - at) (values_of before) ++ rest) → Ends variables next (values_of before) words last (cycles_of (k - at) (values_of before) ++ (row ++ rest))
unchanged variables at k last next before row rest words after same all so =
    let v = values_of before in
    let more : k + 1 - at ≡ suc (k - at) = omega arith in
    subst (Ends variables next v words last)
    (ap (λ (n : ℕ). cycles_of n v ++ rest) more ∙ ap (λ (cells : List Shown). cells ++ rest) (cycles_more (k - at) v) ∙ append_assoc (cycles_of (k - at) v) (shown_stations v) rest
    ∙ ap (λ (cells : List Shown). cycles_of (k - at) v ++ (cells ++ rest)) (values_shown before all ∙ sym same)) so

-- a cycle, and those after it
next_cycle : (line stations variables at k left : ℕ) (next : Next) (before row rest cells : List Shown) (b : Bool) → any_differs before row ≡ b → AtTime variables at next → at < k → k + suc left < 4294967295 → length before ≡ length row → 3 * length row ≤ variables → variables ≤ 196608 →
    AllByRecursion IsCell before → AllByRecursion IsCell row → row ++ rest ≡ cells →
    ((to : Next) (n : ℕ) → AtTime variables k to → Ends variables to (values_of row) (placed_lines n (later_lines stations (k + 1) left row rest)) (k + 1 + left) (after_one k row rest)) →
    (Ends variables next (values_of before) (placed_lines line (later_lines stations (k + 1) left before rest)) (k + 1 + left) (cycles_of (k + 1 - at) (values_of before) ++ rest)) →
    Ends variables next (values_of before) (placed_lines line (cond b (time_words k ∷ changes 0 before row) [] ++ later_lines stations (k + 1) left row rest)) (k + suc left) (cycles_of (k - at) (values_of before) ++ cells)
next_cycle line stations variables at k left next before row rest cells true h here after early long below few all each whole differ same =
    let lines = later_lines stations (k + 1) left row rest in
    let sum : k + 1 + left ≡ k + suc left = omega arith in
    subst (λ (t : ℕ). Ends variables next (values_of before) (placed_lines line ((time_words k ∷ changes 0 before row) ++ lines)) t (cycles_of (k - at) (values_of before) ++ cells)) sum
    (subst (λ (c : List Shown). Ends variables next (values_of before) (placed_lines line ((time_words k ∷ changes 0 before row) ++ lines)) (k + 1 + left) (cycles_of (k - at) (values_of before) ++ c)) whole
    (changed line variables at k (k + 1 + left) next before row rest lines here after (omega arith) long below few each differ))
next_cycle line stations variables at k left next before row rest cells false h here after early long below few all each whole differ same =
    let lines = later_lines stations (k + 1) left row rest in
    let sum : k + 1 + left ≡ k + suc left = omega arith in
    let equal : row ≡ before = same_cells before row long h in
    subst (λ (t : ℕ). Ends variables next (values_of before) (placed_lines line lines) t (cycles_of (k - at) (values_of before) ++ cells)) sum
    (subst (λ (c : List Shown). Ends variables next (values_of before) (placed_lines line lines) (k + 1 + left) (cycles_of (k - at) (values_of before) ++ c)) whole
    (unchanged variables at k (k + 1 + left) next before row rest (placed_lines line lines) after equal all
    (subst (λ (b : List Shown). Ends variables next (values_of before) (placed_lines line (later_lines stations (k + 1) left b rest)) (k + 1 + left) (cycles_of (k + 1 - at) (values_of before) ++ rest)) (sym equal) same)))

-- the first row of cells is one of all stations, and the rows after it are one fewer
pub first_row : (stations left : ℕ) (cells : List Shown) → length cells ≡ stations * suc left → (length (take stations cells) ≡ stations) × (length (drop stations cells) ≡ stations * left)
first_row stations left cells long =
    let product = mul-suc stations left in
    let enough : stations ≤ length cells = omega arith in
    let across : length (take stations cells) ≡ stations = length-take-le stations cells enough in
    let dropped = length-drop stations cells in
    let longer : length (drop stations cells) ≡ stations * left = omega arith in
    (across, longer)

pub later_goes : (line stations variables at k left : ℕ) (next : Next) (before cells : List Shown) → AtTime variables at next → at < k → k + left < 4294967295 → length before ≡ stations → length cells ≡ stations * left → 3 * stations ≤ variables → variables ≤ 196608 →
    AllByRecursion IsCell before → AllByRecursion IsCell cells → Ends variables next (values_of before) (placed_lines line (later_lines stations k left before cells)) (k + left) (cycles_of (k - at) (values_of before) ++ cells)
later_goes line stations variables at k zero next before [] here after early wide long below few all each =
    let v = values_of before in
    let same : k ≡ k + 0 = omega arith in
    record {
      after = v;
      goes = subst (λ (t : ℕ). Goes (new_place variables next) v (placed_lines line (time_words k ∷ [])) (new_place variables (Time t)) v (cycles_of (k - at) v ++ [])) same
          (subst (λ (c : List Shown). Goes (new_place variables next) v (placed_lines line (time_words k ∷ [])) (new_place variables (Time k)) v c) (sym (append-nil (cycles_of (k - at) v)))
          (time_read line variables at k next v here after (omega arith)));
    }
later_goes line stations variables at k zero next before (cell ∷ cells) here after early wide long below few all each = absurd (omega arith)
later_goes line stations variables at k (suc left) next before cells here after early wide long below few all each =
    let row = take stations cells in
    let rest = drop stations cells in
    let (across, longer) = first_row stations left cells long in
    let room : 3 * length row ≤ variables = omega arith in
    next_cycle line stations variables at k left next before row rest cells (any_differs before row) refl here after early (wide ∙ sym across) room few all (all_take IsCell stations cells each) (take-append-drop stations cells)
    (λ to n h. later_goes n stations variables k (k + 1) left to row rest h (omega arith) (omega arith) across longer below few (all_take IsCell stations cells each) (all_drop IsCell stations cells each))
    (later_goes line stations variables at (k + 1) left next before rest here (omega arith) (omega arith) wide longer below few all (all_drop IsCell stations cells each))
