-- Lists of rows and of cells, cycle by cycle.
use Rattle.std.proofs.Common.{◌≡◌, ℕ, zero, suc, ◌+◌, ◌-◌, ◌*◌, ◌<◌, ◌≤◌, Bool, List, [], ◌∷◌, ◌++◌, length, length-append, Option, None, Some, min, refl, sym, ◌∙◌, ap, append_assoc, append-nil, add-one, arith}
use Rattle.std.specs.List.{flat_map}
use Rattle.std.proofs.lemmas.Grind.{flat_map-append}
use Rattle.std.proofs.lemmas.Option.{same_Some}
use Rattle.lid_base.specs.declared.runs.Shown.{Shown}
use Rattle.lid_base.specs.Each.{from_each}
use Rattle.lid_stations.specs.Placements.{station_count}
use Rattle.lid_base_lines.specs.Texts.{line_text}
use Rattle.lid_texts.specs.Rows.{header_words}
use Rattle.lid_texts.specs.RowsText.{row_text, rows_text}
use Rattle.lid_clock.specs.Lives.{Life}
use Rattle.lid_top_clock.specs.RunTexts.{life_cells, cells_after, cycles_traced}
use Rattle.lid_base.proofs.Each.{each_append, each_length, each_one_more}

-- all of them, and the first ones
each_split : {A : Type 0} (f : ℕ → A) (n all : ℕ) → n ≤ all → from_each f 0 all ≡ from_each f 0 n ++ from_each f (0 + n) (all - n)
each_split f n all h = (let e : all ≡ n + (all - n) = omega arith in ap (from_each f 0) e) ∙ each_append f 0 n (all - n)

-- rows after others
rows_after : (columns : List (List ℕ)) (xs ys : List (List Bool)) → rows_text columns (xs ++ ys) ≡ rows_text columns xs ++ flat_map (row_text columns) ys
unfolding rows_text
rows_after columns xs ys =
    ap (λ (t : List ℕ). line_text (header_words columns) ++ t) (flat_map-append (row_text columns) xs ys)
    ∙ sym (append_assoc (line_text (header_words columns)) (flat_map (row_text columns) xs) (flat_map (row_text columns) ys))

-- a text without rows is its header line
pub header_alone : (columns : List (List ℕ)) → rows_text columns [] ≡ line_text (header_words columns)
unfolding rows_text
header_alone columns = append-nil (line_text (header_words columns))

-- the text of one more row
pub rows_one_more : (columns : List (List ℕ)) (f : ℕ → List Bool) (n : ℕ) → rows_text columns (from_each f 0 n) ++ row_text columns (f n) ≡ rows_text columns (from_each f 0 (n + 1))
rows_one_more columns f n =
    ap (λ (t : List ℕ). rows_text columns (from_each f 0 n) ++ t) (sym (append-nil (row_text columns (f n))))
    ∙ sym (rows_after columns (from_each f 0 n) (f n ∷ []))
    ∙ ap (rows_text columns) (sym (each_one_more f n))

-- the text of the first rows is the first part of that of all
pub rows_first : (columns : List (List ℕ)) (f : ℕ → List Bool) (n all : ℕ) → n ≤ all → rows_text columns (from_each f 0 all) ≡ rows_text columns (from_each f 0 n) ++ flat_map (row_text columns) (from_each f (0 + n) (all - n))
rows_first columns f n all h = ap (rows_text columns) (each_split f n all h) ∙ rows_after columns (from_each f 0 n) (from_each f (0 + n) (all - n))

-- the cells of one more cycle
pub cells_one_more : (l : Life) (k : ℕ) → cells_after l (k + 1) ≡ cells_after l k ++ life_cells l k
cells_one_more l k =
    ap (flat_map (life_cells l)) (each_one_more (λ j. j) k)
    ∙ flat_map-append (life_cells l) (from_each (λ j. j) 0 k) (k ∷ [])
    ∙ ap (λ (xs : List Shown). cells_after l k ++ xs) (append-nil (life_cells l k))

-- each cycle has a cell for each station
pub cells_long : (l : Life) (k : ℕ) → length (cells_after l k) ≡ station_count l.setup.placement.relays * k
cells_long l zero = (let none : station_count l.setup.placement.relays * 0 ≡ 0 = omega arith in sym none)
cells_long l (suc k) =
    let n = station_count l.setup.placement.relays in
    let more : n * suc k ≡ n * k + n = mul_suc n k in
    ap (λ (j : ℕ). length (cells_after l j)) (sym (add-one k))
    ∙ ap length (cells_one_more l k)
    ∙ length-append (cells_after l k) (life_cells l k)
    ∙ (let before = cells_long l k in let here : length (life_cells l k) ≡ n = each_length _ 0 n in omega arith)
  where
    mul_suc : (a b : ℕ) → a * suc b ≡ a * b + a
    mul_suc a b = grind (arith)

-- the cells of a trace after a further cycle, where this cycle is in it and where it is not
pub shown_in : (l : Life) (trace : Option ℕ) (most made : ℕ) (old new : List Shown) → trace ≡ Some most → made < most → old ≡ cells_after l (cycles_traced trace made) → new ≡ old ++ life_cells l made → new ≡ cells_after l (cycles_traced trace (made + 1))
shown_in l None most made old new is h was now = absurd (let e : None ≡ Some most = is in cc)
shown_in l (Some n) most made old new is h was now =
    let same : n ≡ most = same_Some n most is in
    let before : min n made ≡ made = omega arith in
    let after : min n (made + 1) ≡ made + 1 = omega arith in
    now ∙ ap (λ (xs : List Shown). xs ++ life_cells l made) (was ∙ ap (cells_after l) before) ∙ sym (cells_one_more l made) ∙ ap (cells_after l) (sym after)

-- the cells of a trace, and its text
pub cells_traced : (l : Life) (trace : Option ℕ) (most made : ℕ) (cells : List Shown) → trace ≡ Some most → cells ≡ cells_after l (cycles_traced trace made) → cells ≡ cells_after l (min made most)
cells_traced l None most made cells is was = absurd (let e : None ≡ Some most = is in cc)
cells_traced l (Some n) most made cells is was =
    let same : n ≡ most = same_Some n most is in
    was ∙ ap (cells_after l) (let e : min n made ≡ min made most = omega arith in e)

-- before the first cycle there are no cells
pub cells_none : (l : Life) (trace : Option ℕ) → cells_after l (cycles_traced trace 0) ≡ []
cells_none l None = refl
cells_none l (Some most) = ap (cells_after l) (let e : min most 0 ≡ 0 = omega arith in e)
