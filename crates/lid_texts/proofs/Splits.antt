-- Texts that are cut at newlines, and physical lines that are joined, as they grow at their end.
use Rattle.std.proofs.Common.{◌≡◌, ℕ, suc, ◌+◌, ◌-◌, ◌<◌, ◌≤◌, ◌==◌, ◌||◌, Bool, true, false, cond, if◌then◌else◌, List, [], ◌∷◌, ◌++◌, length, map, take, filter, refl, sym, ap, ◌∙◌, append_assoc, length-append, zero-add, subst, arith}
use Rattle.std.specs.List.{AllByRecursion, enumerate_from, slice_split, onto_first, flat_map, list_any}
use Rattle.std.proofs.lemmas.List.{append-nil, map-append}
use Rattle.std.proofs.lemmas.List.Elements.{filter-append}
use Rattle.std.proofs.lemmas.List.Folds.{list_any-append}
use Rattle.std.proofs.lemmas.List.Splits.{length-slice_split}
use Rattle.std.proofs.lemmas.List.Sums.{count_by-le-length}
use Rattle.std.proofs.lemmas.Grind.{flat_map-append, common_steps}
use Rattle.std.proofs.Math.Bool.{or-false}
use Rattle.std.proofs.Math.Seq.{take-append_seam}
use Rattle.lid_base.specs.Lines.{is_newline, joins_of, goes_on, onto_first_join, words_of, has_bad_byte}
use Rattle.lid_base.specs.Lists.{Extends}
use Rattle.lid_texts.specs.Rows.{RowsLine, rows_line, has_words}
use Rattle.lid_texts.specs.Scans.{ended_lines, LineJoins, before_joins, split_joins, logical_of}
use Rattle.lid_texts.specs.RowsWalk.{joined_lines, alone, no_line, begun_of, with_last}

-- a first part that goes on with the first of others
abbrev pub onto_part : {A : Type 0} → List A → List (List A) → List (List A)
onto_part p [] = p ∷ []
onto_part p (q ∷ qs) = (p ++ q) ∷ qs

-- parts, the last of which goes on with the first of others
abbrev glued : {A : Type 0} → List (List A) → List (List A) → List (List A)
glued [] qs = qs
glued (p ∷ []) qs = onto_part p qs
glued (p ∷ r ∷ ps) qs = p ∷ glued (r ∷ ps) qs

glued_cons : {A : Type 0} (p : List A) (ps qs : List (List A)) → 0 < length ps → glued (p ∷ ps) qs ≡ p ∷ glued ps qs
glued_cons p [] qs h = absurd (omega arith)
glued_cons p (r ∷ ps) qs h = refl

glued_first : {A : Type 0} (x : A) (ps qs : List (List A)) → 0 < length ps → onto_first x (glued ps qs) ≡ glued (onto_first x ps) qs
glued_first x [] qs h = absurd (omega arith)
glued_first x (p ∷ []) [] h = refl
glued_first x (p ∷ []) (q ∷ qs) h = refl
glued_first x (p ∷ r ∷ ps) qs h = refl

glued_end : {A : Type 0} (ps : List (List A)) (p : List A) (qs : List (List A)) → glued (ps ++ p ∷ []) qs ≡ ps ++ onto_part p qs
glued_end [] p qs = refl
glued_end (r ∷ ps) p qs =
    let some : 0 < length (ps ++ p ∷ []) = simp length-append (omega arith) in
    glued_cons r (ps ++ p ∷ []) qs some ∙ ap (λ rs. r ∷ rs) (glued_end ps p qs)

pub onto_nothing : {A : Type 0} (qs : List (List A)) → 0 < length qs → onto_part [] qs ≡ qs
onto_nothing [] h = absurd (omega arith)
onto_nothing (q ∷ qs) h = refl

-- the parts of two lists, one after the other
split_append : {A : Type 0} (t : A → Bool) (xs ys : List A) → slice_split t (xs ++ ys) ≡ glued (slice_split t xs) (slice_split t ys)
split_append t [] ys = sym (onto_nothing (slice_split t ys) (let e = length-slice_split t ys in omega arith))
split_append {A} t (x ∷ xs) ys = by (t x) (let e = length-slice_split t xs in omega arith) (split_append t xs ys)
  where
    by : (b : Bool) → 0 < length (slice_split t xs) → slice_split t (xs ++ ys) ≡ glued (slice_split t xs) (slice_split t ys) →
        cond b ([] ∷ slice_split t (xs ++ ys)) (onto_first x (slice_split t (xs ++ ys))) ≡ glued (cond b ([] ∷ slice_split t xs) (onto_first x (slice_split t xs))) (slice_split t ys)
    by true some e = ap (λ (ps : List (List A)). [] ∷ ps) e ∙ sym (glued_cons [] (slice_split t xs) (slice_split t ys) some)
    by false some e = ap (onto_first x) e ∙ glued_first x (slice_split t xs) (slice_split t ys) some

pub split_more : (xs ys : List ℕ) (ps : List (List ℕ)) (p : List ℕ) → slice_split is_newline xs ≡ ps ++ p ∷ [] → slice_split is_newline (xs ++ ys) ≡ ps ++ onto_part p (slice_split is_newline ys)
split_more xs ys ps p e =
    split_append is_newline xs ys
    ∙ ap (λ (qs : List (List ℕ)). glued qs (slice_split is_newline ys)) e
    ∙ glued_end ps p (slice_split is_newline ys)

-- all parts but the last
front_of : {A : Type 0} (ps : List A) (p : A) → take (length (ps ++ p ∷ []) - 1) (ps ++ p ∷ []) ≡ ps
front_of {A} ps p =
    let long : length (ps ++ p ∷ []) - 1 ≡ length ps = simp length-append (omega arith) in
    ap (λ (n : ℕ). take n (ps ++ p ∷ [])) long ∙ take-append_seam ps (p ∷ [])

pub ended_are : (bytes : List ℕ) (ps : List (List ℕ)) (p : List ℕ) → slice_split is_newline bytes ≡ ps ++ p ∷ [] → ended_lines bytes ≡ ps
unfolding ended_lines
ended_are bytes ps p e = ap (λ (qs : List (List ℕ)). take (length qs - 1) qs) e ∙ front_of ps p

pub record LastPart {A : Type 0} (parts : List A) : Type 0 where
  pub front : List A
  pub last : A
  pub is : parts ≡ front ++ last ∷ []

pub last_part : {A : Type 0} (parts : List A) → 0 < length parts → LastPart parts
last_part [] h = absurd (omega arith)
last_part (p ∷ []) h = record { front = []; last = p; is = refl }
last_part {A} (p ∷ q ∷ parts) h =
    let later = last_part (q ∷ parts) (omega arith) in
    record { front = p ∷ later.front; last = later.last; is = ap (λ (ps : List A). p ∷ ps) later.is }

pub some_parts : (bytes : List ℕ) → 0 < length (slice_split is_newline bytes)
some_parts bytes = let e = length-slice_split is_newline bytes in omega arith

-- there are at most as many lines as bytes
pub few_ended : (bytes : List ℕ) → length (ended_lines bytes) ≤ length bytes
few_ended bytes =
    let own = last_part (slice_split is_newline bytes) (some_parts bytes) in
    let long : length (slice_split is_newline bytes) ≡ length own.front + 1 = ap length own.is ∙ length-append own.front (own.last ∷ []) in
    let parts = length-slice_split is_newline bytes in
    let most = count_by-le-length is_newline bytes in
    subst (λ (ls : List (List ℕ)). length ls ≤ length bytes) (sym (ended_are bytes own.front own.last own.is)) (omega arith)

-- the lines that have ended are some of the first, where more bytes come
pub ended_more : (xs ys : List ℕ) → Extends (ended_lines xs) (ended_lines (xs ++ ys))
ended_more xs ys =
    let own = last_part (slice_split is_newline xs) (some_parts xs) in
    let all = split_more xs ys own.front own.last own.is in
    let some : 0 < length (onto_part own.last (slice_split is_newline ys)) = onto_some own.last (slice_split is_newline ys) in
    let more = last_part (onto_part own.last (slice_split is_newline ys)) some in
    let whole : slice_split is_newline (xs ++ ys) ≡ (own.front ++ more.front) ++ more.last ∷ [] = all ∙ ap (λ (ps : List (List ℕ)). own.front ++ ps) more.is ∙ sym (append_assoc own.front more.front (more.last ∷ [])) in
    (more.front, ended_are (xs ++ ys) (own.front ++ more.front) more.last whole ∙ ap (λ (ps : List (List ℕ)). ps ++ more.front) (sym (ended_are xs own.front own.last own.is)))
  where
    onto_some : (p : List ℕ) (qs : List (List ℕ)) → 0 < length (onto_part p qs)
    onto_some p [] = omega arith
    onto_some p (q ∷ qs) = omega arith

-- joins, with a last line
pub joins_last : (ps : List (ℕ × List ℕ)) (p : ℕ × List ℕ) → joins_of (ps ++ p ∷ []) ≡ (split_joins ps).done ++ ((split_joins ps).begun ++ p ∷ []) ∷ []
joins_last [] p = by (goes_on p.1)
  where
    by : (b : Bool) → cond b (onto_first_join p []) ((p ∷ []) ∷ []) ≡ (p ∷ []) ∷ []
    by true = refl
    by false = refl
joins_last (q ∷ ps) p = by (goes_on q.1) (joins_last ps p)
  where
    onto : (done : List (List (ℕ × List ℕ))) (begun : List (ℕ × List ℕ)) → onto_first_join q (done ++ (begun ++ p ∷ []) ∷ []) ≡ (before_joins q done begun).done ++ ((before_joins q done begun).begun ++ p ∷ []) ∷ []
    onto [] begun = refl
    onto (join ∷ joins) begun = refl

    by : (b : Bool) → joins_of (ps ++ p ∷ []) ≡ (split_joins ps).done ++ ((split_joins ps).begun ++ p ∷ []) ∷ [] →
        cond b (onto_first_join q (joins_of (ps ++ p ∷ []))) ((q ∷ []) ∷ joins_of (ps ++ p ∷ []))
        ≡ (cond b (before_joins q (split_joins ps).done (split_joins ps).begun) (record { done = (q ∷ []) ∷ (split_joins ps).done; begun = (split_joins ps).begun })).done
        ++ ((cond b (before_joins q (split_joins ps).done (split_joins ps).begun) (record { done = (q ∷ []) ∷ (split_joins ps).done; begun = (split_joins ps).begun })).begun ++ p ∷ []) ∷ []
    by true e = ap (onto_first_join q) e ∙ onto (split_joins ps).done (split_joins ps).begun
    by false e = ap (λ (js : List (List (ℕ × List ℕ))). (q ∷ []) ∷ js) e

-- joins that have ended and the open one, after one more line
abbrev grown : Bool → ℕ × List ℕ → List (List (ℕ × List ℕ)) → List (ℕ × List ℕ) → LineJoins
grown b p done begun = if b then record { done = done; begun = begun ++ p ∷ [] } else record { done = done ++ (begun ++ p ∷ []) ∷ []; begun = [] }

abbrev stepped : Bool → ℕ × List ℕ → LineJoins → LineJoins
stepped b q joins = if b then before_joins q joins.done joins.begun else record { done = (q ∷ []) ∷ joins.done; begun = joins.begun }

stepped_grown : (b c : Bool) (q p : ℕ × List ℕ) (done : List (List (ℕ × List ℕ))) (begun : List (ℕ × List ℕ)) →
    stepped b q (grown c p done begun) ≡ grown c p (stepped b q (record { done = done; begun = begun })).done (stepped b q (record { done = done; begun = begun })).begun
stepped_grown true true q p [] begun = refl
stepped_grown true true q p (join ∷ joins) begun = refl
stepped_grown true false q p [] begun = refl
stepped_grown true false q p (join ∷ joins) begun = refl
stepped_grown false true q p done begun = refl
stepped_grown false false q p done begun = refl

split_last : (ps : List (ℕ × List ℕ)) (p : ℕ × List ℕ) → split_joins (ps ++ p ∷ []) ≡ grown (goes_on p.1) p (split_joins ps).done (split_joins ps).begun
split_last [] p = by (goes_on p.1)
  where
    by : (b : Bool) → stepped b p (record { done = []; begun = [] }) ≡ grown b p [] []
    by true = refl
    by false = refl
split_last (q ∷ ps) p =
    ap (stepped (goes_on q.1) q) (split_last ps p) ∙ stepped_grown (goes_on q.1) (goes_on p.1) q p (split_joins ps).done (split_joins ps).begun

pub enumerate_append : {A : Type 0} (n : ℕ) (xs ys : List A) → enumerate_from n (xs ++ ys) ≡ enumerate_from n xs ++ enumerate_from (length xs + n) ys
enumerate_append n [] ys = ap (λ (k : ℕ). enumerate_from k ys) (sym (zero-add n))
enumerate_append {A} n (x ∷ xs) ys =
    let number : length xs + (n + 1) ≡ suc (length xs) + n = omega arith in
    ap (λ (ps : List (ℕ × A)). (n, x) ∷ ps) (enumerate_append (n + 1) xs ys ∙ ap (λ (k : ℕ). enumerate_from (n + 1) xs ++ enumerate_from k ys) number)

enumerate_last : {A : Type 0} (n : ℕ) (xs : List A) (x : A) → enumerate_from n (xs ++ x ∷ []) ≡ enumerate_from n xs ++ (length xs + n, x) ∷ []
enumerate_last n xs x = enumerate_append n xs (x ∷ [])

-- the numbers of lines lie in a range
abbrev Within : ℕ → ℕ × List ℕ → Type 0
Within most p = (0 < p.0) × (p.0 ≤ most)

enumerate_within : (n most : ℕ) (lines : List (List ℕ)) → 0 < n → length lines + n ≤ most + 1 → AllByRecursion (Within most) (enumerate_from n lines)
enumerate_within n most [] some few = tt
enumerate_within n most (line ∷ lines) some few = ((some, omega arith), enumerate_within (n + 1) most lines (omega arith) (omega arith))

open_within : (most : ℕ) (ps : List (ℕ × List ℕ)) → AllByRecursion (Within most) ps → AllByRecursion (Within most) (split_joins ps).begun
open_within most [] all = tt
open_within most (p ∷ ps) all = by (goes_on p.1) (split_joins ps).done (split_joins ps).begun all.0 (open_within most ps all.1)
  where
    by : (b : Bool) (done : List (List (ℕ × List ℕ))) (begun : List (ℕ × List ℕ)) → Within most p → AllByRecursion (Within most) begun →
        AllByRecursion (Within most) (stepped b p (record { done = done; begun = begun })).begun
    by true [] begun own later = (own, later)
    by true (join ∷ joins) begun own later = later
    by false done begun own later = later

same_line : (n m : ℕ) (v w : List (List ℕ)) (a b : Bool) → n ≡ m → v ≡ w → a ≡ b →
    ◌≡◌ {A = RowsLine} (record { number = n; words = v; bad = a }) (record { number = m; words = w; bad = b })
same_line n m v w a b p q r = cc

not_zero : (n : ℕ) → 0 < n → (n == 0) ≡ false
not_zero n h = grind (arith, common_steps)

-- the logical line of a join that goes on
line_more : (most : ℕ) (begun : List (ℕ × List ℕ)) (p : ℕ × List ℕ) → AllByRecursion (Within most) begun → rows_line (begun ++ p ∷ []) ≡ joined_lines (rows_line begun) (alone p.0 p.1)
line_more most [] p all = same_line _ _ _ _ _ _ refl (append-nil (words_of p.1)) (or-false (has_bad_byte p.1))
line_more most (q ∷ begun) p all =
    let number : q.0 ≡ cond (q.0 == 0) p.0 q.0 = rw (not_zero q.0 all.0.0) refl in
    let words = flat_map-append (λ (r : ℕ × List ℕ). words_of r.1) (q ∷ begun) (p ∷ []) ∙ ap (λ (ws : List (List ℕ)). flat_map (λ (r : ℕ × List ℕ). words_of r.1) (q ∷ begun) ++ ws) (append-nil (words_of p.1)) in
    let bad = list_any-append (λ (r : ℕ × List ℕ). has_bad_byte r.1) (q ∷ begun) (p ∷ []) ∙ ap (λ (b : Bool). list_any (λ (r : ℕ × List ℕ). has_bad_byte r.1) (q ∷ begun) || b) (or-false (has_bad_byte p.1)) in
    same_line _ _ _ _ _ _ number words bad

begun_within : (lines : List (List ℕ)) → AllByRecursion (Within (length lines)) (split_joins (enumerate_from 1 lines)).begun
begun_within lines = open_within (length lines) (enumerate_from 1 lines) (enumerate_within 1 (length lines) lines (omega arith) (omega arith))

-- the line with which physical lines end
last_line : (lines : List (List ℕ)) (line : List ℕ) → rows_line ((split_joins (enumerate_from 1 lines)).begun ++ (length lines + 1, line) ∷ []) ≡ joined_lines (begun_of lines) (alone (length lines + 1) line)
last_line lines line = line_more (length lines) (split_joins (enumerate_from 1 lines)).begun (length lines + 1, line) (begun_within lines)

pub last_number : (lines : List (List ℕ)) (line : List ℕ) → (joined_lines (begun_of lines) (alone (length lines + 1) line)).number ≤ length lines + 1
last_number lines line = by (split_joins (enumerate_from 1 lines)).begun (begun_within lines)
  where
    by : (begun : List (ℕ × List ℕ)) → AllByRecursion (Within (length lines)) begun → (joined_lines (rows_line begun) (alone (length lines + 1) line)).number ≤ length lines + 1
    by [] all = omega arith
    by (q ∷ begun) all =
        let number : q.0 ≡ cond (q.0 == 0) (length lines + 1) q.0 = rw (not_zero q.0 all.0.0) refl in
        let most = all.0.1 in
        subst (λ (n : ℕ). n ≤ length lines + 1) number (omega arith)

-- a line after the logical lines of some joins
ended : (lines : List (List ℕ)) (line : List ℕ) (done : List (List (ℕ × List ℕ))) (begun : List (ℕ × List ℕ)) →
    rows_line (begun ++ (length lines + 1, line) ∷ []) ≡ joined_lines (begun_of lines) (alone (length lines + 1) line) →
    filter has_words (map rows_line (done ++ (begun ++ (length lines + 1, line) ∷ []) ∷ []))
    ≡ filter has_words (map rows_line done) ++ filter has_words (joined_lines (begun_of lines) (alone (length lines + 1) line) ∷ [])
ended lines line done begun e =
    ap (filter has_words) (map-append rows_line done ((begun ++ (length lines + 1, line) ∷ []) ∷ []))
    ∙ filter-append has_words (map rows_line done) (rows_line (begun ++ (length lines + 1, line) ∷ []) ∷ [])
    ∙ ap (λ (l : RowsLine). filter has_words (map rows_line done) ++ filter has_words (l ∷ [])) e

-- the logical lines, with a last line of which no newline comes
pub whole_last : (lines : List (List ℕ)) (line : List ℕ) → filter has_words (map rows_line (joins_of (enumerate_from 1 (lines ++ line ∷ [])))) ≡ with_last lines line
whole_last lines line =
    let joins = split_joins (enumerate_from 1 lines) in
    ap (λ ps. filter has_words (map rows_line (joins_of ps))) (enumerate_last 1 lines line)
    ∙ ap (λ js. filter has_words (map rows_line js)) (joins_last (enumerate_from 1 lines) (length lines + 1, line))
    ∙ ended lines line joins.done joins.begun (last_line lines line)

-- the logical lines that have ended, and the one that goes on, after one more line
pub logical_ends : (lines : List (List ℕ)) (line : List ℕ) → goes_on line ≡ false → logical_of (lines ++ line ∷ []) ≡ with_last lines line
logical_ends lines line last =
    let joins = split_joins (enumerate_from 1 lines) in
    ap (λ ps. filter has_words (map rows_line (split_joins ps).done)) (enumerate_last 1 lines line)
    ∙ ap (λ (js : LineJoins). filter has_words (map rows_line js.done)) (split_last (enumerate_from 1 lines) (length lines + 1, line))
    ∙ ap (λ (b : Bool). filter has_words (map rows_line (grown b (length lines + 1, line) joins.done joins.begun).done)) last
    ∙ ended lines line joins.done joins.begun (last_line lines line)

pub logical_goes_on : (lines : List (List ℕ)) (line : List ℕ) → goes_on line ≡ true → logical_of (lines ++ line ∷ []) ≡ logical_of lines
logical_goes_on lines line more =
    let joins = split_joins (enumerate_from 1 lines) in
    ap (λ ps. filter has_words (map rows_line (split_joins ps).done)) (enumerate_last 1 lines line)
    ∙ ap (λ (js : LineJoins). filter has_words (map rows_line js.done)) (split_last (enumerate_from 1 lines) (length lines + 1, line))
    ∙ ap (λ (b : Bool). filter has_words (map rows_line (grown b (length lines + 1, line) joins.done joins.begun).done)) more

pub begun_ends : (lines : List (List ℕ)) (line : List ℕ) → goes_on line ≡ false → begun_of (lines ++ line ∷ []) ≡ no_line
begun_ends lines line last =
    let joins = split_joins (enumerate_from 1 lines) in
    ap (λ ps. rows_line (split_joins ps).begun) (enumerate_last 1 lines line)
    ∙ ap (λ (js : LineJoins). rows_line js.begun) (split_last (enumerate_from 1 lines) (length lines + 1, line))
    ∙ ap (λ (b : Bool). rows_line (grown b (length lines + 1, line) joins.done joins.begun).begun) last

pub begun_goes_on : (lines : List (List ℕ)) (line : List ℕ) → goes_on line ≡ true → begun_of (lines ++ line ∷ []) ≡ joined_lines (begun_of lines) (alone (length lines + 1) line)
begun_goes_on lines line more =
    let joins = split_joins (enumerate_from 1 lines) in
    ap (λ ps. rows_line (split_joins ps).begun) (enumerate_last 1 lines line)
    ∙ ap (λ (js : LineJoins). rows_line js.begun) (split_last (enumerate_from 1 lines) (length lines + 1, line))
    ∙ ap (λ (b : Bool). rows_line (grown b (length lines + 1, line) joins.done joins.begun).begun) more
    ∙ last_line lines line

-- more physical lines give more logical lines
pub logical_more : (lines more : List (List ℕ)) → Extends (logical_of lines) (logical_of (lines ++ more))
logical_more lines [] = ([], ap logical_of (append-nil lines) ∙ sym (append-nil (logical_of lines)))
logical_more lines (line ∷ more) =
    let next = logical_more (lines ++ line ∷ []) more in
    let whole : logical_of (lines ++ line ∷ more) ≡ logical_of (lines ++ line ∷ []) ++ next.0 = ap logical_of (sym (append_assoc lines (line ∷ []) more)) ∙ next.1 in
    by (goes_on line) refl next.0 whole
  where
    by : (b : Bool) → goes_on line ≡ b → (later : List RowsLine) → logical_of (lines ++ line ∷ more) ≡ logical_of (lines ++ line ∷ []) ++ later → Extends (logical_of lines) (logical_of (lines ++ line ∷ more))
    by true e later whole = (later, whole ∙ ap (λ (ls : List RowsLine). ls ++ later) (logical_goes_on lines line e))
    by false e later whole =
        let own = filter has_words (joined_lines (begun_of lines) (alone (length lines + 1) line) ∷ []) in
        (own ++ later, whole ∙ ap (λ (ls : List RowsLine). ls ++ later) (logical_ends lines line e) ∙ append_assoc (logical_of lines) own later)
