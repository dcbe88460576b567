-- The cycles of a written dump show its cells.
use Rattle.std.proofs.Common.{◌≡◌, ℕ, ◌+◌, ◌*◌, ◌%◌, ◌^◌, ◌<◌, ◌≤◌, ◌==◌, Bool, true, false, cond, List, [], ◌∷◌, ◌++◌, length, refl, sym, ap, ◌∙◌, subst, length-append, append_assoc, arith}
use Rattle.std.specs.List.{AllByRecursion}
use Rattle.std.proofs.lemmas.Bool.{eqb-true}
use Rattle.lid_base.specs.declared.runs.Shown.{Shown}
use Rattle.lid_base_lines.specs.Texts.{Words}
use Rattle.lid_vcd_form.specs.declared.form.Next.{Next}
use Rattle.lid_vcd_form.specs.declared.form.Next.TheVariants.{Set}
use Rattle.lid_vcd_form.specs.Ids.{is_token}
use Rattle.lid_vcd_form.specs.Form.{new_place}
use Rattle.lid_vcd_form.specs.Shows.{cell_of, shown_stations}
use Rattle.lid_vcd_form.specs.Text.{bit_words, token_words, cell_lines, bit_change, token_change, cell_changes}
use Rattle.lid_vcd_form.specs.Writable.{IsCell}
use Rattle.lid_vcd.proofs.WrittenWords.{placed_lines}
use Rattle.lid_vcd.proofs.Going.{Goes, nothing, then_goes}
use Rattle.lid_vcd.proofs.HeadRead.{placed_append}
use Rattle.lid_vcd.proofs.BodyRead.{AtTime, at_set, bit_value, bit_read, token_read_at}

-- the values of the variables of some stations
abbrev pub values_of : List Shown → List ℕ
values_of [] = []
values_of (cell ∷ cells) = bit_value cell.valid ∷ bit_value cell.stop ∷ cell.token ∷ values_of cells

cell_shown : (valid stop : Bool) (token : ℕ) → (valid ≡ false → token ≡ 0) → cell_of (bit_value valid) (bit_value stop) token ≡ record { valid = valid; stop = stop; token = token }
cell_shown true true token void = refl
cell_shown true false token void = refl
cell_shown false true token void = ap (λ (n : ℕ). cell_of 0 1 n) (void refl) ∙ ap (λ (n : ℕ). record { valid = false; stop = true; token = n }) (sym (void refl))
cell_shown false false token void = ap (λ (n : ℕ). cell_of 0 0 n) (void refl) ∙ ap (λ (n : ℕ). record { valid = false; stop = false; token = n }) (sym (void refl))

pub values_shown : (cells : List Shown) → AllByRecursion IsCell cells → shown_stations (values_of cells) ≡ cells
values_shown [] all = refl
values_shown (cell ∷ cells) all =
    ap (λ (c : Shown). c ∷ shown_stations (values_of cells)) (cell_shown cell.valid cell.stop cell.token all.0.void) ∙ ap (λ (cs : List Shown). cell ∷ cs) (values_shown cells all.1)

-- words after which the dump stands at a time of its body
pub record GoesAt (variables at : ℕ) (next : Next) (values : List ℕ) (words : List (ℕ × List ℕ)) (after : List ℕ) : Type 0 where
  pub to : Next
  pub here : AtTime variables at to
  pub goes : Goes (new_place variables next) values words (new_place variables to) after []

pub stays : (variables at : ℕ) (next : Next) (values : List ℕ) → AtTime variables at next → GoesAt variables at next values [] values
stays variables at next values here = record { to = next; here = here; goes = nothing (new_place variables next) values }

pub at_then : (line variables at : ℕ) (next : Next) (u v w : List ℕ) (xs ys : List Words) → GoesAt variables at next u (placed_lines line xs) v →
    ((to : Next) → AtTime variables at to → (n : ℕ) → GoesAt variables at to v (placed_lines n ys) w) → GoesAt variables at next u (placed_lines line (xs ++ ys)) w
at_then line variables at next u v w xs ys first second =
    let rest = second first.to first.here (line + length xs) in
    let none : List Shown = [] in
    record {
      to = rest.to;
      here = rest.here;
      goes = subst (λ (ws : List (ℕ × List ℕ)). Goes (new_place variables next) u ws (new_place variables rest.to) w []) (sym (placed_append line xs ys))
          (then_goes (new_place variables next) (new_place variables first.to) (new_place variables rest.to) u v w (placed_lines line xs) (placed_lines (line + length xs) ys) none none first.goes rest.goes);
    }

-- what is known of variables
record AreFew (variables at n : ℕ) : Type 0 where
  early : at < 4294967295
  below : n < variables
  small : n < 830584

kind_of : (k d : ℕ) → d < 3 → is_token (3 * k + d) ≡ (d == 2)
kind_of k d small = let e : (3 * k + d) % 3 ≡ d = omega arith in ap (λ (m : ℕ). m == 2) e

bit_goes : (line variables at : ℕ) (next : Next) (done rest : List ℕ) (x : ℕ) (bit : Bool) (n : ℕ) → n ≡ length done → AtTime variables at next → AreFew variables at n → is_token n ≡ false →
    GoesAt variables at next (done ++ x ∷ rest) (placed_lines line (bit_words n bit ∷ [])) (done ++ bit_value bit ∷ rest)
bit_goes line variables at next done rest x bit n e here few kind =
    subst (λ (m : ℕ). AreFew variables at m → is_token m ≡ false → GoesAt variables at next (done ++ x ∷ rest) (placed_lines line (bit_words m bit ∷ [])) (done ++ bit_value bit ∷ rest)) (sym e)
    (λ f k. record {
      to = Set at (length done) (bit_value bit);
      here = at_set variables at (length done) (bit_value bit);
      goes = bit_read line variables at next done rest x bit here f.early f.below f.small k;
    }) few kind

token_goes : (line variables at : ℕ) (next : Next) (done rest : List ℕ) (x token : ℕ) (n : ℕ) → n ≡ length done → AtTime variables at next → AreFew variables at n → is_token n ≡ true → token < 2 ^ 31 →
    GoesAt variables at next (done ++ x ∷ rest) (placed_lines line (token_words n token ∷ [])) (done ++ token ∷ rest)
token_goes line variables at next done rest x token n e here few kind fits =
    subst (λ (m : ℕ). AreFew variables at m → is_token m ≡ true → GoesAt variables at next (done ++ x ∷ rest) (placed_lines line (token_words m token ∷ [])) (done ++ token ∷ rest)) (sym e)
    (λ f k. record {
      to = Set at (length done) token;
      here = at_set variables at (length done) token;
      goes = token_read_at line variables at next done rest x token here f.early f.below f.small k fits;
    }) few kind

-- a bit that changes or not
bit_changes : (line variables at : ℕ) (next : Next) (done rest : List ℕ) (old new : Bool) (n : ℕ) → n ≡ length done → AtTime variables at next → AreFew variables at n → is_token n ≡ false →
    GoesAt variables at next (done ++ bit_value old ∷ rest) (placed_lines line (bit_change n old new)) (done ++ bit_value new ∷ rest)
bit_changes line variables at next done rest true true n e here few kind = stays variables at next (done ++ 1 ∷ rest) here
bit_changes line variables at next done rest false false n e here few kind = stays variables at next (done ++ 0 ∷ rest) here
bit_changes line variables at next done rest true false n e here few kind = bit_goes line variables at next done rest 1 false n e here few kind
bit_changes line variables at next done rest false true n e here few kind = bit_goes line variables at next done rest 0 true n e here few kind

token_changes : (line variables at : ℕ) (next : Next) (done rest : List ℕ) (old new : ℕ) (n : ℕ) → n ≡ length done → AtTime variables at next → AreFew variables at n → is_token n ≡ true → new < 2 ^ 31 →
    GoesAt variables at next (done ++ old ∷ rest) (placed_lines line (token_change n old new)) (done ++ new ∷ rest)
token_changes line variables at next done rest old new n e here few kind fits = by (old == new) refl
  where
    by : (b : Bool) → (old == new) ≡ b → GoesAt variables at next (done ++ old ∷ rest) (placed_lines line (cond b [] (token_words n new ∷ []))) (done ++ new ∷ rest)
    by true h = subst (λ (x : ℕ). GoesAt variables at next (done ++ old ∷ rest) [] (done ++ x ∷ rest)) (eqb-true old new h) (stays variables at next (done ++ old ∷ rest) here)
    by false h = token_goes line variables at next done rest old new n e here few kind fits

-- a station, of which the first variable is the one after those that are done
pub cell_goes : (line variables at : ℕ) (next : Next) (done rest : List ℕ) (x y z k : ℕ) (cell : Shown) → length done ≡ 3 * k → AtTime variables at next → at < 4294967295 → 3 * k + 3 ≤ variables → variables ≤ 196608 → IsCell cell →
    GoesAt variables at next (done ++ x ∷ y ∷ z ∷ rest) (placed_lines line (cell_lines (3 * k) cell)) (done ++ bit_value cell.valid ∷ bit_value cell.stop ∷ cell.token ∷ rest)
cell_goes line variables at next done rest x y z k cell e here early below few so =
    let a = bit_value cell.valid in
    let b = bit_value cell.stop in
    at_then line variables at next (done ++ x ∷ y ∷ z ∷ rest) (done ++ a ∷ y ∷ z ∷ rest) (done ++ a ∷ b ∷ cell.token ∷ rest) (bit_words (3 * k) cell.valid ∷ []) (bit_words (3 * k + 1) cell.stop ∷ token_words (3 * k + 2) cell.token ∷ [])
    (bit_goes line variables at next done (y ∷ z ∷ rest) x cell.valid (3 * k) (sym e) here (record { early = early; below = omega arith; small = omega arith }) (subst (λ (m : ℕ). is_token m ≡ false) (omega arith) (kind_of k 0 (omega arith))))
    (λ to h m. at_then m variables at to (done ++ a ∷ y ∷ z ∷ rest) (done ++ a ∷ b ∷ z ∷ rest) (done ++ a ∷ b ∷ cell.token ∷ rest) (bit_words (3 * k + 1) cell.stop ∷ []) (token_words (3 * k + 2) cell.token ∷ [])
    (second m to h) (λ to' h' m'. third m' to' h'))
  where
    second : (m : ℕ) (to : Next) → AtTime variables at to → GoesAt variables at to (done ++ bit_value cell.valid ∷ y ∷ z ∷ rest) (placed_lines m (bit_words (3 * k + 1) cell.stop ∷ [])) (done ++ bit_value cell.valid ∷ bit_value cell.stop ∷ z ∷ rest)
    second m to h =
        let long = length-append done (bit_value cell.valid ∷ []) in
        let so = bit_goes m variables at to (done ++ bit_value cell.valid ∷ []) (z ∷ rest) y cell.stop (3 * k + 1) (omega arith) h (record { early = early; below = omega arith; small = omega arith }) (kind_of k 1 (omega arith)) in
        subst (λ (after : List ℕ). GoesAt variables at to (done ++ bit_value cell.valid ∷ y ∷ z ∷ rest) (placed_lines m (bit_words (3 * k + 1) cell.stop ∷ [])) after) (append_assoc done (bit_value cell.valid ∷ []) (bit_value cell.stop ∷ z ∷ rest))
        (subst (λ (before : List ℕ). GoesAt variables at to before (placed_lines m (bit_words (3 * k + 1) cell.stop ∷ [])) ((done ++ bit_value cell.valid ∷ []) ++ bit_value cell.stop ∷ z ∷ rest)) (append_assoc done (bit_value cell.valid ∷ []) (y ∷ z ∷ rest)) so)

    third : (m : ℕ) (to : Next) → AtTime variables at to → GoesAt variables at to (done ++ bit_value cell.valid ∷ bit_value cell.stop ∷ z ∷ rest) (placed_lines m (token_words (3 * k + 2) cell.token ∷ [])) (done ++ bit_value cell.valid ∷ bit_value cell.stop ∷ cell.token ∷ rest)
    third m to h =
        let front : List ℕ = bit_value cell.valid ∷ bit_value cell.stop ∷ [] in
        let long = length-append done front in
        let made = token_goes m variables at to (done ++ front) rest z cell.token (3 * k + 2) (omega arith) h (record { early = early; below = omega arith; small = omega arith }) (kind_of k 2 (omega arith)) so.small in
        subst (λ (after : List ℕ). GoesAt variables at to (done ++ bit_value cell.valid ∷ bit_value cell.stop ∷ z ∷ rest) (placed_lines m (token_words (3 * k + 2) cell.token ∷ [])) after) (append_assoc done front (cell.token ∷ rest))
        (subst (λ (before : List ℕ). GoesAt variables at to before (placed_lines m (token_words (3 * k + 2) cell.token ∷ [])) ((done ++ front) ++ cell.token ∷ rest)) (append_assoc done front (z ∷ rest)) made)

-- a station that changes or not
pub cell_changed : (line variables at : ℕ) (next : Next) (done rest : List ℕ) (k : ℕ) (old cell : Shown) → length done ≡ 3 * k → AtTime variables at next → at < 4294967295 → 3 * k + 3 ≤ variables → variables ≤ 196608 → IsCell cell →
    GoesAt variables at next (done ++ bit_value old.valid ∷ bit_value old.stop ∷ old.token ∷ rest) (placed_lines line (cell_changes (3 * k) old cell)) (done ++ bit_value cell.valid ∷ bit_value cell.stop ∷ cell.token ∷ rest)
cell_changed line variables at next done rest k old cell e here early below few so =
    let a = bit_value cell.valid in
    let b = bit_value cell.stop in
    subst (λ (lines : List Words). GoesAt variables at next (done ++ bit_value old.valid ∷ bit_value old.stop ∷ old.token ∷ rest) (placed_lines line lines) (done ++ a ∷ b ∷ cell.token ∷ rest))
    (sym (append_assoc (bit_change (3 * k) old.valid cell.valid) (bit_change (3 * k + 1) old.stop cell.stop) (token_change (3 * k + 2) old.token cell.token)))
    (at_then line variables at next (done ++ bit_value old.valid ∷ bit_value old.stop ∷ old.token ∷ rest) (done ++ a ∷ bit_value old.stop ∷ old.token ∷ rest) (done ++ a ∷ b ∷ cell.token ∷ rest)
    (bit_change (3 * k) old.valid cell.valid) (bit_change (3 * k + 1) old.stop cell.stop ++ token_change (3 * k + 2) old.token cell.token)
    (bit_changes line variables at next done (bit_value old.stop ∷ old.token ∷ rest) old.valid cell.valid (3 * k) (sym e) here (record { early = early; below = omega arith; small = omega arith }) (subst (λ (m : ℕ). is_token m ≡ false) (omega arith) (kind_of k 0 (omega arith))))
    (λ to h m. at_then m variables at to (done ++ a ∷ bit_value old.stop ∷ old.token ∷ rest) (done ++ a ∷ b ∷ old.token ∷ rest) (done ++ a ∷ b ∷ cell.token ∷ rest)
    (bit_change (3 * k + 1) old.stop cell.stop) (token_change (3 * k + 2) old.token cell.token) (second m to h) (λ to' h' m'. third m' to' h')))
  where
    second : (m : ℕ) (to : Next) → AtTime variables at to → GoesAt variables at to (done ++ bit_value cell.valid ∷ bit_value old.stop ∷ old.token ∷ rest) (placed_lines m (bit_change (3 * k + 1) old.stop cell.stop)) (done ++ bit_value cell.valid ∷ bit_value cell.stop ∷ old.token ∷ rest)
    second m to h =
        let long = length-append done (bit_value cell.valid ∷ []) in
        let made = bit_changes m variables at to (done ++ bit_value cell.valid ∷ []) (old.token ∷ rest) old.stop cell.stop (3 * k + 1) (omega arith) h (record { early = early; below = omega arith; small = omega arith }) (kind_of k 1 (omega arith)) in
        subst (λ (after : List ℕ). GoesAt variables at to (done ++ bit_value cell.valid ∷ bit_value old.stop ∷ old.token ∷ rest) (placed_lines m (bit_change (3 * k + 1) old.stop cell.stop)) after) (append_assoc done (bit_value cell.valid ∷ []) (bit_value cell.stop ∷ old.token ∷ rest))
        (subst (λ (before : List ℕ). GoesAt variables at to before (placed_lines m (bit_change (3 * k + 1) old.stop cell.stop)) ((done ++ bit_value cell.valid ∷ []) ++ bit_value cell.stop ∷ old.token ∷ rest)) (append_assoc done (bit_value cell.valid ∷ []) (bit_value old.stop ∷ old.token ∷ rest)) made)

    third : (m : ℕ) (to : Next) → AtTime variables at to → GoesAt variables at to (done ++ bit_value cell.valid ∷ bit_value cell.stop ∷ old.token ∷ rest) (placed_lines m (token_change (3 * k + 2) old.token cell.token)) (done ++ bit_value cell.valid ∷ bit_value cell.stop ∷ cell.token ∷ rest)
    third m to h =
        let front : List ℕ = bit_value cell.valid ∷ bit_value cell.stop ∷ [] in
        let long = length-append done front in
        let made = token_changes m variables at to (done ++ front) rest old.token cell.token (3 * k + 2) (omega arith) h (record { early = early; below = omega arith; small = omega arith }) (kind_of k 2 (omega arith)) so.small in
        subst (λ (after : List ℕ). GoesAt variables at to (done ++ bit_value cell.valid ∷ bit_value cell.stop ∷ old.token ∷ rest) (placed_lines m (token_change (3 * k + 2) old.token cell.token)) after) (append_assoc done front (cell.token ∷ rest))
        (subst (λ (before : List ℕ). GoesAt variables at to before (placed_lines m (token_change (3 * k + 2) old.token cell.token)) ((done ++ front) ++ cell.token ∷ rest)) (append_assoc done front (old.token ∷ rest)) made)
