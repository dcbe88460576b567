-- Lines, appended one part after another.
use Rattle.std.proofs.Common.{◌≡◌, ℕ, zero, suc, ◌+◌, ◌-◌, ◌<◌, List, [], ◌∷◌, ◌++◌, length, take, drop, sym, ap, ◌∙◌, append_assoc, append-nil, false, refl, arith}
use Rattle.lid_base.specs.declared.runs.Shown.{Shown}
use Rattle.lid_base_lines.specs.Texts.{Words, line_text, lines_text}
use Rattle.lid_base_lines.proofs.Pieces.{lines_text_append}
use Rattle.lid_vcd_form.specs.Text.{declaration, declarations, time_words, shown_lines, changes, any_differs, cycle_lines, later_lines, body_lines}
use Rattle.lid_base.proofs.Lists.{appended}

-- two parts
pub two : (old mid new : List ℕ) (xs ys : List Words) → mid ≡ old ++ lines_text xs → new ≡ mid ++ lines_text ys → new ≡ old ++ lines_text (xs ++ ys)
two old mid new xs ys a b = appended old mid new (lines_text xs) (lines_text ys) a b ∙ ap (λ (bytes : List ℕ). old ++ bytes) (sym (lines_text_append xs ys))

pub three : (old mid rest new : List ℕ) (xs ys zs : List Words) → mid ≡ old ++ lines_text xs → rest ≡ mid ++ lines_text ys → new ≡ rest ++ lines_text zs → new ≡ old ++ lines_text (xs ++ (ys ++ zs))
three old mid rest new xs ys zs a b c = two old mid new xs (ys ++ zs) a (two mid rest new ys zs b c)

-- what is left after a part
pub left_of : (old new whole : List ℕ) (xs ys : List Words) → old ++ lines_text (xs ++ ys) ≡ whole → new ≡ old ++ lines_text xs → new ++ lines_text ys ≡ whole
left_of old new whole xs ys so e =
    ap (λ (bytes : List ℕ). bytes ++ lines_text ys) e ∙ append_assoc old (lines_text xs) (lines_text ys) ∙ ap (λ (bytes : List ℕ). old ++ bytes) (sym (lines_text_append xs ys)) ∙ so

pub declared_step : (n left : ℕ) (old new whole : List ℕ) → 0 < left → old ++ lines_text (declarations n left) ≡ whole → new ≡ old ++ line_text (declaration n) → new ++ lines_text (declarations (n + 1) (left - 1)) ≡ whole
declared_step n zero old new whole some so e = absurd (omega arith)
declared_step n (suc left) old new whole some so e =
    let less : suc left - 1 ≡ left = omega arith in
    ap (λ (m : ℕ). new ++ lines_text (declarations (n + 1) m)) less
    ∙ ap (λ (bytes : List ℕ). bytes ++ lines_text (declarations (n + 1) left)) e ∙ append_assoc old (line_text (declaration n)) (lines_text (declarations (n + 1) left)) ∙ so

pub later_step : (stations k left : ℕ) (before row cells after : List Shown) (old new whole : List ℕ) → 0 < left → row ≡ take stations cells → after ≡ drop stations cells →
    old ++ lines_text (later_lines stations k left before cells) ≡ whole → new ≡ old ++ lines_text (cycle_lines k before row) → new ++ lines_text (later_lines stations (k + 1) (left - 1) row after) ≡ whole
later_step stations k zero before row cells after old new whole some r a so e = absurd (omega arith)
later_step stations k (suc left) before row cells after old new whole some r a so e =
    let less : suc left - 1 ≡ left = omega arith in
    ap (λ (m : ℕ). new ++ lines_text (later_lines stations (k + 1) m row after)) less
    ∙ ap (λ (xs : List Shown). new ++ lines_text (later_lines stations (k + 1) left xs after)) r
    ∙ ap (λ (xs : List Shown). new ++ lines_text (later_lines stations (k + 1) left (take stations cells) xs)) a
    ∙ left_of old new whole (cycle_lines k before (take stations cells)) (later_lines stations (k + 1) left (take stations cells) (drop stations cells)) so
    (e ∙ ap (λ (xs : List Shown). old ++ lines_text (cycle_lines k before xs)) r)

-- a body with a cycle
pub body_made : (stations cycles : ℕ) (cells row after : List Shown) (old mid rest new : List ℕ) → 0 < cycles → row ≡ take stations cells → after ≡ drop stations cells →
    mid ≡ old ++ line_text (time_words 0) → rest ≡ mid ++ lines_text (shown_lines 0 row) → new ≡ rest ++ lines_text (later_lines stations 1 (cycles - 1) row after) → new ≡ old ++ lines_text (body_lines stations cycles cells)
body_made stations zero cells row after old mid rest new some r a first all later = absurd (omega arith)
body_made stations (suc left) cells row after old mid rest new some r a first all later =
    let less : suc left - 1 ≡ left = omega arith in
    let one : mid ≡ old ++ lines_text (time_words 0 ∷ []) = first ∙ ap (λ (bytes : List ℕ). old ++ bytes) (sym (append-nil (line_text (time_words 0)))) in
    three old mid rest new (time_words 0 ∷ []) (shown_lines 0 row) (later_lines stations 1 (suc left - 1) row after) one all later
    ∙ ap (λ (m : ℕ). old ++ lines_text (time_words 0 ∷ (shown_lines 0 row ++ later_lines stations 1 m row after))) less
    ∙ ap (λ (xs : List Shown). old ++ lines_text (time_words 0 ∷ (shown_lines 0 xs ++ later_lines stations 1 left xs after))) r
    ∙ ap (λ (xs : List Shown). old ++ lines_text (time_words 0 ∷ (shown_lines 0 (take stations cells) ++ later_lines stations 1 left (take stations cells) xs))) a

-- nothing changes where nothing is left
pub none_differs : (olds news : List Shown) → length news ≡ 0 → any_differs olds news ≡ false
none_differs [] news e = refl
none_differs (old ∷ olds) [] e = refl
none_differs (old ∷ olds) (new ∷ news) e = absurd (omega arith)

pub none_changes : (n : ℕ) (olds news : List Shown) → length news ≡ 0 → changes n olds news ≡ []
none_changes n [] news e = refl
none_changes n (old ∷ olds) [] e = refl
none_changes n (old ∷ olds) (new ∷ news) e = absurd (omega arith)
