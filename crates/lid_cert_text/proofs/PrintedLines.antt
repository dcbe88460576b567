-- The lines of a certificate, and how many there are.
use Rattle.std.proofs.Common.{◌≡◌, ℕ, zero, suc, ◌+◌, ◌≤◌, List, [], ◌∷◌, ◌++◌, length, sym, ap, ◌∙◌, append-nil, arith, length-append}
use Rattle.std.specs.Prelude.{codes}
use Rattle.lid_cert.specs.declared.cert.Cert.{Cert}
use Rattle.lid_cert.specs.declared.cert.Part.{Part}
use Rattle.lid_base_lines.specs.Texts.{Words, line_text, lines_text, spaced}
use Rattle.lid_base_lines.proofs.Pieces.{line_text_cons, lines_text_append}
use Rattle.lid_cert_text.specs.Written.{node_words, node_rows, count_words, ratio_words, cycle_words, part_lines, parts_lines, cert_text}
use Rattle.lid_base.proofs.Lists.{appended}

-- one transition more
pub rows_push : (part : Part) (n : ℕ) → lines_text (node_rows part (suc n)) ≡ lines_text (node_rows part n) ++ line_text (node_words part n)
rows_push part n =
    lines_text_append (node_rows part n) (node_words part n ∷ [])
    ∙ ap (λ (bytes : List ℕ). lines_text (node_rows part n) ++ bytes) (append-nil (line_text (node_words part n)))

pub rows_pushed : (part : Part) (n : ℕ) (old mid new : List ℕ) → mid ≡ old ++ lines_text (node_rows part n) → new ≡ mid ++ line_text (node_words part n) → new ≡ old ++ lines_text (node_rows part (n + 1))
rows_pushed part n old mid new a b =
    let next : suc n ≡ n + 1 = omega arith in
    appended old mid new (lines_text (node_rows part n)) (line_text (node_words part n)) a b
    ∙ ap (λ (bytes : List ℕ). old ++ bytes) (sym (rows_push part n) ∙ ap (λ (m : ℕ). lines_text (node_rows part m)) next)

-- a line has a byte at least
line_some : (words : Words) → 1 ≤ length (line_text words)
unfolding line_text
line_some [] = omega arith
line_some (word ∷ words) = omega (arith, ap length (line_text_cons word words), length-append word (spaced words ++ 10 ∷ []), length-append (spaced words) (10 ∷ []))

-- there are no more lines than bytes
rows_fit : (part : Part) (n : ℕ) → n ≤ length (lines_text (node_rows part n))
rows_fit part zero = omega arith
rows_fit part (suc n) =
    omega (arith, rows_fit part n, line_some (node_words part n), ap length (rows_push part n), length-append (lines_text (node_rows part n)) (line_text (node_words part n)))

-- a part has no more transitions than its text has bytes
pub nodes_fit : (part : Part) → length part.nodes ≤ length (lines_text (part_lines part))
nodes_fit part =
    let count = line_text (count_words part) in
    let ratio = line_text (ratio_words part) in
    let walk = line_text (cycle_words part) in
    let nodes = lines_text (node_rows part (length part.nodes)) in
    omega (arith, rows_fit part (length part.nodes), length-append count (ratio ++ (walk ++ nodes)), length-append ratio (walk ++ nodes), length-append walk nodes)

-- the header, and the lines of all parts
pub text_made : (cert : Cert) (old mid new : List ℕ) → mid ≡ old ++ codes "lid-cert 1\n" → new ≡ mid ++ lines_text (parts_lines cert.parts) → new ≡ old ++ cert_text cert
unfolding cert_text line_text
text_made cert old mid new a b = appended old mid new (codes "lid-cert 1\n") (lines_text (parts_lines cert.parts)) a b
