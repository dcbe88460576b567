-- How long the text of a certificate may be.
use Rattle.std.proofs.Common.{◌≡◌, ℕ, zero, suc, ◌+◌, ◌*◌, ◌^◌, ◌<◌, ◌≤◌, List, [], ◌∷◌, ◌++◌, length, get_or, map, refl, sym, ap, ◌∙◌, arith, length-append}
use Rattle.std.specs.Prelude.{codes, Option, Some, None}
use Rattle.std.specs.Fmt.{decimal}
use Rattle.std.specs.List.{All, AllByRecursion, sum_by}
use Rattle.std.proofs.lemmas.Fmt.{length-decimal-le}
use Rattle.std.proofs.lemmas.List.Sums.{sum_by-cons}
use Rattle.std.proofs.lemmas.List.Elements.{recursion_from_All}
use Rattle.lid_cert.specs.declared.cert.Part.{Part}
use Rattle.lid_cert.specs.declared.cert.Cert.{Cert}
use Rattle.lid_cert.specs.Certificates.{AreLists}
use Rattle.lid_base_lines.specs.Texts.{Words, line_text, lines_text, spaced}
use Rattle.lid_base_lines.proofs.Pieces.{line_text_cons, lines_text_append, spaced_push}
use Rattle.lid_cert_text.specs.Written.{via_word, node_words, node_rows, count_words, ratio_words, cycle_words, part_lines, parts_lines, header_words, cert_text, IsReadBack}
use Rattle.lid_cert_text.specs.Printed.{IsSmall, IsSmallVia, IsPartSmall, IsPartFull, IsPartPrintable, bytes_needed, PrintedIsShort, RoomIsSmall}
use Rattle.lid_cert_text.proofs.PrintedLines.{rows_push}
use Rattle.lid_cert_text.proofs.ReadBack.{printed_is_read_back}

small_length : (n : ℕ) → n < 2 ^ 32 → length (decimal n) ≤ 10
small_length n h = length-decimal-le 10 n (omega arith) (omega arith) (omega arith)

large_length : (n : ℕ) → n < 2 ^ 62 → length (decimal n) ≤ 19
large_length n h = length-decimal-le 19 n (omega arith) (omega arith) (omega arith)

via_length : (via : Option ℕ) → IsSmallVia via → length (via_word via) ≤ 10
via_length None small = omega arith
via_length (Some k) small = small_length k small

spaced_cons : (n : ℕ) (ns : List ℕ) → length (spaced (map decimal (n ∷ ns))) ≡ suc (length (decimal n)) + length (spaced (map decimal ns))
spaced_cons n ns = omega (arith, length-append (32 ∷ decimal n) (spaced (map decimal ns)))

spaced_length : (ns : List ℕ) → AllByRecursion IsSmall ns → length (spaced (map decimal ns)) ≤ 11 * length ns
spaced_length [] h = omega arith
spaced_length (n ∷ ns) h =
    let first = small_length n h.0 in
    let later = spaced_length ns h.1 in
    omega (arith, first, later, spaced_cons n ns)

line_length : (word : List ℕ) (words : Words) → length (line_text (word ∷ words)) ≡ length word + (length (spaced words) + 1)
line_length word words = omega (arith, ap length (line_text_cons word words), length-append word (spaced words ++ 10 ∷ []), length-append (spaced words) (10 ∷ []))

module _ (part : Part) (p : IsPartPrintable part) (few : length part.nodes < 2 ^ 32) where
  node_length : (i : ℕ) → i < length part.nodes → length (line_text (node_words part i)) ≤ 78
  node_length i h =
      let node = get_or part.nodes i 0 in
      let lag = get_or part.lag i 0 in
      let lead = get_or part.lead i 0 in
      let depth = get_or part.depth i 0 in
      let via = via_word (get_or part.via i None) in
      let numbers = node ∷ lag ∷ lead ∷ depth ∷ [] in
      let a = small_length node (p.small.nodes i 0 h) in
      let b = large_length lag (p.full.range.lag i 0 (omega (arith, p.lists.lag))) in
      let c = large_length lead (p.full.range.lead i 0 (omega (arith, p.lists.lead))) in
      let d = small_length depth (p.small.depth i 0 (omega (arith, p.lists.depth))) in
      let e = via_length (get_or part.via i None) (p.small.via i None (omega (arith, p.lists.via))) in
      let all : length (spaced (map decimal numbers)) ≤ 62 = omega (arith, a, b, c, d, spaced_cons node (lag ∷ lead ∷ depth ∷ []), spaced_cons lag (lead ∷ depth ∷ []), spaced_cons lead (depth ∷ []), spaced_cons depth []) in
      let words : length (spaced (map decimal numbers ++ via ∷ [])) ≡ length (spaced (map decimal numbers)) + length (32 ∷ via) = ap length (sym (spaced_push (map decimal numbers) via)) ∙ length-append (spaced (map decimal numbers)) (32 ∷ via) in
      omega (arith, all, e, words, line_length (codes "node") (map decimal numbers ++ via ∷ []))

  nodes_length : (n : ℕ) → n ≤ length part.nodes → length (lines_text (node_rows part n)) ≤ 78 * n
  nodes_length zero h = omega arith
  nodes_length (suc n) h =
      let before = nodes_length n (omega arith) in
      let last = node_length n (omega arith) in
      omega (arith, before, last, ap length (rows_push part n), length-append (lines_text (node_rows part n)) (line_text (node_words part n)))

  part_length : length (lines_text (part_lines part)) ≤ bytes_needed part
  part_length =
      let count = line_text (count_words part) in
      let ratio = line_text (ratio_words part) in
      let walk = line_text (cycle_words part) in
      let nodes = lines_text (node_rows part (length part.nodes)) in
      let k = small_length (length part.nodes) few in
      let a = small_length part.p (omega (arith, p.full.range.p)) in
      let b = small_length part.q (omega (arith, p.full.range.q)) in
      let edges = spaced_length part.cycle (recursion_from_All IsSmall part.cycle p.small.cycle) in
      let rows = nodes_length (length part.nodes) (omega arith) in
      let first : length count ≤ 16 = omega (arith, k, line_length (codes "part") (map decimal (length part.nodes ∷ [])), spaced_cons (length part.nodes) []) in
      let second : length ratio ≤ 28 = omega (arith, a, b, line_length (codes "ratio") (map decimal (part.p ∷ part.q ∷ [])), spaced_cons part.p (part.q ∷ []), spaced_cons part.q []) in
      let third : length walk ≤ 6 + 11 * length part.cycle = omega (arith, edges, line_length (codes "cycle") (map decimal part.cycle)) in
      omega (arith, first, second, third, rows, length-append count (ratio ++ (walk ++ nodes)), length-append ratio (walk ++ nodes), length-append walk nodes)

parts_length : (parts : List Part) → AllByRecursion IsPartPrintable parts → AllByRecursion (λ part. IsSmall (length part.nodes)) parts → length (lines_text (parts_lines parts)) ≤ sum_by bytes_needed parts
parts_length [] h few = omega arith
parts_length (part ∷ parts) h few =
    let first = part_length part h.0 few.0 in
    let later = parts_length parts h.1 few.1 in
    let whole = sum_by-cons bytes_needed part parts in
    omega (arith, first, later, whole, ap length (lines_text_append (part_lines part) (parts_lines parts)), length-append (lines_text (part_lines part)) (lines_text (parts_lines parts)))

header_length : length (line_text header_words) ≡ 11
unfolding line_text
header_length = refl

pub printed_is_short : PrintedIsShort
unfolding cert_text
printed_is_short cert parts few =
    let all = parts_length cert.parts (recursion_from_All IsPartPrintable cert.parts parts) (recursion_from_All (λ part. IsSmall (length part.nodes)) cert.parts few) in
    omega (arith, all, length-append (line_text header_words) (lines_text (parts_lines cert.parts)), header_length)

rooms : (parts : List Part) → AllByRecursion (λ part. 1 ≤ length part.nodes) parts → AllByRecursion (λ part. length part.cycle ≤ length part.nodes) parts → sum_by bytes_needed parts ≤ 139 * sum_by (λ part. length part.nodes) parts
rooms [] some short = omega arith
rooms (part ∷ parts) some short =
    let later = rooms parts some.1 short.1 in
    let first = some.0 in
    let walk = short.0 in
    let whole = sum_by-cons bytes_needed part parts in
    let nodes = sum_by-cons (λ (x : Part). length x.nodes) part parts in
    omega (arith, later, first, walk, whole, nodes)

pub room_is_small : RoomIsSmall
room_is_small cert some short = rooms cert.parts (recursion_from_All (λ part. 1 ≤ length part.nodes) cert.parts some) (recursion_from_All (λ part. length part.cycle ≤ length part.nodes) cert.parts short)

-- both laws by what is known of each part on its own
module _ (cert : Cert) (lists : All AreLists cert.parts) (small : All IsPartSmall cert.parts) (full : All IsPartFull cert.parts) where
  printable : All IsPartPrintable cert.parts
  printable k d h = record { full = full k d h; lists = lists k d h; small = small k d h }

  pub read_back : length (cert_text cert) ≤ 16777216 → IsReadBack cert
  read_back short = printed_is_read_back cert printable short

  pub is_short : All (λ part. IsSmall (length part.nodes)) cert.parts → length (cert_text cert) ≤ 11 + sum_by bytes_needed cert.parts
  is_short few = printed_is_short cert printable few
