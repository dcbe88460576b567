-- What is read from the numbers and the via edges of a certificate.
use Rattle.std.proofs.Common.{◌≡◌, ℕ, ◌^◌, true, List, [], ◌∷◌, map, refl, ap, ◌∙◌, arith}
use Rattle.std.specs.Prelude.{Option, Some, None, IfSome, codes, bytes_eq}
use Rattle.std.specs.Fmt.{decimal}
use Rattle.std.specs.List.{AllByRecursion, list_all}
use Rattle.std.proofs.lemmas.Bool.{or_right, and_from}
use Rattle.lid_base.specs.Numbers.{number_below, is_below, value_below}
use Rattle.lid_base.proofs.Numbers.{number_back, value_back, is_number}
use Rattle.lid_base_lines.specs.Spelled.{IsSpelled}
use Rattle.lid_base_lines.proofs.Numbers.{spelled_word, spelled_number}
use Rattle.lid_cert_text.specs.Texts.{is_via_word, via_value}
use Rattle.lid_cert_text.specs.Written.{via_word}
use Rattle.lid_cert_text.specs.Printed.{IsSmall}

-- a via edge, or none
pub via_back : (via : Option ℕ) → IfSome via IsSmall → via_value (via_word via) ≡ via
unfolding number_below
via_back None small = refl
via_back (Some k) small = number_back (2 ^ 32) k small (omega arith)

pub is_via : (via : Option ℕ) → IfSome via IsSmall → is_via_word (via_word via) ≡ true
is_via None small = refl
is_via (Some k) small = or_right (bytes_eq (decimal k) (codes "-")) (is_below (2 ^ 32) (decimal k)) (is_number (2 ^ 32) k small (omega arith))

pub spelled_via : (via : Option ℕ) → IfSome via IsSmall → IsSpelled 1024 (via_word via)
spelled_via None small = spelled_word 1024 (codes "-") refl refl refl refl
spelled_via (Some k) small = spelled_number 1024 k (omega arith) (omega arith)

-- lists of numbers
pub values_back : (ns : List ℕ) → AllByRecursion IsSmall ns → map (value_below (2 ^ 32)) (map decimal ns) ≡ ns
values_back [] small = refl
values_back (n ∷ ns) small =
    ap (λ (k : ℕ). k ∷ map (value_below (2 ^ 32)) (map decimal ns)) (value_back (2 ^ 32) n small.0 (omega (arith, small.0))) ∙ ap (λ (ks : List ℕ). n ∷ ks) (values_back ns small.1)

pub are_numbers : (ns : List ℕ) → AllByRecursion IsSmall ns → list_all (is_below (2 ^ 32)) (map decimal ns) ≡ true
are_numbers [] small = refl
are_numbers (n ∷ ns) small = and_from (is_below (2 ^ 32) (decimal n)) (list_all (is_below (2 ^ 32)) (map decimal ns)) (is_number (2 ^ 32) n small.0 (omega (arith, small.0))) (are_numbers ns small.1)
