-- When the lines of a text that is read as a whole are given.
use Rattle.std.proofs.Common.{◌≡◌, ◌≤◌, ◌∙◌, ℕ, Bool, true, false, true≢false, List, length, Option, Some, None, refl, ap, arith}
use Rattle.std.specs.Prelude.{nat_lt, if◌then◌else◌, is_some, option_and_then}
use Rattle.std.proofs.lemmas.Bool.{cond-false, le-ltb}
use Rattle.std.proofs.lemmas.Bool.Decides.{nat_tests}
use Rattle.lid_base.specs.declared.line.TextFault.{TextFault}
use Rattle.lid_base.specs.Lines.{text_fault}
use Rattle.lid_base_lines.specs.declared.limited.LinesFault.TheVariants.{TooLong}
use Rattle.lid_base_lines.specs.Limited.{fault_of_text, limited_fault}

pub clean_lines : (bytes : List ℕ) → length bytes ≤ 16777216 → text_fault 1024 bytes ≡ None → limited_fault bytes ≡ None
unfolding limited_fault
clean_lines bytes short clean =
    cond-false (nat_lt 16777216 (length bytes)) (Some (TooLong (length bytes))) (option_and_then fault_of_text (text_fault 1024 bytes)) (le-ltb 16777216 (length bytes) short)
    ∙ ap (λ (o : Option TextFault). option_and_then fault_of_text o) clean

not_cut : {A : Type 0} (b : Bool) (fault : A) (later : Option A) → (if b then Some fault else later) ≡ None → b ≡ false
not_cut true fault later e = absurd (true≢false (ap is_some e))
not_cut false fault later e = refl

pub short_lines : (bytes : List ℕ) → limited_fault bytes ≡ None → length bytes ≤ 16777216
unfolding limited_fault
short_lines bytes e = let b = not_cut (nat_lt 16777216 (length bytes)) _ _ e in grind (arith, nat_tests, b)
