-- The design of a text without fault is writable where its formals end well and its text is short.
use Rattle.std.proofs.Common.{◌≡◌, ℕ, ◌<◌, ◌≤◌, Bool, true, false, cond, List, [], ◌∷◌, length, refl}
use Rattle.std.specs.Prelude.{Option, None, Some, nat_lt}
use Rattle.lid_base.specs.declared.line.Line.{Line}
use Rattle.lid_base.specs.declared.line.TextFault.{TextFault}
use Rattle.lid_base.specs.declared.which.Which.TheVariants.{FileBytes}
use Rattle.lid_base.specs.Lines.{logical_lines, text_fault}
use Rattle.lid_blif.specs.declared.fault.BlifFault.{BlifFault}
use Rattle.lid_blif.specs.declared.fault.BlifFault.TheVariants.{NoModel, Text, Limit}
use Rattle.lid_blif.specs.Faults.{first_fault, lines_fault, after_text, blif_fault}
use Rattle.lid_blif.specs.Designs.{models_of, design_of}
use Rattle.lid_blif.proofs.Texts.{text_formed, text_few}
use Rattle.lid_blifout.specs.Canonical.{canonical_text}
use Rattle.lid_blifout.specs.Writable.{IsWritable, HasPlainFormals}
use Rattle.lid_base_lines.proofs.ReadWords.{text_words}
use Rattle.lid_blifout.proofs.ReadLaw.{AreRead, models_read, models_rows_few, lines_read}

passed : (b : Bool) (fault : BlifFault) (later : Option BlifFault) → cond b (Some fault) later ≡ None → later ≡ None
passed true fault later h = absurd (let e : Some fault ≡ None = h in cc)
passed false fault later h = h

text_passed : (fault : Option TextFault) (ls : List Line) → after_text fault ls ≡ None → (fault ≡ None) × (lines_fault ls ≡ None)
text_passed None ls h = (refl, h)
text_passed (Some fault) ls h = absurd (let e : Some (Text fault) ≡ None = h in cc)

lines_passed : (ls : List Line) → lines_fault ls ≡ None → first_fault [] ls ≡ None
lines_passed [] h = absurd (let e : Some (NoModel 0) ≡ None = h in cc)
lines_passed (l ∷ ls) h = h

-- the lines of a text without fault have none either, and are read
pub lines_of_text : (bytes : List ℕ) → blif_fault bytes ≡ None → (first_fault [] (logical_lines bytes) ≡ None) × AreRead (logical_lines bytes)
unfolding blif_fault
lines_of_text bytes h =
    let ls = logical_lines bytes in
    let after = passed (nat_lt 16777216 (length bytes)) (Limit FileBytes (length bytes)) (after_text (text_fault 1024 bytes) ls) h in
    let parts = text_passed (text_fault 1024 bytes) ls after in
    let clear = lines_passed ls parts.1 in
    (clear, lines_read ls clear (text_words 1024 bytes parts.0))

pub read_writable : (bytes : List ℕ) → blif_fault bytes ≡ None → HasPlainFormals (design_of (logical_lines bytes)) → length (canonical_text (design_of (logical_lines bytes))) ≤ 16777216 → IsWritable (design_of (logical_lines bytes))
unfolding design_of
read_writable bytes h plain short =
    let ls = logical_lines bytes in
    let formed = text_formed bytes h in
    let lines = lines_of_text bytes h in
    let some : 0 < length (models_of ls) = formed.rooted in
    record {
      rooted = refl;
      some = some;
      distinct = formed.distinct;
      models = models_read ls lines.1 formed.cells plain;
      few_models = text_few bytes h;
      few_rows = models_rows_few ls lines.0;
      short = short;
    }
