-- That the text of a certificate is read as its grammar says.
use Rattle.std.specs.Prelude.{◌≡◌, ℕ, ◌↔◌, ◌⊎◌, List, [], ◌∷◌, ◌++◌, Some, None}
use Rattle.lid_base.specs.declared.line.Line.{Line}
use Rattle.lid_base.specs.Lines.{logical_lines}
use Rattle.lid_base_lines.specs.Limited.{limited_fault}
use Rattle.lid_cert.specs.declared.cert.Cert.{Cert}
use Rattle.lid_cert_text.specs.declared.fault.CertFault.TheVariants.{Word}
use Rattle.lid_cert_text.specs.Texts.{cert_fault, cert_of}
use Rattle.lid_cert_text_laws.specs.Grammar.{AreLinesOf, IsTextOf}

-- a text has no fault and stands for a certificate exactly where it is one of its texts
abbrev pub TextsAreRead : Type 0
TextsAreRead = (bytes : List ℕ) (cert : Cert) → IsTextOf cert bytes ↔ ((cert_fault bytes ≡ None) × (cert_of bytes ≡ cert))

-- some certificate's lines begin with these
pub record IsBeginning (ls : List Line) : Type 0 where
  pub cert : Cert
  pub more : List Line
  pub are : AreLinesOf cert (ls ++ more)

-- the number of the last line, or 0 where there is none
abbrev pub last_number : ℕ → List Line → ℕ
last_number n [] = n
last_number n (l ∷ ls) = last_number l.number ls

-- the lines before line `number` begin a certificate's, and with it they do not
pub record IsFirstOff (ls : List Line) (number : ℕ) : Type 0 where
  pub before : List Line
  pub line : Line
  pub after : List Line
  pub are : ls ≡ before ++ line ∷ after
  pub begin : IsBeginning before
  pub off : IsBeginning (before ++ line ∷ []) → ⊥
  pub told : number ≡ line.number

-- the lines begin a certificate's, and end too early
pub record EndEarly (ls : List Line) (number : ℕ) : Type 0 where
  pub begin : IsBeginning ls
  pub early : (cert : Cert) → AreLinesOf cert ls → ⊥
  pub told : number ≡ last_number 0 ls

-- where the lines themselves are sound, a text is refused at the first line by which no certificate's lines go on
abbrev pub RefusalsAreFirst : Type 0
RefusalsAreFirst =
    (bytes : List ℕ) (number : ℕ)
    → limited_fault bytes ≡ None
    → cert_fault bytes ≡ Some (Word number)
    → IsFirstOff (logical_lines bytes) number ⊎ EndEarly (logical_lines bytes) number
