-- The certificates that their text gives back.
use Rattle.std.specs.Prelude.{ℕ, ◌+◌, ◌*◌, ◌^◌, ◌<◌, ◌≤◌, length, Option, IfSome}
use Rattle.std.specs.List.{All, sum_by}
use Rattle.lid_cert.specs.declared.cert.Part.{Part}
use Rattle.lid_cert.specs.declared.cert.Cert.{Cert}
use Rattle.lid_cert.specs.Certificates.{AreLists, IsPartInRange}
use Rattle.lid_cert_text.specs.Written.{cert_text, IsReadBack}

-- transitions, edges and depths lie below 2^32
abbrev pub IsSmall : ℕ → Type 0
IsSmall n = n < 2 ^ 32

abbrev pub IsSmallVia : Option ℕ → Type 0
IsSmallVia via = IfSome via IsSmall

pub record IsPartSmall (part : Part) : Type 0 where
  pub nodes : All IsSmall part.nodes
  pub cycle : All IsSmall part.cycle
  pub depth : All IsSmall part.depth
  pub via : All IsSmallVia part.via

-- there are a transition and an edge of the walk, and p, q, lags and leads lie in their ranges
pub record IsPartFull (part : Part) : Type 0 where
  pub some : 1 ≤ length part.nodes
  pub walk : 1 ≤ length part.cycle
  pub range : IsPartInRange part

-- a part whose lines have their form
pub record IsPartPrintable (part : Part) : Type 0 where
  pub full : IsPartFull part
  pub lists : AreLists part
  pub small : IsPartSmall part

-- a certificate is read back where its parts have their form and its text is not too long
abbrev pub PrintedIsReadBack : Type 0
PrintedIsReadBack = (cert : Cert) → All IsPartPrintable cert.parts → length (cert_text cert) ≤ 16777216 → IsReadBack cert

-- 50 bytes for the first three lines of a part, 11 for each edge of its walk and 78 for each transition
abbrev pub bytes_needed : Part → ℕ
bytes_needed part = 50 + (11 * length part.cycle + 78 * length part.nodes)

-- how long the text of a certificate may be
abbrev pub PrintedIsShort : Type 0
PrintedIsShort =
    (cert : Cert)
    → All IsPartPrintable cert.parts
    → All (λ part. IsSmall (length part.nodes)) cert.parts
    → length (cert_text cert) ≤ 11 + sum_by bytes_needed cert.parts

-- where no walk has more edges than its part has transitions, 139 bytes for each transition are enough room
abbrev pub RoomIsSmall : Type 0
RoomIsSmall =
    (cert : Cert)
    → All (λ part. 1 ≤ length part.nodes) cert.parts
    → All (λ part. length part.cycle ≤ length part.nodes) cert.parts
    → sum_by bytes_needed cert.parts ≤ 139 * sum_by (λ part. length part.nodes) cert.parts
