-- What `rate` prints, `verify` accepts.
use Rattle.std.specs.Prelude.{◌≡◌, ℕ, List, Option, Some}
use Rattle.lid_cert.specs.declared.cert.Cert.{Cert}
use Rattle.lid_cert_text.specs.Written.{cert_text}
use Rattle.lid_stations.specs.Placements.{Links}
use Rattle.lid_top_script.specs.Outputs.{throughput, verdict}
use Rattle.lid_top_script.specs.Scripts.{gives, telling_script, verify_script, EndsIn}
use Rattle.lid_top_script.specs.Statuses.{HasText}

-- where a file holds a text that `rate` may print, `verify` of the same netlist, root and stations with this
-- file may end in the verdict on the certificate that the text stands for
abbrev pub RatesAreVerified : Type 0
RatesAreVerified =
    (held : List ℕ → Option (List ℕ)) (net cert : List ℕ) (stations root : Option (List ℕ)) (text : List ℕ)
    → HasText held (telling_script throughput net stations root) text
    → held cert ≡ Some text
    → (l : Links) × (c : Cert) × (text ≡ cert_text c) × EndsIn held (verify_script net cert stations root) (gives (verdict l c))
