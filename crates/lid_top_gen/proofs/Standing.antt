-- The part of a certificate that a transition stands in.
use Rattle.std.proofs.Common.{◌≡◌, ℕ, ◌<◌, false, true≢false, length, sym, ◌∙◌, ap}
use Rattle.lid_graph.specs.declared.graph.Graph.{Graph}
use Rattle.lid_graph.specs.Walks.{IsPaired}
use Rattle.lid_cert.specs.declared.cert.Part.{Part}
use Rattle.lid_cert.specs.declared.cert.Cert.{Cert}
use Rattle.lid_cert.specs.Certificates.{Certifies, has_node, part_at, no_part}
use Rattle.lid_cert.proofs.Consequences.{each_is_shown}
use Rattle.std.proofs.lemmas.List.{get_or_default}

-- each transition stands in one
pub stands_somewhere : (g : Graph) (cert : Cert) (v : ℕ) → IsPaired g → Certifies g cert → v < g.nodes → ((k : ℕ) → k < length cert.parts → has_node (part_at cert.parts k) v ≡ false) → ⊥
stands_somewhere g cert v paired certifies there none =
    let shown = each_is_shown g cert v paired certifies there in
    let part = shown.0 in
    let stands = shown.1.stands in
    let same = sym stands.2 ∙ get_or_default cert.parts stands.0 part no_part stands.1 in
    true≢false (sym shown.1.inside ∙ ap (λ (x : Part). has_node x v) same ∙ none stands.0 stands.1)
