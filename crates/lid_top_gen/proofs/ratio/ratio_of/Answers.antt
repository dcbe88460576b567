use Rattle.std.proofs.Common.{◌≡◌, List, get_or, refl, sym, ◌∙◌, ap, subst}
use Rattle.lid_graph.specs.Ratios.{IsRatio}
use Rattle.lid_cert.specs.declared.cert.Part.{Part}
use Rattle.lid_cert.specs.Certificates.{part_at, no_part}
use Rattle.lid_top_gen.proofs.Standing.{stands_somewhere}
use Rattle.std.proofs.lemmas.List.{get_or_default}
use Rattle.lid_top_gen.proofs.ratio.ratio_of.Goals as goal

pub unreachable-requires : goal.unreachable-requires
unreachable-requires c =
    stands_somewhere c.args.graph.now c.in_ok-cert.cert c.args.v c.requires.rateable.paired c.in_ok-cert.ensures.certifies c.requires.there (c.in-None.ensures.none refl)

pub returns : goal.returns
returns c =
    let g = c.args.graph.now in
    let cert = c.in_ok-cert.cert in
    let k = c.in-Some.k in
    let part = c.index-as_slice-k.result in
    let found = c.in-Some.ensures.some in
    let at : part ≡ part_at cert.parts k = c.index-as_slice-k.is ∙ ap (λ (parts : List Part). get_or parts k part) c.as_slice.ensures ∙ get_or_default cert.parts k part no_part found.0 in
    subst (λ (x : Part). IsRatio g c.args.v x.p x.q) (sym at) ((c.in_ok-cert.ensures.exact k no_part found.0).ratio c.args.v found.1)
