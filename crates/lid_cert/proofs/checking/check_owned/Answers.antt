use Rattle.std.proofs.Common.{List, replicate, None, sym, subst}
use Rattle.lid_cert.specs.declared.cert.Part.{Part}
use Rattle.lid_cert.specs.Owners.{Owns}
use Rattle.lid_cert.proofs.Owning.{certifies_of, owned_of}
use Rattle.lid_cert.proofs.checking.check_owned.Goals as goal

pub returns : goal.returns
returns c =
    let owns : Owns 0 (replicate c.args.graph.now.nodes None) c.as_slice.result.now c.args.owners.now = subst (λ (l : List Part). Owns 0 (replicate c.args.graph.now.nodes None) l c.args.owners.now) (sym c.as_slice.ensures) c.requires.owners in (
      λ met. certifies_of c.args.graph.now c.as_slice.result.now c.args.owners.now owns c.args.cert.now c.as_slice.ensures (c.are_owned.ensures.0 met),
      λ certifies. c.are_owned.ensures.1 (owned_of c.args.graph.now c.as_slice.result.now c.args.owners.now owns c.args.cert.now c.as_slice.ensures certifies),
    )
