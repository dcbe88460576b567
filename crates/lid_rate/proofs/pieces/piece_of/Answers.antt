use Rattle.std.proofs.Common.{ℕ, [], ◌∷◌, ◌+◌, length, ◌∙◌, ap}
use Rattle.std.proofs.lemmas.List.{length-append}
use Rattle.lid_rate.proofs.Cutting.{images_more}
use Rattle.lid_rate.proofs.pieces.piece_of.Goals as goal

pub loop-k-preserved : goal.loop-k-preserved
loop-k-preserved c = record {
  long = ap length c.in_ok-push.ensures.items ∙ (length-append c.loop-k.all.items (c.image.result ∷ []) ∙ ap (λ (n : ℕ). n + 1) c.loop-k.invariant.long);
  images = images_more c.args.graph.now c.args.nodes.now c.args.edges.now c.loop-k.k-index c.loop-k.all.items c.push.new.self.items c.image.result c.loop-k.invariant.long c.loop-k.invariant.images c.image.ensures c.in_ok-push.ensures.items;
}
