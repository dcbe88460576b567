use Rattle.std.proofs.Common.{ℕ, ◌*◌, ◌<◌, get_or, subst}
use Rattle.std.proofs.lemmas.Bool.{ltb-true}
use Rattle.lid_size_forward.specs.ForwardParts.{no_ratio}
use Rattle.lid_size.proofs.Refuted.{refuted}
use Rattle.lid_size.proofs.testing.is_below.Goals as goal

pub returns-clause-refuted : goal.returns-clause-refuted
returns-clause-refuted c g n caps ratios is lower =
    let want = get_or c.args.wants.now c.args.way.from no_ratio in
    let less = ltb-true (want.q * c.from.result) (want.p * c.from-2.result) lower in
    refuted g n c.args.wants.now caps c.args.way is
    (subst (λ (t : ℕ). want.q * t < want.p * c.args.way.edges) c.from.ensures (subst (λ (e : ℕ). want.q * c.from.result < want.p * e) c.from-2.ensures less))
