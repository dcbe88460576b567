use Rattle.std.proofs.Common.{◌≡◌, ℕ, zero, suc, ◌<◌, List, length, set, refl, sym, ◌∙◌, ap, subst, arith}
use Rattle.std.specs.Prelude.{Option, IsSome}
use Rattle.lid_base.specs.declared.runs.Tally.{Tally}
use Rattle.lid_free_crew.specs.declared.worker.Worker.{Worker}
use Rattle.lid_free_crew.proofs.Joining.{AreJoinedFrom, none_joined, joined_more, all_joined, all_noted}
use Rattle.lid_free_crew.proofs.gathering.join_all.Goals as goal

pub loop-worker-preserved : goal.loop-worker-preserved
loop-worker-preserved c =
    let same : length c.pop.new.self.items ≡ c.len.result = sym c.pop.new.self.ok.0 ∙ sym c.len.ensures in
    record {
      of = c.join.ensures.of;
      joined =
          subst (λ (n : ℕ). AreJoinedFrom c.args.crew.items c.pop.new.self.items c.join.new.hand (set c.loop-worker.tallies n c.in-Some.worker.tally)) same
          (joined_more c.args.crew.items c.loop-worker.crew.items c.pop.new.self.items c.in-Some.worker c.loop-worker.keeper c.join.new.hand c.loop-worker.tallies
          c.loop-worker.invariant.joined c.in-Some.ensures.items c.join.ensures.joined);
    }

none_of : (n : ℕ) → (0 < n → ⊥) → n ≡ 0
none_of zero none = refl
none_of (suc n) none = absurd (none (omega arith))

none_left : (c : goal.After-drop-crew) → length c.loop-worker.crew.items ≡ 0
none_left c =
    let long = c.loop-worker.crew.ok.0 in
    none_of (length c.loop-worker.crew.items)
    (λ some. let e = subst (λ (o : Option Worker). IsSome o) c.in_default.is (c.pop.ensures.variant.1 (omega arith)) in absurd (cc))

pub returns-clause-joined : goal.returns-clause-joined
returns-clause-joined c = all_joined c.args.crew.items c.loop-worker.crew.items c.loop-worker.keeper c.loop-worker.tallies c.loop-worker.invariant.joined (none_left c)

pub returns-clause-tallies : goal.returns-clause-tallies
returns-clause-tallies c = all_noted c.args.crew.items c.loop-worker.crew.items c.loop-worker.keeper c.loop-worker.tallies c.loop-worker.invariant.joined (none_left c)
