-- Another station is joined.
use Rattle.std.proofs.Common.{refl, ◌≡◌, ◌≤◌, ℕ, length, subst, ◌∙◌, arith}
use Rattle.std.proofs.lemmas.Option.{slice_get_read}
use Rattle.lid_emit_layout.specs.Ends.{AreJoined}
use Rattle.lid_emit_layout.proofs.Joining.{all_joined}
use Rattle.lid_emit_layout.proofs.ends.join_all.Goals as goal

pub join-requires-clause-filled : goal.join-requires-clause-filled
join-requires-clause-filled c =
    let below = (c.requires.between c.loop-s.s c.index-stations-s.result (slice_get_read c.args.stations.now _ c.loop-s.s c.index-stations-s.result refl c.loop-s-test.true c.index-stations-s.is)).0 in
    let many = c.loop-s.invariant.many in
    omega arith

pub join-requires-clause-drained : goal.join-requires-clause-drained
join-requires-clause-drained c =
    let below = (c.requires.between c.loop-s.s c.index-stations-s.result (slice_get_read c.args.stations.now _ c.loop-s.s c.index-stations-s.result refl c.loop-s-test.true c.index-stations-s.is)).1 in
    let many = c.loop-s.invariant.many in
    omega arith

pub loop-s-preserved : goal.loop-s-preserved
loop-s-preserved c = record {
  many = c.in_ok-join.ensures.many ∙ c.loop-s.invariant.many;
  joined = λ q are none.
      all_joined q c.loop-s.s c.index-stations-s.result c.loop-s.ends.items c.join.new.ends.items
      (are.each c.loop-s.s c.index-stations-s.result (slice_get_read c.args.stations.now _ c.loop-s.s c.index-stations-s.result refl c.loop-s-test.true c.index-stations-s.is))
      (c.loop-s.invariant.joined q are none) c.in_ok-join.ensures;
}

pub returns-clause-joined : goal.returns-clause-joined
returns-clause-joined c = λ q are none.
    let least : length c.args.stations.now ≤ c.loop-s.s = c.loop-s-test.false in
    let most : c.loop-s.s ≤ length c.args.stations.now = c.loop-s.auto.s-end in
    let all : c.loop-s.s ≡ length c.args.stations.now = omega arith in
    subst (λ (n : ℕ). AreJoined q n c.loop-s.ends.items) all (c.loop-s.invariant.joined q are none)
