use Rattle.std.proofs.Common.{◌≡◌, ℕ, ◌+◌, ◌%◌, ◌<◌, [], ◌∷◌, ◌++◌, subst, length, get_or, refl, sym, ◌∙◌, ap, arith, length-append, length-set}
use Rattle.std.proofs.lemmas.Option.{slice_get-get_or}
use Rattle.std.proofs.Math.Nat.{mod-lt, mod-add-mod}
use Rattle.lid_free_crew.proofs.Picking.{dealt_more}
use Rattle.lid_free_crew.proofs.dealing.deal.Goals as goal

pub loop-actor-preserved : goal.loop-actor-preserved
loop-actor-preserved c =
    let now = c.loop-actor.crew in
    let k = c.loop-actor.worker in
    let w = get_or now k c.index-crew-worker.result in
    let many = c.loop-actor.invariant.dealt.many in
    let some = c.requires.some in
    let next = c.loop-actor.invariant.next in
    let within : k < length now = subst (λ (n : ℕ). n < length now) (sym next) (mod-lt (length c.loop-actor.yielded) (omega arith)) in
    record {
      dealt = dealt_more c.loop-actor.yielded c.in-Some.actor c.args.crew.now now k w _ c.loop-actor.invariant.dealt (slice_get-get_or now k c.index-crew-worker.result within)
          (next ∙ ap (λ (n : ℕ). length c.loop-actor.yielded % n) many) (record { number = refl; hand = refl; tally = refl }) c.in_ok-push.ensures.items;
      next =
          subst (λ (n : ℕ). (k + 1) % n ≡ length (c.loop-actor.yielded ++ c.in-Some.actor ∷ []) % n) (sym (length-set now k _))
          (ap (λ (n : ℕ). (n + 1) % length now) next ∙ mod-add-mod (length c.loop-actor.yielded) (length now) 1
          ∙ ap (λ (n : ℕ). n % length now) (sym (length-append c.loop-actor.yielded (c.in-Some.actor ∷ []))));
    }
