use Rattle.std.proofs.Common.{◌≡◌, ℕ, List, [], ◌∷◌, reverse, sym, ◌∙◌, ap, subst}
use Rattle.std.proofs.lemmas.List.{reverse-append}
use Rattle.lid_design.specs.declared.Design.{Design}
use Rattle.lid_check_elab.specs.Numbers.{IsColumnSpot}
use Rattle.lid_check_drivers.proofs.Shallow.{shallow_of}
use Rattle.lid_check_elab.proofs.Entering.{root_spot, inner_spot, lighter}
use Rattle.lid_check_elab.proofs.finding.enter_all.Goals as goal

pub loop-spot-init : goal.loop-spot-init
loop-spot-init c =
    let d = c.args.judged.now in
    let n = c.args.number in
    subst (λ (p : List ℕ). IsColumnSpot d p c.design.result.now.root n n) (sym (ap reverse c.requires.none))
    (subst (λ (e : Design). IsColumnSpot d [] e.root n n) (sym c.design.ensures.same) (root_spot d n c.requires.exists))

pub loop-spot-preserved : goal.loop-spot-preserved
loop-spot-preserved c =
    let d = c.args.judged.now in
    let old = c.loop-spot.path.items in
    let spot = c.loop-spot.spot in
    let i = c.enter-inst.result.0 in
    let inner = c.enter-inst.result.1 in
    let path : reverse c.push.new.self.items ≡ i ∷ reverse old = ap reverse c.in_ok-push.ensures.items ∙ reverse-append old (i ∷ []) in
    subst (λ (p : List ℕ). IsColumnSpot d p inner.model inner.number c.args.number) (sym path)
    (inner_spot d (reverse old) spot.model spot.number c.args.number i inner.model inner.number c.loop-spot.invariant c.enter-inst.ensures.model c.enter-inst.ensures.number c.enter-inst.ensures.within)

pub loop-spot-smaller : goal.loop-spot-smaller
loop-spot-smaller c =
    let d = c.args.judged.now in
    let k = c.loop-spot.spot.model in
    lighter d k c.enter-inst.result.0 c.enter-inst.result.1.model (shallow_of d c.design.ensures.judged k (reverse c.loop-spot.path.items, c.loop-spot.invariant.leads)) c.enter-inst.ensures.model
