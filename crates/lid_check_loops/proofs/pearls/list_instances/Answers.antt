use Rattle.std.proofs.Common.{◌≡◌, ℕ, List, [], ◌∷◌, length, Some, slice_get, get_or, refl, sym, length-append, ◌∙◌, ap, subst, arith}
use Rattle.std.proofs.lemmas.Option.{slice_get-get_or}
use Rattle.lid_design.proofs.Reached.{root_reached}
use Rattle.lid_design.specs.declared.Design.{Design}
use Rattle.lid_design.specs.Models.{instance_number}
use Rattle.lid_check_loops.specs.declared.pearls.Pearl.{Pearl}
use Rattle.lid_check_loops.proofs.Marking.{pearls_more, not_none}
use Rattle.lid_check_loops.proofs.pearls.list_instances.Goals as goal

pub unreachable-requires : goal.unreachable-requires
unreachable-requires c =
    let known = c.design.ensures.known c.args.survey.now.root c.loop-i.i (root_reached c.args.survey.now) (omega arith) in
    not_none (instance_number c.args.survey.now c.loop-i.i c.args.survey.now.root) known (c.in-None.ensures ∙ ap (λ (d : Design). instance_number c.args.survey.now c.loop-i.i d.root) c.design.ensures.same)

pub loop-i-preserved : goal.loop-i-preserved
loop-i-preserved c =
    let start = get_or c.args.starts.now c.loop-i.i 0 in
    let pushed = c.in_ok-push-in-Some.ensures.items in
    let more = length-append c.loop-i.pearls.items (record { model = c.in-Some.model; start = start } ∷ []) in
    let long = c.loop-i.invariant.long in
    record {
      long = omega (arith, ap length pushed);
      each = subst (λ (xs : List Pearl). (j s : ℕ) (p : Pearl) → slice_get c.args.starts.now j ≡ Some s → slice_get xs j ≡ Some p → (instance_number c.args.survey.now j c.args.survey.now.root ≡ Some p.model) × (p.start ≡ s)) (sym c.in_ok-push-in-Some.ensures.items) (pearls_more c.args.survey.now c.args.starts.now c.loop-i.pearls.items c.loop-i.i start (record { model = c.in-Some.model; start = start }) c.loop-i.invariant.long (slice_get-get_or c.args.starts.now c.loop-i.i 0 c.loop-i-test.true) (sym (c.in-Some.ensures ∙ ap (λ (d : Design). instance_number c.args.survey.now c.loop-i.i d.root) c.design.ensures.same)) refl c.loop-i.invariant.each);
    }
