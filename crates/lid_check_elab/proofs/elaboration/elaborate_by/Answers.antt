use Rattle.std.proofs.Common.{◌≡◌, ◌<◌, ℕ, List, length, get_or, slice_get, sym, ◌∙◌, ap, subst, map}
use Rattle.std.proofs.lemmas.List.{length-map}
use Rattle.lid_design.proofs.Reached.{root_reached}
use Rattle.lid_design.specs.declared.Design.{Design}
use Rattle.lid_check_elab.specs.Elaborations.{shown_driver}
use Rattle.lid_check_elab.proofs.Outer.{template_at, template_within}
use Rattle.lid_check_elab.proofs.Whole.{elaborated}
use Rattle.lid_check_elab.proofs.elaboration.elaborate_by.Goals as goal

pub bounds-templates-design : goal.bounds-templates-design
bounds-templates-design c =
    let d = c.args.judged in
    subst (λ (e : Design). e.root < length c.args.templates.now) (sym c.design.ensures.same) (template_within d c.args.templates.now c.requires d.root (root_reached d))

pub invariant_of-result : goal.invariant_of-result
invariant_of-result c =
    let d = c.args.judged in
    let judged = c.design.ensures.judged in
    let ts = c.args.templates.now in
    let t = c.index-templates-design.result in
    let here : t ≡ get_or ts d.root t = c.index-templates-design.is ∙ ap (λ (e : Design). get_or ts e.root t) c.design.ensures.same in
    let is = template_at d ts c.requires d.root (root_reached d) t here in
    let starts : c.in_ok-starts.starts ≡ t.offsets = c.in_ok-starts.ensures ∙ c.as_slice.ensures in
    let drivers = c.in_ok-drivers.drivers in
    let whole = length-map drivers (shown_driver d) ∙ c.in_ok-drivers.ensures.whole in
    elaborated d judged c.in_ok-starts.starts (ap length starts ∙ is.offsets.long)
    (λ i o at. is.offsets.each i o (ap (λ (os : List ℕ). slice_get os i) (sym starts) ∙ at))
    (map (shown_driver d) drivers) c.in_ok-drivers.ensures.written whole
