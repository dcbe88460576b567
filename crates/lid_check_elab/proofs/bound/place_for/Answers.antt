use Rattle.std.proofs.Common.{◌≡◌, ◌<◌, Some, None, length, map, position, sym, ◌∙◌, ap, arith}
use Rattle.std.specs.Str.{bytes_eq}
use Rattle.std.proofs.lemmas.List.{length-map}
use Rattle.lid_base.proofs.Places.{item_at, get_map}
use Rattle.lid_check_names.proofs.Numbers.{position_below}
use Rattle.lid_design.specs.Models.{actual_of, formal_of}
use Rattle.lid_check_elab.specs.Templates.{model_names, net_place}
use Rattle.lid_check_elab.proofs.Binding.{actual_by, actual_in}
use Rattle.lid_check_elab.proofs.Naming.{name_read}
use Rattle.lid_check_elab.proofs.bound.place_for.Goals as goal

pub returns-in-Some : goal.returns-in-Some
returns-in-Some c =
    let d = c.args.judged.now in
    let k = c.args.model in
    let inst = c.args.numbered.inst.now in
    let formal = c.args.formal.now in
    let i = c.in-Some.place in
    let at : position (bytes_eq formal) (map formal_of inst.binds) ≡ Some i = sym (c.place_of.ensures ∙ ap (position (bytes_eq formal)) c.requires.bound) ∙ c.in-Some.is in
    let low = position_below (bytes_eq formal) (map formal_of inst.binds) i at in
    let below : i < length inst.binds = omega (arith, length-map inst.binds formal_of) in
    let bind = item_at inst.binds i below in
    let named = name_read (model_names d k) (map actual_of inst.binds) c.args.numbered.actuals.now i bind.0.actual c.requires.actuals (get_map actual_of inst.binds i bind.0 bind.1) in
    c.place_at.ensures bind.0.actual named ∙ ap (net_place d k) (sym (actual_by inst formal (Some i) at ∙ ap actual_in bind.1))

pub returns-in-None : goal.returns-in-None
returns-in-None c =
    let inst = c.args.numbered.inst.now in
    let formal = c.args.formal.now in
    let at : position (bytes_eq formal) (map formal_of inst.binds) ≡ None = sym (c.place_of.ensures ∙ ap (position (bytes_eq formal)) c.requires.bound) ∙ c.in-None.is in
    c.place_in.ensures ∙ ap (net_place c.args.judged.now c.args.model) (sym (actual_by inst formal None at))
