use Rattle.std.proofs.Common.{ℕ, List, slice_get, sym, ◌∙◌, ap}
use Rattle.std.specs.Str.{bytes_eq}
use Rattle.lid_design.specs.Elaboration.{model_nets}
use Rattle.lid_check_elab.proofs.Binding.{position_past}
use Rattle.lid_check_elab.proofs.Driving.{model_here}
use Rattle.lid_check_elab.proofs.Naming.{same_names, position_some}
use Rattle.lid_check_elab.proofs.places.place_at.Goals as goal

pub returns-in-Some : goal.returns-in-Some
returns-in-Some c name named =
    let d = c.args.judged.now in
    let k = c.args.model in
    let m = model_here d c.design.ensures.judged k c.requires in
    let found = c.place_at.ensures m.0 name m.1 (ap (λ (ns : List (List ℕ)). slice_get ns c.args.number) (same_names d k m.0 m.1) ∙ named) in
    position_some (bytes_eq name) (model_nets d k) c.in-Some.place (sym found ∙ c.in-Some.is)

pub returns-in-None : goal.returns-in-None
returns-in-None c name named =
    let d = c.args.judged.now in
    let k = c.args.model in
    let m = model_here d c.design.ensures.judged k c.requires in
    let found = c.place_at.ensures m.0 name m.1 (ap (λ (ns : List (List ℕ)). slice_get ns c.args.number) (same_names d k m.0 m.1) ∙ named) in
    c.count_nets.ensures ∙ position_past (bytes_eq name) (model_nets d k) (sym found ∙ c.in-None.is)
