use Rattle.std.proofs.Common.{◌≡◌, ℕ, List, Some, None, option_map, slice_get, sym, ◌∙◌, ap}
use denote.Ref.{Bor}
use Rattle.lid_design.specs.Elaboration.{model_nets}
use Rattle.lid_base.proofs.Places.{item_at}
use Rattle.lid_check_elab.proofs.finding.net_of.Goals as goal

pub unreachable-requires : goal.unreachable-requires
unreachable-requires c =
    let names = model_nets c.args.judged.now c.args.spot.model in
    let found = item_at names c.args.spot.number c.requires.exists in
    let none : slice_get names c.args.spot.number ≡ None = sym c.net_at.ensures ∙ ap (option_map (λ (r : Bor (List ℕ)). r.now)) c.in-None.is in
    absurd (let e : None ≡ Some found.0 = sym none ∙ found.1 in cc)
