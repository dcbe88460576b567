use Rattle.std.proofs.Common.{◌<◌, length, map, arith}
use Rattle.lid_check_elab.specs.Templates.{model_names, net_place}
use Rattle.lid_check_elab.proofs.Naming.{next_name, mapped_next}
use Rattle.lid_check_elab.proofs.places.places_at.Goals as goal

pub loop-number-preserved : goal.loop-number-preserved
loop-number-preserved c names are =
    let d = c.args.judged.now in
    let k = c.args.model in
    let i = c.loop-number.number-index in
    let below : i < length c.args.numbers.now = omega arith in
    let next = next_name (model_names d k) names c.args.numbers.now i are below in
    mapped_next (net_place d k) c.loop-number.places.items c.push.new.self.items names i next.name c.place_at.result (map (net_place d k) names) c.in_ok-push.ensures.items (c.place_at.ensures next.name next.leads) next.left (c.loop-number.invariant names are)
