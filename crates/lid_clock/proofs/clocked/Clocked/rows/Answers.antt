use Rattle.std.proofs.Common.{◌≤◌, length, map, take, sym, ◌∙◌, ap, arith}
use Rattle.std.proofs.lemmas.List.{length-map, length-take-le, take-map}
use Rattle.lid_clock.proofs.FreeLives.{sinks_few}
use Rattle.lid_clock.proofs.clocked.Clocked.rows.Goals as goal

pub slice_bounds-result-end : goal.slice_bounds-result-end
slice_bounds-result-end c =
    let l = c.requires.0 in
    let k = c.requires.1 in
    let has = c.requires.2.has in
    let most = sinks_few l c.requires.2.free.rules k in
    let held = ap length c.deref.ensures.value in
    let seen = length-map c.args.self.now.outs.items (λ row. row.items) in
    let within : c.args.self.now.done ≤ length c.deref.result.now = omega (arith, has.count, has.many) in
    sym (length-take-le c.args.self.now.done c.deref.result.now within)

pub returns : goal.returns
returns c l k goes =
    sym (take-map (λ row. row.items) c.args.self.now.done c.deref.result.now)
    ∙ ap (λ xs. take c.args.self.now.done (map (λ row. row.items) xs)) c.deref.ensures.value
    ∙ goes.has.rows
