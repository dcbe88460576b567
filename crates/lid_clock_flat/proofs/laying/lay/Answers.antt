-- A station is laid last, and its places too.
use Rattle.std.proofs.Common.{◌≡◌, ℕ, ◌++◌, List, length, refl, ◌∙◌, ap, arith}
use Rattle.lid_clock_flat.proofs.Laid.{laid_last}
use Rattle.lid_clock_flat.proofs.laying.lay.Goals as goal

pub returns : goal.returns
returns c =
    let old = c.args.stations.now in
    let many = old.places.ok.0 in
    let base : c.len-base.result ≡ length old.places.items = omega (arith, c.len-base.ensures) in
    laid_last c.args.station.now old _ _ c.in_ok-push.ensures.items (c.in_ok-extend_from_slice.ensures.items ∙ ap (λ (xs : List ℕ). old.places.items ++ xs) c.ring-ring.ensures)
    c.filled_by.ensures c.drained_by.ensures base (ap length c.ring-ring.ensures) refl c.put_count.ensures
