-- Runs for which stalls may be given are runs that stalls hold: by none, where none are given.
use Rattle.std.proofs.Common.{◌≡◌, ℕ, Bool, true, false, List, [], ◌∷◌, Option, None, Some, refl, sym, ◌∙◌, ap}
use Rattle.lid_clock.specs.Lives.{Life, sink}
use Rattle.lid_stall_text.specs.declared.stalls.Stall.{Stall}
use Rattle.lid_stall_text.specs.Holds.{listed, hold_of, stalled_by, stalled_of, stalled_line}
use Rattle.lid_stall.specs.Runs.{IsHeldBy}
use Rattle.lid_clock_flat.proofs.Unheld.{unheld, none_stalled}
use Rattle.lid_base_lines.specs.Texts.{line_text}
use Rattle.std.specs.Option.{is_some}
use Rattle.std.specs.Fmt.{decimal}
use Rattle.std.specs.Prelude.{codes}

pub held_by : (l : Life) (stalls : Option (List Stall)) → l.hold ≡ hold_of stalls (sink l) → IsHeldBy l (listed stalls)
held_by l None held k v = ap (λ hold. hold k v) held ∙ unheld (sink l) k v
held_by l (Some stalls) held k v = ap (λ hold. hold k v) held

pub stalled_listed : (stalls : Option (List Stall)) (k : ℕ) → stalled_by (listed stalls) k ≡ stalled_of stalls k
stalled_listed None k = none_stalled k
stalled_listed (Some stalls) k = refl

pub line_told : (stalls : Option (List Stall)) (b : Bool) → b ≡ is_some stalls → b ≡ true → (k : ℕ) → line_text (codes "stalled" ∷ decimal (stalled_of stalls k) ∷ []) ≡ stalled_line stalls k
line_told None b told is k = absurd (let e : true ≡ false = sym is ∙ told in cc)
line_told (Some stalls) b told is k = refl
