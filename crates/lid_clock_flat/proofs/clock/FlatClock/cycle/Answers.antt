-- A cycle in which the source and the sink are held as the stall that is due says.
use Rattle.std.proofs.Common.{◌≡◌, ℕ, ◌+◌, ◌*◌, ◌<◌, ◌≤◌, ◌^◌, ◌||◌, cond, List, length, slice_get, sym, ◌∙◌, ap, subst, true≢false, arith}
use Rattle.lid_clock.specs.Lives.{Holds}
use Rattle.lid_stall_text.specs.declared.stalls.Stall.{Stall}
use Rattle.lid_stall.specs.Places.{due_of, next_place}
use Rattle.lid_stall.proofs.Delays.{is_over, few_cycles}
use Rattle.lid_stall.proofs.Steps.{holds_due}
use Rattle.lid_clock_flat.proofs.Stalled.{cycled}
use Rattle.lid_clock_flat.proofs.clock.FlatClock.cycle.Goals as goal

pub returns-then-not-cycle-clause-over : goal.returns-then-not-cycle-clause-over
returns-then-not-cycle-clause-over c l k g held _ =
    is_over l held.ran.rules c.args.self.now.stalls held.by k held.needed
    (λ below. true≢false (sym ((c.cycle.ensures.made l k g held.ran).1 below) ∙ c.if-not-cycle.true))

-- so many cycles can be counted
counted : (stalled next all k : ℕ) → k < 69634000000 + stalled → stalled ≤ next → next ≤ all → all * 16 < 2 ^ 63 → k + 1 < 2 ^ 64
counted stalled next all k early some within small = omega arith

pub returns-clause-counts : goal.returns-clause-counts
returns-clause-counts c l k g held _ =
    let x = c.args.self.now in
    let below = (c.cycle.ensures.made l k g held.ran).0 c.if-not-cycle.false in
    let early = subst (λ (n : ℕ). k < 69634000000 + n) (sym held.stalled_is) (few_cycles l held.ran.rules x.stalls held.by k below) in
    let small = subst (λ (stalls : List Stall). length stalls * 16 < 2 ^ 63) c.as_slice.ensures c.as_slice.type_inv.1 in
    counted x.stalled x.next (length x.stalls) k early held.few held.at.most small

pub overflow_add-self-2 : goal.overflow_add-self-2
overflow_add-self-2 c =
    let x = c.args.self.now in
    let l = c.requires.0 in
    let k = c.requires.1 in
    let g = c.requires.2 in
    let held = c.requires.3 in
    let below = (c.cycle.ensures.made l k g held.ran).0 c.if-not-cycle.false in
    let early = subst (λ (n : ℕ). k < 69634000000 + n) (sym held.stalled_is) (few_cycles l held.ran.rules x.stalls held.by k below) in
    let small = subst (λ (stalls : List Stall). length stalls * 16 < 2 ^ 63) c.as_slice.ensures c.as_slice.type_inv.1 in
    omega (arith, counted x.stalled x.next (length x.stalls) k early held.few held.at.most small, held.made_is)

pub returns-clause-ran : goal.returns-clause-ran
returns-clause-ran c l k g held _ =
    let x = c.args.self.now in
    let below = (c.cycle.ensures.made l k g held.ran).0 c.if-not-cycle.false in
    let due : c.due-stall.result ≡ due_of (slice_get x.stalls x.next) x.made =
    c.due-stall.ensures ∙ ap (λ (stalls : List Stall). due_of (slice_get stalls x.next) x.made) c.as_slice.ensures in
    let is : c.due-stall.result ≡ due_of (slice_get x.stalls x.next) k = due ∙ ap (due_of (slice_get x.stalls x.next)) held.made_is in
    let holds = subst (λ (stall : Stall). Holds l k stall.source stall.sink) (sym is) (holds_due l x.stalls x.next k held.by held.ascend held.at) in
    cycled l k g x held below c.cycle.new.self (c.cycle.ensures.ran l k g held.ran holds c.if-not-cycle.false) c.after-self.result c.counted.result
    (c.after-self.ensures ∙ ap (λ (stalls : List Stall). next_place (slice_get stalls x.next) x.next x.made) c.as_slice-2.ensures)
    (c.counted.ensures ∙ ap (λ (stall : Stall). cond (stall.source || stall.sink) 1 0) due)
