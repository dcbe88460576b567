-- What follows from what plain stations show at their ends.
use Rattle.std.proofs.Common.{◌≡◌, ℕ, ◌+◌, ◌*◌, ◌%◌, ◌/◌, ◌^◌, ◌<◌, ◌≤◌, ◌==◌, Bool, true, false, List, length, refl, sym, ◌∙◌, ap, subst, arith, eq-eqb, ne_eqb}
use Rattle.std.specs.Prelude.{Option, Some, None, option_map, slice_get}
use Rattle.std.proofs.lemmas.Option.{slice_get_within, same_Some, get_or_from_slice_get}
use Rattle.std.proofs.lemmas.List.Elements.{All-get_or}
use Rattle.lid_station.specs.declared.pair.Pair.{Pair}
use Rattle.lid_station.specs.Boards.{Facts, fill, drain}
use Rattle.lid_station.specs.Plain.{end_facts, plain_ends, HoldsTokensOf, PlainStands, PlainAdmits}

-- an end of the filled side is that of a station with half its number
pub ends_even : (pairs : List Pair) (end station : ℕ) → end ≡ 2 * station → plain_ends pairs end ≡ option_map (end_facts true) (slice_get pairs station)
ends_even pairs end station e =
    let half : end / 2 ≡ station = omega arith in
    let even : (end % 2 == 0) ≡ true = eq-eqb (end % 2) 0 (omega arith) in
    ap (λ (side : Bool). option_map (end_facts side) (slice_get pairs (end / 2))) even
    ∙ ap (λ (i : ℕ). option_map (end_facts true) (slice_get pairs i)) half

-- an end of the drained side is that of a station with half its number
pub ends_odd : (pairs : List Pair) (end station : ℕ) → end ≡ 2 * station + 1 → plain_ends pairs end ≡ option_map (end_facts false) (slice_get pairs station)
ends_odd pairs end station e =
    let half : end / 2 ≡ station = omega arith in
    let odd : (end % 2 == 0) ≡ false = ne_eqb (end % 2) 0 (λ h. omega arith) in
    ap (λ (side : Bool). option_map (end_facts side) (slice_get pairs (end / 2))) odd
    ∙ ap (λ (i : ℕ). option_map (end_facts false) (slice_get pairs i)) half

-- what is known where something is mapped
pub mapped : {A B : Type 0} (f : A → B) (o : Option A) (y : B) → option_map f o ≡ Some y → (x : A) × (o ≡ Some x) × (y ≡ f x)
mapped f None y e = absurd (cc)
mapped f (Some x) y e = (x, refl, sym (same_Some (f x) y e))

-- a served fill end is that of a station
pub at_fill : (pairs : List Pair) (station : ℕ) (f : Facts) → plain_ends pairs (fill station) ≡ Some f → (p : Pair) × (slice_get pairs station ≡ Some p) × (f ≡ end_facts true p)
at_fill pairs station f e = mapped (end_facts true) (slice_get pairs station) f (sym (ends_even pairs (fill station) station refl) ∙ e)

-- a served drain end is that of a station
pub at_drain : (pairs : List Pair) (station : ℕ) (f : Facts) → plain_ends pairs (drain station) ≡ Some f → (p : Pair) × (slice_get pairs station ≡ Some p) × (f ≡ end_facts false p)
at_drain pairs station f e = mapped (end_facts false) (slice_get pairs station) f (sym (ends_odd pairs (drain station) station refl) ∙ e)

-- the next token of a stream for which plain stations stand is admitted
pub plain_next : (pairs : List Pair) (streams : ℕ → List ℕ) (station token : ℕ) (f : Facts) → PlainStands pairs streams → plain_ends pairs (fill station) ≡ Some f → slice_get (streams station) f.passed ≡ Some token → PlainAdmits pairs station token
plain_next pairs streams station token f stands at next =
    let there = at_fill pairs station f at in
    let holds : HoldsTokensOf there.0 (streams station) = stands station there.0 there.1 in
    let within : f.passed < length (streams station) = slice_get_within (streams station) f.passed token next in
    let read = get_or_from_slice_get (streams station) f.passed token 0 next in
    record {
      small = subst (λ (t : ℕ). t < 2 ^ 31) read (All-get_or (λ (t : ℕ). t < 2 ^ 31) (streams station) f.passed 0 within holds.small);
      counted = λ p here.
          let same : there.0 ≡ p = same_Some there.0 p (sym there.1 ∙ here) in
          let put : f.passed ≡ p.put = ap (λ (k : Facts). k.passed) there.2 ∙ ap (λ (k : Pair). k.put) same in
          let short : length (streams station) < 2 ^ 64 = holds.short in
          omega arith;
    }

-- no more tokens passed an end of a plain station than were put there
passed_put : (side : Bool) (p : Pair) → (end_facts side p).passed ≤ p.put
passed_put true p = omega arith
passed_put false p = p.ordered

-- no more tokens passed an end of a plain station than the stream has for which it stands
pub plain_within : (pairs : List Pair) (streams : ℕ → List ℕ) (station end : ℕ) (f : Facts) → end / 2 ≡ station → PlainStands pairs streams → plain_ends pairs end ≡ Some f → f.passed ≤ length (streams station)
plain_within pairs streams station end f side stands at =
    let there = mapped (end_facts (end % 2 == 0)) (slice_get pairs (end / 2)) f at in
    let filled : there.0.put ≤ length (streams (end / 2)) = (stands (end / 2) there.0 there.1).filled in
    let put : (end_facts (end % 2 == 0) there.0).passed ≤ there.0.put = passed_put (end % 2 == 0) there.0 in
    let is : f.passed ≡ (end_facts (end % 2 == 0) there.0).passed = ap (λ (g : Facts). g.passed) there.2 in
    let long : length (streams (end / 2)) ≡ length (streams station) = ap (λ (i : ℕ). length (streams i)) side in
    omega arith
