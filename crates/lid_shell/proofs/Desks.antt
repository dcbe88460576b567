-- The desk of an actor after each of its acts.
use Rattle.std.proofs.Common.{◌≡◌, ℕ, ◌+◌, ◌<◌, ◌≤◌, inl, inr, List, length, get_or, map, set, refl, sym, ◌∙◌, ap, arith, length-set}
use Rattle.std.specs.Prelude.{Some, option_map, slice_get}
use Rattle.std.proofs.lemmas.Bool.{cases_eq}
use Rattle.std.proofs.lemmas.Option.{slice_get_within, slice_get-get_or, slice_get-map, get_or_from_slice_get}
use Rattle.std.proofs.lemmas.List.{get_or-map, get_or-set_same, length-map}
use Rattle.std.proofs.lemmas.Grind.{same_number_lists}
use Rattle.smallvec.specs.SmallVec.{SmallVec}
use Rattle.lid_station.specs.Boards.{Ends, fill, drain}
use Rattle.lid_walk_machine.specs.Plans.{ins_of, outs_of, start_of, stream}
use Rattle.lid_walk_machine.specs.Setups.{plan}
use Rattle.lid_shell_laws.specs.Setups.{Setup}
use Rattle.lid_walk_machine.specs.Machine.{Progress, takes_from, puts_from, ends_at, in_at}
use Rattle.lid_shell.specs.declared.desk.Desk.{Desk}
use Rattle.lid_shell.specs.Actors.{IsDesk}
use Rattle.lid_shell.specs.Boards.{Agrees}
use Rattle.lid_shell.specs.Steps.{IsOwn}
use Rattle.lid_shell.specs.Inside.{further, set_back, tokens_taken, AreMade, IsBusy, IsBusyAtBoard}
use Rattle.lid_shell.proofs.Places.{few_ins, few_outs}
use Rattle.lid_base.proofs.Places.{set_there}

-- the element of a list at a place
at_place : (ys xs : List ℕ) (i : ℕ) → xs ≡ ys → i < length ys → slice_get ys i ≡ Some (get_or xs i 0)
at_place ys xs i same within = slice_get-get_or ys i 0 within ∙ ap (λ (zs : List ℕ). Some (get_or zs i 0)) (sym same)

-- a station of a desk is that of its actor
pub own_in : (m : Setup) (v : ℕ) (q : Progress) (d : Desk) (xs : List ℕ) (i : ℕ) → IsDesk m v q d → xs ≡ d.ins.items → i < length (ins_of (plan m) v) → slice_get (ins_of (plan m) v) i ≡ Some (get_or xs i 0)
own_in m v q d xs i is same within = at_place (ins_of (plan m) v) xs i (same ∙ is.drains) within

pub own_out : (m : Setup) (v : ℕ) (q : Progress) (d : Desk) (xs : List ℕ) (j : ℕ) → IsDesk m v q d → xs ≡ d.outs.items → j < length (outs_of (plan m) v) → slice_get (outs_of (plan m) v) j ≡ Some (get_or xs j 0)
own_out m v q d xs j is same within = at_place (outs_of (plan m) v) xs j (same ∙ is.fills) within

-- and its ends are those of the desk itself
pub own_read : (m : Setup) (v : ℕ) (q : Progress) (d : Desk) (xs : List ℕ) (i : ℕ) → IsDesk m v q d → xs ≡ d.ins.items → i < length (ins_of (plan m) v) → IsOwn d.ins.items d.outs.items (drain (get_or xs i 0))
own_read m v q d xs i is same within = (get_or xs i 0, i, inl (ap (λ (ys : List ℕ). slice_get ys i) is.drains ∙ own_in m v q d xs i is same within, refl))

pub own_wrote : (m : Setup) (v : ℕ) (q : Progress) (d : Desk) (xs : List ℕ) (j : ℕ) → IsDesk m v q d → xs ≡ d.outs.items → j < length (outs_of (plan m) v) → IsOwn d.ins.items d.outs.items (fill (get_or xs j 0))
own_wrote m v q d xs j is same within = (get_or xs j 0, j, inr (ap (λ (ys : List ℕ). slice_get ys j) is.fills ∙ own_out m v q d xs j is same within, refl))

-- how far an actor is can be counted
pub few_positions : (m : Setup) (v : ℕ) (q : Progress) (d : Desk) → IsBusy m v q d → d.position ≤ 262144
few_positions m v q d busy =
    let ins = few_ins m v busy.rules in
    let outs = few_outs m v busy.rules in
    let is = busy.at.position_is in
    let within = busy.within in
    omega arith

-- an actor that is at another position of its firing
pub busy_at : (m : Setup) (v : ℕ) (q : Progress) (d new : Desk) (position : ℕ) → IsBusy m v q d → position ≤ ends_at (length (ins_of (plan m) v)) (length (outs_of (plan m) v))
    → IsDesk m v (record { fired = q.fired; position = position }) new → IsBusy m v (record { fired = q.fired; position = position }) new
busy_at m v q d new position busy within at = record { rules = busy.rules; there = busy.there; below = busy.below; within = within; at = at }

-- the desk while no token of a firing is taken
desk_early : (m : Setup) (v : ℕ) (q new : Progress) (d : Desk) (fired position : ℕ) → IsDesk m v q d → fired ≡ new.fired → position ≡ new.position → new.position ≤ takes_from (length (ins_of (plan m) v)) (length (outs_of (plan m) v))
    → IsDesk m v new (record d { fired = fired; position = position })
desk_early m v q new d fired position is same_fired same_position early =
    record {
      drains = is.drains;
      fills = is.fills;
      capped = is.capped;
      fired_is = same_fired;
      position_is = same_position;
      taken_many = is.taken_many;
      tokens_many = is.tokens_many;
      kept = λ i station at past. absurd (omega arith);
      made = λ j station at past. absurd (omega arith);
    }

-- after a look that finds what it looks for, and after one that does not
pub look_found : (m : Setup) (v : ℕ) (q : Progress) (d : Desk) (ends : Ends) (stands : (ℕ → List ℕ) → Type 0) → IsBusy m v q d → q.position < takes_from (length (ins_of (plan m) v)) (length (outs_of (plan m) v))
    → Agrees m v (further q) ends → stands (stream (plan m)) → IsBusyAtBoard m v (further q) (record d { position = d.position + 1 }) ends stands
look_found m v q d ends stands busy early agrees streams =
    record {
      busy = busy_at m v q d (record d { position = d.position + 1 }) (q.position + 1) busy (omega arith) (desk_early m v q (further q) d d.fired (d.position + 1) busy.at busy.at.fired_is (ap (λ (n : ℕ). n + 1) busy.at.position_is) (omega arith));
      agrees = agrees;
      streams = streams;
    }

pub look_missed : (m : Setup) (v : ℕ) (q : Progress) (d : Desk) (ends : Ends) (stands : (ℕ → List ℕ) → Type 0) → IsBusy m v q d → Agrees m v (set_back q) ends → stands (stream (plan m)) → IsBusyAtBoard m v (set_back q) (record d { position = 0 }) ends stands
look_missed m v q d ends stands busy agrees streams =
    record {
      busy = busy_at m v q d (record d { position = 0 }) 0 busy (omega arith) (desk_early m v q (set_back q) d d.fired 0 busy.at busy.at.fired_is refl (omega arith));
      agrees = agrees;
      streams = streams;
    }

-- after a take
pub desk_took : (m : Setup) (v : ℕ) (q : Progress) (d : Desk) (taken : SmallVec ℕ) (i x now : ℕ) → IsDesk m v q d → q.position ≡ takes_from (length (ins_of (plan m) v)) (length (outs_of (plan m) v)) + i → i < length (ins_of (plan m) v)
    → taken.items ≡ set d.taken.items i x → x ≡ (plan m).token (in_at (plan m) v i) q.fired → now ≡ q.position + 1 → IsDesk m v (further q) (record d { taken = taken; position = now })
desk_took m v q d taken i x now is here within sets value next =
    let many : length d.taken.items ≡ length (ins_of (plan m) v) = is.taken_many in
    record {
      drains = is.drains;
      fills = is.fills;
      capped = is.capped;
      fired_is = is.fired_is;
      position_is = next;
      taken_many = ap length sets ∙ length-set d.taken.items i x ∙ many;
      tokens_many = is.tokens_many;
      kept = λ k station at past.
          elim (cases_eq k i) [
            | inl same ↦
                (let place : in_at (plan m) v i ≡ station = ap (in_at (plan m) v) (sym same) ∙ get_or_from_slice_get (ins_of (plan m) v) k station 0 at in
                ap (λ (xs : List ℕ). slice_get xs k) sets
                ∙ ap (slice_get (set d.taken.items i x)) same
                ∙ slice_get-get_or (set d.taken.items i x) i 0 (let long = length-set d.taken.items i x in omega arith)
                ∙ ap (λ (y : ℕ). Some y) (get_or-set_same d.taken.items i x 0 (omega arith) ∙ value ∙ ap (λ (s : ℕ). (plan m).token s q.fired) place))
            | inr other ↦
                (ap (λ (xs : List ℕ). slice_get xs k) sets
                ∙ set_there d.taken.items i k x other
                ∙ is.kept k station at (omega (arith, other)))
          ];
      made = λ j station at past. absurd (omega arith);
    }

-- after a put
pub desk_put : (m : Setup) (v : ℕ) (q : Progress) (d : Desk) (now : ℕ) → IsDesk m v q d → puts_from (length (ins_of (plan m) v)) (length (outs_of (plan m) v)) ≤ q.position → AreMade m v q.fired d.tokens.items
    → now ≡ q.position + 1 → IsDesk m v (further q) (record d { position = now })
desk_put m v q d now is late made next =
    record {
      drains = is.drains;
      fills = is.fills;
      capped = is.capped;
      fired_is = is.fired_is;
      position_is = next;
      taken_many = is.taken_many;
      tokens_many = is.tokens_many;
      kept = λ i station at past. (let within : i < length (ins_of (plan m) v) = slice_get_within (ins_of (plan m) v) i station at in is.kept i station at (omega arith));
      made = λ j station at past. made j station at;
    }

-- all tokens of a firing are taken
pub all_taken : (m : Setup) (v : ℕ) (q : Progress) (d : Desk) → IsDesk m v q d → puts_from (length (ins_of (plan m) v)) (length (outs_of (plan m) v)) ≤ q.position → d.taken.items ≡ tokens_taken m v q.fired
all_taken m v q d is late =
    let many : length d.taken.items ≡ length (ins_of (plan m) v) = is.taken_many in
    same_number_lists d.taken.items (tokens_taken m v q.fired) (many ∙ sym (length-map (ins_of (plan m) v) (λ (s : ℕ). (plan m).token s q.fired)))
    (λ i below.
    let within : i < length (ins_of (plan m) v) = omega arith in
    let station : ℕ = get_or (ins_of (plan m) v) i 0 in
    let at : slice_get (ins_of (plan m) v) i ≡ Some station = slice_get-get_or (ins_of (plan m) v) i 0 within in
    get_or_from_slice_get d.taken.items i ((plan m).token station q.fired) 0 (is.kept i station at (omega arith))
    ∙ sym (get_or-map (λ (s : ℕ). (plan m).token s q.fired) (ins_of (plan m) v) i 0 0 within))

-- tokens that were made are those that are put
pub are_made : (m : Setup) (v fired : ℕ) (tokens : List ℕ) → tokens ≡ map (λ station. (plan m).token station (start_of (plan m) station + fired)) (outs_of (plan m) v) → AreMade m v fired tokens
are_made m v fired tokens is j station at =
    let put : ℕ → ℕ = λ s. (plan m).token s (start_of (plan m) s + fired) in
    ap (λ (xs : List ℕ). slice_get xs j) is ∙ slice_get-map put (outs_of (plan m) v) j ∙ ap (option_map put) at

pub made_at : (m : Setup) (v fired : ℕ) (xs tokens : List ℕ) (j station : ℕ) → AreMade m v fired tokens → xs ≡ tokens → slice_get (outs_of (plan m) v) j ≡ Some station → get_or xs j 0 ≡ (plan m).token station (start_of (plan m) station + fired)
made_at m v fired xs tokens j station made same at =
    ap (λ (ys : List ℕ). get_or ys j 0) same ∙ get_or_from_slice_get tokens j ((plan m).token station (start_of (plan m) station + fired)) 0 (made j station at)

-- the desk after its tokens were made
pub desk_made : (m : Setup) (v : ℕ) (q : Progress) (d : Desk) (tokens : SmallVec ℕ) → IsDesk m v q d → length tokens.items ≡ length d.tokens.items → AreMade m v q.fired tokens.items
    → IsDesk m v q (record d { tokens = tokens })
desk_made m v q d tokens is many made =
    record {
      drains = is.drains;
      fills = is.fills;
      capped = is.capped;
      fired_is = is.fired_is;
      position_is = is.position_is;
      taken_many = is.taken_many;
      tokens_many = many ∙ is.tokens_many;
      kept = is.kept;
      made = λ j station at past. made j station at;
    }

-- the desk after a firing
pub desk_closed : (m : Setup) (v : ℕ) (q : Progress) (d : Desk) (fired : ℕ) → IsDesk m v q d → fired ≡ q.fired + 1 → IsDesk m v (record { fired = q.fired + 1; position = 0 }) (record d { fired = fired; position = 0 })
desk_closed m v q d fired is next = desk_early m v q (record { fired = q.fired + 1; position = 0 }) d fired 0 is next refl (omega arith)
