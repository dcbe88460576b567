-- The numbers of plain stations are those of the state.
use Rattle.std.proofs.Common.{◌≡◌, ℕ, ◌+◌, ◌*◌, ◌/◌, ◌%◌, ◌<◌, ◌==◌, Bool, true, false, List, length, refl, sym, ◌∙◌, ap, subst, arith, eq-eqb, ne_eqb}
use Rattle.std.specs.Prelude.{Some, option_map, slice_get}
use Rattle.std.proofs.lemmas.Option.{same_Some, slice_get_within}
use Rattle.lid_station.specs.Boards.{Facts, fill, drain}
use Rattle.lid_station.specs.Plain.{end_facts, plain_ends}
use Rattle.lid_station.specs.declared.pair.Pair.{Pair}
use Rattle.lid_stations.proofs.Spots.{stands_between}
use Rattle.lid_shell_laws.proofs.Ends.{filled_there}
use Rattle.lid_walk_machine.specs.Plans.{stations_of, room_of, filler_of}
use Rattle.lid_walk_machine.specs.Setups.{plan}
use Rattle.lid_shell_laws.specs.Setups.{Setup, IsSetup}
use Rattle.lid_walk_machine.specs.Machine.{State, in_count, out_count}
use Rattle.lid_shell.specs.Boards.{IsEndWith, IsFilledBy}
use Rattle.lid_walk.specs.Walks.{IsBoard}
use Rattle.lid_walk.proofs.Serving.{filled_end, drained_end}

-- what a plain station shows at its two ends
pub shows_fill : (pairs : List Pair) (station : ℕ) (p : Pair) → slice_get pairs station ≡ Some p → plain_ends pairs (fill station) ≡ Some (end_facts true p)
shows_fill pairs station p there =
    let place : 2 * station / 2 ≡ station = omega arith in
    let even : 2 * station % 2 ≡ 0 = omega arith in
    ap (λ (n : ℕ). option_map (end_facts (2 * station % 2 == 0)) (slice_get pairs n)) place
    ∙ ap (option_map (end_facts (2 * station % 2 == 0))) there
    ∙ ap (λ (b : Bool). Some (end_facts b p)) (eq-eqb (2 * station % 2) 0 even)

pub shows_drain : (pairs : List Pair) (station : ℕ) (p : Pair) → slice_get pairs station ≡ Some p → plain_ends pairs (drain station) ≡ Some (end_facts false p)
shows_drain pairs station p there =
    let place : (2 * station + 1) / 2 ≡ station = omega arith in
    let odd : (2 * station + 1) % 2 ≡ 1 = omega arith in
    ap (λ (n : ℕ). option_map (end_facts ((2 * station + 1) % 2 == 0)) (slice_get pairs n)) place
    ∙ ap (option_map (end_facts ((2 * station + 1) % 2 == 0))) there
    ∙ ap (λ (b : Bool). Some (end_facts b p)) (ne_eqb ((2 * station + 1) % 2) 0 (λ is. omega (arith, is, odd)))

-- what holds of what is told of an end holds of what its station shows there
pub told : (pairs : List Pair) (end : ℕ) (g : Facts) (P : Facts → Type 0) → plain_ends pairs end ≡ Some g → IsEndWith (plain_ends pairs) end P → P g
told pairs end g P shows (f, at, is) = subst P (same_Some f g (sym at ∙ shows)) is

module _ (m : Setup) (st : State) (rules : IsSetup m) (pairs : List Pair) (board : IsBoard m st pairs) (station : ℕ) (p : Pair) (there : slice_get pairs station ≡ Some p) where
  pub within : station < stations_of (plan m)
  within = let h = slice_get_within pairs station p there in omega (arith, h, board.many)

  pub put_is : p.put ≡ in_count (plan m) st station
  put_is = told pairs (fill station) (end_facts true p) (λ f. f.passed ≡ in_count (plan m) st station) (shows_fill pairs station p there) (filled_end m rules st (plain_ends pairs) board.agrees station within)

  pub taken_is : p.taken ≡ out_count (plan m) st station
  taken_is = told pairs (drain station) (end_facts false p) (λ f. f.passed ≡ out_count (plan m) st station) (shows_drain pairs station p there) (drained_end m rules st (plain_ends pairs) board.agrees station within)

  pub size_is : length p.places.items ≡ room_of (plan m) station
  size_is =
      let u = filler_of (plan m) station in
      let place = filled_there (plan m).links (plan m).placement u station within refl in
      (told pairs (fill station) (end_facts true p) (IsFilledBy m u (st u) place.0 station) (shows_fill pairs station p there)
      ((board.agrees u (stands_between m.system m.placement rules.system rules.fits station within).filled).fills place.0 station place.1)).capacity
