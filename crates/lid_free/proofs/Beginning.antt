-- Boards at the start of a run.
use Rattle.std.proofs.Common.{◌≡◌, ℕ, ◌+◌, ◌*◌, ◌^◌, ◌<◌, ◌≤◌, inl, inr, Bool, List, [], length, get_or, replicate, refl, sym, ◌∙◌, ap, subst, arith, length-set}
use Rattle.std.specs.Prelude.{Option, Some, None, slice_get}
use Rattle.std.specs.List.{All, AllByRecursion}
use Rattle.std.proofs.lemmas.Bool.{cases_eq}
use Rattle.std.proofs.lemmas.List.{length-replicate, get_or_default}
use Rattle.std.proofs.lemmas.Option.{slice_get_within}
use Rattle.lid_base.specs.Each.{from_each}
use Rattle.lid_system.specs.declared.System.{System}
use Rattle.lid_system.specs.Systems.{IsWellFormed}
use Rattle.lid_station.specs.Boards.{fill, drain}
use Rattle.lid_station.specs.declared.pair.Pair.{Pair}
use Rattle.lid_station.specs.Starts.{start_count as begin_count, start_places, AreStarts, Begin}
use Rattle.lid_stations.specs.declared.placement.Placement.{Placement}
use Rattle.lid_stations.specs.Placements.{Fits}
use Rattle.lid_stations.specs.Stations.{spot_at, start_count}
use Rattle.lid_stations.proofs.Spots.{starts_small}
use Rattle.lid_board.specs.Owners.{IsOf, ends_of, start_ends}
use Rattle.lid_board.specs.Relation.{stream_of}
use Rattle.lid_board.specs.Standing.{AreStreamsOf}
use Rattle.lid_board.specs.Starts.{AreStreamsFor, start_fill, start_drain}
use Rattle.lid_board.specs.Views.{EndTable, at}
use Rattle.lid_board.specs.declared.board.Board.{Board}
use Rattle.lid_board.specs.declared.hand.Hand.{Hand}
use Rattle.lid_walk_machine.specs.Plans.{stations_of, start_of, room_of, stream}
use Rattle.lid_walk_machine.specs.Setups.{plan}
use Rattle.lid_shell_laws.specs.Setups.{Setup, IsSetup}
use Rattle.lid_walk.specs.Setups.{IsSetupOf}
use Rattle.lid_walk.specs.Firsts.{first_token, first_tokens}
use Rattle.lid_walk.proofs.Opening.{places_many, first_at, firsts_many, counted, begins, rooms}
use Rattle.lid_free.specs.Courses.{streams_of, are_streams}
use Rattle.lid_free.specs.Settings.{IsPlain, AreBoards}
use Rattle.lid_free.specs.Workers.{IsEndStart, IsStarted}
use Rattle.lid_free.specs.declared.setting.Boards.{Boards}
use Rattle.lid_base.proofs.Each.{each_length, each_at}

-- the streams of a course are those of each setup
pub streams_are : (m : Setup) (s : System) (p : Placement) (rows : List (List Bool)) → IsSetupOf m s p rows → (fits : Fits s p) (formed : ∥ IsWellFormed s ∥₁)
    → streams_of s p rows fits formed ≡ from_each (stream (plan m)) 0 (stations_of (plan m))
streams_are m s p rows of =
    subst (λ (x : System). (fits : Fits x p) (formed : ∥ IsWellFormed x ∥₁) → streams_of x p rows fits formed ≡ from_each (stream (plan m)) 0 (stations_of (plan m))) of.system
    (subst (λ (y : Placement). (fits : Fits m.system y) (formed : ∥ IsWellFormed m.system ∥₁) → streams_of m.system y rows fits formed ≡ from_each (stream (plan m)) 0 (stations_of (plan m))) of.placement
    (subst (λ (z : List (List Bool)). (fits : Fits m.system m.placement) (formed : ∥ IsWellFormed m.system ∥₁) → streams_of m.system m.placement z fits formed ≡ from_each (stream (plan m)) 0 (stations_of (plan m))) of.input
    (λ fits formed. are_streams m.system m.placement m.input fits formed m.table of.rules.table)))

module _ (m : Setup) (rules : IsSetup m) where
  stream_at : (station : ℕ) (d : List ℕ) → station < stations_of (plan m) → get_or (from_each (stream (plan m)) 0 (stations_of (plan m))) station d ≡ stream (plan m) station
  stream_at station d there =
      let z : 0 + station ≡ station = omega arith in
      each_at (stream (plan m)) 0 (stations_of (plan m)) station d there ∙ ap (stream (plan m)) z

  -- they begin with the start tokens
  pub begins_so : (firsts : List (Option ℕ)) (streams : List (List ℕ)) → firsts ≡ first_tokens (plan m) → streams ≡ from_each (stream (plan m)) 0 (stations_of (plan m)) → AreStreamsFor firsts streams
  begins_so firsts streams are is =
      subst (λ (fs : List (Option ℕ)). AreStreamsFor fs streams) (sym are) (subst (AreStreamsFor (first_tokens (plan m))) (sym is) own)
    where
      own : AreStreamsFor (first_tokens (plan m)) (from_each (stream (plan m)) 0 (stations_of (plan m)))
      own =
          let begin = begins m rules in
          let many = firsts_many m in
          let long = each_length (stream (plan m)) 0 (stations_of (plan m)) in
          record {
            many = long ∙ sym many;
            short = λ k d within.
                let there : k < stations_of (plan m) = omega arith in
                subst (λ (l : List ℕ). length l < 2 ^ 64) (sym (stream_at k d there)) (begin.short k (omega arith));
            small = λ k d within.
                let there : k < stations_of (plan m) = omega arith in
                subst (λ (l : List ℕ). All (λ token. token < 2 ^ 31) l) (sym (stream_at k d there)) (begin.small k (omega arith));
            first = λ station token at_first.
                let within = slice_get_within (first_tokens (plan m)) station (Some token) at_first in
                ap (λ (l : List ℕ). slice_get l 0) (stream_at station [] (omega arith)) ∙ begin.first station token at_first;
          }

  -- as many tokens as the station starts with
  starts_with : (firsts : List (Option ℕ)) → firsts ≡ first_tokens (plan m) → (station : ℕ) → station < stations_of (plan m) → begin_count (get_or firsts station None) ≡ start_of (plan m) station
  starts_with firsts are station there =
      ap (λ (fs : List (Option ℕ)). begin_count (get_or fs station None)) are ∙ ap begin_count (first_at m station None there) ∙ counted m rules station

  pub plain_so : (firsts : List (Option ℕ)) (caps : List ℕ) (pairs : List Pair) → firsts ≡ first_tokens (plan m) → caps ≡ m.placement.caps → AreStarts firsts caps pairs → IsPlain m pairs
  plain_so firsts caps pairs are same starts =
      let many : length pairs ≡ stations_of (plan m) = starts.many ∙ ap length are ∙ firsts_many m in
      record {
        many = many;
        caps = λ station p at_p.
            let within = slice_get_within pairs station p at_p in
            ap length (starts.each station p at_p).places ∙ places_many (get_or firsts station None) (get_or caps station 0) ∙ rooms m rules caps same station (omega (arith, within, many));
      }

  -- a board that was started for the streams
  pub started_so : (firsts : List (Option ℕ)) (caps : List ℕ) (streams : List (List ℕ)) (board : Board) (hand : Hand)
      → firsts ≡ first_tokens (plan m) → caps ≡ m.placement.caps → streams ≡ from_each (stream (plan m)) 0 (stations_of (plan m))
      → length (start_ends board) ≡ 2 * length firsts → ends_of hand ≡ start_ends board
      → ((station : ℕ) → station < length firsts → at (ends_of hand) (fill station) ≡ Some (start_fill firsts caps streams station))
      → ((station : ℕ) → station < length firsts → at (ends_of hand) (drain station) ≡ Some (start_drain firsts caps streams station))
      → AreStreamsOf (start_ends board) (λ station. get_or streams station [])
      → IsStarted m board
  started_so firsts caps streams board hand are same is many all fills drains stands =
      let long : length firsts ≡ stations_of (plan m) = ap length are ∙ firsts_many m in
      record {
        many = omega (arith, many, long);
        streams = λ station within. stands station within ∙ ap (λ (l : List (List ℕ)). get_or l station []) is ∙ stream_at station [] (omega (arith, within, many, long));
        fills = λ station there. (
          start_fill firsts caps streams station,
          ap (λ (e : EndTable). at e (fill station)) (sym all) ∙ fills station (omega (arith, there, long)),
          record { cap = rooms m rules caps same station there; start = starts_with firsts are station there; passed_is = starts_with firsts are station there; mark = refl; misses = refl },
        );
        drains = λ station there. (
          start_drain firsts caps streams station,
          ap (λ (e : EndTable). at e (drain station)) (sym all) ∙ drains station (omega (arith, there, long)),
          record { cap = rooms m rules caps same station there; start = starts_with firsts are station there; passed_is = refl; mark = refl; misses = refl },
        );
      }
