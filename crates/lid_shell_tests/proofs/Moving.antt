-- The first mover of a system of two channels, of which the second has two relay stations.
use Rattle.std.proofs.Common.{◌≡◌, ℕ, zero, suc, ◌+◌, ◌^◌, ◌<◌, ◌≤◌, Bool, List, [], ◌∷◌, length, get_or, refl, sym, ◌∙◌, ap, subst, arith}
use Rattle.std.specs.Prelude.{Option, Some, None, slice_get, slice_index_or, min}
use Rattle.std.specs.List.{All, AllByRecursion}
use Rattle.lid_design.specs.Walks.{HasTable}
use Rattle.lid_system.specs.declared.System.{System}
use Rattle.lid_system.specs.Systems.{IsWellFormed}
use Rattle.lid_system.specs.Tables.{system_drivers}
use Rattle.lid_shell_laws.proofs.Ends.{drained_there}
use Rattle.lid_station.specs.declared.pair.Pair.{Pair}
use Rattle.lid_station.specs.Plain.{plain_ends, PlainStands}
use Rattle.lid_station.specs.Starts.{start_count, AreStarts, Begin}
use Rattle.lid_stations.specs.declared.placement.Placement.{Placement}
use Rattle.lid_stations.specs.Placements.{Links, links_of, Fits}
use Rattle.lid_stations.specs.Stations.{drainer}
use Rattle.lid_shell_laws.specs.Laws.{MoversMoveTokensOn}
use Rattle.lid_walk_machine.specs.Plans.{actors_of, stations_of, ins_of, outs_of, start_of, room_of, stream, drainer_of}
use Rattle.lid_walk_machine.specs.Setups.{plan}
use Rattle.lid_shell_laws.specs.Setups.{Setup, IsSetup, IsInputRow}
use Rattle.lid_shell.specs.declared.actor.Actor.{Actor}
use Rattle.lid_shell.specs.Actors.{IsActor}
use Rattle.lid_shell.specs.Steps.{CanTurn}
use Rattle.lid_shell.proofs.Begun.{rest}
use Rattle.lid_shell.proofs.Streams.{token_small}
use Rattle.lid_walk.proofs.Opening.{starts_agree}
use Rattle.lid_base.proofs.Each.{each_length, each_at}

abbrev pub laid : Placement
laid = record { relays = 0 ∷ 2 ∷ []; caps = 2 ∷ 2 ∷ 2 ∷ 2 ∷ [] }

pub laid_is : (p : Placement) → p.relays ≡ 0 ∷ 2 ∷ [] → p.caps ≡ 2 ∷ 2 ∷ 2 ∷ 2 ∷ [] → p ≡ laid
laid_is p relays caps =
    ap (λ (xs : List ℕ). let q : Placement = record { relays = xs; caps = p.caps } in q) relays
    ∙ ap (λ (xs : List ℕ). let q : Placement = record { relays = 0 ∷ 2 ∷ []; caps = xs } in q) caps

abbrev pub firsts : List (Option ℕ)
firsts = None ∷ None ∷ None ∷ None ∷ []

only : (x y i : ℕ) → slice_get (x ∷ []) i ≡ Some y → x ≡ y
only x y zero h = cc
only x y (suc i) h = absurd (cc)

no_first : (i token : ℕ) → slice_get firsts i ≡ Some (Some token) → ⊥
no_first zero token h = cc
no_first (suc zero) token h = cc
no_first (suc (suc zero)) token h = cc
no_first (suc (suc (suc zero))) token h = cc
no_first (suc (suc (suc (suc i)))) token h = cc

drained_by_first : (l : Links) → drainer l laid 1 ≡ l.nodes
drained_by_first l = omega arith

module _ (s : System) (rows : List (List Bool)) (formed : IsWellFormed s) (fits : Fits s laid) (few : length rows ≤ 1000000) (wide : AllByRecursion (IsInputRow s) rows) (tables : HasTable (system_drivers s)) (law : MoversMoveTokensOn) where
  abbrev pub setup : Setup
  setup = record { system = s; placement = laid; input = rows; table = (tables rows).0 }

  pub rules : IsSetup setup
  rules = record { system = formed; fits = fits; few = few; wide = wide; table = (tables rows).1 }

  there : length s.nodes < actors_of (plan setup)
  there = omega arith

  moves_one : (ins_of (plan setup) (length s.nodes) ≡ 1 ∷ []) × (outs_of (plan setup) (length s.nodes) ≡ 2 ∷ [])
  moves_one =
      let moves = law s laid (length s.nodes) formed fits (omega arith) there in
      let place = drained_there (links_of s) laid (length s.nodes) 1 (omega arith) (drained_by_first (links_of s)) in
      let is : moves.0 ≡ 1 = only moves.0 1 place.0 (subst (λ (xs : List ℕ). slice_get xs place.0 ≡ Some 1) moves.1.drained place.1) in
      (moves.1.drained ∙ ap (λ (x : ℕ). x ∷ []) is, moves.1.filled ∙ ap (λ (x : ℕ). (x + 1) ∷ []) is)

  rooms : (station : ℕ) → station < stations_of (plan setup) → get_or (2 ∷ 2 ∷ 2 ∷ 2 ∷ []) station 0 ≡ room_of (plan setup) station
  rooms zero h = refl
  rooms (suc zero) h = refl
  rooms (suc (suc zero)) h = refl
  rooms (suc (suc (suc zero))) h = refl
  rooms (suc (suc (suc (suc i)))) h = absurd (omega arith)

  pub begin : Begin firsts (stream (plan setup))
  begin = record {
    short = λ i h. (let long : length (stream (plan setup) i) ≡ length rows = each_length ((plan setup).token i) 0 (length rows) in omega arith);
    small = λ i h k d within.
        let long : length (stream (plan setup) i) ≡ length rows = each_length ((plan setup).token i) 0 (length rows) in
        subst (λ (n : ℕ). n < 2 ^ 31) (sym (each_at ((plan setup).token i) 0 (length rows) k d (omega arith))) (token_small setup i (0 + k) rules);
    first = λ i x h. absurd (no_first i x h);
  }

  pub can_turn : (mover : Actor) (pairs : List Pair) → AreStarts firsts (2 ∷ 2 ∷ 2 ∷ 2 ∷ []) pairs
      → ((m : Setup) (v : ℕ) → IsSetup m → length m.system.nodes ≤ v → v < actors_of (plan m) → length m.input ≡ length rows → ins_of (plan m) v ≡ 1 ∷ [] → outs_of (plan m) v ≡ 2 ∷ [] → IsActor m v rest mover)
      → PlainStands pairs (stream (plan setup)) → CanTurn mover (plain_ends pairs) (PlainStands pairs)
  can_turn mover pairs starts is stands = (
    setup,
    length s.nodes,
    0,
    record {
      actor = is setup (length s.nodes) rules (omega arith) there refl moves_one.0 moves_one.1;
      agrees =
          starts_agree setup (length s.nodes) firsts (2 ∷ 2 ∷ 2 ∷ 2 ∷ []) pairs starts starts.many rooms
          (λ j station at.
          let two : 2 ≡ station = only 2 station j (subst (λ (xs : List ℕ). slice_get xs j ≡ Some station) moves_one.1 at) in
          subst (λ (n : ℕ). start_count (get_or firsts n None) ≡ start_of (plan setup) n) two (omega arith));
      streams = stands;
    },
  )
