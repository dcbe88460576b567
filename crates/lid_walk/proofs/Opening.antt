-- A board that starts with the start tokens of a setup agrees with actors that have not fired.
use Rattle.std.proofs.Common.{◌≡◌, ℕ, ◌+◌, ◌^◌, ◌<◌, ◌≤◌, inl, inr, Bool, true, false, cond, List, length, get_or, refl, sym, ◌∙◌, ap, subst, arith, length-set, replicate}
use Rattle.std.proofs.lemmas.Bool.{cases_eq, eq-eqb, ne_eqb}
use Rattle.std.proofs.lemmas.List.{length-replicate, get_or_default}
use Rattle.std.proofs.lemmas.Option.{slice_get-get_or, slice_get_within, same_Some}
use Rattle.std.specs.Prelude.{Option, Some, None, IfSome, option_map, slice_get}
use Rattle.std.specs.List.{All, AllByRecursion}
use Rattle.lid_design.specs.Walks.{HasTable}
use Rattle.lid_system.specs.declared.System.{System}
use Rattle.lid_system.specs.Systems.{IsWellFormed}
use Rattle.lid_system.specs.Tables.{system_drivers}
use Rattle.lid_stations.specs.declared.placement.Placement.{Placement}
use Rattle.lid_stations.specs.Placements.{links_of, station_count, Fits}
use Rattle.lid_stations.specs.Stations.{spot_at, start_count, starts}
use Rattle.lid_stations.proofs.Spots.{starts_small}
use Rattle.lid_shell_laws.proofs.Ends.{drained_is, filled_is}
use Rattle.lid_station.specs.declared.pair.Pair.{Pair}
use Rattle.lid_station.specs.Boards.{fill, drain}
use Rattle.lid_station.specs.Plain.{end_facts, plain_ends}
use Rattle.lid_station.specs.PlainLaws.{ends_even, ends_odd}
use Rattle.lid_station.specs.Starts.{start_count as begin_count, start_places, AreStarts, Begin}
use Rattle.lid_station.proofs.PlainStations.{station_there}
use Rattle.lid_walk_machine.specs.Plans.{ins_of, outs_of, start_of, room_of, stations_of, stream}
use Rattle.lid_walk_machine.specs.Setups.{plan}
use Rattle.lid_shell_laws.specs.Setups.{Setup, IsSetup, IsInputRow}
use Rattle.lid_walk_machine.specs.Machine.{takes_from, puts_from}
use Rattle.lid_shell.specs.Boards.{Agrees}
use Rattle.lid_walk_machine.proofs.Counts.{early}
use Rattle.lid_shell.proofs.Begun.{rest}
use Rattle.lid_shell.proofs.Streams.{token_small, stream_at}
use Rattle.lid_walk.specs.Setups.{IsSetupOf}
use Rattle.lid_walk.specs.Firsts.{first_token, first_tokens}
use Rattle.lid_base.proofs.Each.{each_length, each_at}

-- a place for each token that a station holds at most
pub places_many : (first : Option ℕ) (cap : ℕ) → length (start_places first cap) ≡ cap
places_many None cap = length-replicate cap 0
places_many (Some token) cap = length-set (replicate cap 0) 0 token ∙ length-replicate cap 0

at_drain : (pairs : List Pair) (station : ℕ) (p : Pair) → slice_get pairs station ≡ Some p → plain_ends pairs (drain station) ≡ Some (end_facts false p)
at_drain pairs station p there = ends_odd pairs (drain station) station refl ∙ ap (option_map (end_facts false)) there

at_fill : (pairs : List Pair) (station : ℕ) (p : Pair) → slice_get pairs station ≡ Some p → plain_ends pairs (fill station) ≡ Some (end_facts true p)
at_fill pairs station p there = ends_even pairs (fill station) station refl ∙ ap (option_map (end_facts true)) there

pub starts_agree : (m : Setup) (v : ℕ) (firsts : List (Option ℕ)) (caps : List ℕ) (pairs : List Pair) → AreStarts firsts caps pairs → length pairs ≡ stations_of (plan m) → ((s : ℕ) → s < stations_of (plan m) → get_or caps s 0 ≡ room_of (plan m) s)
    → ((j s : ℕ) → slice_get (outs_of (plan m) v) j ≡ Some s → begin_count (get_or firsts s None) ≡ start_of (plan m) s) → Agrees m v rest (plain_ends pairs)
starts_agree m v firsts caps pairs starts many rooms counts =
    record {
      drains = λ i station at.
          let inside : station < stations_of (plan m) = (drained_is (links_of m.system) m.placement v i station at).0 in
          let p = station_there pairs station (subst (λ (n : ℕ). station < n) (sym many) inside) in
          let is = starts.each station p.0 p.1 in (
            end_facts false p.0,
            at_drain pairs station p.0 p.1,
            record {
              capacity = ap length is.places ∙ places_many (get_or firsts station None) (get_or caps station 0) ∙ rooms station inside;
              passed = is.taken ∙ sym (early (takes_from (length (ins_of (plan m) v)) (length (outs_of (plan m) v)) + i) 0 0 (omega arith));
              seen = λ h g. absurd (omega arith);
            },
          );
      fills = λ j station at.
          let inside : station < stations_of (plan m) = (filled_is (links_of m.system) m.placement v j station at).0 in
          let p = station_there pairs station (subst (λ (n : ℕ). station < n) (sym many) inside) in
          let is = starts.each station p.0 p.1 in
          let none = early (puts_from (length (ins_of (plan m) v)) (length (outs_of (plan m) v)) + j) 0 0 (omega arith) in
          let zero_more : start_of (plan m) station + 0 ≡ start_of (plan m) station = omega arith in (
            end_facts true p.0,
            at_fill pairs station p.0 p.1,
            record {
              capacity = ap length is.places ∙ places_many (get_or firsts station None) (get_or caps station 0) ∙ rooms station inside;
              passed = is.put ∙ counts j station at ∙ sym zero_more ∙ ap (λ (n : ℕ). start_of (plan m) station + n) (sym none);
              seen = λ h g. absurd (omega arith);
            },
          );
    }

-- a system, its stations and its rows have a setup
pub setup_of : (s : System) (p : Placement) (rows : List (List Bool)) → IsWellFormed s → Fits s p → length rows ≤ 1000000 → AllByRecursion (IsInputRow s) rows → HasTable (system_drivers s) → (m : Setup) × IsSetupOf m s p rows
setup_of s p rows formed fits few wide tables = (
  record { system = s; placement = p; input = rows; table = (tables rows).0 },
  record {
    rules = record { system = formed; fits = fits; few = few; wide = wide; table = (tables rows).1 };
    system = refl;
    placement = refl;
    input = refl;
  },
)

-- the start token of a station, by its place
pub first_at : (m : Setup) (station : ℕ) (d : Option ℕ) → station < stations_of (plan m) → get_or (first_tokens (plan m)) station d ≡ first_token (plan m) station
first_at m station d there =
    let same : 0 + station ≡ station = omega arith in
    each_at (first_token (plan m)) 0 (stations_of (plan m)) station d there ∙ ap (first_token (plan m)) same

pub firsts_many : (m : Setup) → length (first_tokens (plan m)) ≡ stations_of (plan m)
firsts_many m = each_length (first_token (plan m)) 0 (stations_of (plan m))

-- a station that starts with a token, and one that does not
pub some_first : (m : Setup) (station : ℕ) → start_of (plan m) station ≡ 1 → first_token (plan m) station ≡ Some ((plan m).token station 0)
some_first m station one = ap (λ (b : Bool). cond b (Some ((plan m).token station 0)) None) (eq-eqb (start_of (plan m) station) 1 one)

pub no_first : (m : Setup) (station : ℕ) → (start_of (plan m) station ≡ 1 → ⊥) → first_token (plan m) station ≡ None
no_first m station none = ap (λ (b : Bool). cond b (Some ((plan m).token station 0)) None) (ne_eqb (start_of (plan m) station) 1 none)

module _ (m : Setup) (setup : IsSetup m) where
  -- as many tokens as the station starts with
  pub counted : (station : ℕ) → begin_count (first_token (plan m) station) ≡ start_of (plan m) station
  counted station =
      elim (cases_eq (start_of (plan m) station) 1) [
        | inl one ↦ ap begin_count (some_first m station one) ∙ sym one
        | inr none ↦
            (let small : start_count m.placement station ≤ 1 = starts_small (spot_at m.placement.relays station).place in
            let zero_is : start_of (plan m) station ≡ 0 = omega (arith, none) in
            ap begin_count (no_first m station none) ∙ sym zero_is)
      ]

  pub firsts_small : All (λ first. IfSome first (λ token. token < 2 ^ 31)) (first_tokens (plan m))
  firsts_small k d within =
      let many = firsts_many m in
      let there : k < stations_of (plan m) = omega arith in
      subst (λ (first : Option ℕ). IfSome first (λ token. token < 2 ^ 31)) (sym (first_at m k d there))
      (elim (cases_eq (start_of (plan m) k) 1) [
        | inl one ↦ subst (λ (first : Option ℕ). IfSome first (λ token. token < 2 ^ 31)) (sym (some_first m k one)) (token_small m k 0 setup)
        | inr none ↦ subst (λ (first : Option ℕ). IfSome first (λ token. token < 2 ^ 31)) (sym (no_first m k none)) tt
      ])

  -- the streams begin with the start tokens
  pub begins : Begin (first_tokens (plan m)) (stream (plan m))
  begins = record {
    short = λ i h. (let long : length (stream (plan m) i) ≡ length m.input = each_length ((plan m).token i) 0 (length m.input) in let few : length m.input ≤ 1000000 = setup.few in omega arith);
    small = λ i h k d within.
        let long : length (stream (plan m) i) ≡ length m.input = each_length ((plan m).token i) 0 (length m.input) in
        subst (λ (n : ℕ). n < 2 ^ 31) (sym (each_at ((plan m).token i) 0 (length m.input) k d (omega arith))) (token_small m i (0 + k) setup);
    first = λ i x at.
        let many = firsts_many m in
        let within : i < length (first_tokens (plan m)) = slice_get_within (first_tokens (plan m)) i (Some x) at in
        let is : first_token (plan m) i ≡ Some x = sym (first_at m i None (omega arith)) ∙ same_Some (get_or (first_tokens (plan m)) i None) (Some x) (sym (slice_get-get_or (first_tokens (plan m)) i None within) ∙ at) in
        elim (cases_eq (start_of (plan m) i) 1) [
          | inl one ↦
              (let token : (plan m).token i 0 ≡ x = same_Some ((plan m).token i 0) x (sym (some_first m i one) ∙ is) in
              stream_at m i 0 (omega arith) ∙ ap (λ (n : ℕ). Some n) token)
          | inr none ↦ absurd (let no : None ≡ Some x = sym (no_first m i none) ∙ is in cc)
        ];
  }

  -- the capacity of a station, by its place
  pub rooms : (caps : List ℕ) → caps ≡ m.placement.caps → (station : ℕ) → station < stations_of (plan m) → get_or caps station 0 ≡ room_of (plan m) station
  rooms caps same station there =
      let long : length m.placement.caps ≡ stations_of (plan m) = setup.fits.rules.caps in
      ap (λ (xs : List ℕ). get_or xs station 0) same ∙ get_or_default m.placement.caps station 0 2 (omega arith)

  -- a board that starts with them agrees with each actor
  pub all_agree : (caps : List ℕ) (pairs : List Pair) → caps ≡ m.placement.caps → AreStarts (first_tokens (plan m)) caps pairs → (v : ℕ) → Agrees m v rest (plain_ends pairs)
  all_agree caps pairs same starts v =
      starts_agree m v (first_tokens (plan m)) caps pairs starts (starts.many ∙ firsts_many m) (rooms caps same)
      (λ j station at. ap begin_count (first_at m station None (filled_is (links_of m.system) m.placement v j station at).0) ∙ counted station)

module _ (s : System) (p : Placement) (rows : List (List Bool)) (formed : IsWellFormed s) (fits : Fits s p) (few : length rows ≤ 1000000) (wide : AllByRecursion (IsInputRow s) rows) (tables : HasTable (system_drivers s)) (firsts : List (Option ℕ)) (are : (m : Setup) → IsSetupOf m s p rows → firsts ≡ first_tokens (plan m)) where
  -- there is a start token, or none, for each capacity, and each is small
  pub known_firsts : (length firsts ≡ length p.caps) × All (λ first. IfSome first (λ token. token < 2 ^ 31)) firsts
  known_firsts =
      let own = setup_of s p rows formed fits few wide tables in
      let on : stations_of (plan own.0) ≡ station_count p.relays = ap (λ (q : Placement). station_count q.relays) own.1.placement in
      (ap length (are own.0 own.1) ∙ firsts_many own.0 ∙ on ∙ sym fits.rules.caps, subst (λ (xs : List (Option ℕ)). All (λ first. IfSome first (λ token. token < 2 ^ 31)) xs) (sym (are own.0 own.1)) (firsts_small own.0 own.1.rules))
