-- The tokens with which stations start.
use Rattle.std.proofs.Common.{◌≡◌, ℕ, ◌+◌, ◌-◌, ◌<◌, ◌≤◌, inl, inr, Bool, false, List, [], ◌∷◌, length, map, refl, sym, ◌∙◌, ap, subst, arith, replicate}
use Rattle.std.specs.Prelude.{Option, Some, None, slice_get}
use Rattle.std.proofs.lemmas.Bool.{cases_eq}
use Rattle.std.proofs.lemmas.List.{same_lists, length-map, length-replicate, get_or-replicate}
use Rattle.std.proofs.lemmas.Option.{slice_get_within, slice_get-get_or, get_or_from_slice_get}
use Rattle.lid_design.specs.Network.{Table}
use Rattle.lid_system.specs.declared.System.{System}
use Rattle.lid_system.specs.Systems.{Point, IsWellFormed}
use Rattle.lid_system.specs.Streams.{token_at}
use Rattle.lid_shell_nodes.specs.Nodes.{channels_from}
use Rattle.lid_shell_nodes.specs.Wiring.{ports_from}
use Rattle.lid_stations.specs.declared.placement.Placement.{Placement}
use Rattle.lid_stations.specs.Placed.{Placing, links_in}
use Rattle.lid_stations.specs.Placements.{links_of, Fits}
use Rattle.lid_stations.specs.Stations.{start_count}
use Rattle.lid_shell_laws.specs.Runs.{filled_by, token_of}
use Rattle.lid_shell_laws.proofs.Ends.{filled_is, filled_there}
use Rattle.lid_walk_machine.specs.Plans.{stations_of, outs_of, filler_of}
use Rattle.lid_walk_machine.specs.Setups.{plan}
use Rattle.lid_shell_laws.specs.Setups.{Setup, IsSetup}
use Rattle.lid_walk.specs.Setups.{IsSetupOf}
use Rattle.lid_walk.specs.Firsts.{first_token, first_tokens}
use Rattle.lid_shell.specs.Inside.{ActorsGoByRules}
use Rattle.lid_walk.specs.Inside.{AreTokensOf, AreWritten, HasFirsts, BeginsWith}
use Rattle.lid_walk.proofs.Setting.{outs_are, stations_are}
use Rattle.lid_walk.proofs.Opening.{first_at, firsts_many, some_first, no_first}

module _ (r : ActorsGoByRules) (s : System) (p : Placement) (well : IsWellFormed s) (fits : Fits s p) where
  no_table : Table Point
  no_table t point = false

  -- a node fills a station for each channel that comes from it
  pub outs_many : (v : ℕ) → v < length s.nodes → length (filled_by (links_of s) p v) ≡ length (ports_from s v)
  outs_many v node =
      sym (length-map (filled_by (links_of s) p v) (λ station. token_of s p no_table station 0))
      ∙ ap length (r.filled s p no_table v 0 well fits node)
      ∙ length-map (channels_from s.channels v) (λ c. token_at s no_table c 0)
      ∙ sym (length-map (channels_from s.channels v) (λ c. c.ports))

-- the tokens that a node puts are those of the stations that it fills
pub tokens_are : (r : ActorsGoByRules) (m : Setup) (q : Placing) (row : List Bool) (v : ℕ) (stations tokens : List ℕ) → BeginsWith m q row → v < length q.system.nodes → stations ≡ filled_by (links_in q) q.placement v → AreTokensOf q.system v row tokens
    → tokens ≡ map (λ station. (plan m).token station 0) stations
tokens_are r m q row v stations tokens of node listed are =
    let own : AreTokensOf m.system v row tokens = subst (λ (x : System). AreTokensOf x v row tokens) (sym of.system) are in
    own m.input m.table of.rules.table of.first
    ∙ sym (r.filled m.system m.placement m.table v 0 of.rules.system of.rules.fits (subst (λ (x : System). v < length x.nodes) (sym of.system) node))
    ∙ ap (map (λ station. (plan m).token station 0)) (outs_are m q.system q.placement of.system of.placement v ∙ sym listed)

-- a node more has written its tokens
pub next_node : (m : Setup) (v : ℕ) (stations : List ℕ) (old new : List (Option ℕ)) → stations ≡ outs_of (plan m) v → AreWritten (λ station. (plan m).token station 0) stations (length stations) old new → HasFirsts m v old → HasFirsts m (v + 1) new
next_node m v stations old new listed written was =
    record {
      below = λ station there less.
          elim (cases_eq (filler_of (plan m) station) v) [
            | inl same ↦
                (let place = filled_there (links_of m.system) m.placement v station there same in
                let at : slice_get stations place.0 ≡ Some station = ap (λ (xs : List ℕ). slice_get xs place.0) listed ∙ place.1 in
                written.those place.0 station (slice_get_within stations place.0 station at) at)
            | inr other ↦ written.others station (not_here station other) ∙ was.below station there (omega (arith, other))
          ];
      later = λ station there past.
          written.others station (not_here station (λ same. omega arith)) ∙ was.later station there (omega arith);
    }
  where
    not_here : (station : ℕ) → (filler_of (plan m) station ≡ v → ⊥) → (i : ℕ) → i < length stations → slice_get stations i ≡ Some station → ⊥
    not_here station other i less at = other (filled_is (links_of m.system) m.placement v i station (ap (λ (xs : List ℕ). slice_get xs i) (sym listed) ∙ at)).1

-- a list that says the start token of each station
firsts_are : (m : Setup) (xs : List (Option ℕ)) → length xs ≡ stations_of (plan m) → ((station : ℕ) → station < stations_of (plan m) → slice_get xs station ≡ Some (first_token (plan m) station)) → xs ≡ first_tokens (plan m)
firsts_are m xs many each =
    same_lists xs (first_tokens (plan m)) (many ∙ sym (firsts_many m))
    (λ k d within.
    let there : k < stations_of (plan m) = omega arith in
    get_or_from_slice_get xs k (first_token (plan m) k) d (each k there) ∙ sym (first_at m k d there))

-- no station has got its token
pub none_yet : (m : Setup) (n : ℕ) → n ≡ stations_of (plan m) → HasFirsts m 0 (replicate {A = Option ℕ} n None)
none_yet m n many =
    record {
      below = λ station there less. absurd (omega arith);
      later = λ station there past. slice_get-get_or (replicate {A = Option ℕ} n None) station None (omega (arith, length-replicate {A = Option ℕ} n None)) ∙ ap (λ x. Some x) (get_or-replicate {A = Option ℕ} n station None None (omega arith));
    }

-- all nodes have written their tokens
pub all_written : (r : ActorsGoByRules) (m : Setup) (xs : List (Option ℕ)) → IsSetup m → 0 < length m.input → length xs ≡ stations_of (plan m) → HasFirsts m (length m.system.nodes - 1) xs → xs ≡ first_tokens (plan m)
all_written r m xs setup some many has =
    firsts_are m xs many
    (λ station there.
    let between = r.between m.system m.placement station setup.system setup.fits there in
    elim (r.starts m.system m.placement station setup.system setup.fits there) [
      | inl h ↦
          (let node : filler_of (plan m) station < length m.system.nodes = h.0 in
          let one : start_count m.placement station ≡ 1 = h.1 in
          has.below station there (omega (arith, between.not_sink)) ∙ ap (λ x. Some x) (sym (some_first m station (omega arith))))
      | inr h ↦
          (let past : length m.system.nodes ≤ filler_of (plan m) station = h.0 in
          let none : start_count m.placement station ≡ 0 = h.1 in
          has.later station there (omega arith) ∙ ap (λ x. Some x) (sym (no_first m station (λ one. omega arith))))
    ])

-- without rows none starts with one
pub none_start : (m : Setup) (n : ℕ) → length m.input ≡ 0 → n ≡ stations_of (plan m) → replicate {A = Option ℕ} n None ≡ first_tokens (plan m)
none_start m n none many =
    firsts_are m (replicate {A = Option ℕ} n None) (length-replicate {A = Option ℕ} n None ∙ many)
    (λ station there.
    slice_get-get_or (replicate {A = Option ℕ} n None) station None (omega (arith, length-replicate {A = Option ℕ} n None))
    ∙ ap (λ x. Some x) (get_or-replicate {A = Option ℕ} n station None None (omega arith) ∙ sym (no_first m station (λ one. omega arith))))

-- all stations have got their tokens in a run that begins with a row
pub all_begin : (r : ActorsGoByRules) (m : Setup) (q : Placing) (row : List Bool) (n : ℕ) (old new : List (Option ℕ)) → Fits q.system q.placement → BeginsWith m q row → n ≡ length q.placement.caps → old ≡ replicate {A = Option ℕ} n None → length new ≡ length old
    → (HasFirsts m 0 old → HasFirsts m (length q.system.nodes - 1) new) → new ≡ first_tokens (plan m)
all_begin r m q row n old new fits of caps none same goes =
    let all : n ≡ stations_of (plan m) = caps ∙ fits.rules.caps ∙ sym (stations_are m q.system q.placement of.system of.placement) in
    let many : length new ≡ stations_of (plan m) = same ∙ ap length none ∙ length-replicate {A = Option ℕ} n None ∙ all in
    let first : HasFirsts m 0 old = subst (λ (xs : List (Option ℕ)). HasFirsts m 0 xs) (sym none) (none_yet m n all) in
    all_written r m new of.rules (slice_get_within m.input 0 row of.first) many
    (subst (λ (x : System). HasFirsts m (length x.nodes - 1) new) (sym of.system) (goes first))

-- a list without a first item
nothing : {A : Type 0} (xs : List A) → slice_get xs 0 ≡ None → length xs ≡ 0
nothing [] is = refl
nothing (x ∷ xs) is = absurd (cc)

-- no station starts with a token in a run without rows
pub none_begin : (m : Setup) (s : System) (p : Placement) (rows : List (List Bool)) (n : ℕ) (new : List (Option ℕ)) → Fits s p → IsSetupOf m s p rows → slice_get rows 0 ≡ None → n ≡ length p.caps → new ≡ replicate {A = Option ℕ} n None → new ≡ first_tokens (plan m)
none_begin m s p rows n new fits of empty caps is =
    is ∙ none_start m n (ap length of.input ∙ nothing rows empty) (caps ∙ fits.rules.caps ∙ sym (stations_are m s p of.system of.placement))
