-- Lists of stations, channel by channel: a node drains the last station of each channel that leads to it, and fills the first of each that comes from it.
use Rattle.std.proofs.Common.{◌≡◌, ℕ, zero, suc, ◌+◌, ◌-◌, ◌<◌, ◌≤◌, ◌==◌, Bool, true, false, cond, List, [], ◌∷◌, ◌++◌, length, take, get_or, map, filter, refl, sym, ◌∙◌, ap, zero-add, add-zero, arith}
use Rattle.std.proofs.Math.Seq.{take-suc}
use Rattle.std.proofs.lemmas.Bool.{eq-eqb, ne_eqb}
use Rattle.std.proofs.lemmas.List.{take_all, map-append}
use Rattle.std.proofs.lemmas.List.Elements.{filter-append}
use Rattle.std.proofs.lemmas.List.Sums.{sum_by_more}
use Rattle.lid_design.specs.Network.{Table}
use Rattle.lid_base.specs.Each.{from_each}
use Rattle.lid_system.specs.declared.System.{System}
use Rattle.lid_system.specs.declared.Channel.{Channel}
use Rattle.lid_system.specs.Systems.{Point, IsWellFormed}
use Rattle.lid_system.specs.Streams.{token_at}
use Rattle.lid_shell_nodes.specs.Nodes.{tokens_to, tokens_from}
use Rattle.lid_stations.specs.declared.placement.Placement.{Placement}
use Rattle.lid_stations.specs.Placements.{links_of, station_count, Fits}
use Rattle.lid_stations.specs.Stations.{Spot, mover, no_channel, channel_at, fills, drains, filler, drainer}
use Rattle.lid_stations.proofs.Spots.{spot_is}
use Rattle.lid_shell_laws.specs.Runs.{drained_by, filled_by, token_of}
use Rattle.lid_shell_laws.proofs.Passing.{last_alone, first_alone}
use Rattle.lid_base.proofs.Each.{each_append}

module _ (relays : List ℕ) (channels : List Channel) (level : length relays ≡ length channels) (passes : ℕ → Bool) (value : ℕ → ℕ) (leads : Channel → Bool) (token : Channel → ℕ) where
  -- the first station of a channel
  abbrev pub first_on : ℕ → ℕ
  first_on c = station_count (take c relays)

  -- what passes of a channel's stations has the value that the channel has
  abbrev pub Agrees : ℕ → Type 0
  Agrees c = map value (filter passes (from_each (λ j. j) (first_on c) (get_or relays c 0 + 1))) ≡ map token (filter leads (get_or channels c no_channel ∷ []))

  abbrev Agree : ℕ → Type 0
  Agree c = map value (filter passes (from_each (λ j. j) 0 (first_on c))) ≡ map token (filter leads (take c channels))

  next_channel : (c : ℕ) → c < length relays → Agrees c → Agree c → Agree (suc c)
  next_channel c below this before =
      let n = first_on c in
      let k = get_or relays c 0 + 1 in
      let stations : first_on (suc c) ≡ n + k = (let e : suc c ≡ c + 1 = omega arith in ap first_on e ∙ sum_by_more (λ (k : ℕ). k + 1) relays c 0 below) in
      let old = from_each (λ j. j) 0 n in
      let new = from_each (λ j. j) n k in
      let here = get_or channels c no_channel in
      ap (λ (m : ℕ). map value (filter passes (from_each (λ j. j) 0 m))) stations
      ∙ ap (λ (xs : List ℕ). map value (filter passes xs)) (each_append (λ j. j) 0 n k)
      ∙ ap (λ (m : ℕ). map value (filter passes (old ++ from_each (λ j. j) m k))) (zero-add n)
      ∙ ap (map value) (filter-append passes old new)
      ∙ map-append value (filter passes old) (filter passes new)
      ∙ ap (λ (xs : List ℕ). xs ++ map value (filter passes new)) before
      ∙ ap (λ (xs : List ℕ). map token (filter leads (take c channels)) ++ xs) this
      ∙ sym (map-append token (filter leads (take c channels)) (filter leads (here ∷ [])))
      ∙ ap (map token) (sym (filter-append leads (take c channels) (here ∷ [])))
      ∙ ap (λ (cs : List Channel). map token (filter leads cs)) (sym (take-suc channels c no_channel (omega (arith, level))))

  agree : ((c : ℕ) → c < length relays → Agrees c) → (c : ℕ) → c ≤ length relays → Agree c
  agree each zero below = refl
  agree each (suc c) below = next_channel c (omega arith) (each c (omega arith)) (agree each c (omega arith))

  -- so what passes of all stations has the values of the channels
  pub all_agree : ((c : ℕ) → c < length relays → Agrees c) → map value (filter passes (from_each (λ j. j) 0 (station_count relays))) ≡ map token (filter leads channels)
  all_agree each =
      ap (λ (ks : List ℕ). map value (filter passes (from_each (λ j. j) 0 (station_count ks)))) (sym (take_all (length relays) relays (omega arith)))
      ∙ agree each (length relays) (omega arith)
      ∙ ap (λ (cs : List Channel). map token (filter leads cs)) (take_all (length relays) channels (omega (arith, level)))

-- where one station passes as a channel does
pub one_token : (value : ℕ → ℕ) (token : Channel → ℕ) (station : ℕ) (c : Channel) (mine its : Bool) → mine ≡ its → value station ≡ token c → map value (cond mine (station ∷ []) []) ≡ map token (cond its (c ∷ []) [])
one_token value token station c true true same is = ap (λ (n : ℕ). n ∷ []) is
one_token value token station c false false same is = refl
one_token value token station c true false same is = cc
one_token value token station c false true same is = cc

module _ (s : System) (p : Placement) (b : Table Point) (v t : ℕ) (well : IsWellFormed s) (fits : Fits s p) (node : v < length s.nodes) where
  abbrev first : ℕ → ℕ
  first c = station_count (take c p.relays)

  drained_at : (c i : ℕ) → c < length p.relays → i ≤ get_or p.relays c 0 → drainer (links_of s) p (first c + i) ≡ drains (links_of s) p c i
  drained_at c i below within = ap (λ (spot : Spot). drains (links_of s) p spot.channel spot.place) (spot_is p.relays (first c + i) c i below within refl)

  filled_at : (c i : ℕ) → c < length p.relays → i ≤ get_or p.relays c 0 → filler (links_of s) p (first c + i) ≡ fills (links_of s) p c i
  filled_at c i below within = ap (λ (spot : Spot). fills (links_of s) p spot.channel spot.place) (spot_is p.relays (first c + i) c i below within refl)

  token_there : (c i : ℕ) → c < length p.relays → i ≤ get_or p.relays c 0 → token_of s p b (first c + i) t ≡ token_at s b (channel_at (links_of s) c) t
  token_there c i below within = ap (λ (spot : Spot). token_at s b (channel_at (links_of s) spot.channel) t) (spot_is p.relays (first c + i) c i below within refl)

  -- a mover is no node
  no_mover : (c i : ℕ) → (mover (links_of s) p c i == v) ≡ false
  no_mover c i = ne_eqb (mover (links_of s) p c i) v (λ is. omega arith)

  drains_last : (c : ℕ) → drains (links_of s) p c (get_or p.relays c 0) ≡ (channel_at (links_of s) c).to
  drains_last c = ap (λ (last : Bool). cond last (channel_at (links_of s) c).to (mover (links_of s) p c (get_or p.relays c 0))) (eq-eqb (get_or p.relays c 0) (get_or p.relays c 0) refl)

  drains_before : (c i : ℕ) → i < get_or p.relays c 0 → drains (links_of s) p c i ≡ mover (links_of s) p c i
  drains_before c i less = ap (λ (last : Bool). cond last (channel_at (links_of s) c).to (mover (links_of s) p c i)) (ne_eqb i (get_or p.relays c 0) (λ is. omega arith))

  drained_on : (c : ℕ) → c < length p.relays → Agrees p.relays s.channels fits.counts (λ n. drainer (links_of s) p n == v) (λ n. token_of s p b n t) (λ d. d.to == v) (λ d. token_at s b d t) c
  drained_on c below =
      let k = get_or p.relays c 0 in
      let is : drainer (links_of s) p (first c + k) ≡ (channel_at (links_of s) c).to = drained_at c k below (omega arith) ∙ drains_last c in
      ap (map (λ n. token_of s p b n t)) (last_alone (λ n. drainer (links_of s) p n == v) (first c) k others)
      ∙ one_token (λ n. token_of s p b n t) (λ d. token_at s b d t) (first c + k) (channel_at (links_of s) c) (drainer (links_of s) p (first c + k) == v) ((channel_at (links_of s) c).to == v) (ap (λ (n : ℕ). n == v) is) (token_there c k below (omega arith))
    where
      by_place : (j i : ℕ) → first c + i ≡ j → i < get_or p.relays c 0 → (drainer (links_of s) p j == v) ≡ false
      by_place j i is less = ap (λ (n : ℕ). drainer (links_of s) p n == v) (sym is) ∙ ap (λ (n : ℕ). n == v) (drained_at c i below (omega arith) ∙ drains_before c i less) ∙ no_mover c i

      others : (j : ℕ) → first c ≤ j → j < first c + get_or p.relays c 0 → (drainer (links_of s) p j == v) ≡ false
      others j least most = by_place j (j - first c) (omega arith) (omega arith)

  filled_on : (c : ℕ) → c < length p.relays → Agrees p.relays s.channels fits.counts (λ n. filler (links_of s) p n == v) (λ n. token_of s p b n t) (λ d. d.from == v) (λ d. token_at s b d t) c
  filled_on c below =
      let is : filler (links_of s) p (first c) ≡ (channel_at (links_of s) c).from = sym (ap (filler (links_of s) p) (add-zero (first c))) ∙ filled_at c 0 below (omega arith) in
      let token : token_of s p b (first c) t ≡ token_at s b (channel_at (links_of s) c) t = sym (ap (λ (n : ℕ). token_of s p b n t) (add-zero (first c))) ∙ token_there c 0 below (omega arith) in
      ap (map (λ n. token_of s p b n t)) (first_alone (λ n. filler (links_of s) p n == v) (first c) (get_or p.relays c 0) others)
      ∙ one_token (λ n. token_of s p b n t) (λ d. token_at s b d t) (first c) (channel_at (links_of s) c) (filler (links_of s) p (first c) == v) ((channel_at (links_of s) c).from == v) (ap (λ (n : ℕ). n == v) is) token
    where
      by_place : (j i : ℕ) → first c + suc i ≡ j → suc i ≤ get_or p.relays c 0 → (filler (links_of s) p j == v) ≡ false
      by_place j i is less = ap (λ (n : ℕ). filler (links_of s) p n == v) (sym is) ∙ ap (λ (n : ℕ). n == v) (filled_at c (suc i) below less) ∙ no_mover c i

      others : (j : ℕ) → first c + 1 ≤ j → j < (first c + 1) + get_or p.relays c 0 → (filler (links_of s) p j == v) ≡ false
      others j least most = by_place j (j - (first c + 1)) (omega arith) (omega arith)

  pub drains_channels : map (λ station. token_of s p b station t) (drained_by (links_of s) p v) ≡ tokens_to s b v t
  drains_channels = all_agree p.relays s.channels fits.counts (λ n. drainer (links_of s) p n == v) (λ n. token_of s p b n t) (λ d. d.to == v) (λ d. token_at s b d t) drained_on

  pub fills_channels : map (λ station. token_of s p b station t) (filled_by (links_of s) p v) ≡ tokens_from s b v t
  fills_channels = all_agree p.relays s.channels fits.counts (λ n. filler (links_of s) p n == v) (λ n. token_of s p b n t) (λ d. d.from == v) (λ d. token_at s b d t) filled_on
