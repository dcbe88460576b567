-- The stations that a node drains and fills, channel by channel.
use Rattle.std.proofs.Common.{◌≡◌, ℕ, suc, ◌+◌, ◌-◌, ◌<◌, ◌≤◌, ◌==◌, Bool, false, cond, List, [], ◌∷◌, ◌++◌, length, take, get_or, filter, Vec, Global, refl, sym, ◌∙◌, ap, subst, zero-add, add-zero, arith}
use Rattle.std.proofs.lemmas.Bool.{eq-eqb, ne_eqb}
use Rattle.std.proofs.lemmas.List.Elements.{filter-append}
use Rattle.std.proofs.lemmas.List.Sums.{sum_by_more, sum_by_more_le}
use Rattle.lid_base.specs.Each.{from_each}
use Rattle.lid_system.specs.declared.System.{System}
use Rattle.lid_system.specs.declared.Channel.{Channel}
use Rattle.lid_station.specs.declared.looks.Side.{Side}
use Rattle.lid_station.specs.declared.looks.Side.TheVariants.{Drain, Fill}
use Rattle.lid_stations.specs.declared.placement.Placement.{Placement}
use Rattle.lid_stations.specs.Placements.{links_of, station_count, Fits}
use Rattle.lid_stations.specs.Stations.{Spot, mover, channel_at, fills, drains, filler, drainer}
use Rattle.lid_stations.proofs.Spots.{spot_is}
use Rattle.lid_shell_laws.proofs.Passing.{last_alone, first_alone}
use Rattle.lid_walk.specs.Inside.{drained_below, filled_below, ends_below, end_of, HasEnd, AreEndsBelow}
use Rattle.lid_base.proofs.Each.{each_append}

-- what passes of the stations of a channel comes after what passes of those before
joined : (f : ℕ → Bool) (n k : ℕ) → filter f (from_each (λ j. j) 0 (n + k)) ≡ filter f (from_each (λ j. j) 0 n) ++ filter f (from_each (λ j. j) n k)
joined f n k =
    ap (filter f) (each_append (λ j. j) 0 n k)
    ∙ filter-append f (from_each (λ j. j) 0 n) (from_each (λ j. j) (0 + n) k)
    ∙ ap (λ (m : ℕ). filter f (from_each (λ j. j) 0 n) ++ filter f (from_each (λ j. j) m k)) (zero-add n)

module _ (s : System) (p : Placement) (fits : Fits s p) (c : ℕ) (there : c < length p.relays) where
  -- the first station of a channel, and how many relay stations stand there
  abbrev pub first : ℕ
  first = station_count (take c p.relays)

  abbrev pub more : ℕ
  more = get_or p.relays c 0

  -- all stations of this channel are stations
  pub within : first + (more + 1) ≤ station_count p.relays
  within = sum_by_more_le (λ (k : ℕ). k + 1) p.relays c 0 there

  pub next_first : station_count (take (c + 1) p.relays) ≡ first + (more + 1)
  next_first = sum_by_more (λ (k : ℕ). k + 1) p.relays c 0 there

  drained_at : (i : ℕ) → i ≤ more → drainer (links_of s) p (first + i) ≡ drains (links_of s) p c i
  drained_at i within = ap (λ (spot : Spot). drains (links_of s) p spot.channel spot.place) (spot_is p.relays (first + i) c i there within refl)

  filled_at : (i : ℕ) → i ≤ more → filler (links_of s) p (first + i) ≡ fills (links_of s) p c i
  filled_at i within = ap (λ (spot : Spot). fills (links_of s) p spot.channel spot.place) (spot_is p.relays (first + i) c i there within refl)

  drains_last : drains (links_of s) p c more ≡ (channel_at (links_of s) c).to
  drains_last = ap (λ (last : Bool). cond last (channel_at (links_of s) c).to (mover (links_of s) p c more)) (eq-eqb more more refl)

  drains_before : (i : ℕ) → i < more → drains (links_of s) p c i ≡ mover (links_of s) p c i
  drains_before i less = ap (λ (last : Bool). cond last (channel_at (links_of s) c).to (mover (links_of s) p c i)) (ne_eqb i more (λ is. omega arith))

  -- a mover drains each station but the last
  pub mover_drains : (i : ℕ) → i < more → drainer (links_of s) p (first + i) ≡ mover (links_of s) p c i
  mover_drains i less = drained_at i (omega arith) ∙ drains_before i less

  module _ (v : ℕ) (node : v < length s.nodes) where
    -- a mover is no node
    no_mover : (i : ℕ) → (mover (links_of s) p c i == v) ≡ false
    no_mover i = ne_eqb (mover (links_of s) p c i) v (λ is. omega arith)

    drained_on : filter (λ n. drainer (links_of s) p n == v) (from_each (λ n. n) first (more + 1)) ≡ cond ((channel_at (links_of s) c).to == v) ((first + more) ∷ []) []
    drained_on =
        last_alone (λ n. drainer (links_of s) p n == v) first more others
        ∙ ap (λ (n : ℕ). cond (n == v) ((first + more) ∷ []) []) (drained_at more (omega arith) ∙ drains_last)
      where
        by_place : (j i : ℕ) → first + i ≡ j → i < more → (drainer (links_of s) p j == v) ≡ false
        by_place j i is less = ap (λ (n : ℕ). drainer (links_of s) p n == v) (sym is) ∙ ap (λ (n : ℕ). n == v) (mover_drains i less) ∙ no_mover i

        others : (j : ℕ) → first ≤ j → j < first + more → (drainer (links_of s) p j == v) ≡ false
        others j least most = by_place j (j - first) (omega arith) (omega arith)

    filled_on : filter (λ n. filler (links_of s) p n == v) (from_each (λ n. n) first (more + 1)) ≡ cond ((channel_at (links_of s) c).from == v) (first ∷ []) []
    filled_on =
        first_alone (λ n. filler (links_of s) p n == v) first more others
        ∙ ap (λ (n : ℕ). cond (n == v) (first ∷ []) []) (sym (ap (filler (links_of s) p) (add-zero first)) ∙ filled_at 0 (omega arith))
      where
        by_place : (j i : ℕ) → first + suc i ≡ j → suc i ≤ more → (filler (links_of s) p j == v) ≡ false
        by_place j i is less = ap (λ (n : ℕ). filler (links_of s) p n == v) (sym is) ∙ ap (λ (n : ℕ). n == v) (filled_at (suc i) less) ∙ no_mover i

        others : (j : ℕ) → first + 1 ≤ j → j < (first + 1) + more → (filler (links_of s) p j == v) ≡ false
        others j least most = by_place j (j - (first + 1)) (omega arith) (omega arith)

    -- the stations that it drains, with the last of this channel where that leads to it
    drained_next : (number k to : ℕ) (old new : List ℕ) → number ≡ first → k ≡ more → to ≡ (channel_at (links_of s) c).to → old ≡ drained_below (links_of s) p v number → new ≡ old ++ cond (to == v) ((number + k) ∷ []) []
        → new ≡ drained_below (links_of s) p v (number + k + 1)
    drained_next number k to old new is many leads was pushed =
        let all : first + (more + 1) ≡ number + k + 1 = omega arith in
        let last : number + k ≡ first + more = omega arith in
        pushed
        ∙ ap (λ (xs : List ℕ). xs ++ cond (to == v) ((number + k) ∷ []) []) (was ∙ ap (drained_below (links_of s) p v) is)
        ∙ ap (λ (n : ℕ). drained_below (links_of s) p v first ++ cond (n == v) ((number + k) ∷ []) []) leads
        ∙ ap (λ (n : ℕ). drained_below (links_of s) p v first ++ cond ((channel_at (links_of s) c).to == v) (n ∷ []) []) last
        ∙ ap (λ (xs : List ℕ). drained_below (links_of s) p v first ++ xs) (sym drained_on)
        ∙ sym (joined (λ n. drainer (links_of s) p n == v) first (more + 1))
        ∙ ap (drained_below (links_of s) p v) all

    -- those that it fills, with the first of this channel where that comes from it
    filled_next : (number k from : ℕ) (old new : List ℕ) → number ≡ first → k ≡ more → from ≡ (channel_at (links_of s) c).from → old ≡ filled_below (links_of s) p v number → new ≡ old ++ cond (from == v) (number ∷ []) []
        → new ≡ filled_below (links_of s) p v (number + k + 1)
    filled_next number k from old new is many comes was pushed =
        let all : first + (more + 1) ≡ number + k + 1 = omega arith in
        pushed
        ∙ ap (λ (xs : List ℕ). xs ++ cond (from == v) (number ∷ []) []) (was ∙ ap (filled_below (links_of s) p v) is)
        ∙ ap (λ (n : ℕ). filled_below (links_of s) p v first ++ cond (n == v) (number ∷ []) []) comes
        ∙ ap (λ (n : ℕ). filled_below (links_of s) p v first ++ cond ((channel_at (links_of s) c).from == v) (n ∷ []) []) is
        ∙ ap (λ (xs : List ℕ). filled_below (links_of s) p v first ++ xs) (sym filled_on)
        ∙ sym (joined (λ n. filler (links_of s) p n == v) first (more + 1))
        ∙ ap (filled_below (links_of s) p v) all

    -- those of which it has one side, with that of this channel
    pub ends_next : (side : Side) (number k : ℕ) (d : Channel) (old new : List ℕ) → number ≡ first → k ≡ more → d ≡ channel_at (links_of s) c → old ≡ ends_below side (links_of s) p v number → new ≡ old ++ end_of side d v number (number + k)
        → new ≡ ends_below side (links_of s) p v (number + k + 1)
    ends_next Drain number k d old new is many same was pushed = drained_next number k d.to old new is many (ap (λ (e : Channel). e.to) same) was pushed
    ends_next Fill number k d old new is many same was pushed = filled_next number k d.from old new is many (ap (λ (e : Channel). e.from) same) was pushed

  -- the same of all nodes, where the list of each got its station of this channel
  pub all_next : (side : Side) (number k : ℕ) (d : Channel) (old new : List (Vec ℕ Global)) → number ≡ first → k ≡ more → d ≡ channel_at (links_of s) c → AreEndsBelow side (record { system = s; placement = p }) number old → HasEnd side d number (number + k) old new
      → AreEndsBelow side (record { system = s; placement = p }) (number + k + 1) new
  all_next side number k d old new is many same was pushed = record {
    many = pushed.many ∙ was.many;
    each = λ v e node.
        ends_next v node side number k d (get_or old v e).items (get_or new v e).items is many same (was.each v e node)
        (pushed.each v e (subst (λ (n : ℕ). v < n) (sym was.many) node));
  }
