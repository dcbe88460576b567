-- Actors to which stations were joined, and the stations as they were laid.
use Rattle.std.proofs.Common.{◌≡◌, ℕ, ◌+◌, ◌<◌, ◌≤◌, ◌==◌, Bool, true, false, cond, List, [], ◌∷◌, ◌++◌, length, get_or, set, refl, sym, ◌∙◌, ap, subst, arith}
use Rattle.std.proofs.lemmas.Option.{slice_get-get_or, get_or_from_slice_get}
use Rattle.std.proofs.lemmas.Bool.{eq-eqb, ne_eqb}
use Rattle.std.proofs.lemmas.List.{append-nil, length-set, length_push}
use Rattle.std.proofs.lemmas.List.Sums.{length-filter, count_by-le-length}
use Rattle.lid_base.specs.Each.{from_each}
use Rattle.lid_system.specs.declared.System.{System}
use Rattle.lid_system.specs.Systems.{IsWellFormed}
use Rattle.lid_stations.specs.declared.placement.Placement.{Placement}
use Rattle.lid_stations.specs.Placements.{Links, links_of, station_count, Fits}
use Rattle.lid_stations.specs.Stations.{actor_count, filler, drainer, capacity}
use Rattle.lid_stations.proofs.Spots.{stands_between}
use Rattle.lid_clock.specs.declared.actor.ClockActor.{ClockActor}
use Rattle.lid_clock.specs.declared.station.ClockStation.{ClockStation}
use Rattle.lid_clock.specs.Starts.{IsNew, drained_of, filled_of, IsActorJoined, AreJoined, IsEmptyBetween, IsLaid, HasLaid, KeepsNew, IsJoinedBy, Joins, IsNextSlot, CanJoin}
use Rattle.lid_base.proofs.Upto.{each_set}
use Rattle.lid_base.proofs.Places.{item_at, each_push}
use Rattle.lid_base.proofs.Each.{each_filtered, each_length}

-- an actor that neither drains nor fills a station
none_joined : (station : ℕ) (drains fills : Bool) (a : ClockActor) → drains ≡ false → fills ≡ false → IsJoinedBy drains fills station a a
none_joined station drains fills a no_in no_out =
    record {
      ins = sym (ap (λ (b : Bool). a.ins.items ++ cond b (station ∷ []) []) no_in ∙ append-nil a.ins.items);
      outs = sym (ap (λ (b : Bool). a.outs.items ++ cond b (station ∷ []) []) no_out ∙ append-nil a.outs.items);
      rest = refl;
    }

-- an actor that fills it
fills_joined : (station : ℕ) (fills : Bool) (a b : ClockActor) → fills ≡ true → b.outs.items ≡ a.outs.items ++ station ∷ [] → b ≡ record a { outs = b.outs } → IsJoinedBy false fills station a b
fills_joined station fills a b so outs rest =
    let same : b.ins ≡ a.ins = ap (λ (x : ClockActor). x.ins) rest in
    record {
      ins = ap (λ i. i.items) same ∙ sym (append-nil a.ins.items);
      outs = outs ∙ sym (ap (λ (b : Bool). a.outs.items ++ cond b (station ∷ []) []) so);
      rest = rest ∙ ap (λ i. record a { ins = i; outs = b.outs }) (sym same);
    }

-- an actor that drains it
drains_joined : (station : ℕ) (drains : Bool) (a b : ClockActor) → drains ≡ true → b.ins.items ≡ a.ins.items ++ station ∷ [] → b ≡ record a { ins = b.ins } → IsJoinedBy drains false station a b
drains_joined station drains a b so ins rest =
    let same : b.outs ≡ a.outs = ap (λ (x : ClockActor). x.outs) rest in
    record {
      ins = ins ∙ sym (ap (λ (b : Bool). a.ins.items ++ cond b (station ∷ []) []) so);
      outs = ap (λ i. i.items) same ∙ sym (append-nil a.outs.items);
      rest = rest ∙ ap (λ i. record a { ins = b.ins; outs = i }) (sym same);
    }

-- one after the other
both_joined : (station : ℕ) (drains fills : Bool) (a b c : ClockActor) → IsJoinedBy false fills station a b → IsJoinedBy drains false station b c → IsJoinedBy drains fills station a c
both_joined station drains fills a b c first second =
    record {
      ins = second.ins ∙ ap (λ (xs : List ℕ). xs ++ cond drains (station ∷ []) []) (first.ins ∙ append-nil a.ins.items);
      outs = second.outs ∙ append-nil b.outs.items ∙ first.outs;
      rest = second.rest ∙ ap (λ (x : ClockActor). record x { ins = c.ins; outs = c.outs }) first.rest;
    }

pub joins : (actors : List ClockActor) (station filler drainer : ℕ) (d e x y : ClockActor) → filler < length actors → drainer < length actors
    → x.outs.items ≡ (get_or actors filler d).outs.items ++ station ∷ [] → x ≡ record (get_or actors filler d) { outs = x.outs }
    → y.ins.items ≡ (get_or (set actors filler x) drainer e).ins.items ++ station ∷ [] → y ≡ record (get_or (set actors filler x) drainer e) { ins = y.ins }
    → Joins station filler drainer actors (set (set actors filler x) drainer y)
joins actors station filler drainer d e x y filled drained outs out_rest ins in_rest =
    let long : length (set actors filler x) ≡ length actors = length-set actors filler x in
    let fill = each_set (λ v old new. IsJoinedBy false (filler == v) station old new) actors filler (get_or actors filler d) x
    (slice_get-get_or actors filler d filled)
    (fills_joined station (filler == filler) (get_or actors filler d) x (eq-eqb filler filler refl) outs out_rest)
    (λ v z other there. none_joined station false (filler == v) z refl (ne_eqb filler v (λ is. other (sym is)))) in
    let drain = each_set (λ v old new. IsJoinedBy (drainer == v) false station old new) (set actors filler x) drainer (get_or (set actors filler x) drainer e) y
    (slice_get-get_or (set actors filler x) drainer e (omega arith))
    (drains_joined station (drainer == drainer) (get_or (set actors filler x) drainer e) y (eq-eqb drainer drainer refl) ins in_rest)
    (λ v z other there. none_joined station (drainer == v) false z (ne_eqb drainer v (λ is. other (sym is))) refl) in
    record {
      many = length-set (set actors filler x) drainer y ∙ long;
      each = λ v z there.
          let second = drain v z there in
          let first = fill v second.0 second.1 in
          (first.0, first.1, both_joined station (drainer == v) (filler == v) first.0 second.0 z first.2 second.2);
    }

module _ (l : Links) (p : Placement) where
  -- an actor to which the next station was joined
  joined_next : (n v : ℕ) (a b : ClockActor) (from to : ℕ) → from ≡ filler l p n → to ≡ drainer l p n → IsActorJoined l p n v a → IsJoinedBy (to == v) (from == v) n a b → IsActorJoined l p (n + 1) v b
  joined_next n v a b from to fills drains was by =
      record {
        drains =
            by.ins
            ∙ ap (λ (xs : List ℕ). xs ++ cond (to == v) (n ∷ []) []) was.drains
            ∙ ap (λ (u : ℕ). drained_of l p n v ++ cond (u == v) (n ∷ []) []) drains
            ∙ sym (each_filtered (λ station. drainer l p station == v) n);
        fills =
            by.outs
            ∙ ap (λ (xs : List ℕ). xs ++ cond (from == v) (n ∷ []) []) was.fills
            ∙ ap (λ (u : ℕ). filled_of l p n v ++ cond (u == v) (n ∷ []) []) fills
            ∙ sym (each_filtered (λ station. filler l p station == v) n);
      }

  pub all_joined : (n from to : ℕ) (old new : List ClockActor) → from ≡ filler l p n → to ≡ drainer l p n → AreJoined l p n old → Joins n from to old new → AreJoined l p (n + 1) new
  all_joined n from to old new fills drains was by =
      record {
        many = by.many ∙ was.many;
        each = λ v b there. let a = by.each v b there in joined_next n v a.0 b from to fills drains (was.each v a.0 a.1) a.2;
      }

  -- the next station was laid
  pub laid_next : (n from to cap : ℕ) (old new : List ClockActor) (stations : List ClockStation) (x : ClockStation)
      → from ≡ filler l p n → to ≡ drainer l p n → cap ≡ capacity p n → from < length old
      → HasLaid l p n old stations → Joins n from to old new → IsEmptyBetween from to cap x → IsNextSlot from old x.slot
      → HasLaid l p (n + 1) new (stations ++ x ∷ [])
  laid_next n from to cap old new stations x fills drains caps there was by empty slot =
      let a = item_at old from there in
      let own : IsActorJoined l p n from a.0 = was.joined.each from a.0 a.1 in
      let next : IsLaid l p n x = record {
        empty = record { filled = empty.filled ∙ fills; drained = empty.drained ∙ drains; put_is = empty.put_is; taken_is = empty.taken_is; size = empty.size ∙ caps };
        slot = slot a.0 a.1 ∙ ap length own.fills ∙ ap (λ (u : ℕ). length (filled_of l p n u)) fills;
      } in
      record {
        joined = all_joined n from to old new fills drains was.joined by;
        many = length_push stations x ∙ ap (λ (m : ℕ). m + 1) was.many;
        each = each_push (λ i y. IsLaid l p i y) stations x was.each (subst (λ (m : ℕ). IsLaid l p m x) (sym was.many) next);
      }

-- actors that were new still are
pub keeps_new : (s : System) (station from to : ℕ) (old new : List ClockActor) → Joins station from to old new → KeepsNew s old new
keeps_new s station from to old new by rows first are v b there =
    let a = by.each v b there in
    let was : IsNew s rows first v a.0 = are v a.0 a.1 in
    subst (λ (x : ClockActor). IsNew s rows first v x) (sym a.2.rest) (record { capped = was.capped; fired_is = was.fired_is; rests = was.rests; is = was.is })

-- the next station can be joined
pub can_join : (s : System) (p : Placement) (n from to : ℕ) (actors : List ClockActor) → IsWellFormed s → Fits s p → n < station_count p.relays → from ≡ filler (links_of s) p n → to ≡ drainer (links_of s) p n
    → AreJoined (links_of s) p n actors → CanJoin from to actors
can_join s p n from to actors well fits there fills drains joined =
    let between = stands_between s p well fits n there in
    let filled : filler (links_of s) p n < actor_count (links_of s) p = between.filled in
    let drained : drainer (links_of s) p n < actor_count (links_of s) p = between.drained in
    let many : length actors ≡ actor_count (links_of s) p = joined.many in
    let most : station_count p.relays ≤ 65536 = fits.rules.most in
    record {
      filled = omega arith;
      drained = omega arith;
      few = λ a at.
          let own : IsActorJoined (links_of s) p n from a = joined.each from a at in
          let as_many : length a.outs.items ≡ length (filled_of (links_of s) p n from) = ap length own.fills in
          let counted = length-filter (λ station. filler (links_of s) p station == from) (from_each (λ j. j) 0 n) in
          let least = count_by-le-length (λ station. filler (links_of s) p station == from) (from_each (λ j. j) 0 n) in
          let long = each_length (λ (j : ℕ). j) 0 n in
          omega arith;
    }

-- the slot of a station is how many stations its filler had
pub slot_is : (actors : List ClockActor) (filler slot : ℕ) (d : ClockActor) → filler < length actors → slot ≡ length (get_or actors filler d).outs.items → IsNextSlot filler actors slot
slot_is actors filler slot d within is b there = is ∙ ap (λ (x : ClockActor). length x.outs.items) (get_or_from_slice_get actors filler b d there)
