-- The stations that actors drain and fill, as they are joined one by one.
use Rattle.std.proofs.Common.{◌≡◌, ℕ, ◌+◌, ◌==◌, Bool, true, false, cond, List, [], ◌∷◌, ◌++◌, set, map, refl, sym, ◌∙◌, ap, subst}
use Rattle.std.specs.Prelude.{Some, slice_get}
use Rattle.std.proofs.lemmas.Option.{none-some}
use Rattle.std.proofs.lemmas.Bool.{eq-eqb, ne_eqb}
use Rattle.std.proofs.lemmas.List.{append-nil, length-set, map-append}
use Rattle.lid_emit_circuit.specs.Plans.{CircuitPlan}
use Rattle.lid_emit_cells.specs.declared.actor.Fill.{Fill}
use Rattle.lid_emit_cells.specs.declared.station.Station.{Station}
use Rattle.lid_emit_cells.specs.Matches.{IsStationOf, station_of}
use Rattle.lid_emit_layout.specs.declared.ends.Ends.{Ends}
use Rattle.lid_emit_layout.specs.Ends.{AreUnjoined, stations_at, IsActorJoined, AreJoined, IsJoinedBy, Joins}
use Rattle.lid_base.proofs.Upto.{each_set}
use Rattle.lid_base.proofs.Places.{each_push}
use Rattle.lid_base.proofs.Each.{each_filtered}

abbrev fill_of : ℕ → Station → Fill
fill_of s x = record { station = s; capacity = x.capacity }

-- an actor that neither drains nor fills a station
none_joined : (s : ℕ) (x : Station) (drains fills : Bool) (a : Ends) → drains ≡ false → fills ≡ false → IsJoinedBy drains fills s x a a
none_joined s x drains fills a no_in no_out = record {
  ins = sym (ap (λ (b : Bool). a.ins.items ++ cond b (s ∷ []) []) no_in ∙ append-nil a.ins.items);
  outs = sym (ap (λ (b : Bool). a.outs.items ++ cond b (fill_of s x ∷ []) []) no_out ∙ append-nil a.outs.items);
}

-- an actor that fills it
fills_joined : (s : ℕ) (x : Station) (fills : Bool) (a b : Ends) → fills ≡ true → b.ins.items ≡ a.ins.items → b.outs.items ≡ a.outs.items ++ fill_of s x ∷ [] → IsJoinedBy false fills s x a b
fills_joined s x fills a b so ins outs = record {
  ins = ins ∙ sym (append-nil a.ins.items);
  outs = outs ∙ sym (ap (λ (b : Bool). a.outs.items ++ cond b (fill_of s x ∷ []) []) so);
}

-- an actor that drains it
drains_joined : (s : ℕ) (x : Station) (drains : Bool) (a b : Ends) → drains ≡ true → b.ins.items ≡ a.ins.items ++ s ∷ [] → b.outs.items ≡ a.outs.items → IsJoinedBy drains false s x a b
drains_joined s x drains a b so ins outs = record {
  ins = ins ∙ sym (ap (λ (b : Bool). a.ins.items ++ cond b (s ∷ []) []) so);
  outs = outs ∙ sym (append-nil a.outs.items);
}

-- one after the other
both_joined : (s : ℕ) (x : Station) (drains fills : Bool) (a b c : Ends) → IsJoinedBy false fills s x a b → IsJoinedBy drains false s x b c → IsJoinedBy drains fills s x a c
both_joined s x drains fills a b c first second = record {
  ins = second.ins ∙ ap (λ (xs : List ℕ). xs ++ cond drains (s ∷ []) []) (first.ins ∙ append-nil a.ins.items);
  outs = second.outs ∙ append-nil b.outs.items ∙ first.outs;
}

-- a station was joined to its filler and to its drainer
pub joins : (ends : List Ends) (s : ℕ) (x : Station) (old mid fill drain : Ends)
    → slice_get ends x.filler ≡ Some old → slice_get (set ends x.filler fill) x.drainer ≡ Some mid
    → fill.ins.items ≡ old.ins.items → fill.outs.items ≡ old.outs.items ++ fill_of s x ∷ []
    → drain.ins.items ≡ mid.ins.items ++ s ∷ [] → drain.outs.items ≡ mid.outs.items
    → Joins s x ends (set (set ends x.filler fill) x.drainer drain)
joins ends s x old mid fill drain filled drained fill_ins fill_outs drain_ins drain_outs =
    let first = each_set (λ v a b. IsJoinedBy false (x.filler == v) s x a b) ends x.filler old fill filled
    (fills_joined s x (x.filler == x.filler) old fill (eq-eqb x.filler x.filler refl) fill_ins fill_outs)
    (λ v z other there. none_joined s x false (x.filler == v) z refl (ne_eqb x.filler v (λ is. other (sym is)))) in
    let second = each_set (λ v a b. IsJoinedBy (x.drainer == v) false s x a b) (set ends x.filler fill) x.drainer mid drain drained
    (drains_joined s x (x.drainer == x.drainer) mid drain (eq-eqb x.drainer x.drainer refl) drain_ins drain_outs)
    (λ v z other there. none_joined s x (x.drainer == v) false z (ne_eqb x.drainer v (λ is. other (sym is))) refl) in
    record {
      many = length-set (set ends x.filler fill) x.drainer drain ∙ length-set ends x.filler fill;
      each = λ v z there.
          let after = second v z there in
          let before = first v after.0 after.1 in
          (before.0, before.1, both_joined s x (x.drainer == v) (x.filler == v) before.0 after.0 z before.2 after.2);
    }

-- the stations at a side of an actor, of one station more
at_side : (side : ℕ → ℕ) (n v w : ℕ) → side n ≡ w → stations_at side (n + 1) v ≡ stations_at side n v ++ cond (w == v) (n ∷ []) []
at_side side n v w is = each_filtered (λ s. side s == v) n ∙ ap (λ (u : ℕ). stations_at side n v ++ cond (u == v) (n ∷ []) []) is

filled_stations : (fills : Bool) (n : ℕ) (x : Station) → map station_of (cond fills (fill_of n x ∷ []) []) ≡ cond fills (n ∷ []) []
filled_stations true n x = refl
filled_stations false n x = refl

-- what holds of the stations filled holds where another was added or not
caps_kept : (q : CircuitPlan) (n : ℕ) (x : Station) (fills : Bool) (outs : List Fill) → q.capacity n ≡ x.capacity
    → ((i : ℕ) (f : Fill) → slice_get outs i ≡ Some f → q.capacity f.station ≡ f.capacity)
    → (i : ℕ) (f : Fill) → slice_get (outs ++ cond fills (fill_of n x ∷ []) []) i ≡ Some f → q.capacity f.station ≡ f.capacity
caps_kept q n x true outs is were i f at = each_push (λ i f. q.capacity f.station ≡ f.capacity) outs (fill_of n x) were is i f at
caps_kept q n x false outs is were i f at = were i f (subst (λ (xs : List Fill). slice_get xs i ≡ Some f) (append-nil outs) at)

joined_next : (q : CircuitPlan) (n v : ℕ) (x : Station) (a b : Ends) → IsStationOf q n x → IsActorJoined q n v a → IsJoinedBy (x.drainer == v) (x.filler == v) n x a b → IsActorJoined q (n + 1) v b
joined_next q n v x a b is was by = record {
  ins =
      at_side q.drainer n v x.drainer is.drainer
      ∙ ap (λ (xs : List ℕ). xs ++ cond (x.drainer == v) (n ∷ []) []) was.ins
      ∙ sym by.ins;
  outs =
      at_side q.filler n v x.filler is.filler
      ∙ ap (λ (xs : List ℕ). xs ++ cond (x.filler == v) (n ∷ []) []) was.outs
      ∙ ap (λ (xs : List ℕ). map station_of a.outs.items ++ xs) (sym (filled_stations (x.filler == v) n x))
      ∙ sym (map-append station_of a.outs.items (cond (x.filler == v) (fill_of n x ∷ []) []))
      ∙ ap (map station_of) (sym by.outs);
  capacities = λ i f at. caps_kept q n x (x.filler == v) a.outs.items is.capacity was.capacities i f (subst (λ (xs : List Fill). slice_get xs i ≡ Some f) by.outs at);
}

-- all actors, to which another station was joined
pub all_joined : (q : CircuitPlan) (n : ℕ) (x : Station) (old new : List Ends) → IsStationOf q n x → AreJoined q n old → Joins n x old new → AreJoined q (n + 1) new
all_joined q n x old new is were by v b there = let a = by.each v b there in joined_next q n v x a.0 b is (were v a.0 a.1) a.2

-- actors to which no station is joined
pub none_yet : (q : CircuitPlan) (actors : ℕ) (ends : List Ends) → AreUnjoined actors ends → AreJoined q 0 ends
none_yet q actors ends are v e at =
    let own = are.each v e at in
    record {
      ins = sym own.0;
      outs = ap (map station_of) (sym own.1);
      capacities = λ i f there. absurd (none-some f (subst (λ (fs : List Fill). slice_get fs i ≡ Some f) own.1 there));
    }
