-- Each wire of a plan that no input drives has one cell.
use Rattle.std.proofs.Common.{◌≡◌, ℕ, zero, suc, ◌+◌, ◌<◌, ◌≤◌, ◌==◌, ◌⊎◌, inl, inr, Bool, true, false, not, ◌&&◌, cond, List, [], ◌∷◌, ◌++◌, length, map, Some, slice_get, refl, sym, ◌∙◌, ap, subst, arith}
use Rattle.std.specs.Prelude.{Option, nat_lt, flat_map}
use Rattle.std.specs.Option.{option_map_or}
use Rattle.std.specs.List.{AllByRecursion}
use Rattle.std.proofs.lemmas.Bool.{eq-eqb, lt-ltb, le-ltb, cases_lt}
use Rattle.std.proofs.lemmas.List.{length-map}
use Rattle.lid_base.specs.Lists.{Among}
use Rattle.lid_base.proofs.Lists.{all_among, among_get, get_among, among_alone}
use Rattle.lid_cover.specs.Cover.{IsCover}
use Rattle.lid_design.specs.declared.Flat.{Flat}
use Rattle.lid_design.specs.declared.FlatLatch.{FlatLatch}
use Rattle.lid_design.specs.declared.FlatCover.{FlatCover}
use Rattle.lid_design.specs.Network.{Driver, from_latch, from_cover}
use Rattle.lid_design.specs.Flat.{flat_drivers, IsFlatCover}
use Rattle.lid_design.proofs.Parts.{latch_drives, cover_drives}
use Rattle.lid_emit_circuit.specs.Wires.{Wire, entry, given, offer, block, steady, may, fire, level, grown, place, moved, now, kept, later, shown, valid, stop, ActorEnd, drains, fills}
use Rattle.lid_emit_circuit.specs.Gates.{constant, buffer, negation, both, without, choice, count, move}
use Rattle.lid_emit_circuit.specs.Plans.{CircuitPlan, ends}
use Rattle.lid_emit_circuit.specs.Network.{sink, link, last_link, gate, flop, level_in, place_drivers, now_from, kept_from, later_from, within, emitted}
use Rattle.lid_emit_circuit.specs.Carried.{IsPlan}
use Rattle.lid_emit_circuit.proofs.Firing.{end_drains, end_fills}
use Rattle.lid_emit_circuit.specs.Known.{IsKnown, IsLatchNet, IsCoverNet, is_outer, is_late}
use Rattle.lid_emit_circuit.specs.Heights.{height, low, rank, cover_count}
use Rattle.lid_emit_circuit.specs.Connected.{IsPutWire, IsConnected, IsDrivenByCell}
use Rattle.lid_emit_circuit.proofs.Forms.{constant_formed, buffer_formed, negation_formed, both_formed, without_formed, choice_formed, count_formed, move_formed}
use Rattle.lid_emit_circuit.proofs.Ranks.{rank_of_cover, rank_of_latch}
use Rattle.lid_emit_circuit.proofs.Nets.{IsCalm, read_calm, here_at, here_net, after_at, after_net}
use Rattle.lid_base.proofs.Places.{item_at}
use Rattle.lid_base.proofs.Alls.{all_map_by}

all_nil_append : {A : Type 0} (P : A → Type 0) (xs : List A) → AllByRecursion P xs → AllByRecursion P (xs ++ [])
all_nil_append P [] all = tt
all_nil_append P (x ∷ xs) all = (all.0, all_nil_append P xs all.1)

abbrev sources_if : Bool → List (Driver Wire) → List (Driver Wire)
sources_if there sources = cond there sources []

module _ (q : CircuitPlan) (con : IsConnected q) where
  abbrev plan : IsPlan q
  plan = con.plan

  -- a wire that may be late reads what it will
  late_all : (wire : Wire) → is_late wire ≡ true → (xs : List Wire) → AllByRecursion (λ r. is_late r ≡ true → is_late wire ≡ true) xs
  late_all wire is [] = tt
  late_all wire is (x ∷ xs) = (λ h. is, late_all wire is xs)

  given_cell : (j : ℕ) → j < q.inputs → IsDrivenByCell q (given j)
  unfolding emitted
  given_cell j there = record {
    source = from_cover buffer (entry j ∷ []);
    only = ap (λ (b : Bool). sources_if b (gate buffer (entry j ∷ []))) (lt-ltb j q.inputs there);
    cell = tt;
    formed = (buffer_formed, refl);
    reads = (there, tt);
    lower = (omega arith, tt);
    apart = ((λ h. refl), tt);
  }

  steady_cell : (bit : Bool) → IsDrivenByCell q (steady bit)
  unfolding emitted
  steady_cell bit = record { source = from_cover (constant bit) []; only = refl; cell = tt; formed = (constant_formed bit, refl); reads = tt; lower = tt; apart = tt }

  first_may : (v : ℕ) → v < q.actors → IsDrivenByCell q (may v zero)
  unfolding emitted
  first_may v there = record {
    source = from_cover (constant true) [];
    only = ap (λ (b : Bool). sources_if b (gate (constant true) [])) (lt-ltb v q.actors there);
    cell = tt;
    formed = (constant_formed true, refl);
    reads = tt;
    lower = tt;
    apart = tt;
  }

  next_may : (v i : ℕ) → v < q.actors → i < length (ends q v) → IsDrivenByCell q (may v (suc i))
  unfolding emitted
  next_may v i there within = by (item_at (ends q v) i within).0 (item_at (ends q v) i within).1
    where
      linked : (e : ActorEnd) → slice_get (ends q v) i ≡ Some e → emitted q (may v (suc i)) ≡ link q v i e
      linked e here = ap (λ (b : Bool). sources_if b (option_map_or (link q v i) (slice_get (ends q v) i) [])) (lt-ltb v q.actors there) ∙ ap (λ (o : Option ActorEnd). option_map_or (link q v i) o []) here

      by : (e : ActorEnd) → slice_get (ends q v) i ≡ Some e → IsDrivenByCell q (may v (suc i))
      by (drains s) here =
          let at = plan.is_in v s (end_drains q plan v s (get_among (ends q v) i (drains s) here)) in
          record {
            source = from_cover both (may v i ∷ level s 1 ∷ []);
            only = linked (drains s) here;
            cell = tt;
            formed = (both_formed, refl);
            reads = ((there, omega (arith, within)), ((at.0, omega (arith, plan.room s at.0)), tt));
            lower = (omega arith, (omega arith, tt));
            apart = ((λ h. h), ((λ h. h), tt));
          }
      by (fills s) here =
          let at = plan.is_out v s (end_fills q plan v s (get_among (ends q v) i (fills s) here)) in
          record {
            source = from_cover without (may v i ∷ level s (q.capacity s) ∷ []);
            only = linked (fills s) here;
            cell = tt;
            formed = (without_formed, refl);
            reads = ((there, omega (arith, within)), ((at.0, omega arith), tt));
            lower = (omega arith, (omega arith, tt));
            apart = ((λ h. h), ((λ h. h), tt));
          }

  fire_cell : (v : ℕ) → v < q.actors → IsDrivenByCell q (fire v)
  unfolding emitted
  fire_cell v there = by (v == 0) (v == sink q) refl refl
    where
      inner : Bool → Bool → List (Driver Wire)
      inner first last = cond first (gate both (last_link q v ∷ offer ∷ [])) (cond last (gate without (last_link q v ∷ block ∷ [])) (gate buffer (last_link q v ∷ [])))

      in_range : emitted q (fire v) ≡ inner (v == 0) (v == sink q)
      in_range = ap (λ (b : Bool). sources_if b (inner (v == 0) (v == sink q))) (lt-ltb v q.actors there)

      by : (first last : Bool) → (v == 0) ≡ first → (v == sink q) ≡ last → IsDrivenByCell q (fire v)
      by true last is is' = record {
        source = from_cover both (last_link q v ∷ offer ∷ []);
        only = in_range ∙ ap (λ (b : Bool). inner b (v == sink q)) is;
        cell = tt;
        formed = (both_formed, refl);
        reads = ((there, omega arith), (tt, tt));
        lower = (omega arith, (omega arith, tt));
        apart = ((λ h. refl), ((λ h. refl), tt));
      }
      by false true is is' = record {
        source = from_cover without (last_link q v ∷ block ∷ []);
        only = in_range ∙ ap (λ (b : Bool). inner b (v == sink q)) is ∙ ap (λ (b : Bool). inner false b) is';
        cell = tt;
        formed = (without_formed, refl);
        reads = ((there, omega arith), (tt, tt));
        lower = (omega arith, (omega arith, tt));
        apart = ((λ h. refl), ((λ h. refl), tt));
      }
      by false false is is' = record {
        source = from_cover buffer (last_link q v ∷ []);
        only = in_range ∙ ap (λ (b : Bool). inner b (v == sink q)) is ∙ ap (λ (b : Bool). inner false b) is';
        cell = tt;
        formed = (buffer_formed, refl);
        reads = ((there, omega arith), tt);
        lower = (omega arith, tt);
        apart = ((λ h. refl), tt);
      }

  level_cell : (s i : ℕ) → s < q.stations → i ≤ q.capacity s + 1 → IsDrivenByCell q (level s i)
  unfolding emitted
  level_cell s zero there most = record {
    source = from_cover (constant true) [];
    only = ap (λ (b : Bool). sources_if b (gate (constant true) [])) (lt-ltb s q.stations there);
    cell = tt;
    formed = (constant_formed true, refl);
    reads = tt;
    lower = tt;
    apart = tt;
  }
  level_cell s (suc i) there most = by (cases_lt i (q.capacity s))
    where
      in_range : emitted q (level s (suc i)) ≡ level_in q s (suc i)
      in_range = ap (λ (b : Bool). sources_if b (level_in q s (suc i))) (lt-ltb s q.stations there)

      inner : Bool → Bool → List (Driver Wire)
      inner latched past = cond latched (flop (not (nat_lt (q.first s) (suc i))) (grown s (suc i))) (sources_if past (gate (constant false) []))

      by : (i < q.capacity s) ⊎ (q.capacity s ≤ i) → IsDrivenByCell q (level s (suc i))
      by (inl less) = record {
        source = from_latch (not (nat_lt (q.first s) (suc i))) (grown s (suc i));
        only = in_range ∙ ap (λ (b : Bool). inner b (i == q.capacity s)) (lt-ltb i (q.capacity s) less);
        cell = tt;
        formed = tt;
        reads = ((there, less), tt);
        lower = tt;
        apart = tt;
      }
      by (inr past) = record {
        source = from_cover (constant false) [];
        only = in_range ∙ ap (λ (b : Bool). inner b (i == q.capacity s)) (le-ltb i (q.capacity s) past) ∙ ap (λ (b : Bool). inner false b) (eq-eqb i (q.capacity s) (omega (arith, past, most)));
        cell = tt;
        formed = (constant_formed false, refl);
        reads = tt;
        lower = tt;
        apart = tt;
      }

  grown_cell : (s i : ℕ) → s < q.stations → i < q.capacity s → IsDrivenByCell q (grown s (suc i))
  unfolding emitted
  grown_cell s i there less = record {
    source = from_cover count (fire (q.drainer s) ∷ fire (q.filler s) ∷ level s i ∷ level s (suc i) ∷ level s (suc (suc i)) ∷ []);
    only =
        ap (λ (b : Bool). sources_if b (sources_if (nat_lt i (q.capacity s)) (gate count (fire (q.drainer s) ∷ fire (q.filler s) ∷ level s i ∷ level s (suc i) ∷ level s (suc (suc i)) ∷ [])))) (lt-ltb s q.stations there)
        ∙ ap (λ (b : Bool). sources_if b (gate count (fire (q.drainer s) ∷ fire (q.filler s) ∷ level s i ∷ level s (suc i) ∷ level s (suc (suc i)) ∷ []))) (lt-ltb i (q.capacity s) less);
    cell = tt;
    formed = (count_formed, refl);
    reads = (plan.drained s there, (plan.filled s there, ((there, omega (arith, less)), ((there, omega (arith, less)), ((there, omega (arith, less)), tt)))));
    lower = (omega arith, (omega arith, (omega arith, (omega arith, (omega arith, tt)))));
    apart = late_all (grown s (suc i)) refl (fire (q.drainer s) ∷ fire (q.filler s) ∷ level s i ∷ level s (suc i) ∷ level s (suc (suc i)) ∷ []);
  }

  both_true : (x y : Bool) → x ≡ true → y ≡ true → x && y ≡ true
  both_true true true h h' = refl
  both_true false y h h' = cc
  both_true true false h h' = cc

  place_cell : (s i j : ℕ) → s < q.stations → i ≤ q.capacity s → j < q.width s → IsDrivenByCell q (place s i j)
  unfolding emitted
  place_cell s i j there most bit = by (cases_lt i (q.capacity s))
    where
      in_range : emitted q (place s i j) ≡ place_drivers q s i j
      in_range = ap (λ (b : Bool). sources_if b (place_drivers q s i j)) (both_true (nat_lt s q.stations) (nat_lt j (q.width s)) (lt-ltb s q.stations there) (lt-ltb j (q.width s) bit))

      inner : Bool → Bool → List (Driver Wire)
      inner latched past = cond latched (flop (q.begins s j) (moved s i j)) (sources_if past (gate (constant false) []))

      by : (i < q.capacity s) ⊎ (q.capacity s ≤ i) → IsDrivenByCell q (place s i j)
      by (inl less) = record {
        source = from_latch (q.begins s j) (moved s i j);
        only = in_range ∙ ap (λ (b : Bool). inner b (i == q.capacity s)) (lt-ltb i (q.capacity s) less);
        cell = tt;
        formed = tt;
        reads = ((there, less, bit), tt);
        lower = tt;
        apart = tt;
      }
      by (inr past) = record {
        source = from_cover (constant false) [];
        only = in_range ∙ ap (λ (b : Bool). inner b (i == q.capacity s)) (le-ltb i (q.capacity s) past) ∙ ap (λ (b : Bool). inner false b) (eq-eqb i (q.capacity s) (omega (arith, past, most)));
        cell = tt;
        formed = (constant_formed false, refl);
        reads = tt;
        lower = tt;
        apart = tt;
      }

  -- a wire that is put stands as low as it is said to
  put_known : (wire : Wire) → IsPutWire q wire → IsKnown q wire × (height q wire ≡ low q wire)
  put_known wire (inl g) = subst (λ (w : Wire). IsKnown q w × (height q w ≡ low q w)) (sym g.1) (g.2, refl)
  put_known wire (inr (inl (inl is))) = subst (λ (w : Wire). IsKnown q w × (height q w ≡ low q w)) (sym is.1) (tt, refl)
  put_known wire (inr (inl (inr is))) = subst (λ (w : Wire). IsKnown q w × (height q w ≡ low q w)) (sym is.3) (is.4, refl)
  put_known wire (inr (inr n)) = let calm = after_net q con n.0 n.1 n.3 in subst (λ (w : Wire). IsKnown q w × (height q w ≡ low q w)) (sym n.2) (calm.known, calm_low (q.after n.0 n.1) calm.calm)
    where
      calm_low : (w : Wire) → is_late w ≡ false → height q w ≡ low q w
      calm_low (grown s i) calm = cc
      calm_low (moved s i j) calm = cc
      calm_low (kept v k) calm = cc
      calm_low other calm = refl

  moved_cell : (s i j : ℕ) → s < q.stations → i < q.capacity s → j < q.width s → IsDrivenByCell q (moved s i j)
  unfolding emitted
  moved_cell s i j there less bit = record {
    source = from_cover move (fire (q.drainer s) ∷ level s (suc i) ∷ place s i j ∷ level s (suc (suc i)) ∷ place s (suc i) j ∷ q.put s j ∷ []);
    only =
        ap (λ (b : Bool). sources_if b (sources_if (nat_lt i (q.capacity s)) (gate move (fire (q.drainer s) ∷ level s (suc i) ∷ place s i j ∷ level s (suc (suc i)) ∷ place s (suc i) j ∷ q.put s j ∷ [])))) (both_true (nat_lt s q.stations) (nat_lt j (q.width s)) (lt-ltb s q.stations there) (lt-ltb j (q.width s) bit))
        ∙ ap (λ (b : Bool). sources_if b (gate move (fire (q.drainer s) ∷ level s (suc i) ∷ place s i j ∷ level s (suc (suc i)) ∷ place s (suc i) j ∷ q.put s j ∷ []))) (lt-ltb i (q.capacity s) less);
    cell = tt;
    formed = (move_formed, refl);
    reads = (plan.drained s there, ((there, omega (arith, less)), ((there, omega (arith, less), bit), ((there, omega (arith, less)), ((there, omega (arith, less), bit), (put.0, tt))))));
    lower = (omega arith, (omega arith, (omega arith, (omega arith, (omega arith, (omega (arith, put.1), tt))))));
    apart = late_all (moved s i j) refl (fire (q.drainer s) ∷ level s (suc i) ∷ place s i j ∷ level s (suc (suc i)) ∷ place s (suc i) j ∷ q.put s j ∷ []);
  }
    where
      put : IsKnown q (q.put s j) × (height q (q.put s j) ≡ low q (q.put s j))
      put = put_known (q.put s j) (con.put s j there bit)

  module _ (v : ℕ) where
    abbrev f : Flat
    f = q.flat v

    latch_alone : (k : ℕ) (l : FlatLatch) → Among l f.latches → l.out ≡ k → flat_drivers f k ≡ from_latch l.init l.input ∷ []
    latch_alone k l i is = among_alone (flat_drivers f k) (from_latch l.init l.input) ((con.rules v).once k) (subst (λ (n : ℕ). Among {A = Driver ℕ} (from_latch l.init l.input) (flat_drivers f n)) is (latch_drives f l i))

    cover_alone : (k : ℕ) (c : FlatCover) → Among c f.covers → c.out ≡ k → flat_drivers f k ≡ from_cover c.cover c.ins ∷ []
    cover_alone k c i is = among_alone (flat_drivers f k) (from_cover c.cover c.ins) ((con.rules v).once k) (subst (λ (n : ℕ). Among {A = Driver ℕ} (from_cover c.cover c.ins) (flat_drivers f n)) is (cover_drives f c i))

    latch_below : (l : FlatLatch) → Among l f.latches → (l.input < f.nets) × (l.out < f.nets)
    latch_below l i = all_among (λ (l : FlatLatch). (l.input < f.nets) × (l.out < f.nets)) f.latches l (con.rules v).below.latches i

    now_latch : (k : ℕ) → IsLatchNet q v k → IsDrivenByCell q (now v k)
    unfolding emitted
    now_latch k latch = record {
      source = from_latch latch.0.init (kept v k);
      only = ap (flat_map (now_from q v k)) (latch_alone k latch.0 latch.1 latch.2);
      cell = tt;
      formed = tt;
      reads = (latch, tt);
      lower = tt;
      apart = tt;
    }

    kept_cell : (k : ℕ) → IsLatchNet q v k → IsDrivenByCell q (kept v k)
    unfolding emitted
    kept_cell k latch =
        let l = latch.0 in
        let below = latch_below l latch.1 in
        let here = here_net q con v l.input below.0 in
        let none : rank q v k ≡ 0 = ap (rank q v) (sym latch.2) ∙ rank_of_latch f (con.rules v) l latch.1 in
        record {
          source = from_cover choice (fire v ∷ q.here v l.input ∷ now v k ∷ []);
          only = ap (flat_map (kept_from q v k)) (latch_alone k l latch.1 latch.2);
          cell = tt;
          formed = (choice_formed, refl);
          reads = (omega (arith, con.shells v (omega (arith, below.1)), plan.last), (here.known, (inl latch, tt)));
          lower = (omega arith, (omega (arith, here.low), (omega (arith, none), tt)));
          apart = late_all (kept v k) refl (fire v ∷ q.here v l.input ∷ now v k ∷ []);
        }

    -- of a net that has cells
    kept_one : (source : Driver Wire) (skips : Bool) → skips ≡ false → within (not skips) (source ∷ []) ++ [] ≡ source ∷ []
    kept_one source false is = refl
    kept_one source true is = cc

    calm_apart : (w : Wire) (most : ℕ) (r : Wire) → IsCalm q most r → is_late r ≡ true → is_late w ≡ true
    calm_apart w most r calm late = absurd (let e : true ≡ false = sym late ∙ calm.calm in cc)

    flat_formed : (c : FlatCover) → Among c f.covers → (wire : ℕ → Wire) → IsCover c.cover × (c.cover.inputs ≡ length (map wire c.ins))
    flat_formed c i wire = let is = all_among IsFlatCover f.covers c (con.rules v).covers i in (is.0, is.1 ∙ sym (length-map c.ins wire))

    -- a wire that the cover of a net drives, which reads such wires of nets
    cover_cell : (k : ℕ) → (cover : IsCoverNet q v k) → (w : Wire) → (put : Driver ℕ → List (Driver Wire)) → (wire : ℕ → Wire) → (most : ℕ → ℕ)
        → emitted q w ≡ flat_map put (flat_drivers f k)
        → put (from_cover cover.0.cover cover.0.ins) ≡ within (not (q.skips v k)) (gate cover.0.cover (map wire cover.0.ins))
        → ((j : ℕ) → rank q v k ≡ suc j → most j < height q w)
        → ((j : ℕ) (c : FlatCover) → slice_get f.covers j ≡ Some c → (x : ℕ) → Among x c.ins → IsCalm q (most j) (wire x))
        → IsDrivenByCell q w
    cover_cell k cover w put wire most driven puts above calm =
        let c = cover.0 in
        let at = among_get f.covers c cover.1 in
        let its_rank : rank q v k ≡ suc at.0 = ap (rank q v) (sym cover.2) ∙ rank_of_cover f (con.rules v) at.0 c at.1 in
        record {
          source = from_cover c.cover (map wire c.ins);
          only = driven ∙ ap (flat_map put) (cover_alone k c cover.1 cover.2) ∙ ap (λ (xs : List (Driver Wire)). xs ++ []) puts ∙ kept_one (from_cover c.cover (map wire c.ins)) (q.skips v k) cover.3;
          cell = tt;
          formed = flat_formed c cover.1 wire;
          reads = all_nil_append (IsKnown q) (map wire c.ins) (all_map_by (IsKnown q) wire c.ins (λ x i. (calm at.0 c at.1 x i).known));
          lower = all_map_by (λ r. height q r < height q w) wire c.ins (λ x i. omega (arith, (calm at.0 c at.1 x i).low, above at.0 its_rank));
          apart = all_map_by (λ r. is_late r ≡ true → is_late w ≡ true) wire c.ins (λ x i. calm_apart w (most at.0) (wire x) (calm at.0 c at.1 x i));
        }

    now_cover : (k : ℕ) → IsCoverNet q v k → IsDrivenByCell q (now v k)
    unfolding emitted
    now_cover k cover = cover_cell k cover (now v k) (now_from q v k) (q.here v) (λ j. j) refl refl (λ j is. omega (arith, is)) (here_at q con v)

    later_cell : (k : ℕ) → IsCoverNet q v k → IsDrivenByCell q (later v k)
    unfolding emitted
    later_cell k cover = cover_cell k cover (later v k) (later_from q v k) (q.after v) (λ j. (cover_count q v + 1) + j) refl refl (λ j is. omega (arith, is)) (after_at q con v)

  shown_cell : (j : ℕ) → j < length q.shows → IsDrivenByCell q (shown j)
  unfolding emitted
  shown_cell j below = by (item_at q.shows j below).0 (item_at q.shows j below).1
    where
      by : (wire : Wire) → slice_get q.shows j ≡ Some wire → IsDrivenByCell q (shown j)
      by wire here =
          let calm = read_calm q wire 0 (con.shows wire (get_among q.shows j wire here)) in
          record {
            source = from_cover both (last_link q (sink q) ∷ wire ∷ []);
            only = ap (λ (o : Option Wire). option_map_or (λ wire. gate both (last_link q (sink q) ∷ wire ∷ [])) o []) here;
            cell = tt;
            formed = (both_formed, refl);
            reads = ((plan.last, omega arith), (calm.known, tt));
            lower = (omega arith, (omega (arith, calm.low), tt));
            apart = ((λ h. h), ((λ h. absurd (let e : true ≡ false = sym h ∙ calm.calm in cc)), tt));
          }

  valid_cell : IsDrivenByCell q valid
  unfolding emitted
  valid_cell = record { source = from_cover buffer (last_link q (sink q) ∷ []); only = refl; cell = tt; formed = (buffer_formed, refl); reads = ((plan.last, omega arith), tt); lower = (omega arith, tt); apart = ((λ h. h), tt) }

  stop_cell : IsDrivenByCell q stop
  unfolding emitted
  stop_cell = record { source = from_cover negation (last_link q 0 ∷ []); only = refl; cell = tt; formed = (negation_formed, refl); reads = ((omega (arith, plan.source, plan.last), omega arith), tt); lower = (omega arith, tt); apart = ((λ h. h), tt) }

  pub each_cell : (wire : Wire) → IsKnown q wire → (is_outer wire ≡ true) ⊎ IsDrivenByCell q wire
  each_cell (entry j) known = inl refl
  each_cell (given j) known = inr (given_cell j known)
  each_cell offer known = inl refl
  each_cell block known = inl refl
  each_cell (steady bit) known = inr (steady_cell bit)
  each_cell (may v zero) known = inr (first_may v known.0)
  each_cell (may v (suc i)) known = inr (next_may v i known.0 known.1)
  each_cell (fire v) known = inr (fire_cell v known)
  each_cell (level s i) known = inr (level_cell s i known.0 known.1)
  each_cell (grown s zero) known = absurd known
  each_cell (grown s (suc i)) known = inr (grown_cell s i known.0 known.1)
  each_cell (place s i j) known = inr (place_cell s i j known.0 known.1 known.2)
  each_cell (moved s i j) known = inr (moved_cell s i j known.0 known.1 known.2)
  each_cell (now v k) (inl latch) = inr (now_latch v k latch)
  each_cell (now v k) (inr cover) = inr (now_cover v k cover)
  each_cell (kept v k) known = inr (kept_cell v k known)
  each_cell (later v k) known = inr (later_cell v k known)
  each_cell (shown j) known = inr (shown_cell j known)
  each_cell valid known = inr valid_cell
  each_cell stop known = inr stop_cell
