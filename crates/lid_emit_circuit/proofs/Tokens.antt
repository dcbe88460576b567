-- Tokens and states, row by row: places show the tokens that stations hold, and latches the states of shells.
use Rattle.std.proofs.Common.{◌≡◌, ℕ, zero, suc, ◌+◌, ◌<◌, ◌≤◌, ◌==◌, inl, inr, Bool, true, false, not, ◌&&◌, cond, List, [], ◌∷◌, length, map, refl, sym, ◌∙◌, ap, subst, arith}
use Rattle.std.specs.Prelude.{nat_lt, if◌then◌else◌}
use Rattle.std.specs.List.{AllByRecursion}
use Rattle.std.proofs.lemmas.Bool.{lt-ltb, and_parts}
use Rattle.lid_base.specs.Lists.{Among}
use Rattle.lid_base.proofs.Lists.{all_among, among_left, among_map, among_get}
use Rattle.std.proofs.lemmas.Option.{slice_get_within}
use Rattle.lid_cover.specs.Cover.{cover_value}
use Rattle.lid_design.specs.declared.Flat.{Flat}
use Rattle.lid_design.specs.declared.FlatLatch.{FlatLatch}
use Rattle.lid_design.specs.Network.{Driver, from_input, from_latch, from_cover, Table, bit_of, latch_bit, IsStrict}
use Rattle.lid_design.specs.Flat.{flat_drivers, IsRow}
use Rattle.lid_design.proofs.Parts.{latch_drives, cover_drives}
use Rattle.lid_emit_circuit.specs.Wires.{Wire, entry, given, steady, fire, level, place, moved, now, ActorEnd, drains, fills}
use Rattle.lid_emit_circuit.specs.Gates.{constant, buffer, move, move_value}
use Rattle.lid_emit_circuit.specs.Plans.{CircuitPlan, ends}
use Rattle.lid_emit_circuit.specs.Network.{sink, gate, flop, emitted}
use Rattle.lid_emit_circuit.specs.Runs.{held_by, counts_up, row_bit}
use Rattle.lid_emit_circuit.specs.Counts.{graph, fired, put_count, taken_count}
use Rattle.lid_emit_circuit.specs.Carried.{IsPlan, Original, FromEntry, FromNet, FromStation, IsPut, IsTaken, AreWired, IsCarriedShell, IsCarried, ShowsLevels, ShowsTokens, ShowsStates}
use Rattle.lid_emit_circuit.proofs.Values.{constant_is, buffer_is, move_is}
use Rattle.lid_emit_circuit.proofs.Counts.{begins_at}
use Rattle.lid_emit_circuit.proofs.Holding.{is_held, not_held, risen}
use Rattle.lid_emit_circuit.proofs.Firing.{lets, all_let, each_lets, room, goes, rises_is}
use Rattle.lid_emit_circuit.proofs.Levels.{levels_show, wires_show}
use Rattle.lid_emit_circuit.proofs.Agreeing.{rows_agree, outputs_agree}
use Rattle.lid_emit_circuit.proofs.Pearls.{latch_now, kept_is, here_row, after_row}
use Rattle.lid_base.proofs.Alls.{all_from_among}

-- what stands in a place after a cycle, where each case has the bit that is wanted
moves : (bit : Bool) (drained held here more next put : Bool)
    → (drained ≡ true → more ≡ true → next ≡ bit)
    → (drained ≡ true → more ≡ false → put ≡ bit)
    → (drained ≡ false → held ≡ true → here ≡ bit)
    → (drained ≡ false → held ≡ false → put ≡ bit)
    → move_value drained held here more next put ≡ bit
moves bit true held here true next put a b c d = a refl refl
moves bit true held here false next put a b c d = b refl refl
moves bit false true here more next put a b c d = c refl refl
moves bit false false here more next put a b c d = d refl refl

module _ (q : CircuitPlan) (plan : IsPlan q) (rows : List (List Bool)) (b : Table Wire) (strict : IsStrict (emitted q) rows b) (o : Original) (carried : IsCarried q rows o) where
  abbrev put : ℕ → ℕ → ℕ
  put k s = put_count q (fired q rows k) s

  abbrev taken : ℕ → ℕ → ℕ
  taken k s = taken_count q (fired q rows k) s

  abbrev Gives : ℕ → Wire → List (Driver Wire) → Type 0
  Gives k w sources = AllByRecursion (λ s. b k w ≡ bit_of rows b k s) sources

  -- a token of the original, by its number
  token_at : (s j m n : ℕ) → m ≡ n → o.token s m j ≡ o.token s n j
  token_at s j m n same = ap (λ (x : ℕ). o.token s x j) same

  -- an actor that fires finds a token in each station that it drains
  finds : (k s : ℕ) → s < q.stations → counts_up (fired q rows) (q.drainer s) k ≡ true → taken k s < put k s
  finds k s there rising =
      let v = q.drainer s in
      let all : all_let q (fired q rows k) v ≡ true = (and_parts (not (held_by q.inputs (sink q) rows k v)) (all_let q (fired q rows k) v) (sym (rises_is q plan rows k v (plan.drained s there)) ∙ rising)).1 in
      let among : Among {A = ActorEnd} (drains s) (ends q v) = among_left {A = ActorEnd} (drains s) (map drains (q.ins v)) (map fills (q.outs v)) (among_map {A = ℕ} {B = ActorEnd} drains s (q.ins v) (plan.in_there s there)) in
      let at = among_get (ends q v) (drains s) among in
      let lets_it : lets q (fired q rows k) (drains s) ≡ true = each_lets q (fired q rows k) v (length (ends q v)) all at.0 (drains s) (slice_get_within (ends q v) at.0 (drains s) at.1) at.1 in
      omega (arith, is_held (put k s) (taken k s) 1 lets_it)

  risen_by : (k v : ℕ) → v < q.actors → counts_up (fired q rows) v k ≡ true → fired q rows (suc k) v ≡ fired q rows k v + 1
  risen_by k v actor rising = goes q plan rows k v actor ∙ ap (λ (x : Bool). risen x (fired q rows k v)) (sym (rises_is q plan rows k v actor) ∙ rising)

  rests_by : (k v : ℕ) → v < q.actors → counts_up (fired q rows) v k ≡ false → fired q rows (suc k) v ≡ fired q rows k v
  rests_by k v actor resting = goes q plan rows k v actor ∙ ap (λ (x : Bool). risen x (fired q rows k v)) (sym (rises_is q plan rows k v actor) ∙ resting)

  module _ (k : ℕ) (below : k < length rows) (tokens : ShowsTokens q rows o b k) (states : ShowsStates q rows o b k) where
    -- the head of a station that holds a token is the next token
    pub head_is : (s j : ℕ) → s < q.stations → j < q.width s → taken k s < put k s → taken k s < o.rows → b k (place s 0 j) ≡ o.token s (taken k s) j
    head_is s j there bit some within =
        let same : taken k s + 0 ≡ taken k s = omega arith in
        tokens s 0 j there bit (omega arith) (omega arith) ∙ token_at s j (taken k s + 0) (taken k s) same

    steady_is : (bit : Bool) → b k (steady bit) ≡ bit
    unfolding emitted
    steady_is bit = (strict k (steady bit) below).0 ∙ constant_is bit

    -- what an actor takes that fires
    pub taken_is : (v : ℕ) (wire : Wire) (bits : ℕ → Bool) → IsTaken q o v wire bits → counts_up (fired q rows) v k ≡ true → fired q rows k v < o.rows → b k wire ≡ bits (fired q rows k v)
    taken_is v wire bits (inl has) rising within = ap (b k) has.is ∙ steady_is has.bit ∙ sym (has.same (fired q rows k v) within)
    taken_is v wire bits (inr takes) rising within =
        let s = takes.station in
        let same : taken k s ≡ fired q rows k v = ap (fired q rows k) takes.drained in
        let found = finds k s takes.there (ap (λ (u : ℕ). counts_up (fired q rows) u k) takes.drained ∙ rising) in
        ap (b k) takes.is
        ∙ head_is s takes.bit takes.there takes.within found (omega arith)
        ∙ token_at s takes.bit (taken k s) (fired q rows k v) same
        ∙ sym (takes.same (fired q rows k v) within)

    module _ (v : ℕ) (after_source : 0 < v) (before_sink : v < sink q) where
      abbrev shell : IsCarriedShell q o v
      shell = carried.shells v after_source before_sink

      abbrev f : Flat
      f = q.flat v

      -- the original's rows meet the covers and the latches
      original_row : (n : ℕ) → n < o.rows → IsRow f.covers (o.net v n)
      original_row n within =
          all_from_among (λ c. o.net v n c.out ≡ cover_value c.cover (map (o.net v n) c.ins)) f.covers
          (λ c i. all_among (λ s. o.net v n c.out ≡ bit_of shell.inputs (o.net v) n s) (flat_drivers f c.out) (from_cover c.cover c.ins) (shell.table n c.out (subst (λ (m : ℕ). n < m) (sym shell.long) within)) (cover_drives f c i))

      original_latch : (n : ℕ) (l : FlatLatch) → n < o.rows → Among l f.latches → o.net v n l.out ≡ latch_bit (o.net v) l.init l.input n
      original_latch n l within i =
          all_among (λ s. o.net v n l.out ≡ bit_of shell.inputs (o.net v) n s) (flat_drivers f l.out) (from_latch l.init l.input) (shell.table n l.out (subst (λ (m : ℕ). n < m) (sym shell.long) within)) (latch_drives f l i)

      -- the nets of a shell that fires have the bits of its row
      pub here_is : counts_up (fired q rows) v k ≡ true → fired q rows k v < o.rows → (n : ℕ) → n < f.nets → b k (q.here v n) ≡ o.net v (fired q rows k v) n
      here_is rising within =
          rows_agree f shell.rules (λ n. b k (q.here v n)) (o.net v (fired q rows k v)) (here_row q rows b strict v shell.wired k below) (original_row (fired q rows k v) within)
          (λ l i. ap (b k) (shell.wired.latches l i).0 ∙ states v l after_source before_sink i within)
          (λ n i. taken_is v (q.here v n) (λ m. o.net v m n) (shell.given n i) rising within)

      latch_read : counts_up (fired q rows) v k ≡ true → fired q rows k v + 1 < o.rows → (l : FlatLatch) → Among l f.latches → b k (q.here v l.input) ≡ o.net v (fired q rows k v + 1) l.out
      latch_read rising within l i =
          let next : suc (fired q rows k v) ≡ fired q rows k v + 1 = omega arith in
          here_is rising (omega arith) l.input (all_among (λ (l : FlatLatch). (l.input < f.nets) × (l.out < f.nets)) f.latches l shell.rules.below.latches i).0
          ∙ sym (original_latch (suc (fired q rows k v)) l (omega arith) i)
          ∙ ap (λ (m : ℕ). o.net v m l.out) next

      -- after the firing its outputs have those of the next row
      pub after_is : counts_up (fired q rows) v k ≡ true → fired q rows k v + 1 < o.rows → (n : ℕ) → Among n f.outs → b k (q.after v n) ≡ o.net v (fired q rows k v + 1) n
      after_is rising within =
          outputs_agree f shell.rules (λ n. b k (q.after v n)) (o.net v (fired q rows k v + 1)) (after_row q rows b strict v shell.wired k below) (original_row (fired q rows k v + 1) within)
          (λ l i. ap (b k) (shell.wired.latches l i).1 ∙ latch_read rising within l i)

    entry_is : (x : ℕ) → x < q.inputs → b k (entry x) ≡ row_bit rows k x
    unfolding emitted
    entry_is x there = by (nat_lt x q.inputs) (lt-ltb x q.inputs there) (strict k (entry x) below)
      where
        by : (in_range : Bool) → in_range ≡ true → Gives k (entry x) (cond in_range (from_input x ∷ []) []) → b k (entry x) ≡ row_bit rows k x
        by true is gives = gives.0
        by false is gives = cc

    given_is : (x : ℕ) → x < q.inputs → b k (given x) ≡ row_bit rows k x
    unfolding emitted
    given_is x there = by (nat_lt x q.inputs) (lt-ltb x q.inputs there) (strict k (given x) below)
      where
        by : (in_range : Bool) → in_range ≡ true → Gives k (given x) (cond in_range (gate buffer (entry x ∷ [])) []) → b k (given x) ≡ row_bit rows k x
        by true is gives = gives.0 ∙ buffer_is (b k (entry x)) ∙ entry_is x there
        by false is gives = cc

    -- what is put is the next token
    pub put_is : (s j : ℕ) → s < q.stations → j < q.width s → counts_up (fired q rows) (q.filler s) k ≡ true → put k s < o.rows → b k (q.put s j) ≡ o.token s (put k s) j
    put_is s j there bit rising within = by (carried.put s j there bit)
      where
        v : ℕ
        v = q.filler s

        by_entry : FromEntry q rows o s j → b k (q.put s j) ≡ o.token s (put k s) j
        by_entry e =
            let same : fired q rows k (q.filler s) ≡ put k s = omega (arith, e.none) in
            ap (b k) e.wire ∙ given_is e.input e.within ∙ sym (e.same k below rising (omega arith)) ∙ token_at s j (fired q rows k (q.filler s)) (put k s) same

        by_net : FromNet q o s j → b k (q.put s j) ≡ o.token s (put k s) j
        by_net e =
            let same : fired q rows k (q.filler s) + 1 ≡ put k s = omega (arith, e.one) in
            ap (b k) e.wire ∙ after_is (q.filler s) e.after_source e.before_sink rising (omega arith) e.net e.out ∙ sym (e.same (fired q rows k (q.filler s) + 1) (omega arith)) ∙ token_at s j (fired q rows k (q.filler s) + 1) (put k s) same

        by_station : FromStation q o s j → b k (q.put s j) ≡ o.token s (put k s) j
        by_station e =
            let taken_there : taken k e.station ≡ fired q rows k (q.filler s) = ap (fired q rows k) e.drained in
            let same : taken k e.station ≡ put k s = omega (arith, e.none) in
            let found = finds k e.station e.there (ap (λ (u : ℕ). counts_up (fired q rows) u k) e.drained ∙ rising) in
            ap (b k) e.wire ∙ head_is e.station e.bit e.there e.within found (omega arith) ∙ sym (e.same (taken k e.station) (omega arith)) ∙ token_at s j (taken k e.station) (put k s) same

        by : IsPut q rows o s j → b k (q.put s j) ≡ o.token s (put k s) j
        by (inl e) = by_entry e
        by (inr (inl e)) = by_net e
        by (inr (inr e)) = by_station e

  module _ (s j : ℕ) (there : s < q.stations) (bit : j < q.width s) where
    in_range : (nat_lt s q.stations && nat_lt j (q.width s)) ≡ true
    in_range = both_true (nat_lt s q.stations) (nat_lt j (q.width s)) (lt-ltb s q.stations there) (lt-ltb j (q.width s) bit)
      where
        both_true : (x y : Bool) → x ≡ true → y ≡ true → x && y ≡ true
        both_true true true h h' = refl
        both_true false y h h' = cc
        both_true true false h h' = cc

    latched : (k i : ℕ) → k < length rows → i < q.capacity s → b k (place s i j) ≡ latch_bit b (q.begins s j) (moved s i j) k
    unfolding emitted
    latched k i below is = by (nat_lt s q.stations && nat_lt j (q.width s)) (nat_lt i (q.capacity s)) in_range (lt-ltb i (q.capacity s) is) (strict k (place s i j) below)
      where
        by : (x y : Bool) → x ≡ true → y ≡ true → Gives k (place s i j) (cond x (cond y (flop (q.begins s j) (moved s i j)) (cond (i == q.capacity s) (gate (constant false) []) [])) []) → b k (place s i j) ≡ latch_bit b (q.begins s j) (moved s i j) k
        by true true h h' gives = gives.0
        by false y h h' gives = cc
        by true false h h' gives = cc

    moved_is : (k i : ℕ) → k < length rows → i < q.capacity s → b k (moved s i j) ≡ move_value (b k (fire (q.drainer s))) (b k (level s (suc i))) (b k (place s i j)) (b k (level s (suc (suc i)))) (b k (place s (suc i) j)) (b k (q.put s j))
    unfolding emitted
    moved_is k i below is = by (nat_lt s q.stations && nat_lt j (q.width s)) (nat_lt i (q.capacity s)) in_range (lt-ltb i (q.capacity s) is) (strict k (moved s i j) below)
      where
        by : (x y : Bool) → x ≡ true → y ≡ true → Gives k (moved s i j) (cond x (cond y (gate move (fire (q.drainer s) ∷ level s (suc i) ∷ place s i j ∷ level s (suc (suc i)) ∷ place s (suc i) j ∷ q.put s j ∷ [])) []) []) → b k (moved s i j) ≡ move_value (b k (fire (q.drainer s))) (b k (level s (suc i))) (b k (place s i j)) (b k (level s (suc (suc i)))) (b k (place s (suc i) j)) (b k (q.put s j))
        by true true h h' gives = gives.0 ∙ move_is (b k (fire (q.drainer s))) (b k (level s (suc i))) (b k (place s i j)) (b k (level s (suc (suc i)))) (b k (place s (suc i) j)) (b k (q.put s j))
        by false y h h' gives = cc
        by true false h h' gives = cc

    -- a place after a cycle
    module _ (k i : ℕ) (below : k < length rows) (tokens : ShowsTokens q rows o b k) (states : ShowsStates q rows o b k) (held : taken (suc k) s + i < put (suc k) s) (few : taken (suc k) s + i < o.rows) where
      levels : ShowsLevels q rows b k
      levels = levels_show q plan rows b strict k below

      inside : i < q.capacity s
      inside = omega (arith, held, room q plan rows (suc k) s there)

      drained_is : b k (fire (q.drainer s)) ≡ counts_up (fired q rows) (q.drainer s) k
      drained_is = wires_show q plan rows b strict k (q.drainer s) below (plan.drained s there)

      shift : b k (fire (q.drainer s)) ≡ true → taken (suc k) s ≡ taken k s + 1
      shift is = risen_by k (q.drainer s) (plan.drained s there) (sym drained_is ∙ is)

      no_shift : b k (fire (q.drainer s)) ≡ false → taken (suc k) s ≡ taken k s
      no_shift is = rests_by k (q.drainer s) (plan.drained s there) (sym drained_is ∙ is)

      -- where the place was past what the station holds, a token is put
      is_put : taken (suc k) s + i ≡ put k s → b k (q.put s j) ≡ o.token s (taken (suc k) s + i) j
      is_put same = by (counts_up (fired q rows) (q.filler s) k) refl
        where
          by : (x : Bool) → counts_up (fired q rows) (q.filler s) k ≡ x → b k (q.put s j) ≡ o.token s (taken (suc k) s + i) j
          by true is = put_is k below tokens states s j there bit is (omega arith) ∙ token_at s j (put k s) (taken (suc k) s + i) (sym same)
          by false is = let rest : fired q rows (suc k) (q.filler s) ≡ fired q rows k (q.filler s) = rests_by k (q.filler s) (plan.filled s there) is in absurd (omega (arith, held))

      most : put (suc k) s ≤ put k s + 1
      most = by (counts_up (fired q rows) (q.filler s) k) refl
        where
          by : (x : Bool) → counts_up (fired q rows) (q.filler s) k ≡ x → put (suc k) s ≤ put k s + 1
          by true is = let on : fired q rows (suc k) (q.filler s) ≡ fired q rows k (q.filler s) + 1 = risen_by k (q.filler s) (plan.filled s there) is in omega arith
          by false is = let rest : fired q rows (suc k) (q.filler s) ≡ fired q rows k (q.filler s) = rests_by k (q.filler s) (plan.filled s there) is in omega arith

      next_place : b k (moved s i j) ≡ o.token s (taken (suc k) s + i) j
      next_place =
          moved_is k i below inside
          ∙ moves (o.token s (taken (suc k) s + i) j) (b k (fire (q.drainer s))) (b k (level s (suc i))) (b k (place s i j)) (b k (level s (suc (suc i)))) (b k (place s (suc i) j)) (b k (q.put s j))
          (λ drained more.
          let on = shift drained in
          let h = is_held (put k s) (taken k s) (suc (suc i)) (sym (levels s (suc (suc i)) there (omega (arith, inside))) ∙ more) in
          let same : taken k s + suc i ≡ taken (suc k) s + i = omega (arith, on) in
          tokens s (suc i) j there bit (omega (arith, h)) (omega (arith, few, same)) ∙ token_at s j (taken k s + suc i) (taken (suc k) s + i) same)
          (λ drained more.
          let on = shift drained in
          let h = not_held (put k s) (taken k s) (suc (suc i)) (sym (levels s (suc (suc i)) there (omega (arith, inside))) ∙ more) in
          is_put (omega (arith, on, h, held, most)))
          (λ drained here.
          let on = no_shift drained in
          let h = is_held (put k s) (taken k s) (suc i) (sym (levels s (suc i) there (omega (arith, inside))) ∙ here) in
          let same : taken k s + i ≡ taken (suc k) s + i = omega (arith, on) in
          tokens s i j there bit (omega (arith, h)) (omega (arith, few, same)) ∙ token_at s j (taken k s + i) (taken (suc k) s + i) same)
          (λ drained here.
          let on = no_shift drained in
          let h = not_held (put k s) (taken k s) (suc i) (sym (levels s (suc i) there (omega (arith, inside))) ∙ here) in
          is_put (omega (arith, on, h, held, most)))

  none_fired : (v : ℕ) → fired q rows 0 v ≡ 0
  none_fired v = begins_at (graph q) (held_by q.inputs (sink q) rows) v

  first_tokens : 0 < length rows → ShowsTokens q rows o b 0
  first_tokens below s i j there bit held few =
      let drained : taken 0 s ≡ 0 = none_fired (q.drainer s) in
      let filled : fired q rows 0 (q.filler s) ≡ 0 = none_fired (q.filler s) in
      let first : q.first s ≡ 1 = omega (arith, held, plan.few s) in
      let place_is : i ≡ 0 = omega (arith, held, plan.few s) in
      let number : 0 ≡ taken 0 s + i = omega arith in
      latched s j there bit 0 i below (omega (arith, plan.room s there, place_is))
      ∙ sym (carried.begins s j there bit first (omega (arith, few)))
      ∙ token_at s j 0 (taken 0 s + i) number

  first_states : 0 < length rows → ShowsStates q rows o b 0
  first_states below v l after_source before_sink i within =
      let none : 0 ≡ fired q rows 0 v = sym (none_fired v) in
      latch_now q rows b strict v (carried.shells v after_source before_sink).wired 0 below l i
      ∙ sym (original_latch_first (carried.shells v after_source before_sink))
      ∙ ap (λ (m : ℕ). o.net v m l.out) none
    where
      original_latch_first : (shell : IsCarriedShell q o v) → o.net v 0 l.out ≡ l.init
      original_latch_first shell =
          let some : 0 < o.rows = omega (arith, within) in
          all_among (λ s. o.net v 0 l.out ≡ bit_of shell.inputs (o.net v) 0 s) (flat_drivers (q.flat v) l.out) (from_latch l.init l.input) (shell.table 0 l.out (subst (λ (m : ℕ). 0 < m) (sym shell.long) some)) (latch_drives (q.flat v) l i)

  next_states : (k : ℕ) → suc k < length rows → ShowsTokens q rows o b k → ShowsStates q rows o b k → ShowsStates q rows o b (suc k)
  next_states k below tokens states v l after_source before_sink i within =
      latch_now q rows b strict v wired (suc k) below l i
      ∙ kept_is q rows b strict v wired k (omega arith) l i
      ∙ by (b k (fire v)) refl
    where
      actor : v < q.actors
      actor = omega (arith, plan.last, before_sink)

      wired : AreWired v (q.flat v) (q.here v) (q.after v) (q.skips v)
      wired = (carried.shells v after_source before_sink).wired

      fires : b k (fire v) ≡ counts_up (fired q rows) v k
      fires = wires_show q plan rows b strict k v (omega arith) actor

      by : (x : Bool) → b k (fire v) ≡ x → (if x then b k (q.here v l.input) else b k (now v l.out)) ≡ o.net v (fired q rows (suc k) v) l.out
      by true is =
          let rising = sym fires ∙ is in
          let on = risen_by k v actor rising in
          latch_read k (omega arith) tokens states v after_source before_sink rising (omega (arith, on, within)) l i ∙ ap (λ (m : ℕ). o.net v m l.out) (sym on)
      by false is =
          let on = rests_by k v actor (sym fires ∙ is) in
          states v l after_source before_sink i (omega (arith, on, within)) ∙ ap (λ (m : ℕ). o.net v m l.out) (sym on)

  next_tokens : (k : ℕ) → suc k < length rows → ShowsTokens q rows o b k → ShowsStates q rows o b k → ShowsTokens q rows o b (suc k)
  next_tokens k below tokens states s i j there bit held few =
      latched s j there bit (suc k) i below (inside s j there bit k i (omega arith) tokens states held few)
      ∙ next_place s j there bit k i (omega arith) tokens states held few

  pub both_show : (k : ℕ) → k < length rows → ShowsTokens q rows o b k × ShowsStates q rows o b k
  both_show zero below = (first_tokens below, first_states below)
  both_show (suc k) below =
      let before = both_show k (omega arith) in
      (next_tokens k below before.0 before.1, next_states k below before.0 before.1)
