-- The four steps of a hand at an end, as its seat makes them.
use Rattle.std.proofs.Common.{◌≡◌, ℕ, ◌+◌, ◌/◌, ◌%◌, ◌<◌, true, List, length, get_or, set, refl, sym, ◌∙◌, ap, subst, arith, lt_of_not-le, Bool, cond, eq-eqb, ne_eqb}
use Rattle.std.specs.Prelude.{bit_and, bit_or, Some, slice_get}
use Rattle.atomic_table.specs.Table.{State, Me, Act, Valid, stepped, carried_after, Allows, keeps}
use Rattle.atomic_table.proofs.Lists.{set_here}
use Rattle.std.proofs.lemmas.Option.{slice_get_within}
use Rattle.lid_station.specs.Boards.{fill, drain}
use Rattle.lid_board.specs.Halves.{word_half, others, filling}
use Rattle.lid_board.specs.Relation.{AreWithin, Kept, IsPlanned, Related, word_count, first_word, capacity_of, stream_of}
use Rattle.lid_board.specs.Told.{HasStepped, LooksIn, LooksOut, TakesToken, Puts, ShowsNext}
use Rattle.lid_board.specs.Views.{EndTable, at, IsEarly, changed, stepped_at, held_seen, missing, passing}
use Rattle.lid_board.specs.declared.view.EndFacts.{EndFacts}
use Rattle.lid_board.specs.declared.view.HandView.{HandView}
use Rattle.lid_board.proofs.Frames.{end_within, is_early, are_within, steps_in, steps_out, view_within, apart}
use Rattle.lid_board.proofs.Reading.{reads_void, reads_token, reads_room, reads_full, reads_stop, reads_bits, kept_load, kept_taken_at, kept_put_at}
use Rattle.lid_board.proofs.Stations.{kept_token, kept_void, kept_room, kept_stop, place_within}
use mathlib.Core.Logic.{dite}
use native.Mathlib.Decide.{dec_le, ℕ_discrete}
use lib.ListN.{get_elem?}
use mathlib.Core.Option.{some}

-- what a hand that has an end of a station knows of it, in a board that is related to its plan
record Known {S : Type 0} (plan : EndTable) (st : State S HandView) (r : Related plan st) (station : ℕ) : Type 0 where
  there : station < r.stations
  cap : (r.truth (fill station)).cap ≡ capacity_of plan station
  stream : (r.truth (fill station)).stream ≡ stream_of plan station
  kept : Kept st.words (first_word plan station) (r.truth (fill station)) (r.truth (drain station))

known : {S : Type 0} (plan : EndTable) (st : State S HandView) (r : Related plan st) (station end : ℕ) → end < length plan → end / 2 ≡ station → Known plan st r station
known plan st r station end inside side =
    let ends = r.ends in
    let p = r.planned (fill station) (omega arith) in
    record { there = omega arith; cap = p.cap; stream = p.stream; kept = r.kept station (omega arith) }

-- what a hand that is at an end of a station knows: of the station, whose ends are f and d, and of the
-- place of the token that is next at the end
record AtEnd {S : Type 0} (plan : EndTable) (st : State S HandView) (r : Related plan st) (station place : ℕ) (f d : EndFacts) (passed : ℕ) : Type 0 where
  there : station < r.stations
  kept : Kept st.words (first_word plan station) f d
  cap : f.cap ≡ capacity_of plan station
  stream : f.stream ≡ stream_of plan station
  place_is : place ≡ passed % f.cap
  inside : place / 2 < word_count (capacity_of plan station)

at_end : {S : Type 0} (plan : EndTable) (st : State S HandView) (r : Related plan st) (station place : ℕ) (f d : EndFacts) (passed : ℕ) → Known plan st r station → f ≡ r.truth (fill station) → d ≡ r.truth (drain station) → place ≡ passed % capacity_of plan station → AtEnd plan st r station place f d passed
at_end plan st r station place f d passed k true_f true_d place_is =
    let cap : f.cap ≡ capacity_of plan station = ap (λ (y : EndFacts). y.cap) true_f ∙ k.cap in
    let kept : Kept st.words (first_word plan station) f d =
    subst (λ (y : EndFacts). Kept st.words (first_word plan station) y d) (sym true_f) (subst (Kept st.words (first_word plan station) (r.truth (fill station))) (sym true_d) k.kept) in
    let here : place ≡ passed % f.cap = place_is ∙ ap (λ (n : ℕ). passed % n) (sym cap) in
    let words : word_count f.cap ≡ word_count (capacity_of plan station) = ap word_count cap in
    let within = place_within f.cap passed kept.fixed.two in
    let half : place / 2 ≡ passed % f.cap / 2 = ap (λ (n : ℕ). n / 2) here in
    record { there = k.there; kept = kept; cap = cap; stream = ap (λ (y : EndFacts). y.stream) true_f ∙ k.stream; place_is = here; inside = omega arith }

-- a word of a station is a word of the table
word_within : {S : Type 0} (plan : EndTable) (st : State S HandView) (r : Related plan st) (station k : ℕ) → station < r.stations → k < word_count (capacity_of plan station) → first_word plan station + k < length st.words
word_within plan st r station k there inside =
    let a = apart plan station r.stations there in
    let w = r.words in
    omega arith

shown_zero : (place : ℕ) → word_half place 0 ≡ 0
shown_zero place =
    dite (ℕ_discrete (place % 2) 0)
    (λ even. ap (λ (b : Bool). cond b (0 % 4294967296) (0 / 4294967296)) (eq-eqb (place % 2) 0 even))
    (λ odd. ap (λ (b : Bool). cond b (0 % 4294967296) (0 / 4294967296)) (ne_eqb (place % 2) 0 odd))

module _ {S : Type 0} (plan : EndTable) (slots id place : ℕ) (me : Me S HandView) (station : ℕ) where
  at_drain : (d : EndFacts) → at me.0.ends (drain station) ≡ Some d → place ≡ d.passed % capacity_of plan station → (st : State S HandView) (r : Related plan st) → get_elem? st.views id ≡ some me.0
      → AtEnd plan st r station place (r.truth (fill station)) d d.passed
  at_drain d is place_is st r here =
      at_end plan st r station place (r.truth (fill station)) d d.passed (known plan st r station (drain station) (end_within plan st id me.0 (drain station) d r here is) (omega arith)) refl (r.agree id me.0 (drain station) d here is) place_is

  at_fill : (f : EndFacts) → at me.0.ends (fill station) ≡ Some f → place ≡ f.passed % capacity_of plan station → (st : State S HandView) (r : Related plan st) → get_elem? st.views id ≡ some me.0
      → AtEnd plan st r station place f (r.truth (drain station)) f.passed
  at_fill f is place_is st r here =
      at_end plan st r station place f (r.truth (drain station)) f.passed (known plan st r station (fill station) (end_within plan st id me.0 (fill station) f r here is) (omega arith)) (r.agree id me.0 (fill station) f here is) refl place_is

  -- what comes of a step that writes n, where `then` says what the hand knows
  abbrev After : State S HandView → ℕ → (Me S HandView → Type 0) → Type 0
  After st n then =
      (w : HandView) × (a : Act S) × Valid st.homes me.1 a × Related plan (stepped st (first_word plan station + place / 2) n id me.1 w a) × then (w, carried_after me.1 a)

  abbrev Word : State S HandView → ℕ
  Word st = get_or st.words (first_word plan station + place / 2) 0

  -- an end comes to e, in a board that is related to its plan then, and so the hand is told
  step_by : (st : State S HandView) (n end : ℕ) (e : EndFacts) → get_elem? st.views id ≡ some me.0
      → Related plan (stepped st (first_word plan station + place / 2) n id me.1 (stepped_at me.0 end e) keeps)
      → (Told : EndTable → Type 0) → (IsEarly (changed me.0.ends end e) → AreWithin plan (changed me.0.ends end e) → Told (changed me.0.ends end e))
      → After st n (λ w. (w.1 ≡ me.1) × HasStepped end me.0.steps w.0 Told)
  step_by st n end e here next Told told =
      let view = set_here st.views id _ (view_within st.views id me.0 here) in
      (stepped_at me.0 end e, keeps, tt, next, (refl, record { ends = told (is_early plan _ id _ next view) (are_within plan _ id _ next view); noted = refl }))

  -- the drained end comes to e
  step_in : (st : State S HandView) (r : Related plan st) (n : ℕ) (d e : EndFacts) → get_elem? st.views id ≡ some me.0 → at me.0.ends (drain station) ≡ Some d → IsPlanned d e → place / 2 < word_count (capacity_of plan station)
      → Kept (set st.words (first_word plan station + place / 2) n) (first_word plan station) (r.truth (fill station)) e
      → (Told : EndTable → Type 0) → (IsEarly (changed me.0.ends (drain station) e) → AreWithin plan (changed me.0.ends (drain station) e) → Told (changed me.0.ends (drain station) e))
      → After st n (λ w. (w.1 ≡ me.1) × HasStepped (drain station) me.0.steps w.0 Told)
  step_in st r n d e here is planned inside kept = step_by st n (drain station) e here (steps_in plan st st.homes id me.0 station (place / 2) n d e r here is planned inside kept)

  -- the filled end comes to e
  step_out : (st : State S HandView) (r : Related plan st) (n : ℕ) (f e : EndFacts) → get_elem? st.views id ≡ some me.0 → at me.0.ends (fill station) ≡ Some f → IsPlanned f e → place / 2 < word_count (capacity_of plan station)
      → Kept (set st.words (first_word plan station + place / 2) n) (first_word plan station) e (r.truth (drain station))
      → (Told : EndTable → Type 0) → (IsEarly (changed me.0.ends (fill station) e) → AreWithin plan (changed me.0.ends (fill station) e) → Told (changed me.0.ends (fill station) e))
      → After st n (λ w. (w.1 ≡ me.1) × HasStepped (fill station) me.0.steps w.0 Told)
  step_out st r n f e here is planned inside kept = step_by st n (fill station) e here (steps_out plan st st.homes id me.0 station (place / 2) n f e r here is planned inside kept)

  -- what is known at an end is what the board has there
  own_passed : (st : State S HandView) (r : Related plan st) (end : ℕ) → get_elem? st.views id ≡ some me.0 → (g : EndFacts) → at me.0.ends end ≡ Some g → g.passed ≡ (r.truth end).passed
  own_passed st r end here g at_g = ap (λ (y : EndFacts). y.passed) (r.agree id me.0 end g here at_g)

  pub looks_in : (d : EndFacts) → at me.0.ends (drain station) ≡ Some d → place ≡ d.passed % capacity_of plan station
      → Allows (Related plan) slots id me (first_word plan station + place / 2) (λ n. n) (λ r w. (w.1 ≡ me.1) × HasStepped (drain station) me.0.steps w.0 (LooksIn plan me.0.ends station place d r))
  looks_in d is place_is st r homes here fits =
      let f = r.truth (fill station) in
      let k = at_drain d is place_is st r here in
      let kept = k.kept in
      dite (dec_le f.passed d.passed)
      (λ none.
      let nothing = reads_void st.words (first_word plan station) f d place kept k.place_is none in
      let zero_half : word_half place (Word st) ≡ 0 = ap (word_half place) nothing ∙ shown_zero place in
      step_in st r (Word st) d (missing d) here is record { stream = refl; start = refl; cap = refl } k.inside
      (kept_load st.words (first_word plan station) f d (first_word plan station + place / 2) f (missing d) (kept_void st.words (first_word plan station) f d kept none))
      (LooksIn plan me.0.ends station place d (Word st))
      (λ early inside.
      record {
        right = record { stream = kept.fixed.stream ∙ k.stream; cap = kept.fixed.cap ∙ k.cap; early = early; within = inside };
        void = λ _. record { now = refl; nothing = nothing; started = (let more = kept.started in let same = kept.fixed.start in omega arith); unseen = λ mark. (let some = kept.token_seen mark in omega arith) };
        token = λ some. absurd (some zero_half);
        exact = λ g at_g. (let e = own_passed st r (fill station) here g at_g in let o = kept.ordered in ((λ _. omega arith), (λ _. zero_half)));
      }))
      (λ more.
      let some : d.passed < f.passed = lt_of_not-le more in
      let shows : ShowsNext d (word_half place (Word st)) = reads_token st.words (first_word plan station) f d place kept k.place_is some in
      step_in st r (Word st) d (held_seen d) here is record { stream = refl; start = refl; cap = refl } k.inside
      (kept_load st.words (first_word plan station) f d (first_word plan station + place / 2) f (held_seen d) (kept_token st.words (first_word plan station) f d kept some))
      (LooksIn plan me.0.ends station place d (Word st))
      (λ early inside.
      record {
        right = record { stream = kept.fixed.stream ∙ k.stream; cap = kept.fixed.cap ∙ k.cap; early = early; within = inside };
        void = λ none. (let least = shows.least in absurd (omega arith));
        token = λ _. (refl, shows);
        exact = λ g at_g. (let e = own_passed st r (fill station) here g at_g in let least = shows.least in ((λ none. omega arith), (λ same. absurd (omega arith))));
      }))

  pub looks_out : (f : EndFacts) → at me.0.ends (fill station) ≡ Some f → place ≡ f.passed % capacity_of plan station
      → Allows (Related plan) slots id me (first_word plan station + place / 2) (λ n. n) (λ r w. (w.1 ≡ me.1) × HasStepped (fill station) me.0.steps w.0 (LooksOut plan me.0.ends station place f r))
  looks_out f is place_is st r homes here fits =
      let d = r.truth (drain station) in
      let k = at_fill f is place_is st r here in
      let kept = k.kept in
      dite (dec_le (d.passed + f.cap) f.passed)
      (λ full.
      let least = reads_full st.words (first_word plan station) f d place kept k.place_is full in
      step_out st r (Word st) f (missing f) here is record { stream = refl; start = refl; cap = refl } k.inside
      (kept_load st.words (first_word plan station) f d (first_word plan station + place / 2) (missing f) d (kept_stop st.words (first_word plan station) f d kept full))
      (LooksOut plan me.0.ends station place f (Word st))
      (λ early inside.
      record {
        right = record { stream = k.stream; cap = k.cap; early = early; within = inside };
        room = λ none. absurd (omega arith);
        stop = λ _. record { now = refl; unseen = λ mark. (let some = kept.room_seen mark in omega arith); filled = omega arith; full = reads_stop st.words (first_word plan station) f d place kept k.place_is full; bits = reads_bits st.words (first_word plan station) f d place kept k.place_is full };
        exact = λ g at_g. (let e = own_passed st r (drain station) here g at_g in let o = kept.room in ((λ _. omega arith), (λ _ none. omega arith)));
      }))
      (λ more.
      let some : f.passed < d.passed + f.cap = lt_of_not-le more in
      let zero_half : word_half place (Word st) ≡ 0 = reads_room st.words (first_word plan station) f d place kept k.place_is some in
      step_out st r (Word st) f (held_seen f) here is record { stream = refl; start = refl; cap = refl } k.inside
      (kept_load st.words (first_word plan station) f d (first_word plan station + place / 2) (held_seen f) d (kept_room st.words (first_word plan station) f d kept some))
      (LooksOut plan me.0.ends station place f (Word st))
      (λ early inside.
      record {
        right = record { stream = k.stream; cap = k.cap; early = early; within = inside };
        room = λ _. refl;
        stop = λ full. absurd (full zero_half);
        exact = λ g at_g. (let e = own_passed st r (drain station) here g at_g in ((λ full. absurd (full zero_half)), (λ same _. omega arith)));
      }))

  pub takes : (d : EndFacts) → at me.0.ends (drain station) ≡ Some d → place ≡ d.passed % capacity_of plan station → d.mark ≡ true
      → Allows (Related plan) slots id me (first_word plan station + place / 2) (λ n. bit_and n (others place)) (λ r w. (w.1 ≡ me.1) × HasStepped (drain station) me.0.steps w.0 (TakesToken plan me.0.ends station place d r))
  takes d is place_is mark st r homes here fits =
      let k = at_drain d is place_is st r here in
      let kept = k.kept in
      let some : d.passed < (r.truth (fill station)).passed = kept.token_seen mark in
      let spot = word_within plan st r station (place / 2) k.there k.inside in
      let within = kept.within in
      let short = kept.fixed.short in
      step_in st r (bit_and (Word st) (others place)) d (passing d) here is record { stream = refl; start = refl; cap = refl } k.inside
      (kept_taken_at st.words (first_word plan station) (r.truth (fill station)) d place kept k.place_is some spot)
      (TakesToken plan me.0.ends station place d (Word st))
      (λ early inside.
      record {
        right = record { stream = kept.fixed.stream ∙ k.stream; cap = kept.fixed.cap ∙ k.cap; early = early; within = inside };
        now = refl;
        token = reads_token st.words (first_word plan station) (r.truth (fill station)) d place kept k.place_is some;
        counted = omega arith;
      })

  pub puts : (f : EndFacts) (token : ℕ) → at me.0.ends (fill station) ≡ Some f → place ≡ f.passed % capacity_of plan station → f.mark ≡ true → slice_get (stream_of plan station) f.passed ≡ Some token
      → Allows (Related plan) slots id me (first_word plan station + place / 2) (λ n. bit_or n (filling place token)) (λ r w. (w.1 ≡ me.1) × HasStepped (fill station) me.0.steps w.0 (Puts plan me.0.ends station f))
  puts f token is place_is mark next_is st r homes here fits =
      let k = at_fill f is place_is st r here in
      let some : f.passed < (r.truth (drain station)).passed + f.cap = k.kept.room_seen mark in
      let token_is : slice_get f.stream f.passed ≡ Some token = ap (λ (s : List ℕ). slice_get s f.passed) k.stream ∙ next_is in
      let within = slice_get_within f.stream f.passed token token_is in
      let short = k.kept.fixed.short in
      step_out st r (bit_or (Word st) (filling place token)) f (passing f) here is record { stream = refl; start = refl; cap = refl } k.inside
      (kept_put_at st.words (first_word plan station) f (r.truth (drain station)) place token k.kept k.place_is some token_is (word_within plan st r station (place / 2) k.there k.inside))
      (Puts plan me.0.ends station f)
      (λ early inside. record { right = record { stream = k.stream; cap = k.cap; early = early; within = inside }; now = refl; counted = omega arith })

-- the same steps at a word that is known to be the one of the place
module _ {S : Type 0} (plan : EndTable) (slots id place : ℕ) (me : Me S HandView) (station word : ℕ) (same : word ≡ first_word plan station + place / 2) where
  at_word : (end : ℕ) (step : ℕ → ℕ) (Told : ℕ → EndTable → Type 0) → Allows (Related plan) slots id me (first_word plan station + place / 2) step (λ r w. (w.1 ≡ me.1) × HasStepped end me.0.steps w.0 (Told r)) → Allows (Related plan) slots id me word step (λ r w. (w.1 ≡ me.1) × HasStepped end me.0.steps w.0 (Told r))
  at_word end step Told = subst (λ (i : ℕ). Allows (Related plan) slots id me i step (λ r w. (w.1 ≡ me.1) × HasStepped end me.0.steps w.0 (Told r))) (sym same)

  pub looks_in_at : (d : EndFacts) → at me.0.ends (drain station) ≡ Some d → place ≡ d.passed % capacity_of plan station
      → Allows (Related plan) slots id me word (λ n. n) (λ r w. (w.1 ≡ me.1) × HasStepped (drain station) me.0.steps w.0 (LooksIn plan me.0.ends station place d r))
  looks_in_at d is place_is = at_word (drain station) (λ n. n) (LooksIn plan me.0.ends station place d) (looks_in plan slots id place me station d is place_is)

  pub looks_out_at : (f : EndFacts) → at me.0.ends (fill station) ≡ Some f → place ≡ f.passed % capacity_of plan station
      → Allows (Related plan) slots id me word (λ n. n) (λ r w. (w.1 ≡ me.1) × HasStepped (fill station) me.0.steps w.0 (LooksOut plan me.0.ends station place f r))
  looks_out_at f is place_is = at_word (fill station) (λ n. n) (LooksOut plan me.0.ends station place f) (looks_out plan slots id place me station f is place_is)

  pub takes_at : (d : EndFacts) (bits : ℕ) → at me.0.ends (drain station) ≡ Some d → place ≡ d.passed % capacity_of plan station → d.mark ≡ true → bits ≡ others place
      → Allows (Related plan) slots id me word (λ n. bit_and n bits) (λ r w. (w.1 ≡ me.1) × HasStepped (drain station) me.0.steps w.0 (TakesToken plan me.0.ends station place d r))
  takes_at d bits is place_is mark bits_are =
      subst (λ (b : ℕ). Allows (Related plan) slots id me word (λ n. bit_and n b) (λ r w. (w.1 ≡ me.1) × HasStepped (drain station) me.0.steps w.0 (TakesToken plan me.0.ends station place d r))) (sym bits_are)
      (at_word (drain station) (λ n. bit_and n (others place)) (TakesToken plan me.0.ends station place d) (takes plan slots id place me station d is place_is mark))

  pub puts_at : (f : EndFacts) (token bits : ℕ) → at me.0.ends (fill station) ≡ Some f → place ≡ f.passed % capacity_of plan station → f.mark ≡ true → slice_get (stream_of plan station) f.passed ≡ Some token → bits ≡ filling place token
      → Allows (Related plan) slots id me word (λ n. bit_or n bits) (λ r w. (w.1 ≡ me.1) × HasStepped (fill station) me.0.steps w.0 (Puts plan me.0.ends station f))
  puts_at f token bits is place_is mark next_is bits_are =
      subst (λ (b : ℕ). Allows (Related plan) slots id me word (λ n. bit_or n b) (λ r w. (w.1 ≡ me.1) × HasStepped (fill station) me.0.steps w.0 (Puts plan me.0.ends station f))) (sym bits_are)
      (at_word (fill station) (λ n. bit_or n (filling place token)) (λ _. Puts plan me.0.ends station f) (puts plan slots id place me station f token is place_is mark next_is))
