-- The changes and times of the body set values and show cells; so a dump shows its trace.
use Rattle.std.proofs.Common.{◌≡◌, ℕ, zero, suc, ◌+◌, ◌-◌, ◌*◌, ◌/◌, ◌<◌, ◌≤◌, ◌⊎◌, inl, inr, false, not, List, [], ◌∷◌, ◌++◌, map, replicate, set, refl, sym, ◌∙◌, ap, subst, append-nil, append_assoc, lt-ltb, arith}
use Rattle.std.specs.Prelude.{Option, Some, None, Ok, nat_lt, unwrap_or}
use Rattle.std.proofs.lemmas.Bool.{cond-true}
use Rattle.lid_base.specs.Numbers.{number_below, value_below}
use Rattle.lid_base.proofs.Numbers.{value_below_less}
use Rattle.lid_base.specs.declared.runs.Shown.{Shown}
use Rattle.lid_texts_runs.specs.declared.trace.Trace.{Trace}
use Rattle.lid_vcd_form.specs.declared.form.Next.{Next}
use Rattle.lid_vcd_form.specs.declared.form.Next.TheVariants.{Before, Time, Set, Bits}
use Rattle.lid_vcd_form.specs.declared.form.Section.TheVariants.{Body}
use Rattle.lid_vcd_form.specs.declared.form.Place.{Place}
use Rattle.lid_vcd_form.specs.Ids.{id_of, is_token, token_in_bits}
use Rattle.lid_vcd_form.specs.Form.{new_place, start, step, in_body, later, bit_set, token_read, change, read_words}
use Rattle.lid_vcd_form.specs.Words.{placed_words}
use Rattle.lid_vcd_form.specs.Shows.{cycles_of, cells_on, trace_at, trace_of, wave_of, Wave}
use Rattle.lid_vcd.proofs.HeadRead.{only_true}
use Rattle.lid_vcd.proofs.BodyRead.{named, AtTime, at_time, at_set, token_told}
use Rattle.lid_vcd.proofs.WavesRead.{first_time}
use Rattle.lid_vcd.proofs.Going.{Goes, run_goes}
use Rattle.lid_vcd_laws.specs.Grammar.{Change, IsBitChange, IsTokenChange, IsChange, AreChanges, IsTime, Step, AreSteps, IsBody, IsDump, with_changes, shown_from, last_time, trace_with, IsDumpOf}
use Rattle.lid_vcd_laws.proofs.Leading.{Leads, leads_none, leads_then, word_of, goes_by}
use Rattle.lid_base_lines.specs.Texts.{Words}
use Rattle.lid_vcd_laws.proofs.Heads.{notes_pass, head_passes}

-- the first word of a change
bit_marked : (variables at n value : ℕ) → at < 4294967295 → n < variables → n < 830584 → is_token n ≡ false → value ≤ 1 → in_body variables at ((48 + value) ∷ id_of n) ≡ Some (new_place variables (Set at n value))
unfolding in_body
bit_marked variables at n zero early below small plain bit =
    cond-true (nat_lt at 4294967295) (change variables at 48 (id_of n)) None (lt-ltb at 4294967295 early)
    ∙ ap (bit_set variables at 0) (named variables n below small) ∙ only_true (not (is_token n)) variables (Set at n 0) (ap not plain)
bit_marked variables at n (suc zero) early below small plain bit =
    cond-true (nat_lt at 4294967295) (change variables at 49 (id_of n)) None (lt-ltb at 4294967295 early)
    ∙ ap (bit_set variables at 1) (named variables n below small) ∙ only_true (not (is_token n)) variables (Set at n 1) (ap not plain)
bit_marked variables at n (suc (suc value)) early below small plain bit = absurd (omega arith)

bits_marked : (variables at value : ℕ) (bits : List ℕ) → at < 4294967295 → 0 < variables → token_in_bits bits ≡ Some value → in_body variables at (98 ∷ bits) ≡ Some (new_place variables (Bits at value))
unfolding in_body
bits_marked variables at value bits early some writes =
    cond-true (nat_lt at 4294967295) (change variables at 98 bits) None (lt-ltb at 4294967295 early)
    ∙ ap (token_read variables at) writes ∙ only_true (nat_lt 0 variables) variables (Bits at value) (lt-ltb 0 variables some)

time_marked : (variables at until : ℕ) (digits : List ℕ) → at < until → number_below 4294967296 digits ≡ Some until → in_body variables at (35 ∷ digits) ≡ Some (new_place variables (Time until))
unfolding in_body
time_marked variables at until digits after writes = ap (later variables at) writes ∙ only_true (nat_lt at until) variables (Time until) (lt-ltb at until after)

-- words of the body lead so from any place at this time
abbrev LeadsAt : ℕ → ℕ → List ℕ → Words → Next → List ℕ → List Shown → Type 0
LeadsAt variables at values words to after cells = (next : Next) → AtTime variables at next → Leads (new_place variables next) values words (new_place variables to) after cells

-- the values at the end
abbrev pub left_by : List ℕ → List Step → List ℕ
left_by values [] = values
left_by values (s ∷ steps) = left_by (with_changes values s.changes) steps

number_small : (word : List ℕ) (n : ℕ) → number_below 4294967296 word ≡ Some n → n < 4294967296
number_small word n writes =
    let value : value_below 4294967296 word ≡ n = ap (λ (o : Option ℕ). unwrap_or o 0) writes in
    omega (arith, value_below_less 4294967296 word (omega arith))

module _ (variables : ℕ) (few : variables ≤ 196608) where
  change_leads : (at : ℕ) (c : Change) (values : List ℕ) (words : Words) → at < 4294967295 → IsChange variables c words → LeadsAt variables at values words (Set at c.variable c.value) (set values c.variable c.value) []
  change_leads at c values words early is next here = by is.1
    where
      by : IsBitChange c words ⊎ IsTokenChange c words → Leads (new_place variables next) values words (new_place variables (Set at c.variable c.value)) (set values c.variable c.value) []
      by (inl b) =
          let e : step (new_place variables next) ((48 + c.value) ∷ id_of c.variable) ≡ Some (new_place variables (Set at c.variable c.value)) = here.steps ((48 + c.value) ∷ id_of c.variable) ∙ bit_marked variables at c.variable c.value early is.0 (omega (arith, is.0, few)) b.plain b.bit in
          subst (λ (ws : Words). Leads (new_place variables next) values ws (new_place variables (Set at c.variable c.value)) (set values c.variable c.value) []) (sym b.are)
          (new_place variables (Set at c.variable c.value), [], e, refl, (refl, refl, refl))
      by (inr t) =
          let e : step (new_place variables next) (98 ∷ t.bits) ≡ Some (new_place variables (Bits at c.value)) = here.steps (98 ∷ t.bits) ∙ bits_marked variables at c.value t.bits early (omega (arith, is.0)) t.writes in
          subst (λ (ws : Words). Leads (new_place variables next) values ws (new_place variables (Set at c.variable c.value)) (set values c.variable c.value) []) (sym t.are) (
            new_place variables (Bits at c.value),
            [],
            e,
            refl,
            (new_place variables (Set at c.variable c.value), [], token_told variables at c.variable c.value is.0 (omega (arith, is.0, few)) t.token, refl, (refl, refl, refl)),
          )

  -- changes, and then the next time
  changes_lead : (at : ℕ) (cs : List Change) (values : List ℕ) (words : Words) (time : List ℕ) (until : ℕ) → at < 4294967295 → AreChanges variables cs words → at < until → IsTime until time
      → LeadsAt variables at values (words ++ time ∷ []) (Time until) (with_changes values cs) (cycles_of (until - at) (with_changes values cs))
  changes_lead at [] values words time until early are after is next here =
      let e : step (new_place variables next) (35 ∷ is.digits) ≡ Some (new_place variables (Time until)) = here.steps (35 ∷ is.digits) ∙ time_marked variables at until is.digits after is.writes in
      let same : words ++ time ∷ [] ≡ (35 ∷ is.digits) ∷ [] = ap (λ (ws : Words). ws ++ time ∷ []) are ∙ ap (λ (w : List ℕ). w ∷ []) is.are in
      subst (λ (ws : Words). Leads (new_place variables next) values ws (new_place variables (Time until)) values (cycles_of (until - at) values)) (sym same)
      (new_place variables (Time until), [], e, ap (λ (t : ℕ). cycles_of (until - t) values) (sym here.time) ∙ sym (append-nil _), (refl, refl, refl))
  changes_lead at (c ∷ cs) values words time until early are after is next here =
      let rest : Leads (new_place variables (Set at c.variable c.value)) (set values c.variable c.value) (are.1 ++ time ∷ []) (new_place variables (Time until)) (with_changes values (c ∷ cs)) (cycles_of (until - at) (with_changes values (c ∷ cs)))
      = changes_lead at cs (set values c.variable c.value) are.1 time until early are.4 after is (Set at c.variable c.value) (at_set variables at c.variable c.value) in
      let same : words ++ time ∷ [] ≡ are.0 ++ (are.1 ++ time ∷ []) = ap (λ (ws : Words). ws ++ time ∷ []) are.2 ∙ append_assoc are.0 are.1 (time ∷ []) in
      subst (λ (ws : Words). Leads (new_place variables next) values ws (new_place variables (Time until)) (with_changes values (c ∷ cs)) (cycles_of (until - at) (with_changes values (c ∷ cs)))) (sym same)
      (leads_then are.0 (are.1 ++ time ∷ []) (new_place variables next) (new_place variables (Set at c.variable c.value)) (new_place variables (Time until)) values (set values c.variable c.value) (with_changes values (c ∷ cs)) [] (cycles_of (until - at) (with_changes values (c ∷ cs)))
      (change_leads at c values are.0 early are.3 next here) rest)

  steps_lead : (at : ℕ) (steps : List Step) (values : List ℕ) (words : Words) → AreSteps variables at steps words → Leads (new_place variables (Time at)) values words (new_place variables (Time (last_time at steps))) (left_by values steps) (shown_from at values steps)
  steps_lead at [] values words are = subst (λ (ws : Words). Leads (new_place variables (Time at)) values ws (new_place variables (Time at)) values []) (sym are) (leads_none (new_place variables (Time at)) values)
  steps_lead at (s ∷ steps) values words are =
      let time = are.6 in
      let small : s.until < 4294967296 = number_small time.digits s.until time.writes in
      let after : at < s.until = are.5 in
      let first = changes_lead at s.changes values are.0 are.1 s.until (omega arith) are.4 after time (Time at) (at_time variables at) in
      let rest = steps_lead s.until steps (with_changes values s.changes) are.2 are.7 in
      let same : words ≡ (are.0 ++ are.1 ∷ []) ++ are.2 = are.3 ∙ sym (append_assoc are.0 (are.1 ∷ []) are.2) in
      subst (λ (ws : Words). Leads (new_place variables (Time at)) values ws (new_place variables (Time (last_time s.until steps))) (left_by (with_changes values s.changes) steps) (shown_from at values (s ∷ steps))) (sym same)
      (leads_then (are.0 ++ are.1 ∷ []) are.2 (new_place variables (Time at)) (new_place variables (Time s.until)) (new_place variables (Time (last_time s.until steps))) values (with_changes values s.changes) (left_by (with_changes values s.changes) steps) (cycles_of (s.until - at) (with_changes values s.changes)) (shown_from s.until (with_changes values s.changes) steps) first rest)

  body_leads : (steps : List Step) (values : List ℕ) (words : Words) → IsBody variables steps words → Leads (new_place variables (Before Body)) values words (new_place variables (Time (last_time 0 steps))) (left_by values steps) (shown_from 0 values steps)
  body_leads steps values words is =
      subst (λ (ws : Words). Leads (new_place variables (Before Body)) values ws (new_place variables (Time (last_time 0 steps))) (left_by values steps) (shown_from 0 values steps)) (sym is.are)
      (new_place variables (Time 0), shown_from 0 values steps, first_time variables, refl, steps_lead 0 steps values is.rest is.are_steps)

-- a dump leads from the start to its last time
pub dump_leads : (stations : ℕ) (steps : List Step) (words : Words) → stations ≤ 65536 → IsDump stations steps words → (values : List ℕ) →
    Leads start values words (new_place (3 * stations) (Time (last_time 0 steps))) (left_by values steps) (shown_from 0 values steps)
dump_leads stations steps words few is values =
    let b = is.is_body in
    let inside : Place = new_place (3 * stations) (Before Body) in
    let end : Place = new_place (3 * stations) (Time (last_time 0 steps)) in
    let head = head_passes (3 * stations) (omega arith) (omega arith) is.head is.is_head values in
    let notes = notes_pass (3 * stations) Body b.notes b.before b.are_notes values in
    let body = body_leads (3 * stations) (omega arith) steps values b.thing b.is in
    let same : words ≡ is.head ++ (b.before ++ b.thing) = is.are ∙ ap (λ (ws : Words). is.head ++ ws) b.are in
    subst (λ (ws : Words). Leads start values ws (new_place (3 * stations) (Time (last_time 0 steps))) (left_by values steps) (shown_from 0 values steps)) (sym same)
    (leads_then is.head (b.before ++ b.thing) start inside end values values (left_by values steps) [] (shown_from 0 values steps) head
    (leads_then b.before b.thing inside inside end values values (left_by values steps) [] (shown_from 0 values steps) notes body))

-- so it shows its trace
pub shows_trace : (bytes : List ℕ) (trace : Trace) → IsDumpOf trace bytes → Wave bytes trace
unfolding wave_of
shows_trace bytes trace is =
    let zeros : List ℕ = replicate (3 * is.stations) 0 in
    let end : Place = new_place (3 * is.stations) (Time (last_time 0 is.steps)) in
    let goes : Goes start zeros (placed_words bytes) end (left_by zeros is.steps) (shown_from 0 zeros is.steps) = goes_by start end zeros (left_by zeros is.steps) (placed_words bytes) (shown_from 0 zeros is.steps) (dump_leads is.stations is.steps (map word_of (placed_words bytes)) is.few is.is zeros) in
    let read : read_words 0 start (placed_words bytes) ≡ Ok end = run_goes 0 start end (placed_words bytes) goes.leads refl in
    let cells : cells_on start zeros (placed_words bytes) ≡ shown_from 0 zeros is.steps = ap (cells_on start zeros) (sym (append-nil (placed_words bytes))) ∙ goes.shows [] ∙ append-nil (shown_from 0 zeros is.steps) in
    let stations : 3 * is.stations / 3 ≡ is.stations = omega arith in
    let made : trace_at (placed_words bytes) end ≡ trace_with is.stations is.steps =
    ap (λ (n : ℕ). whole n (cells_on start zeros (placed_words bytes))) stations ∙ ap (whole is.stations) cells in
    ap (trace_of (placed_words bytes)) read ∙ ap Ok (made ∙ sym is.shows)
  where
    whole : ℕ → List Shown → Trace
    whole n cells = record { stations = n; cycles = last_time 0 is.steps; cells = cells }
