-- A text of the form is a dump of the grammar: its body, and all of it.
use Rattle.std.proofs.Common.{◌≡◌, ℕ, zero, suc, ◌+◌, ◌-◌, ◌*◌, ◌/◌, ◌%◌, ◌<◌, ◌≤◌, ◌==◌, ◌&&◌, ◌||◌, ◌⊎◌, inl, inr, Bool, true, false, not, cond, List, [], ◌∷◌, ◌++◌, length, map, refl, sym, ◌∙◌, ap, subst, append_assoc, arith}
use Rattle.std.specs.Prelude.{Option, Some, None, Result, Ok, Err, codes, bytes_eq, nat_lt}
use Rattle.std.proofs.lemmas.Bool.{and_parts, eqb-true, ltb-true, not-true}
use Rattle.lid_base.proofs.Lists.{same_bytes}
use Rattle.lid_base.specs.Numbers.{number_below}
use Rattle.lid_texts_runs.specs.declared.trace.Trace.{Trace}
use Rattle.lid_vcd_form.specs.declared.form.Section.TheVariants.{Body}
use Rattle.lid_vcd_form.specs.declared.form.Next.{Next}
use Rattle.lid_vcd_form.specs.declared.form.Next.TheVariants.{Before, Time, Set, Bits}
use Rattle.lid_vcd_form.specs.declared.form.Place.{Place}
use Rattle.lid_vcd_form.specs.Ids.{id_of, id_value, is_token, variable_of, token_in_bits}
use Rattle.lid_vcd_form.specs.Form.{new_place, start, step, begins, in_body, later, bit_set, token_read, token_set, read_words, is_time}
use Rattle.lid_vcd_form.specs.Words.{placed_words}
use Rattle.lid_vcd_form.specs.Shows.{trace_of, wave_of, Wave}
use Rattle.lid_vcd.proofs.BodyRead.{AtTime, at_time, at_set}
use Rattle.lid_vcd_laws.specs.Grammar.{AreNotesAnd, Change, IsChange, IsTime, Step, AreSteps, IsBody, IsDump, AreDeclarations, trace_with, IsDumpOf}
use Rattle.lid_vcd_laws.specs.Laws.{DumpsShowTraces}
use Rattle.lid_vcd_laws.proofs.Leading.{word_of}
use Rattle.lid_vcd_laws.proofs.Bodies.{shows_trace}
use Rattle.lid_base_lines.specs.Texts.{Words}
use Rattle.lid_vcd_laws.proofs.Parsing.{Chain, chain_read, only_is, HasBegun, begun_from, timescale_found, scope_found, declared_from, definitions_found}

-- the variable that a word names
named_back : (variables : ℕ) (word : List ℕ) (n : ℕ) → variable_of variables word ≡ Some n → (n < variables) × (word ≡ id_of n)
unfolding variable_of
named_back variables word n e = by (nat_lt (id_value word) variables && bytes_eq word (id_of (id_value word))) refl e
  where
    by : (b : Bool) → (nat_lt (id_value word) variables && bytes_eq word (id_of (id_value word))) ≡ b → cond b (Some (id_value word)) None ≡ Some n → (n < variables) × (word ≡ id_of n)
    by true is h =
        let parts = and_parts (nat_lt (id_value word) variables) (bytes_eq word (id_of (id_value word))) is in
        let same : id_value word ≡ n = (let f : Some (id_value word) ≡ Some n = h in cc) in
        let less : id_value word < variables = ltb-true (id_value word) variables parts.0 in
        (omega arith, same_bytes word (id_of (id_value word)) parts.1 ∙ ap id_of same)
    by false is h = absurd (let f : None ≡ Some n = h in cc)

-- what a word of the body is
record IsLater (variables at : ℕ) (word : List ℕ) (r : Place) : Type 0 where
  until : ℕ
  after : at < until
  is : IsTime until word
  to : r ≡ new_place variables (Time until)

record SetsBit (variables at : ℕ) (word : List ℕ) (r : Place) : Type 0 where
  change : Change
  is : IsChange variables change (word ∷ [])
  to : r ≡ new_place variables (Set at change.variable change.value)

record HasBits (variables at : ℕ) (word : List ℕ) (r : Place) : Type 0 where
  value : ℕ
  bits : List ℕ
  are : word ≡ 98 ∷ bits
  writes : token_in_bits bits ≡ Some value
  to : r ≡ new_place variables (Bits at value)

abbrev InBody : ℕ → ℕ → List ℕ → Place → Type 0
InBody variables at word r = IsLater variables at word r ⊎ (SetsBit variables at word r ⊎ HasBits variables at word r)

later_found : (variables at mark : ℕ) (digits : List ℕ) (r : Place) (o : Option ℕ) → mark ≡ 35 → number_below 4294967296 digits ≡ o → later variables at o ≡ Some r → IsLater variables at (mark ∷ digits) r
later_found variables at mark digits r None is e h = absurd (let f : None ≡ Some r = h in cc)
later_found variables at mark digits r (Some until) is e h =
    let o = only_is (nat_lt at until) variables (Time until) r h in
    record { until = until; after = ltb-true at until o.0; is = record { digits = digits; are = ap (λ (m : ℕ). m ∷ digits) is; writes = e }; to = o.1 }

bit_found : (variables at value mark : ℕ) (id : List ℕ) (r : Place) (o : Option ℕ) → mark ≡ 48 + value → value ≤ 1 → variable_of variables id ≡ o → bit_set variables at value o ≡ Some r → SetsBit variables at (mark ∷ id) r
bit_found variables at value mark id r None is bit e h = absurd (let f : None ≡ Some r = h in cc)
bit_found variables at value mark id r (Some n) is bit e h =
    let o = only_is (not (is_token n)) variables (Set at n value) r h in
    let name = named_back variables id n e in
    record {
      change = record { variable = n; value = value };
      is = (name.0, inl (record { are = ap (λ (w : List ℕ). w ∷ []) (ap (λ (m : ℕ). m ∷ id) is ∙ ap (λ (xs : List ℕ). (48 + value) ∷ xs) name.1); bit = bit; plain = not-true (is_token n) o.0 }));
      to = o.1;
    }

bits_found : (variables at mark : ℕ) (bits : List ℕ) (r : Place) (o : Option ℕ) → mark ≡ 98 → token_in_bits bits ≡ o → token_read variables at o ≡ Some r → HasBits variables at (mark ∷ bits) r
bits_found variables at mark bits r None is e h = absurd (let f : None ≡ Some r = h in cc)
bits_found variables at mark bits r (Some value) is e h =
    let o = only_is (nat_lt 0 variables) variables (Bits at value) r h in
    record { value = value; bits = bits; are = ap (λ (m : ℕ). m ∷ bits) is; writes = e; to = o.1 }

in_body_found : (variables at : ℕ) (word : List ℕ) (r : Place) → in_body variables at word ≡ Some r → InBody variables at word r
unfolding in_body
in_body_found variables at [] r e = absurd (let f : None ≡ Some r = e in cc)
in_body_found variables at (mark ∷ rest) r e = by (mark == 35) refl (nat_lt at 4294967295) (mark == 48) refl (mark == 49) refl (mark == 98) refl e
  where
    by : (a : Bool) → (mark == 35) ≡ a → (b : Bool) → (c : Bool) → (mark == 48) ≡ c → (d : Bool) → (mark == 49) ≡ d → (f : Bool) → (mark == 98) ≡ f
        → cond a (later variables at (number_below 4294967296 rest)) (cond b (cond (c || d) (bit_set variables at (mark - 48) (variable_of variables rest)) (cond f (token_read variables at (token_in_bits rest)) None)) None) ≡ Some r
        → InBody variables at (mark ∷ rest) r
    by true is b c isc d isd f isf h = inl (later_found variables at mark rest r (number_below 4294967296 rest) (eqb-true mark 35 is) refl h)
    by false is false c isc d isd f isf h = absurd (let g : None ≡ Some r = h in cc)
    by false is true true isc d isd f isf h =
        let m : mark ≡ 48 = eqb-true mark 48 isc in
        inr (inl (bit_found variables at (mark - 48) mark rest r (variable_of variables rest) (omega arith) (omega arith) refl h))
    by false is true false isc true isd f isf h =
        let m : mark ≡ 49 = eqb-true mark 49 isd in
        inr (inl (bit_found variables at (mark - 48) mark rest r (variable_of variables rest) (omega arith) (omega arith) refl h))
    by false is true false isc false isd true isf h = inr (inr (bits_found variables at mark rest r (token_in_bits rest) (eqb-true mark 98 isf) refl h))
    by false is true false isc false isd false isf h = absurd (let g : None ≡ Some r = h in cc)

module _ (q : Place) (time : is_time q.next ≡ true) (variables : ℕ) where
  -- the words end at a time, or there are changes and a later time
  record HasStep (at : ℕ) (words : Words) : Type 0 where
    first : Step
    later_steps : List Step
    are : AreSteps variables at (first ∷ later_steps) words

  abbrev HasRest : ℕ → Next → Words → Type 0
  HasRest at next words = ((words ≡ []) × (new_place variables next ≡ q)) ⊎ HasStep at words

  -- a time, and what comes after it
  by_time : (at until : ℕ) (w : List ℕ) (ws : Words) → at < until → IsTime until w → HasRest until (Time until) ws → HasStep at (w ∷ ws)
  by_time at until w ws after is (inl none) = record { first = record { changes = []; until = until }; later_steps = []; are = ([], w, ws, refl, refl, after, is, none.0) }
  by_time at until w ws after is (inr s) = record { first = record { changes = []; until = until }; later_steps = s.first ∷ s.later_steps; are = ([], w, ws, refl, refl, after, is, s.are) }

  -- a change, and what comes after it
  by_change : (at : ℕ) (c : Change) (one ws : Words) → IsChange variables c one → HasRest at (Set at c.variable c.value) ws → HasStep at (one ++ ws)
  by_change at c one ws is (inl none) = absurd (let e : is_time (Set at c.variable c.value) ≡ is_time q.next = ap (λ (x : Place). is_time x.next) none.1 in cc)
  by_change at c one ws is (inr s) = record {
    first = record { changes = c ∷ s.first.changes; until = s.first.until };
    later_steps = s.later_steps;
    are = (
      one ++ s.are.0,
      s.are.1,
      s.are.2,
      ap (λ (xs : Words). one ++ xs) s.are.3 ∙ sym (append_assoc one s.are.0 (s.are.1 ∷ s.are.2)),
      (one, s.are.0, refl, is, s.are.4),
      s.are.5,
      s.are.6,
      s.are.7,
    );
  }

  -- the name of a token, after its bits
  record SetsToken (at value : ℕ) (bits : List ℕ) (ws : Words) : Type 0 where
    change : Change
    word : List ℕ
    rest : Words
    is : ws ≡ word ∷ rest
    so : IsChange variables change ((98 ∷ bits) ∷ word ∷ [])
    on : Chain (new_place variables (Set at change.variable change.value)) rest q

  token_step : (at value : ℕ) (word : List ℕ) → step (new_place variables (Bits at value)) word ≡ token_set variables at value (variable_of variables word)
  unfolding step
  token_step at value word = refl

  token_found : (at value : ℕ) (bits : List ℕ) (ws : Words) → token_in_bits bits ≡ Some value → Chain (new_place variables (Bits at value)) ws q → SetsToken at value bits ws
  token_found at value bits [] writes same = absurd (let e : is_time (Bits at value) ≡ is_time q.next = ap (λ (x : Place). is_time x.next) same in cc)
  token_found at value bits (w ∷ ws) writes chain = by (variable_of variables w) refl (sym (token_step at value w) ∙ chain.1)
    where
      by : (o : Option ℕ) → variable_of variables w ≡ o → token_set variables at value o ≡ Some chain.0 → SetsToken at value bits (w ∷ ws)
      by None e h = absurd (let f : None ≡ Some chain.0 = h in cc)
      by (Some n) e h =
          let o = only_is (is_token n) variables (Set at n value) chain.0 h in
          let name = named_back variables w n e in
          record {
            change = record { variable = n; value = value };
            word = w;
            rest = ws;
            is = refl;
            so = (name.0, inr (record { bits = bits; are = ap (λ (x : List ℕ). (98 ∷ bits) ∷ x ∷ []) name.1; writes = writes; token = o.0 }));
            on = subst (λ (x : Place). Chain x ws q) o.1 chain.2;
          }

  Shorter : ℕ → Type 0
  Shorter most = (at : ℕ) (next : Next) → AtTime variables at next → (xs : Words) → length xs ≤ most → Chain (new_place variables next) xs q → HasRest at next xs

  rest_found : (most at : ℕ) (next : Next) → AtTime variables at next → (words : Words) → length words ≤ most → Chain (new_place variables next) words q → HasRest at next words
  unfolding Shorter
  rest_found most at next here [] few same = inl (refl, same)
  rest_found zero at next here (w ∷ ws) few chain = absurd (omega arith)
  rest_found (suc most) at next here (w ∷ ws) few chain = inr (by (in_body_found variables at w chain.0 (sym (here.steps w) ∙ chain.1)) (λ a n h xs l c. rest_found most a n h xs l c))
    where
      on : (to : Next) → chain.0 ≡ new_place variables to → Chain (new_place variables to) ws q
      on to is = subst (λ (x : Place). Chain x ws q) is chain.2

      of_token : (b : HasBits variables at w chain.0) → SetsToken at b.value b.bits ws → Shorter most → HasStep at (w ∷ ws)
      of_token b t shorter =
          let long : length ws ≡ suc (length t.rest) = ap length t.is in
          let rest = shorter at (Set at t.change.variable t.change.value) (at_set variables at t.change.variable t.change.value) t.rest (omega arith) t.on in
          let same : w ∷ ws ≡ ((98 ∷ b.bits) ∷ t.word ∷ []) ++ t.rest = ap (λ (x : List ℕ). x ∷ ws) b.are ∙ ap (λ (xs : Words). (98 ∷ b.bits) ∷ xs) t.is in
          subst (HasStep at) (sym same) (by_change at t.change ((98 ∷ b.bits) ∷ t.word ∷ []) t.rest t.so rest)

      by : InBody variables at w chain.0 → Shorter most → HasStep at (w ∷ ws)
      by (inl t) shorter = by_time at t.until w ws t.after t.is (shorter t.until (Time t.until) (at_time variables t.until) ws (omega arith) (on (Time t.until) t.to))
      by (inr (inl b)) shorter = by_change at b.change (w ∷ []) ws b.is (shorter at (Set at b.change.variable b.change.value) (at_set variables at b.change.variable b.change.value) ws (omega arith) (on (Set at b.change.variable b.change.value) b.to))
      by (inr (inr b)) shorter = of_token b (token_found at b.value b.bits ws b.writes (on (Bits at b.value) b.to)) shorter

  -- the body
  record HasBody (words : Words) : Type 0 where
    steps : List Step
    is : AreNotesAnd (IsBody variables steps) words

  body_found : (words : Words) → Chain (new_place variables (Before Body)) words q → HasBody words
  unfolding begins
  body_found words chain =
      let b = begun_from q time (length words) variables Body words (omega arith) chain in
      let o = only_is (bytes_eq b.word (codes "#0")) variables (Time 0) b.place b.begun in
      by b (same_bytes b.word (codes "#0") o.0) (rest_found (length b.rest) 0 (Time 0) (at_time variables 0) b.rest (omega arith) (subst (λ (x : Place). Chain x b.rest q) o.1 b.on))
    where
      made : (b : HasBegun q time variables Body words) → b.word ≡ codes "#0" → (steps : List Step) → AreSteps variables 0 steps b.rest → HasBody words
      made b is steps are = record {
        steps = steps;
        is = record { notes = b.notes; before = b.before; thing = b.word ∷ b.rest; are = b.is; are_notes = b.are_notes; is = record { rest = b.rest; are = ap (λ (w : List ℕ). w ∷ b.rest) is; are_steps = are } };
      }

      by : (b : HasBegun q time variables Body words) → b.word ≡ codes "#0" → HasRest 0 (Time 0) b.rest → HasBody words
      by b is (inl none) = made b is [] none.0
      by b is (inr s) = made b is (s.first ∷ s.later_steps) s.are

-- all of a dump
record HasDump (words : Words) : Type 0 where
  stations : ℕ
  steps : List Step
  few : stations ≤ 65536
  is : IsDump stations steps words

module _ (q : Place) (time : is_time q.next ≡ true) where
  joined : (words t s d u f body after_t after_s after_u : Words) → words ≡ t ++ after_t → after_t ≡ s ++ after_s → after_s ≡ d ++ (u ++ after_u) → after_u ≡ f ++ body → words ≡ (t ++ (s ++ (d ++ (u ++ f)))) ++ body
  joined words t s d u f body after_t after_s after_u first second third last =
      first
      ∙ ap (λ (xs : Words). t ++ xs) (second
      ∙ ap (λ (xs : Words). s ++ xs) (third
      ∙ ap (λ (xs : Words). d ++ xs) (ap (λ (xs : Words). u ++ xs) last ∙ sym (append_assoc u f body))
      ∙ sym (append_assoc d (u ++ f) body))
      ∙ sym (append_assoc s (d ++ (u ++ f)) body))
      ∙ sym (append_assoc t (s ++ (d ++ (u ++ f))) body)

  dump_found : (words : Words) → Chain start words q → HasDump words
  dump_found words chain =
      let t = timescale_found q time words chain in
      let s = scope_found q time 0 t.rest t.on in
      let d = declared_from q time (length s.rest) 0 s.rest (omega arith) (omega arith) s.on in
      let f = definitions_found q time (0 + d.left) d.rest d.on in
      let b = body_found q time (0 + d.left) f.rest f.on in
      let whole : (0 + d.left) % 3 ≡ 0 = d.whole in
      let thrice : 3 * ((0 + d.left) / 3) ≡ 0 + d.left = omega arith in
      let left : d.left ≡ 3 * ((0 + d.left) / 3) = omega arith in
      record {
        stations = (0 + d.left) / 3;
        steps = b.steps;
        few = omega (arith, d.few);
        is = record {
          head = t.piece ++ (s.piece ++ (d.declarations ++ (d.upscope ++ f.piece)));
          body = f.rest;
          are = joined words t.piece s.piece d.declarations d.upscope f.piece f.rest t.rest s.rest d.rest t.is s.is d.is f.is;
          is_head = record {
            timescale = t.piece;
            scope = s.piece;
            declarations = d.declarations;
            upscope = d.upscope;
            definitions = f.piece;
            are = refl;
            is_timescale = t.so;
            is_scope = s.so;
            are_declarations = subst (λ (m : ℕ). AreDeclarations 0 m d.declarations) left d.are;
            is_upscope = d.is_upscope;
            is_definitions = f.so;
          };
          is_body = subst (λ (m : ℕ). AreNotesAnd (IsBody m b.steps) f.rest) (sym thrice) b.is;
        };
      }

pub shown_is_dump : (bytes : List ℕ) (trace : Trace) → Wave bytes trace → IsDumpOf trace bytes
unfolding wave_of
shown_is_dump bytes trace e = by (read_words 0 start (placed_words bytes)) refl e
  where
    by_dump : HasDump (map word_of (placed_words bytes)) → IsDumpOf trace bytes
    by_dump d =
        let shows : Wave bytes (trace_with d.stations d.steps) = shows_trace bytes (trace_with d.stations d.steps) (record { stations = d.stations; steps = d.steps; few = d.few; is = d.is; shows = refl }) in
        let both : (let r : Result Trace ℕ = Ok trace in r) ≡ Ok (trace_with d.stations d.steps) = sym e ∙ shows in
        record { stations = d.stations; steps = d.steps; few = d.few; is = d.is; shows = cc }

    by : (r : Result Place ℕ) → read_words 0 start (placed_words bytes) ≡ r → trace_of (placed_words bytes) r ≡ Ok trace → IsDumpOf trace bytes
    by (Err line) f h = absurd (let g : (let r : Result Trace ℕ = Err line in r) ≡ Ok trace = h in cc)
    by (Ok q) f h = let c = chain_read 0 start q (placed_words bytes) f in by_dump (dump_found q c.1 (map word_of (placed_words bytes)) c.0)

pub dumps_show_traces : DumpsShowTraces
dumps_show_traces bytes trace = (shows_trace bytes trace, shown_is_dump bytes trace)
