-- The line of a refusal is that of the first word by which no dump goes on.
use Rattle.std.proofs.Common.{◌≡◌, ℕ, ◌+◌, ◌*◌, ◌≤◌, ◌⊎◌, inl, inr, Bool, true, false, cond, List, [], ◌∷◌, ◌++◌, map, refl, sym, ◌∙◌, ap, subst, append_assoc, arith}
use Rattle.std.specs.Prelude.{Option, Some, None, Result, Ok, Err, option_and_then}
use Rattle.std.specs.List.{AllByRecursion}
use Rattle.std.proofs.lemmas.Bool.{or_from}
use Rattle.std.proofs.lemmas.List.{map-append}
use Rattle.lid_base.specs.Lines.{is_newline, is_separator}
use Rattle.lid_base.specs.declared.runs.Shown.{Shown}
use Rattle.lid_base.proofs.Lists.{all_append}
use Rattle.lid_base.proofs.Alls.{all_parts}
use Rattle.lid_texts_runs.specs.declared.trace.Trace.{Trace}
use Rattle.lid_vcd_form.specs.declared.form.Next.TheVariants.{Time}
use Rattle.lid_vcd_form.specs.declared.form.Place.{Place}
use Rattle.lid_vcd_form.specs.Form.{new_place, start, step, read_words, going_on, is_time}
use Rattle.lid_vcd_form.specs.Words.{separates, word_before, words_on, placed_words}
use Rattle.lid_vcd_form.specs.Shows.{values_after, trace_at, trace_of, wave_of}
use Rattle.lid_vcd.specs.Laws.{place_after}
use Rattle.lid_vcd.proofs.WrittenWords.{IsWord, on_line, spaced, spaced_read, line_after, both_read}
use Rattle.lid_vcd.proofs.Alive.{words_go_on}
use Rattle.lid_vcd_laws.specs.Grammar.{Step, IsDump, last_time, shown_from, IsDumpOf}
use Rattle.lid_vcd_laws.specs.Laws.{IsBeginning, plain_words, last_line, IsFirstOff, EndEarly, RefusalsAreFirst}
use Rattle.lid_vcd_laws.proofs.Leading.{Leads, word_of}
use Rattle.lid_vcd_laws.proofs.Bodies.{left_by, dump_leads}
use Rattle.lid_vcd_laws.proofs.Parsing.{Chain}
use Rattle.lid_base_lines.specs.Texts.{Words}
use Rattle.lid_vcd_laws.proofs.Found.{shown_is_dump}

-- a text's words have bytes, and none that separates words
words_before : (line : ℕ) (word : List ℕ) (placed : List (ℕ × List ℕ)) → AllByRecursion (λ b. separates b ≡ false) word → AllByRecursion IsWord (map word_of placed) → AllByRecursion IsWord (map word_of (word_before line word placed))
words_before line [] placed bytes all = all
words_before line (b ∷ bs) placed bytes all = (record { some = omega arith; bytes = bytes }, all)

are_words : (line : ℕ) (word bs : List ℕ) → AllByRecursion (λ b. separates b ≡ false) word → AllByRecursion IsWord (map word_of (words_on line word bs))
are_words line word [] bytes = words_before line word [] bytes tt
are_words line word (b ∷ bs) bytes = by (is_newline b) refl (is_separator b) refl (are_words (line + 1) [] bs tt) (are_words line [] bs tt) (λ more. are_words line (word ++ b ∷ []) bs more)
  where
    by : (x : Bool) → is_newline b ≡ x → (y : Bool) → is_separator b ≡ y
        → AllByRecursion IsWord (map word_of (words_on (line + 1) [] bs)) → AllByRecursion IsWord (map word_of (words_on line [] bs))
        → (AllByRecursion (λ c. separates c ≡ false) (word ++ b ∷ []) → AllByRecursion IsWord (map word_of (words_on line (word ++ b ∷ []) bs)))
        → AllByRecursion IsWord (map word_of (cond x (word_before line word (words_on (line + 1) [] bs)) (cond y (word_before line word (words_on line [] bs)) (words_on line (word ++ b ∷ []) bs))))
    by true e y f newline blank more = words_before line word (words_on (line + 1) [] bs) bytes newline
    by false e true f newline blank more = words_before line word (words_on line [] bs) bytes blank
    by false e false f newline blank more = more (all_append (λ c. separates c ≡ false) word (b ∷ []) bytes (or_from (is_newline b) (is_separator b) e f, tt))

text_words : (bytes : List ℕ) → AllByRecursion IsWord (map word_of (placed_words bytes))
unfolding placed_words
text_words bytes = are_words 1 [] bytes tt

-- words lead to one place
chain_end : (words : Words) (p q r : Place) → Chain p words q → Chain p words r → q ≡ r
chain_end [] p q r one other = sym one ∙ other
chain_end (w ∷ ws) p q r one other =
    let same : other.0 ≡ one.0 = (let f : Some other.0 ≡ Some one.0 = sym other.1 ∙ one.1 in cc) in
    chain_end ws one.0 q r one.2 (subst (λ (x : Place). Chain x ws r) same other.2)

chain_parts : (xs ys : Words) (p q : Place) → Chain p (xs ++ ys) q → (r : Place) × Chain p xs r × Chain r ys q
chain_parts [] ys p q chain = (p, refl, chain)
chain_parts (x ∷ xs) ys p q chain = let rest = chain_parts xs ys chain.0 q chain.2 in (rest.0, (chain.0, chain.1, rest.1), rest.2)

chain_of : (words : Words) (p q : Place) (values after : List ℕ) (cells : List Shown) → Leads p values words q after cells → Chain p words q
chain_of [] p q values after cells l = l.0
chain_of (w ∷ ws) p q values after cells l = (l.0, l.2, chain_of ws l.0 q (values_after values l.0.next) after l.1 l.4)

dump_chain : (stations : ℕ) (steps : List Step) (words : Words) → stations ≤ 65536 → IsDump stations steps words → Chain start words (new_place (3 * stations) (Time (last_time 0 steps)))
dump_chain stations steps words few is =
    chain_of words start (new_place (3 * stations) (Time (last_time 0 steps))) [] (left_by [] steps) (shown_from 0 [] steps) (dump_leads stations steps words few is [])

-- words that are not refused begin a dump: a text that is made of them goes on to one
place_by : (n : ℕ) (words : Words) (p q : Place) → Chain p words q → place_after p (map (on_line n) words) ≡ Some q
place_by n [] p q same = ap Some same
place_by n (w ∷ ws) p q chain = ap (λ (o : Option Place). option_and_then (λ r. place_after r (map (on_line n) ws)) o) chain.1 ∙ place_by n ws chain.0 q chain.2

unplaced : (n : ℕ) (words : Words) → map word_of (map (on_line n) words) ≡ words
unplaced n [] = refl
unplaced n (w ∷ ws) = ap (λ (xs : Words). w ∷ xs) (unplaced n ws)

begin_from : (words : Words) (p : Place) → AllByRecursion IsWord words → Chain start words p → IsBeginning words
unfolding placed_words
begin_from words p all chain = by (words_go_on (spaced words) p (ap (place_after start) (spaced_read 1 words all) ∙ place_by 1 words start p chain))
  where
    by : (more : List ℕ) × (t : Trace) × (wave_of (spaced words ++ 32 ∷ more) ≡ Ok t) → IsBeginning words
    by w =
        let d : IsDumpOf w.1 (spaced words ++ 32 ∷ w.0) = shown_is_dump (spaced words ++ 32 ∷ w.0) w.1 w.2 in
        let after : Words = map word_of (words_on (line_after 1 (spaced words)) [] w.0) in
        let same : map word_of (placed_words (spaced words ++ 32 ∷ w.0)) ≡ words ++ after
        = ap (map word_of) (both_read 1 [] (spaced words) w.0 ∙ ap (λ (xs : List (ℕ × List ℕ)). xs ++ words_on (line_after 1 (spaced words)) [] w.0) (spaced_read 1 words all))
        ∙ map-append word_of (map (on_line 1) words) (words_on (line_after 1 (spaced words)) [] w.0)
        ∙ ap (λ (xs : Words). xs ++ after) (unplaced 1 words) in
        record { stations = d.stations; steps = d.steps; more = after; few = d.few; is = subst (IsDump d.stations d.steps) same d.is }

-- where the reading stops
record IsOff (p : Place) (placed : List (ℕ × List ℕ)) (line : ℕ) : Type 0 where
  before : List (ℕ × List ℕ)
  word : ℕ × List ℕ
  after : List (ℕ × List ℕ)
  end : Place
  are : placed ≡ before ++ word ∷ after
  leads : Chain p (map word_of before) end
  none : step end word.1 ≡ None
  told : line ≡ word.0

record IsShort (p : Place) (last : ℕ) (placed : List (ℕ × List ℕ)) (line : ℕ) : Type 0 where
  end : Place
  leads : Chain p (map word_of placed) end
  other : is_time end.next ≡ false
  told : line ≡ last_line last placed

line_of : Result Place ℕ → ℕ
line_of (Ok p) = 0
line_of (Err line) = line

err_is : (m n : ℕ) → (let r : Result Place ℕ = Err m in r) ≡ Err n → n ≡ m
unfolding line_of
err_is m n e = sym (ap line_of e)

off_or_short : (placed : List (ℕ × List ℕ)) (p : Place) (last line : ℕ) → read_words last p placed ≡ Err line → IsOff p placed line ⊎ IsShort p last placed line
off_or_short [] p last line e = by (is_time p.next) refl e
  where
    by : (b : Bool) → is_time p.next ≡ b → cond b (Ok p) (Err last) ≡ Err line → IsOff p [] line ⊎ IsShort p last [] line
    by true t h = absurd (let f : (let r : Result Place ℕ = Ok p in r) ≡ Err line = h in cc)
    by false t h = inr (record { end = p; leads = refl; other = t; told = err_is last line h })
off_or_short (w ∷ placed) p last line e = by (step p w.1) refl e (λ r h. off_or_short placed r w.0 line h)
  where
    longer : (r : Place) → step p w.1 ≡ Some r → IsOff r placed line ⊎ IsShort r w.0 placed line → IsOff p (w ∷ placed) line ⊎ IsShort p last (w ∷ placed) line
    longer r f (inl o) = inl (record { before = w ∷ o.before; word = o.word; after = o.after; end = o.end; are = ap (λ (xs : List (ℕ × List ℕ)). w ∷ xs) o.are; leads = (r, f, o.leads); none = o.none; told = o.told })
    longer r f (inr s) = inr (record { end = s.end; leads = (r, f, s.leads); other = s.other; told = s.told })

    by : (o : Option Place) → step p w.1 ≡ o → going_on w.0 o (λ r. read_words w.0 r placed) ≡ Err line
        → ((r : Place) → read_words w.0 r placed ≡ Err line → IsOff r placed line ⊎ IsShort r w.0 placed line)
        → IsOff p (w ∷ placed) line ⊎ IsShort p last (w ∷ placed) line
    by None f h later = inl (record { before = []; word = w; after = placed; end = p; are = refl; leads = refl; none = f; told = err_is w.0 line h })
    by (Some r) f h later = longer r f (later r h)

module _ (placed : List (ℕ × List ℕ)) (all : AllByRecursion IsWord (map word_of placed)) (line : ℕ) where
  first_off : IsOff start placed line → IsFirstOff placed line
  first_off o = record { before = o.before; word = o.word; after = o.after; are = o.are; begin = begin_from (map word_of o.before) o.end words o.leads; off = off; told = o.told }
    where
      words : AllByRecursion IsWord (map word_of o.before)
      words = (all_parts IsWord (map word_of o.before) (map word_of (o.word ∷ o.after)) (subst (AllByRecursion IsWord) (ap (map word_of) o.are ∙ map-append word_of o.before (o.word ∷ o.after)) all)).0

      off : IsBeginning (plain_words (o.before ++ o.word ∷ [])) → ⊥
      off b =
          let same : plain_words (o.before ++ o.word ∷ []) ++ b.more ≡ map word_of o.before ++ (o.word.1 ∷ b.more)
          = ap (λ (xs : Words). xs ++ b.more) (map-append word_of o.before (o.word ∷ [])) ∙ append_assoc (map word_of o.before) (o.word.1 ∷ []) b.more in
          let chain = dump_chain b.stations b.steps (map word_of o.before ++ (o.word.1 ∷ b.more)) b.few (subst (IsDump b.stations b.steps) same b.is) in
          let parts = chain_parts (map word_of o.before) (o.word.1 ∷ b.more) start (new_place (3 * b.stations) (Time (last_time 0 b.steps))) chain in
          let there : o.end ≡ parts.0 = chain_end (map word_of o.before) start o.end parts.0 o.leads parts.1 in
          let goes : step parts.0 o.word.1 ≡ Some parts.2.0 = parts.2.1 in
          let stops : step parts.0 o.word.1 ≡ None = ap (λ (x : Place). step x o.word.1) (sym there) ∙ o.none in
          cc

  end_early : IsShort start 0 placed line → EndEarly placed line
  end_early s = record { begin = begin_from (map word_of placed) s.end all s.leads; early = early; told = s.told }
    where
      early : (stations : ℕ) (steps : List Step) → stations ≤ 65536 → IsDump stations steps (plain_words placed) → ⊥
      early stations steps few is =
          let chain = dump_chain stations steps (map word_of placed) few is in
          let there : s.end ≡ new_place (3 * stations) (Time (last_time 0 steps)) = chain_end (map word_of placed) start s.end (new_place (3 * stations) (Time (last_time 0 steps))) s.leads chain in
          let time : is_time s.end.next ≡ true = ap (λ (x : Place). is_time x.next) there in
          let other = s.other in
          cc

  either : IsOff start placed line ⊎ IsShort start 0 placed line → IsFirstOff placed line ⊎ EndEarly placed line
  either (inl o) = inl (first_off o)
  either (inr s) = inr (end_early s)

pub refusals_are_first : RefusalsAreFirst
unfolding wave_of
refusals_are_first bytes line e = either (placed_words bytes) (text_words bytes) line (off_or_short (placed_words bytes) start 0 line (by (read_words 0 start (placed_words bytes)) refl e))
  where
    trace_line : Result Trace ℕ → ℕ
    trace_line (Ok t) = 0
    trace_line (Err n) = n

    by : (r : Result Place ℕ) → read_words 0 start (placed_words bytes) ≡ r → trace_of (placed_words bytes) r ≡ Err line → read_words 0 start (placed_words bytes) ≡ Err line
    by (Ok p) f h = absurd (let g : (let r : Result Trace ℕ = Ok (trace_at (placed_words bytes) p) in r) ≡ Err line = h in cc)
    by (Err n) f h = let same : n ≡ line = ap trace_line h in f ∙ ap Err same
