-- Words by which a dump goes on to its end are sections of the grammar.
use Rattle.std.proofs.Common.{◌≡◌, ℕ, zero, suc, ◌+◌, ◌-◌, ◌/◌, ◌%◌, ◌<◌, ◌≤◌, ◌==◌, ◌&&◌, ◌||◌, inl, inr, Bool, true, false, cond, List, [], ◌∷◌, ◌++◌, length, take, drop, map, refl, sym, ◌∙◌, ap, subst, length-append, append_assoc, arith}
use Rattle.std.specs.Prelude.{Option, Some, None, Result, Ok, Err, codes, bytes_eq, nat_lt}
use Rattle.std.proofs.lemmas.Bool.{and_parts, eqb-true, ltb-true}
use Rattle.std.proofs.lemmas.List.{take-append-drop}
use Rattle.lid_base.proofs.Lists.{same_bytes}
use Rattle.lid_base.specs.Numbers.{number_below}
use Rattle.lid_vcd_form.specs.declared.form.Section.{Section}
use Rattle.lid_vcd_form.specs.declared.form.Section.TheVariants.{Timescale, Scope, Variable, Upscope, Definitions, Body}
use Rattle.lid_vcd_form.specs.declared.form.Next.{Next}
use Rattle.lid_vcd_form.specs.declared.form.Next.TheVariants.{Before, Note, Inside}
use Rattle.lid_vcd_form.specs.declared.form.Place.{Place}
use Rattle.lid_vcd_form.specs.Ids.{id_of, width_of, ending_of}
use Rattle.lid_vcd_form.specs.Form.{new_place, start, step, is_end, is_note, is_name, is_stem, is_number, only, begins, begins_variable, in_scope, in_variable, read_words, going_on, is_time}
use Rattle.lid_vcd_laws.specs.Grammar.{HaveNoEnd, BeginsNote, AreNotes, AreNotesAnd, IsTimescale, IsScope, IsDeclaration, AreDeclarations, IsUpscope, IsDefinitions}
use Rattle.lid_base_lines.specs.Texts.{Words}
use Rattle.lid_vcd_laws.proofs.Leading.{word_of}

-- words lead from one place to another
abbrev pub Chain : Place → Words → Place → Type 0
Chain p [] q = p ≡ q
Chain p (word ∷ words) q = (r : Place) × (step p word ≡ Some r) × Chain r words q

pub chain_read : (last : ℕ) (p q : Place) (placed : List (ℕ × List ℕ)) → read_words last p placed ≡ Ok q → Chain p (map word_of placed) q × (is_time q.next ≡ true)
chain_read last p q [] e = by (is_time p.next) refl e
  where
    by : (b : Bool) → is_time p.next ≡ b → cond b (Ok p) (Err last) ≡ Ok q → (p ≡ q) × (is_time q.next ≡ true)
    by true time h = let same : p ≡ q = cc in (same, subst (λ (x : Place). is_time x.next ≡ true) same time)
    by false time h = absurd (let f : (let r : Result Place ℕ = Err last in r) ≡ Ok q = h in cc)
chain_read last p q (w ∷ placed) e = by (step p w.1) refl e (λ r h. chain_read w.0 r q placed h)
  where
    by : (o : Option Place) → step p w.1 ≡ o → going_on w.0 o (λ r. read_words w.0 r placed) ≡ Ok q → ((r : Place) → read_words w.0 r placed ≡ Ok q → Chain r (map word_of placed) q × (is_time q.next ≡ true))
        → Chain p (map word_of (w ∷ placed)) q × (is_time q.next ≡ true)
    by None f h later = absurd (let g : (let r : Result Place ℕ = Err w.0 in r) ≡ Ok q = h in cc)
    by (Some r) f h later = let rest = later r h in ((r, f, rest.0), rest.1)

pub only_is : (b : Bool) (n : ℕ) (next : Next) (r : Place) → only b n next ≡ Some r → (b ≡ true) × (r ≡ new_place n next)
only_is true n next r e = (refl, (let f : Some (new_place n next) ≡ Some r = e in cc))
only_is false n next r e = absurd (let f : None ≡ Some r = e in cc)

pub some_is : (p r : Place) → Some p ≡ Some r → r ≡ p
some_is p r e = cc

note_by : (word : List ℕ) → is_note word ≡ true → BeginsNote word
note_by word is = by (bytes_eq word (codes "$date")) refl (bytes_eq word (codes "$version")) refl (bytes_eq word (codes "$comment")) refl is
  where
    by : (a : Bool) → bytes_eq word (codes "$date") ≡ a → (b : Bool) → bytes_eq word (codes "$version") ≡ b → (c : Bool) → bytes_eq word (codes "$comment") ≡ c → (a || (b || c)) ≡ true → BeginsNote word
    by true e b f c g h = inl (same_bytes word (codes "$date") e)
    by false e true f c g h = inr (inl (same_bytes word (codes "$version") f))
    by false e false f true g h = inr (inr (same_bytes word (codes "$comment") g))
    by false e false f false g h = cc

-- the name of a variable
pub record HasDigits (n : ℕ) (word : List ℕ) : Type 0 where
  pub digits : List ℕ
  pub are : word ≡ codes "s" ++ digits ++ ending_of n
  pub station : number_below 4294967296 digits ≡ Some (n / 3)

digits_by : (n : ℕ) (word : List ℕ) → is_name n word ≡ true → HasDigits n word
unfolding is_name
digits_by n word is =
    let parts = and_parts (bytes_eq (drop (length word - length (ending_of n)) word) (ending_of n)) (is_stem (n / 3) (take (length word - length (ending_of n)) word)) is in
    let whole : word ≡ take (length word - length (ending_of n)) word ++ ending_of n
    = sym (take-append-drop (length word - length (ending_of n)) word) ∙ ap (λ (xs : List ℕ). take (length word - length (ending_of n)) word ++ xs) (same_bytes (drop (length word - length (ending_of n)) word) (ending_of n) parts.0) in
    by (take (length word - length (ending_of n)) word) parts.1 whole
  where
    number : (o : Option ℕ) → is_number (n / 3) o ≡ true → o ≡ Some (n / 3)
    number None e = cc
    number (Some m) e = ap Some (eqb-true m (n / 3) e)

    by : (stem : List ℕ) → is_stem (n / 3) stem ≡ true → word ≡ stem ++ ending_of n → HasDigits n word
    by [] e whole = cc
    by (b ∷ digits) e whole =
        let parts = and_parts (b == 115) (is_number (n / 3) (number_below 4294967296 digits)) e in
        let mark : b ≡ 115 = eqb-true b 115 parts.0 in
        record { digits = digits; are = whole ∙ ap (λ (x : ℕ). (x ∷ digits) ++ ending_of n) mark; station = number (number_below 4294967296 digits) parts.1 }

module _ (q : Place) (time : is_time q.next ≡ true) where
  -- the next word
  pub record HasNext (p : Place) (words : Words) : Type 0 where
    pub word : List ℕ
    pub rest : Words
    pub place : Place
    pub is : words ≡ word ∷ rest
    pub steps : step p word ≡ Some place
    pub on : Chain place rest q

  pub next_of : (p : Place) (words : Words) → is_time p.next ≡ false → Chain p words q → HasNext p words
  next_of p [] other same = absurd (let e : is_time p.next ≡ is_time q.next = ap (λ (x : Place). is_time x.next) same in cc)
  next_of p (w ∷ ws) other chain = record { word = w; rest = ws; place = chain.0; is = refl; steps = chain.1; on = chain.2 }

  -- a word that is fixed
  record HasWord (n : ℕ) (next : Next) (name : List ℕ) (words : Words) : Type 0 where
    rest : Words
    is : words ≡ name ∷ rest
    on : Chain (new_place n next) rest q

  fixed : (p : Place) (n : ℕ) (next : Next) (name : List ℕ) (words : Words) → is_time p.next ≡ false → ((word : List ℕ) → step p word ≡ only (bytes_eq word name) n next) → Chain p words q → HasWord n next name words
  fixed p n next name words other steps chain =
      let h = next_of p words other chain in
      let is = only_is (bytes_eq h.word name) n next h.place (sym (steps h.word) ∙ h.steps) in
      record {
        rest = h.rest;
        is = h.is ∙ ap (λ (w : List ℕ). w ∷ h.rest) (same_bytes h.word name is.0);
        on = subst (λ (x : Place). Chain x h.rest q) is.1 h.on;
      }

  -- words up to `$end`
  record HasInner (to : Place) (words : Words) : Type 0 where
    inner : Words
    rest : Words
    is : words ≡ inner ++ codes "$end" ∷ rest
    none : HaveNoEnd inner
    on : Chain to rest q

  module _ (n : ℕ) (within after : Next) (other : is_time within ≡ false) (steps : (word : List ℕ) → step (new_place n within) word ≡ Some (new_place n (cond (is_end word) after within))) where
    inner_found : (words : Words) → Chain (new_place n within) words q → HasInner (new_place n after) words
    inner_found [] same = absurd (let e : is_time within ≡ is_time q.next = ap (λ (x : Place). is_time x.next) same in cc)
    inner_found (w ∷ ws) chain = by (is_end w) refl (some_is (new_place n (cond (is_end w) after within)) chain.0 (sym (steps w) ∙ chain.1)) (λ c. inner_found ws c)
      where
        by : (b : Bool) → is_end w ≡ b → chain.0 ≡ new_place n (cond b after within) → (Chain (new_place n within) ws q → HasInner (new_place n after) ws) → HasInner (new_place n after) (w ∷ ws)
        by true e to later = record {
          inner = [];
          rest = ws;
          is = ap (λ (x : List ℕ). x ∷ ws) (same_bytes w (codes "$end") e);
          none = tt;
          on = subst (λ (x : Place). Chain x ws q) to chain.2;
        }
        by false e to later =
            let r = later (subst (λ (x : Place). Chain x ws q) to chain.2) in
            record { inner = w ∷ r.inner; rest = r.rest; is = ap (λ (xs : Words). w ∷ xs) r.is; none = (λ same. (let h = ap is_end same in cc), r.none); on = r.on }

  note_steps : (n : ℕ) (section : Section) (word : List ℕ) → step (new_place n (Note section)) word ≡ Some (new_place n (cond (is_end word) (Before section) (Note section)))
  unfolding step
  note_steps n section word = refl

  -- notes, and the first word after them
  pub record HasBegun (n : ℕ) (section : Section) (words : Words) : Type 0 where
    pub notes : List Words
    pub before : Words
    pub word : List ℕ
    pub rest : Words
    pub place : Place
    pub is : words ≡ before ++ word ∷ rest
    pub are_notes : AreNotes notes before
    pub begun : begins n section word ≡ Some place
    pub on : Chain place rest q

  pub begun_from : (most n : ℕ) (section : Section) (words : Words) → length words ≤ most → Chain (new_place n (Before section)) words q → HasBegun n section words
  unfolding step
  begun_from most n section [] few same = absurd (let e : is_time (Before section) ≡ is_time q.next = ap (λ (x : Place). is_time x.next) same in cc)
  begun_from zero n section (w ∷ ws) few chain = absurd (omega arith)
  begun_from (suc most) n section (w ∷ ws) few chain = by (is_note w) refl chain.1 (λ xs h c. begun_from most n section xs h c)
    where
      after_note : BeginsNote w → HasInner (new_place n (Before section)) ws → ((xs : Words) → length xs ≤ most → Chain (new_place n (Before section)) xs q → HasBegun n section xs) → HasBegun n section (w ∷ ws)
      after_note begins i later =
          let long : length ws ≡ length i.inner + suc (length i.rest) = ap length i.is ∙ length-append i.inner (codes "$end" ∷ i.rest) in
          let r = later i.rest (omega arith) i.on in
          let note : Words = w ∷ i.inner ++ codes "$end" ∷ [] in
          let same : w ∷ ws ≡ note ++ i.rest = ap (λ (xs : Words). w ∷ xs) (i.is ∙ sym (append_assoc i.inner (codes "$end" ∷ []) i.rest)) in
          record {
            notes = note ∷ r.notes;
            before = note ++ r.before;
            word = r.word;
            rest = r.rest;
            place = r.place;
            is = same ∙ ap (λ (xs : Words). note ++ xs) r.is ∙ sym (append_assoc note r.before (r.word ∷ r.rest));
            are_notes = (r.before, refl, record { name = w; inner = i.inner; are = refl; begins = begins; no_end = i.none }, r.are_notes);
            begun = r.begun;
            on = r.on;
          }

      by : (b : Bool) → is_note w ≡ b → cond b (Some (new_place n (Note section))) (begins n section w) ≡ Some chain.0 → ((xs : Words) → length xs ≤ most → Chain (new_place n (Before section)) xs q → HasBegun n section xs) → HasBegun n section (w ∷ ws)
      by true e h later = after_note (note_by w e) (inner_found n (Note section) (Before section) refl (note_steps n section) ws (subst (λ (x : Place). Chain x ws q) (some_is (new_place n (Note section)) chain.0 h) chain.2)) later
      by false e h later = record { notes = []; before = []; word = w; rest = ws; place = chain.0; is = refl; are_notes = refl; begun = h; on = chain.2 }

  -- a piece of the words, and what comes after it
  pub record HasPiece (IsThing : Words → Type 0) (to : Place) (words : Words) : Type 0 where
    pub piece : Words
    pub rest : Words
    pub is : words ≡ piece ++ rest
    pub so : IsThing piece
    pub on : Chain to rest q

  piece_of : (IsThing : Words → Type 0) (n : ℕ) (section : Section) (to : Place) (words : Words) → (b : HasBegun n section words) → (tail rest : Words) → b.rest ≡ tail ++ rest → IsThing (b.word ∷ tail) → Chain to rest q → HasPiece (AreNotesAnd IsThing) to words
  piece_of IsThing n section to words b tail rest is so on = record {
    piece = b.before ++ b.word ∷ tail;
    rest = rest;
    is = b.is ∙ ap (λ (xs : Words). b.before ++ b.word ∷ xs) is ∙ sym (append_assoc b.before (b.word ∷ tail) rest);
    so = record { notes = b.notes; before = b.before; thing = b.word ∷ tail; are = refl; are_notes = b.are_notes; is = so };
    on = on;
  }

  -- `$timescale`, any words, `$end`
  timescale_steps : (n : ℕ) (word : List ℕ) → step (new_place n (Inside Timescale 1)) word ≡ Some (new_place n (cond (is_end word) (Before Scope) (Inside Timescale 1)))
  unfolding step
  timescale_steps n word = refl

  pub timescale_found : (words : Words) → Chain start words q → HasPiece (AreNotesAnd IsTimescale) (new_place 0 (Before Scope)) words
  unfolding begins
  timescale_found words chain =
      let b = begun_from (length words) 0 Timescale words (omega arith) chain in
      let o = only_is (bytes_eq b.word (codes "$timescale")) 0 (Inside Timescale 1) b.place b.begun in
      let i = inner_found 0 (Inside Timescale 1) (Before Scope) refl (timescale_steps 0) b.rest (subst (λ (x : Place). Chain x b.rest q) o.1 b.on) in
      piece_of IsTimescale 0 Timescale (new_place 0 (Before Scope)) words b (i.inner ++ codes "$end" ∷ []) i.rest (i.is ∙ sym (append_assoc i.inner (codes "$end" ∷ []) i.rest))
      (record { inner = i.inner; are = ap (λ (w : List ℕ). w ∷ i.inner ++ codes "$end" ∷ []) (same_bytes b.word (codes "$timescale") o.0); no_end = i.none }) i.on

  scope_1 : (n : ℕ) (word : List ℕ) → step (new_place n (Inside Scope 1)) word ≡ only (bytes_eq word (codes "module")) n (Inside Scope 2)
  unfolding step in_scope
  scope_1 n word = refl

  scope_2 : (n : ℕ) (word : List ℕ) → step (new_place n (Inside Scope 2)) word ≡ only (bytes_eq word (codes "lid")) n (Inside Scope 3)
  unfolding step in_scope
  scope_2 n word = refl

  scope_3 : (n : ℕ) (word : List ℕ) → step (new_place n (Inside Scope 3)) word ≡ only (bytes_eq word (codes "$end")) n (Before Variable)
  unfolding step in_scope
  scope_3 n word = refl

  pub scope_found : (n : ℕ) (words : Words) → Chain (new_place n (Before Scope)) words q → HasPiece (AreNotesAnd IsScope) (new_place n (Before Variable)) words
  unfolding begins
  scope_found n words chain =
      let b = begun_from (length words) n Scope words (omega arith) chain in
      let o = only_is (bytes_eq b.word (codes "$scope")) n (Inside Scope 1) b.place b.begun in
      let f = fixed (new_place n (Inside Scope 1)) n (Inside Scope 2) (codes "module") b.rest refl (scope_1 n) (subst (λ (x : Place). Chain x b.rest q) o.1 b.on) in
      let g = fixed (new_place n (Inside Scope 2)) n (Inside Scope 3) (codes "lid") f.rest refl (scope_2 n) f.on in
      let h = fixed (new_place n (Inside Scope 3)) n (Before Variable) (codes "$end") g.rest refl (scope_3 n) g.on in
      piece_of IsScope n Scope (new_place n (Before Variable)) words b (codes "module" ∷ codes "lid" ∷ codes "$end" ∷ []) h.rest
      (f.is ∙ ap (λ (xs : Words). codes "module" ∷ xs) (g.is ∙ ap (λ (xs : Words). codes "lid" ∷ xs) h.is))
      (ap (λ (w : List ℕ). w ∷ codes "module" ∷ codes "lid" ∷ codes "$end" ∷ []) (same_bytes b.word (codes "$scope") o.0)) h.on

  -- the words of a declaration
  variable_1 : (n : ℕ) (word : List ℕ) → step (new_place n (Inside Variable 1)) word ≡ only (bytes_eq word (codes "wire")) n (Inside Variable 2)
  unfolding step in_variable
  variable_1 n word = refl

  variable_2 : (n : ℕ) (word : List ℕ) → step (new_place (n + 1) (Inside Variable 2)) word ≡ only (bytes_eq word (width_of n)) (n + 1) (Inside Variable 3)
  unfolding step in_variable
  variable_2 n word = let less : n + 1 - 1 ≡ n = omega arith in ap (λ (m : ℕ). only (bytes_eq word (width_of m)) (n + 1) (Inside Variable 3)) less

  variable_3 : (n : ℕ) (word : List ℕ) → step (new_place (n + 1) (Inside Variable 3)) word ≡ only (bytes_eq word (id_of n)) (n + 1) (Inside Variable 4)
  unfolding step in_variable
  variable_3 n word = let less : n + 1 - 1 ≡ n = omega arith in ap (λ (m : ℕ). only (bytes_eq word (id_of m)) (n + 1) (Inside Variable 4)) less

  variable_4 : (n : ℕ) (word : List ℕ) → step (new_place (n + 1) (Inside Variable 4)) word ≡ only (is_name n word) (n + 1) (Inside Variable 5)
  unfolding step in_variable
  variable_4 n word = let less : n + 1 - 1 ≡ n = omega arith in ap (λ (m : ℕ). only (is_name m word) (n + 1) (Inside Variable 5)) less

  variable_5 : (n : ℕ) (word : List ℕ) → step (new_place n (Inside Variable 5)) word ≡ only (bytes_eq word (codes "$end")) n (Before Variable)
  unfolding step in_variable
  variable_5 n word = refl

  record HasTail (n : ℕ) (words : Words) : Type 0 where
    tail : Words
    rest : Words
    is : words ≡ tail ++ rest
    so : IsDeclaration n (codes "$var" ∷ tail)
    on : Chain (new_place (n + 1) (Before Variable)) rest q

  tail_found : (n : ℕ) (words : Words) → Chain (new_place (n + 1) (Inside Variable 1)) words q → HasTail n words
  tail_found n words chain =
      let a = fixed (new_place (n + 1) (Inside Variable 1)) (n + 1) (Inside Variable 2) (codes "wire") words refl (variable_1 (n + 1)) chain in
      let b = fixed (new_place (n + 1) (Inside Variable 2)) (n + 1) (Inside Variable 3) (width_of n) a.rest refl (variable_2 n) a.on in
      let c = fixed (new_place (n + 1) (Inside Variable 3)) (n + 1) (Inside Variable 4) (id_of n) b.rest refl (variable_3 n) b.on in
      let d = next_of (new_place (n + 1) (Inside Variable 4)) c.rest refl c.on in
      let o = only_is (is_name n d.word) (n + 1) (Inside Variable 5) d.place (sym (variable_4 n d.word) ∙ d.steps) in
      let name = digits_by n d.word o.0 in
      let e = fixed (new_place (n + 1) (Inside Variable 5)) (n + 1) (Before Variable) (codes "$end") d.rest refl (variable_5 (n + 1)) (subst (λ (x : Place). Chain x d.rest q) o.1 d.on) in
      record {
        tail = codes "wire" ∷ width_of n ∷ id_of n ∷ d.word ∷ codes "$end" ∷ [];
        rest = e.rest;
        is = a.is ∙ ap (λ (xs : Words). codes "wire" ∷ xs) (b.is ∙ ap (λ (xs : Words). width_of n ∷ xs) (c.is ∙ ap (λ (xs : Words). id_of n ∷ xs) (d.is ∙ ap (λ (xs : Words). d.word ∷ xs) e.is)));
        so = record {
          digits = name.digits;
          are = ap (λ (w : List ℕ). codes "$var" ∷ codes "wire" ∷ width_of n ∷ id_of n ∷ w ∷ codes "$end" ∷ []) name.are;
          station = name.station;
        };
        on = e.on;
      }

  -- `$upscope $end` and `$enddefinitions $end`
  upscope_1 : (n : ℕ) (word : List ℕ) → step (new_place n (Inside Upscope 1)) word ≡ only (bytes_eq word (codes "$end")) n (Before Definitions)
  unfolding step
  upscope_1 n word = refl

  definitions_1 : (n : ℕ) (word : List ℕ) → step (new_place n (Inside Definitions 1)) word ≡ only (bytes_eq word (codes "$end")) n (Before Body)
  unfolding step
  definitions_1 n word = refl

  pub definitions_found : (n : ℕ) (words : Words) → Chain (new_place n (Before Definitions)) words q → HasPiece (AreNotesAnd IsDefinitions) (new_place n (Before Body)) words
  unfolding begins
  definitions_found n words chain =
      let b = begun_from (length words) n Definitions words (omega arith) chain in
      let o = only_is (bytes_eq b.word (codes "$enddefinitions")) n (Inside Definitions 1) b.place b.begun in
      let f = fixed (new_place n (Inside Definitions 1)) n (Before Body) (codes "$end") b.rest refl (definitions_1 n) (subst (λ (x : Place). Chain x b.rest q) o.1 b.on) in
      piece_of IsDefinitions n Definitions (new_place n (Before Body)) words b (codes "$end" ∷ []) f.rest f.is
      (ap (λ (w : List ℕ). w ∷ codes "$end" ∷ []) (same_bytes b.word (codes "$enddefinitions") o.0)) f.on

  -- declarations, and the end of the scope
  pub record HasDeclared (n : ℕ) (words : Words) : Type 0 where
    pub left : ℕ
    pub declarations : Words
    pub upscope : Words
    pub rest : Words
    pub is : words ≡ declarations ++ (upscope ++ rest)
    pub are : AreDeclarations n left declarations
    pub is_upscope : AreNotesAnd IsUpscope upscope
    pub whole : (n + left) % 3 ≡ 0
    pub few : n + left ≤ 196608
    pub on : Chain (new_place (n + left) (Before Definitions)) rest q

  pub declared_from : (most n : ℕ) (words : Words) → n ≤ 196608 → length words ≤ most → Chain (new_place n (Before Variable)) words q → HasDeclared n words
  unfolding begins begins_variable piece_of
  declared_from zero n words small few chain =
      let b = begun_from (length words) n Variable words (omega arith) chain in
      absurd (let long = ap length b.is ∙ length-append b.before (b.word ∷ b.rest) in omega arith)
  declared_from (suc most) n words small few chain = by (bytes_eq b.word (codes "$var")) refl b.begun (λ xs h l c. declared_from most (n + 1) xs h l c)
    where
      b : HasBegun n Variable words
      b = begun_from (length words) n Variable words (omega arith) chain

      declared : bytes_eq b.word (codes "$var") ≡ true → n < 196608 → HasTail n b.rest → ((xs : Words) → n + 1 ≤ 196608 → length xs ≤ most → Chain (new_place (n + 1) (Before Variable)) xs q → HasDeclared (n + 1) xs) → HasDeclared n words
      declared e less t later =
          let p = piece_of (IsDeclaration n) n Variable (new_place (n + 1) (Before Variable)) words b t.tail t.rest t.is (subst (λ (w : List ℕ). IsDeclaration n (w ∷ t.tail)) (sym (same_bytes b.word (codes "$var") e)) t.so) t.on in
          let long : length words ≡ length b.before + suc (length b.rest) = ap length b.is ∙ length-append b.before (b.word ∷ b.rest) in
          let short : length b.rest ≡ length t.tail + length t.rest = ap length t.is ∙ length-append t.tail t.rest in
          let r = later t.rest (omega arith) (omega arith) t.on in
          let sum : n + 1 + r.left ≡ n + suc r.left = omega arith in
          record {
            left = suc r.left;
            declarations = p.piece ++ r.declarations;
            upscope = r.upscope;
            rest = r.rest;
            is = p.is ∙ ap (λ (xs : Words). p.piece ++ xs) r.is ∙ sym (append_assoc p.piece r.declarations (r.upscope ++ r.rest));
            are = (p.piece, r.declarations, refl, p.so, r.are);
            is_upscope = r.is_upscope;
            whole = ap (λ (m : ℕ). m % 3) (sym sum) ∙ r.whole;
            few = omega (arith, r.few);
            on = subst (λ (m : ℕ). Chain (new_place m (Before Definitions)) r.rest q) sum r.on;
          }

      closed : bytes_eq b.word (codes "$upscope") ≡ true → n % 3 ≡ 0 → HasWord n (Before Definitions) (codes "$end") b.rest → HasDeclared n words
      closed e whole f =
          let p = piece_of IsUpscope n Variable (new_place n (Before Definitions)) words b (codes "$end" ∷ []) f.rest f.is (ap (λ (w : List ℕ). w ∷ codes "$end" ∷ []) (same_bytes b.word (codes "$upscope") e)) f.on in
          let sum : n ≡ n + 0 = omega arith in
          record {
            left = 0;
            declarations = [];
            upscope = p.piece;
            rest = p.rest;
            is = p.is;
            are = refl;
            is_upscope = p.so;
            whole = ap (λ (m : ℕ). m % 3) (sym sum) ∙ whole;
            few = omega arith;
            on = subst (λ (m : ℕ). Chain (new_place m (Before Definitions)) p.rest q) sum p.on;
          }

      by : (c : Bool) → bytes_eq b.word (codes "$var") ≡ c → cond c (only (nat_lt n 196608) (n + 1) (Inside Variable 1)) (only (bytes_eq b.word (codes "$upscope") && (n % 3 == 0)) n (Inside Upscope 1)) ≡ Some b.place
          → ((xs : Words) → n + 1 ≤ 196608 → length xs ≤ most → Chain (new_place (n + 1) (Before Variable)) xs q → HasDeclared (n + 1) xs) → HasDeclared n words
      by true e h later =
          let o = only_is (nat_lt n 196608) (n + 1) (Inside Variable 1) b.place h in
          declared e (ltb-true n 196608 o.0) (tail_found n b.rest (subst (λ (x : Place). Chain x b.rest q) o.1 b.on)) later
      by false e h later =
          let o = only_is (bytes_eq b.word (codes "$upscope") && (n % 3 == 0)) n (Inside Upscope 1) b.place h in
          let parts = and_parts (bytes_eq b.word (codes "$upscope")) (n % 3 == 0) o.0 in
          closed parts.0 (eqb-true (n % 3) 0 parts.1) (fixed (new_place n (Inside Upscope 1)) n (Before Definitions) (codes "$end") b.rest refl (upscope_1 n) (subst (λ (x : Place). Chain x b.rest q) o.1 b.on))
