-- Rows that become known of a text, and are given one by one.
use Rattle.std.proofs.Common.{◌≡◌, ℕ, zero, suc, ◌+◌, ◌<◌, ◌≤◌, Bool, List, [], ◌∷◌, ◌++◌, length, take, drop, reverse, Option, Some, None, Result, Ok, refl, sym, ap, ◌∙◌, append_assoc, subst, arith}
use Rattle.std.specs.Prelude.{◌↔◌, ◌==◌, true, false, IsSome}
use Rattle.std.specs.Option.{option_to_list}
use Rattle.std.proofs.Math.Seq.{take-append_seam}
use Rattle.std.proofs.lemmas.List.{append-nil, reverse-append, take-take, take-append-drop}
use Rattle.lid_texts.specs.declared.rows.Rows.{Rows}
use Rattle.lid_texts.specs.declared.rows.VecFault.{VecFault}
use Rattle.lid_texts.specs.Rows.{rows_reading}
use Rattle.lid_texts.specs.Scans.{ended_rows}
use Rattle.lid_texts.proofs.Limits.{reading_within}
use Rattle.lid_texts_feed.specs.declared.text.TextScan.{TextScan}
use Rattle.lid_texts_feed.specs.declared.feed.RowFeed.{RowFeed}
use Rattle.lid_texts_feed.specs.Feeds.{most_bytes, AreAll, HasRows, AreFirstRows}
use Rattle.lid_texts_feed.specs.Fetching.{HasFetched, Knows, IsBelowAsked, HasGiven, GivesRow, GivesNext}
use Rattle.lid_texts_feed.proofs.Beginnings.{same_bits, rows_go_on, reading_begins, AreWide, ended_wide, reading_wide}
use Rattle.lid_base.proofs.Alls.{all_middle}

pub nothing_held : {A : Type 0} (xs : List A) → true ≡ (length xs == 0) → xs ≡ []
nothing_held [] e = refl
nothing_held (x ∷ xs) e = absurd (let h : (length (x ∷ xs) == 0) ≡ false = grind (arith) in let g : true ≡ false = e ∙ h in cc)

-- nothing was taken, so nothing was there
pub nothing_taken : {A : Type 0} (o : Option A) (n : ℕ) → IsSome o ↔ (0 < n) → o ≡ None → true ≡ (n == 0)
nothing_taken None zero e none = refl
nothing_taken None (suc n) e none = absurd (let f : false ≡ true = e.1 (omega arith) in cc)
nothing_taken (Some a) n e none = absurd (let f : Some a ≡ None = none in cc)

-- where none is held, as many are known as were given
pub below_known : (asked : Option ℕ) (given held : List (List Bool)) → held ≡ [] → IsBelowAsked asked (length given) → IsBelowAsked asked (length (given ++ reverse held))
below_known asked given held none below =
    subst (λ (rows : List (List Bool)). IsBelowAsked asked (length rows)) (sym (ap (λ (rows : List (List Bool)). given ++ reverse rows) none ∙ append-nil given)) below

-- a list before others is what is taken of them by its length
first_taken : {A : Type 0} (given rest more later all : List A) → all ≡ ((given ++ rest) ++ more) ++ later → given ≡ take (length given) all
first_taken {A} given rest more later all e =
    let same : ((given ++ rest) ++ more) ++ later ≡ given ++ (rest ++ (more ++ later)) = append_assoc (given ++ rest) more later ∙ append_assoc given rest (more ++ later) in
    sym (ap (λ (xs : List A). take (length given) xs) (e ∙ same) ∙ take-append_seam given (rest ++ (more ++ later)))

-- the first bytes, and those that come after them
pub rest_of : (n m : ℕ) (file : List ℕ) → n ≤ m → take m file ≡ take n file ++ drop n (take m file)
rest_of n m file few = sym (take-append-drop n (take m file)) ∙ ap (λ (xs : List ℕ). xs ++ drop n (take m file)) (take-take n m file few)

module _ (held : Option (List ℕ)) (columns : List (List ℕ)) (outs : ℕ) where
  -- how many rows there are, once all are known
  pub has_rows : (text : TextScan) (rows : List (List Bool)) (n : ℕ) → text.count ≡ Some n → Knows held columns outs text text.count rows → HasRows held columns outs n
  has_rows text rows n is knows =
      let own : Knows held columns outs text (Some n) rows = subst (λ (o : Option ℕ). Knows held columns outs text o rows) is knows in
      let few = (reading_within columns outs own.0.bytes rows own.0.reads).few in
      let count = own.1 in
      record {
        rows = rows;
        all = own.0;
        wide = reading_wide columns outs own.0.bytes _ own.0.reads;
        count = count;
        few = omega arith;
      }

  knows_wide : (text : TextScan) (count : Option ℕ) (rows : List (List Bool)) → Knows held columns outs text count rows → AreWide columns outs rows
  knows_wide text None rows knows = subst (AreWide columns outs) (sym knows.2) (ended_wide columns outs knows.0)
  knows_wide text (Some n) rows knows = reading_wide columns outs knows.0.bytes _ knows.0.reads

  goes_first : (own : Option (List ℕ)) (text : TextScan) (bytes : List ℕ) (given rest : List (List Bool)) → HasFetched own columns outs text bytes → given ++ rest ≡ ended_rows columns outs bytes → AreFirstRows own columns outs given
  goes_first None text bytes given rest fed same = tt
  goes_first (Some file) text bytes given rest fed same = λ rows reads.
      let more : List ℕ = drop (length bytes) (take (most_bytes + 1) file) in
      let whole : take (most_bytes + 1) file ≡ bytes ++ more = rest_of (length bytes) (most_bytes + 1) file fed.short ∙ ap (λ (xs : List ℕ). xs ++ more) (sym fed.begins) in
      let later = rows_go_on columns outs bytes more in
      let last = reading_begins columns outs (bytes ++ more) rows (subst (λ (xs : List ℕ). rows_reading columns outs xs ≡ Ok rows) whole reads) in
      let all : rows.bits ≡ ((given ++ rest) ++ later.0) ++ last.0 = last.1 ∙ ap (λ (xs : List (List Bool)). xs ++ last.0) (later.1 ∙ ap (λ (xs : List (List Bool)). xs ++ later.0) (sym same)) in
      first_taken given rest later.0 last.0 rows.bits all

  ended_first : (own : Option (List ℕ)) (given rest : List (List Bool)) → AreAll own columns outs (given ++ rest) → AreFirstRows own columns outs given
  ended_first None given rest all = tt
  ended_first (Some file) given rest all = λ rows reads.
      let same : ◌≡◌ {A = Result Rows VecFault} (Ok rows) (Ok (record { columns = columns; bits = given ++ rest })) = sym reads ∙ ap (rows_reading columns outs) (sym all.fetched.told) ∙ all.reads in
      let bits : rows.bits ≡ given ++ rest = same_bits rows (record { columns = columns; bits = given ++ rest }) same in
      sym (ap (λ (xs : List (List Bool)). take (length given) xs) bits ∙ take-append_seam given rest)

  knows_first : (text : TextScan) (count : Option ℕ) (given rest : List (List Bool)) → Knows held columns outs text count (given ++ rest) → AreFirstRows held columns outs given
  knows_first text None given rest knows = goes_first held text knows.0 given rest knows.1 knows.2
  knows_first text (Some n) given rest knows = ended_first held given rest knows.0

  -- the last of what is held is given
  gives_row : (old new : RowFeed) (given : List (List Bool)) (row : List Bool) → new.text ≡ old.text → old.rows.items ≡ new.rows.items ++ row ∷ [] → HasGiven held columns outs old given → GivesRow held columns outs new given row
  gives_row old new given row same is has =
      let left : given ++ reverse old.rows.items ≡ given ++ row ∷ reverse new.rows.items = ap (λ (xs : List (List Bool)). given ++ xs) (ap reverse is ∙ reverse-append new.rows.items (row ∷ [])) in
      let known : Knows held columns outs old.text old.text.count (given ++ row ∷ reverse new.rows.items) = subst (Knows held columns outs old.text old.text.count) left has.knows in
      let now : Knows held columns outs old.text old.text.count ((given ++ row ∷ []) ++ reverse new.rows.items) = subst (Knows held columns outs old.text old.text.count) (sym (append_assoc given (row ∷ []) (reverse new.rows.items))) known in
      record {
        gives = record { knows = subst (λ (text : TextScan). Knows held columns outs text text.count ((given ++ row ∷ []) ++ reverse new.rows.items)) (sym same) now };
        wide = all_middle (λ row. length row ≡ length columns) given row (reverse new.rows.items) (knows_wide old.text old.text.count _ known);
        first = knows_first old.text old.text.count (given ++ row ∷ []) (reverse new.rows.items) now;
      }

  -- nothing is held of a text that has ended
  gives_none : (old : RowFeed) (given : List (List Bool)) (n : ℕ) → old.text.count ≡ Some n → old.rows.items ≡ [] → HasGiven held columns outs old given → AreAll held columns outs given
  gives_none old given n is none has =
      let known : Knows held columns outs old.text (Some n) (given ++ reverse old.rows.items) = subst (λ (o : Option ℕ). Knows held columns outs old.text o (given ++ reverse old.rows.items)) is has.knows in
      subst (AreAll held columns outs) (ap (λ (xs : List (List Bool)). given ++ reverse xs) none ∙ append-nil given) known.0

  pub gives_next : (old new : RowFeed) (given : List (List Bool)) (next : Option (List Bool)) → new.text ≡ old.text → old.rows.items ≡ new.rows.items ++ option_to_list next
      → (next ≡ None → (n : ℕ) × (old.text.count ≡ Some n) × (old.rows.items ≡ [])) → HasGiven held columns outs old given → GivesNext held columns outs new given next
  gives_next old new given None same is ended has = let end = ended refl in gives_none old given end.0 end.1 end.2 has
  gives_next old new given (Some row) same is ended has = gives_row old new given row same is has
