-- A scan of rows, piece by piece.
use Rattle.std.proofs.Common.{◌≡◌, ℕ, suc, ◌+◌, ◌<◌, ◌≤◌, ◌^◌, Bool, true, false, List, [], ◌∷◌, ◌++◌, length, Option, Some, None, inl, inr, refl, sym, ap, ◌∙◌, append_assoc, length-append, subst, arith}
use denote.Ref.{Bor}
use Rattle.std.specs.Prelude.{is_some, is_ok, if◌then◌else◌, Result, Ok, Err, OnOk, OnErr}
use Rattle.std.specs.Option.{option_copied}
use Rattle.lid_base.specs.Cuts.{lines_left}
use Rattle.std.specs.List.{slice_split}
use Rattle.std.proofs.lemmas.List.{append-nil}
use Rattle.std.proofs.lemmas.List.Splits.{length-slice_split}
use Rattle.std.proofs.lemmas.List.Sums.{count_by-le-length}
use Rattle.lid_base.specs.Lines.{is_newline}
use Rattle.lid_base.specs.Lists.{Extends}
use Rattle.lid_texts.specs.declared.rows.VecFault.{VecFault}
use Rattle.lid_texts.specs.declared.walk.RowWalk.{RowWalk}
use Rattle.lid_texts.specs.declared.scan.RowScan.{RowScan}
use Rattle.lid_texts.specs.Rows.{RowsLine, first_some, line_faults}
use Rattle.lid_texts.specs.Scans.{ended_lines, logical_of, sound_rows, ended_fault, ended_rows}
use Rattle.lid_texts.specs.RowsWalk.{no_line, RowsGrow, IsFaulty, WalkGoes, IsWalked}
use Rattle.lid_texts.specs.Scanned.{HasRead, Gives, GivesPrefix}
use Rattle.lid_texts.proofs.Splits.{onto_part, onto_nothing, split_more, ended_are, last_part, some_parts, ended_more, logical_more}
use Rattle.lid_texts.proofs.Faulted.{first_fine, first_more, faults_more, rows_stopped, rows_more}

is_not_some : {A : Type 0} (o : Option A) → o ≡ None → is_some o ≡ true → ⊥
is_not_some o none some = let e : is_some o ≡ false = ap (λ p. is_some p) none in let f : false ≡ true = sym e ∙ some in cc

-- before the first piece
pub nothing_read : (scan : RowScan) → scan.total ≡ 0 → scan.walk ≡ record { number = 0; judged = 0; begun = no_line; fault = None } → scan.partial.items ≡ [] → HasRead scan []
nothing_read scan total walk partial =
    let ended : ended_lines [] ≡ [] = ended_are [] [] [] refl in
    let goes : WalkGoes scan.columns scan.outs [] scan.walk = subst (WalkGoes scan.columns scan.outs []) (sym walk) (record { number = refl; begun = refl; sound = record { none = refl; judged = refl; few = omega arith; sound = tt } }) in
    record {
      total = total;
      walked = subst (λ (ls : List (List ℕ)). IsWalked scan.columns scan.outs ls scan.walk) (sym ended) (inl goes);
      left = λ none. ap (λ (p : List ℕ). p ∷ []) (sym partial) ∙ ap (λ (ls : List (List ℕ)). ls ++ scan.partial.items ∷ []) (sym ended);
    }

-- whether a line that has ended is at fault
pub fault_known : (scan : RowScan) (bytes : List ℕ) → HasRead scan bytes → is_some scan.walk.fault ≡ is_some (ended_fault scan.columns scan.outs bytes)
unfolding ended_fault
fault_known scan bytes read = by read.walked
  where
    by : IsWalked scan.columns scan.outs (ended_lines bytes) scan.walk → is_some scan.walk.fault ≡ is_some (first_some (line_faults scan.columns scan.outs (logical_of (ended_lines bytes))))
    by (inl goes) = ap (λ (o : Option VecFault). is_some o) (goes.sound.none ∙ sym (first_fine (line_faults scan.columns scan.outs (logical_of (ended_lines bytes))) goes.sound.sound))
    by (inr faulty) = faulty.kept.some

-- the rows of more lines, where those of the first were appended
grown_more : (columns : List (List ℕ)) (outs : ℕ) (a b c : List RowsLine) (x y z : List (List Bool)) → RowsGrow columns outs a b x y → RowsGrow columns outs b c y z → RowsGrow columns outs a c x z
grown_more columns outs a b c x y z first second = record {
  rows = first.rows ++ second.rows;
  appended = second.appended ∙ ap (λ (rs : List (List Bool)). rs ++ second.rows) first.appended ∙ append_assoc x first.rows second.rows;
  all = second.all ∙ ap (λ (rs : List (List Bool)). rs ++ second.rows) first.all ∙ append_assoc (sound_rows columns outs a) first.rows second.rows;
}

-- after a fault, more lines change nothing
faulty_more : (columns : List (List ℕ)) (outs : ℕ) (lines more : List (List ℕ)) (walk : RowWalk) → IsFaulty columns outs (length lines) (logical_of lines) walk → IsFaulty columns outs (length (lines ++ more)) (logical_of (lines ++ more)) walk
faulty_more columns outs lines more walk faulty =
    let all = logical_more lines more in
    let faults = faults_more columns outs (logical_of lines) all.0 in
    let some : is_some (first_some (line_faults columns outs (logical_of lines))) ≡ true = sym faulty.kept.some ∙ faulty.some in
    let first : first_some (line_faults columns outs (logical_of (lines ++ more))) ≡ first_some (line_faults columns outs (logical_of lines)) = ap (λ (ls : List RowsLine). first_some (line_faults columns outs ls)) all.1 ∙ ap first_some faults.1 ∙ first_more (line_faults columns outs (logical_of lines)) faults.0 some in
    record {
      some = faulty.some;
      kept = record {
        some = faulty.kept.some ∙ ap (λ (o : Option VecFault). is_some o) (sym first);
        same = λ few. faulty.kept.same (let e : length lines ≤ length (lines ++ more) = simp length-append (omega arith) in omega arith) ∙ sym first;
      };
    }

-- where a piece is being taken: the lines that have ended so far, and what is left of the piece
pub record Taking (columns : List (List ℕ)) (outs : ℕ) (bytes piece left : List ℕ) (walk : RowWalk) (partial : List ℕ) (before rows : List (List Bool)) : Type 0 where
  pub lines : List (List ℕ)
  pub walked : IsWalked columns outs lines walk
  pub split : walk.fault ≡ None → slice_split is_newline (bytes ++ piece) ≡ lines ++ onto_part partial (slice_split is_newline left)
  pub more : Extends lines (ended_lines (bytes ++ piece))
  pub grow : RowsGrow columns outs (logical_of (ended_lines bytes)) (logical_of lines) before rows

pub take_starts : (scan : RowScan) (bytes piece : List ℕ) (before : List (List Bool)) → HasRead scan bytes → Taking scan.columns scan.outs bytes piece piece scan.walk scan.partial.items before before
take_starts scan bytes piece before read = record {
  lines = ended_lines bytes;
  walked = read.walked;
  split = λ none. split_more bytes piece (ended_lines bytes) scan.partial.items (read.left none);
  more = ended_more bytes piece;
  grow = record { rows = []; appended = sym (append-nil before); all = sym (append-nil (sound_rows scan.columns scan.outs (logical_of (ended_lines bytes)))) };
}

module _ (columns : List (List ℕ)) (outs : ℕ) (bytes piece left : List ℕ) (walk : RowWalk) (partial : List ℕ) (before rows : List (List Bool)) (taking : Taking columns outs bytes piece left walk partial before rows) where
  abbrev pub lines : List (List ℕ)
  lines = taking.lines

  pub goes_of : walk.fault ≡ None → WalkGoes columns outs lines walk
  goes_of none = elim taking.walked [ inl goes ↦ goes | inr faulty ↦ absurd (is_not_some walk.fault none faulty.some) ]

  -- a newline comes in what is left
  module _ (none : walk.fault ≡ None) (line rest : List ℕ) (cut : slice_split is_newline left ≡ line ∷ slice_split is_newline rest) where
    parts : slice_split is_newline (bytes ++ piece) ≡ lines ++ (partial ++ line) ∷ slice_split is_newline rest
    parts = taking.split none ∙ ap (λ (ps : List (List ℕ)). lines ++ onto_part partial ps) cut

    pub few_lines : length (bytes ++ piece) < 2 ^ 64 → length lines + 1 < 2 ^ 64
    few_lines few =
        let all = length-slice_split is_newline (bytes ++ piece) in
        let most = count_by-le-length is_newline (bytes ++ piece) in
        let some = some_parts rest in
        let long : length (slice_split is_newline (bytes ++ piece)) ≡ length lines + suc (length (slice_split is_newline rest)) = ap length parts ∙ length-append lines ((partial ++ line) ∷ slice_split is_newline rest) in
        omega arith

    pub next_line : (new : RowWalk) (now : List (List Bool)) → IsWalked columns outs (lines ++ (partial ++ line) ∷ []) new → RowsGrow columns outs (logical_of lines) (logical_of (lines ++ (partial ++ line) ∷ [])) rows now →
        Taking columns outs bytes piece rest new [] before now
    next_line new now walked grow =
        let own = last_part (slice_split is_newline rest) (some_parts rest) in
        let whole : slice_split is_newline (bytes ++ piece) ≡ (lines ++ (partial ++ line) ∷ []) ++ slice_split is_newline rest = parts ∙ sym (append_assoc lines ((partial ++ line) ∷ []) (slice_split is_newline rest)) in
        let last : slice_split is_newline (bytes ++ piece) ≡ ((lines ++ (partial ++ line) ∷ []) ++ own.front) ++ own.last ∷ [] = whole ∙ ap (λ (ps : List (List ℕ)). (lines ++ (partial ++ line) ∷ []) ++ ps) own.is ∙ sym (append_assoc (lines ++ (partial ++ line) ∷ []) own.front (own.last ∷ [])) in
        record {
          lines = lines ++ (partial ++ line) ∷ [];
          walked = walked;
          split = λ fine. whole ∙ ap (λ (ps : List (List ℕ)). (lines ++ (partial ++ line) ∷ []) ++ ps) (sym (onto_nothing (slice_split is_newline rest) (some_parts rest)));
          more = (own.front, ended_are (bytes ++ piece) ((lines ++ (partial ++ line) ∷ []) ++ own.front) own.last last);
          grow = grown_more columns outs (logical_of (ended_lines bytes)) (logical_of lines) (logical_of (lines ++ (partial ++ line) ∷ [])) before rows now taking.grow grow;
        }

  -- no newline comes in what is left
  pub ended_here : walk.fault ≡ None → (line : List ℕ) → slice_split is_newline left ≡ line ∷ [] → slice_split is_newline (bytes ++ piece) ≡ lines ++ (partial ++ line) ∷ []
  ended_here none line cut = taking.split none ∙ ap (λ (ps : List (List ℕ)). lines ++ onto_part partial ps) cut

  pub read_here : (scan : RowScan) → scan.columns ≡ columns → scan.outs ≡ outs → scan.total ≡ length (bytes ++ piece) → walk.fault ≡ None → scan.walk ≡ walk → (line : List ℕ) → slice_split is_newline left ≡ line ∷ [] → scan.partial.items ≡ partial ++ line → HasRead scan (bytes ++ piece)
  read_here scan same_columns same_outs total none same line cut kept =
      let parts = ended_here none line cut in
      let ended = ended_are (bytes ++ piece) lines (partial ++ line) parts in
      let own : IsWalked columns outs lines scan.walk = subst (IsWalked columns outs lines) (sym same) taking.walked in
      let told : IsWalked scan.columns scan.outs lines scan.walk = rw (same_columns, same_outs) own in
      record {
        total = total;
        walked = subst (λ (ls : List (List ℕ)). IsWalked scan.columns scan.outs ls scan.walk) (sym ended) told;
        left = λ fine. parts ∙ ap (λ (p : List ℕ). lines ++ p ∷ []) (sym kept) ∙ ap (λ (ls : List (List ℕ)). ls ++ scan.partial.items ∷ []) (sym ended);
      }

  faulty_of : is_some walk.fault ≡ true → IsFaulty columns outs (length lines) (logical_of lines) walk
  faulty_of some = elim taking.walked [ inl goes ↦ absurd (is_not_some walk.fault goes.sound.none some) | inr faulty ↦ faulty ]

  pub read_stopped : (scan : RowScan) → scan.columns ≡ columns → scan.outs ≡ outs → scan.total ≡ length (bytes ++ piece) → is_some walk.fault ≡ true → scan.walk ≡ walk → HasRead scan (bytes ++ piece)
  read_stopped scan same_columns same_outs total some same =
      let faulty : IsFaulty columns outs (length lines) (logical_of lines) walk = faulty_of some in
      let more = taking.more in
      let own : IsWalked columns outs (lines ++ more.0) scan.walk = subst (IsWalked columns outs (lines ++ more.0)) (sym same) (inr (faulty_more columns outs lines more.0 walk faulty)) in
      let told : IsWalked scan.columns scan.outs (lines ++ more.0) scan.walk = rw (same_columns, same_outs) own in
      record {
        total = total;
        walked = subst (λ (ls : List (List ℕ)). IsWalked scan.columns scan.outs ls scan.walk) (sym more.1) told;
        left = λ fine. absurd (is_not_some scan.walk.fault fine (ap (λ (w : RowWalk). is_some w.fault) same ∙ some));
      }

  -- the rows that were given
  pub gives_here : walk.fault ≡ None → (line : List ℕ) → slice_split is_newline left ≡ line ∷ [] → Gives columns outs bytes (bytes ++ piece) before rows
  unfolding ended_rows
  gives_here none line cut = record {
    rows = taking.grow.rows;
    appended = taking.grow.appended;
    all = ap (λ (ls : List (List ℕ)). sound_rows columns outs (logical_of ls)) (ended_are (bytes ++ piece) lines (partial ++ line) (ended_here none line cut)) ∙ taking.grow.all;
  }

  pub gives_stopped : is_some walk.fault ≡ true → Gives columns outs bytes (bytes ++ piece) before rows
  unfolding ended_rows
  gives_stopped some =
      let faulty = faulty_of some in
      let more = logical_more lines taking.more.0 in
      let first : is_some (first_some (line_faults columns outs (logical_of lines))) ≡ true = sym faulty.kept.some ∙ faulty.some in
      record {
        rows = taking.grow.rows;
        appended = taking.grow.appended;
        all = ap (λ (ls : List (List ℕ)). sound_rows columns outs (logical_of ls)) taking.more.1 ∙ ap (sound_rows columns outs) more.1 ∙ rows_stopped columns outs (logical_of lines) more.0 first ∙ taking.grow.all;
      }

  pub gives_prefix : GivesPrefix columns outs bytes (bytes ++ piece) before rows
  unfolding ended_rows
  gives_prefix =
      let more = logical_more lines taking.more.0 in
      let later = rows_more columns outs (logical_of lines) more.0 in
      record {
        rows = taking.grow.rows;
        rest = later.0;
        appended = taking.grow.appended;
        all = ap (λ (ls : List (List ℕ)). sound_rows columns outs (logical_of ls)) taking.more.1 ∙ ap (sound_rows columns outs) more.1 ∙ later.1
            ∙ ap (λ (rs : List (List Bool)). rs ++ later.0) taking.grow.all ∙ append_assoc (sound_rows columns outs (logical_of (ended_lines bytes))) taking.grow.rows later.0;
      }

pub kept_ok : {A E : Type 0} (r : Result A E) (xs ys zs : List ℕ) → zs ≡ (if is_ok r then xs ++ ys else xs) → OnOk r (zs ≡ xs ++ ys)
kept_ok (Ok a) xs ys zs e = e
kept_ok (Err f) xs ys zs e = tt

-- an optional rest of a text, as the lines that are left
pub cut_some : (left line : List ℕ) (after : Option (Bor (List ℕ))) (r : Bor (List ℕ)) → slice_split is_newline left ≡ line ∷ lines_left (option_copied after) → after ≡ Some r → slice_split is_newline left ≡ line ∷ slice_split is_newline r.now
cut_some left line after r cut is = cut ∙ ap (λ (o : Option (Bor (List ℕ))). line ∷ lines_left (option_copied o)) is

pub cut_none : (left line : List ℕ) (after : Option (Bor (List ℕ))) → slice_split is_newline left ≡ line ∷ lines_left (option_copied after) → after ≡ None → slice_split is_newline left ≡ line ∷ []
cut_none left line after cut is = cut ∙ ap (λ (o : Option (Bor (List ℕ))). line ∷ lines_left (option_copied o)) is

pub total_of : (scan : RowScan) (bytes piece : List ℕ) (total : ℕ) → HasRead scan bytes → total ≡ scan.total + length piece → total ≡ length (bytes ++ piece)
total_of scan bytes piece total read is = let own = read.total in simp length-append (omega arith)

pub on_err_of : {A E : Type 0} {P : Type 0} (r : Result A E) → P → OnErr r P
on_err_of (Ok a) p = tt
on_err_of (Err e) p = p

-- a fact of the columns and the output bits, along what they are
pub along : (P : List (List ℕ) → ℕ → Type 0) (columns others : List (List ℕ)) (outs more : ℕ) → columns ≡ others → outs ≡ more → P columns outs → P others more
along P columns others outs more same_columns same_outs p = subst (λ (n : ℕ). P others n) same_outs (subst (λ (ns : List (List ℕ)). P ns outs) same_columns p)
