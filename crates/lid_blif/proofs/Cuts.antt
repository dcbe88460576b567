-- What is left of a text while lines are cut from it.
use Rattle.std.proofs.Common.{subst, ◌-◌, append-nil, ◌≡◌, ℕ, ◌+◌, ◌<◌, ◌≤◌, List, [], ◌∷◌, ◌++◌, length, take, drop, Option, Some, None, refl, ap, ◌∙◌, sym, arith, length-append}
use Rattle.std.proofs.Math.Seq.{drop-length, take-append_seam}
use Rattle.std.proofs.lemmas.List.{drop-append-le, drop-drop}
use Rattle.std.proofs.lemmas.List.Splits.{join_with_byte-slice_split, length-slice_split}
use Rattle.std.specs.Borrow.{Bor}
use Rattle.std.specs.Option.{option_copied}
use Rattle.std.specs.List.{slice_split, join_with_byte}
use Rattle.lid_base.specs.Lines.{is_newline, line_fault, first_fault}
use Rattle.lid_base.specs.declared.line.TextFault.{TextFault}
use Rattle.lid_base.specs.Cuts.{lines_left}
use Rattle.lid_blif.specs.Places.{bytes_between}

-- one more than the bytes that are left, and 0 at the end
abbrev pub work_left : Option (List ℕ) → ℕ
work_left None = 0
work_left (Some rest) = length rest + 1

-- these bytes are what a text has from a place on
pub record TextLeft (text : List ℕ) (from : ℕ) (bytes : List ℕ) : Type 0 where
  pub within : from + length bytes ≡ length text
  pub is : drop from text ≡ bytes

abbrev pub IsTextLeft : List ℕ → ℕ → Option (List ℕ) → Type 0
IsTextLeft text from None = Unit {0}
IsTextLeft text from (Some bytes) = TextLeft text from bytes

-- a text that was cut at its first newline, and one without a newline
join_more : (line : List ℕ) (parts : List (List ℕ)) → 0 < length parts → join_with_byte 10 (line ∷ parts) ≡ line ++ 10 ∷ join_with_byte 10 parts
join_more line [] h = absurd (omega arith)
join_more line (part ∷ parts) h = refl

whole_cut : (bytes line rest : List ℕ) → slice_split is_newline bytes ≡ line ∷ slice_split is_newline rest → bytes ≡ line ++ 10 ∷ rest
whole_cut bytes line rest h =
    sym (join_with_byte-slice_split 10 bytes) ∙ ap (join_with_byte 10) h
    ∙ join_more line (slice_split is_newline rest) (omega (arith, length-slice_split is_newline rest))
    ∙ ap (λ (more : List ℕ). line ++ 10 ∷ more) (join_with_byte-slice_split 10 rest)

whole_last : (bytes line : List ℕ) → slice_split is_newline bytes ≡ line ∷ [] → bytes ≡ line
whole_last bytes line h = sym (join_with_byte-slice_split 10 bytes) ∙ ap (join_with_byte 10) h

-- a line that was cut off what is left: where it stands, and what is left behind it
pub record CutOff (text : List ℕ) (from : ℕ) (left : Option (List ℕ)) (line : List ℕ) (after : Option (List ℕ)) : Type 0 where
  pub within : from + length line ≤ length text
  pub part : bytes_between text from (from + length line) ≡ line
  pub parts : lines_left left ≡ line ∷ lines_left after
  pub behind : IsTextLeft text (from + length line + 1) after
  pub work : work_left after < work_left left

drop_line : (line rest : List ℕ) → drop (length line + 1) (line ++ 10 ∷ rest) ≡ rest
drop_line line rest =
    sym (drop-drop 1 (length line) (line ++ 10 ∷ rest))
    ∙ ap (drop 1) (drop-append-le (length line) line (10 ∷ rest) (omega arith) ∙ ap (λ (done : List ℕ). done ++ 10 ∷ rest) (drop-length line))

line_part : (text line more : List ℕ) (from : ℕ) → drop from text ≡ line ++ more → bytes_between text from (from + length line) ≡ line
line_part text line more from h =
    ap (λ n. take n (drop from text)) (let e : from + length line - from ≡ length line = omega arith in e)
    ∙ ap (take (length line)) h
    ∙ take-append_seam line more

cut_some : (text : List ℕ) (from : ℕ) (bytes line : List ℕ) (after : Option (List ℕ)) → TextLeft text from bytes → slice_split is_newline bytes ≡ line ∷ lines_left after → CutOff text from (Some bytes) line after
cut_some text from bytes line None held h =
    let e : bytes ≡ line = whole_last bytes line h in
    record {
      within = omega (arith, held.within, ap length e);
      part = line_part text line [] from (held.is ∙ e ∙ sym (append-nil line));
      parts = h;
      behind = tt;
      work = omega arith;
    }
cut_some text from bytes line (Some rest) held h =
    let e : bytes ≡ line ++ 10 ∷ rest = whole_cut bytes line rest h in
    let long : length bytes ≡ length line + (length rest + 1) = ap length e ∙ length-append line (10 ∷ rest) ∙ (let same : length line + length (10 ∷ rest) ≡ length line + (length rest + 1) = omega arith in same) in
    record {
      within = omega (arith, held.within, long);
      part = line_part text line (10 ∷ rest) from (held.is ∙ e);
      parts = h;
      behind = record {
        within = omega (arith, held.within, long);
        is =
            ap (λ n. drop n text) (let same : from + length line + 1 ≡ from + (length line + 1) = omega arith in same)
            ∙ sym (drop-drop (length line + 1) from text)
            ∙ ap (drop (length line + 1)) (held.is ∙ e)
            ∙ drop_line line rest;
      };
      work = omega (arith, long);
    }

pub cut_off : (text : List ℕ) (from : ℕ) (left : Option (Bor (List ℕ))) (bytes : Bor (List ℕ)) (line : List ℕ) (after : Option (List ℕ)) → left ≡ Some bytes → IsTextLeft text from (option_copied left) → slice_split is_newline bytes.now ≡ line ∷ lines_left after → CutOff text from (option_copied left) line after
cut_off text from left bytes line after is held h =
    subst (λ (o : Option (Bor (List ℕ))). CutOff text from (option_copied o) line after) (sym is)
    (cut_some text from bytes.now line after (subst (λ (o : Option (Bor (List ℕ))). IsTextLeft text from (option_copied o)) is held) h)

-- the first fault of lines whose first has one, or has none
pub fault_first : (longest : ℕ) (p : ℕ × List ℕ) (ps : List (ℕ × List ℕ)) (fault : TextFault) → line_fault longest p ≡ Some fault → first_fault longest (p ∷ ps) ≡ Some fault
fault_first longest p ps fault h = rw h refl

pub fault_later : (longest : ℕ) (p : ℕ × List ℕ) (ps : List (ℕ × List ℕ)) → line_fault longest p ≡ None → first_fault longest (p ∷ ps) ≡ first_fault longest ps
fault_later longest p ps h = rw h refl
