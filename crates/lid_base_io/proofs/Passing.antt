-- A text that is written in whole pieces, while fewer bytes than a piece are held.
use Rattle.std.proofs.Common.{◌≡◌, ℕ, ◌+◌, ◌*◌, ◌/◌, ◌<◌, List, [], ◌++◌, length, take, drop, Option, Some, None, refl, sym, ◌∙◌, ap, subst, append_assoc, append-nil, arith}
use Rattle.std.proofs.lemmas.List.{take-append-drop, length-take, length-append}
use Rattle.std.proofs.lemmas.Nat.{div-mul-add}
use Rattle.std.proofs.Math.Nat.{div-mul-le_self}
use Rattle.std.proofs.Math.Seq.{take-append_seam, drop-append_seam}
use Rattle.lid_base.specs.Outside.{Appended, AppendedPrefix}
use Rattle.lid_base.proofs.Writes.{SoFar, part_written, both_written}
use Rattle.lid_base_io.specs.Transfer.{piece_bytes, whole_pieces, after_pieces}

-- whole pieces were written, these bytes are held, and these were not yet pushed
pub record IsPassing (before now : Option (List ℕ)) (total held left : List ℕ) : Type 0 where
  pub pieces : List ℕ
  pub count : ℕ
  pub written : Appended before now pieces
  pub size : length pieces ≡ count * 65536
  pub whole : pieces ++ (held ++ left) ≡ total

pub nothing_added : (before : Option (List ℕ)) → Appended before before []
nothing_added None = tt
nothing_added (Some b) = ap Some (sym (append-nil b))

pub passing_begins : (before : Option (List ℕ)) (held left : List ℕ) → IsPassing before before (held ++ left) held left
passing_begins before held left = record { pieces = []; count = 0; written = nothing_added before; size = refl; whole = refl }

whole_size : (bytes : List ℕ) → length (whole_pieces bytes) ≡ length bytes / 65536 * 65536
unfolding whole_pieces
whole_size bytes = length-take (piece_bytes (length bytes)) bytes ∙ (let le = div-mul-le_self (length bytes) 65536 in omega arith)

pub whole_and_after : (bytes : List ℕ) → whole_pieces bytes ++ after_pieces bytes ≡ bytes
unfolding whole_pieces after_pieces
whole_and_after bytes = take-append-drop (piece_bytes (length bytes)) bytes

count_sum : (a b : ℕ) → a * 65536 + b * 65536 ≡ (a + b) * 65536
count_sum a b = omega arith

pub passing_goes_on : (before now new : Option (List ℕ)) (total held left part later held_now : List ℕ) → IsPassing before now total held left → part ++ later ≡ left → Appended now new (whole_pieces (held ++ part)) → held_now ≡ after_pieces (held ++ part) → IsPassing before new total held_now later
passing_goes_on before now new total held left part later held_now so cut a h = record {
  pieces = so.pieces ++ whole_pieces (held ++ part);
  count = so.count + length (held ++ part) / 65536;
  written = both_written before now new so.pieces (whole_pieces (held ++ part)) so.written a;
  size =
      length-append so.pieces (whole_pieces (held ++ part))
      ∙ (let first = so.size in let second = whole_size (held ++ part) in let sum = count_sum so.count (length (held ++ part) / 65536) in omega arith);
  whole =
      append_assoc so.pieces (whole_pieces (held ++ part)) (held_now ++ later)
      ∙ ap (λ (xs : List ℕ). so.pieces ++ xs)
      (sym (append_assoc (whole_pieces (held ++ part)) held_now later)
      ∙ ap (λ (xs : List ℕ). xs ++ later) (ap (λ (xs : List ℕ). whole_pieces (held ++ part) ++ xs) h ∙ whole_and_after (held ++ part))
      ∙ append_assoc held part later
      ∙ ap (λ (xs : List ℕ). held ++ xs) cut)
      ∙ so.whole;
}

passing_so_far : (before now : Option (List ℕ)) (total held left : List ℕ) → IsPassing before now total held left → SoFar before now total (held ++ left)
passing_so_far None now total held left so = tt
passing_so_far (Some b) now total held left so = record { done = so.pieces; written = so.written; whole = so.whole }

pub passing_stops : (before now new : Option (List ℕ)) (total held left part later : List ℕ) → IsPassing before now total held left → part ++ later ≡ left → AppendedPrefix now new (held ++ part) → AppendedPrefix before new total
passing_stops before now new total held left part later so cut a =
    part_written before now new total (held ++ part) later
    (subst (λ (xs : List ℕ). SoFar before now total xs) (ap (λ (xs : List ℕ). held ++ xs) (sym cut) ∙ sym (append_assoc held part later)) (passing_so_far before now total held left so)) a

-- what is written and what is held in the end
pub record HasPassed (before now : Option (List ℕ)) (total held : List ℕ) : Type 0 where
  pub written : Appended before now (whole_pieces total)
  pub rest : held ≡ after_pieces total

total_size : (pieces held total : List ℕ) (count : ℕ) → length pieces ≡ count * 65536 → pieces ++ held ≡ total → length held < 65536 → piece_bytes (length total) ≡ length pieces
total_size pieces held total count size whole short =
    let all : length total ≡ count * 65536 + length held = ap length (sym whole) ∙ length-append pieces held ∙ ap (λ n. n + length held) size in
    ap (λ n. n / 65536 * 65536) all ∙ ap (λ n. n * 65536) (div-mul-add count 65536 (length held) short) ∙ sym size

pub passing_ends : (before now : Option (List ℕ)) (total held left : List ℕ) → IsPassing before now total held left → left ≡ [] → length held < 65536 → HasPassed before now total held
unfolding whole_pieces after_pieces
passing_ends before now total held left so none short =
    let all : so.pieces ++ held ≡ total = ap (λ (xs : List ℕ). so.pieces ++ xs) (sym (append-nil held) ∙ ap (λ (xs : List ℕ). held ++ xs) (sym none)) ∙ so.whole in
    let size : piece_bytes (length total) ≡ length so.pieces = total_size so.pieces held total so.count so.size all short in
    record {
      written =
          subst (λ (xs : List ℕ). Appended before now xs)
          (sym (ap (λ n. take n total) size ∙ ap (λ (xs : List ℕ). take (length so.pieces) xs) (sym all) ∙ take-append_seam so.pieces held))
          so.written;
      rest = sym (ap (λ n. drop n total) size ∙ ap (λ (xs : List ℕ). drop (length so.pieces) xs) (sym all) ∙ drop-append_seam so.pieces held);
    }

-- fewer bytes than a piece stay held
pub few_held : (before : Option (List ℕ)) (bytes : List ℕ) → length bytes < 65536 → HasPassed before before bytes bytes
few_held before bytes short = passing_ends before before bytes bytes [] (subst (λ (xs : List ℕ). IsPassing before before xs bytes []) (append-nil bytes) (passing_begins before bytes [])) refl short

-- a piece is written
pub one_piece : (before now : Option (List ℕ)) (bytes : List ℕ) → length bytes ≡ 65536 → Appended before now bytes → HasPassed before now bytes []
one_piece before now bytes full a =
    passing_ends before now bytes [] [] (record { pieces = bytes; count = 1; written = a; size = full; whole = append-nil bytes }) refl (omega arith)

pub none_left : (bytes : List ℕ) → length bytes ≡ 65536 → [] ≡ after_pieces bytes
none_left bytes full = (one_piece None None bytes full tt).rest

-- bytes that were pushed stand after those that were held
pub part_added : (inside now items part : List ℕ) → inside ≡ now → items ≡ inside ++ part → items ≡ now ++ part
part_added inside now items part is e = e ∙ ap (λ (xs : List ℕ). xs ++ part) is
