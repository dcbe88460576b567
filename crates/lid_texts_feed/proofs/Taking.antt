-- A text that is taken piece by piece.
use Rattle.std.proofs.Common.{◌≡◌, ◌⊎◌, ℕ, zero, suc, ◌+◌, ◌<◌, ◌≤◌, nat_lt, Bool, true, false, List, [], ◌++◌, length, take, Option, Some, None, Result, Err, OnOk, inl, inr, refl, sym, ap, ◌∙◌, append_assoc, length-append, subst, arith}
use Rattle.std.specs.Option.{IfSome}
use Rattle.std.proofs.lemmas.List.{append-nil}
use Rattle.lid_base.proofs.Results.{on_ok}
use Rattle.lid_base_io.proofs.Fetches.{IsStart, start_more, start_ended}
use Rattle.lid_base_io.specs.declared.fetching.FetchFault.{FetchFault}
use Rattle.lid_base_io.specs.declared.fetching.FetchFault.TheVariants as fetching
use Rattle.lid_texts.specs.declared.rows.VecFault.{VecFault}
use Rattle.lid_texts.specs.declared.rows.VecFault.TheVariants.{Memory}
use Rattle.lid_texts.specs.Rows.{rows_reading}
use Rattle.lid_texts.specs.Scans.{ended_rows, logical_of, sound_rows}
use Rattle.lid_texts.specs.Scanned.{HasRead, Gives}
use Rattle.lid_texts.proofs.Splits.{ended_are}
use Rattle.lid_texts_feed.specs.declared.text.TextScan.{TextScan}
use Rattle.lid_texts_feed.specs.Feeds.{most_bytes, IsText, IsRefusedText, IfRefused}
use Rattle.lid_texts_feed.specs.Fetching.{BeginsFile, ScansPiece, HasFetched, TakesPiece, Knows, KnowsMore, fetch_fault, feed_fault}

start_of : (held : Option (List ℕ)) (bytes : List ℕ) → BeginsFile held bytes → IsStart held bytes
start_of None bytes begins = tt
start_of (Some file) bytes begins = record { front = begins }

begins_of : (held : Option (List ℕ)) (bytes : List ℕ) → IsStart held bytes → BeginsFile held bytes
begins_of None bytes start = tt
begins_of (Some file) bytes start = start.front

-- as much as is ever fetched of a text
full : (held : Option (List ℕ)) (bytes : List ℕ) → length bytes ≡ most_bytes + 1 → BeginsFile held bytes → IfSome held (λ file. bytes ≡ take (most_bytes + 1) file)
full None bytes e begins = tt
full (Some file) bytes e begins = begins ∙ ap (λ (n : ℕ). take n file) e

nothing_begins : (held : Option (List ℕ)) → BeginsFile held []
nothing_begins None = tt
nothing_begins (Some file) = refl

pub nothing_ended : (columns : List (List ℕ)) (outs : ℕ) → ended_rows columns outs [] ≡ []
unfolding ended_rows
nothing_ended columns outs = ap (λ (ls : List (List ℕ)). sound_rows columns outs (logical_of ls)) (ended_are [] [] [] refl)

-- a piece that could not be had is no refusal
pub piece_fine : (P : VecFault → Type 0) (fault : FetchFault) → IfRefused P (fetch_fault fault)
piece_fine P fetching.Read = tt
piece_fine P fetching.Memory = tt

-- the fault of a text is told, but for want of memory
pub text_refused : (P : VecFault → Type 0) (fault : VecFault) → (fault ≡ Memory) ⊎ P fault → IfRefused P (feed_fault fault)
text_refused P Memory told = tt
text_refused P fault (inl e) = absurd (let f = e in cc)
text_refused P fault (inr p) = p

module _ (held : Option (List ℕ)) (columns : List (List ℕ)) (outs : ℕ) where
  pub nothing_fetched : (text : TextScan) → HasRead text.scan [] → text.scan.columns ≡ columns → text.scan.outs ≡ outs → text.fetched ≡ 0 → HasFetched held columns outs text []
  nothing_fetched text read names width long = record {
    names = names;
    width = width;
    read = read;
    long = long;
    short = omega arith;
    begins = nothing_begins held;
  }

  -- what is read of a text is read with its columns
  pub refuses : (text : TextScan) (bytes : List ℕ) (fault : VecFault) → HasFetched held columns outs text bytes → IsText held bytes → (fault ≡ Memory) ⊎ (rows_reading text.scan.columns text.scan.outs bytes ≡ Err fault) → IfRefused (IsRefusedText held columns outs) (feed_fault fault)
  refuses text bytes fault fed whole told = text_refused (IsRefusedText held columns outs) fault (by told)
    where
      by : (fault ≡ Memory) ⊎ (rows_reading text.scan.columns text.scan.outs bytes ≡ Err fault) → (fault ≡ Memory) ⊎ IsRefusedText held columns outs fault
      by (inl e) = inl e
      by (inr e) = inr (record {
        bytes = bytes;
        fetched = whole;
        refuses = subst (λ (ns : List (List ℕ)). rows_reading ns outs bytes ≡ Err fault) fed.names (subst (λ (k : ℕ). rows_reading text.scan.columns k bytes ≡ Err fault) fed.width e);
      })

  -- as much was fetched as ever is
  pub no_piece : (text : TextScan) (bytes : List ℕ) (rows : List (List Bool)) → HasFetched held columns outs text bytes → most_bytes + 1 ≤ text.fetched → TakesPiece held columns outs text bytes rows rows false
  no_piece text bytes rows fed most =
      let long = fed.long in
      let short = fed.short in
      let count : length bytes ≡ most_bytes + 1 = omega arith in
      let same = sym (append-nil bytes) in
      record {
        piece = [];
        fetched = subst (HasFetched held columns outs text) same fed;
        gives = subst (λ (now : List ℕ). Gives columns outs bytes now rows rows) same (record {
          rows = [];
          appended = sym (append-nil rows);
          all = sym (append-nil (ended_rows columns outs bytes));
        });
        ends = λ _. subst (IsText held) same (record { short = short; told = full held bytes count fed.begins });
      }

  -- a piece was scanned
  pub took_piece : (whole : Bool) (old new : TextScan) (bytes : List ℕ) (room n : ℕ) (before now : List (List Bool)) → HasFetched held columns outs old bytes → ScansPiece whole held old.scan new.scan bytes room before now n
      → new.fetched ≡ old.fetched + n → new.scan.columns ≡ old.scan.columns → new.scan.outs ≡ old.scan.outs → 0 < room → n ≤ room → old.fetched + room ≤ most_bytes + 1 → TakesPiece held columns outs new bytes before now (nat_lt 0 n)
  took_piece whole old new bytes room n before now fed scans sum names width some within most =
      let long = fed.long in
      let short = fed.short in
      let own = scans.long in
      let count : length (bytes ++ scans.piece) ≡ length bytes + length scans.piece = length-append bytes scans.piece in
      let start = start_of held bytes fed.begins in
      record {
        piece = scans.piece;
        fetched = record {
          names = names ∙ fed.names;
          width = width ∙ fed.width;
          read = scans.read;
          long = omega arith;
          short = omega arith;
          begins = begins_of held (bytes ++ scans.piece) (start_more whole held bytes (bytes ++ scans.piece) room start scans.next);
        };
        gives = subst (λ (ns : List (List ℕ)). Gives ns outs bytes (bytes ++ scans.piece) before now) fed.names (subst (λ (k : ℕ). Gives old.scan.columns k bytes (bytes ++ scans.piece) before now) fed.width scans.gives);
        ends = λ last.
            let none : n ≡ 0 = nothing n last in
            record {
              short = omega arith;
              told = start_ended whole held bytes (bytes ++ scans.piece) room most_bytes some short (omega arith) start scans.next;
            };
      }
    where
      nothing : (k : ℕ) → nat_lt 0 k ≡ false → k ≡ 0
      nothing zero e = refl
      nothing (suc k) e = absurd (let f : nat_lt 0 (suc k) ≡ true = grind arith in let c : true ≡ false = sym f ∙ e in cc)

  -- the rows of a piece, where the text goes on
  pub record Took (new : TextScan) (known before now : List (List Bool)) (more : Bool) : Type 0 where
    pub bytes : List ℕ
    pub fetched : HasFetched held columns outs new bytes
    pub rows : List (List Bool)
    pub appended : now ≡ before ++ rows
    pub same : known ++ rows ≡ ended_rows columns outs bytes
    pub ends : more ≡ false → IsText held bytes

  pub took : (old new : TextScan) (known before now : List (List Bool)) (more : Bool) → old.count ≡ None → Knows held columns outs old old.count known
      → ((bytes : List ℕ) → HasFetched held columns outs old bytes → TakesPiece held columns outs new bytes before now more) → Took new known before now more
  took old new known before now more none knows takes =
      let own : Knows held columns outs old None known = subst (λ (o : Option ℕ). Knows held columns outs old o known) none knows in
      let took = takes own.0 own.1 in
      record {
        bytes = own.0 ++ took.piece;
        fetched = took.fetched;
        rows = took.gives.rows;
        appended = took.gives.appended;
        same = ap (λ (rows : List (List Bool)). rows ++ took.gives.rows) own.2 ∙ sym took.gives.all;
        ends = took.ends;
      }

  pub knows_more : (new : TextScan) (known before now : List (List Bool)) (more : Bool) → new.count ≡ None → Took new known before now more → KnowsMore held columns outs new known before now
  knows_more new known before now more none took = record {
    rows = took.rows;
    appended = took.appended;
    knows = subst (λ (o : Option ℕ). Knows held columns outs new o (known ++ took.rows)) (sym none) (took.bytes, took.fetched, took.same);
  }

  -- the last row, after those of the last piece
  pub knows_all : {E : Type 0} (r : Result Unit E) (new : TextScan) (known first before mid now : List (List Bool)) → mid ≡ before ++ first → OnOk r (KnowsMore held columns outs new (known ++ first) mid now) → OnOk r (KnowsMore held columns outs new known before now)
  knows_all r new known first before mid now e more =
      on_ok r
      (λ k. record {
        rows = first ++ k.rows;
        appended = k.appended ∙ ap (λ (rows : List (List Bool)). rows ++ k.rows) e ∙ append_assoc before first k.rows;
        knows = subst (λ (rows : List (List Bool)). Knows held columns outs new new.count rows) (append_assoc known first k.rows) k.knows;
      })
      more
