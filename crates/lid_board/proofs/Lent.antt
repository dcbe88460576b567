-- The hand that comes back from code over any stations.
use Rattle.std.proofs.Common.{◌≡◌, ℕ, zero, suc, ◌*◌, ◌/◌, List, [], ◌∷◌, length, get_or, refl, sym, ◌∙◌, ap, arith}
use base.Stored.{Gv, gnum, gcons, coded_ℕ, coded_list}
use Rattle.atomic_table.specs.Seated.{table_id_coded}
use Rattle.lid_board.specs.Lending.{LentHandsComeBack}
use Rattle.lid_board.specs.Owners.{start_ends, streams_in}
use Rattle.lid_board.specs.Relation.{AreWithin, stream_of}
use Rattle.lid_board.specs.Views.{EndTable, at, held_of}

-- the stream at an end, in the list of streams
stream_in : (plan : EndTable) (end : ℕ) → (held_of (at plan end)).stream ≡ get_or (streams_in plan) end []
stream_in [] end = refl
stream_in (o ∷ os) zero = refl
stream_in (o ∷ os) (suc end) = stream_in os end

-- the same streams have the same lengths
within_too : (one two ends : EndTable) → streams_in one ≡ streams_in two → AreWithin one ends → AreWithin two ends
within_too one two ends same within end h is =
    let e : stream_of one (end / 2) ≡ stream_of two (end / 2) =
    stream_in one (2 * (end / 2)) ∙ ap (λ (ss : List (List ℕ)). get_or ss (2 * (end / 2)) []) same ∙ sym (stream_in two (2 * (end / 2))) in
    let long : length (stream_of one (end / 2)) ≡ length (stream_of two (end / 2)) = ap (λ (s : List ℕ). length s) e in
    let few = within end h is in
    omega arith

-- what is made of the same parts
same_made : (a b n m : ℕ) (x y s t : Gv) → gcons (gnum a) (gcons (gnum n) (gcons x s)) ≡ gcons (gnum b) (gcons (gnum m) (gcons y t)) → (a ≡ b) × (n ≡ m) × (x ≡ y) × (s ≡ t)
same_made a b n m x y s t e = (cc, cc, cc, cc)

pub come_back : LentHandsComeBack
come_back lent back old new before after same of_old of_new =
    let made = same_made back lent (length new.ends.items) (length old.ends.items) (table_id_coded.code new.seat.table_id) (table_id_coded.code old.seat.table_id)
    ((coded_list (coded_list coded_ℕ)).code (streams_in (start_ends after))) ((coded_list (coded_list coded_ℕ)).code (streams_in (start_ends before))) same in
    let table : new.seat.table_id ≡ old.seat.table_id = table_id_coded.inj new.seat.table_id old.seat.table_id made.2 in
    let streams : streams_in (start_ends after) ≡ streams_in (start_ends before) = (coded_list (coded_list coded_ℕ)).inj (streams_in (start_ends after)) (streams_in (start_ends before)) made.3 in
    record {
      same = made.0;
      of =
          record {
            table = table ∙ of_old.table;
            room = made.1 ∙ of_old.room;
            within = within_too (start_ends after) (start_ends before) new.seat.me.0.ends streams of_new.within;
          };
      ends = made.1;
    }
