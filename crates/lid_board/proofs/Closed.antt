-- A board that is closed.
use Rattle.std.proofs.Common.{◌≡◌, ℕ, zero, suc, ◌+◌, ◌-◌, ◌*◌, ◌/◌, ◌%◌, ◌<◌, Bool, true, false, List, [], ◌∷◌, length, get_or, set, sym, ◌∙◌, ap, subst, arith, length-set}
use Rattle.std.specs.Prelude.{Option, Some, None, option_map, slice_get}
use Rattle.std.proofs.lemmas.Option.{same_Some, slice_get_within}
use Rattle.std.specs.List.{All}
use Rattle.std.specs.Option.{unwrap_or}
use Rattle.std.proofs.lemmas.List.{get_or-set_same, get_or-set_other}
use Rattle.atomic_table.specs.Seated.{TableId}
use Rattle.atomic_table.specs.Table.{State}
use Rattle.lid_station.specs.Boards.{Facts, fill, drain}
use Rattle.lid_station.specs.Plain.{end_facts, plain_ends, HoldsTokensOf, PlainStands}
use Rattle.lid_station.specs.PlainLaws.{ends_even, ends_odd}
use Rattle.lid_station.specs.declared.pair.Pair.{Pair}
use Rattle.lid_station.proofs.PlainStations.{station_there, set_here, set_there}
use Rattle.lid_board.specs.Closing.{CanRestore, IsRestored, Restored, number_at, closed_facts}
use Rattle.lid_board.specs.Halves.{word_half}
use Rattle.lid_board.specs.Owners.{IsOwned}
use Rattle.lid_board.specs.Relation.{Kept, Related, word_count, first_word, capacity_of, stream_of}
use Rattle.lid_board.specs.Standing.{AreStreamsOf}
use Rattle.lid_board.specs.Ties.{IsTied, IsLaidTable}
use Rattle.lid_board.specs.Views.{EndTable, at, held}
use Rattle.lid_board.specs.declared.view.EndFacts.{EndFacts}
use Rattle.lid_board.specs.declared.view.HandView.{HandView}
use Rattle.lid_board.proofs.Frames.{apart}
use Rattle.lid_board.proofs.Halving.{shown_word, held_there}
use mathlib.Core.Option.{some, some-injective, some-ne-none}
use mathlib.Core.Logic.{dite}
use native.Mathlib.Decide.{ℕ_discrete}
use lib.ListN.{get_elem?}

pub elem_is : (xs : List ℕ) (i x : ℕ) → get_elem? xs i ≡ some x → get_or xs i 0 ≡ x
elem_is [] i x e = absurd (some-ne-none x (sym e))
elem_is (y ∷ ys) zero x e = some-injective y x e
elem_is (y ∷ ys) (suc i) x e = elem_is ys i x e

-- a plain station that was restored holds the tokens of the stream
pub restored_holds : (words : List ℕ) (first : ℕ) (f d : EndFacts) (p : Pair) → Kept words first f d → IsRestored words first f.passed d.passed f.cap p → HoldsTokensOf p f.stream
restored_holds words first f d p k r =
    let put = r.put in
    let taken = r.taken in
    let size = r.size in
    let within = k.within in
    record {
      short = k.fixed.short;
      small = k.fixed.small;
      filled = omega arith;
      held = λ i from to.
          let two = k.fixed.two in
          let room = k.room in
          let below : i % f.cap < f.cap = omega arith in
          let shows = ap (word_half (i % f.cap)) (k.shows (i % f.cap / 2) (omega arith)) ∙ shown_word f.cap f.stream f.passed d.passed (i % f.cap) k.ordered k.within k.fixed.small ∙ held_there f.cap f.stream f.passed d.passed i (omega arith) (omega arith) k.within k.room in
          ap (λ (n : ℕ). get_or p.places.items (i % n) 0) size
          ∙ r.places (i % f.cap) below
          ∙ ap (λ (n : ℕ). n - 2147483648) shows
          ∙ omega arith;
    }

-- one place more was copied
pub copied_more : (words : List ℕ) (first : ℕ) (places : List ℕ) (place token found : ℕ) → place < length places → token ≡ word_half place found - 2147483648 → get_elem? words (first + place / 2) ≡ some found
    → ((k : ℕ) → k < place → get_or places k 0 ≡ word_half k (get_or words (first + k / 2) 0) - 2147483648)
    → (k : ℕ) → k < place + 1 → get_or (set places place token) k 0 ≡ word_half k (get_or words (first + k / 2) 0) - 2147483648
copied_more words first places place token found inside is here before k below =
    dite (ℕ_discrete k place)
    (λ hit.
    ap (λ (n : ℕ). get_or (set places place token) n 0) hit ∙ get_or-set_same places place token 0 inside ∙ is
    ∙ ap (λ (n : ℕ). word_half place n - 2147483648) (sym (elem_is words (first + place / 2) found here))
    ∙ ap (λ (n : ℕ). word_half n (get_or words (first + n / 2) 0) - 2147483648) (sym hit))
    (λ miss. get_or-set_other places place k token 0 miss ∙ before k (omega arith))

pub small_more : (places : List ℕ) (place token : ℕ) → place < length places → token < 2147483648 → All (λ t. t < 2147483648) places → All (λ t. t < 2147483648) (set places place token)
small_more places place token there fits small k d inside =
    let same = length-set places place token in
    dite (ℕ_discrete k place)
    (λ hit. let e : get_or (set places place token) k d ≡ token = ap (λ (n : ℕ). get_or (set places place token) n d) hit ∙ get_or-set_same places place token d there in omega arith)
    (λ miss. let e = get_or-set_other places place k token d miss in let s = small k d (omega arith) in omega arith)

-- by other names of the numbers
pub can_at : (words first put taken so_put so_taken : ℕ) (p : Pair) → so_put ≡ put → so_taken ≡ taken → CanRestore words first put taken p → CanRestore words first so_put so_taken p
can_at words first put taken so_put so_taken p a b can =
    let ordered = can.ordered in
    let room = can.room in
    record { inside = can.inside; ordered = omega arith; room = omega arith }

-- one station more was restored
pub restored_more : (words firsts : List ℕ) (numbers : List (Option ℕ)) (old now : List Pair) (i put taken : ℕ) (p q : Pair) → Restored words firsts numbers old now i → slice_get now i ≡ Some p
    → put ≡ number_at numbers (2 * i) → taken ≡ number_at numbers (2 * i + 1) → IsRestored words (get_or firsts i 0) put taken (length p.places.items) q → Restored words firsts numbers old (set now i q) (i + 1)
restored_more words firsts numbers old now i put taken p q r at put_is taken_is one =
    record {
      many = length-set now i q ∙ r.many;
      done = λ j x y below at_old at_new.
          dite (ℕ_discrete j i)
          (λ hit.
          let new_is : q ≡ y = set_here now i q y (ap (λ (n : ℕ). slice_get (set now i q) n) (sym hit) ∙ at_new) in
          let old_is : p ≡ x = same_Some p x (sym at ∙ r.others i (omega arith) ∙ ap (slice_get old) (sym hit) ∙ at_old) in
          let here : IsRestored words (get_or firsts i 0) (number_at numbers (2 * i)) (number_at numbers (2 * i + 1)) (length x.places.items) y =
          subst (λ (z : Pair). IsRestored words (get_or firsts i 0) (number_at numbers (2 * i)) (number_at numbers (2 * i + 1)) (length x.places.items) z) new_is
          (subst (λ (z : Pair). IsRestored words (get_or firsts i 0) (number_at numbers (2 * i)) (number_at numbers (2 * i + 1)) (length z.places.items) q) old_is
          (subst (λ (n : ℕ). IsRestored words (get_or firsts i 0) n (number_at numbers (2 * i + 1)) (length p.places.items) q) put_is
          (subst (λ (n : ℕ). IsRestored words (get_or firsts i 0) put n (length p.places.items) q) taken_is one))) in
          subst (λ (n : ℕ). IsRestored words (get_or firsts n 0) (number_at numbers (2 * n)) (number_at numbers (2 * n + 1)) (length x.places.items) y) (sym hit) here)
          (λ miss. r.done j x y (omega arith) at_old (sym (set_there now i j q miss) ∙ at_new));
      others = λ j past. set_there now i j q (λ e. omega arith) ∙ r.others j (omega arith);
    }

-- what is known of an end by its parts
facts_are : (cap passed : ℕ) (mark : Bool) (h : EndFacts) → cap ≡ h.cap → passed ≡ h.passed → mark ≡ false → ◌≡◌ {A = Facts} (record { cap = cap; start = 0; passed = passed; mark = mark; misses = None }) (closed_facts h)
facts_are cap passed mark h a b c =
    let A : ℕ → Facts = λ x. record { cap = x; start = 0; passed = passed; mark = mark; misses = None } in
    let B : ℕ → Facts = λ x. record { cap = h.cap; start = 0; passed = x; mark = mark; misses = None } in
    let C : Bool → Facts = λ x. record { cap = h.cap; start = 0; passed = h.passed; mark = x; misses = None } in
    ap A a ∙ ap B b ∙ ap C c

module _ {S : Type 0} (plan : EndTable) (caps firsts : List ℕ) (table : TableId) (laid : IsLaidTable plan caps firsts table) (st : State S HandView) (id : ℕ) (v : HandView) (r : Related plan st)
    (here : get_elem? st.views id ≡ some v) (numbers : List (Option ℕ)) (tied : IsTied numbers v.ends) (all : (end : ℕ) → end < length plan → IsOwned v.ends end) (n : ℕ) (many : length plan ≡ 2 * n) where
  close_kept : (i : ℕ) → i < n → Kept st.words (first_word plan i) (held v.ends (fill i)) (held v.ends (drain i))
  close_kept i there =
      let f : held v.ends (fill i) ≡ r.truth (fill i) = r.agree id v (fill i) (held v.ends (fill i)) here (all (fill i) (omega arith)) in
      let d : held v.ends (drain i) ≡ r.truth (drain i) = r.agree id v (drain i) (held v.ends (drain i)) here (all (drain i) (omega arith)) in
      let ends = r.ends in
      subst (λ (y : EndFacts). Kept st.words (first_word plan i) y (held v.ends (drain i))) (sym f)
      (subst (λ (y : EndFacts). Kept st.words (first_word plan i) (r.truth (fill i)) y) (sym d) (r.kept i (omega arith)))

  close_cap : (i : ℕ) → i < n → (held v.ends (fill i)).cap ≡ capacity_of plan i
  close_cap i there =
      let f : held v.ends (fill i) ≡ r.truth (fill i) = r.agree id v (fill i) (held v.ends (fill i)) here (all (fill i) (omega arith)) in
      ap (λ (y : EndFacts). y.cap) f ∙ (r.planned (fill i) (omega arith)).cap

  close_stream : (i : ℕ) → i < n → (held v.ends (fill i)).stream ≡ stream_of plan i
  close_stream i there =
      let f : held v.ends (fill i) ≡ r.truth (fill i) = r.agree id v (fill i) (held v.ends (fill i)) here (all (fill i) (omega arith)) in
      ap (λ (y : EndFacts). y.stream) f ∙ (r.planned (fill i) (omega arith)).stream

  close_number : (end : ℕ) → end < length plan → number_at numbers end ≡ (held v.ends end).passed
  close_number end inside = ap (λ (o : Option ℕ). unwrap_or o 0) (tied end ∙ ap (option_map (λ (h : EndFacts). h.passed)) (all end inside))

  close_first : (i : ℕ) → i < n → get_or firsts i 0 ≡ first_word plan i
  close_first i there = let ends = laid.ends in laid.starts i (omega arith)

  pub close_can : (i : ℕ) (p : Pair) → i < n → length p.places.items ≡ capacity_of plan i → CanRestore table.words (get_or firsts i 0) (number_at numbers (2 * i)) (number_at numbers (2 * i + 1)) p
  close_can i p there size =
      let k = close_kept i there in
      let put = close_number (fill i) (omega arith) in
      let taken = close_number (drain i) (omega arith) in
      let first = close_first i there in
      let cap = close_cap i there in
      let ends = laid.ends in
      let words = laid.words in
      let gap = apart plan i (length caps) (omega arith) in
      let ordered = k.ordered in
      let room = k.room in
      let wide : word_count (length p.places.items) ≡ word_count (capacity_of plan i) = ap word_count size in
      record { inside = omega arith; ordered = omega arith; room = omega arith }

  close_restored : (words : List ℕ) → st.words ≡ words → (i : ℕ) (p q : Pair) → i < n → length p.places.items ≡ capacity_of plan i
      → IsRestored words (get_or firsts i 0) (number_at numbers (2 * i)) (number_at numbers (2 * i + 1)) (length p.places.items) q
      → IsRestored st.words (first_word plan i) (held v.ends (fill i)).passed (held v.ends (drain i)).passed (held v.ends (fill i)).cap q
  close_restored words are i p q there size one =
      let cap : length p.places.items ≡ (held v.ends (fill i)).cap = size ∙ sym (close_cap i there) in
      record {
        put = one.put ∙ close_number (fill i) (omega arith);
        taken = one.taken ∙ close_number (drain i) (omega arith);
        no_token = one.no_token;
        no_room = one.no_room;
        size = one.size ∙ cap;
        places = λ place below.
            one.places place (omega arith)
            ∙ ap (λ (k : ℕ). word_half place (get_or words (k + place / 2) 0) - 2147483648) (close_first i there)
            ∙ ap (λ (ws : List ℕ). word_half place (get_or ws (first_word plan i + place / 2) 0) - 2147483648) (sym are);
      }

  -- the plain stations stand for the streams
  pub close_stands : (words : List ℕ) (old new : List Pair) → st.words ≡ words → length old ≡ n → ((i : ℕ) (p : Pair) → slice_get old i ≡ Some p → length p.places.items ≡ capacity_of plan i)
      → Restored words firsts numbers old new (length old) → (streams : ℕ → List ℕ) → AreStreamsOf plan streams → PlainStands new streams
  close_stands words old new are same sizes done streams stands i q at =
      let within = slice_get_within new i q at in
      let long = done.many in
      let was = station_there old i (omega arith) in
      let there : i < n = omega arith in
      let one = close_restored words are i was.0 q there (sizes i was.0 was.1) (done.done i was.0 q (omega arith) was.1 at) in
      subst (HoldsTokensOf q) (close_stream i there ∙ stands i (omega arith)) (restored_holds st.words (first_word plan i) (held v.ends (fill i)) (held v.ends (drain i)) q (close_kept i there) one)

  -- and they show the numbers at their ends
  pub close_ends : (words : List ℕ) (old new : List Pair) → st.words ≡ words → length old ≡ n → ((i : ℕ) (p : Pair) → slice_get old i ≡ Some p → length p.places.items ≡ capacity_of plan i)
      → Restored words firsts numbers old new (length old) → (end : ℕ) → end < length plan → plain_ends new end ≡ Some (closed_facts (held v.ends end))
  close_ends words old new are same sizes done end inside =
      let i = end / 2 in
      let there : i < n = omega arith in
      let long = done.many in
      let was = station_there old i (omega arith) in
      let now = station_there new i (omega arith) in
      let one = close_restored words are i was.0 now.0 there (sizes i was.0 was.1) (done.done i was.0 now.0 (omega arith) was.1 now.1) in
      let k = close_kept i there in
      dite (ℕ_discrete (end % 2) 0)
      (λ even.
      let number : end ≡ fill i = omega arith in
      ends_even new end i number ∙ ap (option_map (end_facts true)) now.1
      ∙ ap (λ (f : Facts). Some f) (facts_are (length now.0.places.items) now.0.put now.0.room_seen (held v.ends (fill i)) one.size one.put one.no_room)
      ∙ ap (λ (e : ℕ). Some (closed_facts (held v.ends e))) (sym number))
      (λ odd.
      let number : end ≡ drain i = omega arith in
      ends_odd new end i number ∙ ap (option_map (end_facts false)) now.1
      ∙ ap (λ (f : Facts). Some f) (facts_are (length now.0.places.items) now.0.taken now.0.token_seen (held v.ends (drain i)) (one.size ∙ sym k.fixed.cap) one.taken one.no_token)
      ∙ ap (λ (e : ℕ). Some (closed_facts (held v.ends e))) (sym number))

-- by other names of the lists
pub restored_as : (words fs gs : List ℕ) (ns ms : List (Option ℕ)) (ps qs new : List Pair) → fs ≡ gs → ns ≡ ms → ps ≡ qs → Restored words fs ns ps new (length ps) → Restored words gs ms qs new (length qs)
restored_as words fs gs ns ms ps qs new a b c r =
    subst (λ (xs : List Pair). Restored words gs ms xs new (length xs)) c
    (subst (λ (xs : List (Option ℕ)). Restored words gs xs ps new (length ps)) b
    (subst (λ (xs : List ℕ). Restored words xs ns ps new (length ps)) a r))

pub can_as : (m n : ℕ) (fs gs : List ℕ) (ns ms : List (Option ℕ)) (i : ℕ) (p : Pair) → n ≡ m → gs ≡ fs → ms ≡ ns → CanRestore m (get_or fs i 0) (number_at ns (2 * i)) (number_at ns (2 * i + 1)) p
    → CanRestore n (get_or gs i 0) (number_at ms (2 * i)) (number_at ms (2 * i + 1)) p
can_as m n fs gs ns ms i p a b c can =
    let first : get_or gs i 0 ≡ get_or fs i 0 = ap (λ (xs : List ℕ). get_or xs i 0) b in
    let put : number_at ms (2 * i) ≡ number_at ns (2 * i) = ap (λ (xs : List (Option ℕ)). number_at xs (2 * i)) c in
    let taken : number_at ms (2 * i + 1) ≡ number_at ns (2 * i + 1) = ap (λ (xs : List (Option ℕ)). number_at xs (2 * i + 1)) c in
    let inside = can.inside in
    let ordered = can.ordered in
    let room = can.room in
    record { inside = omega arith; ordered = omega arith; room = omega arith }
