-- A line of a printed placement: which channel it names, and what it says.
use Rattle.std.proofs.Common.{◌≡◌, ℕ, zero, suc, ◌+◌, ◌-◌, ◌*◌, ◌^◌, ◌<◌, ◌≤◌, ◌==◌, ◌⊎◌, inl, inr, Bool, true, false, not, List, [], ◌∷◌, ◌++◌, length, get_or, map, replicate, Some, None, refl, sym, ap, subst, ◌∙◌, arith, length-append, lt-ltb}
use Rattle.std.specs.Prelude.{◌&&◌, nat_lt, nat_le, codes, if◌then◌else◌}
use Rattle.std.specs.Fmt.{decimal}
use Rattle.std.specs.List.{AllByRecursion, list_all}
use Rattle.std.proofs.lemmas.Bool.{cases_eq, cases_lt, cond-true, cond-false, and_from, le-leb, le-ltb, eq-eqb, ne_eqb}
use Rattle.std.proofs.lemmas.Bool.Decides.{nat_tests}
use Rattle.std.proofs.lemmas.List.{length-map}
use Rattle.std.proofs.lemmas.Fmt.{length-decimal-le}
use Rattle.std.proofs.lemmas.Option.{slice_get-get_or}
use Rattle.lid_base.specs.Lines.{ends_in_mark}
use Rattle.lid_base.specs.Numbers.{value_below}
use Rattle.lid_base.proofs.Numbers.{number_back, value_back, is_number}
use Rattle.lid_base_lines.specs.Spelled.{IsSpelled, AreSpelled}
use Rattle.lid_base_lines.specs.Texts.{Words, line_text, spaced}
use Rattle.lid_base_lines.proofs.Numbers.{spelled_word, spelled_number}
use Rattle.lid_base_lines.proofs.Pieces.{line_text_cons}
use Rattle.lid_texts_runs.specs.Pieces.{node_name}
use Rattle.lid_stations.specs.Placements.{Links, IsCapacity}
use Rattle.lid_system.specs.declared.Channel.{Channel}
use Rattle.lid_system.specs.Systems.{Precedes}
use Rattle.lid_stations_text.specs.declared.channels.Ends.{Ends}
use Rattle.lid_stations_text.specs.declared.fault.PlaceFault.{PlaceFault}
use Rattle.lid_stations_text.specs.declared.fault.PlaceFault.TheVariants.{ZeroLength, TooMany, Capacity}
use Rattle.lid_stations_text.specs.declared.form.Form.{Form}
use Rattle.lid_stations_text.specs.declared.form.Form.TheVariants.{Relays, Capacities}
use Rattle.lid_stations_text.specs.Channels.{is_between, AreInOrder}
use Rattle.lid_stations_text.specs.Faults.{first_fault, node_by, shell_node, channel_of, amount_fault}
use Rattle.lid_stations_text.specs.Forms.{is_node_word, is_number_word, begins_well, has_length, has_form, amount, relays_of, caps_of, is_capacity_word, has_capacities}
use Rattle.lid_stations_text.specs.Written.{channel_words}
use Rattle.lid_stations_text.proofs.FirstPlaces.{first_at}
use Rattle.lid_stations_text.proofs.ChannelOrder.{by_ends}

-- a word that names a node
pub record IsName (n i : ℕ) (word : List ℕ) : Type 0 where
  pub back : node_by n word ≡ Some i
  pub named : is_node_word word ≡ true
  pub spelled : IsSpelled 1024 word
  pub short : length word ≤ 21

mark_after : (x : ℕ) (xs : List ℕ) → 0 < length xs → ends_in_mark xs ≡ false → ends_in_mark (x ∷ xs) ≡ false
mark_after x [] some h = absurd (omega arith)
mark_after x (y ∷ xs) some h = h

pub name_of : (n i : ℕ) → 2 ≤ n → n ≤ 4098 → i < n → IsName n i (node_name n i)
name_of n i least most within = by_first (cases_eq i 0)
  where
    shell_name : (i ≡ 0 → ⊥) → (i ≡ n - 1 → ⊥) → IsName n i (codes "u" ++ decimal (i - 1))
    shell_name first last =
        let some : 0 < i = by_zero i first in
        let small : i - 1 < 2 ^ 64 = omega arith in
        let under : i - 1 < n - 2 = by_last last in
        let same : i - 1 + 1 ≡ i = omega arith in
        let digits : IsSpelled 20 (decimal (i - 1)) = spelled_number 20 (i - 1) small (omega arith) in
        let long : length (decimal (i - 1)) ≤ 20 = digits.short in
        record {
          back = ap (shell_node n) (number_back (2 ^ 64) (i - 1) small small) ∙ cond-true (nat_lt (i - 1) (n - 2)) (Some (i - 1 + 1)) None (lt-ltb (i - 1) (n - 2) under) ∙ ap Some same;
          named = is_number (2 ^ 64) (i - 1) small small;
          spelled = record {
            some = omega arith;
            short = omega arith;
            bytes = (refl, digits.bytes);
            unmarked = mark_after 117 (decimal (i - 1)) digits.some digits.unmarked;
          };
          short = omega arith;
        }
      where
        by_zero : (k : ℕ) → (k ≡ 0 → ⊥) → 0 < k
        by_zero zero never = absurd (never refl)
        by_zero (suc k) never = omega arith

        by_last : (i ≡ n - 1 → ⊥) → i - 1 < n - 2
        by_last never = by_order (cases_lt i (n - 1))
          where
            by_order : (i < n - 1) ⊎ (n - 1 ≤ i) → i - 1 < n - 2
            by_order (inl less) = (let some : 0 < i = by_zero i first in omega arith)
            by_order (inr more) = absurd (never (omega arith))

    by_last : (i ≡ 0 → ⊥) → (i ≡ n - 1) ⊎ (i ≡ n - 1 → ⊥) → IsName n i (if i == n - 1 then codes "out" else codes "u" ++ decimal (i - 1))
    by_last first (inl is) =
        subst (IsName n i) (sym (cond-true (i == n - 1) (codes "out") (codes "u" ++ decimal (i - 1)) (eq-eqb i (n - 1) is)))
        (record { back = ap Some (sym is); named = refl; spelled = spelled_word 1024 (codes "out") refl refl refl refl; short = omega arith })
    by_last first (inr other) = subst (IsName n i) (sym (cond-false (i == n - 1) (codes "out") (codes "u" ++ decimal (i - 1)) (ne_eqb i (n - 1) other))) (shell_name first other)

    by_first : (i ≡ 0) ⊎ (i ≡ 0 → ⊥) → IsName n i (node_name n i)
    by_first (inl is) =
        subst (IsName n i) (sym (cond-true (i == 0) (codes "in") (if i == n - 1 then codes "out" else codes "u" ++ decimal (i - 1)) (eq-eqb i 0 is)))
        (record { back = ap Some (sym is); named = refl; spelled = spelled_word 1024 (codes "in") refl refl refl refl; short = omega arith })
    by_first (inr first) = subst (IsName n i) (sym (cond-false (i == 0) (codes "in") (if i == n - 1 then codes "out" else codes "u" ++ decimal (i - 1)) (ne_eqb i 0 first))) (by_last first (cases_eq i (n - 1)))

-- capacities as words
caps_named : (caps : List ℕ) → AllByRecursion IsCapacity caps → map (value_below (2 ^ 64)) (map decimal caps) ≡ caps
caps_named [] h = refl
caps_named (c ∷ caps) h =
    let top : c ≤ 16 = h.0.1 in
    let small : c < 2 ^ 64 = omega arith in
    ap (λ (k : ℕ). k ∷ map (value_below (2 ^ 64)) (map decimal caps)) (value_back (2 ^ 64) c small small) ∙ ap (λ (ks : List ℕ). c ∷ ks) (caps_named caps h.1)

caps_numbers : (caps : List ℕ) → AllByRecursion IsCapacity caps → list_all is_number_word (map decimal caps) ≡ true
caps_numbers [] h = refl
caps_numbers (c ∷ caps) h =
    let top : c ≤ 16 = h.0.1 in
    let small : c < 2 ^ 64 = omega arith in
    and_from (is_number_word (decimal c)) (list_all is_number_word (map decimal caps)) (is_number (2 ^ 64) c small small) (caps_numbers caps h.1)

caps_range : (caps : List ℕ) → AllByRecursion IsCapacity caps → list_all is_capacity_word (map decimal caps) ≡ true
caps_range [] h = refl
caps_range (c ∷ caps) h =
    let low : 2 ≤ c = h.0.0 in
    let top : c ≤ 16 = h.0.1 in
    let small : c < 2 ^ 64 = omega arith in
    let is : c ≡ value_below (2 ^ 64) (decimal c) = sym (value_back (2 ^ 64) c small small) in
    let one : is_capacity_word (decimal c) ≡ true = subst (λ (n : ℕ). (nat_le 2 n && nat_le n 16) ≡ true) is (and_from (nat_le 2 c) (nat_le c 16) (le-leb 2 c low) (le-leb c 16 top)) in
    and_from (is_capacity_word (decimal c)) (list_all is_capacity_word (map decimal caps)) one (caps_range caps h.1)

caps_spelled : (caps : List ℕ) → AllByRecursion IsCapacity caps → AllByRecursion (IsSpelled 1024) (map decimal caps)
caps_spelled [] h = tt
caps_spelled (c ∷ caps) h = (let top : c ≤ 16 = h.0.1 in (spelled_number 1024 c (omega arith) (omega arith), caps_spelled caps h.1))

caps_short : (caps : List ℕ) → AllByRecursion IsCapacity caps → length (spaced (map decimal caps)) ≤ 21 * length caps
caps_short [] h = omega arith
caps_short (c ∷ caps) h =
    let top : c ≤ 16 = h.0.1 in
    let digits : length (decimal c) ≤ 20 = length-decimal-le 20 c (omega arith) (omega arith) (omega arith) in
    omega (arith, length-append (32 ∷ decimal c) (spaced (map decimal caps)), caps_short caps h.1)

-- capacities that are all 2
twos_are : (caps : List ℕ) → AllByRecursion (λ c. c ≡ 2) caps → caps ≡ replicate (length caps) 2
twos_are [] h = refl
twos_are (c ∷ caps) h = ap (λ (k : ℕ). k ∷ caps) h.0 ∙ ap (λ (ks : List ℕ). 2 ∷ ks) (twos_are caps h.1)

-- the form of a text by whether all capacities are 2
abbrev pub form_of : Bool → Form
form_of true = Relays
form_of false = Capacities

-- what the reader finds in the words of channel j, which has so many relay stations and such capacities
pub record IsPrinted (l : Links) (form : Form) (words : Words) (j k : ℕ) (caps : List ℕ) : Type 0 where
  pub due : has_form form words ≡ true
  pub channel : channel_of l words ≡ Some j
  pub amount : (m : ℕ) → amount_fault form (record { number = m; words = words }) ≡ None
  pub relays : relays_of form words ≡ k
  pub capacities : caps_of form words ≡ caps
  pub spelled : AreSpelled 1024 words
  pub short : length (line_text words) ≤ 86 + 21 * length caps

module _ (l : Links) (j k : ℕ) (c : Channel) (caps : List ℕ) where
  abbrev e : Ends
  e = record { from = c.from; to = c.to; piece = c.piece }

  module _ (least : 2 ≤ l.nodes) (most : l.nodes ≤ 4098) (from_in : c.from < l.nodes) (to_in : c.to < l.nodes) (piece : c.piece < 2 ^ 64) (order : AreInOrder l.channels) (inside : j < length l.channels) (is : (d : Channel) → get_or l.channels j d ≡ c) where
    from_name : IsName l.nodes c.from (node_name l.nodes c.from)
    from_name = name_of l.nodes c.from least most from_in

    to_name : IsName l.nodes c.to (node_name l.nodes c.to)
    to_name = name_of l.nodes c.to least most to_in

    piece_small : c.piece < 2 ^ 64
    piece_small = piece

    earlier_not : (d : Channel) → Precedes d c → is_between e d ≡ false
    earlier_not d p = grind (arith, nat_tests)

    itself : (d : Channel) → d ≡ c → is_between e d ≡ true
    itself d same = subst (λ (x : Channel). is_between e x ≡ true) (sym same)
        (and_from (c.from == c.from) ((c.to == c.to) && (c.piece == c.piece)) (eq-eqb c.from c.from refl) (and_from (c.to == c.to) (c.piece == c.piece) (eq-eqb c.to c.to refl) (eq-eqb c.piece c.piece refl)))

    named : (others : Words) → channel_of l (node_name l.nodes c.from ∷ node_name l.nodes c.to ∷ decimal c.piece ∷ others) ≡ Some j
    named others =
        sym (by_ends l (node_name l.nodes c.from ∷ node_name l.nodes c.to ∷ decimal c.piece ∷ others) e from_name.back to_name.back (number_back (2 ^ 64) c.piece piece_small piece_small))
        ∙ first_at (is_between e) 0 l.channels j c inside
        (λ i less. earlier_not (get_or l.channels i c) (order i j (get_or l.channels i c) c less (slice_get-get_or l.channels i c (omega arith)) (slice_get-get_or l.channels j c inside ∙ ap Some (is c))))
        (itself (get_or l.channels j c) (is c))
        ∙ (let z : 0 + j ≡ j = omega arith in ap Some z)

    -- the first four words
    module _ (few : k ≤ 64) (long : length caps ≡ k + 1) (range : AllByRecursion IsCapacity caps) where
      relays_small : k < 2 ^ 64
      relays_small = omega arith

      begins : (others : Words) → begins_well (node_name l.nodes c.from ∷ node_name l.nodes c.to ∷ decimal c.piece ∷ decimal k ∷ others) ≡ true
      begins others =
          and_from (is_node_word (node_name l.nodes c.from)) (is_node_word (node_name l.nodes c.to) && (is_number_word (decimal c.piece) && is_number_word (decimal k))) from_name.named
          (and_from (is_node_word (node_name l.nodes c.to)) (is_number_word (decimal c.piece) && is_number_word (decimal k)) to_name.named
          (and_from (is_number_word (decimal c.piece)) (is_number_word (decimal k)) (is_number (2 ^ 64) c.piece piece_small piece_small) (is_number (2 ^ 64) k relays_small relays_small)))

      asked : value_below (2 ^ 64) (decimal k) ≡ k
      asked = value_back (2 ^ 64) k relays_small relays_small

      few_asked : nat_lt 64 (value_below (2 ^ 64) (decimal k)) ≡ false
      few_asked = subst (λ (n : ℕ). nat_lt 64 n ≡ false) (sym asked) (le-ltb 64 k few)

      spelled_all : (others : Words) → AllByRecursion (IsSpelled 1024) others → AreSpelled 1024 (node_name l.nodes c.from ∷ node_name l.nodes c.to ∷ decimal c.piece ∷ decimal k ∷ others)
      spelled_all others h = record { some = omega arith; all = (from_name.spelled, (to_name.spelled, (spelled_number 1024 c.piece piece_small (omega arith), (spelled_number 1024 k relays_small (omega arith), h)))) }

      short_all : (others : Words) → length (spaced others) ≤ 21 * length caps → length (line_text (node_name l.nodes c.from ∷ node_name l.nodes c.to ∷ decimal c.piece ∷ decimal k ∷ others)) ≤ 86 + 21 * length caps
      short_all others h =
          let one = from_name.short in
          let two = to_name.short in
          let three : length (decimal c.piece) ≤ 20 = length-decimal-le 20 c.piece (omega arith) (omega arith) (omega arith) in
          let four : length (decimal k) ≤ 20 = length-decimal-le 20 k (omega arith) (omega arith) (omega arith) in
          let words : Words = node_name l.nodes c.to ∷ decimal c.piece ∷ decimal k ∷ others in
          omega (
            arith,
            one,
            two,
            three,
            four,
            ap length (line_text_cons (node_name l.nodes c.from) words),
            length-append (node_name l.nodes c.from) (spaced words ++ 10 ∷ []),
            length-append (spaced words) (10 ∷ []),
            length-append (32 ∷ node_name l.nodes c.to) (spaced (decimal c.piece ∷ decimal k ∷ others)),
            length-append (32 ∷ decimal c.piece) (spaced (decimal k ∷ others)),
            length-append (32 ∷ decimal k) (spaced others),
          )

      no_fault : (b : Bool) → b ≡ false → (d : Bool) → d ≡ true → (f g h : PlaceFault) → first_fault ((false, f) ∷ (b, g) ∷ (not d, h) ∷ []) ≡ None
      no_fault b b_is d d_is f g h =
          ap (λ (x : Bool). first_fault ((x, g) ∷ (not d, h) ∷ [])) b_is ∙ ap (λ (x : Bool). first_fault ((not x, h) ∷ [])) d_is

      pub printed : (two : Bool) → (two ≡ true → AllByRecursion (λ x. x ≡ 2) caps) → IsPrinted l (form_of two) (channel_words l.nodes two c k caps) j k caps
      printed true twos = record {
        due = and_from (begins_well words) _ (begins []) refl;
        channel = named (decimal k ∷ []);
        amount = λ m. no_fault (nat_lt 64 (relays_of Relays words)) few_asked true refl (ZeroLength m) (TooMany m) (Capacity m);
        relays = asked;
        capacities = ap (λ (n : ℕ). replicate n 2) (let a = asked in omega arith) ∙ sym (twos_are caps (twos refl));
        spelled = spelled_all [] tt;
        short = short_all [] (omega arith);
      }
        where
          words : Words
          words = node_name l.nodes c.from ∷ node_name l.nodes c.to ∷ decimal c.piece ∷ decimal k ∷ []
      printed false twos = record {
        due = and_from (begins_well words) _ (begins (map decimal caps)) (and_from (has_length Capacities words) (list_all is_number_word (map decimal caps)) longs (caps_numbers caps range));
        channel = named (decimal k ∷ map decimal caps);
        amount = λ m. no_fault (nat_lt 64 (relays_of Capacities words)) few_asked (has_capacities words) (caps_range caps range) (ZeroLength m) (TooMany m) (Capacity m);
        relays = asked;
        capacities = caps_named caps range;
        spelled = spelled_all (map decimal caps) (caps_spelled caps range);
        short = short_all (map decimal caps) (caps_short caps range);
      }
        where
          words : Words
          words = node_name l.nodes c.from ∷ node_name l.nodes c.to ∷ decimal c.piece ∷ decimal k ∷ map decimal caps

          longs : has_length Capacities words ≡ true
          longs =
              let many : length (map decimal caps) ≡ k + 1 = length-map caps decimal ∙ long in
              let a = asked in
              and_from (nat_le 5 (length words)) (length words - 5 == amount words) (le-leb 5 (length words) (omega arith)) (eq-eqb (length words - 5) (amount words) (omega arith))
