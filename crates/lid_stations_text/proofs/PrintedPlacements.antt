-- The lines of a printed placement stand for it.
use Rattle.std.proofs.Common.{◌≡◌, ℕ, zero, suc, ◌+◌, ◌*◌, ◌^◌, ◌<◌, ◌≤◌, ◌==◌, Bool, true, false, not, List, [], ◌∷◌, ◌++◌, length, get_or, take, drop, map, Option, Some, None, Ok, Err, refl, ap, subst, ◌∙◌, arith, length-append, length-drop}
use Rattle.std.specs.Prelude.{flat_map, nat_lt, is_some, codes}
use Rattle.std.specs.List.{All, AllByRecursion}
use Rattle.std.specs.Option.{option_map_or}
use Rattle.std.proofs.lemmas.Bool.{cond-true, cond-false, and_parts, le-ltb, eq-eqb, eqb-true, ne_eqb}
use Rattle.std.proofs.lemmas.List.{length-take-le, take-append-drop}
use Rattle.std.proofs.lemmas.List.Elements.{All-from_recursion, recursion_from_All}
use Rattle.std.proofs.lemmas.List.Sums.{sum_by-cons}
use Rattle.lid_base.specs.declared.line.Line.{Line}
use Rattle.lid_base.specs.Lines.{logical_lines}
use Rattle.lid_base.proofs.Lists.{all_append, none_passes}
use Rattle.lid_base.specs.Each.{from_each}
use Rattle.lid_base_lines.specs.Spelled.{AreSpelled}
use Rattle.lid_base_lines.specs.Texts.{Words, line_text, lines_text, numbered_lines}
use Rattle.lid_base_lines.proofs.WithinLimits.{clean_lines}
use Rattle.lid_base_lines.proofs.Numbers.{spelled_word}
use Rattle.lid_base_lines.proofs.ReadBack.{text_law, text_clean}
use Rattle.lid_stations.specs.declared.placement.Placement.{Placement}
use Rattle.lid_stations.specs.Placements.{Links, links_of, station_count, IsCapacity, Fits}
use Rattle.lid_system.specs.declared.System.{System}
use Rattle.lid_system.specs.declared.Channel.{Channel}
use Rattle.lid_system.specs.Systems.{IsWellFormed, IsChannel}
use Rattle.lid_stations_text.specs.declared.fault.PlaceFault.{PlaceFault}
use Rattle.lid_stations_text.specs.declared.fault.PlaceFault.TheVariants.{Word, NoChannel, Twice, TotalLimit}
use Rattle.lid_stations_text.specs.declared.form.Kind.TheVariants.{Stations}
use Rattle.lid_stations_text.specs.Faults.{first_fault, or_else, is_number, is_of, channel_of, stands_on, amount_fault, line_fault}
use Rattle.lid_stations_text.specs.Forms.{stations_form, relays_of, caps_of}
use Rattle.lid_stations_text.specs.Laws.{PrintedStationsAreReadBack}
use Rattle.lid_stations_text.specs.Readings.{lines_fault, first_line, relays_on, caps_on, placement_of, whole, unless, rows_reading, form_reading, lines_reading, text_reading, reading}
use Rattle.lid_stations_text.specs.Written.{are_all_two, channel_words, channel_lines, version_words, stations_text}
use Rattle.lid_stations_text.proofs.PrintedLines.{form_of, IsPrinted, printed}
use Rattle.lid_base.proofs.Alls.{all_take, all_drop}

-- the item at a place, and those after it
record IsAt {A : Type 0} (xs ys : List A) (x : A) (j : ℕ) : Type 0 where
  inside : j < length xs
  is : (d : A) → get_or xs j d ≡ x
  after : drop (suc j) xs ≡ ys

dropped : {A : Type 0} (xs ys : List A) (x : A) (j : ℕ) → drop j xs ≡ x ∷ ys → IsAt xs ys x j
dropped [] ys x zero e = absurd (cc)
dropped [] ys x (suc j) e = absurd (cc)
dropped (y ∷ xs) ys x zero e = record { inside = omega arith; is = λ d. cc; after = cc }
dropped (y ∷ xs) ys x (suc j) e =
    let h = dropped xs ys x j e in
    record { inside = (let i = h.inside in omega arith); is = h.is; after = h.after }

-- what the version of a text says
all_two : (caps : List ℕ) → are_all_two caps ≡ true → AllByRecursion (λ x. x ≡ 2) caps
all_two [] h = tt
all_two (c ∷ caps) h = let parts = and_parts (c == 2) (are_all_two caps) h in (eqb-true c 2 parts.0, all_two caps parts.1)

module _ (s : System) (well : IsWellFormed s) (pieces : All (λ c. c.piece < 2 ^ 64) s.channels) (two : Bool) where
  abbrev l : Links
  l = links_of s

  -- what is left to print from channel j on
  record IsLeft (j : ℕ) (cs : List Channel) (ks caps : List ℕ) : Type 0 where
    channels : drop j s.channels ≡ cs
    counts : length ks ≡ length cs
    few : AllByRecursion (λ k. k ≤ 64) ks
    long : length caps ≡ station_count ks
    range : AllByRecursion IsCapacity caps
    twos : two ≡ true → AllByRecursion (λ x. x ≡ 2) caps

  module _ (j k : ℕ) (c : Channel) (cs : List Channel) (ks caps : List ℕ) (left : IsLeft j (c ∷ cs) (k ∷ ks) caps) where
    abbrev words : Words
    words = channel_words l.nodes two c k (take (suc k) caps)

    at : IsAt s.channels cs c j
    at = dropped s.channels cs c j left.channels

    enough : suc k ≤ length caps
    enough = omega (arith, left.long, sum_by-cons (λ (n : ℕ). n + 1) k ks)

    own_long : length (take (suc k) caps) ≡ k + 1
    own_long = length-take-le (suc k) caps enough ∙ omega arith

    is_channel : IsChannel s c
    is_channel = subst (IsChannel s) (at.is c) (All-from_recursion (IsChannel s) s.channels well.each_channel j c at.inside)

    line : IsPrinted l (form_of two) words j k (take (suc k) caps)
    line =
        printed l j k c (take (suc k) caps) well.least well.most (let h = is_channel.comes in omega arith) is_channel.ends (subst (λ (x : Channel). x.piece < 2 ^ 64) (at.is c) (pieces j c at.inside)) well.ascending at.inside at.is
        left.few.0 own_long (all_take IsCapacity (suc k) caps left.range) two (λ t. all_take (λ x. x ≡ 2) (suc k) caps (left.twos t))

    next : IsLeft (j + 1) cs ks (drop (suc k) caps)
    next = record {
      channels = (let e : j + 1 ≡ suc j = omega arith in ap (λ (n : ℕ). drop n s.channels) e ∙ at.after);
      counts = (let h = left.counts in omega arith);
      few = left.few.1;
      long = length-drop (suc k) caps ∙ (let h = left.long in let e = sum_by-cons (λ (n : ℕ). n + 1) k ks in omega arith);
      range = all_drop IsCapacity (suc k) caps left.range;
      twos = λ t. all_drop (λ x. x ≡ 2) (suc k) caps (left.twos t);
    }

    module _ (m : ℕ) where
      abbrev row : Line
      row = record { number = m; words = words }

      own : is_of l j row ≡ true
      own = ap (λ (o : Option ℕ). is_number o j) line.channel ∙ eq-eqb j j refl

      other : (x : ℕ) → j + 1 ≤ x → is_of l x row ≡ false
      other x h = ap (λ (o : Option ℕ). is_number o x) line.channel ∙ ne_eqb j x (λ e. absurd (omega arith))

      clear : (earlier : List Line) → AllByRecursion (λ r. is_of l j r ≡ false) earlier → line_fault l (form_of two) earlier row ≡ None
      clear earlier free =
          ap (λ (b : Bool). or_else (first_fault ((not b, Word m) ∷ (not (is_some (channel_of l words)), NoChannel m) ∷ (stands_on l earlier (channel_of l words), Twice m) ∷ [])) (amount_fault (form_of two) row)) line.due
          ∙ ap (λ (o : Option ℕ). or_else (first_fault ((not (is_some o), NoChannel m) ∷ (stands_on l earlier o, Twice m) ∷ [])) (amount_fault (form_of two) row)) line.channel
          ∙ ap (λ (b : Bool). or_else (first_fault ((b, Twice m) ∷ [])) (amount_fault (form_of two) row)) (none_passes (is_of l j) earlier free)
          ∙ line.amount m

  no_fault : (j m : ℕ) (cs : List Channel) (ks caps : List ℕ) (earlier : List Line) → IsLeft j cs ks caps → ((x : ℕ) → j ≤ x → AllByRecursion (λ r. is_of l x r ≡ false) earlier) → lines_fault l (form_of two) earlier (numbered_lines m (channel_lines l.nodes two cs ks caps)) ≡ None
  no_fault j m [] ks caps earlier left free = refl
  no_fault j m (c ∷ cs) [] caps earlier left free = absurd (let h = left.counts in omega arith)
  no_fault j m (c ∷ cs) (k ∷ ks) caps earlier left free =
      ap (λ (o : Option PlaceFault). or_else o (lines_fault l (form_of two) (earlier ++ row j k c cs ks caps left m ∷ []) (numbered_lines (m + 1) (channel_lines l.nodes two cs ks (drop (suc k) caps))))) (clear j k c cs ks caps left m earlier (free j (omega arith)))
      ∙ no_fault (j + 1) (m + 1) cs ks (drop (suc k) caps) (earlier ++ row j k c cs ks caps left m ∷ []) (next j k c cs ks caps left)
      (λ x h. all_append (λ r. is_of l x r ≡ false) earlier (row j k c cs ks caps left m ∷ []) (free x (omega arith)) (other j k c cs ks caps left m x h, tt))

  all_spelled : (j : ℕ) (cs : List Channel) (ks caps : List ℕ) → IsLeft j cs ks caps → AllByRecursion (AreSpelled 1024) (channel_lines l.nodes two cs ks caps)
  all_spelled j [] ks caps left = tt
  all_spelled j (c ∷ cs) [] caps left = absurd (let h = left.counts in omega arith)
  all_spelled j (c ∷ cs) (k ∷ ks) caps left = ((line j k c cs ks caps left).spelled, all_spelled (j + 1) cs ks (drop (suc k) caps) (next j k c cs ks caps left))

  all_short : (j : ℕ) (cs : List Channel) (ks caps : List ℕ) → IsLeft j cs ks caps → length (lines_text (channel_lines l.nodes two cs ks caps)) ≤ 86 * length cs + 21 * length caps
  all_short j [] ks caps left = omega arith
  all_short j (c ∷ cs) [] caps left = absurd (let h = left.counts in omega arith)
  all_short j (c ∷ cs) (k ∷ ks) caps left =
      let first = (line j k c cs ks caps left).short in
      let later = all_short (j + 1) cs ks (drop (suc k) caps) (next j k c cs ks caps left) in
      let some = enough j k c cs ks caps left in
      omega (arith, first, later, some, own_long j k c cs ks caps left, length-drop (suc k) caps, length-append (line_text (words j k c cs ks caps left)) (lines_text (channel_lines l.nodes two cs ks (drop (suc k) caps))))

  module _ (all : List Line) where
    -- the lines of the channels from j on are among those that are left
    abbrev AreFound : ℕ → ℕ → List Channel → List ℕ → List ℕ → Type 0
    AreFound j m cs ks caps = (x : ℕ) → j ≤ x → first_line (is_of l x) all ≡ first_line (is_of l x) (numbered_lines m (channel_lines l.nodes two cs ks caps))

    found_next : (j m k : ℕ) (c : Channel) (cs : List Channel) (ks caps : List ℕ) → IsLeft j (c ∷ cs) (k ∷ ks) caps → AreFound j m (c ∷ cs) (k ∷ ks) caps → AreFound (j + 1) (m + 1) cs ks (drop (suc k) caps)
    found_next j m k c cs ks caps left found x h =
        found x (omega arith)
        ∙ cond-false (is_of l x (row j k c cs ks caps left m)) (Some (row j k c cs ks caps left m)) (first_line (is_of l x) (numbered_lines (m + 1) (channel_lines l.nodes two cs ks (drop (suc k) caps)))) (other j k c cs ks caps left m x h)

    found_here : (j m k : ℕ) (c : Channel) (cs : List Channel) (ks caps : List ℕ) → (left : IsLeft j (c ∷ cs) (k ∷ ks) caps) → AreFound j m (c ∷ cs) (k ∷ ks) caps → first_line (is_of l j) all ≡ Some (row j k c cs ks caps left m)
    found_here j m k c cs ks caps left found =
        found j (omega arith)
        ∙ cond-true (is_of l j (row j k c cs ks caps left m)) (Some (row j k c cs ks caps left m)) (first_line (is_of l j) (numbered_lines (m + 1) (channel_lines l.nodes two cs ks (drop (suc k) caps)))) (own j k c cs ks caps left m)

    relays_back : (j m : ℕ) (cs : List Channel) (ks caps : List ℕ) → IsLeft j cs ks caps → AreFound j m cs ks caps → map (relays_on l (form_of two) all) (from_each (λ c. c) j (length cs)) ≡ ks
    relays_back j m [] [] caps left found = refl
    relays_back j m [] (k ∷ ks) caps left found = absurd (let h = left.counts in omega arith)
    relays_back j m (c ∷ cs) [] caps left found = absurd (let h = left.counts in omega arith)
    relays_back j m (c ∷ cs) (k ∷ ks) caps left found =
        let here : relays_on l (form_of two) all j ≡ k =
        ap (λ (o : Option Line). option_map_or (λ r. relays_of (form_of two) r.words) o 0) (found_here j m k c cs ks caps left found) ∙ (line j k c cs ks caps left).relays in
        ap (λ (n : ℕ). n ∷ map (relays_on l (form_of two) all) (from_each (λ c. c) (j + 1) (length cs))) here
        ∙ ap (λ (ns : List ℕ). k ∷ ns) (relays_back (j + 1) (m + 1) cs ks (drop (suc k) caps) (next j k c cs ks caps left) (found_next j m k c cs ks caps left found))

    caps_back : (j m : ℕ) (cs : List Channel) (ks caps : List ℕ) → IsLeft j cs ks caps → AreFound j m cs ks caps → flat_map (caps_on l (form_of two) all) (from_each (λ c. c) j (length cs)) ≡ caps
    caps_back j m [] [] [] left found = refl
    caps_back j m [] [] (x ∷ caps) left found = absurd (let h = left.long in omega arith)
    caps_back j m [] (k ∷ ks) caps left found = absurd (let h = left.counts in omega arith)
    caps_back j m (c ∷ cs) [] caps left found = absurd (let h = left.counts in omega arith)
    caps_back j m (c ∷ cs) (k ∷ ks) caps left found =
        let here : caps_on l (form_of two) all j ≡ take (suc k) caps =
        ap (λ (o : Option Line). option_map_or (λ r. caps_of (form_of two) r.words) o (2 ∷ [])) (found_here j m k c cs ks caps left found) ∙ (line j k c cs ks caps left).capacities in
        ap (λ (ns : List ℕ). ns ++ flat_map (caps_on l (form_of two) all) (from_each (λ c. c) (j + 1) (length cs))) here
        ∙ ap (λ (ns : List ℕ). take (suc k) caps ++ ns) (caps_back (j + 1) (m + 1) cs ks (drop (suc k) caps) (next j k c cs ks caps left) (found_next j m k c cs ks caps left found))
        ∙ take-append-drop (suc k) caps

header_spelled : (two : Bool) → AreSpelled 1024 (version_words two)
header_spelled true = record { some = omega arith; all = (spelled_word 1024 (codes "lid-stations") refl refl refl refl, (spelled_word 1024 (codes "1") refl refl refl refl, tt)) }
header_spelled false = record { some = omega arith; all = (spelled_word 1024 (codes "lid-stations") refl refl refl refl, (spelled_word 1024 (codes "2") refl refl refl refl, tt)) }

header_short : (two : Bool) → length (line_text (version_words two)) ≤ 16
unfolding line_text
header_short true = omega arith
header_short false = omega arith

header_form : (two : Bool) → stations_form (version_words two) ≡ Some (form_of two)
header_form true = refl
header_form false = refl

module _ (s : System) (p : Placement) (well : IsWellFormed s) (pieces : All (λ c. c.piece < 2 ^ 64) s.channels) (fits : Fits s p) where
  abbrev two : Bool
  two = are_all_two p.caps

  abbrev lines : List Words
  lines = channel_lines (length s.nodes) two s.channels p.relays p.caps

  abbrev rows : List Line
  rows = numbered_lines (1 + 1) lines

  abbrev bytes : List ℕ
  bytes = lines_text (version_words two ∷ lines)

  all_left : IsLeft s well pieces two 0 s.channels p.relays p.caps
  all_left = record {
    channels = refl;
    counts = fits.counts;
    few = recursion_from_All (λ k. k ≤ 64) p.relays fits.rules.few;
    long = fits.rules.caps;
    range = recursion_from_All IsCapacity p.caps fits.rules.range;
    twos = all_two p.caps;
  }

  short : length bytes ≤ 16777216
  short =
      let all = all_short s well pieces two 0 s.channels p.relays p.caps all_left in
      let head = header_short two in
      let few = well.few in
      let long = fits.rules.caps in
      let most = fits.rules.most in
      omega (arith, all, head, few, long, most, length-append (line_text (version_words two)) (lines_text lines))

  spelled : AllByRecursion (AreSpelled 1024) (version_words two ∷ lines)
  spelled = (header_spelled two, all_spelled s well pieces two 0 s.channels p.relays p.caps all_left)

  stands_for : placement_of (links_of s) (form_of two) rows ≡ p
  unfolding placement_of
  stands_for =
      ap (λ (xs : List ℕ). let q : Placement = record { relays = xs; caps = flat_map (caps_on (links_of s) (form_of two) rows) (from_each (λ c. c) 0 (length s.channels)) } in q) (relays_back s well pieces two rows 0 (1 + 1) s.channels p.relays p.caps all_left (λ x h. refl))
      ∙ ap (λ (xs : List ℕ). let q : Placement = record { relays = p.relays; caps = xs } in q) (caps_back s well pieces two rows 0 (1 + 1) s.channels p.relays p.caps all_left (λ x h. refl))

  rows_back : rows_reading (links_of s) (form_of two) rows ≡ Ok p
  rows_back =
      ap (λ (o : Option PlaceFault). unless o (whole (placement_of (links_of s) (form_of two) rows))) (no_fault s well pieces two 0 (1 + 1) s.channels p.relays p.caps [] all_left (λ x h. tt))
      ∙ ap whole stands_for
      ∙ cond-false (nat_lt 65536 (station_count p.relays)) (Err (TotalLimit (station_count p.relays))) (Ok p) (le-ltb 65536 (station_count p.relays) fits.rules.most)

  text_back : reading (links_of s) Stations bytes ≡ Ok p
  unfolding reading
  text_back =
      ap (text_reading (links_of s) Stations (logical_lines bytes)) (clean_lines bytes short (text_clean 1024 (version_words two ∷ lines) spelled))
      ∙ ap (λ (ls : List Line). lines_reading (links_of s) Stations ls) (text_law 1024 (version_words two ∷ lines) spelled)
      ∙ ap (form_reading (links_of s) 1 rows) (header_form two)
      ∙ rows_back

pub printed_stations_are_read_back : PrintedStationsAreReadBack
unfolding stations_text
printed_stations_are_read_back s p well pieces fits = text_back s p well pieces fits
