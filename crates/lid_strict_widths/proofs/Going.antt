-- What a loop over a group goes through, and groups that follow one another.
use Rattle.std.proofs.Common.{◌≡◌, ◌⊎◌, ℕ, zero, suc, ◌+◌, ◌-◌, ◌*◌, ◌/◌, ◌%◌, ◌^◌, ◌<◌, ◌≤◌, Bool, true, false, List, [], ◌∷◌, ◌++◌, length, map, take, drop, set, get_or, Some, None, slice_get, option_map, inl, inr, refl, sym, ◌∙◌, ap, subst, arith}
use Rattle.std.specs.Int.{from_bool}
use Rattle.std.specs.List.{AllByRecursion, flat_map}
use Rattle.std.proofs.lemmas.List.{take_all, length-map, length-take, length-drop, length-append, take-append-le, take-append-drop}
use Rattle.std.proofs.lemmas.Option.{slice_get_cases, get_or_from_slice_get, slice_get-map}
use Rattle.lid_base.proofs.Alls.{all_take, all_drop}
use Rattle.lid_base.proofs.Lists.{all_at}
use Rattle.lid_base.proofs.Places.{item_at, item_read, get_map}
use Rattle.lid_cover.specs.declared.Cover.{Cover}
use Rattle.lid_cover.specs.declared.Cube.{Cube}
use Rattle.lid_cover.specs.Cover.{cover_value}
use Rattle.lid_cover.specs.Masks.{packed}
use Rattle.lid_design.specs.declared.FlatCover.{FlatCover}
use Rattle.lid_strict_engine.specs.declared.program.Program.{Program}
use Rattle.lid_strict_engine.specs.declared.program.ProgramStep.{ProgramStep}
use Rattle.lid_strict_engine.specs.Truth.{is_set, IsTruthTable}
use Rattle.lid_strict_engine.specs.Programs.{shown_step, step_cover, IsStep}
use Rattle.lid_strict_engine.specs.Rows.{bit_at, AreRightAt, known_after}
use Rattle.lid_strict_engine.proofs.Settling.{settled_next}
use Rattle.lid_strict_engine.proofs.Tabling.{packed_below, packed_append, unpacked_packed}
use Rattle.lid_strict_tables.specs.Wide.{IsTabled, IsTableOf, IsWideTable}
use Rattle.lid_strict_widths.specs.declared.group.Group.{Group}
use Rattle.lid_strict_widths.specs.declared.group.ByWidth.{ByWidth}
use Rattle.lid_strict_widths.specs.Steps.{no_step, step_out, own_reads, reads_before}
use Rattle.lid_strict_widths.specs.Groups.{IsGroup, Tile, run_steps, IsByWidth, RightUpTo}
use Rattle.lid_strict_widths.proofs.Standing.{picked_all, steps_among, order_within}

pub from_bool_le : (b : Bool) → from_bool b ≤ 1
from_bool_le true = omega arith
from_bool_le false = omega arith

pub tile_push : (steps : List ProgramStep) (from to : ℕ) (groups : List Group) (g : Group) → Tile steps from groups to → g.start ≡ to → IsGroup steps g → Tile steps from (groups ++ g ∷ []) g.end
tile_push steps from to [] g same start is = (start ∙ sym same, is, refl)
tile_push steps from to (h ∷ groups) g tile start is = (tile.0, tile.1, tile_push steps h.end to groups g tile.2 start is)

-- what a table says of the packed bits of all inputs
pub table_exact : (table : ℕ) (cover : Cover) (bits : List Bool) → IsTruthTable table cover → length bits ≡ cover.inputs → cover.inputs ≤ 6 → is_set table (packed bits) ≡ cover_value cover bits
table_exact table cover bits is long few =
    let small : packed bits < 64 = packed_below bits 6 (omega arith) in
    is (packed bits) small
    ∙ ap (cover_value cover) (unpacked_packed cover.inputs bits (omega arith) ∙ take_all cover.inputs bits (omega arith))

-- what a table of words says of the packed bits of all inputs
pub wide_exact : (words : List ℕ) (first : ℕ) (cover : Cover) (bits : List Bool) → IsWideTable words first cover → length bits ≡ cover.inputs → 6 ≤ cover.inputs
    → is_set (get_or words (first + packed (drop 6 bits)) 0) (packed (take 6 bits)) ≡ cover_value cover bits
wide_exact words first cover bits is long many =
    let low = take 6 bits in
    let high = drop 6 bits in
    let six : length low ≡ 6 = length-take 6 bits ∙ (omega arith) in
    let small : packed low < 64 = packed_below low 6 (omega arith) in
    let below : packed bits < 2 ^ cover.inputs = packed_below bits cover.inputs (omega arith) in
    let parts : packed bits ≡ packed low + 64 * packed high =
    ap packed (sym (take-append-drop 6 bits)) ∙ packed_append low high ∙ ap (λ (n : ℕ). packed low + 2 ^ n * packed high) six in
    let place : packed bits / 64 ≡ packed high = omega arith in
    let bit : packed bits % 64 ≡ packed low = omega arith in
    ap (λ (n : ℕ). is_set (get_or words (first + n) 0) (packed low)) (sym place)
    ∙ ap (λ (n : ℕ). is_set (get_or words (first + packed bits / 64) 0) n) (sym bit)
    ∙ is.bits (packed bits) below
    ∙ ap (cover_value cover) (unpacked_packed cover.inputs bits (omega arith) ∙ take_all cover.inputs bits (omega arith))

pub after_six : (nets : List ℕ) → take (length nets - 6) (drop 6 nets) ≡ drop 6 nets
after_six nets = (let long = length-drop 6 nets in take_all (length nets - 6) (drop 6 nets) (omega arith))

-- the word that the nets after the sixth tell is one of the table
pub word_within : (words : List ℕ) (first high w : ℕ) (bits : List Bool) (nets : List ℕ) → length nets ≡ 6 + w → first + 2 ^ w ≤ length words → high ≡ packed (map (bit_at bits) (drop 6 nets))
    → first + high < length words
word_within words first high w bits nets long room is =
    let count = length-map (drop 6 nets) (bit_at bits) ∙ length-drop 6 nets in
    let small = packed_below (map (bit_at bits) (drop 6 nets)) w (omega arith) in
    omega arith

pub words_of_width : (n w : ℕ) → n ≡ 6 + w → 2 ^ (n - 6) ≡ 2 ^ w
words_of_width n w is = (let e : n - 6 ≡ w = omega arith in ap (λ (m : ℕ). 2 ^ m) e)

-- the bits of as many nets as a small cover has inputs
pub small_bits : (bits : List Bool) (nets : List ℕ) → length nets ≤ 6 → packed (map (bit_at bits) nets) < 64
small_bits bits nets few = (let long = length-map nets (bit_at bits) in packed_below (map (bit_at bits) nets) 6 (omega arith))

-- the reads of a step stand after those of the steps before it
drop_past : (xs ys : List ℕ) (n k : ℕ) → length xs ≡ n → drop (n + k) (xs ++ ys) ≡ drop k ys
drop_past [] ys n k long = ap (λ (m : ℕ). drop m ys) (let e : n + k ≡ k = omega arith in e)
drop_past (x ∷ xs) ys zero k long = absurd (omega arith)
drop_past (x ∷ xs) ys (suc n) k long =
    let e : suc n + k ≡ suc (n + k) = omega arith in
    ap (λ (m : ℕ). drop m (x ∷ xs ++ ys)) e ∙ drop_past xs ys n k (omega arith)

abbrev IsWhole : List ℕ → ProgramStep → Type 0
IsWhole reads s = length (own_reads reads s) ≡ s.width

all_whole : (nets : ℕ) (reads : List ℕ) (p : Program) (steps : List ProgramStep) → AllByRecursion (IsStep nets reads p.cubes.items) steps → AllByRecursion (IsWhole reads) steps
all_whole nets reads p [] all = tt
all_whole nets reads p (s ∷ steps) all =
    let taken = length-take s.width (drop s.first reads) in
    let dropped = length-drop s.first reads in
    let read = all.0.read in
    (omega arith, all_whole nets reads p steps all.1)

reads_at : (reads : List ℕ) (steps : List ProgramStep) (i : ℕ) (s : ProgramStep) → AllByRecursion (IsWhole reads) steps → slice_get steps i ≡ Some s
    → (reads_before steps i + s.width ≤ length (flat_map (own_reads reads) steps)) × (take s.width (drop (reads_before steps i) (flat_map (own_reads reads) steps)) ≡ own_reads reads s)
reads_at reads [] i s all here = absurd (let e : None ≡ Some s = here in cc)
reads_at reads (t ∷ steps) zero s all here =
    let same : t ≡ s = (let e : Some t ≡ Some s = here in cc) in
    let whole : length (own_reads reads s) ≡ s.width = subst (IsWhole reads) same all.0 in
    let long = length-append (own_reads reads t) (flat_map (own_reads reads) steps) in
    let wide : t.width ≡ s.width = ap (λ (u : ProgramStep). u.width) same in
    let own = all.0 in (
      omega arith,
      ap (λ (u : ProgramStep). take s.width (own_reads reads u ++ flat_map (own_reads reads) steps)) same
          ∙ (take-append-le s.width (own_reads reads s) (flat_map (own_reads reads) steps) (omega arith) ∙ take_all s.width (own_reads reads s) (omega arith)),
    )
reads_at reads (t ∷ steps) (suc i) s all here =
    let next = reads_at reads steps i s all.1 here in
    let long = length-append (own_reads reads t) (flat_map (own_reads reads) steps) in
    let room = next.0 in
    let own = all.0 in (
      omega arith,
      ap (take s.width) (drop_past (own_reads reads t) (flat_map (own_reads reads) steps) t.width (reads_before steps i) own) ∙ next.1,
    )

pub reads_next : (steps : List ProgramStep) (i : ℕ) (s : ProgramStep) → slice_get steps i ≡ Some s → reads_before steps (i + 1) ≡ reads_before steps i + s.width
reads_next [] i s here = absurd (let e : None ≡ Some s = here in cc)
reads_next (t ∷ steps) zero s here = (let wide : t.width ≡ s.width = (let e : Some t ≡ Some s = here in let same : t ≡ s = cc in ap (λ (u : ProgramStep). u.width) same) in let none = reads_none steps in omega arith)
  where
    reads_none : (steps : List ProgramStep) → reads_before steps 0 ≡ 0
    reads_none [] = refl
    reads_none (s ∷ steps) = refl
reads_next (t ∷ steps) (suc i) s here =
    let next = reads_next steps i s here in
    let e : suc i + 1 ≡ suc (i + 1) = omega arith in
    ap (reads_before (t ∷ steps)) e ∙ (let n = next in omega arith)

-- the steps as they are run stand, as those of the program do
pub run_all : (x : ByWidth) → IsByWidth x → AllByRecursion (IsStep x.program.nets x.program.reads.items x.program.cubes.items) (run_steps x)
run_all x is =
    let within = order_within x.program x.order.items is.order in
    picked_all (IsStep x.program.nets x.program.reads.items x.program.cubes.items) x.program.steps.items (run_steps x) is.ready.steps (steps_among x.program.steps.items x.order.items within)

-- the step at a place as they are run, and what the loop has at hand of it
pub record Hand (x : ByWidth) (i : ℕ) : Type 0 where
  pub s : ProgramStep
  pub here : slice_get (run_steps x) i ≡ Some s
  pub is_out : slice_get x.outs.items i ≡ Some s.out
  pub table : ℕ
  pub is_table : slice_get x.tables.items i ≡ Some table
  pub tells : IsTableOf x.words.items x.program.cubes.items s table
  pub step : IsStep x.program.nets x.program.reads.items x.program.cubes.items s
  pub room : reads_before (run_steps x) i + s.width ≤ length x.reads.items
  pub reads : take s.width (drop (reads_before (run_steps x) i) x.reads.items) ≡ own_reads x.program.reads.items s
  pub next : reads_before (run_steps x) (i + 1) ≡ reads_before (run_steps x) i + s.width
  pub whole : length (own_reads x.program.reads.items s) ≡ s.width
  pub below : AllByRecursion (λ k. k < x.program.nets) (own_reads x.program.reads.items s)

pub hand_at : (x : ByWidth) (i : ℕ) → IsByWidth x → i < length (run_steps x) → Hand x i
hand_at x i is inside = by (slice_get_cases (run_steps x) i).1
  where
    by : ((s : ProgramStep) × (i < length (run_steps x)) × (slice_get (run_steps x) i ≡ Some s) × (get_or (run_steps x) i s ≡ s)) ⊎ ((length (run_steps x) ≤ i) × (slice_get (run_steps x) i ≡ None)) → Hand x i
    by (inl found) =
        let here : slice_get (run_steps x) i ≡ Some found.0 = found.2 in
        let all = run_all x is in
        let whole = all_whole x.program.nets x.program.reads.items x.program (run_steps x) all in
        let at = reads_at x.program.reads.items (run_steps x) i found.0 whole here in
        let long = is.tables.long in
        let table = item_at x.tables.items i (omega arith) in
        record {
          s = found.0;
          here = here;
          is_out = ap (λ (xs : List ℕ). slice_get xs i) is.outs ∙ (slice_get-map step_out (run_steps x) i ∙ ap (option_map step_out) here);
          table = table.0;
          is_table = table.1;
          tells = subst (IsTableOf x.words.items x.program.cubes.items found.0) (get_or_from_slice_get x.tables.items i table.0 0 table.1) (is.tables.each i found.0 here);
          step = all_at (IsStep x.program.nets x.program.reads.items x.program.cubes.items) (run_steps x) i found.0 all here;
          room = subst (λ (xs : List ℕ). reads_before (run_steps x) i + found.0.width ≤ length xs) (sym is.reads) at.0;
          reads = ap (λ (xs : List ℕ). take found.0.width (drop (reads_before (run_steps x) i) xs)) is.reads ∙ at.1;
          whole = all_at (IsWhole x.program.reads.items) (run_steps x) i found.0 whole here;
          next = reads_next (run_steps x) i found.0 here;
          below = all_take (λ k. k < x.program.nets) found.0.width (drop found.0.first x.program.reads.items) (all_drop (λ k. k < x.program.nets) found.0.first x.program.reads.items is.ready.reads);
        }
    by (inr past) = absurd (omega (arith, past.0, inside))

-- the step that a loop finds by its place
pub place_within : (x : ByWidth) (i k : ℕ) → IsByWidth x → i < length (run_steps x) → k ≡ get_or x.order.items i k → k < length x.program.steps.items
place_within x i k is inside same =
    let long : length (run_steps x) ≡ length x.order.items = length-map x.order.items (λ k. get_or x.program.steps.items k no_step) in
    let here : slice_get x.order.items i ≡ Some k = item_read x.order.items i k (omega arith) same in
    all_at (λ k. k < length x.program.steps.items) x.order.items i k (order_within x.program x.order.items is.order) here

pub step_there : (x : ByWidth) (i k : ℕ) (s : ProgramStep) → IsByWidth x → i < length (run_steps x) → k ≡ get_or x.order.items i k → s ≡ get_or x.program.steps.items k s → slice_get (run_steps x) i ≡ Some s
step_there x i k s is inside same read =
    let long : length (run_steps x) ≡ length x.order.items = length-map x.order.items (λ k. get_or x.program.steps.items k no_step) in
    let here : slice_get x.order.items i ≡ Some k = item_read x.order.items i k (omega arith) same in
    let there : slice_get x.program.steps.items k ≡ Some s = item_read x.program.steps.items k s (place_within x i k is inside same) read in
    get_map (λ k. get_or x.program.steps.items k no_step) x.order.items i k here ∙ ap Some (get_or_from_slice_get x.program.steps.items k s no_step there)

-- the nets that a loop reads for a step
pub nets_at : (x : ByWidth) (i at width : ℕ) (seen : List ℕ) (h : Hand x i) → at ≡ reads_before (run_steps x) i → width ≡ h.s.width → seen ≡ x.reads.items
    → take (at + width - at) (drop at seen) ≡ own_reads x.program.reads.items h.s
nets_at x i at width seen h place wide same =
    let exact : at + width - at ≡ h.s.width = omega arith in
    ap (λ (n : ℕ). take n (drop at seen)) exact
    ∙ ap (λ (n : ℕ). take h.s.width (drop n seen)) place
    ∙ ap (λ (xs : List ℕ). take h.s.width (drop (reads_before (run_steps x) i) xs)) same
    ∙ h.reads

-- what a loop tells of a step by its table
pub value_at : (x : ByWidth) (i : ℕ) (Is : Cover → Type 0) (bits : List Bool) (nets : List ℕ) (v : Bool) (h : Hand x i) → Is (step_cover x.program.cubes.items h.s) → nets ≡ own_reads x.program.reads.items h.s
    → ((cover : Cover) → Is cover → cover.inputs ≡ length nets → v ≡ cover_value cover (map (bit_at bits) nets))
    → v ≡ cover_value (step_cover x.program.cubes.items h.s) (map (bit_at bits) (own_reads x.program.reads.items h.s))
value_at x i Is bits nets v h is reads says =
    let cover = step_cover x.program.cubes.items h.s in
    let long : h.s.width ≡ length nets = sym (ap (λ (xs : List ℕ). length xs) reads ∙ h.whole) in
    says cover is long
    ∙ ap (λ (xs : List ℕ). cover_value (step_cover x.program.cubes.items h.s) (map (bit_at bits) xs)) reads

pub is_small : (x : ByWidth) (i table : ℕ) (h : Hand x i) → h.s.width ≤ 6 → table ≡ h.table → IsTruthTable table (step_cover x.program.cubes.items h.s)
is_small x i table h few same = subst (λ (t : ℕ). IsTruthTable t (step_cover x.program.cubes.items h.s)) (sym (same ∙ h.tells.small few)) (h.step.table few)

pub is_wide : (x : ByWidth) (i table : ℕ) (h : Hand x i) → IsTabled h.s → table ≡ h.table → IsWideTable x.words.items table (step_cover x.program.cubes.items h.s)
is_wide x i table h tabled same = subst (λ (t : ℕ). IsWideTable x.words.items t (step_cover x.program.cubes.items h.s)) (sym same) (h.tells.wide tabled)

-- a number that is told of a place of an array
pub told_of : (xs : List ℕ) (i x d : ℕ) → slice_get xs i ≡ Some x → d ≡ get_or xs i d → d ≡ x
told_of xs i x d here is = is ∙ get_or_from_slice_get xs i x d here

-- one more cover is run
pub right_next : (steps : List ProgramStep) (reads : List ℕ) (cubes : List Cube) (s : ProgramStep) (i from out : ℕ) (old bits : List Bool) (v : Bool)
    → slice_get steps i ≡ Some s → s.out < length bits → out ≡ s.out → v ≡ cover_value (step_cover cubes s) (map (bit_at bits) (own_reads reads s))
    → RightUpTo (map (shown_step reads cubes) steps) from old i bits → RightUpTo (map (shown_step reads cubes) steps) from old (i + 1) (set bits out v)
right_next steps reads cubes s i from out old bits v here room is value right f known row earlier before =
    let covers = map (shown_step reads cubes) steps in
    subst (λ (n : ℕ). AreRightAt f (known_after known (take (i + 1) covers)) (set bits n v)) (sym is)
    (settled_next covers i (shown_step reads cubes s) bits v (get_map (shown_step reads cubes) steps i s here) room value f known row earlier (right f known row earlier before))

pub right_joined : (covers : List FlatCover) (from at to : ℕ) (old mid new : List Bool) → RightUpTo covers from old at mid → RightUpTo covers at mid to new → RightUpTo covers from old to new
right_joined covers from at to old mid new one other f known row earlier before = other f known row earlier (one f known row earlier before)

-- what a read past the end would give
abbrev pub no_group : Group
no_group = record { start = 0; end = 0; width = 0; tabled = false }

-- the group at a place is the next of those that are left
pub record TileNext (steps : List ProgramStep) (at to : ℕ) (g : Group) (groups : List Group) : Type 0 where
  pub start : g.start ≡ at
  pub is : IsGroup steps g
  pub left : Tile steps g.end groups to

tile_next : (steps : List ProgramStep) (at to : ℕ) (groups : List Group) (i : ℕ) → i < length groups → Tile steps at (drop i groups) to → TileNext steps at to (get_or groups i no_group) (drop (suc i) groups)
tile_next steps at to [] i h tile = absurd (omega arith)
tile_next steps at to (g ∷ groups) zero h tile = record { start = tile.0; is = tile.1; left = tile.2 }
tile_next steps at to (g ∷ groups) (suc i) h tile = tile_next steps at to groups i (omega arith) tile

pub tile_next_in : (steps : List ProgramStep) (at to : ℕ) (seen groups : List Group) (i : ℕ) → seen ≡ groups → i < length seen → Tile steps at (drop i groups) to → TileNext steps at to (get_or seen i no_group) (drop (i + 1) groups)
tile_next_in steps at to seen groups i same h tile =
    let next : suc i ≡ i + 1 = omega arith in
    subst (λ (n : ℕ). TileNext steps at to (get_or seen i no_group) (drop n groups)) next
    (subst (λ (gs : List Group). TileNext steps at to (get_or gs i no_group) (drop (suc i) groups)) (sym same) (tile_next steps at to groups i (subst (λ (gs : List Group). i < length gs) same h) tile))

pub tile_end : (steps : List ProgramStep) (at to : ℕ) (groups : List Group) (i : ℕ) → length groups ≤ i → Tile steps at (drop i groups) to → at ≡ to
tile_end steps at to [] i h tile = none i tile
  where
    none : (i : ℕ) → Tile steps at (drop i []) to → at ≡ to
    none zero tile = tile
    none (suc i) tile = tile
tile_end steps at to (g ∷ groups) zero h tile = absurd (omega arith)
tile_end steps at to (g ∷ groups) (suc i) h tile = tile_end steps at to groups i (omega arith) tile
