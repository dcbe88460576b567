-- What a dump of the form shows can be written again.
use Rattle.std.proofs.Common.{◌≡◌, ℕ, zero, suc, ◌+◌, ◌-◌, ◌*◌, ◌/◌, ◌%◌, ◌^◌, ◌<◌, ◌≤◌, ◌==◌, ◌&&◌, ◌||◌, Bool, true, false, cond, List, [], ◌∷◌, length, set, replicate, refl, sym, ap, ◌∙◌, subst, length-append, arith}
use Rattle.std.specs.Prelude.{max, Option, Some, None, Result, Ok, Err, nat_lt, nat_le, codes, bytes_eq}
use Rattle.std.specs.List.{AllByRecursion, list_all}
use Rattle.std.proofs.Math.Nat.{pow-le-pow_right, mul-le-mul_right}
use Rattle.std.proofs.lemmas.Bool.{and_parts, ltb-true, leb-true}
use Rattle.std.proofs.lemmas.List.{length-set}
use Rattle.lid_base.specs.declared.runs.Shown.{Shown}
use Rattle.lid_base.specs.Numbers.{number_below}
use Rattle.lid_base.proofs.Lists.{all_append}
use Rattle.lid_vcd_form.specs.declared.form.Section.{Section}
use Rattle.lid_vcd_form.specs.declared.form.Section.TheVariants.{Timescale, Scope, Variable, Upscope, Definitions, Body}
use Rattle.lid_vcd_form.specs.declared.form.Next.{Next}
use Rattle.lid_vcd_form.specs.declared.form.Next.TheVariants.{Before, Note, Inside, Time, Set, Bits}
use Rattle.lid_vcd_form.specs.declared.form.Place.{Place}
use Rattle.lid_vcd_form.specs.Ids.{variable_of, token_in_bits, is_bit, are_bits, bits_on}
use Rattle.lid_vcd_form.specs.Form.{new_place, start, step, read_words, going_on, is_time, is_end, is_note, only, begins_variable, begins, before_section, in_note, in_timescale, in_scope, in_variable, in_section, later, bit_set, token_read, token_set, change, in_body}
use Rattle.lid_vcd_form.specs.Shows.{cell_of, shown_stations, cycles_of, time_of, values_after, cycles_until, cells_with, cells_on}
use Rattle.lid_texts_runs.specs.declared.trace.Trace.{Trace}
use Rattle.lid_vcd_form.specs.Writable.{IsCell, IsWritable}
use Rattle.lid_vcd_form.proofs.Digits.{bit_small}
use native.Mathlib.Nat.{mul-suc}

abbrev IsSmall : Next → Type 0
IsSmall (Set at n value) = value < 2 ^ 31
IsSmall (Bits at value) = value < 2 ^ 31
IsSmall _ = Unit {0}

-- a time is not before the one before; all else leaves it as it is
abbrev Follows : ℕ → Next → Type 0
Follows last (Time at) = last ≤ at
Follows last next = time_of next ≡ last

pub record IsSound (last : ℕ) (p : Place) : Type 0 where
  pub few : p.variables ≤ 196608
  pub small : IsSmall p.next
  pub follows : Follows last p.next

-- what a choice gives
module _ (P : Place → Type 0) where
  pub some_gives : (p q : Place) → P p → Some p ≡ Some q → P q
  some_gives p q h e = subst P (let f : Some p ≡ Some q = e in cc) h

  pub only_gives : (b : Bool) (n : ℕ) (next : Next) → (b ≡ true → P (new_place n next)) → (q : Place) → only b n next ≡ Some q → P q
  only_gives true n next h q e = some_gives (new_place n next) q (h refl) e
  only_gives false n next h q e = absurd (let f : None ≡ Some q = e in cc)

  pub cond_gives : (b : Bool) (x y : Option Place) → (b ≡ true → (q : Place) → x ≡ Some q → P q) → ((q : Place) → y ≡ Some q → P q) → (q : Place) → cond b x y ≡ Some q → P q
  cond_gives true x y f g q e = f refl q e
  cond_gives false x y f g q e = g q e

pub none_gives : {P : Type 0} (q : Place) → None ≡ Some q → P
none_gives q e = absurd (let f : None ≡ Some q = e in cc)

-- before the body
headed : (n : ℕ) (section : Section) → n ≤ 196608 → IsSound 0 (new_place n (Before section))
headed n section few = record { few = few; small = tt; follows = refl }

inside : (n i : ℕ) (section : Section) → n ≤ 196608 → IsSound 0 (new_place n (Inside section i))
inside n i section few = record { few = few; small = tt; follows = refl }

begins_variable_sound : (n : ℕ) (word : List ℕ) → n ≤ 196608 → (q : Place) → begins_variable n word ≡ Some q → IsSound 0 q
unfolding begins_variable
begins_variable_sound n word few =
    cond_gives (IsSound 0) (bytes_eq word (codes "$var")) (only (nat_lt n 196608) (n + 1) (Inside Variable 1)) (only (bytes_eq word (codes "$upscope") && (n % 3 == 0)) n (Inside Upscope 1))
    (λ _. only_gives (IsSound 0) (nat_lt n 196608) (n + 1) (Inside Variable 1) (λ h. inside (n + 1) 1 Variable (let lt = ltb-true n 196608 h in omega arith)))
    (only_gives (IsSound 0) (bytes_eq word (codes "$upscope") && (n % 3 == 0)) n (Inside Upscope 1) (λ _. inside n 1 Upscope few))

begins_sound : (n : ℕ) (section : Section) (word : List ℕ) → n ≤ 196608 → (q : Place) → begins n section word ≡ Some q → IsSound 0 q
unfolding begins
begins_sound n Timescale word few = only_gives (IsSound 0) (bytes_eq word (codes "$timescale")) n (Inside Timescale 1) (λ _. inside n 1 Timescale few)
begins_sound n Scope word few = only_gives (IsSound 0) (bytes_eq word (codes "$scope")) n (Inside Scope 1) (λ _. inside n 1 Scope few)
begins_sound n Variable word few = begins_variable_sound n word few
begins_sound n Upscope word few = only_gives (IsSound 0) (bytes_eq word (codes "$upscope")) n (Inside Upscope 1) (λ _. inside n 1 Upscope few)
begins_sound n Definitions word few = only_gives (IsSound 0) (bytes_eq word (codes "$enddefinitions")) n (Inside Definitions 1) (λ _. inside n 1 Definitions few)
begins_sound n Body word few = only_gives (IsSound 0) (bytes_eq word (codes "#0")) n (Time 0) (λ _. record { few = few; small = tt; follows = omega arith })

before_sound : (n : ℕ) (section : Section) (word : List ℕ) → n ≤ 196608 → (q : Place) → before_section n section word ≡ Some q → IsSound 0 q
before_sound n section word few =
    cond_gives (IsSound 0) (is_note word) (Some (new_place n (Note section))) (begins n section word)
    (λ _ q e. some_gives (IsSound 0) (new_place n (Note section)) q (record { few = few; small = tt; follows = refl }) e) (begins_sound n section word few)

note_sound : (n : ℕ) (section : Section) (word : List ℕ) → n ≤ 196608 → (q : Place) → in_note n section word ≡ Some q → IsSound 0 q
note_sound n section word few q e = some_gives (IsSound 0) (new_place n (cond (is_end word) (Before section) (Note section))) q (by (is_end word)) e
  where
    by : (b : Bool) → IsSound 0 (new_place n (cond b (Before section) (Note section)))
    by true = record { few = few; small = tt; follows = refl }
    by false = record { few = few; small = tt; follows = refl }

timescale_sound : (n : ℕ) (word : List ℕ) → n ≤ 196608 → (q : Place) → in_timescale n word ≡ Some q → IsSound 0 q
timescale_sound n word few q e = some_gives (IsSound 0) (new_place n (cond (is_end word) (Before Scope) (Inside Timescale 1))) q (by (is_end word)) e
  where
    by : (b : Bool) → IsSound 0 (new_place n (cond b (Before Scope) (Inside Timescale 1)))
    by true = record { few = few; small = tt; follows = refl }
    by false = record { few = few; small = tt; follows = refl }

scope_sound : (n i : ℕ) (word : List ℕ) → n ≤ 196608 → (q : Place) → in_scope n i word ≡ Some q → IsSound 0 q
unfolding in_scope
scope_sound n i word few =
    cond_gives (IsSound 0) (i == 1) _ _ (λ _. only_gives (IsSound 0) (bytes_eq word (codes "module")) n (Inside Scope 2) (λ _. inside n 2 Scope few))
    (cond_gives (IsSound 0) (i == 2) _ _ (λ _. only_gives (IsSound 0) (bytes_eq word (codes "lid")) n (Inside Scope 3) (λ _. inside n 3 Scope few))
    (only_gives (IsSound 0) (is_end word) n (Before Variable) (λ _. headed n Variable few)))

variable_sound : (n i : ℕ) (word : List ℕ) → n ≤ 196608 → (q : Place) → in_variable n i word ≡ Some q → IsSound 0 q
unfolding in_variable
variable_sound n i word few =
    cond_gives (IsSound 0) (i == 1) _ _ (λ _. only_gives (IsSound 0) _ n (Inside Variable 2) (λ _. inside n 2 Variable few))
    (cond_gives (IsSound 0) (i == 2) _ _ (λ _. only_gives (IsSound 0) _ n (Inside Variable 3) (λ _. inside n 3 Variable few))
    (cond_gives (IsSound 0) (i == 3) _ _ (λ _. only_gives (IsSound 0) _ n (Inside Variable 4) (λ _. inside n 4 Variable few))
    (cond_gives (IsSound 0) (i == 4) _ _ (λ _. only_gives (IsSound 0) _ n (Inside Variable 5) (λ _. inside n 5 Variable few))
    (only_gives (IsSound 0) (is_end word) n (Before Variable) (λ _. headed n Variable few)))))

section_sound : (n : ℕ) (section : Section) (i : ℕ) (word : List ℕ) → n ≤ 196608 → (q : Place) → in_section n section i word ≡ Some q → IsSound 0 q
section_sound n Timescale i word few = timescale_sound n word few
section_sound n Scope i word few = scope_sound n i word few
section_sound n Variable i word few = variable_sound n i word few
section_sound n Upscope i word few = only_gives (IsSound 0) (is_end word) n (Before Definitions) (λ _. headed n Definitions few)
section_sound n Definitions i word few = only_gives (IsSound 0) (is_end word) n (Before Body) (λ _. headed n Body few)
section_sound n Body i word few = λ q e. none_gives q e

-- the number of at most 31 bits
bits_step : (n d v p : ℕ) → d ≤ 1 → v + 1 ≤ (2 * n + d + 1) * p → v + 1 ≤ (n + 1) * (2 * p)
bits_step n d v p small below =
    let more : (2 * n + d + 1) * p ≤ (2 * n + 2) * p = mul-le-mul_right p (omega arith) in
    omega arith

bits_most : (n : ℕ) (bits : List ℕ) → list_all is_bit bits ≡ true → bits_on n bits + 1 ≤ (n + 1) * 2 ^ length bits
bits_most n [] h = omega arith
bits_most n (b ∷ bits) h =
    let parts = and_parts (is_bit b) (list_all is_bit bits) h in
    let small : b - 48 ≤ 1 = bit_small b parts.0 in
    let front = bits_most (2 * n + (b - 48)) bits parts.1 in
    let double : 2 ^ suc (length bits) ≡ 2 * 2 ^ length bits = grind arith in
    subst (λ (p : ℕ). bits_on n (b ∷ bits) + 1 ≤ (n + 1) * p) (sym double) (bits_step n (b - 48) (bits_on n (b ∷ bits)) (2 ^ length bits) small front)

token_small : (word : List ℕ) (n : ℕ) → token_in_bits word ≡ Some n → n < 2 ^ 31
unfolding token_in_bits
token_small word n e = by (are_bits word) refl e
  where
    by : (b : Bool) → are_bits word ≡ b → cond b (Some (bits_on 0 word)) None ≡ Some n → n < 2 ^ 31
    by true h f =
        let parts = and_parts (nat_lt 0 (length word)) (nat_le (length word) 31 && list_all is_bit word) h in
        let more = and_parts (nat_le (length word) 31) (list_all is_bit word) parts.1 in
        let few : length word ≤ 31 = leb-true (length word) 31 more.0 in
        let most = bits_most 0 word more.1 in
        let power : 2 ^ length word ≤ 2 ^ 31 = pow-le-pow_right {n = 2} (omega arith) {i = length word} {j = 31} few in
        let same : bits_on 0 word ≡ n = (let g : Some (bits_on 0 word) ≡ Some n = f in cc) in
        omega arith
    by false h f = absurd (let g : None ≡ Some n = f in cc)

-- in the body
set_sound : (n at m value : ℕ) → n ≤ 196608 → value < 2 ^ 31 → IsSound at (new_place n (Set at m value))
set_sound n at m value few small = record { few = few; small = small; follows = refl }

later_sound : (n at : ℕ) (o : Option ℕ) → n ≤ 196608 → (q : Place) → later n at o ≡ Some q → IsSound at q
later_sound n at None few = λ q e. none_gives q e
later_sound n at (Some time) few = only_gives (IsSound at) (nat_lt at time) n (Time time) (λ h. record { few = few; small = tt; follows = (let lt = ltb-true at time h in omega arith) })

bit_sound : (n at value : ℕ) (o : Option ℕ) → n ≤ 196608 → value < 2 ^ 31 → (q : Place) → bit_set n at value o ≡ Some q → IsSound at q
bit_sound n at value None few small = λ q e. none_gives q e
bit_sound n at value (Some m) few small = only_gives (IsSound at) _ n (Set at m value) (λ _. set_sound n at m value few small)

bits_sound : (n at : ℕ) (o : Option ℕ) → n ≤ 196608 → ((value : ℕ) → o ≡ Some value → value < 2 ^ 31) → (q : Place) → token_read n at o ≡ Some q → IsSound at q
bits_sound n at None few small = λ q e. none_gives q e
bits_sound n at (Some value) few small = only_gives (IsSound at) _ n (Bits at value) (λ _. record { few = few; small = small value refl; follows = refl })

token_sound : (n at value : ℕ) (o : Option ℕ) → n ≤ 196608 → value < 2 ^ 31 → (q : Place) → token_set n at value o ≡ Some q → IsSound at q
token_sound n at value None few small = λ q e. none_gives q e
token_sound n at value (Some m) few small = only_gives (IsSound at) _ n (Set at m value) (λ _. set_sound n at m value few small)

body_sound : (n at : ℕ) (word : List ℕ) → n ≤ 196608 → (q : Place) → in_body n at word ≡ Some q → IsSound at q
unfolding in_body
body_sound n at [] few = λ q e. none_gives q e
body_sound n at (mark ∷ rest) few =
    cond_gives (IsSound at) (mark == 35) _ _ (λ _. later_sound n at (number_below 4294967296 rest) few)
    (cond_gives (IsSound at) (nat_lt at 4294967295) (change n at mark rest) None
    (λ _. cond_gives (IsSound at) ((mark == 48) || (mark == 49)) _ _ (λ h. bit_sound n at (mark - 48) (variable_of n rest) few (let s = bit_small mark h in omega arith))
    (cond_gives (IsSound at) (mark == 98) _ None (λ _. bits_sound n at (token_in_bits rest) few (token_small rest)) (λ q e. none_gives q e)))
    (λ q e. none_gives q e))

pub step_sound : (last : ℕ) (p q : Place) (word : List ℕ) → IsSound last p → step p word ≡ Some q → IsSound (time_of p.next) q
unfolding step
step_sound last p q word so e = by p.next so.small e
  where
    by : (next : Next) → IsSmall next → step (new_place p.variables next) word ≡ Some q → IsSound (time_of next) q
    by (Before section) small f = before_sound p.variables section word so.few q f
    by (Note section) small f = note_sound p.variables section word so.few q f
    by (Inside section i) small f = section_sound p.variables section i word so.few q f
    by (Time at) small f = body_sound p.variables at word so.few q f
    by (Set at n value) small f = body_sound p.variables at word so.few q f
    by (Bits at value) small f = token_sound p.variables at value (variable_of p.variables word) so.few small q f

-- values of variables
abbrev AreSmall : List ℕ → Type 0
AreSmall values = AllByRecursion (λ v. v < 2 ^ 31) values

all_set : (values : List ℕ) (i v : ℕ) → AreSmall values → v < 2 ^ 31 → AreSmall (set values i v)
all_set [] i v all small = tt
all_set (x ∷ values) zero v all small = (small, all.1)
all_set (x ∷ values) (suc i) v all small = (all.0, all_set values i v all.1 small)

cell_is : (valid stop token : ℕ) → token < 2 ^ 31 → IsCell (cell_of valid stop token)
cell_is valid stop token small = by (valid == 1) (stop == 1)
  where
    by : (v s : Bool) → IsCell (record { valid = v; stop = s; token = cond v token 0 })
    by true s = record { small = small; void = λ e. absurd (let f : true ≡ false = e in cc) }
    by false s = record { small = omega arith; void = λ e. refl }

shown_cells : (values : List ℕ) → AreSmall values → AllByRecursion IsCell (shown_stations values)
shown_cells [] all = tt
shown_cells (a ∷ []) all = tt
shown_cells (a ∷ b ∷ []) all = tt
shown_cells (a ∷ b ∷ c ∷ values) all = (cell_is a b c all.1.1.0, shown_cells values all.1.1.1)

length_shown : (values : List ℕ) → length (shown_stations values) ≡ length values / 3
length_shown [] = refl
length_shown (a ∷ []) = refl
length_shown (a ∷ b ∷ []) = refl
length_shown (a ∷ b ∷ c ∷ values) = let e = length_shown values in omega arith

cycles_cells : (n : ℕ) (values : List ℕ) → AreSmall values → AllByRecursion IsCell (cycles_of n values)
cycles_cells zero values all = tt
cycles_cells (suc n) values all = all_append IsCell (shown_stations values) (cycles_of n values) (shown_cells values all) (cycles_cells n values all)

length_cycles : (n : ℕ) (values : List ℕ) → length (cycles_of n values) ≡ length values / 3 * n
length_cycles zero values = omega arith
length_cycles (suc n) values =
    let sum = length-append (shown_stations values) (cycles_of n values) in
    let one = length_shown values in
    let rest = length_cycles n values in
    let product = mul-suc (length values / 3) n in
    omega arith

-- the cells of some words up to the place at their end
pub record AreShown (stations first : ℕ) (q : Place) (shows : List Shown) : Type 0 where
  pub whole : length shows ≡ stations * (time_of q.next - first)
  pub cells : AllByRecursion IsCell shows
  pub few : q.variables ≤ 196608
  pub after : first ≤ time_of q.next

no_more : (stations at : ℕ) → stations * (at - at) ≡ 0
no_more stations at = let none : at - at ≡ 0 = omega arith in ap (λ (n : ℕ). stations * n) none ∙ omega arith

parts_of : (stations a b c : ℕ) → a ≤ b → b ≤ c → stations * (b - a) + stations * (c - b) ≡ stations * (c - a)
parts_of stations a b c ab bc =
    let sum : (b - a) + (c - b) ≡ c - a = omega arith in
    mul_add stations (b - a) (c - b) ∙ ap (λ (n : ℕ). stations * n) sum
  where
    mul_add : (s x y : ℕ) → s * x + s * y ≡ s * (x + y)
    mul_add s x y = grind (arith)

-- the cells that are known by one word
known : (last stations : ℕ) (values : List ℕ) (next : Next) → length values / 3 ≡ stations → AreSmall values → Follows last next → (length (cycles_until last values next) ≡ stations * (time_of next - last)) × AllByRecursion IsCell (cycles_until last values next)
known last stations values (Time at) e all follows = (length_cycles (at - last) values ∙ ap (λ (n : ℕ). n * (at - last)) e, cycles_cells (at - last) values all)
known last stations values (Set at n value) e all follows = (sym (no_more stations at) ∙ ap (λ (n : ℕ). stations * (at - n)) follows, tt)
known last stations values (Bits at value) e all follows = (sym (no_more stations at) ∙ ap (λ (n : ℕ). stations * (at - n)) follows, tt)
known last stations values (Before section) e all follows = (sym (no_more stations 0) ∙ ap (λ (n : ℕ). stations * (0 - n)) follows, tt)
known last stations values (Note section) e all follows = (sym (no_more stations 0) ∙ ap (λ (n : ℕ). stations * (0 - n)) follows, tt)
known last stations values (Inside section i) e all follows = (sym (no_more stations 0) ∙ ap (λ (n : ℕ). stations * (0 - n)) follows, tt)

after_small : (values : List ℕ) (next : Next) → AreSmall values → IsSmall next → AreSmall (values_after values next)
after_small values (Set at n value) all small = all_set values n value all small
after_small values (Time at) all small = all
after_small values (Bits at value) all small = all
after_small values (Before section) all small = all
after_small values (Note section) all small = all
after_small values (Inside section i) all small = all

after_long : (values : List ℕ) (next : Next) → length (values_after values next) ≡ length values
after_long values (Set at n value) = length-set values n value
after_long values (Time at) = refl
after_long values (Bits at value) = refl
after_long values (Before section) = refl
after_long values (Note section) = refl
after_long values (Inside section i) = refl

not_before : (last : ℕ) (next : Next) → Follows last next → last ≤ time_of next
not_before last (Time at) follows = follows
not_before last (Set at n value) follows = omega arith
not_before last (Bits at value) follows = omega arith
not_before last (Before section) follows = omega arith
not_before last (Note section) follows = omega arith
not_before last (Inside section i) follows = omega arith

pub all_shown : (last first stations : ℕ) (p q : Place) (values : List ℕ) (words : List (ℕ × List ℕ)) → IsSound first p → length values / 3 ≡ stations → AreSmall values → read_words last p words ≡ Ok q → AreShown stations (time_of p.next) q (cells_on p values words)
all_shown last first stations p q values [] so e all ran = by (is_time p.next) ran
  where
    by : (b : Bool) → cond b (Ok p) (Err last) ≡ Ok q → AreShown stations (time_of p.next) q []
    by true f =
        let same : p ≡ q = (let g : (let r : Result Place ℕ = Ok p in r) ≡ Ok q = f in cc) in
        subst (λ (r : Place). AreShown stations (time_of p.next) r []) same
        (record { whole = sym (no_more stations (time_of p.next)); cells = tt; few = so.few; after = omega arith })
    by false f = absurd (let g : (let r : Result Place ℕ = Err last in r) ≡ Ok q = f in cc)
all_shown last first stations p q values (word ∷ words) so e all ran =
    by (step p word.1) (λ r. step_sound first p r word.1 so)
    (λ r sound. all_shown word.0 (time_of p.next) stations r q (values_after values r.next) words sound (ap (λ (n : ℕ). n / 3) (after_long values r.next) ∙ e) (after_small values r.next all sound.small)) ran
  where
    by : (o : Option Place) → ((r : Place) → o ≡ Some r → IsSound (time_of p.next) r) →
        ((r : Place) → IsSound (time_of p.next) r → read_words word.0 r words ≡ Ok q → AreShown stations (time_of r.next) q (cells_on r (values_after values r.next) words)) →
        going_on word.0 o (λ r. read_words word.0 r words) ≡ Ok q → AreShown stations (time_of p.next) q (cells_with (time_of p.next) values o (λ r next. cells_on r next words))
    by None sound next f = absurd (let g : (let r : Result Place ℕ = Err word.0 in r) ≡ Ok q = f in cc)
    by (Some r) sound next f =
        let here = sound r refl in
        let rest = next r here f in
        let new = known (time_of p.next) stations values r.next e all here.follows in
        let front = cycles_until (time_of p.next) values r.next in
        let back = cells_on r (values_after values r.next) words in
        let sum = length-append front back in
        let a = new.0 in
        let b = rest.whole in
        let first' = not_before (time_of p.next) r.next here.follows in
        let later' = rest.after in
        record {
          whole = sum ∙ ap (λ (n : ℕ). n + length back) a ∙ ap (λ (n : ℕ). stations * (time_of r.next - time_of p.next) + n) b ∙ parts_of stations (time_of p.next) (time_of r.next) (time_of q.next) first' later';
          cells = all_append IsCell front back new.1 rest.cells;
          few = rest.few;
          after = omega arith;
        }

zeros_small : (n : ℕ) → AreSmall (replicate n 0)
zeros_small zero = tt
zeros_small (suc n) = (omega arith, zeros_small n)

length_zeros : (n : ℕ) → length (replicate {A = ℕ} n 0) ≡ n
length_zeros zero = refl
length_zeros (suc n) = let e = length_zeros n in omega arith

-- a trace of words of the form, within the limit
pub writable_trace : (words : List (ℕ × List ℕ)) (p : Place) (t : Trace) → read_words 0 start words ≡ Ok p → t.stations ≡ p.variables / 3 → t.cycles ≡ time_of p.next → t.cells ≡ cells_on start (replicate p.variables 0) words →
    max (p.variables / 3) 1 * time_of p.next ≤ 1048576 → IsWritable t
writable_trace words p t ran stations cycles cells few =
    let so : IsSound 0 start = record { few = omega arith; small = tt; follows = refl } in
    let long = length_zeros p.variables in
    let all = all_shown 0 0 (p.variables / 3) start p (replicate p.variables 0) words so (ap (λ (n : ℕ). n / 3) long) (zeros_small p.variables) ran in
    let whole : time_of p.next - 0 ≡ time_of p.next = omega arith in
    record {
      whole = ap (λ (cs : List Shown). length cs) cells ∙ all.whole ∙ ap (λ (n : ℕ). p.variables / 3 * n) whole ∙ ap (λ (n : ℕ). n * time_of p.next) (sym stations) ∙ ap (λ (n : ℕ). t.stations * n) (sym cycles);
      few = subst (λ (s : ℕ). max s 1 * t.cycles ≤ 1048576) (sym stations) (subst (λ (n : ℕ). max (p.variables / 3) 1 * n ≤ 1048576) (sym cycles) few);
      stations = (let f = all.few in omega arith);
      cells = subst (AllByRecursion IsCell) (sym cells) all.cells;
    }
