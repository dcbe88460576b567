-- Sets of the names of lists, and lists by tests that agree.
use Rattle.std.proofs.Common.{◌≡◌, ℕ, zero, suc, Bool, true, false, not, ◌||◌, ◌&&◌, cond, List, [], ◌∷◌, filter, find, Option, Some, slice_get, slice_index_or, refl, sym, ◌∙◌, ap}
use Rattle.std.specs.Option.{option_map_or}
use Rattle.std.proofs.Math.Bool.{and-false}
use Rattle.std.specs.Str.{bytes_eq}
use Rattle.lid_base.proofs.Lists.{same_bytes}
use Rattle.lid_design.specs.declared.Design.{Design}
use Rattle.lid_design.specs.declared.Model.{Model}
use Rattle.lid_check_names.specs.Names.{is_among}
use Rattle.lid_check_names.proofs.Lists.{is_among_firsts}
use Rattle.lid_check_ports.specs.declared.ports.Port.{Port}
use Rattle.lid_check_ports.specs.declared.ports.Port.TheVariants.{Input}
use Rattle.lid_check_ports.specs.Ports.{names_in, sets_in, is_in}

-- what the set of a number has
has_set : (port : Port) (ms : List Model) (k : ℕ) (n : List ℕ) → is_among n (slice_index_or (sets_in port ms) k []) ≡ option_map_or (λ m. is_among n (names_in port m)) (slice_get ms k) false
has_set port [] k n = refl
has_set port (m ∷ ms) zero n = is_among_firsts n (names_in port m)
has_set port (m ∷ ms) (suc k) n = has_set port ms k n

pub has_port : (d : Design) (port : Port) (sets : List (List (List ℕ))) → sets ≡ sets_in port d.models → (k : ℕ) (n : List ℕ) → is_among n (slice_index_or sets k []) ≡ is_in d port k n
has_port d port sets whole k n = ap (λ (s : List (List (List ℕ))). is_among n (slice_index_or s k [])) whole ∙ has_set port d.models k n

-- the sets of a list of a design, as a method sees them from outside
pub seen_sets : (d seen : Design) → d ≡ seen → (port is : Port) → port ≡ is → sets_in is d.models ≡ sets_in port seen.models
seen_sets d seen view port is same = ap (λ (e : Design). sets_in is e.models) view ∙ ap (λ (p : Port). sets_in p seen.models) (sym same)

pub find_same : {A : Type 0} (p q : A → Bool) (xs : List A) → ((x : A) → p x ≡ q x) → find p xs ≡ find q xs
find_same p q [] same = refl
find_same {A} p q (x ∷ xs) same =
    ap (λ (b : Bool). cond b (Some x) (find p xs)) (same x) ∙ ap (λ (o : Option A). cond (q x) (Some x) o) (find_same p q xs same)

-- a name stands among those that a test takes exactly where it stands in the list and the test takes it
pub is_among_filter : (p : List ℕ → Bool) (n : List ℕ) (names : List (List ℕ)) → is_among n (filter p names) ≡ (is_among n names && p n)
is_among_filter p n [] = refl
is_among_filter p n (x ∷ xs) = by (p x) refl (bytes_eq n x) refl (is_among_filter p n xs)
  where
    by : (b : Bool) → p x ≡ b → (a : Bool) → bytes_eq n x ≡ a → is_among n (filter p xs) ≡ (is_among n xs && p n) → is_among n (cond b (x ∷ filter p xs) (filter p xs)) ≡ ((bytes_eq n x || is_among n xs) && p n)
    by true e true h later =
        let taken : p n ≡ true = ap p (same_bytes n x h) ∙ e in
        ap (λ (a : Bool). a || is_among n (filter p xs)) h ∙ sym (ap (λ (a : Bool). (a || is_among n xs) && p n) h ∙ taken)
    by true e false h later = ap (λ (a : Bool). a || is_among n (filter p xs)) h ∙ later ∙ sym (ap (λ (a : Bool). (a || is_among n xs) && p n) h)
    by false e true h later =
        let left : p n ≡ false = ap p (same_bytes n x h) ∙ e in
        later ∙ ap (λ (a : Bool). is_among n xs && a) left ∙ and-false (is_among n xs) ∙ sym (ap (λ (a : Bool). (a || is_among n xs) && p n) h ∙ left)
    by false e false h later = later ∙ sym (ap (λ (a : Bool). (a || is_among n xs) && p n) h)

-- the names that are no inputs of a model, by its number
pub in_here : (d : Design) (k : ℕ) (m : Model) → slice_get d.models k ≡ Some m → (names : List (List ℕ)) → filter (λ net. not (is_in d Input k net)) names ≡ filter (λ net. not (is_among net m.inputs)) names
in_here d k m here names =
    ap (λ (o : Option Model). filter (λ net. not (option_map_or (λ m. is_among net m.inputs) o false)) names) here
