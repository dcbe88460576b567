-- Each wire has a name of its own.
use Rattle.std.proofs.Common.{◌≡◌, ℕ, zero, suc, ◌+◌, ◌<◌, ◌==◌, inl, inr, Bool, true, false, List, [], ◌∷◌, ◌++◌, length, get_or, map, refl, sym, ◌∙◌, ap, subst, arith}
use Rattle.std.specs.Prelude.{bytes_eq, if◌then◌else◌}
use Rattle.std.specs.List.{IsDistinct}
use Rattle.std.proofs.lemmas.List.{append_cancel_left, map-append}
use Rattle.lid_base.specs.Lists.{Among}
use Rattle.lid_base.proofs.Lists.{among_left, among_right, among_map, all_among, bytes_same}
use Rattle.lid_base.specs.Each.{from_each}
use Rattle.lid_emit_circuit.specs.Wires.{Wire, entry, given, offer, block, steady, may, fire, level, grown, place, moved, now, kept, later, shown, valid, stop}
use Rattle.lid_emit_circuit.specs.Plans.{CircuitPlan}
use Rattle.lid_emit_circuit.specs.Known.{IsKnown}
use Rattle.lid_emit_names.specs.Named.{input_wires, output_wires, IsNaming}
use Rattle.lid_emit_names.specs.Spelling.{PortNames, input_ports, output_ports, letter, numbers, digits_joined, name_of, IsFree, AreSmall}
use Rattle.lid_emit_names.proofs.Joining.{joined_same}
use Rattle.lid_base.proofs.Each.{each_among}

abbrev first : List ℕ → ℕ
first ns = get_or ns 0 0

abbrev second : List ℕ → ℕ
second ns = get_or ns 1 0

abbrev third : List ℕ → ℕ
third ns = get_or ns 2 0

-- the wire of a letter and numbers
abbrev rebuilt : ℕ → List ℕ → Wire
rebuilt letter ns =
    if letter == 100 then given (first ns)
    else (if letter == 99 then steady (first ns == 1)
    else (if letter == 109 then may (first ns) (second ns)
    else (if letter == 102 then fire (first ns)
    else (if letter == 108 then level (first ns) (second ns)
    else (if letter == 103 then grown (first ns) (second ns)
    else (if letter == 112 then place (first ns) (second ns) (third ns)
    else (if letter == 113 then moved (first ns) (second ns) (third ns)
    else (if letter == 110 then now (first ns) (second ns)
    else (if letter == 107 then kept (first ns) (second ns)
    else (if letter == 97 then later (first ns) (second ns) else stop))))))))))

abbrev how_many : ℕ → ℕ
how_many letter = if letter == 100 then 1 else (if letter == 99 then 1 else (if letter == 102 then 1 else (if letter == 112 then 3 else (if letter == 113 then 3 else 2))))

-- whether a wire is no port
abbrev is_inner : Wire → Bool
is_inner (entry j) = false
is_inner offer = false
is_inner block = false
is_inner (shown j) = false
is_inner valid = false
is_inner stop = false
is_inner other = true

rebuilds : (w : Wire) → is_inner w ≡ true → rebuilt (letter w) (numbers w) ≡ w
rebuilds (entry j) inner = cc
rebuilds offer inner = cc
rebuilds block inner = cc
rebuilds (shown j) inner = cc
rebuilds valid inner = cc
rebuilds stop inner = cc
rebuilds (given j) inner = refl
rebuilds (steady true) inner = refl
rebuilds (steady false) inner = refl
rebuilds (may v i) inner = refl
rebuilds (fire v) inner = refl
rebuilds (level s i) inner = refl
rebuilds (grown s i) inner = refl
rebuilds (place s i j) inner = refl
rebuilds (moved s i j) inner = refl
rebuilds (now v k) inner = refl
rebuilds (kept v k) inner = refl
rebuilds (later v k) inner = refl

counts : (w : Wire) → is_inner w ≡ true → length (numbers w) ≡ how_many (letter w)
counts (entry j) inner = cc
counts offer inner = cc
counts block inner = cc
counts (shown j) inner = cc
counts valid inner = cc
counts stop inner = cc
counts (given j) inner = refl
counts (steady bit) inner = refl
counts (may v i) inner = refl
counts (fire v) inner = refl
counts (level s i) inner = refl
counts (grown s i) inner = refl
counts (place s i j) inner = refl
counts (moved s i j) inner = refl
counts (now v k) inner = refl
counts (kept v k) inner = refl
counts (later v k) inner = refl

inner_is : (ports : PortNames) (prefix : List ℕ) (w : Wire) → is_inner w ≡ true → name_of ports prefix w ≡ prefix ++ letter w ∷ digits_joined (numbers w)
inner_is ports prefix (entry j) inner = cc
inner_is ports prefix offer inner = cc
inner_is ports prefix block inner = cc
inner_is ports prefix (shown j) inner = cc
inner_is ports prefix valid inner = cc
inner_is ports prefix stop inner = cc
inner_is ports prefix (given j) inner = refl
inner_is ports prefix (steady bit) inner = refl
inner_is ports prefix (may v i) inner = refl
inner_is ports prefix (fire v) inner = refl
inner_is ports prefix (level s i) inner = refl
inner_is ports prefix (grown s i) inner = refl
inner_is ports prefix (place s i j) inner = refl
inner_is ports prefix (moved s i j) inner = refl
inner_is ports prefix (now v k) inner = refl
inner_is ports prefix (kept v k) inner = refl
inner_is ports prefix (later v k) inner = refl

-- distinct names tell wires
told : (name : Wire → List ℕ) (ws : List Wire) → IsDistinct bytes_eq (map name ws) → (w x : Wire) → Among w ws → Among x ws → name w ≡ name x → w ≡ x
unfolding IsDistinct
told name [] distinct w x none there same = absurd none
told name (y ∷ ys) distinct w x (inl is) (inl also) same = is ∙ sym also
told name (y ∷ ys) distinct w x (inl is) (inr there) same =
    absurd (let e : bytes_eq (name y) (name x) ≡ false = all_among (λ (z : List ℕ). bytes_eq (name y) z ≡ false) (map name ys) (name x) distinct.0 (among_map {A = Wire} {B = List ℕ} name x ys there) in
    let e' : bytes_eq (name y) (name x) ≡ true = bytes_same (name y) (name x) (ap name (sym is) ∙ same) in cc)
told name (y ∷ ys) distinct w x (inr here) (inl also) same =
    absurd (let e : bytes_eq (name y) (name w) ≡ false = all_among (λ (z : List ℕ). bytes_eq (name y) z ≡ false) (map name ys) (name w) distinct.0 (among_map {A = Wire} {B = List ℕ} name w ys here) in
    let e' : bytes_eq (name y) (name w) ≡ true = bytes_same (name y) (name w) (ap name (sym also) ∙ sym same) in cc)
told name (y ∷ ys) distinct w x (inr here) (inr there) same = told name ys distinct.1 w x here there same

each_of : (xs : List (List ℕ)) (first : ℕ) (all : List (List ℕ)) → ((i : ℕ) → i < length xs → get_or all (first + i) [] ≡ get_or xs i []) → map (λ j. get_or all j []) (from_each (λ j. j) first (length xs)) ≡ xs
each_of [] first all same = refl
each_of (x ∷ xs) first all same =
    let head : get_or all first [] ≡ x = (let place : first ≡ first + 0 = omega arith in ap (λ j. get_or all j []) place ∙ same 0 (omega arith)) in
    let tail : map (λ j. get_or all j []) (from_each (λ j. j) (first + 1) (length xs)) ≡ xs = each_of xs (first + 1) all (λ i below. let place : (first + 1) + i ≡ first + suc i = omega arith in ap (λ j. get_or all j []) place ∙ same (suc i) (omega arith)) in
    cc

named_each : {A : Type 0} (f : ℕ → A) (name : A → List ℕ) (at : ℕ → List ℕ) (k n : ℕ) → ((j : ℕ) → name (f j) ≡ at j) → map name (from_each f k n) ≡ map at (from_each (λ j. j) k n)
named_each f name at k zero same = refl
named_each f name at k (suc n) same = ap (λ (x : List ℕ). x ∷ map name (from_each f (k + 1) n)) (same k) ∙ ap (λ (xs : List (List ℕ)). at k ∷ xs) (named_each f name at (k + 1) n same)

pub all_named : {A : Type 0} (f : ℕ → A) (name : A → List ℕ) (xs : List (List ℕ)) → ((j : ℕ) → name (f j) ≡ get_or xs j []) → map name (from_each f 0 (length xs)) ≡ xs
all_named f name xs same = named_each f name (λ j. get_or xs j []) 0 (length xs) same ∙ each_of xs 0 xs (λ i below. let place : 0 + i ≡ i = omega arith in ap (λ j. get_or xs j []) place)

module _ (q : CircuitPlan) (ports : PortNames) (prefix : List ℕ) (inputs : q.inputs ≡ length ports.inputs) (outputs : length q.shows ≡ length ports.outputs) where
  abbrev name : Wire → List ℕ
  name w = name_of ports prefix w

  abbrev port_wires : List Wire
  port_wires = input_wires q ++ output_wires q

  abbrev port_names : List (List ℕ)
  port_names = input_ports ports ++ output_ports ports

  inputs_named : map name (from_each entry 0 q.inputs) ≡ ports.inputs
  inputs_named = ap (λ (n : ℕ). map name (from_each entry 0 n)) inputs ∙ all_named entry name ports.inputs (λ j. refl)

  outputs_named : map name (from_each shown 0 (length q.shows)) ≡ ports.outputs
  outputs_named = ap (λ (n : ℕ). map name (from_each shown 0 n)) outputs ∙ all_named shown name ports.outputs (λ j. refl)

  ports_named : map name port_wires ≡ port_names
  ports_named =
      map-append name (input_wires q) (output_wires q)
      ∙ ap (λ (xs : List (List ℕ)). xs ++ map name (output_wires q)) (map-append name (from_each entry 0 q.inputs) (offer ∷ block ∷ []) ∙ ap (λ (xs : List (List ℕ)). xs ++ ports.offer ∷ ports.block ∷ []) inputs_named)
      ∙ ap (λ (xs : List (List ℕ)). input_ports ports ++ xs) (map-append name (from_each shown 0 (length q.shows)) (valid ∷ stop ∷ []) ∙ ap (λ (xs : List (List ℕ)). xs ++ ports.valid ∷ ports.stop ∷ []) outputs_named)

  -- a known port stands among the ports
  port_there : (w : Wire) → IsKnown q w → is_inner w ≡ false → Among w port_wires
  port_there (entry j) known port = among_left (entry j) (input_wires q) (output_wires q) (among_left (entry j) (from_each entry 0 q.inputs) (offer ∷ block ∷ []) (each_among entry 0 q.inputs j (omega arith) (omega (arith, known))))
  port_there offer known port = among_left offer (input_wires q) (output_wires q) (among_right offer (from_each entry 0 q.inputs) (offer ∷ block ∷ []) (inl refl))
  port_there block known port = among_left block (input_wires q) (output_wires q) (among_right block (from_each entry 0 q.inputs) (offer ∷ block ∷ []) (inr (inl refl)))
  port_there (shown j) known port = among_right (shown j) (input_wires q) (output_wires q) (among_left (shown j) (from_each shown 0 (length q.shows)) (valid ∷ stop ∷ []) (each_among shown 0 (length q.shows) j (omega arith) (omega (arith, known))))
  port_there valid known port = among_right valid (input_wires q) (output_wires q) (among_right valid (from_each shown 0 (length q.shows)) (valid ∷ stop ∷ []) (inl refl))
  port_there stop known port = among_right stop (input_wires q) (output_wires q) (among_right stop (from_each shown 0 (length q.shows)) (valid ∷ stop ∷ []) (inr (inl refl)))
  port_there w known port = absurd (cc)

  module _ (distinct : IsDistinct bytes_eq port_names) (free : IsFree prefix port_names) (small : AreSmall q) where
    port_not_inner : (w x : Wire) → IsKnown q w → is_inner w ≡ false → is_inner x ≡ true → name w ≡ name x → ⊥
    port_not_inner w x known port inner same =
        free (name w) (letter x ∷ digits_joined (numbers x)) (subst (λ (xs : List (List ℕ)). Among (name w) xs) ports_named (among_map {A = Wire} {B = List ℕ} name w port_wires (port_there w known port))) (same ∙ inner_is ports prefix x inner)

    inner_same : (w x : Wire) → IsKnown q w → IsKnown q x → is_inner w ≡ true → is_inner x ≡ true → name w ≡ name x → w ≡ x
    inner_same w x known also inner its same =
        let texts : letter w ∷ digits_joined (numbers w) ≡ letter x ∷ digits_joined (numbers x) = append_cancel_left prefix (letter w ∷ digits_joined (numbers w)) (letter x ∷ digits_joined (numbers x)) (sym (inner_is ports prefix w inner) ∙ same ∙ inner_is ports prefix x its) in
        let letters : letter w ≡ letter x = cc in
        let rests : digits_joined (numbers w) ≡ digits_joined (numbers x) = cc in
        let long : length (numbers w) ≡ length (numbers x) = counts w inner ∙ ap how_many letters ∙ sym (counts x its) in
        let all : numbers w ≡ numbers x = joined_same (numbers w) (numbers x) long (small w known) (small x also) rests in
        sym (rebuilds w inner) ∙ ap (λ (l : ℕ). rebuilt l (numbers w)) letters ∙ ap (rebuilt (letter x)) all ∙ rebuilds x its

    pub is_naming : IsNaming q (name_of ports prefix)
    is_naming w x known also same = by (is_inner w) (is_inner x) refl refl
      where
        by : (b c : Bool) → is_inner w ≡ b → is_inner x ≡ c → w ≡ x
        by true true is its = inner_same w x known also is its same
        by false false is its = told name port_wires (subst (IsDistinct bytes_eq) (sym ports_named) distinct) w x (port_there w known is) (port_there x also its) same
        by false true is its = absurd (port_not_inner w x known is its same)
        by true false is its = absurd (port_not_inner x w also its is (sym same))
