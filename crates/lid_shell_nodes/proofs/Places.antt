-- Where the tokens of channels stand among those that a node takes.
use Rattle.std.proofs.Common.{◌≡◌, ℕ, ◌+◌, ◌<◌, ◌≤◌, ◌==◌, ◌++◌, Bool, true, false, cond, List, [], ◌∷◌, length, take, set, get_or, map, Some, inl, inr, refl, sym, ◌∙◌, ap, subst, arith, length-set, length-append, eq-eqb, ne_eqb}
use Rattle.std.specs.List.{AllByRecursion}
use Rattle.std.proofs.lemmas.Bool.{cases_eq}
use Rattle.std.proofs.lemmas.Grind.{get_or-set_at}
use Rattle.std.proofs.lemmas.List.Elements.{filter-append}
use Rattle.std.proofs.lemmas.List.{take_all, take-append-le, take_more, length-take-le, get_or_append_left, get_or_push, get_or-set_other, length_push}
use Rattle.std.proofs.lemmas.Option.{slice_get_within, get_or_from_slice_get}
use Rattle.lid_base.proofs.Places.{get_push, item_read}
use Rattle.lid_base.proofs.Lists.{all_at, filter_le}
use Rattle.lid_system.specs.declared.System.{System}
use Rattle.lid_system.specs.declared.Channel.{Channel}
use Rattle.lid_system.specs.declared.InBit.{InBit}
use Rattle.lid_system.specs.declared.InBit.TheVariants as bit
use Rattle.lid_system.specs.Systems.{IsRead, IsChannel, IsWellFormed}
use Rattle.lid_shell_nodes.specs.declared.wires.InputRead.TheVariants.{Bit}
use Rattle.lid_shell_nodes.specs.Nodes.{channels_to}
use Rattle.lid_shell_nodes.specs.Wiring.{place_to, read_of}
use Rattle.lid_shell_nodes.specs.Placing.{ArePlacedIn}
use Rattle.lid_shell_nodes.specs.Inside.{read_in}

-- one channel more
module _ (channels : List Channel) (places taken : List ℕ) (c : Channel) (placed : ArePlacedIn channels places taken) (leads : c.to < length taken) where
  abbrev more : List Channel
  more = channels ++ c ∷ []

  older_place : (v i : ℕ) → i ≤ length channels → place_to more v i ≡ place_to channels v i
  older_place v i within = ap (λ (cs : List Channel). length (channels_to cs v)) (take-append-le i channels (c ∷ []) within)

  last_place : place_to more c.to (length channels) ≡ get_or taken c.to 0
  last_place =
      older_place c.to (length channels) (omega arith)
      ∙ ap (λ (cs : List Channel). length (channels_to cs c.to)) (take_all (length channels) channels (omega arith))
      ∙ sym (placed.counts c.to leads)

  one_counted : (v : ℕ) (b : Bool) → (c.to == v) ≡ b → length (channels_to more v) ≡ length (channels_to channels v) + length (cond b (c ∷ []) [])
  one_counted v b is =
      ap length (filter-append (λ d. d.to == v) channels (c ∷ []))
      ∙ ap (λ (k : Bool). length (channels_to channels v ++ cond k (c ∷ []) [])) is
      ∙ length-append (channels_to channels v) (cond b (c ∷ []) [])

  pub one_placed : ArePlacedIn more (places ++ get_or taken c.to 0 ∷ []) (set taken c.to (get_or taken c.to 0 + 1))
  one_placed =
      let many = placed.many in
      record {
        many = length_push places (get_or taken c.to 0) ∙ ap (λ (n : ℕ). n + 1) many ∙ sym (length_push channels c);
        each = λ i d here.
            elim (get_push channels c i d here) [
              | inl older ↦
                  (let within = slice_get_within channels i d older in
                  get_or_append_left places (get_or taken c.to 0 ∷ []) 0 i (omega arith) ∙ placed.each i d older ∙ sym (older_place d.to i (omega arith)))
              | inr last ↦
                  (let end : length places ≡ i = omega (arith, last.0) in
                  get_or_push places (get_or taken c.to 0) 0 i end ∙ sym last_place
                  ∙ ap (λ (n : ℕ). place_to more c.to n) (sym last.0) ∙ ap (λ (e : Channel). place_to more e.to i) (sym last.1))
            ];
        counts = λ v below.
            elim (cases_eq v c.to) [
              | inl same ↦
                  (let at = get_or-set_at taken c.to v (get_or taken c.to 0 + 1) 0 same leads in
                  let old = placed.counts c.to leads in
                  let new = one_counted c.to true (eq-eqb c.to c.to refl) in
                  let here : length (channels_to more v) ≡ length (channels_to more c.to) = ap (λ (n : ℕ). length (channels_to more n)) same in
                  omega arith)
              | inr other ↦
                  (let at = get_or-set_other taken c.to v (get_or taken c.to 0 + 1) 0 other in
                  let old = placed.counts v (subst (λ (n : ℕ). v < n) (length-set taken c.to (get_or taken c.to 0 + 1)) below) in
                  let new = one_counted v false (ne_eqb c.to v (λ e. other (sym e))) in
                  omega arith)
            ];
      }

-- no node takes more tokens than there are channels
pub few_counted : (channels : List Channel) (v : ℕ) → length (channels_to channels v) ≤ length channels
few_counted channels v = filter_le (λ c. c.to == v) channels

-- one channel more of a system
module _ (s : System) (well : IsWellFormed s) (i : ℕ) (items : List Channel) (c : Channel) (same : items ≡ s.channels) (within : i < length items) (read : c ≡ get_or items i c) where
  below : i < length s.channels
  below = subst (λ (cs : List Channel). i < length cs) same within

  read_there : c ≡ get_or s.channels i c
  read_there = read ∙ ap (λ (cs : List Channel). get_or cs i c) same

  pub leads_to_node : c.to < length s.nodes
  leads_to_node = (all_at (IsChannel s) s.channels i c well.each_channel (item_read s.channels i c below read_there)).ends

  module _ (places taken : List ℕ) (many : length taken ≡ length s.nodes) (placed : ArePlacedIn (take i s.channels) places taken) where
    abbrev before : List Channel
    before = take i s.channels

    counted : c.to < length taken
    counted = let leads = leads_to_node in omega arith

    count_is : (n : ℕ) → n ≡ get_or taken c.to n → n ≡ get_or taken c.to 0
    count_is n now = sym (get_or_from_slice_get taken c.to n 0 (item_read taken c.to n counted now))

    pub few_so_far : (n : ℕ) → n ≡ get_or taken c.to n → n ≤ 16384
    few_so_far n now =
        let is = count_is n now in
        let count = placed.counts c.to counted in
        let few = few_counted before c.to in
        let size = length-take-le i s.channels (let h = below in omega arith) in
        let most = well.few in
        let h = below in
        omega arith

    pub one_placed_at : (k n : ℕ) (news : List ℕ) → k ≡ get_or taken c.to k → n ≡ get_or taken c.to n → news ≡ places ++ k ∷ [] → ArePlacedIn (take (i + 1) s.channels) news (set taken c.to (n + 1))
    one_placed_at k n news first now pushed =
        let whole : take (i + 1) s.channels ≡ before ++ c ∷ [] = take_more s.channels i c below ∙ ap (λ (d : Channel). before ++ d ∷ []) (sym read_there) in
        subst (λ (cs : List Channel). ArePlacedIn cs news (set taken c.to (n + 1))) (sym whole)
        (subst (λ (l : List ℕ). ArePlacedIn (before ++ c ∷ []) l (set taken c.to (n + 1))) (sym (pushed ∙ ap (λ (m : ℕ). places ++ m ∷ []) (count_is k first)))
        (subst (λ (m : ℕ). ArePlacedIn (before ++ c ∷ []) (places ++ get_or taken c.to 0 ∷ []) (set taken c.to (m + 1))) (sym (count_is n now))
        (one_placed before places taken c placed counted)))

-- what the inputs of a node read
module _ (s : System) (v : ℕ) (places taken : List ℕ) (placed : ArePlacedIn s.channels places taken) where
  read_is : (x : InBit) → IsRead s v x → read_in places x ≡ read_of s.channels v x
  read_is (bit.Const value) read = refl
  read_is (bit.Port chan b) read = ap (λ (n : ℕ). Bit n b) (placed.each chan read.0 read.1 ∙ ap (λ (to : ℕ). place_to s.channels to chan) read.2)

  pub reads_are : (ins : List InBit) → AllByRecursion (IsRead s v) ins → map (read_in places) ins ≡ map (read_of s.channels v) ins
  reads_are [] all = refl
  reads_are (x ∷ ins) all =
      let head = read_is x all.0 in
      let tail = reads_are ins all.1 in
      cc
