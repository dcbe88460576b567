-- What nodes read, by numbers and by columns.
use Rattle.std.proofs.Common.{◌≡◌, ◌<◌, ◌≤◌, ◌⊎◌, ◌↔◌, ◌+◌, ℕ, zero, suc, Bool, true, false, cond, eqb, List, [], ◌∷◌, ◌++◌, length, map, Option, Some, None, slice_get, inl, inr, refl, sym, ◌∙◌, ap, subst, arith}
use Rattle.std.specs.Option.{option_map_or}
use Rattle.std.specs.List.{AllByRecursion, flat_map}
use Rattle.std.proofs.lemmas.List.{length-map}
use Rattle.std.proofs.lemmas.Bool.{cases_lt}
use Rattle.std.proofs.lemmas.Option.{slice_get_within}
use Rattle.lid_base.specs.Lists.{Among}
use Rattle.lid_base.proofs.Lists.{all_among, among_left, among_right, among_append, among_flat, flat_among, among_map, map_among}
use Rattle.lid_design.specs.declared.Design.{Design}
use Rattle.lid_design.specs.declared.Model.{Model}
use Rattle.lid_design.specs.Columns.{Column, column, data_inputs, root_outputs}
use Rattle.lid_design.specs.Elaboration.{columns}
use Rattle.lid_design.specs.Loops.{pearls}
use Rattle.lid_check_elab.specs.Elaborations.{column_at}
use Rattle.lid_net_channels.specs.declared.reads.Read.{Read}
use Rattle.lid_net_channels.specs.Reads.{AreAscending}
use Rattle.lid_net.specs.declared.origin.Origin.{Origin}
use Rattle.lid_net.specs.declared.origin.Origin.TheVariants.{Const, Port}
use Rattle.lid_net.specs.Steps.{origin_at}
use Rattle.lid_net.specs.declared.ports.ShellPorts.{ShellPorts}
use Rattle.lid_net.specs.declared.nodes.Wiring.{Wiring}
use Rattle.lid_net.specs.Marks.{ins_of}
use Rattle.lid_net.specs.Reads.{read_of, origin_read, read_at, all_reads}
use Rattle.lid_net.specs.Nodes.{IsReadable, CanRead, CanReadAll}
use Rattle.lid_net.specs.Graphs.{inputs_at, inputs_of, LeadsTo, IsReadBy}
use Rattle.lid_net.specs.PearlParts.{ArePortsOf}
use Rattle.lid_net.specs.Systems.{AreColumnsLed, AreLeads, AreOutputs}
use Rattle.lid_net.proofs.Joining.{reader_node}
use Rattle.lid_base.proofs.Places.{item_at, map_get, get_last, get_map, get_push, get_left}
use Rattle.lid_base.proofs.Alls.{all_from_among}

one_read : (to : ℕ) (o : Option Origin) (r : Read) → Among r (origin_read to o) → (r.to ≡ to) × (o ≡ Some (Port r.from r.port))
one_read to None r h = absurd h
one_read to (Some (Const bit)) r h = absurd h
one_read to (Some (Port node place)) r (inl e) = (ap (λ (x : Read). x.to) e, sym (ap (λ (x : Read). Some (Port x.from x.port)) e))
one_read to (Some (Port node place)) r (inr h) = absurd h

record IsReadIn (origins : List (Option Origin)) (to : ℕ) (all : List (List ℕ)) (r : Read) : Type 0 where
  pub i : ℕ
  pub ins : List ℕ
  pub there : slice_get all i ≡ Some ins
  pub k : ℕ
  pub among : Among k ins
  pub to_is : r.to ≡ to + i
  pub origin : origin_at origins k ≡ Some (Port r.from r.port)

reads_only : (origins : List (Option Origin)) (to : ℕ) (all : List (List ℕ)) (r : Read) → Among r (all_reads origins to all) → IsReadIn origins to all r
reads_only origins to [] r h = absurd h
reads_only origins to (ins ∷ all) r h = by (among_append r (flat_map (read_at origins to) ins) (all_reads origins (to + 1) all) h) (reads_only origins (to + 1) all r)
  where
    by : Among r (flat_map (read_at origins to) ins) ⊎ Among r (all_reads origins (to + 1) all) → (Among r (all_reads origins (to + 1) all) → IsReadIn origins (to + 1) all r) → IsReadIn origins to (ins ∷ all) r
    by (inl here) next =
        let at = flat_among (read_at origins to) r ins here in
        let one = one_read to (origin_at origins at.0) r at.2 in
        let n : to ≡ to + 0 = omega arith in
        record { i = 0; ins = ins; there = refl; k = at.0; among = at.1; to_is = one.0 ∙ n; origin = one.1 }
    by (inr later) next =
        let at = next later in
        let n : (to + 1) + at.i ≡ to + suc at.i = omega arith in
        record { i = suc at.i; ins = at.ins; there = at.there; k = at.k; among = at.among; to_is = at.to_is ∙ n; origin = at.origin }

reads_all : (origins : List (Option Origin)) (to : ℕ) (all : List (List ℕ)) (i k a b : ℕ) (ins : List ℕ) → slice_get all i ≡ Some ins → Among k ins → origin_at origins k ≡ Some (Port a b) → Among (read_of a (to + i) b) (all_reads origins to all)
reads_all origins to [] i k a b ins there among e = absurd (let f : None ≡ Some ins = there in cc)
reads_all origins to (xs ∷ all) zero k a b ins there among e =
    let same : xs ≡ ins = (let f : Some xs ≡ Some ins = there in cc) in
    let n : to ≡ to + 0 = omega arith in
    among_left (read_of a (to + 0) b) (flat_map (read_at origins to) xs) (all_reads origins (to + 1) all)
    (among_flat (read_at origins to) k (read_of a (to + 0) b) xs (subst (λ (ys : List ℕ). Among k ys) (sym same) among)
    (subst (λ (o : Option Origin). Among (read_of a (to + 0) b) (origin_read to o)) (sym e) (inl (ap (λ (m : ℕ). read_of a m b) (sym n)))))
reads_all origins to (xs ∷ all) (suc i) k a b ins there among e =
    let n : (to + 1) + i ≡ to + suc i = omega arith in
    among_right (read_of a (to + suc i) b) (flat_map (read_at origins to) xs) (all_reads origins (to + 1) all)
    (subst (λ (m : ℕ). Among (read_of a m b) (all_reads origins (to + 1) all)) n (reads_all origins (to + 1) all i k a b ins there among e))

module _ (d : Design) (ports : List ShellPorts) (numbers : List ℕ) (are : ArePortsOf d (length (columns d)) ports) (outs : AreOutputs d numbers) where
  abbrev all : List (List ℕ)
  all = map ins_of ports ++ numbers ∷ []

  record Consumes (i : ℕ) (ins : List ℕ) : Type 0 where
    pub columns_are : inputs_of d (suc i) ≡ map (column_at d) ins
    pub below : AllByRecursion (λ k. k < length (columns d)) ins

  shell_inputs : (i : ℕ) (shell : ShellPorts) → slice_get ports i ≡ Some shell → Consumes i shell.ins
  unfolding inputs_of
  shell_inputs i shell here =
      let of = are.each i shell here in
      let inside = slice_get_within ports i shell here in
      let long = are.long in
      let other : eqb i (length (pearls d)) ≡ false = grind (arith, inside, long) in
      record {
        columns_are =
            ap (λ (b : Bool). cond b (map (column []) (root_outputs d)) (option_map_or (inputs_at d) (slice_get (pearls d) i) [])) other
            ∙ ap (λ (o : Option (List ℕ)). option_map_or (inputs_at d) o []) of.here
            ∙ ap (λ (o : Option Model). option_map_or (λ m. map (column of.path) (data_inputs d m)) o []) of.body
            ∙ sym of.ins;
        below = of.ins_below;
      }

  sink_inputs : Consumes (length (pearls d)) numbers
  unfolding inputs_of
  sink_inputs =
      let same : eqb (length (pearls d)) (length (pearls d)) ≡ true = grind (arith) in
      record {
        columns_are = ap (λ (b : Bool). cond b (map (column []) (root_outputs d)) (option_map_or (inputs_at d) (slice_get (pearls d) (length (pearls d))) [])) same ∙ sym outs.columns_are;
        below = outs.below;
      }

  consumes : (i : ℕ) (ins : List ℕ) → slice_get all i ≡ Some ins → Consumes i ins
  consumes i ins here = by (get_push (map ins_of ports) numbers i ins here)
    where
      by : (slice_get (map ins_of ports) i ≡ Some ins) ⊎ ((i ≡ length (map ins_of ports)) × (ins ≡ numbers)) → Consumes i ins
      by (inl h) = let shell = map_get ins_of ports i ins h in subst (Consumes i) (sym shell.2) (shell_inputs i shell.0 shell.1)
      by (inr h) =
          let mapped = length-map ports ins_of in
          let long = are.long in
          let n : length (pearls d) ≡ i = (let e = h.0 in omega arith) in
          subst (Consumes i) (sym h.1) (subst (λ (m : ℕ). Consumes m numbers) n sink_inputs)

  there_is : (i : ℕ) → i ≤ length (pearls d) → (ins : List ℕ) × (slice_get all i ≡ Some ins)
  there_is i most = by (cases_lt i (length (pearls d)))
    where
      by : (i < length (pearls d)) ⊎ (length (pearls d) ≤ i) → (ins : List ℕ) × (slice_get all i ≡ Some ins)
      by (inl less) =
          let shell = item_at ports i (let l = are.long in omega arith) in
          (shell.0.ins, get_left (map ins_of ports) (numbers ∷ []) i shell.0.ins (get_map ins_of ports i shell.0 shell.1))
      by (inr past) =
          let mapped = length-map ports ins_of in
          let long = are.long in
          let n : length (map ins_of ports) ≡ i = omega arith in
          (numbers, subst (λ (m : ℕ). slice_get all m ≡ Some numbers) n (get_last (map ins_of ports) numbers))

  pub leads_are : (origins : List (Option Origin)) (found reads : List Read) → AreColumnsLed d origins → found ≡ all_reads origins 1 all → AreAscending reads → ((r : Read) → Among r reads ↔ Among r found) → AreLeads d origins reads
  leads_are origins found reads led is ascending same = record { led = led; ascending = ascending; exact = λ r. (there r, back r) }
    where
      there : (r : Read) → Among r reads → IsReadBy d r
      there r h =
          let at = reads_only origins 1 all r (subst (λ (rs : List Read). Among r rs) is ((same r).0 h)) in
          let of = consumes at.i at.ins at.there in
          let less = all_among (λ k. k < length (columns d)) at.ins at.k of.below at.among in
          let n : suc at.i ≡ r.to = (let e = at.to_is in omega arith) in (
            column_at d at.k,
            subst (λ (m : ℕ). Among (column_at d at.k) (inputs_of d m)) n (subst (λ (cs : List Column). Among (column_at d at.k) cs) (sym of.columns_are) (among_map (column_at d) at.k at.ins at.among)),
            (led at.k (Port r.from r.port) less).0 at.origin,
          )

      at_node : (to from port : ℕ) → IsReadBy d (read_of from to port) → Among (read_of from to port) found
      at_node zero from port h = absurd (let e = (reader_node d zero h.0 h.1).0 in omega arith)
      at_node (suc i) from port h =
          let most = (reader_node d (suc i) h.0 h.1).1 in
          let ins = there_is i (omega arith) in
          let of = consumes i ins.0 ins.1 in
          let at = map_among (column_at d) h.0 ins.0 (subst (λ (cs : List Column). Among h.0 cs) of.columns_are h.1) in
          let less = all_among (λ k. k < length (columns d)) ins.0 at.0 of.below at.1 in
          let origin = (led at.0 (Port from port) less).1 (subst (λ (c : Column). LeadsTo d c (Port from port)) at.2 h.2) in
          let n : 1 + i ≡ suc i = omega arith in
          subst (λ (rs : List Read). Among (read_of from (suc i) port) rs) (sym is)
          (subst (λ (m : ℕ). Among (read_of from m port) (all_reads origins 1 all)) n (reads_all origins 1 all i at.0 from port ins.0 ins.1 at.1 origin))

      back : (r : Read) → IsReadBy d r → Among r reads
      back r h = (same r).1 (at_node r.to r.from r.port h)

  -- each input of a node can be read
  pub inputs_read : (w : Wiring) → AreLeads d w.origins.items w.reads.items → ((i k : ℕ) → k < length (columns d) → Among (column_at d k) (inputs_of d (suc i)) → (o : Origin) × LeadsTo d (column_at d k) o) → CanReadAll w 1 all
  inputs_read w leads some = from 1 all (λ i ins here. can_read i ins (consumes i ins here))
    where
      can_read : (i : ℕ) (ins : List ℕ) → Consumes i ins → AllByRecursion (CanRead w (1 + i)) ins
      can_read i ins of = all_from_among (CanRead w (1 + i)) ins (λ k among. by k among (origin_at w.origins.items k) refl)
        where
          by : (k : ℕ) → Among k ins → (o : Option Origin) → origin_at w.origins.items k ≡ o → IsReadable w.reads.items (1 + i) o
          by k among None e =
              let less = all_among (λ k. k < length (columns d)) ins k of.below among in
              let way = some i k less (subst (λ (cs : List Column). Among (column_at d k) cs) (sym of.columns_are) (among_map (column_at d) k ins among)) in
              absurd (let f : None ≡ Some way.0 = sym e ∙ (leads.led k way.0 less).1 way.1 in cc)
          by k among (Some (Const bit)) e = tt
          by k among (Some (Port node place)) e =
              let less = all_among (λ k. k < length (columns d)) ins k of.below among in
              let n : suc i ≡ 1 + i = omega arith in
              (leads.exact (read_of node (1 + i) place)).1 (
                column_at d k,
                subst (λ (m : ℕ). Among (column_at d k) (inputs_of d m)) n (subst (λ (cs : List Column). Among (column_at d k) cs) (sym of.columns_are) (among_map (column_at d) k ins among)),
                (leads.led k (Port node place) less).0 e,
              )

      from : (to : ℕ) (rest_of : List (List ℕ)) → ((i : ℕ) (ins : List ℕ) → slice_get rest_of i ≡ Some ins → AllByRecursion (CanRead w (to + i)) ins) → CanReadAll w to rest_of
      from to [] h = tt
      from to (ins ∷ more) h = (
        subst (λ (m : ℕ). AllByRecursion (CanRead w m) ins) (let n : to + 0 ≡ to = omega arith in n) (h 0 ins refl),
        from (to + 1) more (λ i xs here. subst (λ (m : ℕ). AllByRecursion (CanRead w m) xs) (let n : to + suc i ≡ (to + 1) + i = omega arith in n) (h (suc i) xs here)),
      )
