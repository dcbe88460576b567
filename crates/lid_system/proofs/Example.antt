-- A well-formed system: a source of one column, a shell with one input and one output, and a sink of one
-- column, one after the other.
use Rattle.std.proofs.Common.{◌≡◌, ℕ, zero, suc, ◌<◌, [], ◌∷◌, length, map, Some, None, slice_get, inl, refl, sym, ◌∙◌, subst, arith}
use Rattle.std.proofs.lemmas.List.{length-map}
use Rattle.lid_design.specs.declared.Flat.{Flat}
use Rattle.lid_design.specs.Flat.{latch_init, IsFlat}
use Rattle.lid_pearl.specs.Pearls.{View}
use Rattle.lid_system.specs.declared.System.{System}
use Rattle.lid_system.specs.declared.Node.{Node}
use Rattle.lid_system.specs.declared.Node.TheVariants.{Source, Shell, Sink}
use Rattle.lid_system.specs.declared.InBit.TheVariants.{Port}
use Rattle.lid_system.specs.declared.Channel.{Channel}
use Rattle.lid_system.specs.Systems.{ports_at, IsShell, IsSink, IsNode, IsChannel, Precedes, IsWellFormed}

module _ (f : Flat) (rules : IsFlat f) (one_in : length f.ins ≡ 1) (one_out : length f.outs ≡ 1) where
  abbrev pearl : View
  pearl = record { flat = f; state = map latch_init f.latches }

  abbrev first : Channel
  first = record { from = 0; to = 1; piece = 0; ports = 0 ∷ [] }

  abbrev second : Channel
  second = record { from = 1; to = 2; piece = 0; ports = 0 ∷ [] }

  abbrev pub chain : System
  chain = record { nodes = Source ([] ∷ []) ∷ Shell pearl (Port 0 0 ∷ []) ∷ Sink ([] ∷ []) (Port 1 0 ∷ []) ∷ []; channels = first ∷ second ∷ [] }

  shell : IsShell chain 1 pearl (Port 0 0 ∷ [])
  shell = record { after_source = omega arith; before_sink = omega arith; rules = rules; begins = refl; width = sym one_in; reads = ((first, refl, refl, omega arith), tt) }

  sink : IsSink chain 2 ([] ∷ []) (Port 1 0 ∷ [])
  sink = record { last = refl; width = refl; reads = ((second, refl, refl, omega arith), tt) }

  each_node : (i : ℕ) (node : Node) → slice_get chain.nodes i ≡ Some node → IsNode chain i node
  each_node zero node here =
      let same : Source ([] ∷ []) ≡ node = (let e : Some (Source ([] ∷ [])) ≡ Some node = here in cc) in
      subst (IsNode chain 0) same refl
  each_node (suc zero) node here =
      let same : Shell pearl (Port 0 0 ∷ []) ≡ node = (let e : Some (Shell pearl (Port 0 0 ∷ [])) ≡ Some node = here in cc) in
      subst (IsNode chain 1) same shell
  each_node (suc (suc zero)) node here =
      let same : Sink ([] ∷ []) (Port 1 0 ∷ []) ≡ node = (let e : Some (Sink ([] ∷ []) (Port 1 0 ∷ [])) ≡ Some node = here in cc) in
      subst (IsNode chain 2) same sink
  each_node (suc (suc (suc i))) node here = absurd (let e : None ≡ Some node = here in cc)

  first_is : IsChannel chain first
  first_is = record { comes = omega arith; leads = omega arith; ends = omega arith; some = omega arith; few = omega arith; below = (omega arith, tt) }

  second_is : IsChannel chain second
  second_is =
      let long : length (ports_at chain 1) ≡ 1 = length-map f.outs _ ∙ one_out in
      record { comes = omega arith; leads = omega arith; ends = omega arith; some = omega arith; few = omega arith; below = (omega arith, tt) }

  ascending : (i j : ℕ) (c d : Channel) → i < j → slice_get chain.channels i ≡ Some c → slice_get chain.channels j ≡ Some d → Precedes c d
  ascending zero zero c d less here there = absurd (omega arith)
  ascending zero (suc zero) c d less here there =
      let e : first ≡ c = (let e : Some first ≡ Some c = here in cc) in
      let e' : second ≡ d = (let e : Some second ≡ Some d = there in cc) in
      inl (subst (λ (d : Channel). c.from < d.from) e' (subst (λ (c : Channel). c.from < 1) e (omega arith)))
  ascending zero (suc (suc j)) c d less here there = absurd (let e : None ≡ Some d = there in cc)
  ascending (suc i) zero c d less here there = absurd (omega arith)
  ascending (suc i) (suc zero) c d less here there = absurd (omega arith)
  ascending (suc i) (suc (suc j)) c d less here there = absurd (let e : None ≡ Some d = there in cc)

  pub chain_is : IsWellFormed chain
  chain_is = record { least = omega arith; most = omega arith; each_node = each_node; few = omega arith; each_channel = (first_is, (second_is, tt)); ascending = ascending }
