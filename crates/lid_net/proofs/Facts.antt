-- What acceptance says of ports, inputs and drivers.
use Rattle.std.proofs.Common.{◌≡◌, ◌<◌, ◌≤◌, ◌⊎◌, ℕ, zero, suc, List, [], ◌∷◌, ◌++◌, length, map, get_or, Option, Some, None, option_map, slice_get, inl, inr, refl, sym, ◌∙◌, ap, subst, arith, not, length-append}
use Rattle.std.specs.Option.{option_map_or}
use Rattle.std.proofs.lemmas.Option.{slice_get_within, get_or_from_slice_get, slice_get-map}
use Rattle.std.specs.List.{AllByRecursion}
use Rattle.std.proofs.lemmas.List.{length-map}
use Rattle.lid_base.specs.Lists.{Among, AreOnce}
use Rattle.lid_base.proofs.Lists.{get_among, among_get, then_some, among_one}
use Rattle.lid_design.specs.declared.Design.{Design}
use Rattle.lid_design.specs.declared.Model.{Model}
use Rattle.lid_design.specs.Network.{Driver, from_input}
use Rattle.lid_design.specs.Columns.{Column, column, model_at, is_clock, data_inputs, drivers_in, drivers, root_inputs}
use Rattle.lid_design.specs.Elaboration.{columns}
use Rattle.lid_design.specs.Models.{insts_of, IsReached, number_from}
use Rattle.lid_check_drivers.specs.Judged.{IsJudged}
use Rattle.lid_check_drivers.proofs.Clocking.{model_at_number}
use Rattle.lid_check.proofs.Sound.{judged_of}
use Rattle.lid_check_parts.proofs.Beginning.{inputs_apart, outputs_apart, nets_begin}
use Rattle.lid_base.proofs.Once.{once_at, once_filter}
use Rattle.lid_check.proofs.Widths.{nets_few}
use Rattle.lid_check_parts.proofs.Finding.{whole_pearls, inst_count, inst_pearl}
use Rattle.std.proofs.lemmas.Bool.{cases_lt}
use Rattle.lid_design.specs.Loops.{pearls}
use Rattle.lid_design.specs.WellFormed.{IsWellFormed}
use Rattle.lid_check_elab.specs.Elaborations.{shown_driver, column_at}
use Rattle.lid_check_parts.specs.Parts.{HasCover}
use Rattle.lid_check_loops.proofs.Numbered.{same_number}
use Rattle.lid_check.specs.Acceptance.{IsAccepted}
use Rattle.lid_check.specs.Networks.{IsNetwork}
use Rattle.lid_check.specs.declared.network.Network.{Network}
use Rattle.lid_check.proofs.Flats.{ports_apart, covers}
use Rattle.lid_system.specs.declared.Channel.{Channel}
use Rattle.lid_system.specs.declared.InBit.{InBit}
use Rattle.lid_net_channels.specs.declared.reads.Read.{Read}
use Rattle.lid_net_channels.specs.Bits.{CarryAll}
use Rattle.lid_net.specs.declared.ports.ShellPorts.{ShellPorts}
use Rattle.lid_net.specs.Marks.{outs_of}
use Rattle.lid_check_parts.proofs.Reading.{IsNear, driver_near}
use Rattle.lid_net_law.proofs.Inputs.{root_input_drives}
use Rattle.lid_net_law.specs.Ports.{outputs_at, ports_of, IsPort}
use Rattle.lid_net.specs.PearlParts.{AreShellPorts, ArePortsOf}
use Rattle.lid_net.specs.Systems.{AreOutputs}
use Rattle.lid_net.proofs.Tracing.{ArePortsOnce, AreInputsPorts}
use Rattle.lid_base.proofs.Places.{map_get}
use Rattle.lid_base.proofs.Alls.{all_from_among}

pub root_model : (d : Design) (m : Model) → model_at d [] ≡ Some m → slice_get d.models d.root ≡ Some m
unfolding model_at
root_model d m h = h

pub judged : (d : Design) → IsWellFormed d → IsAccepted d → IsJudged d
judged d formed accepted = judged_of d formed accepted.models

-- the pearls are in different places
pearls_apart : (d : Design) (p q : ℕ) (path : List ℕ) → slice_get (pearls d) p ≡ Some path → slice_get (pearls d) q ≡ Some path → p ≡ q
pearls_apart d p q path a b = by (cases_lt 0 (length (insts_of d d.root)))
  where
    less_p : p < length (pearls d)
    less_p = slice_get_within (pearls d) p path a

    less_q : q < length (pearls d)
    less_q = slice_get_within (pearls d) q path b

    by : (0 < length (insts_of d d.root)) ⊎ (length (insts_of d d.root) ≤ 0) → p ≡ q
    by (inl some) =
        let count = inst_count d some in
        let lp = less_p in
        let lq = less_q in
        let x = inst_pearl d p (omega arith) in
        let y = inst_pearl d q (omega arith) in
        let e : Some (p ∷ []) ≡ Some (q ∷ []) = sym x ∙ a ∙ sym b ∙ y in
        cc
    by (inr none) =
        let one = ap length (whole_pearls d (omega arith)) in
        let lp = less_p in
        let lq = less_q in
        omega arith

-- the names of the ports of a pearl's model are apart
model_apart : (d : Design) → IsWellFormed d → IsAccepted d → (path : List ℕ) (m : Model) (p : ℕ) → slice_get (pearls d) p ≡ Some path → model_at d path ≡ Some m → AreOnce m.inputs × AreOnce m.outputs
model_apart d formed accepted path m p here body =
    let at = then_some (number_from d d.root path) (slice_get d.models) m (sym (model_at_number d path) ∙ body) in
    (inputs_apart d (judged d formed accepted) at.0 (path, at.1) m at.2, outputs_apart d (judged d formed accepted) at.0 (path, at.1) m at.2)

root_apart : (d : Design) → IsWellFormed d → IsAccepted d → AreOnce (root_inputs d)
unfolding data_inputs number_from
root_apart d formed accepted = by (slice_get d.models d.root) refl
  where
    by : (o : Option Model) → slice_get d.models d.root ≡ o → AreOnce (option_map_or (data_inputs d) o [])
    by None e = tt
    by (Some m) e = once_filter (λ net. not (is_clock d m net)) m.inputs (inputs_apart d (judged d formed accepted) d.root ([], refl) m e)

-- the name of a port of the source
pub source_name : (d : Design) (c : Column) (place : ℕ) → IsPort d c 0 place → (slice_get (root_inputs d) place ≡ Some c.net) × (c.path ≡ [])
unfolding ports_of
source_name d c place h =
    let at = map_get (column []) (root_inputs d) place c h in
    (at.1 ∙ ap (λ (x : Column). Some x.net) (sym at.2), ap (λ (x : Column). x.path) at.2)

pub record IsNamed (d : Design) (c : Column) (p place : ℕ) : Type 0 where
  pub path : List ℕ
  pub here : slice_get (pearls d) p ≡ Some path
  pub model : Model
  pub body : model_at d path ≡ Some model
  pub name : slice_get model.outputs place ≡ Some c.net
  pub at : c.path ≡ path

-- the name of a port of a shell
pub shell_name : (d : Design) (c : Column) (p place : ℕ) → IsPort d c (suc p) place → IsNamed d c p place
unfolding ports_of
shell_name d c p place h = by (slice_get (pearls d) p) refl h
  where
    by : (o : Option (List ℕ)) → slice_get (pearls d) p ≡ o → slice_get (option_map_or (outputs_at d) o []) place ≡ Some c → IsNamed d c p place
    by None e g = absurd (let f : None ≡ Some c = g in cc)
    by (Some path) e g = in_model (model_at d path) refl g
      where
        in_model : (o : Option Model) → model_at d path ≡ o → slice_get (option_map_or (λ m. map (column path) m.outputs) o []) place ≡ Some c → IsNamed d c p place
        in_model None f k = absurd (let x : None ≡ Some c = k in cc)
        in_model (Some m) f k =
            let at = map_get (column path) m.outputs place c k in
            record { path = path; here = e; model = m; body = f; name = at.1 ∙ ap (λ (x : Column). Some x.net) (sym at.2); at = ap (λ (x : Column). x.path) at.2 }

-- no port of the source is one of a shell
mixed : (d : Design) → IsWellFormed d → IsAccepted d → (c : Column) (p i j : ℕ) → IsPort d c 0 i → IsPort d c (suc p) j → ⊥
mixed d formed accepted c p i j a b =
    let x = source_name d c i a in
    let y = shell_name d c p j b in
    let root : model_at d [] ≡ Some y.model = ap (model_at d) (sym x.1 ∙ y.at) ∙ y.body in
    let names : root_inputs d ≡ data_inputs d y.model = ap (λ (o : Option Model). option_map_or (data_inputs d) o []) (root_model d y.model root) in
    ports_apart d accepted.outputs p y.path c.net y.model y.here y.body
    (subst (λ (ns : List (List ℕ)). Among c.net ns) names (get_among (root_inputs d) i c.net x.0))
    (get_among y.model.outputs j c.net y.name)

-- no column is a port twice
pub ports_once : (d : Design) → IsWellFormed d → IsAccepted d → ArePortsOnce d
ports_once d formed accepted c zero zero i j a b = (refl, once_at (root_inputs d) (root_apart d formed accepted) i j c.net (source_name d c i a).0 (source_name d c j b).0)
ports_once d formed accepted c zero (suc q) i j a b = absurd (mixed d formed accepted c q i j a b)
ports_once d formed accepted c (suc p) zero i j a b = absurd (mixed d formed accepted c p j i b a)
ports_once d formed accepted c (suc p) (suc q) i j a b =
    let x = shell_name d c p i a in
    let y = shell_name d c q j b in
    let path : x.path ≡ y.path = sym x.at ∙ y.at in
    let same : p ≡ q = pearls_apart d p q y.path (x.here ∙ ap Some path) y.here in
    let model : x.model ≡ y.model = (let e : Some x.model ≡ Some y.model = sym x.body ∙ ap (model_at d) path ∙ y.body in cc) in
    (ap suc same, once_at y.model.outputs (model_apart d formed accepted y.path y.model q y.here y.body).1 i j c.net (ap (λ (m : Model). slice_get m.outputs i) (sym model) ∙ x.name) y.name)

none_driven : (d : Design) (c : Column) (r : Driver Column) → model_at d c.path ≡ None → Among r (drivers d c) → ⊥
unfolding drivers
none_driven d c r here among = subst (λ (o : Option Model). Among r (option_map_or (drivers_in d c.path c.net) o [])) here among

source_port : (d : Design) (c : Column) (place : ℕ) → option_map (column []) (slice_get (root_inputs d) place) ≡ Some c → IsPort d c 0 place
unfolding ports_of
source_port d c place h = slice_get-map (column []) (root_inputs d) place ∙ h

-- each column that the rows drive is a port of the source
pub inputs_ports : (d : Design) → IsWellFormed d → IsAccepted d → AreInputsPorts d
inputs_ports d formed accepted c j only_driver = by (model_at d c.path) refl
  where
    among : Among {A = Driver Column} (from_input j) (drivers d c)
    among = subst (λ (rs : List (Driver Column)). Among {A = Driver Column} (from_input j) rs) (sym only_driver) (inl refl)

    at_root : (m : Model) → model_at d c.path ≡ Some m → c.path ≡ [] → Among c.net (data_inputs d m) → IsPort d c 0 j
    at_root m here path given =
        let root : slice_get d.models d.root ≡ Some m = root_model d m (ap (model_at d) (sym path) ∙ here) in
        let names : root_inputs d ≡ data_inputs d m = ap (λ (o : Option Model). option_map_or (data_inputs d) o []) root in
        let at = among_get (data_inputs d m) c.net given in
        let there : slice_get (root_inputs d) at.0 ≡ Some c.net = ap (λ (ns : List (List ℕ)). slice_get ns at.0) names ∙ at.1 in
        let less = slice_get_within (root_inputs d) at.0 c.net there in
        let name : get_or (root_inputs d) at.0 [] ≡ c.net = get_or_from_slice_get (root_inputs d) at.0 c.net [] there in
        let col : column [] (get_or (root_inputs d) at.0 []) ≡ c = ap (column []) name ∙ ap (λ (p : List ℕ). column p c.net) (sym path) in
        let driven : Among {A = Driver Column} (from_input at.0) (drivers d c) = subst (λ (x : Column). Among {A = Driver Column} (from_input at.0) (drivers d x)) col (root_input_drives d at.0 less) in
        let same : from_input at.0 ≡ from_input j = among_one (from_input at.0) (from_input j) (subst (λ (rs : List (Driver Column)). Among {A = Driver Column} (from_input at.0) rs) only_driver driven) in
        let place : at.0 ≡ j = cc in
        subst (λ (x : ℕ). IsPort d c 0 x) place (source_port d c at.0 (ap (option_map (column [])) there ∙ ap (λ (p : List ℕ). Some (column p c.net)) (sym path)))

    by : (o : Option Model) → model_at d c.path ≡ o → IsPort d c 0 j
    by None here = absurd (none_driven d c (from_input j) here among)
    by (Some m) here = near (driver_near d c.path c.net m here (from_input j) among)
      where
        near : IsNear d m c.path c.net (from_input j) → IsPort d c 0 j
        near (inr local) = absurd (local.cell tt)
        near (inl (given, inl outer)) = absurd (outer.cell tt)
        near (inl (given, inr path)) = at_root m here path given

-- a pearl has no more outputs than there are columns
pub outputs_few : (d : Design) → IsWellFormed d → IsAccepted d → (count i : ℕ) (shell : ShellPorts) → AreShellPorts d count i shell → length shell.outs ≤ 1048576
outputs_few d formed accepted count i shell is =
    let at = then_some (number_from d d.root is.path) (slice_get d.models) is.model (sym (model_at_number d is.path) ∙ is.body) in
    let reached : IsReached d at.0 = (is.path, at.1) in
    let begins = nets_begin d (judged d formed accepted) at.0 reached is.model at.2 (λ net. ports_apart d accepted.outputs i is.path net is.model is.here is.body) in
    let few = nets_few d (judged d formed accepted) at.0 reached in
    let a = ap length begins.1 in
    let b = length-append (data_inputs d is.model) (is.model.outputs ++ begins.0) in
    let e = length-append is.model.outputs begins.0 in
    let f = sym (length-map shell.outs (column_at d)) ∙ ap length is.outs ∙ length-map is.model.outputs (column is.path) in
    omega arith

-- the covers of drivers meet their rules
pub all_cover : (d : Design) (n : Network) → IsWellFormed d → IsNetwork d n → AllByRecursion (HasCover d) n.columns.drivers
all_cover d n formed is = covers d n.columns.drivers n.columns.starts is.elaborated formed

pub ports_below : (d : Design) (ports : List ShellPorts) (n : ℕ) → ArePortsOf d (length (columns d)) ports → n ≡ length (columns d) → AllByRecursion (λ shell. AllByRecursion (λ k. k < n) (outs_of shell)) ports
ports_below d ports n are size = all_from_among (λ shell. AllByRecursion (λ k. k < n) (outs_of shell)) ports (λ shell among.
    let at = among_get ports shell among in
    subst (λ (m : ℕ). AllByRecursion (λ k. k < m) shell.outs) (sym size) (are.each at.0 shell at.1).outs_below)

pub ports_narrow : (d : Design) (ports : List ShellPorts) → IsWellFormed d → IsAccepted d → ArePortsOf d (length (columns d)) ports → AllByRecursion (λ shell. length (outs_of shell) ≤ 1048576) ports
ports_narrow d ports formed accepted are = all_from_among (λ shell. length (outs_of shell) ≤ 1048576) ports (λ shell among.
    let at = among_get ports shell among in
    outputs_few d formed accepted (length (columns d)) at.0 shell (are.each at.0 shell at.1))

-- two numbers of one column are equal
pub numbers_apart : (d : Design) (n : Network) → IsNetwork d n → (j k : ℕ) → j < length n.columns.drivers → k < length n.columns.drivers → column_at d j ≡ column_at d k → j ≡ k
numbers_apart d n is j k hj hk equal = same_number d (map (shown_driver d) n.columns.drivers) n.columns.starts is.elaborated j k (let l = length-map n.columns.drivers (shown_driver d) in omega arith) (let l = length-map n.columns.drivers (shown_driver d) in omega arith) equal

pub count_is : (d : Design) (n : Network) → IsNetwork d n → length n.columns.drivers ≡ length (columns d)
count_is d n is = sym (length-map n.columns.drivers (shown_driver d)) ∙ is.elaborated.whole

pub outputs_are : (d : Design) (n : Network) → IsNetwork d n → AreOutputs d n.outputs
outputs_are d n is = record { below = subst (λ (m : ℕ). AllByRecursion (λ k. k < m) n.outputs) (count_is d n is) is.outputs.below; columns_are = is.outputs.outputs }

-- there is a bit for each read
pub carry_long : (channels : List Channel) (rs : List Read) (bs : List InBit) → CarryAll channels rs bs → length bs ≡ length rs
carry_long channels [] [] h = refl
carry_long channels [] (b ∷ bs) h = absurd h
carry_long channels (r ∷ rs) [] h = absurd h
carry_long channels (r ∷ rs) (b ∷ bs) h = ap suc (carry_long channels rs bs h.1)
