-- What the answers of the readers say of the readings.
use Rattle.std.proofs.Common.{◌≡◌, ℕ, ◌<◌, Bool, List, length, Option, Some, None, Ok, Err, ◌⊎◌, inl, inr, refl, sym, ◌∙◌, ap, subst}
use Rattle.std.specs.List.{All, AllByRecursion}
use Rattle.std.proofs.lemmas.List.Elements.{recursion_from_All}
use Rattle.lid_base.specs.Lines.{logical_lines}
use Rattle.lid_design.specs.declared.Design.{Design}
use Rattle.lid_design.specs.Columns.{root_inputs, root_outputs}
use Rattle.lid_blif.specs.declared.fault.BlifFault.{BlifFault}
use Rattle.lid_blif.specs.declared.fault.BlifFault.TheVariants as blif
use Rattle.lid_blif.specs.Designs.{design_of}
use Rattle.lid_blif.specs.Faults.{blif_fault}
use Rattle.lid_check_rules.specs.declared.fault.CheckFault.{CheckFault}
use Rattle.lid_check_rules.specs.declared.fault.CheckFault.TheVariants as check
use Rattle.lid_net_channels.specs.declared.fault.NetFault.{NetFault}
use Rattle.lid_net_channels.specs.declared.fault.NetFault.TheVariants as net
use Rattle.lid_system.specs.declared.Channel.{Channel}
use Rattle.lid_net.specs.Graphs.{IsGraphOf}
use Rattle.lid_check.specs.Acceptance.{with_root, IsRefused}
use Rattle.lid_texts.specs.declared.rows.Rows.{Rows}
use Rattle.lid_texts.specs.declared.rows.VecFault.{VecFault}
use Rattle.lid_texts.specs.declared.rows.VecFault.TheVariants as rows
use Rattle.lid_texts.specs.Rows.{rows_reading}
use Rattle.lid_top_script.specs.Scripts.{Reading, good, bad, unless_faulty, net_reading, IsUnchecked, vec_reading, bits_read}
use Rattle.lid_top_refusals.specs.Faults.{blif_line, rows_line, check_line}
use Rattle.lid_top_script.specs.Causes.{Declines, FailsCheck, FailsNet, stop_of_blif, stop_of_rows, stop_of_check, stop_of_net}

-- a design that is read
pub net_good : (bytes : List ℕ) (d : Design) → (blif_fault bytes ≡ None) × (d ≡ design_of (logical_lines bytes)) → net_reading bytes ≡ good d
unfolding net_reading
net_good bytes d h = ap (λ f. unless_faulty f (design_of (logical_lines bytes))) h.0 ∙ ap good (sym h.1)

net_bad : (bytes : List ℕ) (e : BlifFault) → blif_fault bytes ≡ Some e → net_reading bytes ≡ bad (blif_line e)
unfolding net_reading
net_bad bytes e h = ap (λ f. unless_faulty f (design_of (logical_lines bytes))) h

-- a fault is told exactly, but for want of memory
declined : {A : Type 0} (reading : Reading A) (e : BlifFault) → reading ≡ bad (blif_line e) → Declines reading (stop_of_blif e)
declined reading blif.Memory h = tt
declined reading _ h = h

pub net_declines : (bytes : List ℕ) (e : BlifFault) → (e ≡ blif.Memory) ⊎ (blif_fault bytes ≡ Some e) → Declines (net_reading bytes) (stop_of_blif e)
net_declines bytes e (inl m) = subst (λ f. Declines (net_reading bytes) (stop_of_blif f)) (sym m) tt
net_declines bytes e (inr h) = declined (net_reading bytes) e (net_bad bytes e h)

-- a design that is refused, but for want of memory
refused : (root : Option (List ℕ)) (d : Design) (e : CheckFault) → IsUnchecked root d (check_line e) → FailsCheck root d (stop_of_check e)
refused root d check.Memory h = tt
refused root d _ h = h

pub check_fails : (root : Option (List ℕ)) (d : Design) (e : CheckFault) → (e ≡ check.Memory) ⊎ IsRefused (with_root d root) e → FailsCheck root d (stop_of_check e)
check_fails root d e (inl m) = subst (λ f. FailsCheck root d (stop_of_check f)) (sym m) tt
check_fails root d e (inr h) = refused root d e (record { fault = e; refused = h; told = refl })

-- the rows are those for the inputs of the design, where the columns are these inputs
pub vec_good : (d : Design) (bytes : List ℕ) (columns : List (List ℕ)) (outs : ℕ) (r : Rows) → columns ≡ root_inputs d → outs ≡ length (root_outputs d) → rows_reading columns outs bytes ≡ Ok r → vec_reading d bytes ≡ good r.bits
unfolding vec_reading
vec_good d bytes columns outs r c o h =
    ap (λ n. bits_read (rows_reading (root_inputs d) n bytes)) (sym o)
    ∙ ap (λ names. bits_read (rows_reading names outs bytes)) (sym c)
    ∙ ap bits_read h

vec_bad : (d : Design) (bytes : List ℕ) (columns : List (List ℕ)) (outs : ℕ) (e : VecFault) → columns ≡ root_inputs d → outs ≡ length (root_outputs d) → rows_reading columns outs bytes ≡ Err e → vec_reading d bytes ≡ bad (rows_line e)
unfolding vec_reading
vec_bad d bytes columns outs e c o h =
    ap (λ n. bits_read (rows_reading (root_inputs d) n bytes)) (sym o)
    ∙ ap (λ names. bits_read (rows_reading names outs bytes)) (sym c)
    ∙ ap bits_read h

rows_declined : {A : Type 0} (reading : Reading A) (e : VecFault) → reading ≡ bad (rows_line e) → Declines reading (stop_of_rows e)
rows_declined reading rows.Memory h = tt
rows_declined reading _ h = h

pub vec_declines : (d : Design) (bytes : List ℕ) (columns : List (List ℕ)) (outs : ℕ) (e : VecFault) → columns ≡ root_inputs d → outs ≡ length (root_outputs d) → (e ≡ rows.Memory) ⊎ (rows_reading columns outs bytes ≡ Err e) → Declines (vec_reading d bytes) (stop_of_rows e)
vec_declines d bytes columns outs e c o (inl m) = subst (λ f. Declines (vec_reading d bytes) (stop_of_rows f)) (sym m) tt
vec_declines d bytes columns outs e c o (inr h) = rows_declined (vec_reading d bytes) e (vec_bad d bytes columns outs e c o h)

-- rows under the inputs of a design are as wide as the inputs
pub wide_rows : (bits : List (List Bool)) (columns names : List (List ℕ)) → columns ≡ names → All (λ row. length row ≡ length columns) bits → AllByRecursion (λ row. length row ≡ length names) bits
wide_rows bits columns names e h =
    subst (λ (l : List (List ℕ)). AllByRecursion (λ row. length row ≡ length l) bits) e (recursion_from_All (λ row. length row ≡ length columns) bits h)

-- a design has too many channels, but for want of memory
pub net_fails : (d : Design) (e : NetFault) → (e ≡ net.Memory) ⊎ ((channels : List Channel) × IsGraphOf d channels × (16384 < length channels) × (e ≡ net.TooManyChannels (length channels))) → FailsNet d (stop_of_net e)
net_fails d e (inl m) = subst (λ f. FailsNet d (stop_of_net f)) (sym m) tt
net_fails d e (inr h) = subst (λ f. FailsNet d (stop_of_net f)) (sym h.3) (record { channels = h.0; graph = h.1; many = h.2; told = refl })
