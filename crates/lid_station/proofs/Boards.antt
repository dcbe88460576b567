-- What a change at one end says of it and of the others.
use Rattle.std.proofs.Common.{◌≡◌, ℕ, refl, ◌∙◌, ap, eq-eqb, ne_eqb}
use Rattle.std.specs.Prelude.{Some, option_map}
use Rattle.lid_station.specs.declared.looks.OutLook.{OutLook}
use Rattle.lid_station.specs.declared.looks.OutLook.TheVariants.{Room, Stop}
use Rattle.lid_station.specs.Boards.{Facts, Ends, Changes, looked_out}

-- what is known of the end that changed
pub changed_here : (old new : Ends) (end : ℕ) (step : Facts → Facts) (f : Facts) → Changes old end step new → old end ≡ Some f → new end ≡ Some (step f)
changed_here old new end step f changes at =
    changes end ∙ rw (eq-eqb end end refl) (ap (option_map step) at)

-- the end that changed
pub changed_at : (old new : Ends) (end : ℕ) (step : Facts → Facts) → Changes old end step new → new end ≡ option_map step (old end)
changed_at old new end step changes = changes end ∙ rw (eq-eqb end end refl) refl

-- what is known of another end
pub changed_else : (old new : Ends) (end k : ℕ) (step : Facts → Facts) → Changes old end step new → (k ≡ end → ⊥) → new k ≡ old k
changed_else old new end k step changes other =
    changes k ∙ rw (ne_eqb k end other) refl

-- no look changes how many tokens passed
pub looked_out_passed : (x : OutLook) (f : Facts) → (looked_out x f).passed ≡ f.passed
looked_out_passed Room f = refl
looked_out_passed (Stop told) f = refl
