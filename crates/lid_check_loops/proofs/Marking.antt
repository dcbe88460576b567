-- Marks of the columns of nets, one after the other.
use Rattle.std.proofs.Common.{◌≡◌, ◌⊎◌, ◌↔◌, ℕ, Bool, true, false, List, [], ◌∷◌, ◌++◌, length, Option, Some, None, IsSome, slice_get, inl, inr, sym, ◌∙◌, ap, subst}
use Rattle.lid_base.specs.Lists.{Among}
use Rattle.lid_base.proofs.Lists.{among_left, among_last, among_push}
use Rattle.lid_design.specs.declared.Design.{Design}
use Rattle.lid_design.specs.Models.{instance_number, data_inputs_of}
use Rattle.lid_check_digraph.specs.Graphs.{flag}
use Rattle.lid_check_loops.specs.declared.pearls.Pearl.{Pearl}
use Rattle.lid_check_loops.specs.Pearls.{number_in, IsNumberOf, IsInputOf}
use Rattle.lid_base.proofs.Places.{get_push}

-- one net more is marked
pub nets_more : (d : Design) (pearl : Pearl) (names : List (List ℕ)) (net : List ℕ) (old mid new : List Bool) → ((k : ℕ) → (flag mid k ≡ true) ↔ ((flag old k ≡ true) ⊎ IsNumberOf d pearl names k)) → ((k : ℕ) → (flag new k ≡ true) ↔ ((flag mid k ≡ true) ⊎ (number_in d pearl net ≡ Some k))) → (k : ℕ) → (flag new k ≡ true) ↔ ((flag old k ≡ true) ⊎ IsNumberOf d pearl (names ++ net ∷ []) k)
nets_more d pearl names net old mid new before step k = (to, from)
  where
    first : (flag old k ≡ true) ⊎ IsNumberOf d pearl names k → (flag old k ≡ true) ⊎ IsNumberOf d pearl (names ++ net ∷ []) k
    first (inl on) = inl on
    first (inr here) = inr (here.0, among_left here.0 names (net ∷ []) here.1, here.2)

    next : (flag mid k ≡ true) ⊎ (number_in d pearl net ≡ Some k) → (flag old k ≡ true) ⊎ IsNumberOf d pearl (names ++ net ∷ []) k
    next (inl on) = first ((before k).0 on)
    next (inr here) = inr (net, among_last net names, here)

    to : flag new k ≡ true → (flag old k ≡ true) ⊎ IsNumberOf d pearl (names ++ net ∷ []) k
    to on = next ((step k).0 on)

    which : (name : List ℕ) → number_in d pearl name ≡ Some k → Among name names ⊎ (name ≡ net) → flag new k ≡ true
    which name number (inl among) = (step k).1 (inl ((before k).1 (inr (name, among, number))))
    which name number (inr same) = (step k).1 (inr (subst (λ (x : List ℕ). number_in d pearl x ≡ Some k) same number))

    from : (flag old k ≡ true) ⊎ IsNumberOf d pearl (names ++ net ∷ []) k → flag new k ≡ true
    from (inl on) = (step k).1 (inl ((before k).1 (inl on)))
    from (inr here) = which here.0 here.2 (among_push here.0 net names here.1)

-- the data inputs of one pearl more are marked
pub inputs_more : (d : Design) (ps : List Pearl) (pearl : Pearl) (old mid new : List Bool) → ((k : ℕ) → (flag mid k ≡ true) ↔ ((flag old k ≡ true) ⊎ IsInputOf d ps k)) → ((k : ℕ) → (flag new k ≡ true) ↔ ((flag mid k ≡ true) ⊎ IsNumberOf d pearl (data_inputs_of d pearl.model) k)) → (k : ℕ) → (flag new k ≡ true) ↔ ((flag old k ≡ true) ⊎ IsInputOf d (ps ++ pearl ∷ []) k)
inputs_more d ps pearl old mid new before step k = (to, from)
  where
    first : (flag old k ≡ true) ⊎ IsInputOf d ps k → (flag old k ≡ true) ⊎ IsInputOf d (ps ++ pearl ∷ []) k
    first (inl on) = inl on
    first (inr here) = inr (here.0, among_left here.0 ps (pearl ∷ []) here.1, here.2)

    next : (flag mid k ≡ true) ⊎ IsNumberOf d pearl (data_inputs_of d pearl.model) k → (flag old k ≡ true) ⊎ IsInputOf d (ps ++ pearl ∷ []) k
    next (inl on) = first ((before k).0 on)
    next (inr here) = inr (pearl, among_last pearl ps, here)

    to : flag new k ≡ true → (flag old k ≡ true) ⊎ IsInputOf d (ps ++ pearl ∷ []) k
    to on = next ((step k).0 on)

    which : (p : Pearl) → IsNumberOf d p (data_inputs_of d p.model) k → Among p ps ⊎ (p ≡ pearl) → flag new k ≡ true
    which p number (inl among) = (step k).1 (inl ((before k).1 (inr (p, among, number))))
    which p number (inr same) = (step k).1 (inr (subst (λ (x : Pearl). IsNumberOf d x (data_inputs_of d x.model) k) same number))

    from : (flag old k ≡ true) ⊎ IsInputOf d (ps ++ pearl ∷ []) k → flag new k ≡ true
    from (inl on) = (step k).1 (inl ((before k).1 (inl on)))
    from (inr here) = which here.0 here.2 (among_push here.0 pearl ps here.1)

-- a list of pearls for instances, and one more
pub pearls_more : (d : Design) (starts : List ℕ) (ps : List Pearl) (i start : ℕ) (pearl : Pearl) → length ps ≡ i → slice_get starts i ≡ Some start → instance_number d i d.root ≡ Some pearl.model → pearl.start ≡ start → ((j s : ℕ) (p : Pearl) → slice_get starts j ≡ Some s → slice_get ps j ≡ Some p → (instance_number d j d.root ≡ Some p.model) × (p.start ≡ s)) → (j s : ℕ) (p : Pearl) → slice_get starts j ≡ Some s → slice_get (ps ++ pearl ∷ []) j ≡ Some p → (instance_number d j d.root ≡ Some p.model) × (p.start ≡ s)
pearls_more d starts ps i start pearl long here model at each j s p there found = which (get_push ps pearl j p found)
  where
    which : (slice_get ps j ≡ Some p) ⊎ ((j ≡ length ps) × (p ≡ pearl)) → (instance_number d j d.root ≡ Some p.model) × (p.start ≡ s)
    which (inl old) = each j s p there old
    which (inr new) =
        let place : j ≡ i = new.0 ∙ long in
        let same_start : Some s ≡ Some start = sym there ∙ ap (slice_get starts) place ∙ here in
        let same_pearl = new.1 in (
          ap (λ (n : ℕ). instance_number d n d.root) place ∙ model ∙ ap (λ (q : Pearl). Some q.model) (sym same_pearl),
          ap (λ (q : Pearl). q.start) same_pearl ∙ at ∙ (let e : start ≡ s = cc in e),
        )

pub not_none : (o : Option ℕ) → IsSome o → None ≡ o → ⊥
not_none None some none = let e : false ≡ true = some in cc
not_none (Some k) some none = let e = none in cc
