use Rattle.std.proofs.Common.{◌≡◌, Bool, cond, ◌∷◌, [], ◌++◌, get_or, sym, subst, arith}
use Rattle.std.proofs.lemmas.Grind.{common_steps}
use Rattle.std.proofs.lemmas.Option.{slice_get-get_or}
use Rattle.lid_check_table.specs.Tables.{Appends}
use Rattle.lid_check_table.proofs.Appending.{none_appended, one_appended, number_there}
use Rattle.lid_check_ports.proofs.nets.append_at.Goals as goal

pub returns-then-not-wanted : goal.returns-then-not-wanted
returns-then-not-wanted c names own name are here =
    let old = c.args.list.now.items in
    subst (λ (b : Bool). Appends names old old (cond b (name ∷ []) [])) (sym c.if-not-wanted.true) (none_appended names old)

pub returns : goal.returns
returns c names own name are here =
    let old = c.args.list.now.items in
    let new = c.push.new.self.items in
    let numbers = c.args.numbers.now in
    let k = get_or numbers c.args.place 0 in
    let pushed : new ≡ old ++ k ∷ [] = grind (arith, common_steps) in
    let there = number_there names own numbers c.args.place k name are here (slice_get-get_or numbers c.args.place 0 c.requires) in
    subst (λ (b : Bool). Appends names old new (cond b (name ∷ []) [])) (sym c.if-not-wanted.false) (one_appended names old new k name pushed there)
