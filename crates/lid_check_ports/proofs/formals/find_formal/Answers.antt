use Rattle.std.proofs.Common.{List, not, map, find, refl, sym, ◌∙◌, ap}
use Rattle.lid_base.proofs.Results.{if_ok}
use Rattle.lid_design.specs.declared.Bind.{Bind}
use Rattle.lid_design.specs.Models.{formal_of, formals}
use Rattle.lid_check_ports.specs.declared.formals.InstRule.{InstRule}
use Rattle.lid_check_ports.specs.Formals.{faulty_formal, is_port_of}
use Rattle.lid_check_ports.proofs.Unbound.{unknown_by, unbound_by}
use Rattle.lid_check_ports.proofs.Subs.{sub_reached, none_by}
use Rattle.lid_check_ports.proofs.formals.find_formal.Goals as goal

pub find_unbound-requires : goal.find_unbound-requires
find_unbound-requires c = sub_reached c.args.ports.now c.args.k c.args.i c.args.inst.now c.requires.inst c.in-Unbound-Some.sub c.requires.reached (sym c.model_of.ensures ∙ c.in-Unbound-Some.is-1)

pub returns-in-UnknownFormal-Some : goal.returns-in-UnknownFormal-Some
returns-in-UnknownFormal-Some c =
    c.first_unknown.ensures
    ∙ ap (λ (bs : List Bind). find (λ n. not (is_port_of c.args.ports.now c.in-UnknownFormal-Some.sub n)) (map formal_of bs)) c.as_slice.ensures
    ∙ unknown_by c.args.ports.now c.args.k c.args.i c.args.inst.now c.requires.inst (formals c.args.inst.now) c.in-UnknownFormal-Some.sub (sym c.model_of.ensures ∙ c.in-UnknownFormal-Some.is-1)
    ∙ ap (λ (rule : InstRule). faulty_formal rule c.args.ports.now c.args.inst.now) (sym c.in-UnknownFormal-Some.is-0)

pub returns-in-Unbound-Some : goal.returns-in-Unbound-Some
returns-in-Unbound-Some c =
    if_ok c.find_unbound.result (λ formal is.
    is
    ∙ unbound_by c.args.ports.now c.args.k c.args.i c.args.inst.now c.requires.inst _ (formals c.args.inst.now) refl c.in-Unbound-Some.sub (sym c.model_of.ensures ∙ c.in-Unbound-Some.is-1)
    ∙ ap (λ (rule : InstRule). faulty_formal rule c.args.ports.now c.args.inst.now) (sym c.in-Unbound-Some.is-0)) c.find_unbound.ensures

pub returns-in-UnknownFormal-None : goal.returns-in-UnknownFormal-None
returns-in-UnknownFormal-None c =
    none_by c.args.ports.now c.args.k c.args.i c.args.inst.now c.requires.inst _ (sym c.model_of.ensures ∙ c.in-UnknownFormal-None.is-1)
    ∙ ap (λ (rule : InstRule). faulty_formal rule c.args.ports.now c.args.inst.now) (sym c.in-UnknownFormal-None.is-0)

pub returns-in-Unbound-None : goal.returns-in-Unbound-None
returns-in-Unbound-None c =
    none_by c.args.ports.now c.args.k c.args.i c.args.inst.now c.requires.inst _ (sym c.model_of.ensures ∙ c.in-Unbound-None.is-1)
    ∙ ap (λ (rule : InstRule). faulty_formal rule c.args.ports.now c.args.inst.now) (sym c.in-Unbound-None.is-0)
