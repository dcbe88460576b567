use Rattle.std.proofs.Common.{◌≡◌, ◌∙◌, ◌<◌, ℕ, List, Bool, Option, None, Some, true, false, length, get_or, sym, ap, arith}
use Rattle.std.specs.Option.{is_some}
use Rattle.lid_base.specs.declared.line.Line.{Line}
use Rattle.lid_stations.specs.Placements.{Links, links_of}
use Rattle.lid_stations_text.specs.declared.form.Form.{Form}
use Rattle.lid_stations_text.specs.Forms.{has_form}
use Rattle.lid_stations_text.specs.Faults.{channel_of, is_of, place_where}
use Rattle.lid_stations_text.specs.Places.{AreFirstLines}
use Rattle.lid_stations_text.proofs.LineFaults.{told_twice, told_by_amount, is_channel}
use Rattle.lid_stations_text.proofs.judging.judge_line.Goals as goal

-- what the code has seen, said of the line
well_said : (form : Form) (words line : List (List ℕ)) (b : Bool) → words ≡ line → b ≡ has_form form words → b ≡ true → has_form form line ≡ true
well_said form words line b e is yes' = sym (ap (has_form form) e) ∙ sym is ∙ yes'

named_said : (l : Links) (words line : List (List ℕ)) (r : Option ℕ) (c : ℕ) → words ≡ line → r ≡ channel_of l words → r ≡ Some c → channel_of l line ≡ Some c
named_said l words line r c e is found = sym (ap (channel_of l) e) ∙ sym is ∙ found

stands_said : (l : Links) (earlier : List Line) (places : List (Option ℕ)) (c : ℕ) (b r : Bool) → AreFirstLines l earlier places → c < length l.channels → r ≡ is_some (get_or places c None) → r ≡ b → is_some (place_where (is_of l c) 0 earlier) ≡ b
stands_said l earlier places c b r p inside is e = ap is_some (sym (p.each c inside)) ∙ sym is ∙ e

pub offset_bounds-places-channel : goal.offset_bounds-places-channel
offset_bounds-places-channel c =
    let named = named_said (links_of c.args.system.now) _ c.args.line.now.words _ _ c.as_slice-words.ensures c.channel_of.ensures c.in-Some.is in
    let h = is_channel (links_of c.args.system.now) c.args.line.now.words c.in-Some.channel named in
    let few = c.requires.system.few in
    omega arith

pub bounds-places-channel : goal.bounds-places-channel
bounds-places-channel c =
    let named = named_said (links_of c.args.system.now) _ c.args.line.now.words _ _ c.as_slice-words.ensures c.channel_of.ensures c.in-Some.is in
    let h = is_channel (links_of c.args.system.now) c.args.line.now.words c.in-Some.channel named in
    omega arith

pub returns-then-is_some-clause-err : goal.returns-then-is_some-clause-err
returns-then-is_some-clause-err c =
    let l = links_of c.args.system.now in
    let well = well_said c.args.form _ c.args.line.now.words _ c.as_slice-words.ensures c.has_form.ensures c.if-not-has_form.false in
    let named = named_said l _ c.args.line.now.words _ _ c.as_slice-words.ensures c.channel_of.ensures c.in-Some.is in
    λ earlier p. told_twice l c.args.form earlier c.args.line.now c.in-Some.channel well named (stands_said l earlier c.args.places.now _ true _ p (is_channel l c.args.line.now.words _ named) c.is_some.ensures c.if-is_some.true)

pub returns-in-Some-find_wrong_amount-clause-err : goal.returns-in-Some-find_wrong_amount-clause-err
returns-in-Some-find_wrong_amount-clause-err c =
    let l = links_of c.args.system.now in
    let well = well_said c.args.form _ c.args.line.now.words _ c.as_slice-words.ensures c.has_form.ensures c.if-not-has_form.false in
    let named = named_said l _ c.args.line.now.words _ _ c.as_slice-words.ensures c.channel_of.ensures c.in-Some.is in
    λ earlier p.
    told_by_amount l c.args.form earlier c.args.line.now c.in-Some.channel well named (stands_said l earlier c.args.places.now _ false _ p (is_channel l c.args.line.now.words _ named) c.is_some.ensures c.if-is_some.false)
    ∙ sym c.find_wrong_amount.ensures ∙ c.in-Some-find_wrong_amount.is

pub returns-in-None-clause-ok : goal.returns-in-None-clause-ok
returns-in-None-clause-ok c =
    let l = links_of c.args.system.now in
    let well = well_said c.args.form _ c.args.line.now.words _ c.as_slice-words.ensures c.has_form.ensures c.if-not-has_form.false in
    let named = named_said l _ c.args.line.now.words _ _ c.as_slice-words.ensures c.channel_of.ensures c.in-Some.is in
    λ earlier p.
    told_by_amount l c.args.form earlier c.args.line.now c.in-Some.channel well named (stands_said l earlier c.args.places.now _ false _ p (is_channel l c.args.line.now.words _ named) c.is_some.ensures c.if-is_some.false)
    ∙ sym c.find_wrong_amount.ensures ∙ c.in-None.is
