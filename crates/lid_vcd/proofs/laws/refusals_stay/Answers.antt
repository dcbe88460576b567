use Rattle.lid_vcd_form.specs.Form.{start}
use Rattle.lid_vcd.proofs.Alive.{words_stop}
use Rattle.lid_vcd.proofs.laws.refusals_stay.Goals as goal

pub returns : goal.returns
returns c = λ words p word more e h. words_stop words 0 start p word more e h
