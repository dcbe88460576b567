use Rattle.std.proofs.Common.{sym, subst}
use Rattle.lid_rate.specs.Rates.{AreLabels, AreParts}
use Rattle.lid_rate.proofs.Found.{certifies, exact, in_range, short}
use Rattle.lid_rate.proofs.Numbered.{positive}
use Rattle.lid_rate.proofs.finding.find.Goals as goal

pub all_parts-requires-clause-labels : goal.all_parts-requires-clause-labels
all_parts-requires-clause-labels c = subst (AreLabels c.args.graph.now) (sym c.as_slice-labels.ensures) (record { count = c.in_ok-least.ensures.length; labels = c.in_ok-least.ensures.least })

pub sort-requires-clause-labels : goal.sort-requires-clause-labels
sort-requires-clause-labels c = subst (AreLabels c.args.graph.now) (sym c.as_slice-labels.ensures) (record { count = c.in_ok-least.ensures.length; labels = c.in_ok-least.ensures.least })

pub returns : goal.returns
returns c =
    let labels : AreLabels c.args.graph.now c.as_slice-labels.result.now = subst (AreLabels c.args.graph.now) (sym c.as_slice-labels.ensures) (record { count = c.in_ok-least.ensures.length; labels = c.in_ok-least.ensures.least }) in
    let parts : AreParts c.args.graph.now c.as_slice-labels.result.now c.args.graph.now.nodes c.from_vec.result = subst (AreParts c.args.graph.now c.as_slice-labels.result.now c.args.graph.now.nodes) (sym c.from_vec.ensures) c.in_ok-parts.ensures in
    record {
      certifies = certifies c.args.graph.now c.requires c.as_slice-labels.result.now labels (record { parts = c.from_vec.result }) parts;
      exact = exact c.args.graph.now c.requires c.as_slice-labels.result.now labels (record { parts = c.from_vec.result }) parts;
      positive = λ tokens. positive c.args.graph.now (record { parts = c.from_vec.result }) tokens (certifies c.args.graph.now c.requires c.as_slice-labels.result.now labels (record { parts = c.from_vec.result }) parts);
      short = short c.args.graph.now c.requires c.as_slice-labels.result.now labels (record { parts = c.from_vec.result }) parts;
      in_range = in_range c.args.graph.now c.requires c.as_slice-labels.result.now labels (record { parts = c.from_vec.result }) parts;
    }
