use Rattle.std.proofs.Common.{ℕ, List, ◌++◌, ◌∙◌, ap}
use Rattle.lid_cert_text.specs.Written.{cert_text}
use Rattle.lid_rate_text.proofs.Certified.{are_full, are_small, fits}
use Rattle.lid_rate_text.proofs.rate.rate_text.Goals as goal

pub returns : goal.returns
returns c =
    let cert = c.in_ok-cert.cert in
    let found = c.in_ok-cert.ensures in
    let printed = c.in_ok-print_cert.ensures in
    let full = are_full c.args.graph.now cert found.certifies found.in_range in
    let small = are_small c.args.graph.now cert found.certifies found.short c.requires.few in
    record {
      cert = cert;
      certifies = found.certifies;
      exact = found.exact;
      positive = found.positive c.requires.tokens;
      back = printed.back full (fits c.args.graph.now cert found.certifies found.short c.requires.few (printed.short full small));
      written = printed.ok ∙ ap (λ (bytes : List ℕ). bytes ++ cert_text cert) c.new-text.ensures.items;
    }
