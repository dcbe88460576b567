-- What holds of each part of a certificate, and how much room the text of one that was found takes.
use Rattle.std.proofs.Common.{◌≡◌, ◌+◌, ◌≤◌, true, length, arith}
use Rattle.std.specs.List.{All, sum_by}
use Rattle.std.proofs.lemmas.List.Sums.{get_or-le-sum_by}
use Rattle.lid_graph.specs.declared.graph.Graph.{Graph}
use Rattle.lid_cert.specs.declared.cert.Part.{Part}
use Rattle.lid_cert.specs.declared.cert.Cert.{Cert}
use Rattle.lid_cert.specs.Certificates.{ascends, AreLists, Certifies, IsInRange}
use Rattle.lid_cert_text.specs.Written.{cert_text}
use Rattle.lid_cert_text.specs.Printed.{IsSmall, IsPartFull, bytes_needed}
use Rattle.lid_cert_text.proofs.PrintedLengths.{room_is_small}
use Rattle.lid_rate.specs.Rates.{IsShort}

module _ (g : Graph) (cert : Cert) (certifies : Certifies g cert) where
  pub are_lists : All AreLists cert.parts
  are_lists k d h = (certifies.parts k d h).inside.lists

  pub ascend : All (λ part. ascends part.nodes ≡ true) cert.parts
  ascend k d h = (certifies.parts k d h).inside.ascending

  some_nodes : All (λ part. 1 ≤ length part.nodes) cert.parts
  some_nodes k d h = (certifies.parts k d h).inside.some

  pub are_full : IsInRange cert → All IsPartFull cert.parts
  are_full range k d h = record { some = some_nodes k d h; walk = (certifies.parts k d h).inside.walk.some; range = range k d h }

  module _ (short : IsShort g cert) (few : g.nodes ≤ 70000) where
    pub are_small : All (λ part. IsSmall (length part.nodes)) cert.parts
    are_small k d h =
        let among = get_or-le-sum_by (λ (part : Part). length part.nodes) cert.parts k d h in
        let all = short.nodes in
        omega (arith, among, all, few)

    -- 11 bytes and 139 for each transition are less than 16 MiB
    pub fits : length (cert_text cert) ≤ 11 + sum_by bytes_needed cert.parts → length (cert_text cert) ≤ 16777216
    fits printed =
        let rooms = room_is_small cert some_nodes short.walks in
        let all = short.nodes in
        omega (arith, printed, rooms, all, few)
