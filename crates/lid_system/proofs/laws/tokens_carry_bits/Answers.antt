use Rattle.lid_base.proofs.Lists.{all_at}
use Rattle.lid_system.specs.Systems.{IsChannel}
use Rattle.lid_system.proofs.Streaming.{unpacked_bit, packed_token}
use Rattle.lid_system.proofs.laws.tokens_carry_bits.Goals as goal

pub returns-clause-packs : goal.returns-clause-packs
returns-clause-packs c s b t chan channel well here = packed_token s b t channel (all_at (IsChannel s) s.channels chan channel well.each_channel here)

pub returns-clause-unpacks : goal.returns-clause-unpacks
returns-clause-unpacks c = unpacked_bit
