use Rattle.std.proofs.Common.{◌≡◌, ℕ, ◌+◌, ◌<◌, ◌≤◌, ◌⊎◌, inl, inr, length, arith}
use Rattle.lid_system.specs.declared.System.{System}
use Rattle.lid_shell_laws.proofs.Caps.{starts_by}
use Rattle.lid_shell_laws.proofs.Channels.{drains_channels, fills_channels}
use Rattle.lid_shell_laws.proofs.laws.nodes_pass_the_tokens_of_channels.Goals as goal

by_kind : (s : System) (v tokens : ℕ) → ((v + 1 < length s.nodes) × (tokens ≡ 1)) ⊎ ((length s.nodes ≤ v) × (tokens ≡ 0)) → ((v < length s.nodes) × (tokens ≡ 1)) ⊎ ((length s.nodes ≤ v) × (tokens ≡ 0))
by_kind s v tokens (inl node) = let before = node.0 in inl (omega arith, node.1)
by_kind s v tokens (inr mover) = inr mover

pub returns : goal.returns
returns c = record {
  drained = λ s p b v t well fits node. drains_channels s p b v t well fits node;
  filled = λ s p b v t well fits node. fills_channels s p b v t well fits node;
  starts = λ s p station well fits h. by_kind s _ _ (starts_by s p well fits station h);
}
