-- How a turn ends, by the answer of its last step.
use Rattle.lid_base.specs.declared.runs.Answer.{Answer}
use Rattle.lid_base.specs.declared.runs.Answer.TheVariants as answer
use Rattle.lid_shell.specs.declared.turn.TurnEnd.{TurnEnd}
use Rattle.lid_shell.specs.declared.turn.TurnEnd.TheVariants.{Fired, Void, Stop, Done}

-- how a turn ends whose last step answers this
abbrev pub end_at : Answer → TurnEnd
end_at (answer.Void station told) = Void station told
end_at (answer.Stop station told) = Stop station told
end_at answer.Done = Done
end_at _ = Fired
