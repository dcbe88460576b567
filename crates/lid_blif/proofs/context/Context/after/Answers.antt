use Rattle.std.proofs.Common.{sym, ◌∙◌}
use Rattle.lid_blif.specs.declared.keyword.Keyword.TheVariants.{Model, Names, End, Row}
use Rattle.lid_blif.proofs.Contexts.{context_after, next_context_other}
use Rattle.lid_blif.proofs.context.Context.after.Goals as goal

pub returns-in-Model : goal.returns-in-Model
returns-in-Model c = λ before h. context_after Model c.args.line.now before c.args.self _ c.in-Model.ensures c.with_model.ensures h

pub returns-in-End : goal.returns-in-End
returns-in-End c = λ before h. context_after End c.args.line.now before c.args.self _ c.in-End.ensures c.without_cover.ensures h

pub returns-in-Names : goal.returns-in-Names
returns-in-Names c = λ before h. context_after Names c.args.line.now before c.args.self c.with_cover.result c.in-Names.ensures (cc) h

pub returns-in-Row : goal.returns-in-Row
returns-in-Row c = λ before h. context_after Row c.args.line.now before c.args.self c.with_row.result c.in-Row.ensures (cc) h

pub returns-in_default : goal.returns-in_default
returns-in_default c =
    λ before h.
    context_after c.keyword.result c.args.line.now before c.args.self _ c.keyword.ensures
    (c.without_cover-in_default.ensures
    ∙ sym (next_context_other c.keyword.result c.args.line.now c.args.self c.in_default.not-Model c.in_default.not-Names c.in_default.not-End c.in_default.not-Row))
    h
