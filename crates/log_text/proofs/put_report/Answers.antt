-- `log_text::put_report` meets its contract.
use Rattle.std.proofs.Common.{sym, ◌∙◌, zero-add}
use Rattle.log_text.specs.Text.Steps.{long-within, report_long, report_lines}
use Rattle.log_text.proofs.put_report.Goals as goal

pub returns-then-too_long : goal.returns-then-too_long
returns-then-too_long c = rw (report_long _ (sym c.too_long.ensures ∙ c.if-too_long.true)) (rw zero-add at c.put_row.ensures)

pub put_bad-requires : goal.put_bad-requires
put_bad-requires c = (long-within _ (sym c.too_long.ensures ∙ c.if-too_long.false)).0

pub returns : goal.returns
returns c = rw (report_lines _ (sym c.too_long.ensures ∙ c.if-too_long.false)) c.put_bad.ensures
