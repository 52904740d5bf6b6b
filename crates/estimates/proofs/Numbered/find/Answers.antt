-- `estimates::Numbered::find` meets its contract.
use Rattle.std.proofs.Common.{◌≡◌, rules, sym, ◌∙◌, ap, length}
use Rattle.records.specs.declared.tables.Table.{Table}
use Rattle.lookups.specs.Found.{lookup_empty, lookup-found, lookup_missing}
use Rattle.estimates.proofs.Numbered.find.Goals as goal

pub returns-then-is_empty : goal.returns-then-is_empty
returns-then-is_empty c =
    let none : length c.args.self.now.order.now ≡ 0 = search rules in
    sym (lookup_empty _ _ (sym (ap length c.args.self.now.in_order) ∙ none))

pub returns-then-t-number : goal.returns-then-t-number
returns-then-t-number c =
    let e = c.table-t.ensures in
    rw e (sym (lookup-found _ _ _ c.first_from.ensures (sym (ap (λ (t : Table). t.number) e) ∙ c.if-t-number.true)))

pub returns : goal.returns
returns c =
    sym (lookup_missing _ _ _ c.first_from.ensures (λ f. c.if-t-number.false (ap (λ (t : Table). t.number) c.table-t.ensures ∙ f)))
