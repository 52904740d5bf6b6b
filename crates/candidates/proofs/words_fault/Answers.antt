-- `candidates::words_fault` meets its contract.
use Rattle.std.proofs.Common.{◌≡◌, refl, ◌||◌, length}
use Rattle.refusals.specs.Checks.{pass, stop}
use Rattle.faults.specs.Tables.{too_many_tables, broken_tables, broken_keys, too_many_entries, broken_entries}
use Rattle.candidates.proofs.words_fault.Goals as goal

pub returns-then-too_many_tables-too_many_entries : goal.returns-then-too_many_tables-too_many_entries
returns-then-too_many_tables-too_many_entries c =
    let many : c.too_many_tables.result || c.too_many_entries.result ≡ too_many_tables c.args.tables.now || too_many_entries c.args.over.now = rw (c.too_many_tables.ensures, c.too_many_entries.ensures) in
    stop 4 _ many c.if-too_many_tables-too_many_entries.true

pub returns-then-broken_tables-keys_out : goal.returns-then-broken_tables-keys_out
returns-then-broken_tables-keys_out c =
    let many : c.too_many_tables.result || c.too_many_entries.result ≡ too_many_tables c.args.tables.now || too_many_entries c.args.over.now = rw (c.too_many_tables.ensures, c.too_many_entries.ensures) in
    let broken : c.broken_tables.result || (c.broken_keys-keys_out.result || c.broken_entries.result) ≡ broken_tables c.args.tables.now || (broken_keys (length c.args.keys.now) c.args.tables.now || broken_entries c.args.over.now) = rw (c.broken_tables.ensures, c.broken_keys-keys_out.ensures, c.broken_entries.ensures) in
    pass 4 many c.if-too_many_tables-too_many_entries.false (stop 5 _ broken c.if-broken_tables-keys_out.true)

pub returns : goal.returns
returns c =
    let many : c.too_many_tables.result || c.too_many_entries.result ≡ too_many_tables c.args.tables.now || too_many_entries c.args.over.now = rw (c.too_many_tables.ensures, c.too_many_entries.ensures) in
    let broken : c.broken_tables.result || (c.broken_keys-keys_out.result || c.broken_entries.result) ≡ broken_tables c.args.tables.now || (broken_keys (length c.args.keys.now) c.args.tables.now || broken_entries c.args.over.now) = rw (c.broken_tables.ensures, c.broken_keys-keys_out.ensures, c.broken_entries.ensures) in
    pass 4 many c.if-too_many_tables-too_many_entries.false (pass 5 broken c.if-broken_tables-keys_out.false refl)
