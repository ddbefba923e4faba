use Rattle.std.proofs.Common.{rules}
use Rattle.store_side.proofs.page_rows.PageRowsKeptRowsStringRegister.add_value.Goals as goal

pub returns-in_ok-encode-in-Some : goal.returns-in_ok-encode-in-Some
returns-in_ok-encode-in-Some c = (c.in-Some.register.now, search rules, c.in_ok-encode-in-Some.ensures)
