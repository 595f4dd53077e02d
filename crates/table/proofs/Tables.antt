-- What a checked table's own facts give.
use Rattle.table.specs.Model.{content}
use Rattle.table.specs.Rules.{Checked}
use Rattle.table.specs.declared.checked.Table.{Table}

pub table_checked : (t : Table) → Checked (content t)
table_checked t = t.rules
