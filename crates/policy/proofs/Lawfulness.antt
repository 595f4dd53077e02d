-- A lawful order from its five laws, and that of a policy on the tasks of a table.
use Rattle.table.specs.Model.{content}
use Rattle.table.specs.Rules.{TaskSet, Checked}
use Rattle.table.specs.declared.checked.Table.{Table}
use Rattle.table.proofs.Tables.{table_checked}
use Rattle.policy.specs.Order.{Order}
use Rattle.policy.specs.Laws.{Total, Transitive, EarlierFirst, ReachRange, ReachRule, Lawful}

pub lawful : (s : TaskSet) (o : Order) → Total s o → Transitive s o → EarlierFirst s o → ReachRange s o → ReachRule s o → Lawful s o
lawful s o total transitive earlier range rule = record { total = total; transitive = transitive; earlier_first = earlier; reach_range = range; reach_rule = rule }

pub table_laws : {P : Type 0} (m : P → TaskSet → Order) → ((p : P) (s : TaskSet) → Checked s → Total s (m p s)) → ((p : P) (s : TaskSet) → Checked s → Transitive s (m p s)) → ((p : P) (s : TaskSet) → Checked s → EarlierFirst s (m p s)) → ((p : P) (s : TaskSet) → Checked s → ReachRange s (m p s)) → ((p : P) (s : TaskSet) → Checked s → ReachRule s (m p s)) → (p : P) (t : Table) → Lawful (content t) (m p (content t))
table_laws m total transitive earlier range rule p t =
    let s = content t in
    let checked = table_checked t in
    lawful s (m p s) (total p s checked) (transitive p s checked) (earlier p s checked) (range p s checked) (rule p s checked)
