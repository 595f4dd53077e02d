-- The order that a table's own policy code asks for; Bands is Fixed over Deadline with the table's band.
use Rattle.table.specs.Rules.{TaskSet}
use Rattle.table.specs.declared.kinds.PolicyCode.{PolicyCode}
use Rattle.table.specs.declared.kinds.PolicyCode.TheVariants.{Fixed, Deadline, Arrival, Bands}
use Rattle.policy.specs.Order.{Order}
use Rattle.policy.specs.Orders.{fixed_order, deadline_order, arrival_order, bands_order}

abbrev pub order_of : PolicyCode → TaskSet → Order
order_of Fixed s = fixed_order s
order_of Deadline s = deadline_order s
order_of Arrival s = arrival_order
order_of Bands s = bands_order s.band (fixed_order s) (deadline_order s)

abbrev pub chosen_order : TaskSet → Order
chosen_order s = order_of s.policy s
