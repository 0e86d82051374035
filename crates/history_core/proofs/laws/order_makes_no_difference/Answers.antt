use Rattle.history_core.proofs.Orders.{same_history}
use Rattle.history_core.proofs.laws.order_makes_no_difference.Goals as goal

pub returns-clause-legal : goal.returns-clause-legal
returns-clause-legal c s t history consistent alike legal = (same_history s t history consistent alike legal).0

pub returns-clause-leads : goal.returns-clause-leads
returns-clause-leads c s t history consistent alike legal = (same_history s t history consistent alike legal).1
