use Rattle.flow_graph.proofs.Orders.{order_different, order_found}
use Rattle.proved_laws.proofs.flow.order_is_executed.Goals as goal

pub returns-clause-all : goal.returns-clause-all
returns-clause-all c = λ loads notes start place order is executed.
    (order_found loads notes start order is).all place executed

pub returns-clause-only : goal.returns-clause-only
returns-clause-only c = λ loads notes start place order is there.
    (order_found loads notes start order is).only place there

pub returns-clause-once : goal.returns-clause-once
returns-clause-once c = λ loads notes start order is. order_different loads notes start order is
