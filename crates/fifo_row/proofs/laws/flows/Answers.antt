use Rattle.fifo_row.proofs.Flowing.{seated_flows, met_flows, of_senders, keeps_facts}
use Rattle.fifo_row.proofs.laws.flows.Goals as goal

pub returns-clause-seated : goal.returns-clause-seated
returns-clause-seated g c = seated_flows g.I.RowItem.from g.I.RowItem.fact

pub returns-clause-met : goal.returns-clause-met
returns-clause-met g c = met_flows g.I.RowItem.from g.I.RowItem.fact

pub returns-clause-of_senders : goal.returns-clause-of_senders
returns-clause-of_senders g c = of_senders g.I.RowItem.from g.I.RowItem.fact

pub returns-clause-facts : goal.returns-clause-facts
returns-clause-facts g c = keeps_facts g.I.RowItem.from g.I.RowItem.fact
