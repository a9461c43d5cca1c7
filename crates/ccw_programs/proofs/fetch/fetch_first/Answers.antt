use Rattle.std.proofs.Common.{arith, refl, ◌∙◌, []}
use Rattle.ccw_programs.proofs.Chains.{refused, transferred, last, one_more, chain_within-none}
use Rattle.ccw_programs.proofs.fetch.fetch_first.Goals as goal

pub returns-in-Refused-clause-chain : goal.returns-in-Refused-clause-chain
returns-in-Refused-clause-chain c = (
  _,
  refused _ _ [] c.loop-done.done c.loop-done.may_transfer _ 0 (omega arith) refl c.loop-done.invariant.told
      c.in-Refused.ensures.value,
)

pub returns-in-More-clause-chain : goal.returns-in-More-clause-chain
returns-in-More-clause-chain c =
    one_more _ _ [] c.loop-done.done c.loop-done.may_transfer _ 0 (omega arith) refl c.loop-done.invariant.told _ c.in-More.ensures.value

pub returns-in-Last-clause-chain : goal.returns-in-Last-clause-chain
returns-in-Last-clause-chain c =
    last _ _ [] c.loop-done.done c.loop-done.may_transfer _ 0 (omega arith) refl c.loop-done.invariant.told _ c.in-Last.ensures.value

pub loop-done-preserved : goal.loop-done-preserved
loop-done-preserved c = record {
  told = transferred _ _ [] c.loop-done.done c.loop-done.may_transfer _ 0 (omega arith) refl c.loop-done.invariant.told _
      c.in-Transfer.ensures.value;
}

pub returns-clause-chain : goal.returns-clause-chain
returns-clause-chain c = (_, c.loop-done.invariant.told ∙ chain_within-none _ c.loop-done.done _ _ _ (omega arith))
