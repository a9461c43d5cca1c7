use Rattle.std.proofs.Common.{arith, refl, ◌∙◌, ap}
use Rattle.std.proofs.lemmas.List.Elements.{All-push}
use Rattle.ccw_programs.specs.Links.{Sound, behind_all}
use Rattle.ccw_programs.proofs.Chains.{refused, transferred, last, one_more, behind_all-broken, chain_within-none}
use Rattle.ccw_programs.proofs.fetch.fetch_on.Goals as goal
use Rattle.ccw_programs.proofs.fetch.fetch_on.Goals.{in-Transfer, in-More}

pub returns-in-Refused-clause-chain : goal.returns-in-Refused-clause-chain
returns-in-Refused-clause-chain c =
    refused _ _ c.loop-done.links.items c.loop-done.done c.loop-done.may_transfer _ c.len.result
    (omega arith) c.len.ensures.value c.loop-done.invariant.told c.in-Refused.ensures.value
    ∙ rw (c.broken_rule-rule.ensures, c.len.ensures.value, c.len-in-Refused.ensures.value) refl

pub returns-in-Last-clause-chain : goal.returns-in-Last-clause-chain
returns-in-Last-clause-chain c =
    last _ _ c.loop-done.links.items c.loop-done.done c.loop-done.may_transfer _ c.len.result
    (omega arith) c.len.ensures.value c.loop-done.invariant.told _ c.in-Last.ensures.value
    ∙ rw c.push-in-Last.ensures.items refl

pub loop-done-preserved : goal.loop-done-preserved
loop-done-preserved c =
    elim c.match-fetch_at.branch [
      | in-Transfer w ↦ record {
        told = rw (w.links-is, w.at-is, w.may_transfer-is)
            (transferred _ _ c.loop-done.links.items c.loop-done.done c.loop-done.may_transfer _ c.len.result
            (omega arith) c.len.ensures.value c.loop-done.invariant.told _ w.in-Transfer.ensures.value);
        sound = rw w.links-is c.loop-done.invariant.sound;
      }
      | in-More w ↦ record {
        told = rw (w.links-is, w.at-is, w.may_transfer-is, w.push.ensures.items)
            (one_more _ _ c.loop-done.links.items c.loop-done.done c.loop-done.may_transfer _ c.len.result
            (omega arith) c.len.ensures.value c.loop-done.invariant.told _ w.in-More.ensures.value);
        sound = rw (w.links-is, w.push.ensures.items)
            (All-push Sound _ _ c.loop-done.invariant.sound
            (record { in_storage = w.in-More.ensures.tells.0; counted = w.in-More.ensures.tells.2 }));
      }
    ]

pub returns-in-Last-clause-sound : goal.returns-in-Last-clause-sound
returns-in-Last-clause-sound c =
    rw c.push-in-Last.ensures.items
    (All-push Sound _ _ c.loop-done.invariant.sound
    (record { in_storage = c.in-Last.ensures.tells.0; counted = c.in-Last.ensures.tells.2 }))

pub returns-clause-chain : goal.returns-clause-chain
returns-clause-chain c = c.loop-done.invariant.told ∙ ap (behind_all c.loop-done.links.items)
    (chain_within-none _ c.loop-done.done _ _ _ (omega arith)) ∙ behind_all-broken c.loop-done.links.items _ _
