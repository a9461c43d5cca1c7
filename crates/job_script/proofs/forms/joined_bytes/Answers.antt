use Rattle.std.proofs.Common.{refl}
use Rattle.script_words.specs.Text.{words}
use Rattle.script_words.proofs.Joining.{joined_more, joined_ends}
use Rattle.job_script.proofs.Joining.{joined_fails}
use Rattle.job_script.proofs.forms.joined_bytes.Goals as goal

pub words-preserved : goal.words-preserved
words-preserved c =
    joined_more c.words.bytes.items c.push_bytes.new.bytes.items c.in-Some.word.now (words c.words.left.now) (words c.in-Some.rest.now) _
    c.in-Some.ensures c.in_default-push_bytes.ensures c.words.invariant

pub returns-in-Err : goal.returns-in-Err
returns-in-Err c =
    joined_fails c.in-Err.error c.no_bytes.result c.words.bytes.items c.push_bytes.new.bytes.items c.in-Some.word.now
    (words c.words.left.now)
    (words c.in-Some.rest.now) _ c.in-Some.ensures c.in-Err.ensures c.words.invariant c.no_bytes.ensures

pub returns : goal.returns
returns c = rw (joined_ends c.words.bytes.items (words c.words.left.now) _ c.in_default.ensures c.words.invariant) refl
