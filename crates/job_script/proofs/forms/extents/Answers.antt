use Rattle.std.proofs.Common.{◌≡◌, refl, Some, None, rules}
use Rattle.script_words.specs.Text.{words}
use Rattle.script_words.proofs.Joining.{each_more, each_stops, each_ends}
use Rattle.job_script.specs.Forms.{extent}
use Rattle.job_script.proofs.forms.extents.Goals as goal

pub returns-in_default-extent : goal.returns-in_default-extent
returns-in_default-extent c =
    let one : extent c.in-Some.word.now ≡ None = search rules in
    rw (each_stops extent c.words.extents.items c.in-Some.word.now (words c.words.left.now)
    (words c.in-Some.rest.now) _ c.in-Some.ensures one c.words.invariant)
    refl

pub words-preserved : goal.words-preserved
words-preserved c =
    let one : extent c.in-Some.word.now ≡ Some c.in-Some-extent.extent = search rules in
    rw c.in_ok-push.ensures.items
    (each_more extent c.words.extents.items c.in-Some-extent.extent c.in-Some.word.now (words c.words.left.now) (words c.in-Some.rest.now) _
    c.in-Some.ensures one c.words.invariant)

pub returns : goal.returns
returns c = rw (each_ends extent c.words.extents.items (words c.words.left.now) _ c.in_default.ensures c.words.invariant) refl
