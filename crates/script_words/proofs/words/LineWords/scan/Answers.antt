use Rattle.std.proofs.Common.{◌≡◌, ◌<◌, ◌≤◌, ◌≢◌, get_or, length, arith}
use Rattle.std.proofs.lemmas.Bool.{ne_eqb}
use Rattle.script_words.proofs.Scans.{closed_line, after_space, after_byte, plain_byte, other_byte, plain_more, plain_less, line_goes_on}
use Rattle.script_words.proofs.Scans.{line_stops, line_is_last}
use Rattle.script_words.proofs.words.LineWords.scan.Goals as goal
use Rattle.script_words.proofs.words.LineWords.scan.Goals.{in-32, in_default, else-byte-ge33-via-else-byte-ge33}
use Rattle.script_words.proofs.words.LineWords.scan.Goals.{else-byte-ge33-via-then-byte-ge33+else-byte-le126}

pub invariant_of-self : goal.invariant_of-self
invariant_of-self c =
    let within : c.loop-place.place ≤ length c.args.text.now = omega (arith, c.loop-place-test.true) in
    record {
      closed = closed_line c.args.text.now c.split_at.result.0.now c.close-self.new.self.starts c.close-self.new.self.ends
          c.close-self.result c.loop-place.place c.split_at.ensures.front within c.close-self.ensures.closed;
      bytes = rw c.split_at.ensures.front c.loop-place.invariant.printable;
    }

pub returns-in-10-clause-line : goal.returns-in-10-clause-line
returns-in-10-clause-line c =
    rw c.split_at.ensures.front
    (line_stops c.args.text.now c.split_at-in-10.result.1.now c.loop-place.place c.loop-place-test.true c.loop-place.invariant.line
    c.in-10.is
    c.split_at-in-10.ensures.back)

pub returns-clause-line : goal.returns-clause-line
returns-clause-line c = line_is_last c.args.text.now c.loop-place.place c.loop-place-test.false c.loop-place.invariant.line

pub loop-place-preserved-then-byte-le126 : goal.loop-place-preserved-then-byte-le126
loop-place-preserved-then-byte-le126 c =
    let text = c.args.text.now in
    let at = c.loop-place.place in
    let b = get_or text at 0 in
    let old = c.loop-place.places in
    let i = c.loop-place.invariant in
    let low : 33 ≤ b = omega arith in
    let high : b ≤ 126 = omega arith in
    record {
      scanned = after_byte text old.starts old.ends c.loop-place.count c.loop-place.start at c.loop-place-test.true (ne_eqb b 32 (λ e. omega (arith, e, low)))
          i.scanned;
      few = omega (arith, i.few);
      printable = plain_more text at c.loop-place.printable c.loop-place-test.true (plain_byte b (omega arith) high) i.printable;
      line = line_goes_on text at (ne_eqb b 10 (λ e. omega (arith, e, low))) i.line;
    }

pub loop-place-preserved : goal.loop-place-preserved
loop-place-preserved c =
    let text = c.args.text.now in
    let at = c.loop-place.place in
    let b = get_or text at 0 in
    let old = c.loop-place.places in
    let i = c.loop-place.invariant in
    elim c.match-byte.branch [
      | in-32 w ↦ (let is : b ≡ 32 = w.in-32.is in rw (w.places-is, w.count-is, w.start-is, w.printable-is) (record {
        scanned = after_space text w.close-count.new.self.starts w.close-count.new.self.ends w.close-count.result at c.loop-place-test.true is
            w.close-count.ensures.closed;
        few = w.close-count.ensures.few;
        printable = plain_more text at c.loop-place.printable c.loop-place-test.true (plain_byte b (omega (arith, is)) (omega (arith, is)))
            i.printable;
        line = line_goes_on text at (ne_eqb b 10 (λ e. omega (arith, e, is))) i.line;
      }))
      | in_default w ↦ (
          let blank : b ≢ 32 = λ e. omega arith in
          let feed : b ≢ 10 = λ e. omega arith in
          let far : 33 ≤ b → 126 < b =
          λ h. elim c.else-byte-ge33.branch
          [ else-byte-ge33-via-else-byte-ge33 v ↦ absurd (omega arith) | else-byte-ge33-via-then-byte-ge33+else-byte-le126 v ↦ omega arith ]
          in
          rw (w.places-is, w.count-is, w.start-is, w.printable-is) (record {
            scanned = after_byte text old.starts old.ends c.loop-place.count c.loop-place.start at c.loop-place-test.true (ne_eqb b 32 blank) i.scanned;
            few = omega (arith, i.few);
            printable = plain_less text at c.loop-place-test.true (other_byte b blank far);
            line = line_goes_on text at (ne_eqb b 10 feed) i.line;
          }))
    ]
