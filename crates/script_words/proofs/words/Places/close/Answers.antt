use Rattle.script_words.proofs.Scans.{closes_kept, closes_past, closes_none}
use Rattle.script_words.proofs.words.Places.close.Goals as goal
use Rattle.script_words.proofs.words.Places.close.Goals.{then-count-lt8, else-count-lt8}

pub returns-then-start-place-clause-closed : goal.returns-then-start-place-clause-closed
returns-then-start-place-clause-closed c =
    let s = c.args.self.now in
    closes_none c.args.text.now s.starts s.ends c.args.count c.args.start c.args.place c.if-start-place.true c.requires.scanned

pub returns-clause-closed : goal.returns-clause-closed
returns-clause-closed c =
    let s = c.args.self.now in
    elim c.if-count-lt8.branch [
      | then-count-lt8 w ↦ rw w.self-is
          (closes_kept c.args.text.now s.starts s.ends c.args.count c.args.start c.args.place c.requires.inside c.if-start-place.false
          w.if-count-lt8.true c.requires.scanned)
      | else-count-lt8 w ↦ rw w.self-is
          (closes_past c.args.text.now s.starts s.ends c.args.count c.args.start c.args.place c.requires.inside c.if-start-place.false
          w.if-count-lt8.false c.requires.scanned)
    ]
