use Rattle.std.proofs.Common.{◌≡◌, ◌<◌, ◌≤◌, ℕ, false, get_or, take}
use Rattle.script_words.specs.Text.{is_line_feed, is_printable}
use Rattle.script_words.specs.Scan.{Scanned}
use Rattle.script_words.proofs.words.LineWords.scan.Given as goal

abbrev pub invariant-loop-place : goal.invariant-loop-place
invariant-loop-place l = record {
  scanned : Scanned l.text l.places.starts l.places.ends l.count l.start l.place;
  few : l.count ≤ l.place;
  printable : l.printable ≡ is_printable (take l.place l.text);
  line : (k : ℕ) → k < l.place → is_line_feed (get_or l.text k 0) ≡ false;
}
