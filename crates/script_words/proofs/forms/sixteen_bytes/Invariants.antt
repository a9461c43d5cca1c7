use Rattle.std.proofs.Common.{◌≡◌, ◌*◌, length, take, drop}
use Rattle.script_words.specs.Forms.{put_after, pairs}
use Rattle.script_words.proofs.forms.sixteen_bytes.Given as goal

abbrev pub invariant-loop-place : goal.invariant-loop-place
invariant-loop-place l = record {
  read : put_after (take l.place l.bytes) (pairs (drop (2 * l.place) l.word)) ≡ pairs l.word;
  room : length l.bytes ≡ 16;
}
