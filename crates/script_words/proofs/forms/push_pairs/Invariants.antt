use Rattle.std.proofs.Common.{◌≡◌, ◌≤◌, ◌+◌, ◌/◌, length}
use Rattle.std.specs.Prelude.{vec_len, vec_capacity}
use Rattle.script_words.specs.Forms.{put_after, pairs}
use Rattle.script_words.proofs.forms.push_pairs.Given as goal

abbrev pub invariant-loop-rest : goal.invariant-loop-rest
invariant-loop-rest l = record {
  read : put_after l.bytes.items (pairs l.rest) ≡ put_after l.fn.bytes.items (pairs l.word);
  room : vec_len l.bytes + length l.rest / 2 ≤ vec_capacity l.bytes;
}

abbrev pub decreases-loop-rest : goal.decreases-loop-rest
decreases-loop-rest l = length l.rest
