use Rattle.std.proofs.Common.{◌≡◌, ◌-◌, ◌∷◌, [], ◌++◌, ℕ, List, length, take, ap, ◌∙◌}
use Rattle.std.proofs.lemmas.Result.{on_ok_weaker}
use Rattle.ckd_disk.specs.Volume.{end_mark}
use Rattle.ckd_image.proofs.Writing.{put_together}
use Rattle.ckd_image.proofs.saver.put_track.Goals as goal

pub returns-clause-put : goal.returns-clause-put
returns-clause-put c =
    let bytes = c.args.bytes in
    let flag = c.args.flag in
    let address = c.args.address.now in
    let records = c.args.records.now in
    let tail = c.args.tail.now in
    let zeros = c.args.zeros.now in
    let m = c.min.result in
    let start = c.clear.new.self.items in
    let four : c.append-4.new.buffer.items ≡ ((((start ++ flag ∷ []) ++ address) ++ records) ++ end_mark) ++ take m tail =
    (c.in_ok-append-4.ensures {u = tt}).appended
    ∙ ap (λ (l : List ℕ). l ++ take m tail) ((c.in_ok-append-3.ensures {u = tt}).appended)
    ∙ ap (λ (l : List ℕ). (l ++ end_mark) ++ take m tail) ((c.in_ok-append-2.ensures {u = tt}).appended)
    ∙ ap (λ (l : List ℕ). ((l ++ records) ++ end_mark) ++ take m tail) ((c.in_ok-append.ensures {u = tt}).appended)
    ∙ ap (λ (l : List ℕ). (((l ++ address) ++ records) ++ end_mark) ++ take m tail) ((c.in-Ok.ensures {u = tt}).items) in
    let last = take (bytes - 13 - length records - length (take m tail)) zeros in
    on_ok_weaker c.append-5.result
    (λ (h : c.append-5.new.buffer.items ≡ c.append-4.new.buffer.items ++ last). h ∙ ap (λ (l : List ℕ). l ++ last) four
    ∙ put_together bytes flag m address records tail zeros start c.clear.ensures.items c.requires.zeros c.min.ensures)
    c.append-5.ensures.appended
