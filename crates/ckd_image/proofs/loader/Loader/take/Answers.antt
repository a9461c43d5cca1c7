use Rattle.std.proofs.Common.{◌≡◌, ◌+◌, ◌-◌, ◌∷◌, [], ◌++◌, ℕ, List, Bool, true, false, not, length, drop, take, refl, sym, ap, subst, ◌∙◌, arith}
use Rattle.std.specs.Cmp.Lexicographic.{pointwise}
use Rattle.std.specs.Prelude.{nat_eq}
use Rattle.std.proofs.lemmas.Bool.Decides.{Decides-eqb}
use Rattle.std.proofs.lemmas.List.{take_all, length-drop}
use Rattle.std.proofs.lemmas.Slice.Eq.{slice_eq-Decides}
use Rattle.ckd_image.specs.declared.fault.CkdError.{CkdError}
use Rattle.ckd_image.specs.Image.{KeptTrackState, home_of}
use Rattle.ckd_image.specs.Loading.{FailsTrack, is_home}
use Rattle.ckd_image.proofs.Tracks.{taken, refused}
use Rattle.ckd_image.proofs.loader.Loader.take.Goals as goal

not_false : (b : Bool) → not b ≡ false → b ≡ true
not_false true e = refl
not_false false e = sym e

rest_of : (n : ℕ) (bytes : List ℕ) → take (length bytes - n) (drop n bytes) ≡ drop n bytes
rest_of n bytes = take_all (length bytes - n) (drop n bytes) (omega (arith, length-drop n bytes))

pub returns-in-Err-clause-fault : goal.returns-in-Err-clause-fault
returns-in-Err-clause-fault c =
    let s = c.args.self.now in
    let track = c.args.track.now in
    let address-is : c.as_slice.result.now ≡ home_of s.format.heads (length s.volume.tracks) =
    c.as_slice.ensures ∙ c.address-address.ensures ∙ ap (home_of s.format.heads) c.tracks-number.ensures.tracks in
    let home : is_home s.format.heads (length s.volume.tracks) track ≡ true =
    ap (λ (l : List ℕ). pointwise nat_eq (take 4 (drop 1 track)) l) (sym address-is)
    ∙ not_false _ (sym c.ne.ensures ∙ c.if-ne.false) in
    subst (λ (e : CkdError). FailsTrack s.format s.volume track e.fault e.offset) (sym c.track_fault.ensures)
    (refused s.format s.volume c.record_track.new.self track _ c.in-Err.error home (rest_of 5 track) ((c.in-Err.ensures {u = tt}).answer))

pub returns-clause-taken : goal.returns-clause-taken
returns-clause-taken c =
    let s = c.args.self.now in
    let track = c.args.track.now in
    let body = take (length track - 5) (drop 5 track) in
    let used = c.in-Ok.used in
    let tail = take (length body - (used + 8)) (drop (used + 8) body) in
    let address-is : c.as_slice.result.now ≡ home_of s.format.heads (length s.volume.tracks) =
    c.as_slice.ensures ∙ c.address-address.ensures ∙ ap (home_of s.format.heads) c.tracks-number.ensures.tracks in
    let home : is_home s.format.heads (length s.volume.tracks) track ≡ true =
    ap (λ (l : List ℕ). pointwise nat_eq (take 4 (drop 1 track)) l) (sym address-is)
    ∙ not_false _ (sym c.ne.ensures ∙ c.if-ne.false) in
    let same : take 4 (drop 1 track) ≡ home_of s.format.heads (length s.volume.tracks) =
    (slice_eq-Decides Decides-eqb _ _ _ (sym home)).0 refl in
    let pushed = (c.in-Ok-push.ensures {u = tt}).items ∙ ap (λ (k : KeptTrackState). s.tracks.items ++ k ∷ []) c.new.ensures in
    taken s.format s.volume c.record_track.new.self track body tail c.in-Ok-kept_tail.tail.items s.tracks.items c.push.new.self.items
    s.zeros.items used c.requires.loader c.requires.long same (rest_of 5 track) ((c.in-Ok.ensures {u = tt}).answer)
    (rest_of (used + 8) body) (c.in-Ok-kept_tail.ensures {u = tt}) pushed
