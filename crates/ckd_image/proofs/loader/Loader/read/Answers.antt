use Rattle.std.proofs.Common.{◌≡◌, ◌+◌, Vec, Global, ℕ, List, length, refl, sym, ap, subst, ◌∙◌, arith, rules}
use Rattle.std.proofs.lemmas.List.{with_items_is}
use Rattle.ckd_image.specs.declared.format.Format.{Format}
use Rattle.ckd_image.specs.Loading.{TakesTrack, FailsTrack}
use Rattle.ckd_image.proofs.Reading.{Far, far_start, far_more, fails_track, Ends, ends}
use Rattle.image_source.proofs.Sources.{whole_read}
use Rattle.ckd_image.proofs.loader.Loader.read.Given as given
use Rattle.ckd_image.proofs.loader.Loader.read.Goals as goal

pub tracks-init : goal.tracks-init
tracks-init g c =
    let s = c.args.self in
    record {
      far = far_start s.format c.args.header (g.R.Read.remaining c.args.reader.now) s.volume s.tracks.items s.zeros.items
          c.requires.loader c.requires.header c.requires.long c.requires.empty;
      bytes = refl;
      buffer = search rules;
    }

at_end : (g : given.Over) (c : goal.After-drop-buffer-then-count-bytes g) →
    Ends c.args.header (g.R.Read.remaining c.args.reader.now) (g.R.Read.remaining c.fill.new.source) c.end.result
at_end g c =
    let s = c.tracks.self in
    let i = c.tracks.invariant in
    let long : length c.fill.new.buffer ≡ s.format.bytes = c.fill.auto.buffer ∙ ap length c.deref_mut.ensures.value ∙ i.buffer ∙ i.bytes in
    ends s.format c.args.header _ (g.R.Read.remaining c.tracks.reader) _ s.volume s.tracks.items s.zeros.items c.fill.new.buffer
    c.tracks.offset c.in-Ok-fill.count c.end.result i.far (c.in-Ok-fill.ensures {u = tt})
    (omega (arith, long, i.bytes, c.if-count-bytes.true))
    long c.end.ensures

pub returns-then-count-bytes-clause-loaded : goal.returns-then-count-bytes-clause-loaded
returns-then-count-bytes-clause-loaded g c = (at_end g c).loaded

pub returns-then-count-bytes-clause-fault : goal.returns-then-count-bytes-clause-fault
returns-then-count-bytes-clause-fault g c = (at_end g c).fault

pub returns-in-Err-clause-fault : goal.returns-in-Err-clause-fault
returns-in-Err-clause-fault g c = λ (known : _).
    let s = c.tracks.self in
    let i = c.tracks.invariant in
    let long : length c.fill.new.buffer ≡ s.format.bytes = c.fill.auto.buffer ∙ ap length c.deref_mut.ensures.value ∙ i.buffer ∙ i.bytes in
    let track-is = c.deref.ensures.value ∙ with_items_is c.tracks.buffer c.fill.new.buffer (search rules) in
    fails_track s.format c.args.header _ (g.R.Read.remaining c.tracks.reader) _ s.volume s.tracks.items s.zeros.items c.fill.new.buffer
    c.tracks.offset c.in-Err.error.fault c.in-Err.error.offset i.far
    (whole_read _ _ c.fill.new.buffer c.in-Ok-fill.count (c.in-Ok-fill.ensures {u = tt})
    (omega (arith, long, i.bytes, c.if-count-bytes.false)))
    long
    (subst (λ (l : List ℕ). FailsTrack s.format s.volume l c.in-Err.error.fault c.in-Err.error.offset) track-is
    ((c.in-Err.ensures {u = tt}).fault))

pub tracks-preserved : goal.tracks-preserved
tracks-preserved g c =
    let s = c.tracks.self in
    let t = c.take.new.self in
    let i = c.tracks.invariant in
    let header = c.args.header in
    let old = g.R.Read.remaining c.args.reader.now in
    let next = g.R.Read.remaining c.fill.new.source in
    let long : length c.fill.new.buffer ≡ s.format.bytes = c.fill.auto.buffer ∙ ap length c.deref_mut.ensures.value ∙ i.buffer ∙ i.bytes in
    let kept = with_items_is c.tracks.buffer c.fill.new.buffer (search rules) in
    let takes : TakesTrack s.format c.fill.new.buffer s.volume t.volume s.tracks.items t.tracks.items =
    subst (λ (l : List ℕ). TakesTrack s.format l s.volume t.volume s.tracks.items t.tracks.items) (c.deref.ensures.value ∙ kept)
    ((c.in-Ok-take.ensures {u = tt}).taken) in
    let read = whole_read _ _ c.fill.new.buffer c.in-Ok-fill.count (c.in-Ok-fill.ensures {u = tt})
    (omega (arith, long, i.bytes, c.if-count-bytes.false)) in
    let far = far_more s.format header old (g.R.Read.remaining c.tracks.reader) next
    s.volume t.volume s.tracks.items t.tracks.items s.zeros.items
    c.fill.new.buffer c.tracks.offset i.far read long takes in
    let off = c.tracks.offset + c.args.self.format.bytes in
    let blank = ap (λ (z : Vec ℕ Global). z.items) c.take.ensures.zeros in
    let here = subst (λ (n : ℕ). Far s.format header old next t.volume t.tracks.items s.zeros.items (c.tracks.offset + n))
    (sym i.bytes) far in
    let zeros = subst (λ (z : List ℕ). Far s.format header old next t.volume t.tracks.items z off) (sym blank) here in
    record {
      far = subst (λ (x : Format). Far x header old next t.volume t.tracks.items t.zeros.items off) (sym c.take.ensures.format) zeros;
      bytes = i.bytes ∙ ap (λ (x : Format). x.bytes) (sym c.take.ensures.format);
      buffer = ap length kept ∙ long ∙ sym i.bytes;
    }
