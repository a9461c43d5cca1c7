use Rattle.std.proofs.Common.{◌≡◌, length, Err, arith, rules}
use Rattle.std.specs.Io.KnownBytes.{Consumes}
use Rattle.ckd_image.proofs.Reading.{loaded, failed, fails_header}
use Rattle.image_source.proofs.Sources.{whole_read}
use Rattle.ckd_image.proofs.Unique.{reads_back}
use Rattle.ckd_image.proofs.loader.load.Given as given
use Rattle.ckd_image.proofs.loader.load.Goals as goal

-- the header was read
header_read : (g : given.Over) (c : goal.After-read g) →
    Consumes (g.R.Read.remaining c.args.reader.now) (g.R.Read.remaining c.fill.new.source) c.fill.new.buffer
header_read g c =
    whole_read _ _ c.fill.new.buffer c.in-Ok.count (c.in-Ok.ensures {u = tt})
    (omega (arith, c.fill.auto.buffer, c.if-count-lt-HEADER.false))

pub returns-clause-loaded : goal.returns-clause-loaded
returns-clause-loaded g c =
    loaded c.fill.new.buffer _ (g.R.Read.remaining c.fill.new.source) _ c.read.result (header_read g c) c.read.ensures.loaded

pub returns-clause-fault : goal.returns-clause-fault
returns-clause-fault g c =
    failed c.fill.new.buffer _ (g.R.Read.remaining c.fill.new.source) _ c.read.result (header_read g c) c.read.ensures.fault

pub returns-clause-reads_back : goal.returns-clause-reads_back
returns-clause-reads_back g c = reads_back _ _ c.read.result (returns-clause-loaded g c) (returns-clause-fault g c)

pub returns-then-count-lt-HEADER-clause-fault : goal.returns-then-count-lt-HEADER-clause-fault
returns-then-count-lt-HEADER-clause-fault g c = search rules

pub returns-then-count-lt-HEADER-clause-reads_back : goal.returns-then-count-lt-HEADER-clause-reads_back
returns-then-count-lt-HEADER-clause-reads_back g c = reads_back _ _ (Err _) tt (returns-then-count-lt-HEADER-clause-fault g c)

pub returns-in-Err-clause-fault : goal.returns-in-Err-clause-fault
returns-in-Err-clause-fault g c = λ (known : _).
    let long : length c.fill.new.buffer ≡ 512 = omega (arith, c.fill.auto.buffer) in
    fails_header c.fill.new.buffer _ _ _ c.of.result
    (whole_read _ _ c.fill.new.buffer c.in-Ok.count (c.in-Ok.ensures {u = tt}) (omega (arith, long, c.if-count-lt-HEADER.false)))
    long c.of.ensures c.in-Err.is

pub returns-in-Err-clause-reads_back : goal.returns-in-Err-clause-reads_back
returns-in-Err-clause-reads_back g c = reads_back _ _ (Err _) tt (returns-in-Err-clause-fault g c)
