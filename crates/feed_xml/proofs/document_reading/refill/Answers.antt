use Rattle.std.proofs.Common.{◌≡◌, ◌∙◌, ℕ, List, [], append-nil, take, drop, take_at, length, refl, sym, ap, subst, arith}
use Rattle.std.specs.Io.KnownBytes.{Consumes}
use Rattle.feed_xml.specs.Encodings.{decoded}
use Rattle.feed_xml.proofs.EncodingLaws.{ends_too, read_bytes, read_none}
use Rattle.feed_xml.proofs.document_reading.refill.Goals as goal

pub returns-in-Ok-eq0-clause-read : goal.returns-in-Ok-eq0-clause-read
returns-in-Ok-eq0-clause-read g c =
    let zero : c.in-Ok-eq0.field-0 ≡ 0 = omega (arith, c.in-Ok-eq0.field-0-test) in
    let b = c.in-Ok-eq0.ensures.bytes in (
      [],
      (sym (append-nil c.args.window.now.items), refl, c.requires.small),
      read_none c.args.encoding (g.R.Read.remaining c.args.reader.now) (g.R.Read.remaining c.read.new.self) (take c.in-Ok-eq0.field-0 c.read.new.buf) (ap (λ (n : ℕ). take n c.read.new.buf) zero) b.0,
      λ _. refl,
    )

pub returns-in-Ok-eq0-clause-end : goal.returns-in-Ok-eq0-clause-end
returns-in-Ok-eq0-clause-end g c =
    let zero : c.in-Ok-eq0.field-0 ≡ 0 = omega (arith, c.in-Ok-eq0.field-0-test) in
    λ _. ends_too c.args.encoding (g.R.Read.remaining c.read.new.self) (c.in-Ok-eq0.ensures.bytes.1 zero (omega (arith, c.args.chunk.now.ok.0)))

pub returns-in_ok-next-in-Ok-clause-read : goal.returns-in_ok-next-in-Ok-clause-read
returns-in_ok-next-in-Ok-clause-read g c =
    let before = g.R.Read.remaining c.args.reader.now in
    let behind = g.R.Read.remaining c.read.new.self in
    let b = c.in-Ok.ensures.bytes in
    let room : length c.read.new.buf ≡ c.args.chunk.now.len = omega (arith, c.args.chunk.now.ok.0) in
    let shown : c.deref.result.now ≡ c.read.new.buf =
    c.deref.ensures.value ∙ take_at c.read.new.buf (drop (length c.read.new.buf) c.args.chunk.now.items) c.args.chunk.now.len room in
    let bytes = take c.in-Ok.n c.deref.result.now in (
      decoded c.args.encoding bytes,
      c.in_ok-next-in-Ok.ensures.grows,
      read_bytes c.args.encoding before behind bytes (subst (λ (l : List ℕ). Consumes before behind (take c.in-Ok.n l)) (sym shown) b.0),
      λ e. absurd cc,
    )
