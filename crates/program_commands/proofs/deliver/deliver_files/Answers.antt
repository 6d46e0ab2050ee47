use Rattle.std.proofs.Common.{◌≡◌, ◌+◌, ◌<◌, ◌++◌, ◌∷◌, ◌∙◌, ℕ, List, [], add-one, ap, append-nil, drop, length, length-append, map, not, nat_eq, subst, sym, arith, refl}
use Rattle.std.specs.Borrow.{Bor}
use Rattle.std.specs.Prelude.{nat_lt, slice_index_or, if◌then◌else◌}
use Rattle.std.specs.Io.KnownBytes.{Appends}
use Rattle.series_rules.specs.Steps.{Asked}
use Rattle.std.proofs.Math.Seq.{drop-cons}
use Rattle.std.proofs.lemmas.List.{length-map}
use Rattle.std.proofs.lemmas.List.Elements.{All-nil, All-push}
use Rattle.std.proofs.KnownBytes.{Appends-nil}
use Rattle.desk_batch.proofs.TalkLemmas.{refusals_then}
use Rattle.desk_texts.specs.Requests.{HasRecords}
use Rattle.desk_batch.specs.Talks.{ended, over, refusals_in}
use Rattle.program_commands.proofs.TalkEnds.{deliveries_end, talk_status}
use Rattle.program_commands.specs.Deliveries.{AreTexts, delivery_of}
use Rattle.program_commands.proofs.InputLemmas.{AreFollowed, followed_more, names_of, texts_alone}
use Rattle.program_commands.proofs.DeliveryLemmas.{not_less, one_file, refused_more, status_by, stopped_at}
use Rattle.program_commands.proofs.deliver.deliver_files.Goals as goal

abbrev nameless : Bor (List ℕ)
nameless = record { ref_ptr = (0, 0); now = [] }

pub loop-name-init : goal.loop-name-init
loop-name-init g c = record {
  texts = [];
  counted = refl;
  follow = λ rest are. are;
  have = All-nil HasRecords;
  steps = [];
  text = [];
  talk = over;
  asked = refl;
  wrote = Appends-nil (g.W.Write.contents c.args.streams.now.output);
  refused = refl;
}

pub loop-name-preserved : goal.loop-name-preserved
loop-name-preserved g c =
    let inv = c.loop-name.invariant in
    let ran = c.in-Ok.ensures in
    let one = ran.2.1 in
    let longer = length-append inv.texts (ran.0 ∷ []) in
    let holds = g.F.NamedFiles.holds c.args.files.now in
    let told = g.R.Read.remaining in
    let names = c.args.names.now in
    let i = c.loop-name.name-index in
    let name : List ℕ = (slice_index_or names i nameless).now in
    let within : i < length names = c.loop-name-test.true in
    let cut : drop i names ≡ slice_index_or names i nameless ∷ drop (i + 1) names = rw add-one (drop-cons names i nameless within) in
    let follow = subst (λ others. AreFollowed holds (told c.args.streams.now.input) (told c.loop-name.streams.input) (names_of names) (names_of others) inv.texts) cut inv.follow in
    let talks = one_file g.D.Desk.seen c.args.precedence.now c.args.desk.now c.loop-name.desk c.deliver_named.new.desk
    (g.W.Write.contents c.args.streams.now.output) (g.W.Write.contents c.loop-name.streams.output) (g.W.Write.contents c.deliver_named.new.streams.output)
    inv.texts inv.steps inv.text inv.talk inv.asked inv.wrote ran.0 ended _ (λ steps stop. steps ≡ inv.steps ++ one.steps) one one.result_is.0 refl in
    record {
      texts = inv.texts ++ ran.0 ∷ [];
      counted = omega (arith, inv.counted, longer);
      follow = followed_more holds (told c.args.streams.now.input) (told c.loop-name.streams.input) (told c.deliver_named.new.streams.input) (names_of names) (names_of (drop (i + 1) names)) name inv.texts ran.0 follow ran.1;
      have = All-push HasRecords inv.texts ran.0 inv.have ran.2.0;
      steps = talks.steps;
      text = talks.text;
      talk = talks.talk;
      asked = talks.were_asked;
      wrote = talks.was_written;
      refused = refused_more _ _ _ inv.refused ∙ ap (λ n. not (nat_eq n 0)) (ap (λ n. refusals_in inv.steps + n) (sym one.result_is.1) ∙ sym (refusals_then inv.steps one.steps));
    }

pub returns-in-Err-clause-end : goal.returns-in-Err-clause-end
returns-in-Err-clause-end g c =
    let inv = c.loop-name.invariant in
    let count = length-map c.args.names.now (λ (name : Bor (List ℕ)). name.now) in
    let ran = c.in-Err.ensures in
    let holds = g.F.NamedFiles.holds c.args.files.now in
    let told = g.R.Read.remaining in
    let names = c.args.names.now in
    let i = c.loop-name.name-index in
    let within : i < length names = c.loop-name-test.true in
    let cut : drop i names ≡ slice_index_or names i nameless ∷ drop (i + 1) names = rw add-one (drop-cons names i nameless within) in
    let follow = subst (λ others. AreFollowed holds (told c.args.streams.now.input) (told c.loop-name.streams.input) (names_of names) (names_of others) inv.texts) cut inv.follow in
    let before = subst (AreTexts holds (told c.args.streams.now.input) (names_of names)) (append-nil inv.texts)
    (texts_alone holds (told c.args.streams.now.input) (told c.loop-name.streams.input) (names_of names) (names_of (drop i names)) inv.texts inv.follow) in
    stopped_at g.D.Desk.seen c.args.precedence.now c.args.desk.now c.loop-name.desk c.deliver_named.new.desk
    (g.W.Write.contents c.args.streams.now.output) (g.W.Write.contents c.loop-name.streams.output) (g.W.Write.contents c.deliver_named.new.streams.output)
    inv.texts inv.steps inv.text inv.talk inv.asked inv.wrote
    holds (told c.args.streams.now.input) (names_of names) inv.have before (omega (arith, inv.counted, count)) c.report_delivery.result c.report_delivery.ensures ran.0 c.in-Err.fault
    (follow (ran.0 ∷ []) (told c.deliver_named.new.streams.input, ran.1, tt))
    ran.2

pub returns-clause-end : goal.returns-clause-end
returns-clause-end g c =
    let inv = c.loop-name.invariant in
    let holds = g.F.NamedFiles.holds c.args.files.now in
    let told = g.R.Read.remaining in
    let names = names_of c.args.names.now in
    let count = length-map c.args.names.now (λ (name : Bor (List ℕ)). name.now) in
    let all : length inv.texts ≡ length names = omega (arith, inv.counted, count) in
    let ends = deliveries_end (Asked g.D.Desk.seen c.args.precedence.now c.args.desk.now c.loop-name.desk) (Appends (g.W.Write.contents c.args.streams.now.output) (g.W.Write.contents c.loop-name.streams.output)) (map delivery_of inv.texts)
    (nat_lt (length inv.texts) (length names)) c.refusal_status.result record {
      steps = inv.steps;
      text = inv.text;
      stop = ended;
      talk = inv.talk;
      were_asked = inv.asked;
      was_written = inv.wrote;
      result_is = status_by _ _ _ c.refusal_status.ensures.is inv.refused ∙ sym (ap (λ b. if b then 3 else talk_status inv.steps ended) (not_less (length inv.texts) (length names) all));
    } in (
      inv.texts,
      subst (AreTexts holds (told c.args.streams.now.input) names) (append-nil inv.texts)
          (texts_alone holds (told c.args.streams.now.input) (told c.loop-name.streams.input) names (names_of (drop c.loop-name.name-index c.args.names.now)) inv.texts inv.follow),
      inv.have,
      ends.0,
      ends.1,
      ends.2,
    )
