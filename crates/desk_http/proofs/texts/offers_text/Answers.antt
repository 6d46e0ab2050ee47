use Rattle.std.proofs.Common.{◌∙◌, ap, arith, map}
use Rattle.serde_json.specs.Read.{read}
use Rattle.serde_json.specs.View.{items_of}
use Rattle.serde_json.specs.Written.{compact_text}
use Rattle.desk_http.specs.Json.{list_of}
use Rattle.desk_http.specs.private.Sound.{offers_json}
use Rattle.desk_http.proofs.Depths.{list_depth}
use Rattle.desk_http.proofs.Sound.{offers_sound, offers_written, sound_reads}
use Rattle.desk_http.proofs.texts.offers_text.Goals as goal

pub returns-clause-text : goal.returns-clause-text
returns-clause-text g c =
    let f = g.T.ToJson.json_of in
    let offers = items_of (map f c.args.offers.now) in
    offers_written c.args.answer.now c.as_str.result.now offers _ _ _ _ _ _ _ _ _ c.new-text.ensures.bytes c.in_ok-push_key.ensures c.in_ok-push_quoted.ensures c.in_ok-push_key-2.ensures c.in_ok-push_quoted-2.ensures
    c.in_ok-push_key-3.ensures c.in_ok-push_str.ensures.bytes c.in_ok-push_items.ensures.text c.in_ok-push_str-2.ensures.bytes
    ∙ ap (λ isbn. compact_text (offers_json c.args.answer.now isbn (list_of f c.args.offers.now))) c.as_str.ensures.text

pub returns-clause-reads : goal.returns-clause-reads
returns-clause-reads g c =
    let f = g.T.ToJson.json_of in
    let offers = c.args.offers.now in
    ap read (returns-clause-text g c)
    ∙ sound_reads (offers_json c.args.answer.now c.args.isbn.now (list_of f offers)) (offers_sound f c.args.answer.now c.args.isbn.now offers c.in_ok-push_items.ensures.sound) (omega (arith, list_depth f 3 c.requires.shallow offers))
