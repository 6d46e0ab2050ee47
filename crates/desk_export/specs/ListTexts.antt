-- The texts of what a desk lists.
use Rattle.std.specs.Prelude.{ℕ, List, [], ◌∷◌, map}
use Rattle.std.specs.List.{flat_map}
use Rattle.desk_texts.specs.AnswerText.{text_of}
use Rattle.series_rules.specs.Listing.{agreements_by_name}
use Rattle.onix_records.specs.declared.agreements.Agreement.{Agreement}
use Rattle.series_rules.specs.Gaps.{gaps_of}
use Rattle.series_rules.specs.declared.answers.Answer.TheVariants.{Gaps}
use Rattle.series_rules.specs.declared.requests.Request.{Request}
use Rattle.series_rules.specs.declared.requests.Request.TheVariants.{Agree}
use Rattle.desk_export.specs.Exporting.{texts_of}
use Rattle.desk_export.specs.Exports.{export_of, series_requests}
use Rattle.desk_export.specs.RequestRecords.{request_text}
use Rattle.desk_export.specs.RequestTexts.{batch_text}
use Rattle.desk_export.specs.declared.list_text.Listed.{Listed}
use Rattle.desk_export.specs.declared.list_text.Listed.TheVariants as listed

-- the records of all agreements, in order of name
abbrev pub agreements_text : List Request → List ℕ
agreements_text L = batch_text (map Agree (agreements_by_name L))

-- the report of which numbers a series lacks
abbrev pub report_text : List Request → Agreement → List ℕ
report_text L a = text_of (Gaps (gaps_of L a))

-- the reports of all series, in order of name
abbrev pub reports_text : List Request → List ℕ
reports_text L = flat_map (report_text L) (agreements_by_name L)

-- the text of what is listed of all series
abbrev pub listed_text : Listed → List Request → List ℕ
listed_text listed.Agreements L = agreements_text L
listed_text listed.Gaps L = reports_text L
listed_text listed.Requests L = batch_text (export_of L)

-- the texts of what is listed of a series
abbrev pub series_texts : Listed → List Request → Agreement → List (List ℕ)
series_texts listed.Agreements L a = request_text (Agree a) ∷ []
series_texts listed.Gaps L a = report_text L a ∷ []
series_texts listed.Requests L a = texts_of (series_requests L a)

-- those of all series, in order of name
abbrev pub listed_texts : Listed → List Request → List (List ℕ)
listed_texts what L = flat_map (series_texts what L) (agreements_by_name L)
