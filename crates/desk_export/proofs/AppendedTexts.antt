-- Texts that are written one behind the other.
use Rattle.std.proofs.Common.{◌≡◌, ◌++◌, ◌∷◌, ◌∙◌, ℕ, List, [], Option, Result, Ok, Err, inl, inr, refl, sym, ap, append_assoc, subst, map}
use Rattle.std.specs.Prelude.{OnErr, OnOk}
use Rattle.std.specs.FinMap.{entries}
use Rattle.std.specs.List.{flat_map}
use Rattle.std.specs.Io.KnownBytes.{Appends}
use Rattle.std.proofs.KnownBytes.{Appends-nil, Appends-trans}
use Rattle.std.proofs.lemmas.Grind.{flat_map-append}
use Rattle.std.proofs.lemmas.List.{map-append}
use Rattle.std.proofs.lemmas.List.Folds.{flat_map-map}
use Rattle.csv.specs.Writing.{default_writer, row_text}
use Rattle.csv_records.specs.RecordTexts.{records_text}
use Rattle.onix_records.specs.declared.agreements.Agreement.{Agreement}
use Rattle.series_rules.specs.Agreements.{agreements_of}
use Rattle.series_rules.specs.Offers.{by_name}
use Rattle.series_rules.specs.declared.requests.Request.{Request}
use Rattle.series_rules.specs.declared.requests.Request.TheVariants.{Agree}
use Rattle.series_rules.specs.Listing.{agreements_by_name}
use Rattle.desk_export.specs.Exporting.{AppendsFront, Takes, TakesAll, TakesSome, texts_of}
use Rattle.desk_export.specs.Exports.{export_of, series_requests}
use Rattle.desk_export.specs.ListTexts.{listed_text, listed_texts, report_text}
use Rattle.desk_export.specs.RequestRecords.{request_records, request_text}
use Rattle.desk_export.specs.RequestTexts.{batch_text}
use Rattle.desk_export.specs.declared.list_text.Listed.{Listed}
use Rattle.desk_export.specs.declared.list_text.Listed.TheVariants as listed

-- the text of requests is their texts, one behind the other
pub batch_texts : (rs : List Request) → batch_text rs ≡ flat_map request_text rs
unfolding batch_text records_text
batch_texts [] = refl
batch_texts (r ∷ rs) =
    flat_map-append (row_text default_writer) (request_records r) (flat_map request_records rs)
    ∙ ap (λ text. request_text r ++ text) (batch_texts rs)

agree_texts : (agreements : List Agreement) → batch_text (map Agree agreements) ≡ flat_map (λ a. request_text (Agree a)) agreements
agree_texts agreements = batch_texts (map Agree agreements) ∙ flat_map-map request_text Agree agreements

-- texts of which each stands alone
singles : {X : Type 0} (f : X → List ℕ) (xs : List X) → flat_map (λ text. text) (flat_map (λ x. f x ∷ []) xs) ≡ flat_map f xs
singles f [] = refl
singles f (x ∷ xs) = ap (λ text. f x ++ text) (singles f xs)

-- the texts of the requests of all
mapped : {X Y Z : Type 0} (f : X → List Y) (g : Y → Z) (xs : List X) → flat_map (λ x. map g (f x)) xs ≡ map g (flat_map f xs)
mapped f g [] = refl
mapped f g (x ∷ xs) = ap (λ more. map g (f x) ++ more) (mapped f g xs) ∙ sym (map-append g (f x) (flat_map f xs))

-- the requests of all series are those of an export
pub export_texts : (L : List Request) → listed_texts listed.Requests L ≡ texts_of (export_of L)
export_texts L =
    mapped (series_requests L) request_text (agreements_by_name L)
    ∙ ap texts_of (flat_map-map (series_requests L) (λ (e : List ℕ × Agreement). e.1) (entries (by_name (agreements_of L))))

-- the texts of a list are its text
listed_whole : (what : Listed) (L : List Request) → flat_map (λ text. text) (listed_texts what L) ≡ listed_text what L
listed_whole listed.Agreements L = singles (λ a. request_text (Agree a)) (agreements_by_name L) ∙ sym (agree_texts (agreements_by_name L))
listed_whole listed.Gaps L = singles (report_text L) (agreements_by_name L)
listed_whole listed.Requests L =
    ap (flat_map (λ text. text)) (export_texts L) ∙ flat_map-map (λ text. text) request_text (export_of L) ∙ sym (batch_texts (export_of L))

-- what takes a text by appending it appends all of them
all_appended : {T : Type 0} (contents : T → Option (List ℕ)) (from to : T) (texts : List (List ℕ)) → TakesAll (λ old new text. Appends (contents old) (contents new) text) from to texts
    → Appends (contents from) (contents to) (flat_map (λ text. text) texts)
all_appended contents from to [] none = subst (λ x. Appends (contents from) (contents x) []) (sym none) (Appends-nil (contents from))
all_appended contents from to (t ∷ ts) (mid, one, rest) =
    Appends-trans (contents from) (contents mid) (contents to) t (flat_map (λ text. text) ts) one (all_appended contents mid to ts rest)

-- what takes some of them appends a first part
some_appended : {T : Type 0} (contents : T → Option (List ℕ)) (from to : T) (texts : List (List ℕ))
    → TakesSome (λ old new text. Appends (contents old) (contents new) text) (λ old new text. AppendsFront (contents old) (contents new) text) from to texts
    → AppendsFront (contents from) (contents to) (flat_map (λ text. text) texts)
some_appended contents from to [] none = ([], [], refl, subst (λ x. Appends (contents from) (contents x) []) (sym none) (Appends-nil (contents from)))
some_appended contents from to (t ∷ ts) (inl none) = ([], flat_map (λ text. text) (t ∷ ts), refl, subst (λ x. Appends (contents from) (contents x) []) (sym none) (Appends-nil (contents from)))
some_appended contents from to (t ∷ ts) (inr (inl (part, rest, is, one))) =
    (part, rest ++ flat_map (λ text. text) ts, sym (append_assoc part rest (flat_map (λ text. text) ts)) ∙ ap (λ text. text ++ flat_map (λ text. text) ts) is, one)
some_appended contents from to (t ∷ ts) (inr (inr (mid, one, more))) =
    let behind = some_appended contents mid to ts more in (
      t ++ behind.0,
      behind.1,
      append_assoc t behind.0 behind.1 ∙ ap (λ text. t ++ text) behind.2,
      Appends-trans (contents from) (contents mid) (contents to) t behind.0 one behind.3,
    )

-- so the text of a list is appended, or a first part
pub listed_appended : {A F T : Type 0} (contents : T → Option (List ℕ)) (from to : T) (r : Result A F) (what : Listed) (L : List Request)
    → Takes (λ old new text. Appends (contents old) (contents new) text) (λ old new text. AppendsFront (contents old) (contents new) text) from to (listed_texts what L) r
    → OnOk r (Appends (contents from) (contents to) (listed_text what L)) × OnErr r (AppendsFront (contents from) (contents to) (listed_text what L))
listed_appended contents from to (Ok a) what L taken = (subst (Appends (contents from) (contents to)) (listed_whole what L) (all_appended contents from to (listed_texts what L) taken), tt)
listed_appended contents from to (Err e) what L taken = (tt, subst (AppendsFront (contents from) (contents to)) (listed_whole what L) (some_appended contents from to (listed_texts what L) taken))
