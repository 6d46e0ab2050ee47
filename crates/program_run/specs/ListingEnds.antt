-- How a command ends that lists what a desk in files holds.
use Rattle.std.specs.Prelude.{◌≡◌, ◌⊎◌, ℕ, List}
use Rattle.series_rules.specs.Views.{DeskKind, View}
use Rattle.series_rules.specs.declared.requests.Request.{Request}
use Rattle.desk_export.specs.Asking.{IsAsked}
use Rattle.desk_export.specs.Exports.{export_of}
use Rattle.desk_export.specs.ListTexts.{agreements_text, reports_text}
use Rattle.desk_export.specs.RequestTexts.{batch_text}
use Rattle.program_clients.specs.Printing.{PrintEnds}
use Rattle.program_words.specs.declared.invocation.Listing.{Listing}
use Rattle.program_words.specs.declared.invocation.Listing.TheVariants.{Agreements, Export, Gaps}

-- the text of what is listed after a list of requests
abbrev pub listing_text : Listing → List Request → List ℕ
listing_text Agreements L = agreements_text L
listing_text Gaps L = reports_text L
listing_text Export L = batch_text (export_of L)

-- The command ended over a desk that was only asked: with 0 that text was written, after each list
-- for which the desk stood, with 3 a first part of it, and no other status is given. Written: these
-- bytes were written
abbrev pub ListingEnds : {k : DeskKind} → (List ℕ → Type 0) → Listing → View k → View k → ℕ
    → Type 0
ListingEnds written listing old new status =
    IsAsked old new (λ L. PrintEnds 0 written (listing_text listing L) status)
    × ((status ≡ 0) ⊎ (status ≡ 3))
