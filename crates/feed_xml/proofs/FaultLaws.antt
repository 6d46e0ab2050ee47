-- What a fault tells of a window it tells of the text, and what it tells of a text of all bytes.
use Rattle.std.proofs.Common.{◌≡◌, ◌∙◌, ℕ, Bool, List, ◌++◌, Option, Some, None, Result, Ok, Err, ap, fold, refl, sym, take, drop}
use Rattle.std.specs.Prelude.{IfErr, IfSome, IsErrOf, OnErr, option_map}
use Rattle.std.proofs.lemmas.List.Sums.{fold-append}
use Rattle.feed_xml.specs.declared.encodings.Encoding.{Encoding}
use Rattle.feed_xml.specs.declared.fault.Fault.{Fault}
use Rattle.feed_xml.specs.declared.fault.Fault.TheVariants.{Malformed, NotText, TooDeep, TooLong, LargeTag, Refused, UnknownEncoding, Read, Memory}
use Rattle.feed_xml.specs.declared.place.Place.{Place}
use Rattle.feed_xml.specs.declared.texts.Part.{Part}
use Rattle.feed_xml.specs.Documents.{IsNoDocument, IsNoText}
use Rattle.feed_xml.specs.EncodingNames.{IsOfUnknown, OfText, encoding_at, encoding_name}
use Rattle.feed_xml.specs.Encodings.{decoded}
use Rattle.feed_xml.specs.Faults.{IsOfEnd, IsOfPlace, IsOfReading, Tells}
use Rattle.feed_xml.specs.Grammar.{Token}
use Rattle.feed_xml.specs.private.Bounds.{BeginsAt, IsDeepAt, IsLargeAt, IsLargeTag, IsLongAt, MeetsFrom, OpensOneMore}
use Rattle.feed_xml.specs.private.Faults.{IsUnknown, TellsText, TellsWindow}
use Rattle.feed_xml.specs.private.Places.{IsNeverComplete, first_place, section_of, steps}
use Rattle.feed_xml.specs.private.Windows.{Advances}
use Rattle.feed_xml.specs.Pieces.{Begins}
use Rattle.feed_xml.proofs.DocumentLaws.{misplaced}
use Rattle.feed_xml.proofs.LimitLaws.{begins_lasts, deep_lasts, large_lasts, piece_follows}
use Rattle.feed_xml.proofs.MeetLaws.{begins_text, deep_text, large_text, long_text, of_all}
use Rattle.feed_xml.proofs.ReadingLaws.{State, goes_beyond, none_follows}
use Rattle.feed_xml.proofs.TreeLaws.{never_document}

-- what holds of the two faults of reading holds of each that is one of them
pub by_reading : (P : Fault → Type 0) → P Read → P Memory → (fault : Fault) → IsOfReading fault → P fault
by_reading P read memory Malformed h = absurd h
by_reading P read memory NotText h = absurd h
by_reading P read memory TooDeep h = absurd h
by_reading P read memory TooLong h = absurd h
by_reading P read memory LargeTag h = absurd h
by_reading P read memory Refused h = absurd h
by_reading P read memory (UnknownEncoding name) h = absurd h
by_reading P read memory Read h = read
by_reading P read memory Memory h = memory

-- a fault of the end is one of two
pub end_tells : {A : Type 0} (P : Fault → Type 0) {W G : Type 0} (r : Result A Fault) → IfErr r IsOfEnd → OnErr r W → (IsErrOf r NotText → G) → (W → P Malformed) → (G → P NotText) → IfErr r P
end_tells P (Ok a) of w g cut half = tt
end_tells P (Err Malformed) of w g cut half = cut w
end_tells P (Err NotText) of w g cut half = half (g refl)
end_tells P (Err TooDeep) of w g cut half = absurd of
end_tells P (Err TooLong) of w g cut half = absurd of
end_tells P (Err LargeTag) of w g cut half = absurd of
end_tells P (Err Refused) of w g cut half = absurd of
end_tells P (Err (UnknownEncoding name)) of w g cut half = absurd of
end_tells P (Err Read) of w g cut half = absurd of
end_tells P (Err Memory) of w g cut half = absurd of

-- what tokens that may not stand tell
pub place_tells : {S : Type 0} (after : S → Token → S) (goes_on : S → Bool) (window rest next : List ℕ) (tokens others : List Token) (from place : Place) (old new : S) (fault : Fault) → Advances window tokens rest from place
    → Begins (section_of place.tail) rest others next → IsOfPlace fault → (fault ≡ Malformed → steps place others ≡ None) → (fault ≡ TooDeep → OpensOneMore place others) → (fault ≡ LargeTag → IsLargeTag others)
    → TellsWindow after goes_on from window old new fault
place_tells after goes_on window rest next tokens others from place old new Malformed leads begins of malformed deep large = misplaced window rest next tokens others from place leads begins (malformed refl)
place_tells after goes_on window rest next tokens others from place old new TooDeep leads begins of malformed deep large =
    let d = deep refl in
    (tokens, record { rest = rest; place = place; leads = leads; meets = (d.0, d.1, piece_follows (section_of place.tail) rest next others d.0 begins d.2, d.3) })
place_tells after goes_on window rest next tokens others from place old new LargeTag leads begins of malformed deep large =
    let l = large refl in
    (tokens, record { rest = rest; place = place; leads = leads; meets = (l.0, piece_follows (section_of place.tail) rest next others l.0 begins l.1, l.2) })
place_tells after goes_on window rest next tokens others from place old new Memory leads begins of malformed deep large = tt
place_tells after goes_on window rest next tokens others from place old new Read leads begins of malformed deep large = absurd of
place_tells after goes_on window rest next tokens others from place old new NotText leads begins of malformed deep large = absurd of
place_tells after goes_on window rest next tokens others from place old new TooLong leads begins of malformed deep large = absurd of
place_tells after goes_on window rest next tokens others from place old new Refused leads begins of malformed deep large = absurd of
place_tells after goes_on window rest next tokens others from place old new (UnknownEncoding name) leads begins of malformed deep large = absurd of

pub window_tells : {S : Type 0} (after : S → Token → S) (goes_on : S → Bool) (told left : Option (List ℕ)) (window shown : List ℕ) (tokens : List Token) (place : Place) (part : Option Part) (old mid new : S) (fault : Fault)
    → State told left window tokens place part → shown ≡ window → mid ≡ fold after old tokens → TellsWindow after goes_on place shown mid new fault → TellsText after goes_on told old new fault
window_tells after goes_on told left window shown tokens place part old mid new Malformed s same sunk w = none_follows told left window shown tokens place part s same w
window_tells after goes_on told left window shown tokens place part old mid new TooDeep s same sunk w =
    (tokens ++ w.0, goes_beyond IsDeepAt told left window shown tokens place part deep_lasts w.0 s same w.1)
window_tells after goes_on told left window shown tokens place part old mid new LargeTag s same sunk w =
    (tokens ++ w.0, goes_beyond IsLargeAt told left window shown tokens place part large_lasts w.0 s same w.1)
window_tells after goes_on told left window shown tokens place part old mid new Refused s same sunk w =
    let t = w.1 in (
      w.0,
      (tokens ++ t.0, goes_beyond (λ p rest. Unit {0}) told left window shown tokens place part begins_lasts t.0 s same t.1, t.2 ∙ ap (λ s. fold after s t.0) sunk ∙ sym (fold-append after old tokens t.0)),
    )
window_tells after goes_on told left window shown tokens place part old mid new NotText s same sunk w = absurd w
window_tells after goes_on told left window shown tokens place part old mid new TooLong s same sunk w = absurd w
window_tells after goes_on told left window shown tokens place part old mid new (UnknownEncoding name) s same sunk w = absurd w
window_tells after goes_on told left window shown tokens place part old mid new Read s same sunk w = absurd w
window_tells after goes_on told left window shown tokens place part old mid new Memory s same sunk w = tt

pub text_tells : {S : Type 0} (after : S → Token → S) (goes_on : S → Bool) (told bytes : Option (List ℕ)) (old new : S) → ((P : List ℕ → Type 0) → IfSome told P → OfText P bytes)
    → (fault : Fault) → TellsText after goes_on told old new fault → Tells after bytes old new goes_on fault
text_tells after goes_on told bytes old new all Malformed h = of_all IsNeverComplete IsNoDocument bytes never_document (all IsNeverComplete h)
text_tells after goes_on told bytes old new all NotText h = all IsNoText h
text_tells after goes_on told bytes old new all TooDeep w = (w.0, deep_text w.0 bytes (all (MeetsFrom IsDeepAt first_place w.0) w.1))
text_tells after goes_on told bytes old new all TooLong w = (w.0, long_text w.0 bytes (all (MeetsFrom IsLongAt first_place w.0) w.1))
text_tells after goes_on told bytes old new all LargeTag w = (w.0, large_text w.0 bytes (all (MeetsFrom IsLargeAt first_place w.0) w.1))
text_tells after goes_on told bytes old new all Refused h = let w = h.1 in (h.0, (w.0, begins_text w.0 bytes (all (BeginsAt first_place w.0) w.1), w.2))
text_tells after goes_on told bytes old new all (UnknownEncoding name) w = absurd w
text_tells after goes_on told bytes old new all Read w = tt
text_tells after goes_on told bytes old new all Memory w = tt

-- an encoding that is none that is known
unknown_told : (bytes : Option (List ℕ)) (head name : List ℕ) → IfSome bytes (λ b. take 1024 b ≡ take 1024 head) → encoding_at (take 1024 head) ≡ None → encoding_name (take 1024 head) ≡ Some name
    → IfSome bytes (IsOfUnknown name)
unknown_told None head name same none named = tt
unknown_told (Some b) head name same none named = (
  ap (λ (l : List ℕ). option_map (λ (f : Encoding × ℕ). decoded f.0 (drop f.1 b)) (encoding_at l)) same ∙ ap (option_map (λ (f : Encoding × ℕ). decoded f.0 (drop f.1 b))) none,
  ap encoding_name same ∙ named,
)

pub unknown_tells : {S : Type 0} (after : S → Token → S) (goes_on : S → Bool) (bytes : Option (List ℕ)) (old : S) (head : List ℕ) → IfSome bytes (λ b. take 1024 b ≡ take 1024 head) → encoding_at (take 1024 head) ≡ None
    → (fault : Fault) → IsUnknown (take 1024 head) fault → Tells after bytes old old goes_on fault
unknown_tells after goes_on bytes old head same none (UnknownEncoding name) h = unknown_told bytes head name same none h
unknown_tells after goes_on bytes old head same none Memory h = tt
unknown_tells after goes_on bytes old head same none Read h = tt
unknown_tells after goes_on bytes old head same none Malformed h = absurd h
unknown_tells after goes_on bytes old head same none NotText h = absurd h
unknown_tells after goes_on bytes old head same none TooDeep h = absurd h
unknown_tells after goes_on bytes old head same none TooLong h = absurd h
unknown_tells after goes_on bytes old head same none LargeTag h = absurd h
unknown_tells after goes_on bytes old head same none Refused h = absurd h
