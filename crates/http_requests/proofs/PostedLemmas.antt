-- The body among the bytes behind a head.
use Rattle.std.proofs.Common.{◌≡◌, ◌<◌, ◌≤◌, ℕ, List, refl, sym, ap, arith, length, take, length-take, Ok, Err}
use Rattle.std.proofs.lemmas.Bool.{le-ltb, lt-ltb, false_from_ne_true}
use Rattle.std.proofs.lemmas.Str.{IsUtf8-from_is_utf8, is_utf8-from_IsUtf8}
use Rattle.std.specs.Prelude.{IsUtf8}
use Rattle.std.specs.Str.{is_utf8}
use Rattle.csv_records.specs.RecordTexts.{records_of}
use Rattle.http_requests.specs.declared.refusal.Refusal.TheVariants as refusal
use Rattle.http_requests.specs.Posted.{body_of, records_in}

-- a front of so many bytes is the body
pub body_there : (size : ℕ) (rest body : List ℕ) → body ≡ take size rest → size ≤ length body → body_of size rest ≡ Ok body
body_there size rest body is long =
    let enough : size ≤ length rest = omega (arith, long, ap length is, length-take size rest) in
    rw (le-ltb (length rest) size enough, is) refl

-- too few bytes make no body
pub body_short : (size : ℕ) (rest body : List ℕ) → body ≡ take size rest → length body < size → body_of size rest ≡ Err refusal.ShortBody
body_short size rest body is short =
    let few : length rest < size = omega (arith, short, ap length is, length-take size rest) in
    rw (lt-ltb (length rest) size few) refl

pub records_there : (body : List ℕ) (rows : List (List (List ℕ))) → IsUtf8 body → rows ≡ records_of body → records_in body ≡ Ok rows
unfolding records_in
records_there body rows text are = rw (is_utf8-from_IsUtf8 body text) (ap (λ r. Ok r) (sym are))

pub records_absent : (body : List ℕ) → ¬ (IsUtf8 body) → records_in body ≡ Err refusal.NotUtf8
unfolding records_in
records_absent body none = rw (false_from_ne_true (is_utf8 body) (λ e. none (IsUtf8-from_is_utf8 body e))) refl
