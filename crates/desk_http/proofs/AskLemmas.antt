-- What an input asks for, by the bytes that were read and those that follow.
use Rattle.std.proofs.Common.{◌++◌, ◌≤◌, ◌-◌, ℕ, List, [], ◌∷◌, inl, inr, Option, Some, None, Result, Ok, Err, sym, ap, subst, arith, length, length-append}
use Rattle.std.specs.Prelude.{IfSome}
use Rattle.std.specs.Io.KnownBytes.{Consumes}
use Rattle.std.proofs.KnownBytes.{Consumes-trans}
use Rattle.csv_records.specs.Streams.{TakesAtMost}
use Rattle.httparse.specs.Grammar.{RequestHead, ReadsRequest, print_request}
use Rattle.httparse.proofs.GrammarLemmas.{ReadsRequest-append}
use Rattle.series_rules.specs.declared.requests.Request.{Request}
use Rattle.http_requests.specs.declared.fault.InputFault.{InputFault}
use Rattle.http_requests.specs.declared.fault.InputFault.TheVariants as fault
use Rattle.http_requests.specs.declared.parts.Head.{Head}
use Rattle.http_requests.specs.declared.refusal.Refusal.{Refusal}
use Rattle.desk_http.specs.declared.exchange.Wanted.{Wanted}
use Rattle.desk_http.specs.declared.exchange.Wanted.TheVariants.{Refused}
use Rattle.desk_http.specs.Asks.{AsksFor, IfDecided, asks_of, most_behind, wanted_by, without_head}
use Rattle.desk_http.proofs.PathLemmas.{asks_by}
use Rattle.desk_http.specs.Serves.{AreWanted, TakesWanted}
use Rattle.http_requests.specs.Head.{HasHead, IsRefused}
use Rattle.http_requests.specs.Steps.{Gives, IfRefused}
use Rattle.http_requests.proofs.KnownLemmas.{IfSome-all, IfSome-map}

-- what holds of the bytes that follow says what holds of the input
pub known_then : (P Q : List ℕ → Type 0) (a b : Option (List ℕ)) (bytes : List ℕ) → Consumes a b bytes
    → ((more : List ℕ) → Q more → P (bytes ++ more)) → IfSome b Q → IfSome a P
known_then P Q None b bytes p each q = tt
known_then P Q (Some x) None bytes p each q = absurd p
known_then P Q (Some x) (Some y) bytes p each q = subst P (sym p) (each y q)

-- a head within the limit stays the head whatever bytes follow
pub head_of_more : (text more rest : List ℕ) (h : RequestHead) → ReadsRequest text h rest → length text ≤ 16384 → HasHead (text ++ more) h (rest ++ more)
head_of_more text more rest h reads fits = record {
  reads = ReadsRequest-append text h rest more reads;
  fits = omega (arith, ap length reads.1, length-append (print_request h) rest);
}

pub told : (r : Result Request InputFault) (asked : Result Request Refusal) (P : Wanted → Type 0)
    → Gives r asked → P (wanted_by asked) → IfDecided r P
told (Ok x) asked P is p = subst (λ a. P (wanted_by a)) is p
told (Err (fault.Refused why)) asked P is p = subst (λ a. P (wanted_by a)) is p
told (Err fault.Read) asked P is p = tt
told (Err fault.Memory) asked P is p = tt

-- what was made of a head and the bytes behind it was asked for
pub asked_for : (r : Result Request InputFault) (text behind more : List ℕ) (h : RequestHead) → ReadsRequest text h behind → length text ≤ 16384
    → Gives r (asks_of h (behind ++ more)) → IfDecided r (AsksFor (text ++ more))
asked_for r text behind more h reads fits gives =
    told r (asks_of h (behind ++ more)) (AsksFor (text ++ more)) gives (asks_by (text ++ more) (behind ++ more) h (head_of_more text more behind h reads fits))

-- where there is no head, an input asks for what it is refused with
pub refused_at_head : (f : InputFault) (known : Option (List ℕ))
    → IfRefused {A = Head} (Err f) (λ why. IfSome known (λ input. IsRefused input why)) → IfSome known (λ input. IfDecided (Err f) (AsksFor input))
refused_at_head (fault.Refused why) known is =
    IfSome-map known (λ input. IsRefused input why) (λ input. AsksFor input (Refused why)) (λ input none. without_head none) is
refused_at_head fault.Read known is = IfSome-all known _ (λ input. tt)
refused_at_head fault.Memory known is = IfSome-all known _ (λ input. tt)

-- a head was read, and behind it no more than is looked at
wanted_with : (text behind taken : List ℕ) (h : RequestHead) → ReadsRequest text h behind → length text ≤ 16384 → length taken ≤ most_behind h - length behind → AreWanted (text ++ taken)
wanted_with text behind [] h reads fits few = inl (omega (arith, fits, length-append text []))
wanted_with text behind (b ∷ bytes) h reads fits few =
    inr (h, behind ++ b ∷ bytes, head_of_more text (b ∷ bytes) behind h reads fits, omega (arith, few, length-append behind (b ∷ bytes)))

pub takes_behind : (a b c : Option (List ℕ)) (text behind : List ℕ) (h : RequestHead) → ReadsRequest text h behind → length text ≤ 16384 → Consumes a b text
    → TakesAtMost (most_behind h - length behind) b c → TakesWanted a c
takes_behind a b c text behind h reads fits head (taken, more, few) =
    (text ++ taken, Consumes-trans a b c text taken head more, wanted_with text behind taken h reads fits few)
