-- An input asks for one thing, and none for nothing.
use Rattle.std.proofs.Common.{◌≡◌, ℕ, List, sym, ap, ◌∙◌, refl}
use Rattle.httparse.proofs.GrammarLemmas.{request_unique}
use Rattle.desk_http.specs.declared.exchange.Wanted.{Wanted}
use Rattle.desk_http.specs.declared.exchange.Wanted.TheVariants.{Refused}
use Rattle.desk_http.specs.Asks.{AsksFor, asks_of, wanted_by, without_head, with_head}
use Rattle.http_requests.specs.Head.{refusal_of}
use Rattle.desk_http.proofs.PathLemmas.{asked_same, asks_by}

pub asks_once : (input : List ℕ) (a b : Wanted) → AsksFor input a → AsksFor input b → a ≡ b
asks_once input a b (without_head p) (without_head q) = ap (λ why. Refused why) (sym p.why_is ∙ q.why_is)
asks_once input a b (without_head p) (with_head {rest = s} {h = k} y g q to) = absurd (p.none k s q)
asks_once input a b (with_head {rest = r} {h = h} x f p to) (without_head q) = absurd (q.none h r p)
asks_once input a b (with_head {rest = r} {h = h} x f p to) (with_head {rest = s} {h = k} y g q at) =
    let same = request_unique input h k r s p.reads q.reads in
    let asks : asks_of h r ≡ asks_of k s = rw (same.0, same.1) refl in
    ap wanted_by (asked_same h r f x to ∙ asks ∙ sym (asked_same k s g y at))

pub asks_something : (input : List ℕ) → ¬ ((wanted : Wanted) → ¬ (AsksFor input wanted))
asks_something input nothing =
    nothing (Refused (refusal_of input)) (without_head (record { none = λ h rest has. nothing (wanted_by (asks_of h rest)) (asks_by input rest h has); why_is = refl }))
