-- What is known of an input whose first bytes have no head.
use Rattle.std.proofs.Common.{◌≡◌, ℕ, ◌<◌, ◌≤◌, true, List, ◌++◌, length, arith}
use Rattle.http_requests.specs.declared.refusal.Refusal.TheVariants.{BadHead}
use Rattle.http_requests.specs.Head.{HasNoHead, IsNeverHead, IsRefused, head_limit, has_empty_line, skip_line_ends, refusal_of_full}
use Rattle.http_requests.proofs.HeadLemmas.{never_when_full}
use Rattle.http_requests.proofs.EmptyLineLemmas.{refusal_short, refusal_decided, refusal_full}

pub refused_short : (bytes : List ℕ) → length bytes < head_limit → HasNoHead bytes → IsRefused bytes BadHead
refused_short bytes short none = record { none = none; why_is = refusal_short bytes short }

pub refused_decided : (bytes more : List ℕ) → length bytes ≤ head_limit → IsNeverHead bytes
    → has_empty_line (skip_line_ends bytes) ≡ true → IsRefused (bytes ++ more) BadHead
refused_decided bytes more fits never ended = record { none = never more; why_is = refusal_decided bytes more fits ended }

pub refused_full : (bytes more : List ℕ) → length bytes ≡ head_limit → HasNoHead bytes
    → IsRefused (bytes ++ more) (refusal_of_full (skip_line_ends bytes))
refused_full bytes more full none =
    record { none = never_when_full bytes (omega arith) none more; why_is = refusal_full bytes more full }
