-- The reply to each refusal.
use Rattle.std.specs.Prelude.{Some}
use Rattle.http_requests.specs.declared.refusal.Refusal.{Refusal}
use Rattle.http_requests.specs.declared.refusal.Refusal.TheVariants.{BadHead, BadLength, BadQuery, HeadTooLarge, LengthRequired, MethodNotAllowed, NotFound, NotUtf8, ShortBody, TargetTooLong, TooLarge, TransferEncoding, UnknownSeries}
use Rattle.desk_http.specs.Reply.{Reply, refusal}
use Rattle.desk_http.specs.Routing.{method_name}

-- the reply to a refusal: its status and its reason
abbrev pub reply_of_refusal : Refusal → Reply
reply_of_refusal TargetTooLong = refusal 414 "target-too-long"
reply_of_refusal HeadTooLarge = refusal 431 "head-too-large"
reply_of_refusal BadHead = refusal 400 "bad-head"
reply_of_refusal TransferEncoding = refusal 501 "transfer-encoding"
reply_of_refusal NotFound = refusal 404 "not-found"
reply_of_refusal (MethodNotAllowed method) =
    record (refusal 405 "method-not-allowed") { allow = Some (method_name method) }
reply_of_refusal LengthRequired = refusal 411 "length-required"
reply_of_refusal BadLength = refusal 400 "bad-length"
reply_of_refusal TooLarge = refusal 413 "too-large"
reply_of_refusal ShortBody = refusal 400 "short-body"
reply_of_refusal NotUtf8 = refusal 400 "not-utf8"
reply_of_refusal BadQuery = refusal 400 "bad-query"
reply_of_refusal UnknownSeries = refusal 404 "unknown-series"
