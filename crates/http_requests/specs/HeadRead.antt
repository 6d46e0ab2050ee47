-- What was read of a head.
use Rattle.std.specs.Prelude.{ℕ, List, take}
use Rattle.httparse.specs.Grammar.{RequestHead}
use Rattle.httparse.specs.Spans.{IsRequestAt}
use Rattle.http_requests.specs.declared.parts.Head.{Head}

-- the bytes that were read
abbrev pub head_text : Head → List ℕ
head_text head = take head.filled head.bytes.items

-- what was read is this head, and maybe more bytes
abbrev pub IsHeadOf : Head → RequestHead → Type 0
IsHeadOf head h = IsRequestAt (head_text head) head.spans.items head.parts h
