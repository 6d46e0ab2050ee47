-- What an error of the parser says of every input that begins with these bytes.
use Rattle.http_requests.proofs.HeadLemmas.{never_head, never_now}
use Rattle.http_requests.proofs.head.judge.Goals as goal

pub returns-then-has_empty_line-clause-never : goal.returns-then-has_empty_line-clause-never
returns-then-has_empty_line-clause-never c =
    never_head c.args.bytes.now _ c.requires c.in-Err.ensures.no_room

pub returns-else-has_empty_line-clause-more : goal.returns-else-has_empty_line-clause-more
returns-else-has_empty_line-clause-more c =
    never_now c.args.bytes.now (never_head c.args.bytes.now _ c.requires c.in-Err.ensures.no_room)
