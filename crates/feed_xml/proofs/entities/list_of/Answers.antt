use Rattle.std.proofs.Common.{◌≡◌, List, [], Bor, slice_index_or}
use Rattle.std.specs.Prelude.{map}
use Rattle.std.proofs.lemmas.List.{get_or-map, get_or_past, length-map}
use Rattle.feed_xml.specs.HtmlNames.{list_of}
use Rattle.feed_xml.proofs.entities.list_of.Goals as goal

-- src/entities.rt:13:1
pub returns-in-Some : goal.returns-in-Some
unfolding list_of
returns-in-Some c =
    let place = c.saturating_sub.ensures in
    let found = c.in-Some.ensures.lookup in
    let lists : List (Bor (List _)) = c.args.lists.now in
    let list : Bor (List _) = c.in-Some.list.now in
    let read : slice_index_or (map (λ l. l.now) lists) c.saturating_sub.result [] ≡ (slice_index_or lists c.saturating_sub.result list).now = get_or-map (λ l. l.now) lists c.saturating_sub.result list [] found.3.0 in
    let same : list ≡ slice_index_or lists c.saturating_sub.result list = found.1 in
    cc

-- src/entities.rt:13:1
pub returns-in-None : goal.returns-in-None
unfolding list_of
returns-in-None c =
    let place = c.saturating_sub.ensures in
    let past = get_or_past (map (λ l. l.now) c.args.lists.now) c.saturating_sub.result [] (rw (length-map c.args.lists.now (λ l. l.now)) c.in-None.ensures.lookup.3) in
    cc
