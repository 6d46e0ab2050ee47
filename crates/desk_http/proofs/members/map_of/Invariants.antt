use Rattle.std.proofs.Common.{◌≡◌, drop}
use Rattle.serde_json.specs.Data.{no_members}
use Rattle.serde_json.specs.View.{members_view}
use Rattle.desk_http.specs.private.Members.{put_all}
use Rattle.desk_http.proofs.members.map_of.Given as goal

-- with what is left put too, it is what all of them make
abbrev pub invariant-loop-member : goal.invariant-loop-member
invariant-loop-member l = put_all (drop l.member-index l.members) (members_view l.map.entries) ≡ put_all l.members no_members
