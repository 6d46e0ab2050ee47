-- A reply over HTTP/1.1, and its text.
use Prim.Native.String.{String}
use Rattle.std.specs.Prelude.{ℕ, ◌==◌, if◌then◌else◌, List, [], ◌∷◌, ◌++◌, length, Option, Some, None, codes, decimal}
use Rattle.serde_json.specs.Data.{Data}
use Rattle.serde_json.specs.Written.{compact_text}
use Rattle.desk_http.specs.Json.{refused}

-- a status, the method that the path takes where another was asked, and the body, which is JSON
pub record Reply : Type 0 where
  pub status : ℕ
  pub allow : Option (List ℕ)
  pub body : List ℕ

-- CR LF, the end of a line
abbrev pub line_end : List ℕ
line_end = 13 ∷ 10 ∷ []

-- the statuses of replies, each with its reason phrase
abbrev pub phrases : List (ℕ × String)
phrases =
    (200, "OK") ∷ (202, "Accepted") ∷ (400, "Bad Request") ∷ (404, "Not Found")
    ∷ (405, "Method Not Allowed") ∷ (409, "Conflict") ∷ (411, "Length Required")
    ∷ (413, "Content Too Large") ∷ (414, "URI Too Long") ∷ (422, "Unprocessable Content")
    ∷ (431, "Request Header Fields Too Large") ∷ (501, "Not Implemented")
    ∷ (503, "Service Unavailable") ∷ []

-- the reason phrase of a status, if it is one of these
abbrev pub phrase_in : List (ℕ × String) → ℕ → List ℕ
phrase_in [] status = []
phrase_in ((known, phrase) ∷ more) status =
    if status == known then codes phrase else phrase_in more status

-- the Allow line, where a reply has one
abbrev pub allow_line : Option (List ℕ) → List ℕ
allow_line None = []
allow_line (Some method) = codes "Allow: " ++ method ++ line_end

-- the head of a reply: the status line, the header fields and an empty line
unfoldable pub head_text : Reply → List ℕ
head_text r =
    codes "HTTP/1.1 " ++ decimal r.status ++ codes " " ++ phrase_in phrases r.status ++ line_end
    ++ allow_line r.allow
    ++ codes "Content-Type: application/json" ++ line_end
    ++ codes "Content-Length: " ++ decimal (length r.body) ++ line_end
    ++ codes "Connection: close" ++ line_end
    ++ line_end

-- the text of a reply: its head and its body
abbrev pub reply_text : Reply → List ℕ
reply_text r = head_text r ++ r.body

-- the reply of that status with this JSON, without spaces
abbrev pub reply_of : ℕ → Data → Reply
reply_of status json = record { status = status; allow = None; body = compact_text json }

-- a request is refused with that status, for that reason
abbrev pub refusal : ℕ → String → Reply
refusal status reason = reply_of status (refused reason [])
